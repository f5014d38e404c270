-- A tree that is filled has the shape of the one that it was before.
use Rattle.std.proofs.Common.{◌≡◌, ℕ, ℤ, List, [], ◌∷◌, map, Bool, true, false, ◌&&◌, ◌||◌, Option, Some, None, Ok, IsTrue, refl, ap, ◌∙◌, rules}
use Rattle.std.specs.Prelude.{is_some}
use Rattle.std.specs.Bool.{beq}
use Rattle.std.specs.Ordering.{int_eq}
use Rattle.std.specs.List.{AllByRecursion}
use Rattle.std.specs.Str.{bytes_eq}
use Rattle.std.proofs.lemmas.Bool.{and_from}
use Rattle.std.proofs.lemmas.Bool.Decides.{Decides-int_eq}
use Rattle.std.proofs.lemmas.Slice.Eq.{bytes_eq-Decides}
use Rattle.es_tree.specs.declared.tree.Tree.{Tree, the_lemmas}
use Rattle.es_tree.specs.declared.tree.Tree as tree
use Rattle.es_tree.specs.declared.tree.Named.{Named}
use Rattle.es_tree.specs.declared.person.Person.{Person}
use Rattle.es_tree.specs.Nulls.{is_null}
use Rattle.es_tree.specs.declared.tree.Tree.{out-Tree}
use Rattle.es_tree.proofs.Induction.{for_trees, with_value, fold-Null, fold-Bool, fold-Int, fold-Text, fold-List, fold-Object}
use Rattle.es_template.specs.declared.kinds.Property.{Property}
use Rattle.es_template.specs.declared.kinds.Template.{Template}
use Rattle.es_template.specs.Tags.{hole_of}
use Rattle.es_template.specs.Sources.{template_form}
use Rattle.es_template.specs.Filling.{value_or_text, replaced, filled, fill}
use Rattle.es_template.specs.Laws.{is_truth, is_number, is_text, are_shaped, members_shaped, is_list_of, is_object_of, shape_step, has_shape_of}
use Rattle.es_template.proofs.Substituting.{fill_Null, fill_Bool, fill_Int, fill_Text, fill_List, fill_Object, filled_in_tree}

abbrev Test : Type 0
Test = Tree → Bool

shape_Null : (u : Tree) → has_shape_of tree.Null u ≡ is_null u
unfolding has_shape_of
shape_Null u = ap (λ (f : Test). f u) (fold-Null Test shape_step)

shape_Bool : (b : Bool) (u : Tree) → has_shape_of (tree.Bool b) u ≡ is_truth b (out-Tree u)
unfolding has_shape_of
shape_Bool b u = ap (λ (f : Test). f u) (fold-Bool Test shape_step b)

shape_Int : (z : ℤ) (u : Tree) → has_shape_of (tree.Int z) u ≡ is_number z (out-Tree u)
unfolding has_shape_of
shape_Int z u = ap (λ (f : Test). f u) (fold-Int Test shape_step z)

shape_Text : (s : List ℕ) (u : Tree) → has_shape_of (tree.Text s) u ≡ (is_some (hole_of s) || is_text (out-Tree u))
unfolding has_shape_of
shape_Text s u = ap (λ (f : Test). f u) (fold-Text Test shape_step s)

shape_List : (ts : List Tree) (u : Tree) → has_shape_of (tree.List ts) u ≡ is_list_of (map has_shape_of ts) (out-Tree u)
unfolding has_shape_of
shape_List ts u = ap (λ (f : Test). f u) (fold-List Test shape_step ts)

shape_Object : (ms : List (Named Tree)) (u : Tree) → has_shape_of (tree.Object ms) u ≡ is_object_of (map (with_value has_shape_of) ms) (out-Tree u)
unfolding has_shape_of
shape_Object ms u = ap (λ (f : Test). f u) (fold-Object Test shape_step ms)

-- ---- what is tested

null_there : is_null tree.Null ≡ true
null_there = search (rules, the_lemmas)

truth_there : (b : Bool) → is_truth b (out-Tree (tree.Bool b)) ≡ beq b b
truth_there b = search (rules, the_lemmas)

number_there : (z : ℤ) → is_number z (out-Tree (tree.Int z)) ≡ int_eq z z
number_there z = search (rules, the_lemmas)

text_there : (s : List ℕ) → is_text (out-Tree (tree.Text s)) ≡ true
text_there s = search (rules, the_lemmas)

list_there : (tests : List Test) (us : List Tree) → is_list_of tests (out-Tree (tree.List us)) ≡ are_shaped tests us
list_there tests us = search (rules, the_lemmas)

object_there : (tests : List (Named Test)) (us : List (Named Tree)) → is_object_of tests (out-Tree (tree.Object us)) ≡ members_shaped tests us
object_there tests us = search (rules, the_lemmas)

same_truth : (b : Bool) → beq b b ≡ true
same_truth true = refl
same_truth false = refl

module _ (person : Person) where
  abbrev Kept : Tree → Type 0
  Kept t = has_shape_of t (fill person t) ≡ true

  null_kept : Kept tree.Null
  null_kept = ap (has_shape_of tree.Null) (fill_Null person) ∙ shape_Null tree.Null ∙ null_there

  bool_kept : (b : Bool) → Kept (tree.Bool b)
  bool_kept b = ap (has_shape_of (tree.Bool b)) (fill_Bool person b) ∙ shape_Bool b (tree.Bool b) ∙ truth_there b ∙ same_truth b

  int_kept : (z : ℤ) → Kept (tree.Int z)
  int_kept z = ap (has_shape_of (tree.Int z)) (fill_Int person z) ∙ shape_Int z (tree.Int z) ∙ number_there z ∙ (Decides-int_eq z z).1 refl

  text_by : (o : Option Property) (s : List ℕ) → (is_some o || is_text (out-Tree (value_or_text person o s))) ≡ true
  text_by (Some property) s = refl
  text_by None s = text_there (replaced person s)

  text_kept : (s : List ℕ) → Kept (tree.Text s)
  text_kept s = ap (has_shape_of (tree.Text s)) (fill_Text person s) ∙ shape_Text s (value_or_text person (hole_of s) s) ∙ text_by (hole_of s) s

  items_kept : (ts : List Tree) → AllByRecursion Kept ts → are_shaped (map has_shape_of ts) (map (fill person) ts) ≡ true
  items_kept [] all = refl
  items_kept (t ∷ ts) all = and_from (has_shape_of t (fill person t)) (are_shaped (map has_shape_of ts) (map (fill person) ts)) all.0 (items_kept ts all.1)

  members_kept : (ms : List (Named Tree)) → AllByRecursion (λ m. Kept m.value) ms → members_shaped (map (with_value has_shape_of) ms) (map (with_value (fill person)) ms) ≡ true
  members_kept [] all = refl
  members_kept (m ∷ ms) all =
      let later = members_shaped (map (with_value has_shape_of) ms) (map (with_value (fill person)) ms) in
      and_from (bytes_eq m.name m.name) (has_shape_of m.value (fill person m.value) && later) ((bytes_eq-Decides m.name m.name).1 refl)
      (and_from (has_shape_of m.value (fill person m.value)) later all.0 (members_kept ms all.1))

  list_kept : (ts : List Tree) → AllByRecursion Kept ts → Kept (tree.List ts)
  list_kept ts all = ap (has_shape_of (tree.List ts)) (fill_List person ts) ∙ shape_List ts (tree.List (map (fill person) ts)) ∙ list_there (map has_shape_of ts) (map (fill person) ts) ∙ items_kept ts all

  object_kept : (ms : List (Named Tree)) → AllByRecursion (λ m. Kept m.value) ms → Kept (tree.Object ms)
  object_kept ms all = ap (has_shape_of (tree.Object ms)) (fill_Object person ms) ∙ shape_Object ms (tree.Object (map (with_value (fill person)) ms)) ∙ object_there (map (with_value has_shape_of) ms) (map (with_value (fill person)) ms) ∙ members_kept ms all

  fill_kept : (t : Tree) → Kept t
  fill_kept = for_trees Kept null_kept bool_kept int_kept text_kept list_kept object_kept

  pub shape_kept : (t : Tree) (template : Template) → template_form t ≡ Ok template → IsTrue (has_shape_of t (filled person template))
  shape_kept t template e = ap (has_shape_of t) (filled_in_tree person t template e) ∙ fill_kept t
