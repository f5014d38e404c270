-- Filling a template is substitution in the tree that it was read from.
use Rattle.std.proofs.Common.{◌≡◌, ℕ, ◌+◌, ℤ, List, [], ◌∷◌, ◌++◌, map, Bool, Option, Some, None, option_map, option_and_then, decimal, Result, Ok, Err, refl, sym, ap, ◌∙◌, append-nil}
use Rattle.std.specs.List.{flat_map, AllByRecursion}
use Rattle.std.proofs.lemmas.Grind.{flat_map-append}
use Rattle.es_tree.specs.declared.tree.Tree.{Tree}
use Rattle.es_tree.specs.declared.tree.Tree as tree
use Rattle.es_tree.specs.declared.tree.Named.{Named}
use Rattle.es_tree.specs.declared.person.Person.{Person}
use Rattle.es_tree.proofs.Induction.{for_trees, with_value, fold-Null, fold-Bool, fold-Int, fold-Text, fold-List, fold-Object}
use Rattle.es_grammar.specs.Reading.{◌>>=◌, below, wanted}
use Rattle.es_grammar.specs.Printing.{named_tree}
use Rattle.es_grammar.specs.Values.{items_of}
use Rattle.es_template.specs.declared.kinds.Property.{Property}
use Rattle.es_template.specs.declared.kinds.Piece.{Piece}
use Rattle.es_template.specs.declared.kinds.Piece.TheVariants.{Tag}
use Rattle.es_template.specs.declared.kinds.Template.{Template}
use Rattle.es_template.specs.declared.kinds.Template as made
use Rattle.es_template.specs.Marks.{cut, parts}
use Rattle.es_template.specs.Tags.{opening, closing, named_in_tag, hole_of, text_pieces, tag_and_text, tag_pieces, all_tag_pieces, pieces_of_parts, pieces_of}
use Rattle.es_template.specs.Sources.{hole_or_text, text_template, members_form, member_reading, template_form}
use Rattle.es_template.specs.Filling.{value_of, tag_text, filled_piece, filled, value_and_rest, replaced_by, replaced_part, replaced_parts, replaced, value_or_text, fill_step, fill}
use Rattle.es_template.proofs.Cutting.{some_same, none_some}
use Rattle.es_template.proofs.MembersRead.{ok_same, err_ok, one_read, first_read}
use Rattle.es_template.proofs.Forms.{template_form_Null, template_form_Bool, template_form_Int, template_form_Text, template_form_List, template_form_Object}
use Rattle.es_template.proofs.Trees.{filled_Null, filled_Bool, filled_Int, filled_Text, filled_Hole, filled_List, filled_Object}

-- ---- what a reading in steps came from

pub record Then {A B : Type 0} (first : Result A (List ℕ)) (next : A → Result B (List ℕ)) (y : B) : Type 0 where
  pub value : A
  pub is : first ≡ Ok value
  pub later : next value ≡ Ok y

pub then_from : {A B : Type 0} (first : Result A (List ℕ)) (next : A → Result B (List ℕ)) (y : B) → (first >>= next) ≡ Ok y → Then first next y
then_from (Ok x) next y e = record { value = x; is = refl; later = e }
then_from (Err p) next y e = absurd (err_ok p y e)

pub record Mapped {A B : Type 0} (o : Option A) (f : A → B) (y : B) : Type 0 where
  pub value : A
  pub is : o ≡ Some value
  pub gives : f value ≡ y

pub mapped_from : {A B : Type 0} (o : Option A) (f : A → B) (y : B) → option_map f o ≡ Some y → Mapped o f y
mapped_from None f y e = absurd (none_some y e)
mapped_from (Some x) f y e = record { value = x; is = refl; gives = some_same (f x) y e }

pub record Chained {A B : Type 0} (o : Option A) (f : A → Option B) (y : B) : Type 0 where
  pub value : A
  pub is : o ≡ Some value
  pub gives : f value ≡ Some y

pub chained_from : {A B : Type 0} (o : Option A) (f : A → Option B) (y : B) → option_and_then f o ≡ Some y → Chained o f y
chained_from None f y e = absurd (none_some y e)
chained_from (Some x) f y e = record { value = x; is = refl; gives = e }

pub below_ok : {A : Type 0} (name : List ℕ) (r : Result A (List ℕ)) (x : A) → below name r ≡ Ok x → r ≡ Ok x
below_ok name (Ok y) x e = e
below_ok name (Err p) x e = absurd (err_ok _ x e)

pub wanted_some : {A : Type 0} (o : Option A) (x : A) → wanted o ≡ Ok x → o ≡ Some x
wanted_some None x e = absurd (err_ok [] x e)
wanted_some (Some y) x e = ap Some (ok_same y x e)

abbrev pub named : {V : Type 0} → List ℕ → V → Named V
named name value = record { name = name; value = value }

-- ---- texts that are read

-- a tag, its value and the characters behind it
pub record TagRead (part : List ℕ) (pieces : List Piece) : Type 0 where
  pub inside : List ℕ
  pub rest : List ℕ
  pub property : Property
  pub is_cut : cut closing part ≡ Some (inside, rest)
  pub is_named : named_in_tag inside ≡ Some property
  pub are : pieces ≡ Tag property ∷ text_pieces rest

pub tag_read : (part : List ℕ) (pieces : List Piece) → tag_pieces part ≡ Some pieces → TagRead part pieces
unfolding tag_pieces
tag_read part pieces e =
    let c = chained_from (cut closing part) tag_and_text pieces e in
    let m = mapped_from (named_in_tag c.value.0) (λ property. Tag property ∷ text_pieces c.value.1) pieces c.gives in
    record { inside = c.value.0; rest = c.value.1; property = m.value; is_cut = c.is; is_named = m.is; are = sym m.gives }

pub record TagsRead (part : List ℕ) (later : List (List ℕ)) (pieces : List Piece) : Type 0 where
  pub first : List Piece
  pub others : List Piece
  pub first_is : tag_pieces part ≡ Some first
  pub others_are : all_tag_pieces later ≡ Some others
  pub are : pieces ≡ first ++ others

pub tags_read : (part : List ℕ) (later : List (List ℕ)) (pieces : List Piece) → all_tag_pieces (part ∷ later) ≡ Some pieces → TagsRead part later pieces
tags_read part later pieces e =
    let c = chained_from (tag_pieces part) (λ first. option_map (λ more. first ++ more) (all_tag_pieces later)) pieces e in
    let m = mapped_from (all_tag_pieces later) (λ more. c.value ++ more) pieces c.gives in
    record { first = c.value; others = m.value; first_is = c.is; others_are = m.is; are = sym m.gives }

-- ---- filling

module _ (person : Person) where
  abbrev spell : List Piece → List ℕ
  spell = flat_map (filled_piece person)

  plain_spelled : (s : List ℕ) → spell (text_pieces s) ≡ s
  plain_spelled [] = refl
  plain_spelled (b ∷ bs) = append-nil (b ∷ bs)

  tag_filled : (part : List ℕ) (pieces : List Piece) → tag_pieces part ≡ Some pieces → spell pieces ≡ replaced_part person part
  tag_filled part pieces e =
      let r = tag_read part pieces e in
      ap spell r.are ∙ ap (λ l. tag_text (value_of person r.property) ++ l) (plain_spelled r.rest)
      ∙ ap (value_and_rest person part r.rest) (sym r.is_named) ∙ ap (replaced_by person part) (sym r.is_cut)

  tags_filled : (tagged : List (List ℕ)) (pieces : List Piece) → all_tag_pieces tagged ≡ Some pieces → spell pieces ≡ flat_map (replaced_part person) tagged
  tags_filled [] pieces e = ap spell (sym (some_same [] pieces e))
  tags_filled (part ∷ later) pieces e =
      let r = tags_read part later pieces e in
      ap spell r.are ∙ flat_map-append (filled_piece person) r.first r.others
      ∙ (λ k. tag_filled part r.first r.first_is k ++ tags_filled later r.others r.others_are k)

  parts_filled : (ps : List (List ℕ)) (pieces : List Piece) → pieces_of_parts ps ≡ Some pieces → spell pieces ≡ replaced_parts person ps
  parts_filled [] pieces e = ap spell (sym (some_same [] pieces e))
  parts_filled (front ∷ tagged) pieces e =
      let m = mapped_from (all_tag_pieces tagged) (λ more. text_pieces front ++ more) pieces e in
      ap spell (sym m.gives) ∙ flat_map-append (filled_piece person) (text_pieces front) m.value
      ∙ (λ k. plain_spelled front k ++ tags_filled tagged m.value m.is k)

  text_filled : (s : List ℕ) (pieces : List Piece) → pieces_of s ≡ Some pieces → spell pieces ≡ replaced person s
  unfolding pieces_of replaced
  text_filled s pieces e = parts_filled (parts opening s) pieces e

  pub fill_Null : fill person tree.Null ≡ tree.Null
  unfolding fill
  fill_Null = fold-Null Tree (fill_step person)

  pub fill_Bool : (b : Bool) → fill person (tree.Bool b) ≡ tree.Bool b
  unfolding fill
  fill_Bool b = fold-Bool Tree (fill_step person) b

  pub fill_Int : (z : ℤ) → fill person (tree.Int z) ≡ tree.Int z
  unfolding fill
  fill_Int z = fold-Int Tree (fill_step person) z

  pub fill_Text : (s : List ℕ) → fill person (tree.Text s) ≡ value_or_text person (hole_of s) s
  unfolding fill
  fill_Text s = fold-Text Tree (fill_step person) s

  pub fill_List : (ts : List Tree) → fill person (tree.List ts) ≡ tree.List (map (fill person) ts)
  unfolding fill
  fill_List ts = fold-List Tree (fill_step person) ts

  pub fill_Object : (ms : List (Named Tree)) → fill person (tree.Object ms) ≡ tree.Object (map (with_value (fill person)) ms)
  unfolding fill
  fill_Object ms = fold-Object Tree (fill_step person) ms

  abbrev Same : Tree → Type 0
  Same t = (template : Template) → template_form t ≡ Ok template → filled person template ≡ fill person t

  -- a tree that is one of these, whatever is read of it
  scalar : (t : Tree) (u : Template) (v : Tree) → template_form t ≡ Ok u → filled person u ≡ v → fill person t ≡ v → Same t
  scalar t u v form one other template e = ap (filled person) (ok_same template u (sym e ∙ form)) ∙ one ∙ sym other

  text_by : (o : Option Property) (s : List ℕ) (template : Template) → hole_or_text o s ≡ Ok template → filled person template ≡ value_or_text person o s
  text_by (Some property) s template e = ap (filled person) (sym (ok_same (made.Hole property) template e)) ∙ filled_Hole person property
  text_by None s template e =
      let r = then_from (wanted (pieces_of s)) (λ pieces. Ok (made.Text pieces)) template e in
      ap (filled person) (sym (ok_same (made.Text r.value) template r.later)) ∙ filled_Text person r.value
      ∙ ap tree.Text (text_filled s r.value (wanted_some (pieces_of s) r.value r.is))

  text_read : (s : List ℕ) (template : Template) → text_template s ≡ Ok template → filled person template ≡ value_or_text person (hole_of s) s
  unfolding text_template
  text_read s template e = text_by (hole_of s) s template e

  items_filled : (n : ℕ) (ts : List Tree) (items : List Template) → AllByRecursion Same ts → items_of template_form n ts ≡ Ok items → map (filled person) items ≡ map (fill person) ts
  items_filled n [] items all e = ap (map (filled person)) (sym (ok_same [] items e))
  items_filled n (t ∷ ts) items all e =
      let a = then_from (below (decimal n) (template_form t)) (λ x. items_of template_form (n + 1) ts >>= λ xs. Ok (x ∷ xs)) items e in
      let b = then_from (items_of template_form (n + 1) ts) (λ xs. Ok (a.value ∷ xs)) items a.later in
      ap (map (filled person)) (sym (ok_same (a.value ∷ b.value) items b.later))
      ∙ (λ k. all.0 a.value (below_ok (decimal n) (template_form t) a.value a.is) k ∷ items_filled (n + 1) ts b.value all.1 b.is k)

  members_filled : (ms : List (Named Tree)) (xs : List (Named Template)) → AllByRecursion (λ m. Same m.value) ms → members_form (map member_reading ms) ≡ Ok xs → map (named_tree (filled person)) xs ≡ map (with_value (fill person)) ms
  members_filled [] xs all e = ap (map (named_tree (filled person))) (sym (ok_same [] xs e))
  members_filled (m ∷ ms) xs all e =
      let f = first_read (member_reading m) (map member_reading ms) xs e in
      let o = one_read (member_reading m) f.first f.first_is in
      ap (map (named_tree (filled person))) f.are
      ∙ (λ k. named (o.same k) (all.0 f.first.value o.value k) ∷ members_filled ms f.later all.1 f.later_are k)

  list_read : (ts : List Tree) → AllByRecursion Same ts → Same (tree.List ts)
  list_read ts all template e =
      let r = then_from (items_of template_form 0 ts) (λ items. Ok (made.List items)) template (sym (template_form_List ts) ∙ e) in
      ap (filled person) (sym (ok_same (made.List r.value) template r.later)) ∙ filled_List person r.value
      ∙ ap tree.List (items_filled 0 ts r.value all r.is) ∙ sym (fill_List ts)

  object_read : (ms : List (Named Tree)) → AllByRecursion (λ m. Same m.value) ms → Same (tree.Object ms)
  object_read ms all template e =
      let r = then_from (members_form (map member_reading ms)) (λ members. Ok (made.Object members)) template (sym (template_form_Object ms) ∙ e) in
      ap (filled person) (sym (ok_same (made.Object r.value) template r.later)) ∙ filled_Object person r.value
      ∙ ap tree.Object (members_filled ms r.value all r.is) ∙ sym (fill_Object ms)

  pub filled_in_tree : (t : Tree) (template : Template) → template_form t ≡ Ok template → filled person template ≡ fill person t
  filled_in_tree = for_trees Same
      (scalar tree.Null made.Null tree.Null template_form_Null (filled_Null person) fill_Null)
      (λ b. scalar (tree.Bool b) (made.Bool b) (tree.Bool b) (template_form_Bool b) (filled_Bool person b) (fill_Bool b))
      (λ z. scalar (tree.Int z) (made.Int z) (tree.Int z) (template_form_Int z) (filled_Int person z) (fill_Int z))
      (λ s template e. text_read s template (sym (template_form_Text s) ∙ e) ∙ sym (fill_Text s))
      list_read
      object_read
