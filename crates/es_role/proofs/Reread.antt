-- What is printed of a value that was read reads back: each form at what it reads.
use Rattle.std.proofs.Common.{◌≡◌, ℕ, ◌+◌, List, [], ◌∷◌, map, Bool, true, false, IsTrue, Option, Some, None, Result, Ok, Err, decimal, refl, ap, subst, ◌∙◌}
use Rattle.std.specs.List.{AllByRecursion}
use Rattle.es_tree.specs.declared.tree.Tree.{Tree, out-Tree}
use Rattle.es_tree.specs.declared.tree.Tree as tree
use Rattle.es_tree.specs.declared.tree.Tree.TheOpen.{Tree-F}
use Rattle.es_grammar.specs.Reading.{wanted, if_holds, below}
use Rattle.es_grammar.specs.Reading.{◌>>=◌ as ◌then◌}
use Rattle.es_grammar.specs.Values.{text_form, spelled_form, object_in, object_form, items_of, list_in, list_form, one_of, one_in, one_or_list_form, one_or_more_form, has_some}
use Rattle.es_grammar.specs.Printing.{list_tree}
use Rattle.es_grammar.proofs.Back.{text_form-Text, list_form-List, one_or_list_form-List}
use Rattle.es_grammar.proofs.Fronts.{items_back}
use Rattle.es_role.proofs.Yields.{same_ok, both_given}
use Rattle.es_role.proofs.Back.{all_true}

-- what is printed of each value that is read reads back to it
abbrev pub IsReread : {A : Type 0} → (Tree → Result A (List ℕ)) → (A → Tree) → Type 0
IsReread {A} form print = (t : Tree) (x : A) → form t ≡ Ok x → form (print x) ≡ Ok x

wanted_given : {A : Type 0} (found : Option A) (x : A) → wanted found ≡ Ok x → found ≡ Some x
wanted_given None x e = cc e
wanted_given (Some y) x e = cc e

pub spelled_reread : {A : Type 0} (named : List ℕ → Option A) (spelled : A → List ℕ) → ((s : List ℕ) (x : A) → named s ≡ Some x → named (spelled x) ≡ Some x)
    → IsReread (spelled_form named) (λ x. tree.Text (spelled x))
spelled_reread named spelled again t x e =
    both_given (text_form t) (λ s. wanted (named s)) x e (λ s text is.
    rw (text_form-Text (spelled x), again s x (wanted_given (named s) x is)) refl)

object_same : (t x : Tree) (f : Tree-F Tree) → object_in t f ≡ Ok x → t ≡ x
object_same t x Tree-F.Null e = cc e
object_same t x (Tree-F.Bool b) e = cc e
object_same t x (Tree-F.Int z) e = cc e
object_same t x (Tree-F.Text s) e = cc e
object_same t x (Tree-F.List ts) e = cc e
object_same t x (Tree-F.Object ms) e = cc e

pub object_reread : IsReread object_form (λ x. x)
object_reread t x e = subst (λ (u : Tree). object_form u ≡ Ok x) (object_same t x (out-Tree t) e) e

-- what holds of each value that is read holds of each item of a list that is read
module _ {A : Type 0} (form : Tree → Result A (List ℕ)) (Has : A → Type 0) (each : (t : Tree) (x : A) → form t ≡ Ok x → Has x) where
  pub items_given : (n : ℕ) (ts : List Tree) (xs : List A) → items_of form n ts ≡ Ok xs → AllByRecursion Has xs
  items_given n [] xs e = subst (AllByRecursion Has) (same_ok [] xs e) tt
  items_given n (t ∷ ts) xs e =
      both_given (below (decimal n) (form t)) (λ y. items_of form (n + 1) ts then λ ys. Ok (y ∷ ys)) xs e (λ y first later.
      both_given (items_of form (n + 1) ts) (λ ys. Ok (y ∷ ys)) xs later (λ ys rest same.
      subst (AllByRecursion Has) (same_ok (y ∷ ys) xs same) (item_given (decimal n) t (form t) y refl first, items_given (n + 1) ts ys rest))) where
        item_given : (name : List ℕ) (t : Tree) (r : Result A (List ℕ)) (y : A) → form t ≡ r → below name r ≡ Ok y → Has y
        item_given name t (Ok z) y is e = each t y (is ∙ e)
        item_given name t (Err p) y is e = cc e

  one_given : (t : Tree) (xs : List A) → one_of form t ≡ Ok xs → AllByRecursion Has xs
  one_given t xs e = both_given (form t) (λ x. Ok (x ∷ [])) xs e (λ x is same. subst (AllByRecursion Has) (same_ok (x ∷ []) xs same) (each t x is, tt))

  pub list_given : (f : Tree-F Tree) (xs : List A) → list_in form f ≡ Ok xs → AllByRecursion Has xs
  list_given Tree-F.Null xs e = cc e
  list_given (Tree-F.Bool b) xs e = cc e
  list_given (Tree-F.Int z) xs e = cc e
  list_given (Tree-F.Text s) xs e = cc e
  list_given (Tree-F.List ts) xs e = items_given 0 ts xs e
  list_given (Tree-F.Object ms) xs e = cc e

  pub one_or_list_given : (t : Tree) (f : Tree-F Tree) (xs : List A) → one_in form t f ≡ Ok xs → AllByRecursion Has xs
  one_or_list_given t Tree-F.Null xs e = one_given t xs e
  one_or_list_given t (Tree-F.Bool b) xs e = one_given t xs e
  one_or_list_given t (Tree-F.Int z) xs e = one_given t xs e
  one_or_list_given t (Tree-F.Text s) xs e = one_given t xs e
  one_or_list_given t (Tree-F.List ts) xs e = items_given 0 ts xs e
  one_or_list_given t (Tree-F.Object ms) xs e = one_given t xs e

-- items each of which is read again are read as a list
module _ {A : Type 0} (form : Tree → Result A (List ℕ)) (print : A → Tree) where
  abbrev Back : A → Type 0
  Back x = form (print x) ≡ Ok x

  all_always : (xs : List A) → AllByRecursion Back xs → AllByRecursion (λ x. IsTrue true → Back x) xs
  all_always [] all = tt
  all_always (x ∷ xs) all = (λ _. all.0, all_always xs all.1)

  pub items_reread : (xs : List A) → AllByRecursion Back xs → items_of form 0 (map print xs) ≡ Ok xs
  items_reread xs all = items_back (λ _. true) form print xs (all_always xs all) (all_true xs) 0

  pub items_list : (xs : List A) → AllByRecursion Back xs → list_form form (list_tree print xs) ≡ Ok xs
  items_list xs all = list_form-List form (map print xs) ∙ items_reread xs all

module _ {A : Type 0} (form : Tree → Result A (List ℕ)) (print : A → Tree) (back : IsReread form print) where
  pub list_reread : IsReread (list_form form) (list_tree print)
  list_reread t xs e = items_list form print xs (list_given form (Back form print) back (out-Tree t) xs e)

  pub one_or_list_reread : IsReread (one_or_list_form form) (list_tree print)
  one_or_list_reread t xs e = one_or_list_form-List form (map print xs) ∙ items_reread form print xs (one_or_list_given form (Back form print) back t (out-Tree t) xs e)

  some_given : (found : Bool) (ys xs : List A) → if_holds found ys ≡ Ok xs → (found ≡ true) × (ys ≡ xs)
  some_given true ys xs e = (refl, same_ok ys xs e)
  some_given false ys xs e = cc e

  pub one_or_more_reread : IsReread (one_or_more_form form) (list_tree print)
  one_or_more_reread t xs e =
      both_given (one_or_list_form form t) (λ ys. if_holds (has_some ys) ys) xs e (λ ys first holds.
      let some = some_given (has_some ys) ys xs holds in
      let has : has_some xs ≡ true = subst (λ (zs : List A). has_some zs ≡ true) some.1 some.0 in
      rw (one_or_list_reread t xs (first ∙ ap (λ (zs : List A). Ok zs) some.1), has) refl)
