-- Which answer reading gives.
use Rattle.std.proofs.Common.{◌≡◌, ◌≤◌, ◌<◌, ◌⊎◌, inl, inr, ℕ, List, Bool, true, false, Option, Some, None, Result, Ok, Err, IfOk, IfErr, refl, sym, ap, ◌∙◌, arith, nat_lt}
use Rattle.std.proofs.lemmas.Bool.Decides.{nat_tests}
use Rattle.std.specs.Str.{is_utf8, IsUtf8}
use Rattle.std.proofs.lemmas.Str.{IsUtf8-from_is_utf8, is_utf8-from_IsUtf8}
use Rattle.serde_json.specs.Data.{Data, depth}
use Rattle.serde_json.specs.Read.{read}
use Rattle.es_tree.specs.declared.tree.Tree.{Tree}
use Rattle.es_tree.specs.declared.fault.TreeFault.{TreeFault}
use Rattle.es_tree.specs.declared.fault.TreeFault.TheVariants.{NotJson, TooDeep, NoMemory}
use Rattle.es_tree.specs.Order.{is_ordered, is_fitting, levels_of}
use Rattle.es_tree.specs.Text.{text_of}
use Rattle.es_tree.specs.Read.{json_of, tree_of, or_not_whole, or_fault, read_within_of, Converts}
use Rattle.es_tree.proofs.Levels.{levels_of-tree_of}
use Rattle.es_tree.proofs.Data.{data_of, depth-data_of, tree_of-data_of, read-text}

pub json_of-some : (bytes : List ℕ) (d : Data) → IsUtf8 bytes → read bytes ≡ Some d → json_of bytes ≡ Some d
unfolding json_of
json_of-some bytes d u e = rw (is_utf8-from_IsUtf8 bytes u) e

json_of_at : (bytes : List ℕ) (b : Bool) → is_utf8 bytes ≡ b → (IsUtf8 bytes → read bytes ≡ None) → json_of bytes ≡ None
unfolding json_of
json_of_at bytes true e h = rw e (h (IsUtf8-from_is_utf8 bytes e))
json_of_at bytes false e h = rw e

pub json_of-none : (bytes : List ℕ) → (IsUtf8 bytes → read bytes ≡ None) → json_of bytes ≡ None
json_of-none bytes h = json_of_at bytes (is_utf8 bytes) refl h

pub not_json : (limit : ℕ) (bytes : List ℕ) → json_of bytes ≡ None → read_within_of limit bytes ≡ Err NotJson
unfolding read_within_of
not_json limit bytes e = ap (or_fault limit) e

deep : (limit : ℕ) (d : Data) → limit < depth d → or_fault limit (Some d) ≡ Err TooDeep
deep limit d h = let e : nat_lt limit (depth d) ≡ true = grind (arith, nat_tests) in rw e

pub too_deep : (limit : ℕ) (bytes : List ℕ) (d : Data) → json_of bytes ≡ Some d → limit < depth d → read_within_of limit bytes ≡ Err TooDeep
unfolding read_within_of
too_deep limit bytes d e h = ap (or_fault limit) e ∙ deep limit d h

within : (limit : ℕ) (d : Data) → depth d ≤ limit → or_fault limit (Some d) ≡ or_not_whole (tree_of d)
within limit d h = let e : nat_lt limit (depth d) ≡ false = grind (arith, nat_tests) in rw e

pub shallow : (limit : ℕ) (bytes : List ℕ) (d : Data) → json_of bytes ≡ Some d → depth d ≤ limit → read_within_of limit bytes ≡ or_not_whole (tree_of d)
unfolding read_within_of
shallow limit bytes d e h = ap (or_fault limit) e ∙ within limit d h

pub found_from_converts : (r : Result Tree TreeFault) (o : Option Tree) (w : Result Tree TreeFault) → w ≡ or_not_whole o → Converts r o → IfOk r (λ t. w ≡ Ok t)
found_from_converts (Ok t) o w e c = e ∙ ap or_not_whole c
found_from_converts (Err f) o w e c = tt

pub fault_from_converts : (r : Result Tree TreeFault) (o : Option Tree) (w : Result Tree TreeFault) → w ≡ or_not_whole o → Converts r o → IfErr r (λ f. (f ≡ NoMemory) ⊎ (w ≡ Err f))
fault_from_converts (Ok t) o w e c = tt
fault_from_converts (Err f) o w e (inl full) = inl full
fault_from_converts (Err f) o w e (inr h) = inr (e ∙ ap or_not_whole h.1 ∙ ap Err (sym h.0))

pub levels_from_converts : (limit : ℕ) (r : Result Tree TreeFault) (d : Data) → depth d ≤ limit → Converts r (tree_of d) → IfOk r (λ t. levels_of t ≤ limit)
levels_from_converts limit (Ok t) d h c = rw (levels_of-tree_of d t c) h
levels_from_converts limit (Err f) d h c = tt

-- what is printed reads back
pub text_back : (limit : ℕ) (t : Tree) → is_ordered t ≡ true → is_fitting t ≡ true → IsUtf8 (text_of t) → levels_of t ≤ limit → levels_of t ≤ 127 → read_within_of limit (text_of t) ≡ Ok t
text_back limit t ordered fits utf8 enough readable =
    shallow limit (text_of t) (data_of t) (json_of-some (text_of t) (data_of t) utf8 (read-text t ordered fits readable)) (rw (depth-data_of t) enough) ∙ ap or_not_whole (tree_of-data_of t fits)
