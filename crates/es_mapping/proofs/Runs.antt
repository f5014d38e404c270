-- Fields at a depth, as they are printed.
use Rattle.std.proofs.Common.{◌≡◌, ◌+◌, ◌-◌, ◌<◌, ◌≤◌, ℕ, zero, suc, List, [], ◌∷◌, ◌++◌, map, length, take, drop, get_or, slice_get, Some, None, Bool, true, false, ◌&&◌, codes, if◌then◌else◌, refl, sym, ap, ap₂, ◌∙◌, subst, arith, append_assoc, length-drop}
use Rattle.std.specs.List.{list_all}
use Rattle.std.proofs.lemmas.Bool.{and_parts, false≢true}
use Rattle.std.proofs.lemmas.List.{take_all, drop_all}
use Rattle.es_tree.specs.declared.tree.Tree.{Tree}
use Rattle.es_tree.specs.declared.tree.Tree as tree
use Rattle.es_tree.specs.declared.tree.Named.{Named}
use Rattle.es_tree.specs.Rising.{name_of, is_rising}
use Rattle.es_grammar.specs.Values.{has_some}
use Rattle.es_value.specs.declared.kinds.FieldType.{FieldType}
use Rattle.es_mapping.specs.Paths.{pieces}
use Rattle.es_mapping.specs.Mappings.{Typed}
use Rattle.es_mapping.specs.Printed.{type_name, single, field_tree, properties_tree, groups, left_at, group_trees, is_headed, run_of, are_parted, have_names}
use Rattle.es_mapping.proofs.Groups.{Group, itself_named, drop_at, drop_past, first_group_at, parted-groups, rising-groups, have_names-parted, alone}

-- the fields at the front with one name at a depth
pub record Run (d next : ℕ) (name : List ℕ) (fs : List (Named FieldType)) (count : ℕ) : Type 0 where
  pub some : 0 < count
  pub within : count ≤ length fs
  pub first : groups (map (left_at d) fs) ≡ (record { name = name; value = map (left_at next) (take count fs) }) ∷ groups (map (left_at d) (drop count fs))
  pub parted : are_parted (map (left_at next) (take count fs)) ≡ true

run_if : (b : Bool) (m n : ℕ) → m ≤ n → (if b then suc m else zero) ≤ suc n
run_if true m n h = omega arith
run_if false m n h = omega arith

pub run_within : (d : ℕ) (name : List ℕ) (fs : List (Named FieldType)) → run_of name (map (left_at d) fs) ≤ length fs
run_within d name [] = omega arith
run_within d name (f ∷ fs) = run_if (is_headed name (drop d (pieces f.name))) (run_of name (map (left_at d) fs)) (length fs) (run_within d name fs)

run_some : (b : Bool) (m : ℕ) → b ≡ true → 0 < (if b then suc m else zero)
run_some true m e = omega arith
run_some false m e = absurd (false≢true e)

lead_of : (d : ℕ) (name : List ℕ) (f : Named FieldType) → slice_get (pieces f.name) d ≡ Some name → is_headed name (drop d (pieces f.name)) ≡ true
lead_of d name f e = ap (is_headed name) (drop_at d (pieces f.name) name e) ∙ itself_named name

run_suc : (d : ℕ) (name : List ℕ) (f : Named FieldType) (fs : List (Named FieldType)) → slice_get (pieces f.name) d ≡ Some name → have_names (map (left_at d) (f ∷ fs)) ≡ true → Run d (suc d) name (f ∷ fs) (run_of name (map (left_at d) (f ∷ fs)))
run_suc d name f fs e h =
    let lead = lead_of d name f e in
    let all = map (left_at d) (f ∷ fs) in
    let first = first_group_at d name f fs lead h in
    let parts = and_parts (list_all (λ (g : Typed). has_some g.0) all) (are_parted all) h in
    record {
      some = run_some (is_headed name (drop d (pieces f.name))) (run_of name (map (left_at d) fs)) lead;
      within = run_within d name (f ∷ fs);
      first = first;
      parted = (rw first at (parted-groups all parts.0 parts.1)).0;
    }

pub run_at : (d next : ℕ) (name : List ℕ) (fs : List (Named FieldType)) (m : Named FieldType) (count : ℕ) → suc d ≡ next → 0 < length fs → m ≡ get_or fs 0 m → slice_get (pieces m.name) d ≡ Some name → have_names (map (left_at d) fs) ≡ true → count ≡ run_of name (map (left_at d) fs) → Run d next name fs count
run_at d next name [] m count n some is e h c = absurd (omega arith)
run_at d next name (f ∷ fs) m count n some is e h c =
    subst (λ k. Run d next name (f ∷ fs) k) (sym c) (subst (λ k. Run d k name (f ∷ fs) (run_of name (map (left_at d) (f ∷ fs)))) n
    (run_suc d name f fs (ap (λ (g : Named FieldType). slice_get (pieces g.name) d) (sym is) ∙ e) h))

-- a group's member, and those of the fields behind it
pub added_group : (n d next : ℕ) (name : List ℕ) (fs : List (Named FieldType)) (count : ℕ) → Run d next name fs count → (old new : List (Named Tree)) (value : Tree) → value ≡ field_tree (properties_tree n) (map (left_at next) (take count fs)) → new ≡ old ++ (record { name = name; value = value }) ∷ []
    → new ++ group_trees n (map (left_at d) (drop count fs)) ≡ old ++ group_trees n (map (left_at d) fs)
added_group n d next name fs count run old new value v e =
    let rest = group_trees n (map (left_at d) (drop count fs)) in
    let tree_of : Group → Named Tree = λ g. record { name = g.name; value = field_tree (properties_tree n) g.value } in
    let whole : group_trees n (map (left_at d) fs) ≡ (record { name = name; value = field_tree (properties_tree n) (map (left_at next) (take count fs)) }) ∷ rest = ap (map tree_of) run.first in
    ap (λ l. l ++ rest) e ∙ append_assoc old _ rest ∙ ap (λ l. old ++ l) (ap (λ (t : Tree). (record { name = name; value = t }) ∷ rest) v ∙ sym whole)

pub no_name : (d : ℕ) (fs : List (Named FieldType)) (m : Named FieldType) → 0 < length fs → m ≡ get_or fs 0 m → slice_get (pieces m.name) d ≡ None → have_names (map (left_at d) fs) ≡ true → ⊥
no_name d [] m some is e h = omega arith
no_name d (f ∷ fs) m some is e h =
    let parts = and_parts (list_all (λ (g : Typed). has_some g.0) (map (left_at d) (f ∷ fs))) (are_parted (map (left_at d) (f ∷ fs))) h in
    let first = and_parts (has_some (drop d (pieces f.name))) (list_all (λ (g : Typed). has_some g.0) (map (left_at d) fs)) parts.0 in
    false≢true (sym (ap has_some (drop_past d (pieces f.name) (ap (λ (g : Named FieldType). slice_get (pieces g.name) d) (sym is) ∙ e))) ∙ first.0)

pub named_by_first : (d : ℕ) (name : List ℕ) (fs : List (Named FieldType)) (m : Named FieldType) → 0 < length fs → m ≡ get_or fs 0 m → slice_get (pieces m.name) d ≡ Some name → are_parted (map (left_at d) fs) ≡ true → have_names (map (left_at d) fs) ≡ true
named_by_first d name [] m some is e h = refl
named_by_first d name (f ∷ fs) m some is e h =
    have_names-parted (left_at d f) (map (left_at d) fs) (ap has_some (drop_at d (pieces f.name) name (ap (λ (g : Named FieldType). slice_get (pieces g.name) d) (sym is) ∙ e))) h

pub field_tree-named : (n d : ℕ) (name : List ℕ) (fs : List (Named FieldType)) (m : Named FieldType) → 0 < length fs → m ≡ get_or fs 0 m → slice_get (pieces m.name) d ≡ Some name
    → single (codes "properties") (properties_tree n (map (left_at d) fs)) ≡ field_tree (properties_tree n) (map (left_at d) fs)
field_tree-named n d name [] m some is e = absurd (omega arith)
field_tree-named n d name (f ∷ fs) m some is e =
    let names : drop d (pieces f.name) ≡ name ∷ drop (suc d) (pieces f.name) = drop_at d (pieces f.name) name (ap (λ (g : Named FieldType). slice_get (pieces g.name) d) (sym is) ∙ e) in
    subst (λ (ns : List (List ℕ)). single (codes "properties") (properties_tree n ((ns, f.value) ∷ map (left_at d) fs)) ≡ field_tree (properties_tree n) ((ns, f.value) ∷ map (left_at d) fs)) (sym names) refl

pub field_tree-typed : (n d : ℕ) (fs : List (Named FieldType)) (m other : Named FieldType) → 0 < length fs → m ≡ get_or fs 0 m → slice_get (pieces m.name) d ≡ None
    → single (codes "type") (tree.Text (type_name (get_or fs 0 other).value)) ≡ field_tree (properties_tree n) (map (left_at d) fs)
field_tree-typed n d [] m other some is e = absurd (omega arith)
field_tree-typed n d (f ∷ fs) m other some is e =
    let names : drop d (pieces f.name) ≡ [] = drop_past d (pieces f.name) (ap (λ (g : Named FieldType). slice_get (pieces g.name) d) (sym is) ∙ e) in
    subst (λ (ns : List (List ℕ)). single (codes "type") (tree.Text (type_name f.value)) ≡ field_tree (properties_tree n) ((ns, f.value) ∷ map (left_at d) fs)) (sym names) refl

-- ---- the loop over groups

pub rest_of : {A : Type 0} (k : ℕ) (xs : List A) → take (length xs - k) (drop k xs) ≡ drop k xs
rest_of k xs = take_all (length xs - k) (drop k xs) (omega (arith, length-drop k xs))

no_more : {A : Type 0} (xs : List A) → xs ++ [] ≡ xs
no_more [] = refl
no_more (x ∷ xs) = ap (λ l. x ∷ l) (no_more xs)

pub all_groups : (n d from : ℕ) (fs : List (Named FieldType)) (members whole : List (Named Tree)) → length fs ≤ from → members ++ group_trees n (map (left_at d) (drop from fs)) ≡ whole → members ≡ whole
all_groups n d from fs members whole end e =
    sym (no_more members) ∙ ap (λ (l : List (Named FieldType)). members ++ group_trees n (map (left_at d) l)) (sym (drop_all from fs end)) ∙ e

names_of : (n : ℕ) (gs : List Group) → map name_of (map (λ (g : Group). (record { name = g.name; value = field_tree (properties_tree n) g.value })) gs) ≡ map name_of gs
names_of n [] = refl
names_of n (g ∷ gs) = ap (λ l. g.name ∷ l) (names_of n gs)

pub rising_trees : (n : ℕ) (fs : List Typed) → have_names fs ≡ true → is_rising (map name_of (group_trees n fs)) ≡ true
rising_trees n fs h =
    let parts = and_parts (list_all (λ (g : Typed). has_some g.0) fs) (are_parted fs) h in
    ap is_rising (names_of n (groups fs)) ∙ rising-groups fs parts.0 parts.1
