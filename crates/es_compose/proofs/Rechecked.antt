-- Descriptors that were read and checked are checked.
use Rattle.std.proofs.Common.{◌≡◌, ℕ, ◌+◌, List, [], ◌∷◌, Option, Some, None, option_map, Result, Ok, Err, ◌&&◌, IsTrue, IfOk, codes, decimal, refl, ap, subst, ◌∙◌}
use Rattle.std.specs.List.{list_all, AllByRecursion}
use Rattle.es_tree.specs.declared.tree.Tree.{Tree}
use Rattle.es_tree.specs.declared.fault.BodyFault.{BodyFault}
use Rattle.es_grammar.specs.Reading.{below, Gives}
use Rattle.es_grammar.specs.Reading.{◌>>=◌ as ◌then◌}
use Rattle.es_grammar.specs.Members.{inside}
use Rattle.es_grammar.specs.Values.{items_of, is_object}
use Rattle.es_query.proofs.Lines.{then_ok, below_ok, ok_same}
use Rattle.es_role.specs.declared.kinds.IndexGroup.{IndexGroup}
use Rattle.es_role.specs.declared.kinds.Descriptor.{Descriptor}
use Rattle.es_role.specs.Descriptors.{descriptor_form, is_sound_group, is_sound}
use Rattle.es_role.proofs.Described.{IsGroup, is_group_with, IsDescribed, descriptor_back, descriptors_read}
use Rattle.es_compose.specs.declared.query.RoleQuery.{RoleQuery}
use Rattle.es_compose.specs.Checked.{role_query_form, role_query_tree, with_query, checked_group, with_indices, checked_of, checked_form, IsChecked}
use Rattle.es_compose.specs.Laws.{QueryBack, CheckedBack}

-- a member of `indices` that was checked is checked to itself
pub record IsCheckedGroup (group : IndexGroup) : Type 0 where
  pub described : IsGroup group
  pub same : checked_group group ≡ Ok group

module _ (query_back : QueryBack) where
  some_back : (t : Tree) (r : Result RoleQuery (List ℕ)) (found : Option RoleQuery) → role_query_form t ≡ r → (below (codes "query") r then λ q. Ok (Some q)) ≡ Ok found
      → inside (codes "query") role_query_form (option_map role_query_tree found) ≡ Ok found
  some_back t (Err place) found is e = cc e
  some_back t (Ok q) found is e =
      subst (λ (o : Option RoleQuery). inside (codes "query") role_query_form (option_map role_query_tree o) ≡ Ok o) (ok_same (Some q) found e) (rw (query_back t q is) refl)

  inside_back : (t : Option Tree) (found : Option RoleQuery) → inside (codes "query") role_query_form t ≡ Ok found → inside (codes "query") role_query_form (option_map role_query_tree found) ≡ Ok found
  inside_back None found e = subst (λ (o : Option RoleQuery). inside (codes "query") role_query_form (option_map role_query_tree o) ≡ Ok o) (ok_same None found e) refl
  inside_back (Some t) found e = some_back t (role_query_form t) found refl e

  group_checked : (group checked : IndexGroup) → IsGroup group → checked_group group ≡ Ok checked → IsCheckedGroup checked
  group_checked group checked is e =
      let a = then_ok (inside (codes "query") role_query_form group.query) (λ found. Ok (with_query group found)) checked e in
      subst IsCheckedGroup (ok_same (with_query group a.value) checked a.later)
      (record { described = is_group_with group (option_map role_query_tree a.value) is; same = rw (inside_back group.query a.value a.first) refl })

  groups_checked : (n : ℕ) (groups checked : List IndexGroup) → AllByRecursion IsGroup groups → items_of checked_group n groups ≡ Ok checked → AllByRecursion IsCheckedGroup checked
  groups_checked n [] checked all e = subst (AllByRecursion IsCheckedGroup) (ok_same [] checked e) tt
  groups_checked n (group ∷ groups) checked all e =
      let a = then_ok (below (decimal n) (checked_group group)) (λ x. items_of checked_group (n + 1) groups then λ xs. Ok (x ∷ xs)) checked e in
      let b = then_ok (items_of checked_group (n + 1) groups) (λ xs. Ok (a.value ∷ xs)) checked a.later in
      subst (AllByRecursion IsCheckedGroup) (ok_same (a.value ∷ b.value) checked b.later)
      (group_checked group a.value all.0 (below_ok (decimal n) (checked_group group) a.value a.first), groups_checked (n + 1) groups b.value all.1 b.first)

  checked_again : (n : ℕ) (groups : List IndexGroup) → AllByRecursion IsCheckedGroup groups → items_of checked_group n groups ≡ Ok groups
  checked_again n [] all = refl
  checked_again n (group ∷ groups) all = rw (all.0.same, checked_again (n + 1) groups all.1) refl

  all_described : (groups : List IndexGroup) → AllByRecursion IsCheckedGroup groups → AllByRecursion IsGroup groups
  all_described [] all = tt
  all_described (group ∷ groups) all = (all.0.described, all_described groups all.1)

  with_checked : (d : Descriptor) (groups : List IndexGroup) → IsDescribed d → AllByRecursion IsCheckedGroup groups → IsChecked (with_indices d groups)
  unfolding checked_form checked_of
  with_checked d groups is all =
      let whole : IsDescribed (with_indices d groups) = record { cluster = is.cluster; indices = all_described groups all; metadata = is.metadata; run_as = is.run_as } in
      rw (descriptor_back (with_indices d groups) whole, checked_again 0 groups all) refl

  described_checked : (d checked : Descriptor) → IsDescribed d → checked_of d ≡ Ok checked → IsChecked checked
  unfolding checked_of
  described_checked d checked is e =
      let a = then_ok (below (codes "indices") (items_of checked_group 0 d.indices)) (λ indices. Ok (with_indices d indices)) checked e in
      let groups = groups_checked 0 d.indices a.value is.indices (below_ok (codes "indices") (items_of checked_group 0 d.indices) a.value a.first) in
      subst IsChecked (ok_same (with_indices d a.value) checked a.later) (with_checked d a.value is groups)

  pub checked_reread : CheckedBack
  unfolding checked_form
  checked_reread t checked e =
      let a = then_ok (descriptor_form t) checked_of checked e in
      described_checked a.value checked (descriptors_read.each t a.value a.first) a.later

-- ---- checking keeps what a reader may give

names_kept : (group checked : IndexGroup) → checked_group group ≡ Ok checked → is_sound_group checked ≡ is_sound_group group
unfolding is_sound_group
names_kept group checked e =
    let a = then_ok (inside (codes "query") role_query_form group.query) (λ found. Ok (with_query group found)) checked e in
    subst (λ (g : IndexGroup). is_sound_group g ≡ is_sound_group group) (ok_same (with_query group a.value) checked a.later) refl

groups_kept : (n : ℕ) (groups checked : List IndexGroup) → items_of checked_group n groups ≡ Ok checked → list_all is_sound_group checked ≡ list_all is_sound_group groups
groups_kept n [] checked e = subst (λ (gs : List IndexGroup). list_all is_sound_group gs ≡ list_all is_sound_group []) (ok_same [] checked e) refl
groups_kept n (group ∷ groups) checked e =
    let a = then_ok (below (decimal n) (checked_group group)) (λ x. items_of checked_group (n + 1) groups then λ xs. Ok (x ∷ xs)) checked e in
    let b = then_ok (items_of checked_group (n + 1) groups) (λ xs. Ok (a.value ∷ xs)) checked a.later in
    subst (λ (gs : List IndexGroup). list_all is_sound_group gs ≡ list_all is_sound_group (group ∷ groups)) (ok_same (a.value ∷ b.value) checked b.later)
    (rw (names_kept group a.value (below_ok (decimal n) (checked_group group) a.value a.first), groups_kept (n + 1) groups b.value b.first) refl)

sound_kept : (d checked : Descriptor) → checked_of d ≡ Ok checked → is_sound checked ≡ is_sound d
unfolding checked_of is_sound
sound_kept d checked e =
    let a = then_ok (below (codes "indices") (items_of checked_group 0 d.indices)) (λ indices. Ok (with_indices d indices)) checked e in
    let kept = groups_kept 0 d.indices a.value (below_ok (codes "indices") (items_of checked_group 0 d.indices) a.value a.first) in
    subst (λ (c : Descriptor). is_sound c ≡ is_sound d) (ok_same (with_indices d a.value) checked a.later) (ap (λ b. is_object d.metadata && b) kept)

pub checked_sound : (d : Descriptor) (r : Result Descriptor BodyFault) → Gives r (checked_of d) → IsTrue (is_sound d) → IfOk r (λ checked. IsTrue (is_sound checked))
checked_sound d (Ok checked) gives sound = sound_kept d checked gives ∙ sound
checked_sound d (Err fault) gives sound = tt

pub read_checked : (t : Tree) (r : Result Descriptor BodyFault) → CheckedBack → Gives r (checked_form t) → IfOk r (λ checked. IsChecked checked)
read_checked t (Ok checked) back gives = back t checked gives
read_checked t (Err fault) back gives = tt
