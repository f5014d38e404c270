-- The tree of a mapping reads back from its text.
use Rattle.std.proofs.Common.{◌≡◌, ◌≤◌, ℕ, zero, suc, List, [], ◌∷◌, map, true, Ok, codes, refl, ap, ◌∙◌, arith}
use Rattle.std.specs.List.{list_all, AllByRecursion}
use Rattle.std.specs.Str.{IsUtf8}
use Rattle.std.proofs.lemmas.Bool.{and_parts, false≢true}
use Rattle.es_tree.specs.declared.tree.Tree.{Tree}
use Rattle.es_tree.specs.declared.tree.Tree as tree
use Rattle.es_tree.specs.declared.tree.Named.{Named}
use Rattle.es_tree.specs.Rising.{name_of, is_rising}
use Rattle.es_tree.specs.Order.{is_ordered, is_fitting, levels_of}
use Rattle.es_tree.specs.Read.{read_of, max_levels}
use Rattle.es_tree.specs.Text.{text_of}
use Rattle.es_tree.proofs.Induction.{is_ordered-Object, is_ordered-Text, is_fitting-Object, is_fitting-Text}
use Rattle.es_tree.proofs.Faults.{text_back}
use Rattle.es_grammar.specs.Values.{has_some}
use Rattle.es_value.specs.declared.kinds.FieldType.{FieldType}
use Rattle.es_mapping.specs.Mappings.{Typed, is_mapping}
use Rattle.es_mapping.specs.Printed.{type_name, single, field_tree, properties_tree, groups, most_pieces, mapping_tree, left_at, group_trees, are_parted, have_names}
use Rattle.es_mapping.proofs.Groups.{Group, IsFilled, IsParted, filled-groups, parted-groups, rising-groups, have_names-parted}
use Rattle.es_mapping.proofs.Back.{known}
use Rattle.es_request.specs.Laws.{creation_tree}

-- its members are in order, and its numbers fit
abbrev IsPlain : Tree → Type 0
IsPlain t = (is_ordered t ≡ true) × (is_fitting t ≡ true)

all_ordered : (ms : List (Named Tree)) → AllByRecursion (λ (m : Named Tree). IsPlain m.value) ms → list_all (λ m. is_ordered m.value) ms ≡ true
all_ordered [] h = refl
all_ordered (m ∷ ms) h = rw (h.0.0, all_ordered ms h.1) refl

all_fitting : (ms : List (Named Tree)) → AllByRecursion (λ (m : Named Tree). IsPlain m.value) ms → list_all (λ m. is_fitting m.value) ms ≡ true
all_fitting [] h = refl
all_fitting (m ∷ ms) h = rw (h.0.1, all_fitting ms h.1) refl

plain_object : (ms : List (Named Tree)) → is_rising (map name_of ms) ≡ true → AllByRecursion (λ (m : Named Tree). IsPlain m.value) ms → IsPlain (tree.Object ms)
plain_object ms up h = (rw (is_ordered-Object ms, up, all_ordered ms h) refl, rw (is_fitting-Object ms) (all_fitting ms h))

plain_single : (name : List ℕ) (t : Tree) → IsPlain t → IsPlain (single name t)
plain_single name t h = plain_object (record { name = name; value = t } ∷ []) refl (h, tt)

-- ---- groups

group_names : (f : Group → Tree) (gs : List Group) → map name_of (map (λ (g : Group). record { name = g.name; value = f g }) gs) ≡ map name_of gs
group_names f [] = refl
group_names f (g ∷ gs) = ap (λ l. g.name ∷ l) (group_names f gs)

abbrev ArePlain : ℕ → Type 0
ArePlain n = (fs : List Typed) → have_names fs ≡ true → IsPlain (properties_tree n fs)

plain_field : (n : ℕ) (fs : List Typed) → has_some fs ≡ true → are_parted fs ≡ true → ArePlain n → IsPlain (field_tree (properties_tree n) fs)
plain_field n [] some parted all = absurd (false≢true some)
plain_field n (([], kind) ∷ fs) some parted all =
    plain_single (codes "type") (tree.Text (type_name kind)) (is_ordered-Text (type_name kind), is_fitting-Text (type_name kind))
plain_field n ((name ∷ names, kind) ∷ fs) some parted all =
    plain_single (codes "properties") (properties_tree n ((name ∷ names, kind) ∷ fs)) (all ((name ∷ names, kind) ∷ fs) (have_names-parted (name ∷ names, kind) fs refl parted))

plain_groups : (n : ℕ) (gs : List Group) → AllByRecursion IsFilled gs → AllByRecursion IsParted gs → ArePlain n
    → AllByRecursion (λ (m : Named Tree). IsPlain m.value) (map (λ (g : Group). record { name = g.name; value = field_tree (properties_tree n) g.value }) gs)
plain_groups n [] filled parted all = tt
plain_groups n (g ∷ gs) filled parted all = (plain_field n g.value filled.0 parted.0 all, plain_groups n gs filled.1 parted.1 all)

plain_properties : (n : ℕ) → ArePlain n
plain_properties zero fs h = plain_object [] refl tt
plain_properties (suc n) fs h =
    let parts = and_parts (list_all (λ (f : Typed). has_some f.0) fs) (are_parted fs) h in
    plain_object (group_trees n fs) (ap is_rising (group_names (λ g. field_tree (properties_tree n) g.value) (groups fs)) ∙ rising-groups fs parts.0 parts.1)
    (plain_groups n (groups fs) (filled-groups fs) (parted-groups fs parts.0 parts.1) (plain_properties n))

-- ---- a mapping

plain_mapping : (mapping : List (Named FieldType)) → is_mapping mapping ≡ true → IsPlain (creation_tree mapping)
unfolding mapping_tree
plain_mapping mapping is =
    plain_single (codes "mappings") (mapping_tree mapping)
    (plain_single (codes "properties") (properties_tree most_pieces (map (left_at 0) mapping)) (plain_properties most_pieces (map (left_at 0) mapping) (known mapping is).named))

-- the body that creates an index with the mapping is read from its text
pub creation_read : (mapping : List (Named FieldType)) → is_mapping mapping ≡ true → IsUtf8 (text_of (creation_tree mapping)) → levels_of (creation_tree mapping) ≤ max_levels → read_of (text_of (creation_tree mapping)) ≡ Ok (creation_tree mapping)
unfolding read_of
creation_read mapping is utf8 levels =
    let plain = plain_mapping mapping is in
    text_back max_levels (creation_tree mapping) plain.0 plain.1 utf8 levels (omega arith)
