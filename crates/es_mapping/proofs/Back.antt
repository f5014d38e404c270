-- Printed mappings read back.
use Rattle.std.proofs.Common.{◌≡◌, ◌≤◌, ℕ, zero, suc, List, [], ◌∷◌, map, length, drop, Bool, true, false, ◌&&◌, ◌||◌, not, nat_eq, nat_le, Result, Ok, Ordering, Less, Equal, Greater, nat_cmp, codes, if◌then◌else◌, ◌++◌, refl, sym, ap, ap₂, ◌∙◌, arith}
use Rattle.std.specs.List.{list_all, starts_with, AllByRecursion}
use Rattle.std.specs.Ordering.{is_lt, is_eq, ordering_then}
use Rattle.std.specs.Cmp.Lexicographic.{slice_cmp}
use Rattle.std.specs.Str.{bytes_eq}
use Rattle.std.proofs.lemmas.Bool.{and_parts, false≢true, leb-true}
use Rattle.std.proofs.lemmas.Map.Text.{is_eq-slice_cmp}
use Rattle.es_tree.specs.declared.tree.Tree.{Tree}
use Rattle.es_tree.specs.declared.tree.Tree as tree
use Rattle.es_tree.specs.declared.tree.Named.{Named}
use Rattle.es_tree.specs.Rising.{name_of, is_before}
use Rattle.es_tree.specs.Leaves.{dotted}
use Rattle.es_grammar.specs.Members.{each_of}
use Rattle.es_grammar.specs.Values.{has_some}
use Rattle.es_grammar.proofs.Back.{members_of-Object, text_form-Text}
use Rattle.es_value.specs.declared.kinds.FieldType.{FieldType}
use Rattle.es_value.specs.declared.kinds.FieldType.TheVariants.{Keyword, Long, Date}
use Rattle.es_mapping.specs.Paths.{pieces, has_bytes, is_path, is_apart, are_apart, are_paths, path_cmp, comes_before, are_rising}
use Rattle.es_mapping.specs.Below.{continues}
use Rattle.es_mapping.specs.Mappings.{Typed, headed, named_field, properties_form, field_form, field_at, with_paths, with_field, in_order, is_mapping, most_levels, mapping_form}
use Rattle.es_mapping.specs.Printed.{type_name, single, field_tree, properties_tree, groups, most_pieces, mapping_tree, left_at, group_trees, parts_before, are_parted, have_names}
use Rattle.es_mapping.proofs.Pieces.{cut_of, dotted-pieces, are_ordered, are_ordered-rising}
use Rattle.es_mapping.proofs.Apart.{begins, continues-begins}
use Rattle.es_mapping.proofs.Groups.{Group, IsFilled, IsParted, IsShort, ungrouped-groups, filled-groups, short-groups, parted-groups, have_names-parted, alone}

-- ---- a field

typed_back : (inner : Tree → Result (List Typed) (List ℕ)) (kind : FieldType) → field_form inner (single (codes "type") (tree.Text (type_name kind))) ≡ Ok (([], kind) ∷ [])
unfolding field_form
typed_back inner Keyword = rw (members_of-Object (record { name = codes "type"; value = tree.Text (codes "keyword") } ∷ []), text_form-Text (codes "keyword")) refl
typed_back inner Long = rw (members_of-Object (record { name = codes "type"; value = tree.Text (codes "long") } ∷ []), text_form-Text (codes "long")) refl
typed_back inner Date = rw (members_of-Object (record { name = codes "type"; value = tree.Text (codes "date") } ∷ []), text_form-Text (codes "date")) refl

named_back : (inner : Tree → Result (List Typed) (List ℕ)) (t : Tree) (fs : List Typed) → properties_form inner t ≡ Ok fs → field_form inner (single (codes "properties") t) ≡ Ok fs
unfolding field_form
named_back inner t fs e = rw (members_of-Object (record { name = codes "properties"; value = t } ∷ []), e) refl

-- ---- groups

each_back : (form : Tree → Result (List Typed) (List ℕ)) (print : List Typed → Tree) (gs : List Group) → AllByRecursion (λ (g : Group). form (print g.value) ≡ Ok g.value) gs
    → each_of (named_field form) (map (λ (g : Group). (record { name = g.name; value = print g.value })) gs) ≡ Ok (map (λ (g : Group). headed g.name g.value) gs)
each_back form print [] h = refl
each_back form print (g ∷ gs) h = rw (h.0, each_back form print gs h.1) refl

-- fields that are at most so many names deep read back
abbrev ReadBack : ℕ → ℕ → Type 0
ReadBack n m = (fs : List Typed) → have_names fs ≡ true → IsShort n fs → properties_form (field_at m) (properties_tree n fs) ≡ Ok fs

field_back : (n m : ℕ) (fs : List Typed) → has_some fs ≡ true → are_parted fs ≡ true → IsShort n fs → ReadBack n m → field_form (field_at m) (field_tree (properties_tree n) fs) ≡ Ok fs
field_back n m [] some parted short back = absurd (false≢true some)
field_back n m (([], k) ∷ fs) some parted short back = typed_back (field_at m) k ∙ ap (λ l. Ok (([], k) ∷ l)) (sym (alone k fs parted))
field_back n m ((name ∷ names, k) ∷ fs) some parted short back =
    named_back (field_at m) (properties_tree n ((name ∷ names, k) ∷ fs)) ((name ∷ names, k) ∷ fs) (back ((name ∷ names, k) ∷ fs) (have_names-parted (name ∷ names, k) fs refl parted) short)

fields_back : (n m : ℕ) (gs : List Group) → AllByRecursion IsFilled gs → AllByRecursion IsParted gs → AllByRecursion (λ (g : Group). IsShort n g.value) gs → ReadBack n m
    → AllByRecursion (λ (g : Group). field_form (field_at m) (field_tree (properties_tree n) g.value) ≡ Ok g.value) gs
fields_back n m [] filled parted short back = tt
fields_back n m (g ∷ gs) filled parted short back = (field_back n m g.value filled.0 parted.0 short.0 back, fields_back n m gs filled.1 parted.1 short.1 back)

pub properties_back : (n m : ℕ) → n ≤ m → ReadBack n m
properties_back zero m le [] h s = rw (members_of-Object []) refl
properties_back zero m le (([], k) ∷ fs) h s = absurd (false≢true h)
properties_back zero m le ((name ∷ names, k) ∷ fs) h s = let first = s.0 in absurd (omega arith)
properties_back (suc n) zero le fs h s = absurd (omega arith)
properties_back (suc n) (suc m) le fs h s =
    let parts = and_parts (list_all (λ (f : Typed). has_some f.0) fs) (are_parted fs) h in
    let less : n ≤ m = omega arith in
    let each = each_back (field_at (suc m)) (field_tree (properties_tree n)) (groups fs) (fields_back n m (groups fs) (filled-groups fs) (parted-groups fs parts.0 parts.1) (short-groups n fs s) (properties_back n m less)) in
    rw (members_of-Object (group_trees n fs), each) (ap Ok (ungrouped-groups fs parts.0))

-- ---- the fields of a mapping

parts_at : (o : Ordering) (p q : List ℕ) (ps qs : List (List ℕ)) → slice_cmp nat_cmp p q ≡ o → is_lt (ordering_then o (slice_cmp (slice_cmp nat_cmp) ps qs)) ≡ true → (bytes_eq p q && begins ps qs) ≡ false
    → (is_lt (slice_cmp (slice_cmp nat_cmp) ps qs) ≡ true → begins ps qs ≡ false → parts_before ps qs ≡ true) → parts_before (p ∷ ps) (q ∷ qs) ≡ true
parts_at Less p q ps qs e lt apart more = ap (λ o. is_lt o || (bytes_eq p q && parts_before ps qs)) e
parts_at Equal p q ps qs e lt apart more =
    let same : bytes_eq p q ≡ true = sym (is_eq-slice_cmp p q) ∙ ap is_eq e in
    ap₂ (λ o b. is_lt o || (b && parts_before ps qs)) e same ∙ more lt (ap (λ b. b && begins ps qs) (sym same) ∙ apart)
parts_at Greater p q ps qs e lt apart more = absurd (false≢true lt)

parts_where : (ps qs : List (List ℕ)) → is_lt (slice_cmp (slice_cmp nat_cmp) ps qs) ≡ true → begins ps qs ≡ false → parts_before ps qs ≡ true
parts_where [] qs lt apart = absurd (false≢true (sym apart))
parts_where (p ∷ ps) [] lt apart = absurd (false≢true lt)
parts_where (p ∷ ps) (q ∷ qs) lt apart = parts_at (slice_cmp nat_cmp p q) p q ps qs refl lt apart (parts_where ps qs)

neither : (a b c : Bool) → (not a && (not b && not c)) ≡ true → (a || b) ≡ false
neither true b c h = absurd (false≢true h)
neither false true c h = absurd (false≢true h)
neither false false c h = refl

-- of two paths that are apart the names part
paths_part : (x y : List ℕ) → comes_before x y ≡ true → is_apart x y ≡ true → parts_before (pieces x) (pieces y) ≡ true
unfolding path_cmp
paths_part x y lt apart = parts_where (pieces x) (pieces y) lt (sym (continues-begins x y) ∙ neither (bytes_eq x y) (starts_with nat_eq y (x ++ codes ".")) (starts_with nat_eq x (y ++ codes ".")) apart)

first_parts : (x : List ℕ) (fs : List (Named FieldType)) → list_all (comes_before x) (map name_of fs) ≡ true → list_all (is_apart x) (map name_of fs) ≡ true → list_all (λ (g : Typed). parts_before (pieces x) g.0) (map (left_at 0) fs) ≡ true
first_parts x [] before apart = refl
first_parts x (f ∷ fs) before apart =
    let b = and_parts (comes_before x f.name) (list_all (comes_before x) (map name_of fs)) before in
    let a = and_parts (is_apart x f.name) (list_all (is_apart x) (map name_of fs)) apart in
    rw (paths_part x f.name b.0 a.0, first_parts x fs b.1 a.1) refl

parted_paths : (fs : List (Named FieldType)) → are_ordered (map name_of fs) ≡ true → are_apart (map name_of fs) ≡ true → are_parted (map (left_at 0) fs) ≡ true
parted_paths [] up apart = refl
parted_paths (f ∷ fs) up apart =
    let u = and_parts (list_all (comes_before f.name) (map name_of fs)) (are_ordered (map name_of fs)) up in
    let a = and_parts (list_all (is_apart f.name) (map name_of fs)) (are_apart (map name_of fs)) apart in
    rw (first_parts f.name fs u.0 a.0, parted_paths fs u.1 a.1) refl

named_paths : (fs : List (Named FieldType)) → list_all (λ (f : Typed). has_some f.0) (map (left_at 0) fs) ≡ true
named_paths [] = refl
named_paths (f ∷ fs) = ap (λ ps. has_some ps && list_all (λ (g : Typed). has_some g.0) (map (left_at 0) fs)) (cut_of f.name).is ∙ named_paths fs

short_paths : (fs : List (Named FieldType)) → list_all is_path (map name_of fs) ≡ true → IsShort most_pieces (map (left_at 0) fs)
short_paths [] h = tt
short_paths (f ∷ fs) h =
    let parts = and_parts (is_path f.name) (list_all is_path (map name_of fs)) h in
    let path = and_parts (list_all has_bytes (pieces f.name)) (nat_le (length (pieces f.name)) 30) parts.0 in
    (leb-true (length (pieces f.name)) 30 path.1, short_paths fs parts.1)

pub record Known (fs : List (Named FieldType)) : Type 0 where
  pub paths : are_paths (map name_of fs) ≡ true
  pub ordered : are_ordered (map name_of fs) ≡ true
  pub named : have_names (map (left_at 0) fs) ≡ true
  pub short : IsShort most_pieces (map (left_at 0) fs)

pub known : (fs : List (Named FieldType)) → is_mapping fs ≡ true → Known fs
known fs h =
    let parts = and_parts (are_paths (map name_of fs)) (are_rising (map name_of fs)) h in
    let each = and_parts (list_all is_path (map name_of fs)) (are_apart (map name_of fs)) parts.0 in
    let ordered = are_ordered-rising (map name_of fs) parts.1 in
    record {
      paths = parts.0;
      ordered = ordered;
      named = rw (named_paths fs, parted_paths fs ordered each.1) refl;
      short = short_paths fs each.0;
    }

-- ---- a mapping

with_first : (f : Named FieldType) (fs : List (Named FieldType)) → list_all (comes_before f.name) (map name_of fs) ≡ true → with_field f fs ≡ f ∷ fs
with_first f [] h = refl
with_first f (g ∷ gs) h = rw ((and_parts (comes_before f.name g.name) (list_all (comes_before f.name) (map name_of gs)) h).0) refl

in_order-same : (fs : List (Named FieldType)) → are_ordered (map name_of fs) ≡ true → in_order fs ≡ fs
in_order-same [] h = refl
in_order-same (f ∷ fs) h =
    let parts = and_parts (list_all (comes_before f.name) (map name_of fs)) (are_ordered (map name_of fs)) h in
    ap (with_field f) (in_order-same fs parts.1) ∙ with_first f fs parts.0

paths_again : (fs : List (Named FieldType)) → with_paths (map (left_at 0) fs) ≡ fs
paths_again [] = refl
paths_again (f ∷ fs) = ap₂ (λ (q : List ℕ) (l : List (Named FieldType)). (record { name = q; value = f.value }) ∷ l) (dotted-pieces f.name) (paths_again fs)

whole_back : (t : Tree) (fs : List (Named FieldType)) (found : List Typed) → properties_form (field_at most_levels) t ≡ Ok found → with_paths found ≡ fs → are_paths (map name_of fs) ≡ true → in_order fs ≡ fs → mapping_form (single (codes "properties") t) ≡ Ok fs
unfolding mapping_form
whole_back t fs found e names paths order = rw (members_of-Object (record { name = codes "properties"; value = t } ∷ []), e, names, paths, order) refl

deep_enough : most_pieces ≤ most_levels
unfolding most_levels
deep_enough = omega arith

-- a mapping's tree is that of the mapping
pub mapping_back : (fs : List (Named FieldType)) → is_mapping fs ≡ true → mapping_form (mapping_tree fs) ≡ Ok fs
unfolding mapping_tree
mapping_back fs h =
    let k = known fs h in
    whole_back (properties_tree most_pieces (map (left_at 0) fs)) fs (map (left_at 0) fs) (properties_back most_pieces most_levels deep_enough (map (left_at 0) fs) k.named k.short) (paths_again fs) k.paths (in_order-same fs k.ordered)

pub whole_tree : (fs items : List (Named FieldType)) (t : Tree) → items ≡ fs → t ≡ properties_tree most_pieces (map (left_at 0) items) → single (codes "properties") t ≡ mapping_tree fs
unfolding mapping_tree
whole_tree fs items t e is = ap (single (codes "properties")) (is ∙ ap (λ (l : List (Named FieldType)). properties_tree most_pieces (map (left_at 0) l)) e)
