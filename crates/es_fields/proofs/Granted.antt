-- The scalars of what is left are those that the test holds of.
use Rattle.std.proofs.Common.{◌≡◌, ℕ, List, [], ◌∷◌, ◌++◌, map, Bool, true, false, Option, Some, None, refl, sym, ap, ap₂, ◌∙◌, arith}
use Rattle.std.specs.Prelude.{if◌then◌else◌}
use Rattle.std.specs.List.{filter, filter_map, cons_option, flat_map, AllByRecursion}
use Rattle.std.proofs.lemmas.Bool.{and_parts}
use Rattle.std.proofs.lemmas.List.Elements.{filter-append}
use Rattle.es_glob.specs.declared.field.FieldRule.{FieldRule}
use Rattle.es_glob.specs.declared.field.FieldClause.{FieldClause}
use Rattle.es_glob.specs.declared.field.FieldClause.TheVariants.{All as AllFields, Any as AnyPair}
use Rattle.es_glob.specs.Fields.{clause_grants, clause_grants_all, rule_grants, grants_all}
use Rattle.es_tree.specs.declared.tree.Tree.{Tree}
use Rattle.es_tree.specs.declared.tree.Tree as tree
use Rattle.es_tree.specs.declared.tree.Named.{Named}
use Rattle.es_tree.specs.declared.kinds.Leaf.{Leaf}
use Rattle.es_tree.specs.Leaves.{Path, extended, paths_of, dotted, leaves_of}
use Rattle.es_tree.proofs.Induction.{for_trees}
use Rattle.es_tree.proofs.Paths.{paths_of-List, paths_of-Object, paths_of-Null, paths_of-Bool, paths_of-Int, paths_of-Text}
use Rattle.es_fields.specs.Projection.{NamesTest, test_behind, scalar_if, list_if_any, object_if_any, member_if, left_of, grants_names, or_no_members, project_of}
use Rattle.es_fields.specs.Trails.{left_in}
use Rattle.es_fields.specs.Laws.{LeavesGranted}
use Rattle.es_fields.proofs.Left.{left_of-Null, left_of-Bool, left_of-Int, left_of-Text, left_of-List, left_of-Object, project_of-all, project_of-some}

-- the scalars of what is left
abbrev paths_in : Option Tree → List Path
paths_in None = []
paths_in (Some t) = paths_of t

-- those of the paths that the test holds of
abbrev granted_of : NamesTest → List Path → List Path
granted_of granted ps = filter (λ p. granted p.0) ps

abbrev LeavesLeft : Tree → Type 0
LeavesLeft t = (granted : NamesTest) → paths_in (left_of t granted) ≡ granted_of granted (paths_of t)

scalar_by : (b : Bool) (t : Tree) → paths_of t ≡ ([], t) ∷ [] → paths_in (if b then Some t else None) ≡ (if b then ([], t) ∷ [] else [])
scalar_by true t here = here
scalar_by false t here = refl

scalar_left : (t : Tree) → paths_of t ≡ ([], t) ∷ [] → ((granted : NamesTest) → left_of t granted ≡ scalar_if granted t) → LeavesLeft t
scalar_left t here left granted =
    ap paths_in (left granted) ∙ scalar_by (granted []) t here ∙ sym (ap (granted_of granted) here)

list_paths : (ts : List Tree) → paths_in (list_if_any ts) ≡ flat_map paths_of ts
list_paths [] = refl
list_paths (t ∷ ts) = paths_of-List (t ∷ ts)

abbrev member_paths : Named Tree → List Path
member_paths m = extended m.name (paths_of m.value)

object_paths : (ms : List (Named Tree)) → paths_in (object_if_any ms) ≡ flat_map member_paths ms
object_paths [] = refl
object_paths (m ∷ ms) = paths_of-Object (m ∷ ms)

item_more : (o : Option Tree) (ts : List Tree) → flat_map paths_of (cons_option o ts) ≡ paths_in o ++ flat_map paths_of ts
item_more None ts = refl
item_more (Some t) ts = refl

items_granted : (granted : NamesTest) (ts : List Tree) → AllByRecursion LeavesLeft ts → flat_map paths_of (filter_map (λ t. left_of t granted) ts) ≡ granted_of granted (flat_map paths_of ts)
items_granted granted [] each = refl
items_granted granted (t ∷ ts) each =
    item_more (left_of t granted) (filter_map (λ u. left_of u granted) ts)
    ∙ ap₂ (λ (x y : List Path). x ++ y) (each.0 granted) (items_granted granted ts each.1)
    ∙ sym (filter-append (λ (p : Path). granted p.0) (paths_of t) (flat_map paths_of ts))

member_more : (name : List ℕ) (o : Option Tree) (ms : List (Named Tree)) → flat_map member_paths (cons_option (member_if name o) ms) ≡ extended name (paths_in o) ++ flat_map member_paths ms
member_more name None ms = refl
member_more name (Some t) ms = refl

extended_by : (b : Bool) (name : List ℕ) (p : Path) (ps : List Path) → extended name (if b then p ∷ ps else ps) ≡ (if b then (name ∷ p.0, p.1) ∷ extended name ps else extended name ps)
extended_by true name p ps = refl
extended_by false name p ps = refl

extended_granted : (granted : NamesTest) (name : List ℕ) (ps : List Path) → extended name (granted_of (test_behind granted name) ps) ≡ granted_of granted (extended name ps)
extended_granted granted name [] = refl
extended_granted granted name (p ∷ ps) =
    extended_by (granted (name ∷ p.0)) name p (granted_of (test_behind granted name) ps)
    ∙ ap (λ (l : List Path). if granted (name ∷ p.0) then (name ∷ p.0, p.1) ∷ l else l) (extended_granted granted name ps)

members_granted : (granted : NamesTest) (ms : List (Named Tree)) → AllByRecursion (λ m. LeavesLeft m.value) ms → flat_map member_paths (filter_map (left_in granted) ms) ≡ granted_of granted (flat_map member_paths ms)
members_granted granted [] each = refl
members_granted granted (m ∷ ms) each =
    member_more m.name (left_of m.value (test_behind granted m.name)) (filter_map (left_in granted) ms)
    ∙ ap₂ (λ (x y : List Path). x ++ y) (ap (extended m.name) (each.0 (test_behind granted m.name)) ∙ extended_granted granted m.name (paths_of m.value)) (members_granted granted ms each.1)
    ∙ sym (filter-append (λ (p : Path). granted p.0) (member_paths m) (flat_map member_paths ms))

list_left : (ts : List Tree) → AllByRecursion LeavesLeft ts → LeavesLeft (tree.List ts)
list_left ts each granted =
    ap paths_in (left_of-List ts granted) ∙ list_paths (filter_map (λ t. left_of t granted) ts) ∙ items_granted granted ts each
    ∙ sym (ap (granted_of granted) (paths_of-List ts))

object_left : (ms : List (Named Tree)) → AllByRecursion (λ m. LeavesLeft m.value) ms → LeavesLeft (tree.Object ms)
object_left ms each granted =
    ap paths_in (left_of-Object ms granted) ∙ object_paths (filter_map (left_in granted) ms) ∙ members_granted granted ms each
    ∙ sym (ap (granted_of granted) (paths_of-Object ms))

paths_left : (t : Tree) → LeavesLeft t
paths_left = for_trees LeavesLeft
    (scalar_left tree.Null paths_of-Null left_of-Null)
    (λ b. scalar_left (tree.Bool b) (paths_of-Bool b) (left_of-Bool b))
    (λ z. scalar_left (tree.Int z) (paths_of-Int z) (left_of-Int z))
    (λ s. scalar_left (tree.Text s) (paths_of-Text s) (left_of-Text s))
    list_left object_left

-- ---- leaves

abbrev leaf_of : Path → Leaf
leaf_of p = record { path = dotted p.0; value = p.1 }

abbrev granted_leaves : FieldRule → List Leaf → List Leaf
granted_leaves rule ls = filter (λ l. rule_grants rule l.path) ls

leaf_by : (b : Bool) (p : Path) (ps : List Path) → map leaf_of (if b then p ∷ ps else ps) ≡ (if b then leaf_of p ∷ map leaf_of ps else map leaf_of ps)
leaf_by true p ps = refl
leaf_by false p ps = refl

leaves_by : (rule : FieldRule) (ps : List Path) → map leaf_of (granted_of (grants_names rule) ps) ≡ granted_leaves rule (map leaf_of ps)
leaves_by rule [] = refl
leaves_by rule (p ∷ ps) =
    leaf_by (rule_grants rule (dotted p.0)) p (granted_of (grants_names rule) ps)
    ∙ ap (λ (l : List Leaf). if rule_grants rule (dotted p.0) then leaf_of p ∷ l else l) (leaves_by rule ps)

outermost : (o : Option Tree) → paths_of (or_no_members o) ≡ paths_in o
outermost None = paths_of-Object []
outermost (Some t) = refl

clause_all : (clause : FieldClause) (path : List ℕ) → clause_grants_all clause ≡ true → clause_grants clause path ≡ true
clause_all AllFields path all = refl
clause_all (AnyPair pairs) path all = absurd (grind arith)

-- a rule that grants every field grants each
pub rule_all : (rule : FieldRule) (path : List ℕ) → grants_all rule ≡ true → rule_grants rule path ≡ true
rule_all rule path all =
    let both = and_parts (clause_grants_all rule.first) (clause_grants_all rule.second) all in
    rw (clause_all rule.first path both.0, clause_all rule.second path both.1) refl

all_leaves : (rule : FieldRule) → grants_all rule ≡ true → (ls : List Leaf) → ls ≡ granted_leaves rule ls
all_leaves rule all [] = refl
all_leaves rule all (l ∷ ls) = rw (rule_all rule l.path all) (ap (λ (m : List Leaf). l ∷ m) (all_leaves rule all ls))

some_leaves : (rule : FieldRule) (document : Tree) → leaves_of (or_no_members (left_of document (grants_names rule))) ≡ granted_leaves rule (leaves_of document)
unfolding leaves_of
some_leaves rule document =
    ap (map leaf_of) (outermost (left_of document (grants_names rule)) ∙ paths_left document (grants_names rule)) ∙ leaves_by rule (paths_of document)

leaves_case : (rule : FieldRule) (document : Tree) (b : Bool) → grants_all rule ≡ b → leaves_of (project_of rule document) ≡ granted_leaves rule (leaves_of document)
leaves_case rule document true all = ap leaves_of (project_of-all rule document all) ∙ all_leaves rule all (leaves_of document)
leaves_case rule document false some = ap leaves_of (project_of-some rule document some) ∙ some_leaves rule document

pub leaves_granted : LeavesGranted
leaves_granted rule document = leaves_case rule document (grants_all rule) refl
