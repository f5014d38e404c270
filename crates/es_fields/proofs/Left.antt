-- What is left of a tree, level by level.
use Rattle.std.proofs.Common.{◌≡◌, ℕ, ℤ, List, [], ◌∷◌, ◌++◌, map, Bool, true, false, Option, refl, ap, ◌∙◌, append-nil, append_assoc}
use Rattle.std.specs.List.{filter_map, cons_option}
use Rattle.es_glob.specs.declared.field.FieldRule.{FieldRule}
use Rattle.es_glob.specs.Fields.{rule_grants, grants_all}
use Rattle.es_tree.specs.declared.tree.Tree.{Tree}
use Rattle.es_tree.specs.declared.tree.Tree as tree
use Rattle.es_tree.specs.declared.tree.Named.{Named}
use Rattle.es_tree.specs.Leaves.{dotted_after, dotted}
use Rattle.es_tree.proofs.Induction.{with_value, fold-Null, fold-Bool, fold-Int, fold-Text, fold-List, fold-Object}
use Rattle.es_fields.specs.Projection.{NamesTest, test_behind, scalar_if, list_if_any, object_if_any, member_if, left_step, left_of, grants_names, or_no_members, project_of}
use Rattle.es_fields.specs.Trails.{dots_before, without_dot, grants_behind, left_in}

abbrev Left : Type 0
Left = NamesTest → Option Tree

pub left_of-Null : (granted : NamesTest) → left_of tree.Null granted ≡ scalar_if granted tree.Null
unfolding left_of
left_of-Null granted = ap (λ (left : Left). left granted) (fold-Null Left left_step)

pub left_of-Bool : (b : Bool) (granted : NamesTest) → left_of (tree.Bool b) granted ≡ scalar_if granted (tree.Bool b)
unfolding left_of
left_of-Bool b granted = ap (λ (left : Left). left granted) (fold-Bool Left left_step b)

pub left_of-Int : (z : ℤ) (granted : NamesTest) → left_of (tree.Int z) granted ≡ scalar_if granted (tree.Int z)
unfolding left_of
left_of-Int z granted = ap (λ (left : Left). left granted) (fold-Int Left left_step z)

pub left_of-Text : (s : List ℕ) (granted : NamesTest) → left_of (tree.Text s) granted ≡ scalar_if granted (tree.Text s)
unfolding left_of
left_of-Text s granted = ap (λ (left : Left). left granted) (fold-Text Left left_step s)

items_left : (granted : NamesTest) (ts : List Tree) → filter_map (λ (item : Left). item granted) (map left_of ts) ≡ filter_map (λ t. left_of t granted) ts
items_left granted [] = refl
items_left granted (t ∷ ts) = ap (cons_option (left_of t granted)) (items_left granted ts)

pub left_of-List : (ts : List Tree) (granted : NamesTest) → left_of (tree.List ts) granted ≡ list_if_any (filter_map (λ t. left_of t granted) ts)
unfolding left_of
left_of-List ts granted = ap (λ (left : Left). left granted) (fold-List Left left_step ts) ∙ ap list_if_any (items_left granted ts)

members_left : (granted : NamesTest) (ms : List (Named Tree)) → filter_map (λ (m : Named Left). member_if m.name (m.value (test_behind granted m.name))) (map (with_value left_of) ms) ≡ filter_map (left_in granted) ms
members_left granted [] = refl
members_left granted (m ∷ ms) = ap (cons_option (left_in granted m)) (members_left granted ms)

pub left_of-Object : (ms : List (Named Tree)) (granted : NamesTest) → left_of (tree.Object ms) granted ≡ object_if_any (filter_map (left_in granted) ms)
unfolding left_of
left_of-Object ms granted = ap (λ (left : Left). left granted) (fold-Object Left left_step ms) ∙ ap object_if_any (members_left granted ms)

-- ---- trails

after_name : (name : List ℕ) (names : List (List ℕ)) → name ++ dots_before names ≡ dotted_after name names
after_name name [] = append-nil name
after_name name (next ∷ names) = ap (λ text. name ++ 46 ∷ text) (after_name next names)

from_top : (names : List (List ℕ)) → without_dot (dots_before names) ≡ dotted names
from_top [] = refl
from_top (name ∷ names) = after_name name names

-- at the document itself the test behind the trail is that of all names
pub grants_behind-top : (rule : FieldRule) → grants_behind rule [] ≡ grants_names rule
grants_behind-top rule = λ i names. ap (rule_grants rule) (from_top names) i

-- behind a longer trail the test is that behind the name
pub grants_behind-longer : (rule : FieldRule) (trail name : List ℕ) → grants_behind rule (trail ++ (46 ∷ name)) ≡ test_behind (grants_behind rule trail) name
grants_behind-longer rule trail name = λ i names. ap (λ text. rule_grants rule (without_dot text)) (append_assoc trail (46 ∷ name) (dots_before names)) i

-- at the trail itself
pub grants_behind-here : (rule : FieldRule) (trail : List ℕ) → grants_behind rule trail [] ≡ rule_grants rule (without_dot trail)
grants_behind-here rule trail = ap (λ text. rule_grants rule (without_dot text)) (append-nil trail)

pub left_at_top : (rule : FieldRule) (document : Tree) → left_of document (grants_behind rule []) ≡ left_of document (grants_names rule)
left_at_top rule document = ap (left_of document) (grants_behind-top rule)

-- ---- the whole projection

pub project_of-all : (rule : FieldRule) (document : Tree) → grants_all rule ≡ true → project_of rule document ≡ document
unfolding project_of
project_of-all rule document all = rw all refl

pub project_of-some : (rule : FieldRule) (document : Tree) → grants_all rule ≡ false → project_of rule document ≡ or_no_members (left_of document (grants_names rule))
unfolding project_of
project_of-some rule document some = rw some refl

pub ruleset left_laws = (left_of-Null, left_of-Bool, left_of-Int, left_of-Text, left_of-List, left_of-Object, grants_behind-here)

pub ruleset trail_laws = (grants_behind-longer)

pub ruleset whole_laws = (project_of-all, project_of-some, left_at_top)
