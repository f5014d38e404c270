-- What is left has its names in order.
use Rattle.std.proofs.Common.{◌≡◌, ℕ, List, [], ◌∷◌, map, Bool, true, false, ◌&&◌, Option, Some, None, refl, sym, ap, ap₂, ◌∙◌, ◌++◌, ◌≤◌, length, drop, append-nil}
use Rattle.std.specs.Prelude.{if◌then◌else◌}
use Rattle.std.specs.List.{filter_map, cons_option, list_all, AllByRecursion}
use Rattle.std.proofs.lemmas.Bool.{and_parts}
use Rattle.std.proofs.lemmas.List.{drop_all}
use Rattle.es_glob.specs.declared.field.FieldRule.{FieldRule}
use Rattle.es_glob.specs.Fields.{grants_all}
use Rattle.es_tree.specs.declared.tree.Tree.{Tree}
use Rattle.es_tree.specs.declared.tree.Tree as tree
use Rattle.es_tree.specs.declared.tree.Named.{Named}
use Rattle.es_tree.specs.Rising.{name_of, is_before, is_rising}
use Rattle.es_tree.specs.Order.{is_ordered}
use Rattle.es_tree.proofs.Induction.{for_trees, is_ordered-List, is_ordered-Object}
use Rattle.es_fields.specs.Projection.{NamesTest, test_behind, scalar_if, list_if_any, object_if_any, member_if, left_of, grants_names, or_no_members, project_of}
use Rattle.es_fields.specs.Trails.{left_in}
use Rattle.es_fields.specs.Laws.{StaysOrdered}
use Rattle.es_fields.proofs.Left.{left_of-Null, left_of-Bool, left_of-Int, left_of-Text, left_of-List, left_of-Object, project_of-all, project_of-some}

abbrev names_left : NamesTest → List (Named Tree) → List (List ℕ)
names_left granted ms = map name_of (filter_map (left_in granted) ms)

one_holds : (p : List ℕ → Bool) (name : List ℕ) (o : Option Tree) (ms : List (Named Tree)) → p name ≡ true → list_all p (map name_of ms) ≡ true → list_all p (map name_of (cons_option (member_if name o) ms)) ≡ true
one_holds p name None ms holds all = all
one_holds p name (Some t) ms holds all = rw (holds, all) refl

-- what holds of all names holds of those that are left
all_left : (granted : NamesTest) (p : List ℕ → Bool) (ms : List (Named Tree)) → list_all p (map name_of ms) ≡ true → list_all p (names_left granted ms) ≡ true
all_left granted p [] all = refl
all_left granted p (m ∷ ms) all =
    let parts = and_parts (p m.name) (list_all p (map name_of ms)) all in
    one_holds p m.name (left_of m.value (test_behind granted m.name)) (filter_map (left_in granted) ms) parts.0 (all_left granted p ms parts.1)

one_rises : (name : List ℕ) (o : Option Tree) (ms : List (Named Tree)) → list_all (is_before name) (map name_of ms) ≡ true → is_rising (map name_of ms) ≡ true → is_rising (map name_of (cons_option (member_if name o) ms)) ≡ true
one_rises name None ms before up = up
one_rises name (Some t) ms before up = rw (before, up) refl

pub rising_left : (granted : NamesTest) (ms : List (Named Tree)) → is_rising (map name_of ms) ≡ true → is_rising (names_left granted ms) ≡ true
rising_left granted [] up = refl
rising_left granted (m ∷ ms) up =
    let parts = and_parts (list_all (is_before m.name) (map name_of ms)) (is_rising (map name_of ms)) up in
    one_rises m.name (left_of m.value (test_behind granted m.name)) (filter_map (left_in granted) ms) (all_left granted (is_before m.name) ms parts.0) (rising_left granted ms parts.1)

-- what a loop over all members has at its end
pub rising_at_end : (granted : NamesTest) (left items members : List (Named Tree)) (i : ℕ) → left ++ filter_map (left_in granted) (drop i items) ≡ filter_map (left_in granted) members → length items ≤ i → is_rising (map name_of members) ≡ true → is_rising (map name_of left) ≡ true
rising_at_end granted left items members i left_is past up =
    let all : left ≡ filter_map (left_in granted) members = sym (append-nil left) ∙ ap (λ (ms : List (Named Tree)). left ++ filter_map (left_in granted) ms) (sym (drop_all i items past)) ∙ left_is in
    ap (λ (ms : List (Named Tree)). is_rising (map name_of ms)) all ∙ rising_left granted members up

-- ---- trees

abbrev ordered_in : Option Tree → Bool
ordered_in None = true
ordered_in (Some t) = is_ordered t

abbrev OrderLeft : Tree → Type 0
OrderLeft t = (granted : NamesTest) → is_ordered t ≡ true → ordered_in (left_of t granted) ≡ true

scalar_by : (b : Bool) (t : Tree) → is_ordered t ≡ true → ordered_in (if b then Some t else None) ≡ true
scalar_by true t up = up
scalar_by false t up = refl

scalar_left : (t : Tree) → ((granted : NamesTest) → left_of t granted ≡ scalar_if granted t) → OrderLeft t
scalar_left t left granted up = ap ordered_in (left granted) ∙ scalar_by (granted []) t up

list_ordered : (ts : List Tree) → list_all is_ordered ts ≡ true → ordered_in (list_if_any ts) ≡ true
list_ordered [] up = refl
list_ordered (t ∷ ts) up = is_ordered-List (t ∷ ts) ∙ up

item_more : (o : Option Tree) (ts : List Tree) → ordered_in o ≡ true → list_all is_ordered ts ≡ true → list_all is_ordered (cons_option o ts) ≡ true
item_more None ts up more = more
item_more (Some t) ts up more = rw (up, more) refl

items_left : (granted : NamesTest) (ts : List Tree) → AllByRecursion OrderLeft ts → list_all is_ordered ts ≡ true → list_all is_ordered (filter_map (λ t. left_of t granted) ts) ≡ true
items_left granted [] each up = refl
items_left granted (t ∷ ts) each up =
    let parts = and_parts (is_ordered t) (list_all is_ordered ts) up in
    item_more (left_of t granted) (filter_map (λ u. left_of u granted) ts) (each.0 granted parts.0) (items_left granted ts each.1 parts.1)

list_left : (ts : List Tree) → AllByRecursion OrderLeft ts → OrderLeft (tree.List ts)
list_left ts each granted up =
    ap ordered_in (left_of-List ts granted) ∙ list_ordered (filter_map (λ t. left_of t granted) ts) (items_left granted ts each (sym (is_ordered-List ts) ∙ up))

abbrev values_ordered : List (Named Tree) → Bool
values_ordered ms = list_all (λ m. is_ordered m.value) ms

object_ordered : (ms : List (Named Tree)) → is_rising (map name_of ms) ≡ true → values_ordered ms ≡ true → ordered_in (object_if_any ms) ≡ true
object_ordered [] up each = refl
object_ordered (m ∷ ms) up each = is_ordered-Object (m ∷ ms) ∙ ap₂ (λ a b. a && b) up each

member_more : (name : List ℕ) (o : Option Tree) (ms : List (Named Tree)) → ordered_in o ≡ true → values_ordered ms ≡ true → values_ordered (cons_option (member_if name o) ms) ≡ true
member_more name None ms up more = more
member_more name (Some t) ms up more = rw (up, more) refl

members_left : (granted : NamesTest) (ms : List (Named Tree)) → AllByRecursion (λ m. OrderLeft m.value) ms → values_ordered ms ≡ true → values_ordered (filter_map (left_in granted) ms) ≡ true
members_left granted [] each up = refl
members_left granted (m ∷ ms) each up =
    let parts = and_parts (is_ordered m.value) (values_ordered ms) up in
    member_more m.name (left_of m.value (test_behind granted m.name)) (filter_map (left_in granted) ms) (each.0 (test_behind granted m.name) parts.0) (members_left granted ms each.1 parts.1)

object_left : (ms : List (Named Tree)) → AllByRecursion (λ m. OrderLeft m.value) ms → OrderLeft (tree.Object ms)
object_left ms each granted up =
    let parts = and_parts (is_rising (map name_of ms)) (values_ordered ms) (sym (is_ordered-Object ms) ∙ up) in
    ap ordered_in (left_of-Object ms granted) ∙ object_ordered (filter_map (left_in granted) ms) (rising_left granted ms parts.0) (members_left granted ms each parts.1)

order_left : (t : Tree) → OrderLeft t
order_left = for_trees OrderLeft
    (scalar_left tree.Null left_of-Null)
    (λ b. scalar_left (tree.Bool b) (left_of-Bool b))
    (λ z. scalar_left (tree.Int z) (left_of-Int z))
    (λ s. scalar_left (tree.Text s) (left_of-Text s))
    list_left object_left

outermost : (o : Option Tree) → ordered_in o ≡ true → is_ordered (or_no_members o) ≡ true
outermost None up = is_ordered-Object []
outermost (Some t) up = up

ordered_case : (rule : FieldRule) (document : Tree) (b : Bool) → grants_all rule ≡ b → is_ordered document ≡ true → is_ordered (project_of rule document) ≡ true
ordered_case rule document true all up = ap is_ordered (project_of-all rule document all) ∙ up
ordered_case rule document false some up = ap is_ordered (project_of-some rule document some) ∙ outermost (left_of document (grants_names rule)) (order_left document (grants_names rule) up)

pub stays_ordered : StaysOrdered
stays_ordered rule document = ordered_case rule document (grants_all rule) refl
