-- The data of a tree, which reads back as that tree.
use Rattle.std.proofs.Common.{◌≡◌, ℕ, ◌≤◌, ◌<◌, ◌^◌, suc, max, ℤ, pos, negsuc, List, [], ◌∷◌, ◌++◌, map, Bool, true, Some, option_map, option_and_then, nat_cmp, refl, sym, ap, ap₂, ◌∙◌, subst, append_assoc, append-nil, arith}
use Rattle.std.specs.List.{AllByRecursion, list_all}
use Rattle.std.specs.Fmt.{signed_decimal}
use Rattle.std.specs.Ordering.{is_lt}
use Rattle.std.specs.Cmp.Lexicographic.{slice_cmp}
use Rattle.std.proofs.lemmas.Bool.{and_parts}
use Rattle.std.proofs.lemmas.Bool.Decides.{nat_tests}
use Rattle.json.specs.Json as json
use Rattle.json.specs.Print.{print, IsNumber}
use Rattle.json.specs.Tree as jtree
use Rattle.json.specs.Lex.{tokens}
use Rattle.json.specs.Tree.{json_tokens}
use Rattle.json.proofs.Printed.Decimals.{IsNumber-signed_decimal}
use Rattle.json.proofs.Printed.Tokens.{tokens-print}
use Rattle.json.proofs.Printed.Trees.{value-json_tokens, ArePrintable-json_tokens}
use Rattle.serde_json.specs.Data.{Data, null, boolean, number, string, array, object, Items, no_items, item, Members, no_members, member, put, depth, items_depth, members_depth}
use Rattle.serde_json.specs.Find.{as_i64, of_integer}
use Rattle.serde_json.specs.Read.{number_of, of_json, of_items, of_members, max_depth, read}
use Rattle.serde_json.proofs.Numbers.{number_of-decimal, number_of-negative}
use Rattle.es_tree.specs.declared.tree.Tree.{Tree, Tree-F, fold-Tree}
use Rattle.es_tree.specs.declared.tree.Tree as tree
use Rattle.es_tree.specs.declared.tree.Named.{Named}
use Rattle.es_tree.specs.Text.{text_of}
use Rattle.es_tree.specs.Order.{ordered_step, is_ordered, greatest, levels_step, levels_of, fits_i64, fitting_step, is_fitting}
use Rattle.es_tree.specs.Rising.{name_of, is_rising}
use Rattle.es_tree.specs.Read.{tree_of, trees_of, members_of}
use Rattle.es_tree.proofs.Names.{above}
use Rattle.es_tree.proofs.Induction.{with_value, names_with, for_trees, fold-List, fold-Object, fold-Null, fold-Bool, fold-Int, fold-Text}
use Rattle.es_tree.proofs.Shapes as shapes
use Rattle.es_tree.proofs.Shapes.{shape_step, shape, print-json_tokens, depth-shape}

abbrev pub data_items : List Data → Items
data_items [] = no_items
data_items (d ∷ ds) = item d (data_items ds)

abbrev pub data_members : List (Named Data) → Members
data_members [] = no_members
data_members (m ∷ ms) = member m.name m.value (data_members ms)

abbrev pub data_step : Tree-F Data → Data
data_step Tree-F.Null = null
data_step (Tree-F.Bool b) = boolean b
data_step (Tree-F.Int z) = number (of_integer z)
data_step (Tree-F.Text s) = string s
data_step (Tree-F.List ds) = array (data_items ds)
data_step (Tree-F.Object ms) = object (data_members ms)

abbrev pub data_of : Tree → Data
data_of = fold-Tree Data data_step

-- ---- how deep it nests

abbrev Nests : Tree → Type 0
Nests t = depth (data_of t) ≡ levels_of t

items_nest : (ts : List Tree) → AllByRecursion Nests ts → items_depth (data_items (map data_of ts)) ≡ greatest (map levels_of ts)
items_nest [] h = refl
items_nest (t ∷ ts) h = ap₂ max h.0 (items_nest ts h.1)

members_nest : (ms : List (Named Tree)) → AllByRecursion (λ m. Nests m.value) ms → members_depth (data_members (map (with_value data_of) ms)) ≡ greatest (map (λ m. m.value) (map (with_value levels_of) ms))
members_nest [] h = refl
members_nest (m ∷ ms) h = ap₂ max h.0 (members_nest ms h.1)

pub depth-data_of : (t : Tree) → depth (data_of t) ≡ levels_of t
unfolding levels_of
depth-data_of =
    for_trees Nests
    (rw (fold-Null Data data_step, fold-Null ℕ levels_step))
    (λ b. rw (fold-Bool Data data_step, fold-Bool ℕ levels_step))
    (λ z. rw (fold-Int Data data_step, fold-Int ℕ levels_step))
    (λ s. rw (fold-Text Data data_step, fold-Text ℕ levels_step))
    (λ ts h. rw (fold-List Data data_step ts, fold-List ℕ levels_step ts) (ap suc (items_nest ts h)))
    (λ ms h. rw (fold-Object Data data_step ms, fold-Object ℕ levels_step ms) (ap suc (members_nest ms h)))

-- ---- the tree of the data

as_i64-of_integer : (z : ℤ) → fits_i64 z ≡ true → as_i64 (of_integer z) ≡ Some z
as_i64-of_integer (pos n) h = rw h
as_i64-of_integer (negsuc n) h = refl

abbrev Returns : Tree → Type 0
Returns t = is_fitting t ≡ true → tree_of (data_of t) ≡ Some t

trees_return : (ts : List Tree) → AllByRecursion Returns ts → list_all (λ b. b) (map is_fitting ts) ≡ true → trees_of (data_items (map data_of ts)) ≡ Some ts
trees_return [] h fits = refl
trees_return (t ∷ ts) h fits = let f = and_parts (is_fitting t) _ fits in rw (h.0 f.0, trees_return ts h.1 f.1)

members_return : (ms : List (Named Tree)) → AllByRecursion (λ m. Returns m.value) ms → list_all (λ m. m.value) (map (with_value is_fitting) ms) ≡ true → members_of (data_members (map (with_value data_of) ms)) ≡ Some ms
members_return [] h fits = refl
members_return (m ∷ ms) h fits = let f = and_parts (is_fitting m.value) _ fits in rw (h.0 f.0, members_return ms h.1 f.1)

pub tree_of-data_of : (t : Tree) → is_fitting t ≡ true → tree_of (data_of t) ≡ Some t
unfolding is_fitting
tree_of-data_of =
    for_trees Returns
    (λ f. rw (fold-Null Data data_step))
    (λ b f. rw (fold-Bool Data data_step))
    (λ z f. rw (fold-Int Data data_step) (ap (option_map tree.Int) (as_i64-of_integer z (sym (fold-Int Bool fitting_step z) ∙ f))))
    (λ s f. rw (fold-Text Data data_step))
    (λ ts h f. rw (fold-List Data data_step ts) (ap (option_map tree.List) (trees_return ts h (sym (fold-List Bool fitting_step ts) ∙ f))))
    (λ ms h f. rw (fold-Object Data data_step ms) (ap (option_map tree.Object) (members_return ms h (sym (fold-Object Bool fitting_step ms) ∙ f))))

-- ---- the data of the JSON

number_of-signed_decimal : (z : ℤ) → fits_i64 z ≡ true → number_of (signed_decimal z) ≡ Some (of_integer z)
number_of-signed_decimal (pos n) h = let below : n < 2 ^ 64 = grind (arith, nat_tests, h) in number_of-decimal n below
number_of-signed_decimal (negsuc n) h = let below : n < 2 ^ 63 = grind (arith, nat_tests, h) in number_of-negative n below

below_middle : (x : List ℕ) (done : List (Named Tree)) (m : Named Tree) (more : List (Named Tree)) → list_all (λ y. is_lt (slice_cmp nat_cmp x y)) (map name_of (done ++ m ∷ more)) ≡ true → is_lt (slice_cmp nat_cmp x m.name) ≡ true
below_middle x [] m more h = (and_parts _ _ h).0
below_middle x (n ∷ done) m more h = below_middle x done m more (and_parts _ _ h).1

-- a name above those before it goes last
put_last : (done : List (Named Tree)) (m : Named Tree) (more : List (Named Tree)) → is_rising (map name_of (done ++ m ∷ more)) ≡ true
    → put m.name (data_of m.value) (data_members (map (with_value data_of) done)) ≡ data_members (map (with_value data_of) (done ++ m ∷ []))
put_last [] m more h = refl
put_last (n ∷ done) m more h =
    let parts = and_parts _ _ h in
    rw (above n.name m.name (below_middle n.name done m more parts.0)) (ap (member n.name (data_of n.value)) (put_last done m more parts.1))

abbrev Stands : Tree → Type 0
Stands t = is_ordered t ≡ true → is_fitting t ≡ true → of_json (shape t) ≡ Some (data_of t)

items_stand : (ts : List Tree) → AllByRecursion Stands ts → list_all (λ b. b) (map is_ordered ts) ≡ true → list_all (λ b. b) (map is_fitting ts) ≡ true
    → of_items (shapes.items_of (map shape ts)) ≡ Some (data_items (map data_of ts))
items_stand [] h o f = refl
items_stand (t ∷ ts) h o f =
    let os = and_parts (is_ordered t) _ o in
    let fs = and_parts (is_fitting t) _ f in
    rw (h.0 os.0 fs.0, items_stand ts h.1 os.1 fs.1)

members_stand : (done ms : List (Named Tree)) → AllByRecursion (λ m. Stands m.value) ms → is_rising (map name_of (done ++ ms)) ≡ true
    → list_all (λ m. m.value) (map (with_value is_ordered) ms) ≡ true → list_all (λ m. m.value) (map (with_value is_fitting) ms) ≡ true
    → of_members (shapes.members_of (map (with_value shape) ms)) (data_members (map (with_value data_of) done)) ≡ Some (data_members (map (with_value data_of) (done ++ ms)))
members_stand done [] h rising o f = ap (λ es. Some (data_members (map (with_value data_of) es))) (sym (append-nil done))
members_stand done (m ∷ ms) h rising o f =
    let os = and_parts (is_ordered m.value) _ o in
    let fs = and_parts (is_fitting m.value) _ f in
    let same = append_assoc done (m ∷ []) ms in
    rw (h.0 os.0 fs.0) (
    ap (of_members (shapes.members_of (map (with_value shape) ms))) (put_last done m ms rising)
    ∙ members_stand (done ++ m ∷ []) ms h.1 (ap (λ es. is_rising (map name_of es)) same ∙ rising) os.1 fs.1
    ∙ ap (λ es. Some (data_members (map (with_value data_of) es))) same)

pub of_json-shape : (t : Tree) → is_ordered t ≡ true → is_fitting t ≡ true → of_json (shape t) ≡ Some (data_of t)
unfolding is_ordered is_fitting
of_json-shape =
    for_trees Stands
    (λ o f. rw (fold-Null json.Json shape_step, fold-Null Data data_step))
    (λ b o f. rw (fold-Bool json.Json shape_step, fold-Bool Data data_step))
    (λ z o f. rw (fold-Int json.Json shape_step, fold-Int Data data_step) (ap (option_map number) (number_of-signed_decimal z (sym (fold-Int Bool fitting_step z) ∙ f))))
    (λ s o f. rw (fold-Text json.Json shape_step, fold-Text Data data_step))
    (λ ts h o f. rw (fold-List json.Json shape_step ts, fold-List Data data_step ts) (ap (option_map array) (items_stand ts h (sym (fold-List Bool ordered_step ts) ∙ o) (sym (fold-List Bool fitting_step ts) ∙ f))))
    (λ ms h o f.
    let os = and_parts _ _ (sym (fold-Object Bool ordered_step ms) ∙ o) in
    rw (fold-Object json.Json shape_step ms, fold-Object Data data_step ms)
    (ap (option_map object) (members_stand [] ms h (ap is_rising (sym (names_with is_ordered ms)) ∙ os.0) os.1 (sym (fold-Object Bool fitting_step ms) ∙ f))))

-- ---- its numbers are numbers

int_is_number : (z : ℤ) → fits_i64 z ≡ true → IsNumber (signed_decimal z)
int_is_number (pos n) h = let below : n < 2 ^ 63 = grind (arith, nat_tests, h) in IsNumber-signed_decimal (pos n) below
int_is_number (negsuc n) h = let below : n < 2 ^ 63 = grind (arith, nat_tests, h) in IsNumber-signed_decimal (negsuc n) below

abbrev Numbers : Tree → Type 0
Numbers t = is_fitting t ≡ true → jtree.HasNumbers (shape t)

items_have_numbers : (ts : List Tree) → AllByRecursion Numbers ts → list_all (λ b. b) (map is_fitting ts) ≡ true → jtree.ItemsHaveNumbers (shapes.items_of (map shape ts))
items_have_numbers [] h f = tt
items_have_numbers (t ∷ ts) h f = let fs = and_parts (is_fitting t) _ f in (h.0 fs.0, items_have_numbers ts h.1 fs.1)

members_have_numbers : (ms : List (Named Tree)) → AllByRecursion (λ m. Numbers m.value) ms → list_all (λ m. m.value) (map (with_value is_fitting) ms) ≡ true → jtree.MembersHaveNumbers (shapes.members_of (map (with_value shape) ms))
members_have_numbers [] h f = tt
members_have_numbers (m ∷ ms) h f = let fs = and_parts (is_fitting m.value) _ f in (h.0 fs.0, members_have_numbers ms h.1 fs.1)

pub HasNumbers-shape : (t : Tree) → is_fitting t ≡ true → jtree.HasNumbers (shape t)
unfolding is_fitting
HasNumbers-shape =
    for_trees Numbers
    (λ f. subst jtree.HasNumbers (sym (fold-Null json.Json shape_step)) tt)
    (λ b f. subst jtree.HasNumbers (sym (fold-Bool json.Json shape_step b)) tt)
    (λ z f. subst jtree.HasNumbers (sym (fold-Int json.Json shape_step z)) (int_is_number z (sym (fold-Int Bool fitting_step z) ∙ f)))
    (λ s f. subst jtree.HasNumbers (sym (fold-Text json.Json shape_step s)) tt)
    (λ ts h f. subst jtree.HasNumbers (sym (fold-List json.Json shape_step ts)) (items_have_numbers ts h (sym (fold-List Bool fitting_step ts) ∙ f)))
    (λ ms h f. subst jtree.HasNumbers (sym (fold-Object json.Json shape_step ms)) (members_have_numbers ms h (sym (fold-Object Bool fitting_step ms) ∙ f)))

-- ---- the round trip

read-text_at : (t : Tree) (j : json.Json) (d : Data) → text_of t ≡ print (json_tokens j) → jtree.HasNumbers j → jtree.depth j ≤ max_depth → of_json j ≡ Some d → read (text_of t) ≡ Some d
read-text_at t j d is numbers shallow e =
    let whole : tokens (text_of t) ≡ json_tokens j ++ [] = ap tokens is ∙ tokens-print (json_tokens j) (ArePrintable-json_tokens j numbers) ∙ sym (append-nil (json_tokens j)) in
    ap (λ o. option_and_then of_json (option_and_then (λ p. json.if_last p.0 p.1) o)) (ap (json.value max_depth) whole ∙ value-json_tokens j max_depth [] shallow) ∙ e

pub read-text : (t : Tree) → is_ordered t ≡ true → is_fitting t ≡ true → levels_of t ≤ max_depth → read (text_of t) ≡ Some (data_of t)
read-text t o f shallow = read-text_at t (shape t) (data_of t) (sym (print-json_tokens t)) (HasNumbers-shape t f) (rw (depth-shape t) shallow) (of_json-shape t o f)
