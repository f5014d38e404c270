-- Paths and leaves, level by level.
use Rattle.std.proofs.Common.{◌≡◌, ℕ, ℤ, List, [], ◌∷◌, ◌++◌, map, Bool, true, false, refl, sym, ap, ap₂, ◌∙◌, append_assoc}
use Rattle.std.specs.List.{flat_map}
use Rattle.es_tree.specs.declared.tree.Tree.{Tree}
use Rattle.es_tree.specs.declared.tree.Tree as tree
use Rattle.es_tree.specs.declared.tree.Named.{Named}
use Rattle.es_tree.specs.declared.kinds.Leaf.{Leaf}
use Rattle.es_tree.specs.Leaves.{Path, extended, paths_step, paths_of, dotted_after, dotted, longer, under, leaf_at, leaves_of}
use Rattle.es_tree.proofs.Induction.{with_value, fold-Null, fold-Bool, fold-Int, fold-Text, fold-List, fold-Object}

items_paths : (ts : List Tree) → flat_map (λ (ps : List Path). ps) (map paths_of ts) ≡ flat_map paths_of ts
items_paths [] = refl
items_paths (t ∷ ts) = ap (λ l. paths_of t ++ l) (items_paths ts)

pub paths_of-List : (ts : List Tree) → paths_of (tree.List ts) ≡ flat_map paths_of ts
unfolding paths_of
paths_of-List ts = fold-List (List Path) paths_step ts ∙ items_paths ts

members_paths : (ms : List (Named Tree)) → flat_map (λ m. extended m.name m.value) (map (with_value paths_of) ms) ≡ flat_map (λ m. extended m.name (paths_of m.value)) ms
members_paths [] = refl
members_paths (m ∷ ms) = ap (λ l. extended m.name (paths_of m.value) ++ l) (members_paths ms)

pub paths_of-Object : (ms : List (Named Tree)) → paths_of (tree.Object ms) ≡ flat_map (λ m. extended m.name (paths_of m.value)) ms
unfolding paths_of
paths_of-Object ms = fold-Object (List Path) paths_step ms ∙ members_paths ms

further : (path name : List ℕ) (names : List (List ℕ)) → dotted_after (path ++ 46 ∷ name) names ≡ path ++ 46 ∷ dotted_after name names
further path name [] = refl
further path name (n ∷ names) = append_assoc path (46 ∷ name) (46 ∷ dotted_after n names)

deeper : (path : List ℕ) (names : List (List ℕ)) → dotted_after path names ≡ under false path names
deeper path [] = refl
deeper path (n ∷ names) = sym (further path n names)

-- the leaves below a name are those of the longer path
pub leaves-extended : (top : Bool) (path name : List ℕ) (ps : List Path) → map (leaf_at top path) (extended name ps) ≡ map (leaf_at false (longer top path name)) ps
leaves-extended top path name [] = refl
leaves-extended top path name (p ∷ ps) =
    ap₂ (λ (q : List ℕ) (l : List Leaf). (record { path = q; value = p.1 }) ∷ l) (deeper (longer top path name) p.0) (leaves-extended top path name ps)

at_top : (names : List (List ℕ)) → under true [] names ≡ dotted names
at_top [] = refl
at_top (n ∷ names) = refl

pub leaves_at_top : (ps : List Path) → map (leaf_at true []) ps ≡ map (λ p. record { path = dotted p.0; value = p.1 }) ps
leaves_at_top [] = refl
leaves_at_top (p ∷ ps) = ap₂ (λ (q : List ℕ) (l : List Leaf). (record { path = q; value = p.1 }) ∷ l) (at_top p.0) (leaves_at_top ps)

map-append_of : (f : Path → Leaf) (xs ys : List Path) → map f (xs ++ ys) ≡ map f xs ++ map f ys
map-append_of f [] ys = refl
map-append_of f (x ∷ xs) ys = ap (λ l. f x ∷ l) (map-append_of f xs ys)

-- a member's leaves, and those after it
pub more_leaves : (top : Bool) (path : List ℕ) (m : Named Tree) (ms : List (Named Tree)) (old new : List Leaf) (below : List ℕ) → below ≡ longer top path m.name
    → new ≡ old ++ map (leaf_at false below) (paths_of m.value)
    → old ++ map (leaf_at top path) (flat_map (λ n. extended n.name (paths_of n.value)) (m ∷ ms)) ≡ new ++ map (leaf_at top path) (flat_map (λ n. extended n.name (paths_of n.value)) ms)
more_leaves top path m ms old new below is e =
    let rest = flat_map (λ (n : Named Tree). extended n.name (paths_of n.value)) ms in
    ap (λ l. old ++ l) (map-append_of (leaf_at top path) (extended m.name (paths_of m.value)) rest
    ∙ ap (λ l. l ++ map (leaf_at top path) rest) (leaves-extended top path m.name (paths_of m.value) ∙ ap (λ b. map (leaf_at false b) (paths_of m.value)) (sym is)))
    ∙ sym (append_assoc old _ _) ∙ ap (λ l. l ++ map (leaf_at top path) rest) (sym e)

-- ---- scalars

pub paths_of-Null : paths_of tree.Null ≡ ([], tree.Null) ∷ []
unfolding paths_of
paths_of-Null = fold-Null (List Path) paths_step

pub paths_of-Bool : (b : Bool) → paths_of (tree.Bool b) ≡ ([], tree.Bool b) ∷ []
unfolding paths_of
paths_of-Bool b = fold-Bool (List Path) paths_step b

pub paths_of-Int : (z : ℤ) → paths_of (tree.Int z) ≡ ([], tree.Int z) ∷ []
unfolding paths_of
paths_of-Int z = fold-Int (List Path) paths_step z

pub paths_of-Text : (s : List ℕ) → paths_of (tree.Text s) ≡ ([], tree.Text s) ∷ []
unfolding paths_of
paths_of-Text s = fold-Text (List Path) paths_step s

-- the leaves of a tree
pub leaves_of-top : (t : Tree) → map (leaf_at true []) (paths_of t) ≡ leaves_of t
unfolding leaves_of
leaves_of-top t = leaves_at_top (paths_of t)

pub ruleset leaf_laws = (paths_of-Null, paths_of-Bool, paths_of-Int, paths_of-Text, leaves_of-top)
