-- Induction over a tree, and the equations of its folds.
use Rattle.std.proofs.Common.{◌≡◌, ℕ, suc, true, ℤ, List, [], ◌∷◌, map, Bool, ◌&&◌, ap₂, refl, sym, ap, ◌∙◌, subst, rules}
use Rattle.std.specs.List.{AllByRecursion, list_all}
use Rattle.std.proofs.lemmas.List.Folds.{list_all-map}
use Rattle.es_tree.specs.Order.{ordered_step, is_ordered, fits_i64, fitting_step, is_fitting, greatest, levels_step, levels_of}
use Rattle.es_tree.specs.Rising.{name_of, is_rising}
use Rattle.es_tree.specs.declared.tree.Tree.{Tree, Tree-F, the_lemmas, roll-Tree, ind-Tree, map-Tree, fold-Tree}
use Rattle.es_tree.specs.declared.tree.Tree as tree
use Rattle.es_tree.specs.declared.tree.Tree.TheVariants.{rolls-List, rolls-Object, rolls-Null, rolls-Bool, rolls-Int, rolls-Text}
use Rattle.es_tree.specs.declared.tree.Named.{Named}

abbrev pub with_value : {V W : Type 0} → (V → W) → Named V → Named W
with_value f m = record { name = m.name; value = f m.value }

pub names_with : {V W : Type 0} (f : V → W) (ms : List (Named V)) → map name_of (map (with_value f) ms) ≡ map name_of ms
names_with f [] = refl
names_with f (m ∷ ms) = ap (λ l. m.name ∷ l) (names_with f ms)

module _ (P : Tree → Type 0) where
  abbrev Shown : Type 0
  Shown = (t : Tree) × P t

  all_items : (ys : List Shown) → AllByRecursion P (map (λ e. e.0) ys)
  all_items [] = tt
  all_items (y ∷ ys) = (y.1, all_items ys)

  all_members : (ms : List (Named Shown)) → AllByRecursion (λ m. P m.value) (map (with_value (λ (e : Shown). e.0)) ms)
  all_members [] = tt
  all_members (m ∷ ms) = (m.value.1, all_members ms)

  module _
      (null : P tree.Null)
      (boolean : (b : Bool) → P (tree.Bool b))
      (int : (z : ℤ) → P (tree.Int z))
      (text : (s : List ℕ) → P (tree.Text s))
      (list : (ts : List Tree) → AllByRecursion P ts → P (tree.List ts))
      (object : (ms : List (Named Tree)) → AllByRecursion (λ m. P m.value) ms → P (tree.Object ms)) where
    layer : (y : Tree-F Shown) → P (roll-Tree (map-Tree Shown Tree (λ e. e.0) y))
    layer Tree-F.Null = subst P (sym rolls-Null) null
    layer (Tree-F.Bool b) = subst P (sym (rolls-Bool b)) (boolean b)
    layer (Tree-F.Int z) = subst P (sym (rolls-Int z)) (int z)
    layer (Tree-F.Text s) = subst P (sym (rolls-Text s)) (text s)
    layer (Tree-F.List ys) = subst P (sym (rolls-List (map (λ e. e.0) ys))) (list (map (λ e. e.0) ys) (all_items ys))
    layer (Tree-F.Object ms) = subst P (sym (rolls-Object (map (with_value (λ (e : Shown). e.0)) ms))) (object (map (with_value (λ (e : Shown). e.0)) ms) (all_members ms))

    -- what holds of a tree where it holds of the trees inside it holds of each
    pub for_trees : (t : Tree) → P t
    for_trees = ind-Tree P (λ x y e. subst (λ z. P (roll-Tree z)) e (layer y))

-- a fold, level by level
pub fold-List : (A : Type 0) (step : Tree-F A → A) (ts : List Tree) → fold-Tree A step (tree.List ts) ≡ step (Tree-F.List (map (fold-Tree A step) ts))
fold-List A step ts = search (rules, the_lemmas)

pub fold-Object : (A : Type 0) (step : Tree-F A → A) (ms : List (Named Tree)) → fold-Tree A step (tree.Object ms) ≡ step (Tree-F.Object (map (with_value (fold-Tree A step)) ms))
fold-Object A step ms = search (rules, the_lemmas)

pub fold-Null : (A : Type 0) (step : Tree-F A → A) → fold-Tree A step tree.Null ≡ step Tree-F.Null
fold-Null A step = search (rules, the_lemmas)

pub fold-Bool : (A : Type 0) (step : Tree-F A → A) (b : Bool) → fold-Tree A step (tree.Bool b) ≡ step (Tree-F.Bool b)
fold-Bool A step b = search (rules, the_lemmas)

pub fold-Int : (A : Type 0) (step : Tree-F A → A) (z : ℤ) → fold-Tree A step (tree.Int z) ≡ step (Tree-F.Int z)
fold-Int A step z = search (rules, the_lemmas)

pub fold-Text : (A : Type 0) (step : Tree-F A → A) (s : List ℕ) → fold-Tree A step (tree.Text s) ≡ step (Tree-F.Text s)
fold-Text A step s = search (rules, the_lemmas)

pub is_fitting-List : (ts : List Tree) → is_fitting (tree.List ts) ≡ list_all is_fitting ts
unfolding is_fitting
is_fitting-List ts = fold-List Bool fitting_step ts ∙ list_all-map (λ b. b) is_fitting ts

pub is_fitting-Object : (ms : List (Named Tree)) → is_fitting (tree.Object ms) ≡ list_all (λ m. is_fitting m.value) ms
unfolding is_fitting
is_fitting-Object ms = fold-Object Bool fitting_step ms ∙ list_all-map (λ m. m.value) (with_value is_fitting) ms

pub is_ordered-List : (ts : List Tree) → is_ordered (tree.List ts) ≡ list_all is_ordered ts
unfolding is_ordered
is_ordered-List ts = fold-List Bool ordered_step ts ∙ list_all-map (λ b. b) is_ordered ts

pub is_ordered-Object : (ms : List (Named Tree)) → is_ordered (tree.Object ms) ≡ (is_rising (map name_of ms) && list_all (λ m. is_ordered m.value) ms)
unfolding is_ordered
is_ordered-Object ms = fold-Object Bool ordered_step ms ∙ ap₂ (λ a b. a && b) (ap is_rising (names_with is_ordered ms)) (list_all-map (λ m. m.value) (with_value is_ordered) ms)

-- ---- levels

pub levels_of-Null : levels_of tree.Null ≡ 0
unfolding levels_of
levels_of-Null = fold-Null ℕ levels_step

pub levels_of-Bool : (b : Bool) → levels_of (tree.Bool b) ≡ 0
unfolding levels_of
levels_of-Bool b = fold-Bool ℕ levels_step b

pub levels_of-Int : (z : ℤ) → levels_of (tree.Int z) ≡ 0
unfolding levels_of
levels_of-Int z = fold-Int ℕ levels_step z

pub levels_of-Text : (s : List ℕ) → levels_of (tree.Text s) ≡ 0
unfolding levels_of
levels_of-Text s = fold-Text ℕ levels_step s

pub levels_of-List : (ts : List Tree) → levels_of (tree.List ts) ≡ suc (greatest (map levels_of ts))
unfolding levels_of
levels_of-List ts = fold-List ℕ levels_step ts

member_levels : (ms : List (Named Tree)) → map (λ (m : Named ℕ). m.value) (map (with_value levels_of) ms) ≡ map (λ (m : Named Tree). levels_of m.value) ms
member_levels [] = refl
member_levels (m ∷ ms) = ap (λ l. levels_of m.value ∷ l) (member_levels ms)

levels_of-Object_step : (ms : List (Named Tree)) → levels_of (tree.Object ms) ≡ suc (greatest (map (λ (m : Named ℕ). m.value) (map (with_value levels_of) ms)))
unfolding levels_of
levels_of-Object_step ms = fold-Object ℕ levels_step ms

pub levels_of-Object : (ms : List (Named Tree)) → levels_of (tree.Object ms) ≡ suc (greatest (map (λ (m : Named Tree). levels_of m.value) ms))
levels_of-Object ms = levels_of-Object_step ms ∙ ap (λ l. suc (greatest l)) (member_levels ms)

-- ---- scalars

pub is_fitting-Null : is_fitting tree.Null ≡ true
unfolding is_fitting
is_fitting-Null = fold-Null Bool fitting_step

pub is_fitting-Bool : (b : Bool) → is_fitting (tree.Bool b) ≡ true
unfolding is_fitting
is_fitting-Bool b = fold-Bool Bool fitting_step b

pub is_fitting-Int : (z : ℤ) → is_fitting (tree.Int z) ≡ fits_i64 z
unfolding is_fitting
is_fitting-Int z = fold-Int Bool fitting_step z

pub is_fitting-Text : (s : List ℕ) → is_fitting (tree.Text s) ≡ true
unfolding is_fitting
is_fitting-Text s = fold-Text Bool fitting_step s

pub is_ordered-Null : is_ordered tree.Null ≡ true
unfolding is_ordered
is_ordered-Null = fold-Null Bool ordered_step

pub is_ordered-Bool : (b : Bool) → is_ordered (tree.Bool b) ≡ true
unfolding is_ordered
is_ordered-Bool b = fold-Bool Bool ordered_step b

pub is_ordered-Int : (z : ℤ) → is_ordered (tree.Int z) ≡ true
unfolding is_ordered
is_ordered-Int z = fold-Int Bool ordered_step z

pub is_ordered-Text : (s : List ℕ) → is_ordered (tree.Text s) ≡ true
unfolding is_ordered
is_ordered-Text s = fold-Text Bool ordered_step s

pub ruleset scalars = (is_fitting-Null, is_fitting-Bool, is_fitting-Int, is_fitting-Text, is_ordered-Null, is_ordered-Bool, is_ordered-Int, is_ordered-Text)
