-- Members in the order of their names, levels, and whole numbers that fit.
use Rattle.std.specs.Prelude.{ℕ, suc, max, ◌^◌, ℤ, pos, negsuc, List, [], ◌∷◌, map, Bool, true, ◌&&◌, nat_lt}
use Rattle.std.specs.List.{list_all}
use Rattle.es_tree.specs.declared.tree.Tree.{Tree}
use Rattle.es_tree.specs.declared.tree.Tree.TheOpen.{Tree-F}
use Rattle.es_tree.specs.declared.tree.Tree.TheFolds.{fold-Tree}
use Rattle.es_tree.specs.Rising.{name_of, is_rising}

abbrev pub ordered_step : Tree-F Bool → Bool
ordered_step Tree-F.Null = true
ordered_step (Tree-F.Bool b) = true
ordered_step (Tree-F.Int z) = true
ordered_step (Tree-F.Text s) = true
ordered_step (Tree-F.List bs) = list_all (λ b. b) bs
ordered_step (Tree-F.Object ms) = is_rising (map name_of ms) && list_all (λ m. m.value) ms

-- the members of each object have distinct names, in the order of their bytes
unfoldable pub is_ordered : Tree → Bool
is_ordered = fold-Tree Bool ordered_step

abbrev pub greatest : List ℕ → ℕ
greatest [] = 0
greatest (n ∷ ns) = max n (greatest ns)

abbrev pub levels_step : Tree-F ℕ → ℕ
levels_step Tree-F.Null = 0
levels_step (Tree-F.Bool b) = 0
levels_step (Tree-F.Int z) = 0
levels_step (Tree-F.Text s) = 0
levels_step (Tree-F.List ns) = suc (greatest ns)
levels_step (Tree-F.Object ms) = suc (greatest (map (λ m. m.value) ms))

-- the greatest number of lists and objects that stand one inside the other
unfoldable pub levels_of : Tree → ℕ
levels_of = fold-Tree ℕ levels_step

abbrev pub fits_i64 : ℤ → Bool
fits_i64 (pos n) = nat_lt n (2 ^ 63)
fits_i64 (negsuc n) = nat_lt n (2 ^ 63)

abbrev pub fitting_step : Tree-F Bool → Bool
fitting_step Tree-F.Null = true
fitting_step (Tree-F.Bool b) = true
fitting_step (Tree-F.Int z) = fits_i64 z
fitting_step (Tree-F.Text s) = true
fitting_step (Tree-F.List bs) = list_all (λ b. b) bs
fitting_step (Tree-F.Object ms) = list_all (λ m. m.value) ms

-- each number is one of `i64`
unfoldable pub is_fitting : Tree → Bool
is_fitting = fold-Tree Bool fitting_step
