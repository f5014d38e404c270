-- Names in the order of their bytes.
use Rattle.std.specs.Prelude.{ℕ, List, [], ◌∷◌, Bool, true, ◌&&◌, refl}
use Rattle.std.specs.List.{list_all}
use Rattle.std.specs.Ordering.{nat_cmp, is_lt}
use Rattle.std.specs.Cmp.Lexicographic.{slice_cmp}
use Rattle.std.specs.Coded.{Coded, code_by, coded×, coded_ℕ, coded_list}
use Rattle.es_tree.specs.declared.tree.Named.{Named}

abbrev pub name_of : {V : Type 0} → Named V → List ℕ
name_of named = named.name

-- whether one name comes before another: the first byte that differs decides, and a name comes before those that it begins
abbrev pub is_before : List ℕ → List ℕ → Bool
is_before x y = is_lt (slice_cmp nat_cmp x y)

-- each name comes before all that follow it, so no two are equal
abbrev pub is_rising : List (List ℕ) → Bool
is_rising [] = true
is_rising (x ∷ xs) = list_all (is_before x) xs && is_rising xs

-- the name comes after each of these
abbrev pub is_last : List ℕ → List (List ℕ) → Bool
is_last name names = list_all (λ x. is_before x name) names

-- a named value is stored as the pair of both
abbrev pub named_code : {V : Type 0} → Coded V → Coded (Named V)
named_code {V} c = code_by (List ℕ × V) (coded× (coded_list coded_ℕ) c) (λ m. (m.name, m.value)) (λ p. record { name = p.0; value = p.1 }) (λ _. refl)
