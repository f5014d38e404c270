-- Lists of names that are compared one by one.
use Rattle.std.proofs.Common.{◌≡◌, ◌<◌, ℕ, ◌+◌, Bool, true, false, not, List, length, take, get_or, refl, sym}
use Rattle.std.specs.Prelude.{bytes_eq}
use Rattle.std.proofs.lemmas.List.{take_more}
use Rattle.std.proofs.lemmas.Slice.Eq.{bytes_eq-Decides}

not_not : (b : Bool) → false ≡ not b → b ≡ true
not_not true e = refl
not_not false e = cc

-- texts of which `!=` is false
pub same_text : (name other : List ℕ) → false ≡ not (bytes_eq name other) → name ≡ other
same_text name other e = (bytes_eq-Decides name other).0 (not_not (bytes_eq name other) e)

-- one equal name more
pub one_more : (names others : List (List ℕ)) (at : ℕ) (name other : List ℕ) → at < length names → length names ≡ length others → take at names ≡ take at others
    → name ≡ get_or names at name → other ≡ get_or others at other → name ≡ other → take (at + 1) names ≡ take (at + 1) others
one_more names others at name other within same before here there e =
    let left : get_or names at name ≡ name = sym here in
    let right : get_or others at name ≡ name = rw (sym e) at (sym there) in
    rw (take_more names at name within, take_more others at name (rw same at within), left, right, before) refl
