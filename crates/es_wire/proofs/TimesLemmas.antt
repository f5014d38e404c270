-- One field more.
use Rattle.std.proofs.Common.{◌≡◌, ℕ, ◌+◌, ◌<◌, Bool, true, false, List, [], ◌∷◌, ◌++◌, length, take, map, get_or, sym, ◌∙◌, ap, refl, IsTrue, ◌↔◌}
use Rattle.std.specs.List.{filter}
use Rattle.std.specs.Str.{str_eq_ignore_ascii_case}
use Rattle.std.specs.Char.{to_ascii_lowercase}
use Rattle.std.proofs.lemmas.List.{take_more, map-append, append-nil}
use Rattle.std.proofs.lemmas.List.Elements.{filter-append}
use Rattle.std.proofs.lemmas.Slice.Eq.{bytes_eq-Decides}
use Rattle.std.proofs.lemmas.Bool.Decides.{same_from_decides}
use Rattle.es_wire.specs.declared.fields.Times.{Times}
use Rattle.es_wire.specs.declared.fields.Times.TheVariants as times
use Rattle.es_wire.specs.Times.{once_at}
use Rattle.es_wire.specs.declared.request.Once.{Once}
use Rattle.es_wire.specs.declared.request.Once.TheVariants.{Absent, One, Twice}
use Rattle.es_wire.specs.Framing.{once_of, values_of}

-- none, one or several, and one more
abbrev pub more_once : Once → List ℕ → Once
more_once Absent v = One v
more_once (One w) v = Twice
more_once Twice v = Twice

once_of-snoc : (vs : List (List ℕ)) (v : List ℕ) → once_of (vs ++ v ∷ []) ≡ more_once (once_of vs) v
once_of-snoc [] v = refl
once_of-snoc (w ∷ []) v = refl
once_of-snoc (w ∷ x ∷ vs) v = refl

-- what the comparison of two names answers
pub same_name : (a b : List ℕ) (r : Bool) → IsTrue r ↔ (map to_ascii_lowercase a ≡ map to_ascii_lowercase b) → str_eq_ignore_ascii_case a b ≡ r
same_name a b r test = same_from_decides _ r (bytes_eq-Decides (map to_ascii_lowercase a) (map to_ascii_lowercase b)) test

pub not_never : (front : List ℕ) (found : Times) (v : List ℕ) → (found ≡ times.Never → ⊥) → more_once (once_at front found) v ≡ Twice
not_never front times.Never v other = absurd (other refl)
not_never front (times.Once span) v other = refl
not_never front times.Again v other = refl

-- a field of the name more
pub values_hit : (name : List ℕ) (pairs : List (List ℕ × List ℕ)) (p : List ℕ × List ℕ) → str_eq_ignore_ascii_case p.0 name ≡ true
    → once_of (values_of name (pairs ++ p ∷ [])) ≡ more_once (once_of (values_of name pairs)) p.1
unfolding values_of
values_hit name pairs p hit =
    let parts = filter-append (λ (q : List ℕ × List ℕ). str_eq_ignore_ascii_case q.0 name) pairs (p ∷ []) in
    rw (parts, hit, map-append) (once_of-snoc (values_of name pairs) p.1)

-- a field of another name more
pub values_miss : (name : List ℕ) (pairs : List (List ℕ × List ℕ)) (p : List ℕ × List ℕ) → str_eq_ignore_ascii_case p.0 name ≡ false
    → once_of (values_of name (pairs ++ p ∷ [])) ≡ once_of (values_of name pairs)
unfolding values_of
values_miss name pairs p miss =
    let parts = filter-append (λ (q : List ℕ × List ℕ). str_eq_ignore_ascii_case q.0 name) pairs (p ∷ []) in
    rw (parts, miss) (ap (λ (vs : List (List ℕ × List ℕ)). once_of (map (λ (q : List ℕ × List ℕ). q.1) vs)) (append-nil (filter (λ (q : List ℕ × List ℕ). str_eq_ignore_ascii_case q.0 name) pairs)))

-- the items up to the next
pub map_more : {X : Type 0} (f : X → List ℕ × List ℕ) (xs : List X) (i : ℕ) (d : X) → i < length xs
    → map f (take (i + 1) xs) ≡ map f (take i xs) ++ f (get_or xs i d) ∷ []
map_more f xs i d lt = rw (take_more xs i d lt) (map-append f (take i xs) (get_or xs i d ∷ []))

pub hit_never : (front name : List ℕ) (pairs : List (List ℕ × List ℕ)) (p : List ℕ × List ℕ) (found : Times)
    → once_at front found ≡ once_of (values_of name pairs) → found ≡ times.Never → str_eq_ignore_ascii_case p.0 name ≡ true
    → One p.1 ≡ once_of (values_of name (pairs ++ p ∷ []))
hit_never front name pairs p found so_far is hit =
    sym (values_hit name pairs p hit ∙ ap (λ (o : Once). more_once o p.1) (sym so_far ∙ ap (once_at front) is))

pub hit_again : (front name : List ℕ) (pairs : List (List ℕ × List ℕ)) (p : List ℕ × List ℕ) (found : Times)
    → once_at front found ≡ once_of (values_of name pairs) → (found ≡ times.Never → ⊥) → str_eq_ignore_ascii_case p.0 name ≡ true
    → Twice ≡ once_of (values_of name (pairs ++ p ∷ []))
hit_again front name pairs p found so_far other hit =
    sym (values_hit name pairs p hit ∙ ap (λ (o : Once). more_once o p.1) (sym so_far) ∙ not_never front found p.1 other)
