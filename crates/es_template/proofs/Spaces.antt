-- Spaces around a text.
use Rattle.std.proofs.Common.{◌≡◌, ℕ, List, [], ◌∷◌, ◌++◌, reverse, Bool, true, false, not, ◌==◌, ◌&&◌, refl, sym, ap, ◌∙◌}
use Rattle.std.specs.Prelude.{if◌then◌else◌}
use Rattle.std.specs.List.{list_all}
use Rattle.std.proofs.lemmas.Bool.{eqb-true, false≢true, and_parts, and_from}
use Rattle.std.proofs.lemmas.List.{reverse-reverse, reverse-append}
use Rattle.std.proofs.lemmas.List.Folds.{list_all-append}
use Rattle.es_template.specs.Tags.{is_plain, spaces_dropped, trimmed}

-- no space is in front
begins_dark : List ℕ → Bool
begins_dark [] = true
begins_dark (b ∷ bs) = not (b == 32)

dark_by : (c : Bool) (b : ℕ) (bs : List ℕ) → (b == 32) ≡ c → begins_dark (spaces_dropped bs) ≡ true → begins_dark (if c then spaces_dropped bs else b ∷ bs) ≡ true
unfolding begins_dark
dark_by true b bs is later = later
dark_by false b bs is later = ap not is

dropped_dark : (s : List ℕ) → begins_dark (spaces_dropped s) ≡ true
unfolding begins_dark
dropped_dark [] = refl
dropped_dark (b ∷ bs) = dark_by (b == 32) b bs refl (dropped_dark bs)

kept_by : (c : Bool) (b : ℕ) (bs : List ℕ) → not c ≡ true → (if c then spaces_dropped bs else b ∷ bs) ≡ b ∷ bs
kept_by true b bs e = absurd (false≢true e)
kept_by false b bs e = refl

dark_kept : (s : List ℕ) → begins_dark s ≡ true → spaces_dropped s ≡ s
unfolding begins_dark
dark_kept [] e = refl
dark_kept (b ∷ bs) e = kept_by (b == 32) b bs e

dark_front : (front rest : List ℕ) → begins_dark (front ++ rest) ≡ true → begins_dark front ≡ true
unfolding begins_dark
dark_front [] rest e = refl
dark_front (b ∷ bs) rest e = e

-- the spaces that are dropped
record Dropped (s : List ℕ) : Type 0 where
  spaces : List ℕ
  are : s ≡ spaces ++ spaces_dropped s

dropped_by : (c : Bool) (b : ℕ) (bs : List ℕ) → Dropped bs → (spaces : List ℕ) × (b ∷ bs ≡ spaces ++ (if c then spaces_dropped bs else b ∷ bs))
dropped_by true b bs d = (b ∷ d.spaces, ap (λ l. b ∷ l) d.are)
dropped_by false b bs d = ([], refl)

dropped : (s : List ℕ) → Dropped s
dropped [] = record { spaces = []; are = refl }
dropped (b ∷ bs) = let d = dropped_by (b == 32) b bs (dropped bs) in record { spaces = d.0; are = d.1 }

-- what is trimmed stays as it is
pub trimmed_twice : (s : List ℕ) → trimmed (trimmed s) ≡ trimmed s
trimmed_twice s =
    let u = spaces_dropped s in
    let v = spaces_dropped (reverse u) in
    let d = dropped (reverse u) in
    let whole : u ≡ reverse v ++ reverse d.spaces = sym (reverse-reverse u) ∙ ap reverse d.are ∙ reverse-append d.spaces v in
    let dark : begins_dark (reverse v) ≡ true = dark_front (reverse v) (reverse d.spaces) (ap begins_dark (sym whole) ∙ dropped_dark s) in
    let first : spaces_dropped (reverse v) ≡ reverse v = dark_kept (reverse v) dark in
    let last : spaces_dropped v ≡ v = dark_kept v (dropped_dark (reverse u)) in
    ap (λ l. reverse (spaces_dropped (reverse l))) first ∙ ap (λ l. reverse (spaces_dropped l)) (reverse-reverse v) ∙ ap reverse last

-- ---- spaces are plain

plain_by : (c : Bool) (b : ℕ) (bs : List ℕ) → (b == 32) ≡ c → (list_all is_plain (spaces_dropped bs) ≡ true → list_all is_plain bs ≡ true) → list_all is_plain (if c then spaces_dropped bs else b ∷ bs) ≡ true → list_all is_plain (b ∷ bs) ≡ true
plain_by true b bs is later e = and_from (is_plain b) (list_all is_plain bs) (ap is_plain (eqb-true b 32 is)) (later e)
plain_by false b bs is later e = e

plain_dropped : (s : List ℕ) → list_all is_plain (spaces_dropped s) ≡ true → list_all is_plain s ≡ true
plain_dropped [] e = refl
plain_dropped (b ∷ bs) e = plain_by (b == 32) b bs refl (plain_dropped bs) e

swap : (a b : Bool) → (a && b) ≡ true → (b && a) ≡ true
swap a b e = let p = and_parts a b e in and_from b a p.1 p.0

plain_reversed : (s : List ℕ) → list_all is_plain s ≡ true → list_all is_plain (reverse s) ≡ true
plain_reversed [] e = refl
plain_reversed (b ∷ bs) e =
    let p = and_parts (is_plain b) (list_all is_plain bs) e in
    ap (list_all is_plain) (reverse-append (b ∷ []) bs) ∙ list_all-append is_plain (reverse bs) (b ∷ [])
    ∙ and_from (list_all is_plain (reverse bs)) (list_all is_plain (b ∷ [])) (plain_reversed bs p.1) (and_from (is_plain b) true p.0 refl)

-- where what is trimmed is plain, the whole is
pub plain_whole : (s : List ℕ) → list_all is_plain (trimmed s) ≡ true → list_all is_plain s ≡ true
plain_whole s e =
    let u = spaces_dropped s in
    let v = spaces_dropped (reverse u) in
    let back : list_all is_plain v ≡ true = ap (list_all is_plain) (sym (reverse-reverse v)) ∙ plain_reversed (reverse v) e in
    let front : list_all is_plain u ≡ true = ap (list_all is_plain) (sym (reverse-reverse u)) ∙ plain_reversed (reverse u) (plain_dropped (reverse u) back) in
    plain_dropped s front
