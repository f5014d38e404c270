-- Texts that are cut at a mark: a text that isn't empty.
use Rattle.std.specs.Prelude.{⊤, ℕ, zero, suc, ◌-◌, ◌<◌, List, [], ◌∷◌, ◌++◌, length, Bool, Option, Some, None, ◌==◌, if◌then◌else◌, is_some}

-- what follows the mark at the front of a text
abbrev pub behind : List ℕ → List ℕ → Option (List ℕ)
behind [] text = Some text
behind (m ∷ mark) [] = None
behind (m ∷ mark) (b ∷ bs) = if m == b then behind mark bs else None

abbrev pub begins_with : List ℕ → List ℕ → Bool
begins_with mark text = is_some (behind mark text)

abbrev pub or_later : ℕ → Option (List ℕ) → Option (List ℕ × List ℕ) → Option (List ℕ × List ℕ)
or_later b (Some rest) later = Some ([], rest)
or_later b None None = None
or_later b None (Some later) = Some (b ∷ later.0, later.1)

abbrev pub at_end : Option (List ℕ) → Option (List ℕ × List ℕ)
at_end None = None
at_end (Some rest) = Some ([], rest)

-- what stands before the first place of the mark, and what behind it
abbrev pub cut : List ℕ → List ℕ → Option (List ℕ × List ℕ)
cut mark [] = at_end (behind mark [])
cut mark (b ∷ bs) = or_later b (behind mark (b ∷ bs)) (cut mark bs)

-- the byte at the front of the first part
abbrev pub grown : ℕ → List (List ℕ) → List (List ℕ)
grown b [] = (b ∷ []) ∷ []
grown b (p ∷ ps) = (b ∷ p) ∷ ps

-- the parts, where so many bytes of a mark have still to be passed over
abbrev pub parts_from : List ℕ → ℕ → List ℕ → List (List ℕ)
parts_from mark n [] = [] ∷ []
parts_from mark (suc n) (b ∷ bs) = parts_from mark n bs
parts_from mark zero (b ∷ bs) = if begins_with mark (b ∷ bs) then [] ∷ parts_from mark (length mark - 1) bs else grown b (parts_from mark zero bs)

-- The parts of a text between the places of the mark, the first place as far to the front as there is one, the next one behind it. A text without the mark is one part.
unfoldable pub parts : List ℕ → List ℕ → List (List ℕ)
parts mark text = parts_from mark 0 text

-- each part behind the mark
abbrev pub behind_marks : List ℕ → List (List ℕ) → List ℕ
behind_marks mark [] = []
behind_marks mark (p ∷ ps) = mark ++ (p ++ behind_marks mark ps)

-- the parts with the mark between each two
abbrev pub joined : List ℕ → List (List ℕ) → List ℕ
joined mark [] = []
joined mark (p ∷ ps) = p ++ behind_marks mark ps

-- ---- for private clauses

-- the parts of what is left of a text, if anything is
abbrev pub parts_left : List ℕ → Option (List ℕ) → List (List ℕ)
parts_left mark None = []
parts_left mark (Some rest) = parts mark rest

-- what is left is shorter than this
abbrev pub IsShorter : Option (List ℕ) → List ℕ → Type 0
IsShorter None text = ⊤
IsShorter (Some rest) text = length rest < length text
