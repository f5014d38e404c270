-- Paths of fields: names joined by dots. A name may itself have dots, so a path is cut at all of them.
use Rattle.std.specs.Prelude.{ℕ, List, [], ◌∷◌, ◌++◌, length, codes, Bool, true, not, ◌==◌, ◌&&◌, nat_eq, nat_le, if◌then◌else◌}
use Rattle.std.specs.List.{list_all, starts_with}
use Rattle.std.specs.Str.{bytes_eq}
use Rattle.std.specs.Ordering.{nat_cmp, is_lt}
use Rattle.std.specs.Cmp.Lexicographic.{slice_cmp}
use Rattle.std.specs.declared.cmp.Ordering.{Ordering}

-- the byte at the front of the first piece
abbrev pub grown : ℕ → List (List ℕ) → List (List ℕ)
grown b [] = (b ∷ []) ∷ []
grown b (p ∷ ps) = (b ∷ p) ∷ ps

-- the pieces between the dots; of the empty text the empty piece
abbrev pub pieces : List ℕ → List (List ℕ)
pieces [] = [] ∷ []
pieces (b ∷ bs) = if b == 46 then [] ∷ pieces bs else grown b (pieces bs)

abbrev pub has_bytes : List ℕ → Bool
has_bytes [] = Bool.false
has_bytes (b ∷ bs) = true

-- 1 to 30 pieces, none of them empty
abbrev pub is_path : List ℕ → Bool
is_path path = list_all has_bytes (pieces path) && nat_le (length (pieces path)) 30

-- neither is the other, nor the other followed by a dot and more
abbrev pub is_apart : List ℕ → List ℕ → Bool
is_apart one other = not (bytes_eq one other) && (not (starts_with nat_eq other (one ++ codes ".")) && not (starts_with nat_eq one (other ++ codes ".")))

-- each two are apart
abbrev pub are_apart : List (List ℕ) → Bool
are_apart [] = true
are_apart (path ∷ paths) = list_all (is_apart path) paths && are_apart paths

-- the paths that a mapping may have, in any order
abbrev pub are_paths : List (List ℕ) → Bool
are_paths paths = list_all is_path paths && are_apart paths

-- paths compare piece by piece, and pieces byte by byte
unfoldable pub path_cmp : List ℕ → List ℕ → Ordering
path_cmp one other = slice_cmp (slice_cmp nat_cmp) (pieces one) (pieces other)

abbrev pub comes_before : List ℕ → List ℕ → Bool
comes_before one other = is_lt (path_cmp one other)

-- each path comes before the next one
abbrev pub are_rising_after : List ℕ → List (List ℕ) → Bool
are_rising_after path [] = true
are_rising_after path (next ∷ paths) = comes_before path next && are_rising_after next paths

abbrev pub are_rising : List (List ℕ) → Bool
are_rising [] = true
are_rising (path ∷ paths) = are_rising_after path paths
