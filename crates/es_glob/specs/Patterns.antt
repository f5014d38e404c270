-- Patterns over names.
use Rattle.std.specs.Prelude.{◌≡◌, ◌==◌, ℕ, List, [], ◌∷◌, ◌++◌, length, Bool, true, false, ◌&&◌, ◌||◌, not, nat_le, Option, Some, None, is_some, IsSomeAnd, if◌then◌else◌}
use Rattle.std.specs.Option.{option_map, option_map_or}
use Rattle.std.specs.List.{list_any}
use Rattle.std.specs.Str.{chars}
use Rattle.es_glob.specs.declared.mark.Mark.{Mark}
use Rattle.es_glob.specs.declared.mark.Mark.TheVariants.{Is, One, Any}

-- the characters that have a meaning of their own
abbrev pub star : ℕ
star = 42

abbrev pub question_mark : ℕ
question_mark = 63

abbrev pub backslash : ℕ
backslash = 92

abbrev pub slash : ℕ
slash = 47

-- what a character stands for, where no backslash makes it stand for itself: a star for any run of characters, a question mark for any one
abbrev pub mark_of : ℕ → Mark
mark_of c = if c == star then Any else if c == question_mark then One else Is c

abbrev mutual
  -- the marks that characters stand for; none where a lone backslash ends them
  pub marks_of : List ℕ → Option (List Mark)
  marks_of [] = Some []
  marks_of (c ∷ cs) = if c == backslash then marks_escaped cs else option_map (λ marks. mark_of c ∷ marks) (marks_of cs)

  -- the same behind a backslash: the first character stands for itself
  pub marks_escaped : List ℕ → Option (List Mark)
  marks_escaped [] = None
  marks_escaped (c ∷ cs) = option_map (λ marks. Is c ∷ marks) (marks_of cs)

-- how many characters a pattern may have
abbrev pub max_characters : ℕ
max_characters = 255

-- there is a first character, and it isn't a slash
abbrev pub can_begin : List ℕ → Bool
can_begin [] = false
can_begin (c ∷ cs) = not (c == slash)

-- whether the bytes of a text are a pattern: it can begin so, it isn't too long, and no lone backslash ends it
unfoldable pub is_pattern : List ℕ → Bool
is_pattern pattern = (can_begin (chars pattern) && nat_le (length (chars pattern)) max_characters) && is_some (marks_of (chars pattern))

-- the marks fit the text: each mark takes a part of it, from the first on, and nothing is left
abbrev pub Fits : List Mark → List ℕ → Type 0
Fits [] text = text ≡ []
Fits (Is c ∷ marks) text = (rest : List ℕ) × (text ≡ c ∷ rest) × Fits marks rest
Fits (One ∷ marks) text = (c : ℕ) × (rest : List ℕ) × (text ≡ c ∷ rest) × Fits marks rest
Fits (Any ∷ marks) text = (run : List ℕ) × (rest : List ℕ) × (text ≡ run ++ rest) × Fits marks rest

-- the marks of a pattern fit the characters of a text, both given by their bytes
unfoldable pub FitsText : List ℕ → List ℕ → Type 0
FitsText pattern text = IsSomeAnd (marks_of (chars pattern)) (λ marks. Fits marks (chars text))

-- whether the text, or what is left of it behind some of its first characters, passes the test
abbrev pub some_rest : (List ℕ → Bool) → List ℕ → Bool
some_rest test [] = test []
some_rest test (c ∷ cs) = test (c ∷ cs) || some_rest test cs

-- whether the marks fit the text
abbrev pub fits_marks : List Mark → List ℕ → Bool
fits_marks [] [] = true
fits_marks [] (c ∷ cs) = false
fits_marks (Is d ∷ marks) [] = false
fits_marks (Is d ∷ marks) (c ∷ cs) = c == d && fits_marks marks cs
fits_marks (One ∷ marks) [] = false
fits_marks (One ∷ marks) (c ∷ cs) = fits_marks marks cs
fits_marks (Any ∷ marks) cs = some_rest (fits_marks marks) cs

-- whether a pattern fits a text, both given by their bytes; one that a lone backslash ends fits nothing
unfoldable pub fits : List ℕ → List ℕ → Bool
fits pattern text = option_map_or (λ marks. fits_marks marks (chars text)) (marks_of (chars pattern)) false

-- whether one of the patterns fits the text
abbrev pub any_fits : List (List ℕ) → List ℕ → Bool
any_fits patterns text = list_any (λ pattern. fits pattern text) patterns

-- ---- for private clauses

-- whether the mark takes the character; a mark for any run takes none by itself
abbrev pub takes : Mark → ℕ → Bool
takes (Is d) c = c == d
takes One c = true
takes Any c = false

-- whether no mark is left, or the next stands for any run
abbrev pub is_run_next : List Mark → Bool
is_run_next [] = true
is_run_next (Is d ∷ marks) = false
is_run_next (One ∷ marks) = false
is_run_next (Any ∷ marks) = true
