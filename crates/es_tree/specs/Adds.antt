-- What writing adds to what is written, for private clauses.
use Rattle.std.specs.Prelude.{◌≡◌, ℕ, List, [], ◌∷◌, ◌++◌, Bool, true, if◌then◌else◌}
use Rattle.json.specs.Print.{print, ends_value}
use Rattle.json.specs.Written.{Written}

-- a comma, where a value stands before
abbrev pub comma_if : Bool → List ℕ
comma_if later = if later then 44 ∷ [] else []

-- the texts with a comma between each two, and one before the first where a value stands before
abbrev pub more_texts : Bool → List (List ℕ) → List ℕ
more_texts later [] = []
more_texts later (t ∷ ts) = comma_if later ++ (t ++ more_texts true ts)

-- a value's text is added
pub record AddsText (old new : Written) (s : List ℕ) : Type 0 where
  pub text : print new.tokens ≡ print old.tokens ++ (comma_if (ends_value old.tokens) ++ s)
  pub ends : ends_value new.tokens ≡ true
  pub before : new.before ≡ old.before
