-- What a drill read and wrote, and why it ended.
use Rattle.std.specs.Prelude.{◌≡◌, ◌≢◌, ◌<◌, ◌≤◌, ℕ, ◌+◌, ◌==◌, Bool, true, not, List, [], ◌∷◌, ◌++◌, length, All, Some, None}
use Rattle.std.specs.List.{list_all, flat_map}
use Rattle.es_edge.specs.Moves.{Input, Output, Gives, Takes, HasEnded}
use Rattle.es_edge.specs.Causes.{Rose}
use Rattle.es_drill.specs.declared.ending.Drilled.{Drilled}
use Rattle.es_drill.specs.declared.ending.Drilled.TheVariants as end
use Rattle.es_drill.specs.Lines.{line_limit}
use Rattle.es_drill.specs.Drill.{Drill, drilled}

-- as many lines are taken at the most
abbrev pub most_lines : ℕ
most_lines = 1000000

-- ---- how the bytes are cut

-- a line without a line feed
abbrev pub is_line : List ℕ → Bool
is_line bytes = list_all (λ b. not (b == 10)) bytes

-- a line with its line feed
abbrev pub fed : List ℕ → List ℕ
fed line = line ++ 10 ∷ []

-- the bytes are these lines, each with its line feed, and then rest
pub record IsCut (bytes : List ℕ) (lines : List (List ℕ)) (rest : List ℕ) : Type 0 where
  pub whole : bytes ≡ flat_map fed lines ++ rest
  pub each : All (λ line. is_line line ≡ true) lines

-- The line at which a drill ended, of the bytes that stand behind the lines before it: it has its line feed, it is the last one and the source ended, or no line feed stands in more bytes than a line may have.
pub data IsNext (rest line : List ℕ) (old new : Input) : Type 0 where
  fed_line : (more : List ℕ) → rest ≡ fed line ++ more → is_line line ≡ true → IsNext rest line old new
  last_line : rest ≡ line → rest ≢ [] → is_line line ≡ true → HasEnded old new → IsNext rest line old new
  long_line : rest ≡ line → line_limit < length line → is_line line ≡ true → IsNext rest line old new

-- the last line that is taken where the source ended: what stands behind the last line feed, if anything does
abbrev pub last_of : List ℕ → List (List ℕ)
last_of [] = []
last_of (b ∷ rest) = (b ∷ rest) ∷ []

-- ---- what is written

-- all that a drill printed was written, and it came to no fault
pub record HasPrinted (d : Drill) (written : List ℕ) : Type 0 where
  pub all : written ≡ d.printed
  pub fine : d.fault ≡ None

-- all that was printed before a line was written, and of what the line prints a part at its front that is not all of it
pub record HasPart (before whole : Drill) (written : List ℕ) : Type 0 where
  pub fine : before.fault ≡ None
  pub own : List ℕ
  pub left : List ℕ
  pub short : left ≢ []
  pub written_is : written ≡ before.printed ++ own
  pub whole_is : whole.printed ≡ written ++ left

-- ---- why it ended

-- By the lines that were taken whole, the bytes behind them, what was written, and the counts of the source and of the sink.
-- A read fault comes where no line stands in what waits, nor more bytes than a line may have, and behind the last line that may be taken where nothing waits. Where memory is refused, what the lines before print is written, and nothing of the next one.
abbrev pub EndsBy : (List (List ℕ) → Drill) → List (List ℕ) → List ℕ → List ℕ → Input → Input → Output → Output → Drilled → Type 0
EndsBy all_of lines rest written old new out out_new end.Done =
    (is_line rest ≡ true) × (length lines + length (last_of rest) ≤ most_lines) × HasEnded old new × HasPrinted (all_of (lines ++ last_of rest)) written
EndsBy all_of lines rest written old new out out_new (end.BadSchedule number what) =
    (line : List ℕ) × IsNext rest line old new × (number ≡ length lines + 1) × (number ≤ most_lines) × ((all_of lines).fault ≡ None)
    × ((all_of (lines ++ line ∷ [])).fault ≡ Some (number, what)) × (written ≡ (all_of (lines ++ line ∷ [])).printed)
EndsBy all_of lines rest written old new out out_new end.ReadFault =
    (is_line rest ≡ true) × (length rest ≤ line_limit) × (length lines ≤ most_lines) × (length lines ≡ most_lines → rest ≡ []) × Rose old.faults new.faults × HasPrinted (all_of lines) written
EndsBy all_of lines rest written old new out out_new end.Spent = (length lines ≡ most_lines) × (rest ≢ []) × HasPrinted (all_of lines) written
EndsBy all_of lines rest written old new out out_new end.WriteFault =
    (line : List ℕ) × IsNext rest line old new × (length lines < most_lines) × Rose out.faults out_new.faults × HasPart (all_of lines) (all_of (lines ++ line ∷ [])) written
EndsBy all_of lines rest written old new out out_new end.NoMemory = (length lines < most_lines) × HasPrinted (all_of lines) written

-- but for the end that a fault makes, the counts of faults are as before
abbrev pub IsCalm : Input → Input → Output → Output → Drilled → Type 0
IsCalm old new out out_new end.ReadFault = out_new.faults ≡ out.faults
IsCalm old new out out_new end.WriteFault = new.faults ≡ old.faults
IsCalm old new out out_new end.Done = (new.faults ≡ old.faults) × (out_new.faults ≡ out.faults)
IsCalm old new out out_new (end.BadSchedule number what) = (new.faults ≡ old.faults) × (out_new.faults ≡ out.faults)
IsCalm old new out out_new end.Spent = (new.faults ≡ old.faults) × (out_new.faults ≡ out.faults)
IsCalm old new out out_new end.NoMemory = (new.faults ≡ old.faults) × (out_new.faults ≡ out.faults)

-- A whole drill: what it read are lines and a rest, and what it wrote is what these lines print, up to its end.
pub record HasDrilled (secret : List ℕ) (limit capacity : ℕ) (old new : Input) (out out_new : Output) (ended : Drilled) : Type 0 where
  pub read : List ℕ
  pub lines : List (List ℕ)
  pub rest : List ℕ
  pub written : List ℕ
  pub gave : Gives old new read
  pub cut : IsCut read lines rest
  pub took : Takes out out_new written
  pub ends : EndsBy (drilled secret limit capacity) lines rest written old new out out_new ended
  pub calm : IsCalm old new out out_new ended
