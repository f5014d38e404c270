-- What a drill prints.
use Rattle.std.specs.Prelude.{ℕ, ◌+◌, List, [], ◌∷◌, ◌++◌, codes, decimal}
use Rattle.es_job.specs.declared.note.Note.{Note}
use Rattle.es_job.specs.declared.note.Note.TheVariants as note
use Rattle.es_drill.specs.declared.ending.ScheduleFault.{ScheduleFault}
use Rattle.es_drill.specs.declared.ending.ScheduleFault.TheVariants as fault
use Rattle.es_job.specs.Steps.{Phase, begun, publishing, changing, ended}

-- the letter of an actor
abbrev pub letter_of : ℕ → ℕ
letter_of actor = actor + 64

-- a line of an actor's
abbrev pub line_by : ℕ → List ℕ → List ℕ
line_by actor text = letter_of actor ∷ 32 ∷ text ++ 10 ∷ []

-- a word and a number, or two
abbrev pub with_number : List ℕ → ℕ → List ℕ
with_number word n = word ++ (32 ∷ decimal n)

abbrev pub with_numbers : List ℕ → ℕ → ℕ → List ℕ
with_numbers word n m = word ++ (32 ∷ decimal n ++ (32 ∷ decimal m))

-- a note: places, and behind them counts; of a stale publication the count at the look and then the one that stands
unfoldable pub note_text : Note → List ℕ
note_text (note.Seen place) = with_number (codes "seen") place
note_text (note.Hit place count) = with_numbers (codes "hit") place count
note_text (note.Miss place count) = with_numbers (codes "miss") place count
note_text (note.Unknown place) = with_number (codes "unknown") place
note_text note.Published = codes "published"
note_text (note.Stale began stands) = with_numbers (codes "stale") began stands
note_text (note.Changed place) = with_number (codes "changed") place
note_text (note.Refused place) = with_number (codes "refused") place
note_text (note.Full place) = with_number (codes "full") place

-- the line of a step
abbrev pub note_line : ℕ → Note → List ℕ
note_line actor n = line_by actor (note_text n)

-- the line of a reply: its status, its place and its body
abbrev pub reply_line : ℕ → ℕ → ℕ → List ℕ → List ℕ
reply_line actor status place body = line_by actor (with_numbers (codes "reply") status place ++ (32 ∷ body))

-- what comes behind the line of a step: the reply, where the call has ended
abbrev pub reply_behind : ℕ → Phase → List ℕ
reply_behind actor begun = []
reply_behind actor (publishing s keys) = []
reply_behind actor (changing s) = []
reply_behind actor (ended place changed reply) = reply_line actor reply.status place reply.body

-- what is wrong with a line
abbrev pub fault_text : ScheduleFault → List ℕ
fault_text fault.BadLine = codes "bad line"
fault_text fault.IdleActor = codes "idle actor"
fault_text fault.BusyActor = codes "busy actor"

-- the line of a fault
abbrev pub fault_line : ℕ → ScheduleFault → List ℕ
fault_line number what = codes "line " ++ (decimal number ++ (codes ": " ++ (fault_text what ++ 10 ∷ [])))
