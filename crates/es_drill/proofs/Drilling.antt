-- A drill from line to line, and its ends.
use Rattle.std.proofs.Common.{◌≡◌, ◌≢◌, ℕ, ◌+◌, ◌<◌, ◌≤◌, Bool, true, false, List, [], ◌∷◌, ◌++◌, length, length-append, take, drop, replicate, Option, Some, None, Result, Ok, Err, refl, sym, ap, subst, subst₂, ◌∙◌, arith, append_assoc, append-nil}
use Rattle.std.specs.List.{flat_map}
use Rattle.std.proofs.lemmas.List.Elements.{All-push, All-nil}
use Rattle.std.proofs.lemmas.Grind.{flat_map-append}
use Rattle.std.proofs.Math.Seq.{take-append_seam, drop-append_seam}
use Rattle.std.proofs.lemmas.Bool.{leb-true}
use Rattle.std.specs.Prelude.{nat_le, ◌&&◌, slice_index_or, is_err, OnOk}
use Rattle.std.proofs.lemmas.List.{length-replicate, get_or-replicate}
use Rattle.std.specs.Str.{is_utf8}
use Rattle.es_edge.specs.Moves.{Input, Output, Gives, Takes, HasEnded}
use Rattle.es_edge.specs.Causes.{Rose}
use Rattle.es_edge.specs.Sends.{Sends}
use Rattle.es_edge.specs.declared.sending.Sent.TheVariants as sent
use Rattle.es_edge.proofs.MoveLemmas.{Gives-then, Gives-none, Takes-then, Takes-none}
use Rattle.es_wire.proofs.ConnLemmas.{rose_since}
use Rattle.es_vault.specs.World.{opening_world, replay}
use Rattle.es_vault.specs.Vault.{VaultValue}
use Rattle.es_job.specs.Job.{JobValue}
use Rattle.es_job.specs.Core.{State, IsCore}
use Rattle.es_drill.specs.declared.ending.Drilled.{Drilled}
use Rattle.es_drill.specs.declared.ending.Drilled.TheVariants as end
use Rattle.es_drill.specs.declared.ending.ScheduleFault.{ScheduleFault}
use Rattle.es_drill.specs.declared.ending.ScheduleFault.TheVariants as fault
use Rattle.es_drill.specs.declared.reading.Found.TheVariants as found
use Rattle.es_drill.specs.declared.reading.After.TheVariants as after
use Rattle.es_drill.specs.declared.turning.Stop.{Stop}
use Rattle.es_drill.specs.declared.turning.Stop.TheVariants as stop
use Rattle.es_drill.specs.declared.taking.Next.{Next}
use Rattle.es_drill.specs.declared.taking.Next.TheVariants as go
use Rattle.es_drill.specs.Lines.{Line, line_limit, line_of, only_if, ◌then◌, cut_of, line_with}
use Rattle.es_drill.specs.Output.{fault_line}
use Rattle.es_drill.specs.Drill.{Made, Does, faults, makes, line_does, Drill, drill_with, drill_lines, drilled, opened_state}
use Rattle.es_drill.specs.Drilled.{most_lines, fed, is_line, IsCut, IsNext, last_of, HasPrinted, HasDrilled}
use Rattle.es_drill.specs.Keeping.{actors, IsJobOf, AreJobsOf, HasJobs, LineTaken, Grows, Finds, AfterAll, printed_by, TakenBy, Goes, GoesOn, behind_last}
use Rattle.es_drill.proofs.Making.{KeepsCore, begun_core, drilled_more, line_core}

-- no line was taken yet
pub goes_none : (secret : List ℕ) (limit capacity : ℕ) (vault : VaultValue) (jobs : List (Option JobValue)) (pending : List ℕ) (source : Input) (sink : Output) → HasJobs secret limit (opened_state secret limit capacity) vault jobs
    → pending ≡ [] → source.is_open ≡ true → sink.is_open ≡ true → Goes 0 secret limit capacity vault jobs pending source source sink sink
unfolding drill_lines
goes_none secret limit capacity vault jobs pending source sink has none source_open sink_open = record {
  read = [];
  lines = [];
  taken = refl;
  fine = refl;
  has = has;
  gave = Gives-none source;
  cut = record { whole = sym none; each = All-nil (λ (line : List ℕ). is_line line ≡ true) };
  took = Takes-none sink;
  calm = (refl, refl);
  source_is_open = source_open;
  sink_is_open = sink_open;
}

-- memory was refused before anything was read
pub ends_unopened : (secret : List ℕ) (limit capacity : ℕ) (source : Input) (sink : Output) → HasDrilled secret limit capacity source source sink sink end.NoMemory
unfolding drill_lines
ends_unopened secret limit capacity source sink = record {
  read = [];
  lines = [];
  rest = [];
  written = [];
  gave = Gives-none source;
  cut = record { whole = refl; each = All-nil (λ (line : List ℕ). is_line line ≡ true) };
  took = Takes-none sink;
  ends = (omega arith, record { all = refl; fine = refl });
  calm = (refl, refl);
}

-- ---- what a line prints is written

-- all was taken
sent_all : {old new : Output} {bytes : List ℕ} → Sends old new bytes sent.Ok → Takes old new bytes
sent_all {old} {new} {bytes} sends =
    let all : sends.written ≡ bytes = sym (append-nil sends.written) ∙ ap (λ (q : List ℕ). sends.written ++ q) (sym sends.cause.0) ∙ sym sends.parts in
    subst (Takes old new) all sends.took

module _ {old new : Output} {bytes printed : List ℕ} (is : bytes ≡ printed) where
  -- what a line made was written
  pub made_put : Sends old new bytes sent.Ok → (number : ℕ) (does : Does) (vault : VaultValue) (jobs : List (Option JobValue)) → LineTaken does vault jobs [] printed (Ok tt) → TakenBy number does vault jobs old new go.On
  made_put sends number (faults what) vault jobs taken = absurd taken
  made_put sends number (makes made) vault jobs taken = (made, refl, taken.vault_is, taken.jobs_are, subst (Takes old new) (is ∙ taken.printed_is) (sent_all sends), sends.cause.1)

  -- or a part of it
  pub made_unput : Sends old new bytes sent.WriteFault → (number : ℕ) (does : Does) (vault : VaultValue) (jobs : List (Option JobValue)) → LineTaken does vault jobs [] printed (Ok tt) → TakenBy number does vault jobs old new (go.Ends end.WriteFault)
  made_unput sends number (faults what) vault jobs taken = absurd taken
  made_unput sends number (makes made) vault jobs taken = subst (λ (q : List ℕ). Sends old new q sent.WriteFault) (is ∙ taken.printed_is) sends

  -- why a line is refused was written
  pub fault_put : Sends old new bytes sent.Ok → (number : ℕ) (what : ScheduleFault) → printed ≡ fault_line number what → (vault : VaultValue) (jobs : List (Option JobValue)) → TakenBy number (faults what) vault jobs old new (go.Ends (end.BadSchedule number what))
  fault_put sends number what said vault jobs = (refl, refl, subst (Takes old new) (is ∙ said) (sent_all sends), sends.cause.1)

  pub fault_unput : Sends old new bytes sent.WriteFault → (number : ℕ) (what : ScheduleFault) → printed ≡ fault_line number what → (vault : VaultValue) (jobs : List (Option JobValue)) → TakenBy number (faults what) vault jobs old new (go.Ends end.WriteFault)
  fault_unput sends number what said vault jobs = subst (λ (q : List ℕ). Sends old new q sent.WriteFault) (is ∙ said) sends

-- where memory isn't refused it was printed
pub fault_said : {E : Type 0} (number : ℕ) (what : ScheduleFault) (before after : List ℕ) (done : Result (Unit {0}) E) → false ≡ is_err done → before ≡ [] → OnOk done (after ≡ before ++ fault_line number what) → after ≡ fault_line number what
fault_said number what before after (Ok x) fine none is = is ∙ ap (λ (q : List ℕ). q ++ fault_line number what) none
fault_said number what before after (Err e) fine none is = cc

-- of what a line made nothing was printed before
pub made_taken : (does : Does) (vault : VaultValue) (jobs : List (Option JobValue)) (empty printed text : List ℕ) (done : Unit {0}) → empty ≡ [] → text ≡ printed → LineTaken does vault jobs empty printed (Ok done) → LineTaken does vault jobs [] text (Ok tt)
made_taken (faults what) vault jobs empty printed text done none same taken = absurd taken
made_taken (makes made) vault jobs empty printed text done none same taken =
    record { vault_is = taken.vault_is; printed_is = same ∙ taken.printed_is ∙ ap (λ (q : List ℕ). q ++ made.printed) none; jobs_are = taken.jobs_are }

-- a line that is refused prints nothing before
pub refused_by : (does : Does) (why : Stop) (what : ScheduleFault) (vault : VaultValue) (jobs : List (Option JobValue)) (empty printed : List ℕ) → why ≡ stop.Refused what → empty ≡ [] → LineTaken does vault jobs empty printed (Err why)
    → (faults what ≡ does) × (printed ≡ [])
refused_by does why what vault jobs empty printed is none taken = by does (subst (λ (w : Stop). LineTaken does vault jobs empty printed (Err w)) is taken)
  where
    by : (does : Does) → LineTaken does vault jobs empty printed (Err (stop.Refused what)) → (faults what ≡ does) × (printed ≡ [])
    by (faults why) taken = (ap faults taken.0, taken.1 ∙ none)
    by (makes made) taken = absurd taken

-- the drill begins
pub goes_opened : (secret : List ℕ) (limit capacity : ℕ) → 1 ≤ limit → limit ≤ 200000 → (vault : VaultValue) → vault.at ≡ record { world = opening_world secret; place = 1; weight = 0 } → vault.limit ≡ limit → vault.roles ≡ record { entries = []; count = 0; capacity = capacity }
    → (jobs : List (Option JobValue)) → jobs ≡ replicate actors None → (pending : List ℕ) → pending ≡ [] → (source : Input) → source.is_open ≡ true → (sink : Output) → sink.is_open ≡ true
    → Goes 0 secret limit capacity vault jobs pending source source sink sink
unfolding replay
goes_opened secret limit capacity some most vault at_is limit_is roles_are jobs none pending nothing source source_open sink sink_open =
    goes_none secret limit capacity vault jobs pending source sink
    (record { core = begun_core secret limit capacity some most; vault_is = λ i. record { at = at_is i; limit = limit_is i; roles = roles_are i }; jobs_are = no_jobs jobs none }) nothing source_open sink_open
  where
    no_jobs : (jobs : List (Option JobValue)) → jobs ≡ replicate actors None → AreJobsOf (opened_state secret limit capacity).tasks jobs
    no_jobs jobs none = record {
      all = ap length none ∙ length-replicate {A = Option JobValue} actors None;
      each = λ at within. subst (IsJobOf None) (sym (ap (λ (js : List (Option JobValue)). slice_index_or js at None) none ∙ get_or-replicate {A = Option JobValue} actors at None None within)) tt;
    }

last_some : (rest : List ℕ) → rest ≢ [] → last_of rest ≡ rest ∷ []
last_some [] some = absurd (some refl)
last_some (b ∷ rest) some = refl

with_printed : (d : Drill) (number : ℕ) (does : Does) → (drill_with d number does).printed ≡ d.printed ++ printed_by number does
with_printed d number (faults what) = refl
with_printed d number (makes made) = refl

no_fault : (what : ScheduleFault) (made : Made) → faults what ≡ makes made → ⊥
no_fault what made is = cc is

not_below : (n m : ℕ) → m < n → (b : Bool) → nat_le n m ≡ b → b ≡ false
not_below n m more true is = let below = leb-true n m is in absurd (omega (arith, below, more))
not_below n m more false is = refl

-- a line that is too long says nothing
long_none : (line : List ℕ) → line_limit < length line → line_of line ≡ None
unfolding line_of
long_none line long = ap (λ (b : Bool). only_if (b && is_utf8 line) line then λ text. cut_of text then λ cut. line_with cut.word cut.rest) (not_below (length line) line_limit long (nat_le (length line) line_limit) refl)

module _ {count : ℕ} {secret : List ℕ} {limit capacity : ℕ} {vault : VaultValue} {jobs : List (Option JobValue)} {pending : List ℕ} {first old : Input} {start out : Output}
    (so_far : Goes count secret limit capacity vault jobs pending first old start out) where
  abbrev so : Drill
  so = drilled secret limit capacity so_far.lines

  -- what the next line does
  abbrev pub does : List ℕ → Does
  does line = line_does so.state (count + 1) (line_of line)

  -- with the next line
  with_next : (line : List ℕ) (x : Does) → does line ≡ x → drilled secret limit capacity (so_far.lines ++ line ∷ []) ≡ drill_with so (count + 1) x
  with_next line x is =
      drilled_more secret limit capacity so_far.lines line x so_far.fine (ap (λ (n : ℕ). line_does so.state (n + 1) (line_of line)) so_far.taken ∙ is)
      ∙ ap (λ (n : ℕ). drill_with so (n + 1) x) so_far.taken

  -- the lines so far, and their number
  one_more : (line : List ℕ) → length (so_far.lines ++ line ∷ []) ≡ count + 1
  one_more line = length-append so_far.lines (line ∷ []) ∙ ap (λ (n : ℕ). n + 1) so_far.taken

  module _ {now : List ℕ} {new : Input} (grows : Grows pending now old new) where
    abbrev read_all : List ℕ
    read_all = so_far.read ++ grows.read

    gave_all : Gives first new read_all
    gave_all = Gives-then so_far.gave grows.given

    -- all that was read is the lines and what waits
    cut_now : IsCut read_all so_far.lines now
    cut_now = record {
      whole = ap (λ (q : List ℕ). q ++ grows.read) so_far.cut.whole ∙ append_assoc (flat_map fed so_far.lines) pending grows.read ∙ ap (λ (q : List ℕ). flat_map fed so_far.lines ++ q) (sym grows.now_is);
      each = so_far.cut.each;
    }

    -- and with the next line, what waits behind it
    cut_next : (line more : List ℕ) → now ≡ fed line ++ more → is_line line ≡ true → IsCut read_all (so_far.lines ++ line ∷ []) more
    cut_next line more is whole = record {
      whole =
          cut_now.whole ∙ ap (λ (q : List ℕ). flat_map fed so_far.lines ++ q) is ∙ sym (append_assoc (flat_map fed so_far.lines) (fed line) more)
          ∙ ap (λ (q : List ℕ). (flat_map fed so_far.lines ++ q) ++ more) (sym (append-nil (fed line)))
          ∙ ap (λ (q : List ℕ). q ++ more) (sym (flat_map-append fed so_far.lines (line ∷ [])));
      each = All-push (λ (l : List ℕ). is_line l ≡ true) so_far.lines line so_far.cut.each whole;
    }

    ended_all : HasEnded old new → HasEnded first new
    ended_all ended = let least = so_far.gave.ends in (rose_since first.ends old.ends new.ends least ended.0, ended.1)

    calm_all : new.faults ≡ old.faults → new.faults ≡ first.faults
    calm_all same = same ∙ so_far.calm.0

    open_all : new.is_open ≡ true
    open_all = grows.given.is_open ∙ so_far.source_is_open

    -- what the lines so far print was written
    printed_all : HasPrinted so so.printed
    printed_all = record { all = refl; fine = so_far.fine }

    -- ---- no line stands in what waits

    -- the source ended, and nothing waits
    pub ends_done : count < most_lines → now ≡ [] → HasEnded old new → new.faults ≡ old.faults → HasDrilled secret limit capacity first new start out end.Done
    ends_done few none ended same = record {
      read = read_all;
      lines = so_far.lines;
      rest = [];
      written = so.printed;
      gave = gave_all;
      cut = subst (IsCut read_all so_far.lines) none cut_now;
      took = so_far.took;
      ends = (
        refl,
        (let taken = so_far.taken in omega (arith, few, taken)),
        ended_all ended,
        subst (λ (all : List (List ℕ)). HasPrinted (drilled secret limit capacity all) so.printed) (sym (append-nil so_far.lines)) printed_all,
      );
      calm = (calm_all same, so_far.calm.1);
    }

    -- the source failed
    pub ends_failed : count ≤ most_lines → (count ≡ most_lines → now ≡ []) → is_line now ≡ true → length now ≤ line_limit → Rose old.faults new.faults → HasDrilled secret limit capacity first new start out end.ReadFault
    ends_failed few none is_one short rose = record {
      read = read_all;
      lines = so_far.lines;
      rest = now;
      written = so.printed;
      gave = gave_all;
      cut = cut_now;
      took = so_far.took;
      ends = (
        is_one,
        short,
        (let taken = so_far.taken in omega (arith, few, taken)),
        (λ (all : length so_far.lines ≡ most_lines). none (sym so_far.taken ∙ all)),
        (let least = so_far.gave.faults in rose_since first.faults old.faults new.faults least rose),
        printed_all,
      );
      calm = so_far.calm.1;
    }

    -- a byte follows the last line that may be taken
    pub ends_spent : count ≡ most_lines → now ≢ [] → new.faults ≡ old.faults → HasDrilled secret limit capacity first new start out end.Spent
    ends_spent all some same = record {
      read = read_all;
      lines = so_far.lines;
      rest = now;
      written = so.printed;
      gave = gave_all;
      cut = cut_now;
      took = so_far.took;
      ends = (so_far.taken ∙ all, some, printed_all);
      calm = (calm_all same, so_far.calm.1);
    }

    -- memory was refused
    pub ends_memory : count < most_lines → new.faults ≡ old.faults → HasDrilled secret limit capacity first new start out end.NoMemory
    ends_memory few same = record {
      read = read_all;
      lines = so_far.lines;
      rest = now;
      written = so.printed;
      gave = gave_all;
      cut = cut_now;
      took = so_far.took;
      ends = ((let taken = so_far.taken in omega (arith, few, taken)), printed_all);
      calm = (calm_all same, so_far.calm.1);
    }

    -- the source ended behind all lines that may be taken
    pub ends_all : count ≡ most_lines → now ≡ [] → HasEnded old new → new.faults ≡ old.faults → HasDrilled secret limit capacity first new start out end.Done
    ends_all all none ended same = record {
      read = read_all;
      lines = so_far.lines;
      rest = [];
      written = so.printed;
      gave = gave_all;
      cut = subst (IsCut read_all so_far.lines) none cut_now;
      took = so_far.took;
      ends = (
        refl,
        (let taken = so_far.taken in omega (arith, all, taken)),
        ended_all ended,
        subst (λ (ls : List (List ℕ)). HasPrinted (drilled secret limit capacity ls) so.printed) (sym (append-nil so_far.lines)) printed_all,
      );
      calm = (calm_all same, so_far.calm.1);
    }

    -- ---- at a line

    module _ (line : List ℕ) (vault' : VaultValue) (jobs' : List (Option JobValue)) (out' : Output) (few : count < most_lines) (same : new.faults ≡ old.faults) where
      -- what it made holds what always holds
      made_core : (made : Made) → does line ≡ makes made → IsCore secret limit made.state
      made_core made is = subst (KeepsCore secret limit) is (line_core secret limit so.state so_far.has.core (count + 1) (omega (arith, few)) (line_of line))

      -- the line was taken, and more waits behind its line feed
      pub goes_more : (more : List ℕ) → now ≡ fed line ++ more → is_line line ≡ true → TakenBy (count + 1) (does line) vault' jobs' out out' go.On
          → Goes (count + 1) secret limit capacity vault' jobs' more first new start out'
      goes_more more is is_one taken =
          let made : Made = taken.0 in
          let drill_is : drill_with so (count + 1) (makes made) ≡ drilled secret limit capacity (so_far.lines ++ line ∷ []) = sym (with_next line (makes made) taken.1) in
          record {
            read = read_all;
            lines = so_far.lines ++ line ∷ [];
            taken = one_more line;
            fine = subst (λ (d : Drill). d.fault ≡ None) drill_is refl;
            has = subst (λ (d : Drill). HasJobs secret limit d.state vault' jobs') drill_is (record { core = made_core made taken.1; vault_is = taken.2; jobs_are = taken.3 });
            gave = gave_all;
            cut = cut_next line more is is_one;
            took = subst (λ (d : Drill). Takes start out' d.printed) drill_is (Takes-then so_far.took taken.4);
            calm = (calm_all same, taken.5 ∙ so_far.calm.1);
            source_is_open = open_all;
            sink_is_open = taken.4.is_open ∙ so_far.sink_is_open;
          }

      -- the line was taken, and it was the last one
      pub ends_last : now ≡ line → now ≢ [] → is_line now ≡ true → HasEnded old new → TakenBy (count + 1) (does line) vault' jobs' out out' go.On → HasDrilled secret limit capacity first new start out' end.Done
      ends_last is some is_one ended taken =
          let made : Made = taken.0 in
          let last : last_of now ≡ line ∷ [] = last_some now some ∙ ap (λ (l : List ℕ). l ∷ []) is in
          let drill_is : drill_with so (count + 1) (makes made) ≡ drilled secret limit capacity (so_far.lines ++ last_of now) =
          sym (with_next line (makes made) taken.1) ∙ ap (λ (ls : List (List ℕ)). drilled secret limit capacity (so_far.lines ++ ls)) (sym last) in
          record {
            read = read_all;
            lines = so_far.lines;
            rest = now;
            written = so.printed ++ made.printed;
            gave = gave_all;
            cut = cut_now;
            took = Takes-then so_far.took taken.4;
            ends = (
              is_one,
              (let one = ap length last in let all = so_far.taken in omega (arith, one, all, few)),
              ended_all ended,
              subst (λ (d : Drill). HasPrinted d (so.printed ++ made.printed)) drill_is (record { all = refl; fine = refl }),
            );
            calm = (calm_all same, taken.5 ∙ so_far.calm.1);
          }

      next_all : IsNext now line old new → IsNext now line first new
      next_all (IsNext.fed_line more is is_one) = IsNext.fed_line more is is_one
      next_all (IsNext.last_line is some is_one ended) = IsNext.last_line is some is_one (ended_all ended)
      next_all (IsNext.long_line is long is_one) = IsNext.long_line is long is_one

      -- the drill ended at the line
      pub ends_at : IsNext now line old new → (ended : Drilled) → TakenBy (count + 1) (does line) vault' jobs' out out' (go.Ends ended) → HasDrilled secret limit capacity first new start out' ended
      ends_at next end.Done taken = absurd taken
      ends_at next end.ReadFault taken = absurd taken
      ends_at next end.Spent taken = absurd taken
      ends_at next end.NoMemory taken = subst (λ (o : Output). HasDrilled secret limit capacity first new start o end.NoMemory) (sym taken) (ends_memory (omega (arith, few)) same)
      ends_at next end.WriteFault taken = record {
        read = read_all;
        lines = so_far.lines;
        rest = now;
        written = so.printed ++ taken.written;
        gave = gave_all;
        cut = cut_now;
        took = Takes-then so_far.took taken.took;
        ends = (
          line,
          next_all next,
          (let all = so_far.taken in omega (arith, all, few)),
          (let least = so_far.took.faults in rose_since start.faults out.faults out'.faults least taken.cause.1),
          record {
            fine = so_far.fine;
            own = taken.written;
            left = taken.rest;
            short = taken.cause.0;
            written_is = refl;
            whole_is =
                ap (λ (d : Drill). d.printed) (with_next line (does line) refl) ∙ with_printed so (count + 1) (does line) ∙ ap (λ (q : List ℕ). so.printed ++ q) taken.parts
                ∙ sym (append_assoc so.printed taken.written taken.rest);
          },
        );
        calm = calm_all same;
      }
      ends_at next (end.BadSchedule at what) taken =
          let drill_is : drilled secret limit capacity (so_far.lines ++ line ∷ []) ≡ drill_with so (count + 1) (faults what) = with_next line (faults what) taken.1 in
          record {
            read = read_all;
            lines = so_far.lines;
            rest = now;
            written = so.printed ++ fault_line (count + 1) what;
            gave = gave_all;
            cut = cut_now;
            took = Takes-then so_far.took taken.2;
            ends = (
              line,
              next_all next,
              (let all = so_far.taken in let number = taken.0 in omega (arith, all, number)),
              (let number = taken.0 in omega (arith, number, few)),
              so_far.fine,
              ap (λ (d : Drill). d.fault) drill_is ∙ ap (λ (n : ℕ). Some (n, what)) (sym taken.0),
              sym (ap (λ (d : Drill). d.printed) drill_is),
            );
            calm = (calm_all same, taken.3 ∙ so_far.calm.1);
          }

      -- a line with its line feed
      pub goes_line : (more : List ℕ) → now ≡ fed line ++ more → is_line line ≡ true → (next : Next) → TakenBy (count + 1) (does line) vault' jobs' out out' next
          → GoesOn count secret limit capacity vault' jobs' more first new start out' next
      goes_line more is is_one go.On taken = goes_more more is is_one taken
      goes_line more is is_one (go.Ends ended) taken = ends_at (IsNext.fed_line more is is_one) ended taken

      -- a line that is too long is refused
      refused_long : line_limit < length line → (made : Made) → does line ≡ makes made → ⊥
      unfolding line_does
      refused_long long made is = no_fault fault.BadLine made (sym (ap (λ (o : Option Line). line_does so.state (count + 1) o) (long_none line long)) ∙ is)

      pub goes_long : (pending' : List ℕ) → now ≡ line → line_limit < length line → is_line line ≡ true → (next : Next) → TakenBy (count + 1) (does line) vault' jobs' out out' next
          → GoesOn count secret limit capacity vault' jobs' pending' first new start out' next
      goes_long pending' is long is_one go.On taken = absurd (refused_long long taken.0 taken.1)
      goes_long pending' is long is_one (go.Ends ended) taken = ends_at (IsNext.long_line is long is_one) ended taken

      -- the last line, which the drill ends at where it is refused, and else behind it
      pub goes_last : now ≡ line → now ≢ [] → is_line now ≡ true → HasEnded old new → (pending' : List ℕ) (next : Next) → TakenBy (count + 1) (does line) vault' jobs' out out' next
          → GoesOn count secret limit capacity vault' jobs' pending' first new start out' (behind_last next)
      goes_last is some is_one ends pending' go.On taken = ends_last is some is_one ends taken
      goes_last is some is_one ends pending' (go.Ends ended) taken = ends_at (IsNext.last_line is some (subst (λ (l : List ℕ). is_line l ≡ true) is is_one) ends) ended taken

-- the line, and what waits behind its line feed
pub front_is : (now line more : List ℕ) → now ≡ fed line ++ more → take (length line) now ≡ line
front_is now line more is = ap (take (length line)) (is ∙ append_assoc line (10 ∷ []) more) ∙ take-append_seam line (10 ∷ [] ++ more)

pub pass_is : (now line more : List ℕ) → now ≡ fed line ++ more → drop (length line + 1) now ≡ more
pass_is now line more is =
    ap (drop (length line + 1)) is ∙ ap (λ (n : ℕ). drop n (fed line ++ more)) (sym (length-append line (10 ∷ []))) ∙ drop-append_seam (fed line) more

pub fed_length : (now line more : List ℕ) → now ≡ fed line ++ more → length line + 1 ≤ length now
fed_length now line more is =
    let whole = ap length is ∙ length-append (fed line) more in
    let one = length-append line (10 ∷ []) in
    omega (arith, whole, one)

-- ---- what was found, and what comes of it

none_left : (pending : List ℕ) → pending ≡ [] → [] ≡ pending ++ []
none_left pending none = sym (append-nil pending ∙ none)

module _ {count : ℕ} {secret : List ℕ} {limit capacity : ℕ} {vault : VaultValue} {jobs : List (Option JobValue)} {pending : List ℕ} {first old : Input} {start out : Output}
    (so_far : Goes count secret limit capacity vault jobs pending first old start out) where
  abbrev state : State
  state = (drilled secret limit capacity so_far.lines).state

  module _ (number : ℕ) (is : number ≡ count + 1) (within : number ≤ most_lines) where
    few : count < most_lines
    few = omega (arith, is, within)

    at_line : (bytes line : List ℕ) → bytes ≡ line → (vault' : VaultValue) (jobs' : List (Option JobValue)) (out' : Output) (next : Next) → TakenBy number (line_does state number (line_of bytes)) vault' jobs' out out' next
        → TakenBy (count + 1) (line_does state (count + 1) (line_of line)) vault' jobs' out out' next
    at_line bytes line same vault' jobs' out' next taken = subst₂ (λ (n : ℕ) (b : List ℕ). TakenBy n (line_does state n (line_of b)) vault' jobs' out out' next) is same taken

    pub took_nothing : {new : Input} → Finds pending [] old new found.NoMemory → HasDrilled secret limit capacity first new start out end.NoMemory
    took_nothing finds = ends_memory so_far (record { read = finds.0.0; given = finds.0.1; now_is = refl }) (omega (arith, few)) finds.1

    module _ {now : List ℕ} {new : Input} where
      pub took_line : {end_at : ℕ} → Finds pending now old new (found.Line end_at) → (bytes : List ℕ) → bytes ≡ take end_at now → (passed : List ℕ) → passed ≡ drop (end_at + 1) now → (vault' : VaultValue) (jobs' : List (Option JobValue)) (out' : Output) (next : Next)
          → TakenBy number (line_does state number (line_of bytes)) vault' jobs' out out' next → GoesOn count secret limit capacity vault' jobs' passed first new start out' next
      took_line {end_at} finds bytes front passed pass vault' jobs' out' next taken =
          let here = finds.1 in
          let bytes_are : bytes ≡ here.0 = front ∙ ap (λ (n : ℕ). take n now) (sym here.4) ∙ front_is now here.0 here.1 here.2 in
          let passed_is : passed ≡ here.1 = pass ∙ ap (λ (n : ℕ). drop (n + 1) now) (sym here.4) ∙ pass_is now here.0 here.1 here.2 in
          subst (λ (p : List ℕ). GoesOn count secret limit capacity vault' jobs' p first new start out' next) (sym passed_is)
          (goes_line so_far finds.0 here.0 vault' jobs' out' few here.5 here.1 here.2 here.3 next (at_line bytes here.0 bytes_are vault' jobs' out' next taken))

      pub took_long : Finds pending now old new found.Long → (bytes : List ℕ) → bytes ≡ now → (passed : List ℕ) (vault' : VaultValue) (jobs' : List (Option JobValue)) (out' : Output) (next : Next)
          → TakenBy number (line_does state number (line_of bytes)) vault' jobs' out out' next → GoesOn count secret limit capacity vault' jobs' passed first new start out' next
      took_long finds bytes all passed vault' jobs' out' next taken =
          let here = finds.1 in goes_long so_far finds.0 now vault' jobs' out' few here.2 passed refl here.1 here.0 next (at_line bytes now all vault' jobs' out' next taken)

      pub took_last : Finds pending now old new found.Last → (bytes : List ℕ) → bytes ≡ now → (passed : List ℕ) (vault' : VaultValue) (jobs' : List (Option JobValue)) (out' : Output) (next behind : Next) → behind ≡ behind_last next
          → TakenBy number (line_does state number (line_of bytes)) vault' jobs' out out' next → GoesOn count secret limit capacity vault' jobs' passed first new start out' behind
      took_last finds bytes all passed vault' jobs' out' next behind ends taken =
          let here = finds.1 in
          subst (GoesOn count secret limit capacity vault' jobs' passed first new start out') (sym ends)
          (goes_last so_far finds.0 now vault' jobs' out' few here.3 refl here.1 here.0 here.2 passed next (at_line bytes now all vault' jobs' out' next taken))

      pub took_end : Finds pending now old new found.Ended → HasDrilled secret limit capacity first new start out end.Done
      took_end finds = let here = finds.1 in ends_done so_far finds.0 few here.0 here.1 here.2

      pub took_fault : Finds pending now old new found.ReadFault → HasDrilled secret limit capacity first new start out end.ReadFault
      took_fault finds =
          let here = finds.1 in
          ends_failed so_far finds.0 (omega (arith, few)) (λ (all : count ≡ most_lines). absurd (omega (arith, few, all))) here.0 here.1 here.2

  module _ (all : count ≡ most_lines) {new : Input} where
    pub after_byte : AfterAll pending old new after.Byte → HasDrilled secret limit capacity first new start out end.Spent
    after_byte comes = ends_spent so_far (record { read = comes.0; given = comes.1; now_is = refl }) all comes.2 comes.3

    pub after_end : AfterAll pending old new after.End → HasDrilled secret limit capacity first new start out end.Done
    after_end comes = ends_all so_far (record { read = []; given = comes.1; now_is = none_left pending comes.0 }) all refl comes.2 comes.3

    pub after_fault : AfterAll pending old new after.ReadFault → HasDrilled secret limit capacity first new start out end.ReadFault
    after_fault comes = ends_failed so_far (record { read = []; given = comes.1; now_is = none_left pending comes.0 }) (omega (arith, all)) (λ (same : count ≡ most_lines). refl) refl (omega arith) comes.2
