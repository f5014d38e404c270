-- What waits, as it grows by reads.
use Rattle.std.proofs.Common.{◌≡◌, ◌≢◌, ℕ, ◌<◌, ◌≤◌, Bool, true, ◌==◌, List, [], ◌∷◌, ◌++◌, length, refl, sym, ◌∙◌, ap, subst, arith, append_assoc, append-nil}
use Rattle.std.proofs.lemmas.Bool.Decides.{nat_tests}
use Rattle.es_edge.specs.Moves.{Input, Gives, HasEnded}
use Rattle.es_edge.specs.Causes.{Rose}
use Rattle.es_edge.proofs.MoveLemmas.{Gives-then, Gives-none}
use Rattle.es_wire.specs.Fills.{Grown, IsQuiet}
use Rattle.es_wire.specs.Looks.{Wants}
use Rattle.es_wire.specs.Requests.{Message, ReadsMessage, HasNoMessage, MayBecomeMessage, Refuses, raw_of}
use Rattle.es_wire.specs.Next.{NextOf, IsAnswerTo, IsCalm, IsUnended, IsMendable}
use Rattle.es_wire.specs.declared.request.RawRequest.{RawRequest}
use Rattle.es_wire.specs.declared.conn.Next.{Next}
use Rattle.es_wire.specs.declared.conn.Next.TheVariants as next
use Rattle.es_wire.proofs.MessageLemmas.{none_refused}

pub Grown-none : (pending : List ℕ) (input : Input) → Grown pending pending input input
Grown-none pending input = record { read = []; given = Gives-none input; now_is = sym (append-nil pending) }

pub Grown-then : {a b c : List ℕ} {i j k : Input} → Grown a b i j → Grown b c j k → Grown a c i k
Grown-then {a} {b} {c} {i} {j} {k} first second = record {
  read = first.read ++ second.read;
  given = Gives-then first.given second.given;
  now_is = second.now_is ∙ ap (λ (q : List ℕ). q ++ second.read) first.now_is ∙ append_assoc a first.read second.read;
}

pub rose_since : (a b c : ℕ) → a ≤ b → Rose b c → Rose a c
rose_since a b c le rose = omega arith

ended_since : {a b : List ℕ} {i j : Input} (k : Input) → Grown a b i j → HasEnded j k → HasEnded i k
ended_since {a} {b} {i} {j} k grown ended = (rose_since i.ends j.ends k.ends grown.given.ends ended.0, ended.1)

-- what waits grew by reads without a fault or an end, and by none where it held a whole request
pub record Waits (before now : List ℕ) (old new : Input) : Type 0 where
  pub grown : Grown before now old new
  pub quiet : IsQuiet old new
  pub unread : (m : Message) (after : List ℕ) → ReadsMessage before m after → grown.read ≡ []

pub Waits-none : (pending : List ℕ) (input : Input) → Waits pending pending input input
unfolding Grown-none
Waits-none pending input = record { grown = Grown-none pending input; quiet = (refl, refl); unread = λ m after reads. refl }

-- fewer bytes than wanted hold no request
none_now : {mid now : List ℕ} {j k : Input} (wanted : ℕ) → Wants mid wanted → Grown mid now j k → length now < wanted → HasNoMessage now
none_now {mid} {now} {j} {k} wanted wants grown fewer =
    subst HasNoMessage (sym grown.now_is) (wants.none grown.read (subst (λ (q : List ℕ). length q < wanted) grown.now_is fewer))

-- and may become one
may_now : {mid now : List ℕ} {j k : Input} (wanted : ℕ) → Wants mid wanted → Grown mid now j k → length now < wanted → MayBecomeMessage now
may_now {mid} {now} {j} {k} wanted wants grown fewer =
    subst MayBecomeMessage (sym grown.now_is) (wants.may grown.read (subst (λ (q : List ℕ). length q < wanted) grown.now_is fewer))

-- what is wanting held no whole request at first
none_at_first : {a b : List ℕ} {i j : Input} (wanted : ℕ) → Waits a b i j → Wants b wanted → HasNoMessage a
none_at_first {a} {b} {i} {j} wanted waits wants m after reads =
    let same : b ≡ a = waits.grown.now_is ∙ ap (λ (q : List ℕ). a ++ q) (waits.unread m after reads) ∙ append-nil a in
    let none : HasNoMessage b = none_now wanted wants (Grown-none b i) wants.fewer in
    none m after (subst (λ (q : List ℕ). ReadsMessage q m after) (sym same) reads)

-- reads of what is wanting
pub Waits-then : {a b c : List ℕ} {i j k : Input} (wanted : ℕ) → Waits a b i j → Wants b wanted → Grown b c j k → IsQuiet j k → Waits a c i k
Waits-then {a} {b} {c} {i} {j} {k} wanted waits wants grown quiet = record {
  grown = Grown-then waits.grown grown;
  quiet = (quiet.0 ∙ waits.quiet.0, quiet.1 ∙ waits.quiet.1);
  unread = λ m after reads. absurd (none_at_first wanted waits wants m after reads);
}

nothing : (bytes : List ℕ) → length bytes ≡ 0 → bytes ≡ []
nothing [] e = refl
nothing (b ∷ bytes) e = cc

-- no bytes, by the test of the length
pub none_left : (empty : Bool) (len n : ℕ) → len ≡ n → empty ≡ (len == 0) → empty ≡ true → n ≡ 0
none_left empty len n same is holds = grind (arith, nat_tests)

-- what is answered of all that waits, without a further read
answered : {before now rest : List ℕ} {old new : Input} (next : Next) → Waits before now old new → IsAnswerTo now rest old new next
    → IsCalm next old new → IsUnended next old new → IsMendable next now → NextOf before rest old new next
answered {before} {now} {rest} {old} {new} next waits answers calm unended mendable = record {
  read = waits.grown.read;
  given = waits.grown.given;
  answers = subst (λ (bytes : List ℕ). IsAnswerTo bytes rest old new next) waits.grown.now_is answers;
  calm = calm;
  unread = waits.unread;
  unended = unended;
  mendable = subst (IsMendable next) waits.grown.now_is mendable;
}

-- what is answered of all that waits behind further reads of what was wanting
answered_then : {before mid now rest : List ℕ} {i j k : Input} (next : Next) (wanted : ℕ) → Waits before mid i j → Wants mid wanted → Grown mid now j k
    → IsAnswerTo now rest i k next → IsCalm next i k → IsUnended next i k → IsMendable next now → NextOf before rest i k next
answered_then {before} {mid} {now} {rest} {i} {j} {k} next wanted waits wants second answers calm unended mendable =
    let grown = Grown-then waits.grown second in record {
      read = grown.read;
      given = grown.given;
      answers = subst (λ (bytes : List ℕ). IsAnswerTo bytes rest i k next) grown.now_is answers;
      calm = calm;
      unread = λ m after reads. absurd (none_at_first wanted waits wants m after reads);
      unended = unended;
      mendable = subst (IsMendable next) grown.now_is mendable;
    }

pub request_next : {before now rest : List ℕ} {old new : Input} (raw : RawRequest) (m : Message) → Waits before now old new → ReadsMessage now m rest → raw ≡ raw_of m
    → NextOf before rest old new (next.Request raw)
request_next {before} {now} {rest} {old} {new} raw m waits reads is = answered (next.Request raw) waits (m, reads, is) waits.quiet.0 waits.quiet.1 tt

pub refused_next : {before now rest : List ℕ} {old new : Input} (status : ℕ) → Waits before now old new → Refuses now status
    → NextOf before rest old new next.BadHead
refused_next {before} {now} {rest} {old} {new} status waits refuses =
    answered next.BadHead waits (none_refused now status refuses, (status, refuses)) waits.quiet.0 waits.quiet.1 tt

pub no_memory_now : {before now rest : List ℕ} {old new : Input} → Waits before now old new → NextOf before rest old new next.NoMemory
no_memory_now {before} {now} {rest} {old} {new} waits = answered next.NoMemory waits tt waits.quiet.0 waits.quiet.1 tt

pub truncated_next : {before mid now rest : List ℕ} {i j k : Input} (wanted : ℕ) → Waits before mid i j → Wants mid wanted → Grown mid now j k
    → length now < wanted → HasEnded j k → k.faults ≡ j.faults → now ≢ [] → NextOf before rest i k next.Truncated
truncated_next {before} {mid} {now} {rest} {i} {j} {k} wanted waits wants second fewer ended calm some =
    answered_then next.Truncated wanted waits wants second
    (some, none_now wanted wants second fewer, ended_since k waits.grown ended) (calm ∙ waits.quiet.0) tt (may_now wanted wants second fewer)

pub ended_next : {before mid now rest : List ℕ} {i j k : Input} (wanted : ℕ) → Waits before mid i j → Wants mid wanted → Grown mid now j k
    → HasEnded j k → k.faults ≡ j.faults → length now ≡ 0 → NextOf before rest i k next.Ended
ended_next {before} {mid} {now} {rest} {i} {j} {k} wanted waits wants second ended calm none =
    answered_then next.Ended wanted waits wants second (nothing now none, ended_since k waits.grown ended) (calm ∙ waits.quiet.0) tt tt

pub fault_next : {before mid now rest : List ℕ} {i j k : Input} (wanted : ℕ) → Waits before mid i j → Wants mid wanted → Grown mid now j k
    → length now < wanted → Rose j.faults k.faults → k.ends ≡ j.ends → NextOf before rest i k next.ReadFault
fault_next {before} {mid} {now} {rest} {i} {j} {k} wanted waits wants second fewer rose unended =
    answered_then next.ReadFault wanted waits wants second
    (none_now wanted wants second fewer, rose_since i.faults j.faults k.faults waits.grown.given.faults rose) tt (unended ∙ waits.quiet.1) (may_now wanted wants second fewer)

pub no_memory_next : {before mid rest read : List ℕ} {i j k : Input} (wanted : ℕ) → Waits before mid i j → Wants mid wanted → Gives j k read
    → IsQuiet j k → NextOf before rest i k next.NoMemory
no_memory_next {before} {mid} {rest} {read} {i} {j} {k} wanted waits wants given quiet = record {
  read = waits.grown.read ++ read;
  given = Gives-then waits.grown.given given;
  answers = tt;
  calm = quiet.0 ∙ waits.quiet.0;
  unread = λ m after reads. absurd (none_at_first wanted waits wants m after reads);
  unended = quiet.1 ∙ waits.quiet.1;
  mendable = tt;
}
