-- A connection goes on, and ends.
use Rattle.std.proofs.Common.{◌≡◌, ℕ, ◌<◌, ◌≤◌, ◌⊎◌, inl, inr, Bool, true, false, List, [], ◌∷◌, ◌++◌, length, append-nil, sym, ◌∙◌, ap, subst, refl, arith, append_assoc, Option}
use Rattle.std.specs.List.{flat_map}
use Rattle.std.proofs.lemmas.Grind.{flat_map-append}
use Rattle.std.proofs.lemmas.List.Elements.{All-append, All-nil}
use Rattle.es_edge.specs.declared.chance.Draw.{Draw}
use Rattle.es_edge.specs.Moves.{Input, Output, Takes, HasEnded}
use Rattle.es_edge.specs.Causes.{Rose}
use Rattle.es_edge.specs.Draws.{Lots, Draws}
use Rattle.es_edge.proofs.MoveLemmas.{Gives-then, Takes-then, Gives-none, Takes-none}
use Rattle.es_edge.proofs.DrawLemmas.{Draws-none, Draws-then}
use Rattle.es_response.specs.Reply.{fixed_response}
use Rattle.es_wire.specs.Requests.{Message, IsMessage, Begins, ClosesAtEnd, print_message}
use Rattle.es_wire.specs.declared.receipt.Receipt.{Receipt}
use Rattle.es_wire.specs.declared.receipt.LinkEnd.{LinkEnd}
use Rattle.es_wire.specs.declared.receipt.LinkEnd.TheVariants as end
use Rattle.es_session.specs.Node.{Node}
use Rattle.es_session.specs.Legal.{AllAnswered, responses, joined, drawn_for, Ascends, AllHaveMoments}
use Rattle.es_session.specs.State.{State}
use Rattle.es_session.specs.Ending.{HasWritten, HasEndCause, HasCalmSource, HasCalmSink, HasCalmEnds, HasUnused, IsCut, IsGoing, request_limit}
use Rattle.es_session.specs.Session.{Answers, Runs, Ends}
use Rattle.es_session.proofs.Growing.{AllAnswered-grow, AllAnswered-append, responses-grow, responses-append, Ascends-append, AllHaveMoments-append, joined-append, drawn-append}

closes_then : (ms ns : List Message) (closed : Bool) → ClosesAtEnd false ms → ClosesAtEnd closed ns → ClosesAtEnd closed (ms ++ ns)
closes_then [] ns closed first second = second
closes_then (m ∷ []) [] closed first second = first ∙ sym second
closes_then (m ∷ []) (n ∷ ns) closed first second = (first, second)
closes_then (m ∷ (k ∷ ms)) ns closed first second = (first.0, closes_then (k ∷ ms) ns closed first.1 second)

Begins-then : (p q s r t : List ℕ) (ms ns : List Message) (closed : Bool) → Begins (p ++ r) ms q false → Begins (q ++ t) ns s closed
    → Begins (p ++ (r ++ t)) (ms ++ ns) s closed
Begins-then p q s r t ms ns closed first second = record {
  whole = sym (append_assoc p r t) ∙ ap (λ (x : List ℕ). x ++ t) first.whole ∙ append_assoc (flat_map print_message ms) q t
      ∙ ap (λ (x : List ℕ). flat_map print_message ms ++ x) second.whole ∙ sym (append_assoc (flat_map print_message ms) (flat_map print_message ns) s)
      ∙ ap (λ (x : List ℕ). x ++ s) (sym (flat_map-append print_message ms ns));
  each = All-append IsMessage ms ns first.each second.each;
  closes = closes_then ms ns closed first.closes second.closes;
}

rose_since : (a b c : ℕ) → a ≤ b → Rose b c → Rose a c
rose_since a b c le rose = omega arith

-- what was due before was written whole
cut_then : (due more : List (List ℕ)) (written : List ℕ) → IsCut more written → IsCut (due ++ more) (joined due ++ written)
cut_then due more written cut = record {
  whole = due ++ cut.whole;
  part = cut.part;
  left = cut.left;
  short = cut.short;
  texts_are = ap (λ (x : List (List ℕ)). due ++ x) cut.texts_are ∙ sym (append_assoc due cut.whole ((cut.part ++ cut.left) ∷ []));
  written_is = ap (λ (x : List ℕ). joined due ++ x) cut.written_is ∙ sym (append_assoc (joined due) (joined cut.whole) cut.part)
      ∙ ap (λ (x : List ℕ). x ++ cut.part) (sym (joined-append due cut.whole));
}

joined_then : (due more : List (List ℕ)) (written : List ℕ) → written ≡ joined more → joined due ++ written ≡ joined (due ++ more)
joined_then due more written h = ap (λ (x : List ℕ). joined due ++ x) h ∙ sym (joined-append due more)

word_then : (due more : List (List ℕ)) (word written : List ℕ) → written ≡ joined (more ++ word ∷ [])
    → joined due ++ written ≡ joined ((due ++ more) ++ word ∷ [])
word_then due more word written h = joined_then due (more ++ word ∷ []) written h ∙ ap joined (sym (append_assoc due more (word ∷ [])))

-- what was written before, and then the end's
written_then : (closed : Bool) (count : ℕ) (due more : List (List ℕ)) (rest written : List ℕ) (ended : LinkEnd) → HasWritten closed count more rest written ended
    → HasWritten closed count (due ++ more) rest (joined due ++ written) ended
written_then closed count due more rest written end.Done h = joined_then due more written h
written_then closed count due more rest written end.Truncated h = joined_then due more written h
written_then closed count due more rest written end.BadHead h = (h.0, h.1, h.2, word_then due more (fixed_response 400) written h.3)
written_then closed count due more rest written end.ReadFault h = joined_then due more written h
written_then closed count due more rest written end.WriteFault h =
    (h.0, h.1, subst (λ (x : List (List ℕ)). IsCut x (joined due ++ written)) (sym (append_assoc due more h.0)) (cut_then due (more ++ h.0) written h.2))
written_then closed count due more rest written end.Spent h = joined_then due more written h
written_then closed count due more rest written end.NoMemory h = word_then due more (fixed_response 503) written h

ended_since : (a b c : Input) → a.ends ≤ b.ends → HasEnded b c → HasEnded a c
ended_since a b c le h = (rose_since a.ends b.ends c.ends le h.0, h.1)

done_since : (a b c : Input) (closed : Bool) (rest : List ℕ) → a.ends ≤ b.ends
    → (closed ≡ true) ⊎ ((closed ≡ false) × (rest ≡ []) × HasEnded b c) → (closed ≡ true) ⊎ ((closed ≡ false) × (rest ≡ []) × HasEnded a c)
done_since a b c closed rest le (inl h) = inl h
done_since a b c closed rest le (inr h) = inr (h.0, h.1, ended_since a b c le h.2)

cause_since : (closed : Bool) (count : ℕ) (rest : List ℕ) (a b c : Input) (o v w : Output) (ended : LinkEnd)
    → a.ends ≤ b.ends → a.faults ≤ b.faults → o.faults ≤ v.faults
    → HasEndCause closed count rest b c v w ended → HasEndCause closed count rest a c o w ended
cause_since closed count rest a b c o v w end.Done le lf lo h = (h.0, done_since a b c closed rest le h.1)
cause_since closed count rest a b c o v w end.Truncated le lf lo h = (h.0, h.1, h.2, h.3, ended_since a b c le h.4)
cause_since closed count rest a b c o v w end.BadHead le lf lo h = h
cause_since closed count rest a b c o v w end.ReadFault le lf lo h = (h.0, h.1, h.2, rose_since a.faults b.faults c.faults lf h.3)
cause_since closed count rest a b c o v w end.WriteFault le lf lo h = (h.0, rose_since o.faults v.faults w.faults lo h.1)
cause_since closed count rest a b c o v w end.Spent le lf lo h = h
cause_since closed count rest a b c o v w end.NoMemory le lf lo h = h

calm_source_since : (ended : LinkEnd) (a b c : Input) → b.faults ≡ a.faults → HasCalmSource ended b c → HasCalmSource ended a c
calm_source_since end.Done a b c e h = h ∙ e
calm_source_since end.Truncated a b c e h = h ∙ e
calm_source_since end.BadHead a b c e h = h ∙ e
calm_source_since end.ReadFault a b c e h = tt
calm_source_since end.WriteFault a b c e h = h ∙ e
calm_source_since end.Spent a b c e h = h ∙ e
calm_source_since end.NoMemory a b c e h = h ∙ e

calm_sink_since : (ended : LinkEnd) (a b c : Output) → b.faults ≡ a.faults → HasCalmSink ended b c → HasCalmSink ended a c
calm_sink_since end.Done a b c e h = h ∙ e
calm_sink_since end.Truncated a b c e h = h ∙ e
calm_sink_since end.BadHead a b c e h = h ∙ e
calm_sink_since end.ReadFault a b c e h = h ∙ e
calm_sink_since end.WriteFault a b c e h = tt
calm_sink_since end.Spent a b c e h = h ∙ e
calm_sink_since end.NoMemory a b c e h = h ∙ e

calm_ends_since : (ended : LinkEnd) (closed : Bool) (a b c : Input) → b.ends ≡ a.ends → HasCalmEnds ended closed b c → HasCalmEnds ended closed a c
calm_ends_since end.Done true a b c e h = h ∙ e
calm_ends_since end.Done false a b c e h = tt
calm_ends_since end.Truncated closed a b c e h = tt
calm_ends_since end.BadHead closed a b c e h = h ∙ e
calm_ends_since end.ReadFault closed a b c e h = h ∙ e
calm_ends_since end.WriteFault closed a b c e h = h ∙ e
calm_ends_since end.Spent closed a b c e h = h ∙ e
calm_ends_since end.NoMemory closed a b c e h = h ∙ e

drawn_then : {a b c : Lots} (rs qs : List Receipt) (unused : List Draw) → Draws a b (drawn_for rs) → Draws b c (drawn_for qs ++ unused)
    → Draws a c (drawn_for (rs ++ qs) ++ unused)
drawn_then {a} {b} {c} rs qs unused first second =
    subst (λ (ds : List Draw). Draws a c ds)
    (sym (append_assoc (drawn_for rs) (drawn_for qs) unused) ∙ ap (λ (ds : List Draw). ds ++ unused) (sym (drawn-append rs qs)))
    (Draws-then first second)

module _ {N : Node} {caller : ℕ} {clock : Option ℕ} where
  -- what was answered first was answered so in the later journal
  grown : {closed : Bool} {a b : State N.Entry} {r : List ℕ} {ms : List Message} {gs : List (List Receipt)} (L entries : List N.Entry)
      → L ≡ b.journal ++ entries → Answers N caller clock closed a b r ms gs → AllAnswered N caller L ms gs
  grown {closed} {a} {b} {r} {ms} {gs} L entries e first =
      subst (λ (M : List N.Entry). AllAnswered N caller M ms gs) (sym e) (AllAnswered-grow N caller b.journal entries ms gs first.answered)

  same_words : {closed : Bool} {a b : State N.Entry} {r : List ℕ} {ms : List Message} {gs : List (List Receipt)} (L entries : List N.Entry)
      → L ≡ b.journal ++ entries → Answers N caller clock closed a b r ms gs
      → responses N caller L ms gs ≡ responses N caller b.journal ms gs
  same_words {closed} {a} {b} {r} {ms} {gs} L entries e first =
      ap (λ (M : List N.Entry). responses N caller M ms gs) e ∙ responses-grow N caller b.journal entries ms gs first.answered

  Answers-then :
      {closed : Bool} {a b c : State N.Entry} {r t : List ℕ} {ms ns : List Message} {gs hs : List (List Receipt)}
      → Answers N caller clock false a b r ms gs → Answers N caller clock closed b c t ns hs → Answers N caller clock closed a c (r ++ t) (ms ++ ns) (gs ++ hs)
  Answers-then {closed} {a} {b} {c} {r} {t} {ms} {ns} {gs} {hs} first second = record {
    gave = Gives-then first.gave second.gave;
    begins = Begins-then a.pending b.pending c.pending r t ms ns closed first.begins second.begins;
    receipts = second.receipts ∙ ap (λ (x : List Receipt). x ++ joined hs) first.receipts ∙ append_assoc a.receipts (joined gs) (joined hs)
        ∙ ap (λ (x : List Receipt). a.receipts ++ x) (sym (joined-append gs hs));
    entries = first.entries ++ second.entries;
    journal = second.journal ∙ ap (λ (x : List N.Entry). x ++ second.entries) first.journal ∙ append_assoc a.journal first.entries second.entries;
    answered = AllAnswered-append N caller c.journal ms ns gs hs (grown c.journal second.entries second.journal first) second.answered;
    ascends = subst (λ (x : List Receipt). Ascends (length a.journal) (length c.journal) x) (sym (joined-append gs hs))
        (Ascends-append (length a.journal) (length b.journal) (length c.journal) (joined gs) (joined hs) first.ascends second.ascends);
    moments = subst (λ (x : List Receipt). AllHaveMoments clock x) (sym (joined-append gs hs)) (AllHaveMoments-append clock (joined gs) (joined hs) first.moments second.moments);
  }

  -- the responses of one stretch and then of another, by the later journal
  words_then :
      {closed : Bool} {a b c : State N.Entry} {r t : List ℕ} {ms ns : List Message} {gs hs : List (List Receipt)}
      → Answers N caller clock false a b r ms gs → Answers N caller clock closed b c t ns hs
      → responses N caller b.journal ms gs ++ responses N caller c.journal ns hs ≡ responses N caller c.journal (ms ++ ns) (gs ++ hs)
  words_then {closed} {a} {b} {c} {r} {t} {ms} {ns} {gs} {hs} first second =
      ap (λ (x : List (List ℕ)). x ++ responses N caller c.journal ns hs) (sym (same_words c.journal second.entries second.journal first))
      ∙ sym (responses-append N caller c.journal ms ns gs hs (grown c.journal second.entries second.journal first))

  -- one stretch of a connection, and then another
  pub Runs-then : {closed : Bool} {a b c : State N.Entry} → Runs N caller clock false a b → Runs N caller clock closed b c → Runs N caller clock closed a c
  Runs-then {closed} {a} {b} {c} first second = record {
    read = first.read ++ second.read;
    messages = first.messages ++ second.messages;
    groups = first.groups ++ second.groups;
    answers = Answers-then first.answers second.answers;
    drew = subst (λ (ds : List Draw). Draws a.lots c.lots ds)
        (sym (drawn-append (joined first.groups) (joined second.groups)) ∙ ap drawn_for (sym (joined-append first.groups second.groups)))
        (Draws-then first.drew second.drew);
    took = subst (λ (x : List ℕ). Takes a.output c.output x)
        (sym (joined-append (responses N caller b.journal first.messages first.groups) (responses N caller c.journal second.messages second.groups))
        ∙ ap joined (words_then first.answers second.answers))
        (Takes-then first.took second.took);
    calm_source = second.calm_source ∙ first.calm_source;
    calm_sink = second.calm_sink ∙ first.calm_sink;
    calm_ends = second.calm_ends ∙ first.calm_ends;
  }

  -- a stretch, and then the end
  pub Runs-Ends : {a b c : State N.Entry} {ended : LinkEnd} → Runs N caller clock false a b → Ends N caller clock b c ended → Ends N caller clock a c ended
  Runs-Ends {a} {b} {c} {ended} first second = record {
    closed = second.closed;
    read = first.read ++ second.read;
    written = joined (responses N caller b.journal first.messages first.groups) ++ second.written;
    messages = first.messages ++ second.messages;
    groups = first.groups ++ second.groups;
    unused = second.unused;
    answers = Answers-then first.answers second.answers;
    drew = subst (λ (x : List Receipt). Draws a.lots c.lots (drawn_for x ++ second.unused)) (sym (joined-append first.groups second.groups))
        (drawn_then (joined first.groups) (joined second.groups) second.unused first.drew second.drew);
    no_receipt = second.no_receipt;
    took = Takes-then first.took second.took;
    writes = subst (λ (x : List (List ℕ)). HasWritten second.closed (length c.receipts) x c.pending (joined (responses N caller b.journal first.messages first.groups) ++ second.written) ended)
        (words_then first.answers second.answers)
        (written_then second.closed (length c.receipts) (responses N caller b.journal first.messages first.groups) (responses N caller c.journal second.messages second.groups)
        c.pending second.written ended second.writes);
    cause = cause_since second.closed (length c.receipts) c.pending a.input b.input c.input a.output b.output c.output ended
        first.answers.gave.ends first.answers.gave.faults first.took.faults second.cause;
    calm_source = calm_source_since ended a.input b.input c.input first.calm_source second.calm_source;
    calm_sink = calm_sink_since ended a.output b.output c.output first.calm_sink second.calm_sink;
    calm_ends = calm_ends_since ended second.closed a.input b.input c.input first.calm_ends second.calm_ends;
  }

  -- nothing happened
  pub Runs-none : (a : State N.Entry) → Runs N caller clock false a a
  Runs-none a = record {
    read = [];
    messages = [];
    groups = [];
    answers = record {
      gave = Gives-none a.input;
      begins = record { whole = append-nil a.pending; each = All-nil IsMessage; closes = refl };
      receipts = sym (append-nil a.receipts);
      entries = [];
      journal = sym (append-nil a.journal);
      answered = tt;
      ascends = omega arith;
      moments = tt;
    };
    drew = Draws-none a.lots;
    took = Takes-none a.output;
    calm_source = refl;
    calm_sink = refl;
    calm_ends = refl;
  }

  -- a stretch is a session where what was written is all that is due, and its end has a cause
  ends_at :
      {closed : Bool} {a b : State N.Entry} (ended : LinkEnd) (run : Runs N caller clock closed a b)
      → HasWritten closed (length b.receipts) (responses N caller b.journal run.messages run.groups) b.pending (joined (responses N caller b.journal run.messages run.groups)) ended
      → HasEndCause closed (length b.receipts) b.pending a.input b.input a.output b.output ended
      → HasCalmSource ended a.input b.input → HasCalmSink ended a.output b.output → HasCalmEnds ended closed a.input b.input → HasUnused ended [] → Ends N caller clock a b ended
  ends_at {closed} {a} {b} ended run writes cause source sink ends used = record {
    closed = closed;
    read = run.read;
    written = joined (responses N caller b.journal run.messages run.groups);
    messages = run.messages;
    groups = run.groups;
    unused = [];
    answers = run.answers;
    drew = subst (λ (ds : List Draw). Draws a.lots b.lots ds) (sym (append-nil (drawn_for (joined run.groups)))) run.drew;
    no_receipt = used;
    took = run.took;
    writes = writes;
    cause = cause;
    calm_source = source;
    calm_sink = sink;
    calm_ends = ends;
  }

  -- as many as may be answered were
  pub Runs-spent : {closed : Bool} {a b : State N.Entry} → Runs N caller clock closed a b → length b.receipts ≡ request_limit → Ends N caller clock a b end.Spent
  Runs-spent run count = ends_at end.Spent run refl count run.calm_source run.calm_sink run.calm_ends refl

  -- the last request asked for the close
  pub Runs-closed : {a b : State N.Entry} → Runs N caller clock true a b → length b.receipts < request_limit → Ends N caller clock a b end.Done
  Runs-closed run count = ends_at end.Done run refl (count, inl refl) run.calm_source run.calm_sink run.calm_ends refl
