-- One request, and the end of a connection.
use Rattle.std.proofs.Common.{◌≡◌, ℕ, ◌+◌, ◌<◌, ◌≤◌, Bool, false, List, [], ◌∷◌, ◌++◌, length, Option, Some, None, sym, ◌∙◌, ap, subst, refl, arith, append-nil, IsTrue, is_some, length-append, zero, suc, get_or, cond}
use Rattle.std.proofs.lemmas.List.Elements.{All-nil}
use Rattle.es_edge.specs.declared.chance.Draw.{Draw}
use Rattle.es_edge.specs.Moves.{Input, Output, Gives, Takes}
use Rattle.es_edge.specs.Draws.{Lots, Draws}
use Rattle.es_edge.specs.Sends.{Sends}
use Rattle.es_edge.specs.declared.sending.Sent.{Sent}
use Rattle.es_edge.specs.declared.sending.Sent.TheVariants as sent
use Rattle.es_journal.specs.Journal.{Told, told_at, IsLegalCall}
use Rattle.es_journal.proofs.Adding.{entry_list, told_now, legal_now}
use Rattle.es_response.specs.Reply.{ReplyValue, response}
use Rattle.es_wire.specs.declared.request.RawRequest.{RawRequest}
use Rattle.es_wire.specs.declared.conn.Next.TheVariants as next
use Rattle.es_wire.specs.declared.receipt.Receipt.{Receipt}
use Rattle.es_wire.specs.declared.receipt.LinkEnd.{LinkEnd}
use Rattle.es_wire.specs.declared.receipt.LinkEnd.TheVariants as end
use Rattle.es_wire.specs.Framing.{is_last}
use Rattle.es_wire.specs.Next.{NextOf}
use Rattle.es_wire.specs.Requests.{Message, IsMessage, Begins, print_message, raw_of}
use Rattle.es_session.specs.Node.{Node, Given, Placed}
use Rattle.es_session.specs.Legal.{given_of, is_drawn, IsLegal, AllLegal, all_placed, HasMoment, drawn_for, response_at, responses, joined, changes, change_of}
use Rattle.es_session.specs.State.{State}
use Rattle.es_session.specs.Ending.{HasWritten, HasEndCause, HasCalmSource, HasCalmSink, HasCalmEnds, HasUnused, IsLastWord, ended_by, request_limit}
use Rattle.es_session.specs.Session.{Answers, Runs, Ends, Replies, IsAlone}

changes_more : (rs : List Receipt) (r : Receipt) → changes (rs ++ r ∷ []) ≡ changes rs + change_of r
changes_more [] r = omega arith
changes_more (q ∷ rs) r = let more = changes_more rs r in omega arith

one_is : (m : Message) → IsMessage m → (k : ℕ) (d : Message) → k < 1 → IsMessage (get_or (m ∷ []) k d)
one_is m is zero d lt = is
one_is m is (suc k) d lt = absurd (omega arith)

begins_one : (bytes rest : List ℕ) (m : Message) (closed : Bool) → IsMessage m → bytes ≡ print_message m ++ rest → is_last m.head ≡ closed
    → Begins bytes (m ∷ []) rest closed
begins_one bytes rest m closed is e last = record {
  whole = e ∙ ap (λ (x : List ℕ). x ++ rest) (sym (append-nil (print_message m)));
  each = λ k d lt. one_is m is k d lt;
  closes = last;
}

begins_none : (bytes : List ℕ) → Begins bytes [] bytes false
begins_none bytes = record { whole = refl; each = All-nil IsMessage; closes = refl }

above_now : {X : Type 0} (J : List X) (o : Option X) → IsTrue (is_some o) → length J < length (J ++ entry_list o)
above_now J None t = cc
above_now J (Some e) t = omega (arith, length-append J (e ∷ []))

-- nothing more was answered; these bytes were read and belong to no answered request
abbrev pub after : {Entry : Type 0} → State Entry → List ℕ → Input → Output → Lots → State Entry
after a read input output lots = record a { pending = a.pending ++ read; input = input; output = output; lots = lots }

-- a call was answered after the journal, its entry was added, and its receipt kept
legal_one : (N : Node) (J K : List N.Entry) (call : Given → N.Call) (r : Receipt) (told : Told ReplyValue N.Entry)
    → N.answer J (call (given_of r)) ≡ told → K ≡ J ++ entry_list told.entry
    → r.place ≡ length K → 0 < r.place → r.changed ≡ is_some told.entry → is_drawn r.draw ≡ N.draws (call (given_of r))
    → IsLegal N K call r
legal_one N J K call r told is k p lt ch d =
    let e : (N.answer J (call (given_of r))).entry ≡ told.entry = ap (λ (t : Told ReplyValue N.Entry). t.entry) is in
    let place_is : r.place ≡ length (J ++ entry_list told.entry) = p ∙ ap length k in
    let now : IsLegalCall N.answer (J ++ entry_list told.entry) (call (given_of r)) (length (J ++ entry_list told.entry)) (is_some told.entry) =
    legal_now N.answer J (call (given_of r)) told.entry e (omega arith) in
    record { legal = rw (k, place_is, ch) now; drawn = d }

told_one : (N : Node) (J K : List N.Entry) (call : Given → N.Call) (r : Receipt) (told : Told ReplyValue N.Entry)
    → N.answer J (call (given_of r)) ≡ told → K ≡ J ++ entry_list told.entry → r.place ≡ length K → r.changed ≡ is_some told.entry
    → told_at N.answer K (call (given_of r)) r.place r.changed ≡ told
told_one N J K call r told is k p ch =
    let place_is : r.place ≡ length (J ++ entry_list told.entry) = p ∙ ap length k in
    rw (k, place_is, ch) (told_now N.answer J (call (given_of r)) told.entry ∙ is)

module _ {N : Node} {caller : ℕ} {clock : Option ℕ} where
  -- a request of one call was answered
  pub replies_one : (J K : List N.Entry) (raw : RawRequest) (call : Given → N.Call) (rs ts : List Receipt) (lots lots' : Lots)
      (r : Receipt) (told : Told ReplyValue N.Entry) (written : List ℕ)
      → N.calls_of caller raw ≡ call ∷ []
      → N.answer J (call (given_of r)) ≡ told
      → K ≡ J ++ entry_list told.entry
      → r.place ≡ length K → 0 < r.place → r.changed ≡ is_some told.entry
      → HasMoment clock r
      → is_drawn r.draw ≡ N.draws (call (given_of r))
      → Draws lots lots' (drawn_for (r ∷ []))
      → ts ≡ rs ++ r ∷ []
      → written ≡ response (N.reply_of raw (record { reply = told.reply; place = r.place } ∷ [])) (Some r.place) raw.last
      → Replies N caller clock J K rs ts lots lots' raw written
  replies_one J K raw call rs ts lots lots' r told written one is k p lt ch m d drew t w =
      let legal : AllLegal N K (call ∷ []) (r ∷ []) = (legal_one N J K call r told is k p lt ch d, tt) in
      let long : length (J ++ entry_list told.entry) ≡ length J + length (entry_list told.entry) = length-append J (entry_list told.entry) in
      let place_is : r.place ≡ length (J ++ entry_list told.entry) = p ∙ ap length k in
      let shown : all_placed N K (N.calls_of caller raw) (r ∷ []) ≡ record { reply = told.reply; place = r.place } ∷ [] =
      rw (one, told_one N J K call r told is k p ch) refl in
      record {
        added = r ∷ [];
        entries = entry_list told.entry;
        receipts = t;
        journal = k;
        legal = subst (λ (calls : List (Given → N.Call)). AllLegal N K calls (r ∷ [])) (sym one) legal;
        ascends = (omega arith, λ x. (let above = above_now J told.entry (subst IsTrue ch x) in omega arith), omega arith);
        moments = (m, tt);
        drew = drew;
        written_is = w ∙ ap (λ (placed : List Placed). response (N.reply_of raw placed) (Some r.place) raw.last) (sym shown);
      }

  module _ (a b : State N.Entry) {raw : RawRequest} {written : List ℕ}
      (read : NextOf a.pending b.pending a.input b.input (next.Request raw))
      (replies : Replies N caller clock a.journal b.journal a.receipts b.receipts a.lots b.lots raw written) where
    answers_one : Answers N caller clock raw.last a b read.read (read.answers.0 ∷ []) (replies.added ∷ [])
    answers_one =
        let m = read.answers.0 in
        let raw_is : raw ≡ raw_of m = read.answers.2 in
        let one : joined (replies.added ∷ []) ≡ replies.added = append-nil replies.added in
        record {
          gave = read.given;
          begins = begins_one (a.pending ++ read.read) b.pending m raw.last read.answers.1.0 read.answers.1.1 (ap (λ (x : RawRequest). x.last) (sym raw_is));
          receipts = replies.receipts ∙ ap (λ (x : List Receipt). a.receipts ++ x) (sym one);
          entries = replies.entries;
          journal = replies.journal;
          answered = (subst (λ (x : RawRequest). AllLegal N b.journal (N.calls_of caller x) replies.added) raw_is replies.legal, tt);
          ascends = rw one replies.ascends;
          moments = rw one replies.moments;
        }

    text_one : written ≡ response_at N caller b.journal (raw_of read.answers.0) replies.added
    text_one = replies.written_is ∙ ap (λ (x : RawRequest). response_at N caller b.journal x replies.added) read.answers.2

    drew_one : Draws a.lots b.lots (drawn_for (joined (replies.added ∷ [])))
    drew_one = rw (append-nil replies.added) replies.drew

    -- a request was read and answered, and its response written
    pub goes_on : Sends a.output b.output written sent.Ok → Runs N caller clock raw.last a b
    goes_on sends =
        let all : written ≡ sends.written = sends.parts ∙ ap (λ (x : List ℕ). sends.written ++ x) sends.cause.0 ∙ append-nil sends.written in
        record {
          read = read.read;
          messages = read.answers.0 ∷ [];
          groups = replies.added ∷ [];
          answers = answers_one;
          drew = drew_one;
          took = subst (λ (x : List ℕ). Takes a.output b.output x) (sym all ∙ text_one ∙ sym (append-nil (response_at N caller b.journal (raw_of read.answers.0) replies.added))) sends.took;
          calm_source = read.calm;
          calm_sink = sends.cause.1;
          calm_ends = read.unended;
        }

    -- its response wasn't written whole
    pub write_fault : Sends a.output b.output written sent.WriteFault → length b.receipts ≤ request_limit → Ends N caller clock a b end.WriteFault
    write_fault sends few = record {
      closed = raw.last;
      read = read.read;
      written = sends.written;
      messages = read.answers.0 ∷ [];
      groups = replies.added ∷ [];
      unused = [];
      answers = answers_one;
      drew = rw (append-nil (drawn_for (joined (replies.added ∷ [])))) drew_one;
      no_receipt = omega arith;
      took = sends.took;
      writes = (
        [],
        IsLastWord.silence,
        record {
          whole = [];
          part = sends.written;
          left = sends.rest;
          short = sends.cause.0;
          texts_are = ap (λ (x : List ℕ). x ∷ []) (sym text_one ∙ sends.parts);
          written_is = refl;
        },
      );
      cause = (few, sends.cause.1);
      calm_source = read.calm;
      calm_sink = tt;
      calm_ends = read.unended;
    }

  -- nothing more was answered
  pub ends_with :
      (a : State N.Entry) {input : Input} {output : Output} {lots : Lots} (ended : LinkEnd) (read written : List ℕ) (unused : List Draw)
      → Gives a.input input read → Draws a.lots lots unused → HasUnused ended unused → Takes a.output output written
      → HasWritten false (length a.receipts) [] (a.pending ++ read) written ended
      → HasEndCause false (length a.receipts) (a.pending ++ read) a.input input a.output output ended
      → HasCalmSource ended a.input input → HasCalmSink ended a.output output → HasCalmEnds ended false a.input input
      → Ends N caller clock a (after a read input output lots) ended
  ends_with a {input} {output} {lots} ended read written unused gave drew used took writes cause source sink ends = record {
    closed = false;
    read = read;
    written = written;
    messages = [];
    groups = [];
    unused = unused;
    answers = record {
      gave = gave;
      begins = begins_none (a.pending ++ read);
      receipts = sym (append-nil a.receipts);
      entries = [];
      journal = sym (append-nil a.journal);
      answered = tt;
      ascends = omega arith;
      moments = tt;
    };
    drew = drew;
    no_receipt = used;
    took = took;
    writes = writes;
    cause = cause;
    calm_source = source;
    calm_sink = sink;
    calm_ends = ends;
  }

  -- a last word was written, or the sink failed at it
  pub ends_in_words :
      (a : State N.Entry) {input : Input} {output : Output} {lots : Lots} (ended : LinkEnd) (read word : List ℕ) (unused : List Draw) (how : Sent)
      → Gives a.input input read → Draws a.lots lots unused → HasUnused ended unused → length unused ≤ 1 → Sends a.output output word how
      → IsLastWord false (length a.receipts) (a.pending ++ read) (word ∷ [])
      → length a.receipts ≤ request_limit
      → HasWritten false (length a.receipts) [] (a.pending ++ read) word ended
      → ((calm : output.faults ≡ a.output.faults) → HasEndCause false (length a.receipts) (a.pending ++ read) a.input input a.output output ended)
      → ((calm : output.faults ≡ a.output.faults) → HasCalmSink ended a.output output)
      → input.faults ≡ a.input.faults → HasCalmSource ended a.input input
      → input.ends ≡ a.input.ends → HasCalmEnds ended false a.input input
      → Ends N caller clock a (after a read input output lots) (ended_by ended how)
  ends_in_words a {input} {output} {lots} ended read word unused sent.Ok gave drew used few sends is_word count writes cause sink calm source same ends =
      let all : word ≡ sends.written = sends.parts ∙ ap (λ (x : List ℕ). sends.written ++ x) sends.cause.0 ∙ append-nil sends.written in
      ends_with a ended read sends.written unused gave drew used sends.took (subst (λ (x : List ℕ). HasWritten false (length a.receipts) [] (a.pending ++ read) x ended) all writes)
      (cause sends.cause.1) source (sink sends.cause.1) ends
  ends_in_words a {input} {output} {lots} ended read word unused sent.WriteFault gave drew used few sends is_word count writes cause sink calm source same ends =
      ends_with a end.WriteFault read sends.written unused gave drew few sends.took
      (word ∷ [], is_word, record { whole = []; part = sends.written; left = sends.rest; short = sends.cause.0; texts_are = ap (λ (x : List ℕ). x ∷ []) sends.parts; written_is = refl })
      (count, sends.cause.1) calm tt same

-- one call more, and its change
pub alone_now : {X : Type 0} (J : List X) (rs : List Receipt) (r : Receipt) (o : Option X) → r.changed ≡ is_some o
    → IsAlone J (J ++ entry_list o) rs (rs ++ r ∷ [])
alone_now {X} J rs r None ch =
    let more = changes_more rs r in
    let long : length (J ++ []) ≡ length J = ap length (append-nil J) in
    let none : change_of r ≡ 0 = ap (λ (b : Bool). cond {A = ℕ} b 1 0) ch in
    omega arith
alone_now {X} J rs r (Some e) ch =
    let more = changes_more rs r in
    let long : length (J ++ e ∷ []) ≡ length J + 1 = length-append J (e ∷ []) in
    let one : change_of r ≡ 1 = ap (λ (b : Bool). cond {A = ℕ} b 1 0) ch in
    omega arith

pub alone_none : {X : Type 0} (J : List X) (rs : List Receipt) → IsAlone J J rs rs
alone_none J rs = refl

pub alone_then : {X : Type 0} (J K L : List X) (rs ts us : List Receipt) → IsAlone J K rs ts → IsAlone K L ts us → IsAlone J L rs us
alone_then J K L rs ts us first second = omega arith
