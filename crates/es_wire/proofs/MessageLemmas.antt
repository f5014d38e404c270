-- Whole requests at the front of bytes.
use Rattle.std.proofs.Common.{◌≡◌, ℕ, ◌+◌, ◌-◌, ◌<◌, ◌≤◌, List, ◌++◌, length, take, drop, sym, ◌∙◌, ap, subst, arith, append_assoc, length-append, [], replicate, inl}
use Rattle.std.proofs.lemmas.Grind.{common_steps}
use Rattle.std.proofs.lemmas.List.{take-append-drop, drop_all, length-replicate}
use Rattle.std.proofs.Math.Seq.{take-append-add, drop-append-add}
use Rattle.httparse.specs.Grammar.{RequestHead, print_request, ReadsRequest, HasNoRequest}
use Rattle.httparse.proofs.GrammarLemmas.{request_unique, ReadsRequest-append}
use Rattle.es_wire.specs.declared.framing.Framing.TheVariants.{Body}
use Rattle.es_wire.specs.Framing.{pairs_of, framing_of}
use Rattle.es_wire.specs.Requests.{Message, head_limit, field_limit, ReadsMessage, HasNoMessage, MayBecomeMessage, Refuses, never, many, long, framed}

-- a whole request begins with its head
pub reads_head : (bytes : List ℕ) (m : Message) (rest : List ℕ) → ReadsMessage bytes m rest
    → ReadsRequest bytes m.head (m.body ++ rest)
reads_head bytes m rest reads = (reads.0.head.head, reads.1 ∙ append_assoc (print_request m.head) m.body rest)

-- what is read as a head, and the bytes behind it
cut_is : (bytes : List ℕ) → take head_limit bytes ++ drop head_limit bytes ≡ bytes
cut_is bytes = take-append-drop head_limit bytes

-- a head at the front that is short lies in what is read as a head
short_head : (n : ℕ) (bytes p q : List ℕ) → bytes ≡ p ++ q → length p ≤ n → take n bytes ≡ p ++ take (n - length p) q
short_head n bytes p q e le =
    let sum : n ≡ length p + (n - length p) = omega arith in
    rw e (subst (λ k. take k (p ++ q) ≡ p ++ take (n - length p) q) (sym sum) (take-append-add p q (n - length p)))

-- no head in what is read as a head: no whole request
pub none_in_front : (bytes : List ℕ) → HasNoRequest (take head_limit bytes) → HasNoMessage bytes
none_in_front bytes none m rest reads =
    let head = reads_head bytes m rest reads in
    none m.head (take (head_limit - length (print_request m.head)) (m.body ++ rest))
    (head.0, short_head head_limit bytes (print_request m.head) (m.body ++ rest) head.1 reads.0.head.short)

-- bytes that are refused have no whole request at their front
pub none_refused : (bytes : List ℕ) (status : ℕ) → Refuses bytes status → HasNoMessage bytes
none_refused bytes _ (never none) m rest reads =
    let head = reads_head bytes m rest reads in
    none (drop head_limit bytes) m.head (m.body ++ rest) (head.0, cut_is bytes ∙ head.1)
none_refused bytes _ (many exceeds over) m rest reads =
    let head = reads_head bytes m rest reads in
    let more : field_limit < length m.head.fields = over (drop head_limit bytes) m.head (m.body ++ rest) (head.0, cut_is bytes ∙ head.1) in
    let few : length m.head.fields ≤ field_limit = reads.0.head.few in
    absurd (omega arith)
none_refused bytes _ (long le none) m rest reads = none_in_front bytes none m rest reads
none_refused bytes status (framed h behind short at refused) m rest reads =
    let same = request_unique bytes h m.head behind (m.body ++ rest) (short.head, at) (reads_head bytes m rest reads) in
    let body : framing_of (pairs_of h) ≡ Body (length m.body) = subst (λ (k : RequestHead). framing_of (pairs_of k) ≡ Body (length m.body)) (sym same.0) reads.0.framed in
    cc

-- the body of the head at the front isn't whole
none_yet : (bytes : List ℕ) (h : RequestHead) (behind : List ℕ) (n : ℕ) → ReadsRequest bytes h behind
    → framing_of (pairs_of h) ≡ Body n → length behind < n → HasNoMessage bytes
none_yet bytes h behind n at body short m rest reads =
    let same = request_unique bytes h m.head behind (m.body ++ rest) at (reads_head bytes m rest reads) in
    let other : framing_of (pairs_of h) ≡ Body (length m.body) = subst (λ (k : RequestHead). framing_of (pairs_of k) ≡ Body (length m.body)) (sym same.0) reads.0.framed in
    let n_is : n ≡ length m.body = cc in
    let long : length behind ≡ length (m.body ++ rest) = ap length same.1 in
    absurd (grind (arith, common_steps))

-- a head with its whole body
pub whole_message : (bytes : List ℕ) (h : RequestHead) (behind : List ℕ) (n : ℕ) → ReadsRequest bytes h behind
    → framing_of (pairs_of h) ≡ Body n → n ≤ length behind → length (print_request h) ≤ head_limit → length h.fields ≤ field_limit
    → ReadsMessage bytes (record { head = h; body = take n behind }) (drop (length (print_request h) + n) bytes)
whole_message bytes h behind n at body le short few =
    let n_is : n ≡ length (take n behind) = grind (arith, common_steps) in
    let rest_is : drop (length (print_request h) + n) bytes ≡ drop n behind =
    ap (drop (length (print_request h) + n)) at.1 ∙ drop-append-add (print_request h) behind n in
    let parts : behind ≡ take n behind ++ drop n behind = sym (take-append-drop n behind) in
    let whole : print_request h ++ behind ≡ (print_request h ++ take n behind) ++ drop n behind =
    ap (λ (q : List ℕ). print_request h ++ q) parts ∙ sym (append_assoc (print_request h) (take n behind) (drop n behind)) in (
      record { head = record { head = at.0; short = short; few = few }; framed = body ∙ ap Body n_is },
      subst (λ (q : List ℕ). bytes ≡ (print_request h ++ take n behind) ++ q) (sym rest_is) (at.1 ∙ whole),
    )

-- nor is it with some bytes more, as long as they are fewer than the body's
pub none_before : (bytes more : List ℕ) (h : RequestHead) (behind : List ℕ) (n : ℕ) → ReadsRequest bytes h behind
    → framing_of (pairs_of h) ≡ Body n → length (bytes ++ more) < length (print_request h) + n → HasNoMessage (bytes ++ more)
none_before bytes more h behind n at body short =
    let longer = ReadsRequest-append bytes h behind more at in
    let sum : length (bytes ++ more) ≡ length (print_request h) + length (behind ++ more) = ap length longer.1 ∙ length-append (print_request h) (behind ++ more) in
    none_yet (bytes ++ more) h (behind ++ more) n longer body (omega arith)

-- and bytes can follow that make it whole
pub may_become : (bytes more : List ℕ) (h : RequestHead) (behind : List ℕ) (n : ℕ) → ReadsRequest bytes h behind
    → framing_of (pairs_of h) ≡ Body n → length (bytes ++ more) < length (print_request h) + n
    → length (print_request h) ≤ head_limit → length h.fields ≤ field_limit → MayBecomeMessage (bytes ++ more)
may_become bytes more h behind n at body fewer short few =
    let longer = ReadsRequest-append bytes h behind more at in
    let sum : length (bytes ++ more) ≡ length (print_request h) + length (behind ++ more) = ap length longer.1 ∙ length-append (print_request h) (behind ++ more) in
    let filler : List ℕ = replicate (n - length (behind ++ more)) 0 in
    let filled : length filler ≡ n - length (behind ++ more) = length-replicate (n - length (behind ++ more)) 0 in
    let whole = ReadsRequest-append (bytes ++ more) h (behind ++ more) filler longer in
    let behind_sum : length ((behind ++ more) ++ filler) ≡ length (behind ++ more) + length filler = length-append (behind ++ more) filler in
    let all_sum : length ((bytes ++ more) ++ filler) ≡ length (bytes ++ more) + length filler = length-append (bytes ++ more) filler in
    let reads = whole_message ((bytes ++ more) ++ filler) h ((behind ++ more) ++ filler) n whole body (omega arith) short few in
    let end : drop (length (print_request h) + n) ((bytes ++ more) ++ filler) ≡ [] = drop_all (length (print_request h) + n) ((bytes ++ more) ++ filler) (omega arith) in
    inl (filler, record { head = h; body = take n ((behind ++ more) ++ filler) }, subst (λ (q : List ℕ). ReadsMessage ((bytes ++ more) ++ filler) (record { head = h; body = take n ((behind ++ more) ++ filler) }) q) end reads)
