-- What a look finds behind a head.
use Rattle.std.proofs.Common.{◌≡◌, ℕ, ◌+◌, ◌-◌, ◌<◌, ◌≤◌, List, ◌++◌, length, take, drop, map, sym, ◌∙◌, ap, arith, codes, subst, refl, [], ◌∷◌, Fits, w64, append-nil, length-append, ◌==◌, ◌||◌, inr}
use Rattle.std.specs.List.{list_any}
use Rattle.std.proofs.lemmas.List.{length-drop, length-take, take_all}
use Rattle.std.proofs.lemmas.Grind.{common_steps}
use Rattle.httparse.specs.declared.spans.HeaderSpan.{HeaderSpan}
use Rattle.httparse.specs.declared.spans.RequestSpans.{RequestSpans}
use Rattle.httparse.specs.Grammar.{RequestHead, HasNoRequest, MayBecomeRequest}
use Rattle.httparse.specs.Spans.{IsRequestAt, header_bytes, span_bytes}
use Rattle.es_wire.specs.declared.request.RawRequest.{RawRequest}
use Rattle.es_wire.specs.declared.look.Looked.TheVariants as looked
use Rattle.es_wire.specs.declared.framing.Framing.TheVariants.{Body}
use Rattle.es_wire.specs.Framing.{pairs_of, framing_of, field_of, values_of, has_close, body_limit}
use Rattle.es_wire.specs.Looks.{LooksAt}
use Rattle.es_wire.specs.Requests.{HasNoMessage, MayBecomeMessage, print_message, head_limit}
use Rattle.es_wire.proofs.HeadLemmas.{FoundHead, body_fits, raw_is}
use Rattle.es_wire.proofs.MessageLemmas.{none_before, may_become, whole_message}

-- the number
pub limit_is : head_limit ≡ 16384
unfolding head_limit
limit_is = refl

nothing_more : (bytes more : List ℕ) → length (bytes ++ more) < length bytes + 1 → more ≡ []
nothing_more bytes [] lt = refl
nothing_more bytes (b ∷ more) lt =
    let sum = length-append bytes (b ∷ more) in
    absurd (omega arith)

same_bytes : (bytes more : List ℕ) → length (bytes ++ more) < length bytes + 1 → bytes ++ more ≡ bytes
same_bytes bytes more lt = ap (λ (q : List ℕ). bytes ++ q) (nothing_more bytes more lt) ∙ append-nil bytes

-- a head whose body isn't whole
pub more_is : (bytes front : List ℕ) (headers : List HeaderSpan) (spans : RequestSpans) (h : RequestHead) (n : ℕ)
    → FoundHead bytes front headers spans h → framing_of (pairs_of h) ≡ Body n → length bytes - spans.len < n
    → LooksAt bytes (looked.More (spans.len + n))
more_is bytes front headers spans h n found body few =
    let fits : n ≤ body_limit = body_fits (pairs_of h) n body in
    let len = found.len in
    let short = found.short in
    let within = found.within in
    record {
      fewer = omega arith;
      at_most = omega arith;
      none = λ more lt. none_before bytes more h (drop spans.len bytes) n found.reads body (subst (λ (k : ℕ). length (bytes ++ more) < k + n) len lt);
      may = λ more lt. may_become bytes more h (drop spans.len bytes) n found.reads body (subst (λ (k : ℕ). length (bytes ++ more) < k + n) len lt) short found.few;
    }

-- the length of a request fits its type
pub head_fits : (bytes front : List ℕ) (headers : List HeaderSpan) (spans : RequestSpans) (h : RequestHead) (n : ℕ)
    → FoundHead bytes front headers spans h → framing_of (pairs_of h) ≡ Body n → Fits w64 (spans.len + n)
head_fits bytes front headers spans h n found body =
    let fits : n ≤ body_limit = body_fits (pairs_of h) n body in
    let limit : head_limit ≡ 16384 = limit_is in
    let len = found.len in
    let short = found.short in
    omega arith

-- a part of a head
pub partial_is : (bytes : List ℕ) → length bytes < head_limit → HasNoMessage bytes → HasNoRequest bytes → MayBecomeRequest bytes
    → LooksAt bytes (looked.More (length bytes + 1))
partial_is bytes short none no_head may = record {
  fewer = omega arith;
  at_most = omega arith;
  none = λ more lt. subst HasNoMessage (sym (same_bytes bytes more lt)) none;
  may = λ more lt. subst MayBecomeMessage (sym (same_bytes bytes more lt)) (inr (no_head, may));
}

-- bytes that are fewer are read whole as a head
pub all_in_front : (n : ℕ) (bytes : List ℕ) → length bytes < n → take n bytes ≡ bytes
all_in_front n bytes short = take_all n bytes (omega arith)

pub whole_is : (bytes front : List ℕ) (headers : List HeaderSpan) (spans : RequestSpans) (h : RequestHead) (n : ℕ) (raw : RawRequest)
    → IsRequestAt front headers spans h → FoundHead bytes front headers spans h → framing_of (pairs_of h) ≡ Body n
    → n ≤ length bytes - spans.len
    → raw ≡ record {
      method = span_bytes front spans.method;
      target = span_bytes front spans.path;
      authorization = field_of (codes "authorization") (map (header_bytes front) (take spans.headers headers));
      run_as = field_of (codes "es-security-runas-user") (map (header_bytes front) (take spans.headers headers));
      seen = field_of (codes "esec-seen") (map (header_bytes front) (take spans.headers headers));
      body = take n (drop spans.len bytes);
      last = (spans.version == 0) || list_any has_close (values_of (codes "connection") (map (header_bytes front) (take spans.headers headers)));
    }
    → LooksAt bytes (looked.Whole raw (spans.len + n))
whole_is bytes front headers spans h n raw at found body le e =
    let within = found.within in
    let behind : n ≤ length (drop spans.len bytes) = omega (arith, length-drop spans.len bytes) in
    let reads = whole_message bytes h (drop spans.len bytes) n found.reads body behind found.short found.few in (
      record { head = h; body = take n (drop spans.len bytes) },
      (reads.0, subst (λ (k : ℕ). bytes ≡ print_message (record { head = h; body = take n (drop spans.len bytes) }) ++ drop (k + n) bytes) (sym found.len) reads.1),
      omega arith,
      raw_is front (take n (drop spans.len bytes)) headers spans h raw at e,
    )

-- what is read as a head is full: there are as many bytes
pub full_is : (n : ℕ) (front bytes : List ℕ) → front ≡ take n bytes → length front ≡ n → n ≤ length bytes
full_is n front bytes cut full =
    let e : length front ≡ length (take n bytes) = ap length cut in
    omega (arith, length-take n bytes)

pub partial_short : (n : ℕ) (front bytes : List ℕ) → front ≡ take n bytes → (length front ≡ n → ⊥) → length bytes < n
partial_short n front bytes cut not_full =
    let e : length front ≡ length (take n bytes) = ap length cut in
    omega (arith, length-take n bytes)

-- the part from an index on
pub tail_is : (bytes : List ℕ) (k : ℕ) → take (length bytes - k) (drop k bytes) ≡ drop k bytes
tail_is bytes k = grind (arith, common_steps)
