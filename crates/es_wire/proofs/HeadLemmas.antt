-- A head that was found in what is read as a head.
use Rattle.std.proofs.Common.{◌≡◌, ℕ, ◌+◌, ◌≤◌, Bool, true, false, not, List, ◌++◌, length, take, drop, map, min, sym, ◌∙◌, ap, refl, arith, append_assoc, cond}
use Rattle.std.proofs.lemmas.Bool.Decides.{nat_tests}
use Rattle.std.proofs.lemmas.List.{take-append-drop, drop_at, length-map, length-take}
use Rattle.std.proofs.Common.{length-append, codes, ◌==◌, ◌||◌}
use Rattle.std.specs.List.{list_any}
use Rattle.httparse.specs.declared.spans.HeaderSpan.{HeaderSpan}
use Rattle.httparse.specs.declared.spans.RequestSpans.{RequestSpans}
use Rattle.httparse.specs.Grammar.{RequestHead, print_request, ReadsRequest}
use Rattle.httparse.specs.Spans.{IsRequestAt, header_bytes, name_and_value}
use Rattle.es_wire.specs.declared.request.Once.{Once}
use Rattle.es_wire.specs.declared.request.Once.TheVariants.{Absent, One, Twice}
use Rattle.es_wire.specs.declared.request.RawRequest.{RawRequest}
use Rattle.es_wire.specs.Requests.{raw_of, head_limit, field_limit}
use Rattle.httparse.specs.Spans.{span_bytes}
use Rattle.es_wire.specs.declared.framing.Framing.{Framing}
use Rattle.es_wire.specs.declared.framing.Framing.TheVariants.{Body, Refused}
use Rattle.es_wire.specs.Framing.{pairs_of, is_last, framing_of, length_framing, once_of, values_of, is_absent, is_coding, body_limit, field_of, has_close}

-- the head stands at the front of all the bytes, and is short
pub record FoundHead
    (bytes front : List ℕ) (headers : List HeaderSpan) (spans : RequestSpans) (h : RequestHead) : Type 0 where
  pub reads : ReadsRequest bytes h (drop spans.len bytes)
  pub len : spans.len ≡ length (print_request h)
  pub short : length (print_request h) ≤ head_limit
  pub within : spans.len ≤ length bytes
  pub pairs : map (header_bytes front) (take spans.headers headers) ≡ pairs_of h
  pub few : length h.fields ≤ field_limit

found_reads : (bytes front text : List ℕ) (len : ℕ) → front ≡ take head_limit bytes → front ≡ text ++ drop len front → len ≡ length text
    → bytes ≡ text ++ drop len bytes
found_reads bytes front text len cut at len_is =
    let all : bytes ≡ text ++ (drop len front ++ drop head_limit bytes) =
    sym (take-append-drop head_limit bytes) ∙ ap (λ (q : List ℕ). q ++ drop head_limit bytes) (sym cut ∙ at) ∙ append_assoc text (drop len front) (drop head_limit bytes) in
    let behind : drop len bytes ≡ drop len front ++ drop head_limit bytes =
    ap (drop len) all ∙ drop_at text (drop len front ++ drop head_limit bytes) len (sym len_is) in
    all ∙ ap (λ (q : List ℕ). text ++ q) (sym behind)

head_short : (bytes front text rest : List ℕ) → front ≡ take head_limit bytes → front ≡ text ++ rest → length text ≤ head_limit
head_short bytes front text rest cut at =
    let a : length front ≡ length text + length rest = ap length at ∙ length-append text rest in
    let b : length front ≡ min head_limit (length bytes) = ap length cut ∙ length-take head_limit bytes in
    omega arith

head_within : (bytes text rest : List ℕ) (len : ℕ) → bytes ≡ text ++ rest → len ≡ length text → len ≤ length bytes
head_within bytes text rest len at len_is =
    let a : length bytes ≡ length text + length rest = ap length at ∙ length-append text rest in
    omega arith

few_fields : {X Y Z : Type 0} (f : X → Z) (g : Y → Z) (xs : List X) (ys : List Y) (n : ℕ) → map f (take n xs) ≡ map g ys
    → length xs ≤ field_limit → length ys ≤ field_limit
few_fields f g xs ys n e le =
    let a : length (map f (take n xs)) ≡ min n (length xs) = length-map (take n xs) f ∙ length-take n xs in
    let b : length (map g ys) ≡ length ys = length-map ys g in
    let same : length (map f (take n xs)) ≡ length (map g ys) = ap length e in
    omega arith

pub found_head : (bytes front : List ℕ) (headers : List HeaderSpan) (spans : RequestSpans) (h : RequestHead)
    → front ≡ take head_limit bytes → IsRequestAt front headers spans h → length headers ≤ field_limit
    → FoundHead bytes front headers spans h
found_head bytes front headers spans h cut at few =
    let whole : bytes ≡ print_request h ++ drop spans.len bytes = found_reads bytes front (print_request h) spans.len cut at.reads.1 at.len in
    record {
      reads = (at.reads.0, whole);
      len = at.len;
      short = head_short bytes front (print_request h) (drop spans.len front) cut at.reads.1;
      within = head_within bytes (print_request h) (drop spans.len bytes) spans.len whole at.len;
      pairs = at.fields;
      few = few_fields (header_bytes front) name_and_value headers h.fields spans.headers at.fields few;
    }

sized : (is_decimal fits : Bool) (d n : ℕ) → (fits ≡ true → d ≤ body_limit)
    → cond is_decimal (cond fits (Body d) (Refused 413)) (Refused 400) ≡ Body n → n ≤ body_limit
sized true true d n le e = let same : d ≡ n = cc in let small : d ≤ body_limit = le refl in omega arith
sized true false d n le e = cc
sized false fits d n le e = cc

length_fits : (o : Once) (n : ℕ) → length_framing o ≡ Body n → n ≤ body_limit
length_fits Absent n e = let same : 0 ≡ n = cc in omega arith
length_fits (One v) n e = sized _ _ _ n (λ t. grind (arith, nat_tests)) e
length_fits Twice n e = cc

chosen : (a b : Bool) (x : Framing) (n : ℕ) → (x ≡ Body n → n ≤ body_limit)
    → cond a (Refused 411) (cond b (Refused 415) x) ≡ Body n → n ≤ body_limit
chosen true b x n le e = cc
chosen false true x n le e = cc
chosen false false x n le e = le e

-- a body that is taken isn't too large
pub body_fits : (pairs : List (List ℕ × List ℕ)) (n : ℕ) → framing_of pairs ≡ Body n → n ≤ body_limit
unfolding framing_of
body_fits pairs n e =
    chosen
    (not (is_absent (once_of (values_of (codes "transfer-encoding") pairs))))
    (list_any is_coding (values_of (codes "content-encoding") pairs))
    (length_framing (once_of (values_of (codes "content-length") pairs)))
    n (length_fits (once_of (values_of (codes "content-length") pairs)) n) e

-- the parts that the spans cover are those of the request
pub raw_is : (front body : List ℕ) (headers : List HeaderSpan) (spans : RequestSpans) (h : RequestHead) (raw : RawRequest)
    → IsRequestAt front headers spans h
    → raw ≡ record {
      method = span_bytes front spans.method;
      target = span_bytes front spans.path;
      authorization = field_of (codes "authorization") (map (header_bytes front) (take spans.headers headers));
      run_as = field_of (codes "es-security-runas-user") (map (header_bytes front) (take spans.headers headers));
      seen = field_of (codes "esec-seen") (map (header_bytes front) (take spans.headers headers));
      body = body;
      last = (spans.version == 0) || list_any has_close (values_of (codes "connection") (map (header_bytes front) (take spans.headers headers)));
    }
    → raw ≡ raw_of (record { head = h; body = body })
unfolding is_last
raw_is front body headers spans h raw at e = e ∙ rw (at.method, at.path, at.version, at.fields) refl

-- equal parts make equal requests
pub same_parts : {method method' target target' body body' : List ℕ} {authorization authorization' run_as run_as' seen seen' : Once} {last last' : Bool}
    → method ≡ method' → target ≡ target' → authorization ≡ authorization' → run_as ≡ run_as' → seen ≡ seen' → body ≡ body' → last ≡ last'
    → (let raw : RawRequest = record { method = method; target = target; authorization = authorization; run_as = run_as; seen = seen; body = body; last = last } in raw)
    ≡ record { method = method'; target = target'; authorization = authorization'; run_as = run_as'; seen = seen'; body = body'; last = last' }
same_parts a b c d e f g = λ i. record { method = a i; target = b i; authorization = c i; run_as = d i; seen = e i; body = f i; last = g i }
