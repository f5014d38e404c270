-- The first line feed of what waits, and what waits as it grows by reads.
use Rattle.std.proofs.Common.{◌≡◌, ℕ, suc, zero, ◌+◌, ◌-◌, ◌<◌, ◌≤◌, if◌then◌else◌, Result, Ok, Err, Bool, true, false, not, ◌&&◌, ◌==◌, cond, ltb, Option, Some, None, unwrap_or, List, [], ◌∷◌, ◌++◌, length, take, drop, get_or, refl, sym, ◌∙◌, ap, subst, arith, append_assoc, append-nil}
use Rattle.std.specs.List.{list_all, prefix_len, position_or_len, before_first, after_first}
use Rattle.std.proofs.lemmas.Bool.Decides.{Decides-eqb, nat_tests}
use Rattle.std.specs.Result.{is_ok, is_err}
use Rattle.std.proofs.lemmas.List.{take_rest}
use Rattle.std.proofs.lemmas.List.Sums.{split_at_first, passes_at_first, prefix_len-le-length}
use Rattle.std.proofs.lemmas.List.Folds.{length-prefix_len}
use Rattle.es_edge.specs.Moves.{Input, Gives, HasEnded}
use Rattle.es_edge.specs.Causes.{Rose}
use Rattle.es_edge.proofs.MoveLemmas.{Gives-then}
use Rattle.es_drill.specs.declared.reading.Found.{Found}
use Rattle.es_drill.specs.declared.reading.Found.TheVariants as found
use Rattle.es_drill.specs.Lines.{line_limit}
use Rattle.es_drill.specs.Drilled.{fed, is_line}
use Rattle.es_drill.specs.Keeping.{Grows, Finds, at_end}

module _ {A : Type 0} (p : A → Bool) where
  -- each element of a front passes
  front_passes : (xs : List A) (n : ℕ) → n ≤ prefix_len p xs → list_all p (take n xs) ≡ true
  front_passes [] zero h = refl
  front_passes [] (suc n) h = refl
  front_passes (x ∷ xs) zero h = refl
  front_passes (x ∷ xs) (suc n) h = elim (p x) as (λ b. suc n ≤ cond b (1 + prefix_len p xs) 0 → (b && list_all p (take n xs)) ≡ true) [
    | true ↦ λ h. front_passes xs n (omega arith)
    | false ↦ λ h. absurd (omega arith)
  ] h

  -- the front that passes may be the whole list
  all_pass : (xs : List A) → length xs ≤ prefix_len p xs → list_all p xs ≡ true
  all_pass [] h = refl
  all_pass (x ∷ xs) h = elim (p x) as (λ b. suc (length xs) ≤ cond b (1 + prefix_len p xs) 0 → (b && list_all p xs) ≡ true) [
    | true ↦ λ h. all_pass xs (omega arith)
    | false ↦ λ h. absurd (omega arith)
  ] h

  -- the front that passes goes on behind a part of it
  front_goes_on : (xs : List A) (n : ℕ) → n ≤ prefix_len p xs → n + prefix_len p (drop n xs) ≡ prefix_len p xs
  front_goes_on [] zero h = omega arith
  front_goes_on [] (suc n) h = absurd (omega arith)
  front_goes_on (x ∷ xs) zero h = omega arith
  front_goes_on (x ∷ xs) (suc n) h = elim (p x) as (λ b. suc n ≤ cond b (1 + prefix_len p xs) 0 → suc n + prefix_len p (drop n xs) ≡ cond b (1 + prefix_len p xs) 0) [
    | true ↦ λ h. let e : n + prefix_len p (drop n xs) ≡ prefix_len p xs = front_goes_on xs n (omega arith) in omega arith
    | false ↦ λ h. absurd (omega arith)
  ] h

  -- where each element passes, the front that passes of a longer list has them all
  front_grows : (xs ys : List A) → list_all p xs ≡ true → length xs ≤ prefix_len p (xs ++ ys)
  front_grows [] ys h = omega arith
  front_grows (x ∷ xs) ys h = elim (p x) as (λ b. (b && list_all p xs) ≡ true → suc (length xs) ≤ cond b (1 + prefix_len p (xs ++ ys)) 0) [
    | true ↦ λ h. let e : length xs ≤ prefix_len p (xs ++ ys) = front_grows xs ys h in omega arith
    | false ↦ λ h. cc
  ] h

-- where the first line feed stands, or how many bytes there are
abbrev pub feed_at : List ℕ → ℕ
feed_at bytes = position_or_len (λ b. b == 10) bytes

pub feed_within : (bytes : List ℕ) → feed_at bytes ≤ length bytes
feed_within bytes = prefix_len-le-length (λ b. not (b == 10)) bytes

or_end : (place count : ℕ) → place ≤ count → unwrap_or (cond (ltb place count) (Some place) None) count ≡ place
or_end place count within = grind (arith, nat_tests)

-- the place of the first of some, or their number
pub place_or_end : (place count : ℕ) (found : Option ℕ) → found ≡ cond (ltb place count) (Some place) None → place ≤ count → unwrap_or found count ≡ place
place_or_end place count found is within = rw is (or_end place count within)

-- it is found behind a part without a line feed
pub feed_behind : (bytes all : List ℕ) (seen place : ℕ) → all ≡ bytes → place ≡ feed_at (take (length all - seen) (drop seen all)) → seen ≤ feed_at bytes
    → seen + place ≡ feed_at bytes
feed_behind bytes all seen place same is none =
    let rest : feed_at (take (length all - seen) (drop seen all)) ≡ feed_at (drop seen bytes) = ap feed_at (take_rest all seen) ∙ ap (λ (q : List ℕ). feed_at (drop seen q)) same in
    let on : seen + feed_at (drop seen bytes) ≡ feed_at bytes = front_goes_on (λ b. not (b == 10)) bytes seen none in
    omega arith

-- a line stays without a line feed when more comes behind it
pub feed_beyond : (line more : List ℕ) → is_line line ≡ true → length line ≤ feed_at (line ++ more)
feed_beyond line more is = front_grows (λ b. not (b == 10)) line more is

-- without a line feed all is a line
pub is_line-from_end : (bytes : List ℕ) → length bytes ≤ feed_at bytes → is_line bytes ≡ true
is_line-from_end bytes h = all_pass (λ b. not (b == 10)) bytes h

-- what waits, by the bytes up to the first line feed and those behind it
cut_at_feed : (bytes : List ℕ) → feed_at bytes < length bytes → bytes ≡ fed (before_first (λ b. b == 10) bytes) ++ after_first (λ b. b == 10) bytes
cut_at_feed bytes h =
    let is : get_or bytes (feed_at bytes) 0 ≡ 10 = (Decides-eqb _ 10).0 (passes_at_first (λ b. b == 10) bytes 0 h) in
    split_at_first (λ b. b == 10) bytes 0 h
    ∙ ap (λ (b : ℕ). before_first (λ b. b == 10) bytes ++ b ∷ after_first (λ b. b == 10) bytes) is
    ∙ sym (append_assoc (before_first (λ b. b == 10) bytes) (10 ∷ []) (after_first (λ b. b == 10) bytes))

-- ---- reads

-- what an extension that isn't refused makes
pub extended : {T E : Type 0} {now : List ℕ} (was more : List ℕ) (done : Result T E) → false ≡ is_err done → now ≡ (if is_ok done then was ++ more else was) → now ≡ was ++ more
extended was more (Ok x) fine is = is
extended was more (Err x) fine is = cc

-- one read more
pub Grows-then : {a b c read : List ℕ} {i j k : Input} → Grows a b i j → Gives j k read → c ≡ b ++ read → Grows a c i k
Grows-then {a} {b} {c} {read} {i} {j} {k} grown given is = record {
  read = grown.read ++ read;
  given = Gives-then grown.given given;
  now_is = is ∙ ap (λ (q : List ℕ). q ++ read) grown.now_is ∙ append_assoc a grown.read read;
}

pub rose_since : (a b c : ℕ) → a ≤ b → Rose b c → Rose a c
rose_since a b c le rose = omega arith

pub line_found : {before now : List ℕ} {old new : Input} (end : ℕ) → Grows before now old new → new.faults ≡ old.faults → end ≡ feed_at now
    → end < length now → Finds before now old new (found.Line end)
line_found {before} {now} {old} {new} end grown calm at within = (
  grown,
  (
    before_first (λ b. b == 10) now,
    after_first (λ b. b == 10) now,
    cut_at_feed now (omega arith),
    front_passes (λ b. not (b == 10)) now (feed_at now) (omega arith),
    length-prefix_len (λ b. not (b == 10)) now ∙ sym at,
    calm,
  ),
)

pub long_found : {before now : List ℕ} {old new : Input} → Grows before now old new → new.faults ≡ old.faults → is_line now ≡ true
    → line_limit < length now → Finds before now old new found.Long
long_found grown calm is long = (grown, (is, long, calm))

-- the source ended behind what waits
pub ended_found : {before : List ℕ} {i j k : Input} (now : List ℕ) → Grows before now i j → j.faults ≡ i.faults → is_line now ≡ true
    → Gives j k [] → HasEnded j k → k.faults ≡ j.faults → Finds before now i k (at_end now)
ended_found {before} {i} {j} {k} [] grown calm is given ended quiet =
    (Grows-then grown given refl, (refl, (rose_since i.ends j.ends k.ends grown.given.ends ended.0, ended.1), quiet ∙ calm))
ended_found {before} {i} {j} {k} (b ∷ bytes) grown calm is given ended quiet = (
  Grows-then grown given (sym (append-nil (b ∷ bytes))),
  (is, (λ e. cc), (rose_since i.ends j.ends k.ends grown.given.ends ended.0, ended.1), quiet ∙ calm),
)

pub ended_result : {before now : List ℕ} {i j k : Input} (all : List ℕ) (result : Found) → all ≡ now → result ≡ at_end all → Grows before now i j → j.faults ≡ i.faults
    → is_line now ≡ true → Gives j k [] → HasEnded j k → k.faults ≡ j.faults → Finds before now i k result
ended_result {before} {now} {i} {j} {k} all result same is grown calm line given ended quiet =
    subst (λ (r : Found). Finds before now i k r) (sym (is ∙ ap at_end same)) (ended_found now grown calm line given ended quiet)

pub fault_found : {before now : List ℕ} {i j k : Input} → Grows before now i j → is_line now ≡ true → length now ≤ line_limit
    → Gives j k [] → Rose j.faults k.faults → Finds before now i k found.ReadFault
fault_found {before} {now} {i} {j} {k} grown is within given rose =
    (Grows-then grown given (sym (append-nil now)), (is, within, rose_since i.faults j.faults k.faults grown.given.faults rose))

-- the bytes of the last read are lost
pub no_memory_found : {before mid read : List ℕ} {i j k : Input} (now : List ℕ) → Grows before mid i j → j.faults ≡ i.faults → Gives j k read → k.faults ≡ j.faults
    → Finds before now i k found.NoMemory
no_memory_found {before} {mid} {read} {i} {j} {k} now grown calm given quiet = ((grown.read ++ read, Gives-then grown.given given), quiet ∙ calm)
