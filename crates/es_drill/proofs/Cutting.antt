-- How the lines of a schedule are cut at their spaces, and the calls that they start.
use Rattle.std.proofs.Common.{◌≡◌, ◌<◌, ◌≤◌, ℕ, ◌+◌, ◌*◌, ◌==◌, List, [], ◌∷◌, length, replicate, nat_le, Bool, true, false, ◌||◌, ◌&&◌, eqb, cond, not, Option, Some, None, MatchOption, Bor, refl, sym, ap, ◌∙◌, arith, suc}
use Rattle.std.specs.List.{list_any, list_all, position_or_len, before_first, after_first}
use Rattle.std.specs.Str.{is_utf8, IsUtf8}
use Rattle.std.proofs.lemmas.Bool.{le-leb, lt-leb}
use Rattle.std.proofs.lemmas.Str.{IsUtf8-from_is_utf8, is_utf8-from_IsUtf8}
use Rattle.es_edge.specs.declared.chance.Draw.{Draw}
use Rattle.es_edge.specs.declared.chance.Draw.TheVariants as draw
use Rattle.es_wire.specs.declared.request.RawRequest.{RawRequest}
use Rattle.es_wire.specs.declared.request.Once.{Once}
use Rattle.es_request.specs.declared.call.Call.{Call}
use Rattle.es_request.specs.Requests.{draws, IsTimely}
use Rattle.es_route.specs.Reading as reading
use Rattle.es_vault.specs.Answer.{IsMade, is_drawn}
use Rattle.es_vault.specs.Replayable.{last_moment}
use Rattle.es_drill.specs.Drilled.{most_lines}
use Rattle.es_drill.specs.Lines.{◌then◌, only_if, Cut, cut_of, is_letter, are_some, first_word, actor_of, authorization_of, call_in, line_with, line_of, line_limit, Texts, Line, calls, raw_of, drawn_if, call_at}

-- ---- the first space

module _ {A : Type 0} (p : A → Bool) where
  any_within : (xs : List A) → position_or_len p xs < length xs → list_any p xs ≡ true
  any_within [] h = absurd (omega arith)
  any_within (x ∷ xs) h = elim (p x) as (λ b. cond (not b) (1 + position_or_len p xs) 0 < suc (length xs) → (b || list_any p xs) ≡ true) [
    | true ↦ λ h. refl
    | false ↦ λ h. any_within xs (omega arith)
  ] h

  none_at_end : (xs : List A) → position_or_len p xs ≡ length xs → list_any p xs ≡ false
  none_at_end [] h = refl
  none_at_end (x ∷ xs) h = elim (p x) as (λ b. cond (not b) (1 + position_or_len p xs) 0 ≡ suc (length xs) → (b || list_any p xs) ≡ false) [
    | true ↦ λ h. absurd (omega arith)
    | false ↦ λ h. none_at_end xs (omega arith)
  ] h

-- a text cut at its first space, if it has one
pub cut_at : (text : List ℕ) (r : Option (Bor (List ℕ) × Bor (List ℕ)))
    → MatchOption r (position_or_len (λ b. eqb b 32) text ≡ length text)
    (λ x. (position_or_len (λ b. eqb b 32) text < length text) × (x.0.now ≡ before_first (λ b. eqb b 32) text) × (x.1.now ≡ after_first (λ b. eqb b 32) text))
    → MatchOption r (cut_of text ≡ None) (λ x. cut_of text ≡ Some (record { word = x.0.now; rest = x.1.now }))
cut_at text None end = rw (none_at_end (λ b. eqb b 32) text end)
cut_at text (Some x) found = rw (any_within (λ b. eqb b 32) text found.0, found.1, found.2)

-- ---- texts with bytes

-- all of them are tested
pub are_all : (test : ℕ → Bool) (bytes : List ℕ) (r : Bool) → false ≡ (length bytes == 0) → r ≡ list_all test bytes → r ≡ are_some test bytes
are_all test [] r has is = cc
are_all test (b ∷ bytes) r has is = is

-- the test that every byte meets
every_byte : (bytes : List ℕ) → true ≡ list_all (λ b. true) bytes
every_byte [] = refl
every_byte (b ∷ bytes) = every_byte bytes

any_byte : (bytes : List ℕ) → false ≡ (length bytes == 0) → true ≡ are_some (λ b. true) bytes
any_byte bytes has = are_all (λ b. true) bytes true has (every_byte bytes)

-- ---- a line

utf8_at : (bytes : List ℕ) (b : Bool) → is_utf8 bytes ≡ b → ¬ (IsUtf8 bytes) → b ≡ false
utf8_at bytes true e wrong = absurd (wrong (IsUtf8-from_is_utf8 bytes e))
utf8_at bytes false e wrong = refl

-- the line of a text, and of bytes that are short or not and a text or not
abbrev of_cut : Option Cut → Option Line
of_cut o = o then λ cut. line_with cut.word cut.rest

abbrev within_limit : Bool → Bool → List ℕ → Option Line
within_limit short utf8 bytes = only_if (short && utf8) bytes then λ text. of_cut (cut_of text)

line_is : (bytes : List ℕ) (short utf8 : Bool) → nat_le (length bytes) line_limit ≡ short → is_utf8 bytes ≡ utf8 → line_of bytes ≡ within_limit short utf8 bytes
unfolding line_of
line_is bytes short utf8 s u = rw (s, u)

none_of_no_text : (short : Bool) (bytes : List ℕ) → within_limit short false bytes ≡ None
none_of_no_text true bytes = refl
none_of_no_text false bytes = refl

pub too_long : (bytes : List ℕ) → line_limit < length bytes → None ≡ line_of bytes
too_long bytes long = sym (line_is bytes false (is_utf8 bytes) (lt-leb (length bytes) line_limit long) refl)

pub no_text : (bytes : List ℕ) → ¬ (IsUtf8 bytes) → None ≡ line_of bytes
no_text bytes wrong = sym (line_is bytes (nat_le (length bytes) line_limit) false refl (utf8_at bytes (is_utf8 bytes) refl wrong) ∙ none_of_no_text (nat_le (length bytes) line_limit) bytes)

module _ (bytes text : List ℕ) (short : length bytes ≤ line_limit) (same : text ≡ bytes) (utf8 : IsUtf8 bytes) where
  of_text : line_of bytes ≡ of_cut (cut_of text)
  of_text = line_is bytes true true (le-leb (length bytes) line_limit short) (is_utf8-from_IsUtf8 bytes utf8) ∙ ap (λ (t : List ℕ). of_cut (cut_of t)) (sym same)

  pub one_word : cut_of text ≡ None → None ≡ line_of bytes
  one_word none = sym (of_text ∙ ap of_cut none)

  pub by_word : (word rest : List ℕ) → cut_of text ≡ Some (record { word = word; rest = rest }) → line_with word rest ≡ line_of bytes
  by_word word rest cut = sym (of_text ∙ ap of_cut cut)

-- ---- the line of a call

-- what is left behind each part
abbrev of_authorization : ℕ → List ℕ → List ℕ → List ℕ → Option Once → Option Line
of_authorization actor method target body o = o then λ authorization. Some (calls actor (record { method = method; target = target; authorization = authorization; body = body }))

abbrev of_target : ℕ → List ℕ → List ℕ → Option (List ℕ) → Option Line
of_target actor method rest o = o then λ target. of_authorization actor method target (first_word rest).rest (authorization_of (first_word rest).word)

abbrev of_aimed : ℕ → List ℕ → Option Cut → Option Line
of_aimed actor method o = o then λ aimed. of_target actor method aimed.rest (only_if (are_some (λ b. true) aimed.word) aimed.word)

abbrev of_method : ℕ → List ℕ → Option (List ℕ) → Option Line
of_method actor rest o = o then λ method. of_aimed actor method (cut_of rest)

abbrev of_asked : ℕ → Option Cut → Option Line
of_asked actor o = o then λ asked. of_method actor asked.rest (only_if (are_some is_letter asked.word) asked.word)

abbrev of_actor : List ℕ → Option ℕ → Option Line
of_actor rest o = o then λ actor. of_asked actor (cut_of rest)

abbrev of_named : Option Cut → Option Line
of_named o = o then λ named. of_actor named.rest (actor_of named.word)

-- all parts are there
pub all_parts : (text name behind_name method behind_method target behind_target word body : List ℕ) (actor : ℕ) (authorization : Once)
    → cut_of text ≡ Some (record { word = name; rest = behind_name }) → Some actor ≡ actor_of name
    → cut_of behind_name ≡ Some (record { word = method; rest = behind_method }) → true ≡ are_some is_letter method
    → cut_of behind_method ≡ Some (record { word = target; rest = behind_target }) → false ≡ (length target == 0)
    → word ≡ (first_word behind_target).word → body ≡ (first_word behind_target).rest → Some authorization ≡ authorization_of word
    → Some (calls actor (record { method = method; target = target; authorization = authorization; body = body })) ≡ call_in text
all_parts text name behind_name method behind_method target behind_target word body actor authorization named known asked capital aimed has w b is =
    let to_named : call_in text ≡ of_named (cut_of text) = refl in
    sym (to_named ∙ ap of_named named ∙ ap (of_actor behind_name) (sym known) ∙ ap (of_asked actor) asked
    ∙ ap (λ t. of_method actor behind_method (only_if t method)) (sym capital) ∙ ap (of_aimed actor method) aimed
    ∙ ap (λ t. of_target actor method behind_target (only_if t target)) (sym (any_byte target has))
    ∙ ap (λ (x : List ℕ). of_authorization actor method target (first_word behind_target).rest (authorization_of x)) (sym w)
    ∙ ap (of_authorization actor method target (first_word behind_target).rest) (sym is)
    ∙ ap (λ (x : List ℕ). of_authorization actor method target x (Some authorization)) (sym b))

-- ---- the call of a line

module _ (raw : RawRequest) (moment : ℕ) (call : Call) (is : call ≡ reading.call_of raw moment draw.NotDrawn) where
  with_draw : (d : Draw) → record call { draw = d } ≡ reading.call_of raw moment d
  unfolding reading.call_of
  with_draw d = ap (λ (x : Call). record x { draw = d }) is

  request_is : call.request ≡ reading.read_request raw
  unfolding reading.call_of
  request_is = ap (λ (x : Call). x.request) is

  moment_is : call.moment ≡ moment
  unfolding reading.call_of
  moment_is = ap (λ (x : Call). x.moment) is

  undrawn : call.draw ≡ draw.NotDrawn
  unfolding reading.call_of
  undrawn = ap (λ (x : Call). x.draw) is

  pub made_with : (d : Draw) → moment ≤ last_moment → IsTimely call.request → is_drawn d ≡ draws call.request → IsMade (record call { draw = d })
  made_with d small timely drawn = record { moment = rw moment_is small; timely = timely; drawn = drawn }

  pub made_without : moment ≤ last_moment → IsTimely call.request → draws call.request ≡ false → IsMade call
  made_without small timely so = record { moment = rw moment_is small; timely = timely; drawn = ap is_drawn undrawn ∙ sym so }

within_moments : (number : ℕ) → number ≤ most_lines → 1000 * number ≤ last_moment
within_moments number few = omega arith

module _ (number : ℕ) (t : Texts) (raw : RawRequest) (call : Call) (raw_is : raw ≡ raw_of t) (is : call ≡ reading.call_of raw (1000 * number) draw.NotDrawn) where
  drawn_as : (b : Bool) → draws call.request ≡ b → reading.call_of raw (1000 * number) (drawn_if b) ≡ call_at number t
  drawn_as b so =
      ap (λ (d : Bool). reading.call_of raw (1000 * number) (drawn_if d)) (sym so ∙ ap draws (request_is raw (1000 * number) call is))
      ∙ ap (λ (r : RawRequest). reading.call_of r (1000 * number) (drawn_if (draws (reading.read_request r)))) raw_is

  pub drawn_call : draws call.request ≡ true → record call { draw = draw.Bytes (replicate 16 0) } ≡ call_at number t
  drawn_call so = with_draw raw (1000 * number) call is (draw.Bytes (replicate 16 0)) ∙ drawn_as true so

  pub undrawn_call : draws call.request ≡ false → call ≡ call_at number t
  undrawn_call so = is ∙ drawn_as false so

  module _ (few : number ≤ most_lines) (timely : IsTimely call.request) where
    pub drawn_made : draws call.request ≡ true → IsMade (record call { draw = draw.Bytes (replicate 16 0) })
    drawn_made so = made_with raw (1000 * number) call is (draw.Bytes (replicate 16 0)) (within_moments number few) timely (sym so)

    pub undrawn_made : draws call.request ≡ false → IsMade call
    undrawn_made so = made_without raw (1000 * number) call is (within_moments number few) timely so
