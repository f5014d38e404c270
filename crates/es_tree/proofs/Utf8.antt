-- The strings of a text in UTF-8 are UTF-8.
use Rattle.std.proofs.Common.{◌≡◌, ℕ, zero, suc, ◌+◌, ◌*◌, ◌<◌, ◌≤◌, Bool, true, false, cond, ◌&&◌, ◌||◌, ◌==◌, nat_eq, nat_lt, nat_le, List, [], ◌∷◌, ◌++◌, length, take, drop, get_or, Option, Some, None, option_and_then, inl, inr, refl, sym, ap, ◌∙◌, subst, arith, append-nil, append_assoc}
use Rattle.std.specs.Prelude.{⊤}
use Rattle.std.specs.List.{AllByRecursion, starts_with}
use Rattle.std.specs.Str.{IsUtf8, IsCharBoundary}
use Rattle.std.specs.Char.{digit_value, is_digit, encode_utf8}
use Rattle.std.proofs.lemmas.Bool.{and_parts, cases_lt, eqb-true, ltb-true}
use Rattle.std.proofs.lemmas.Bool.Decides.{nat_tests}
use Rattle.std.proofs.lemmas.Str.{IsUtf8-append, IsUtf8-encode, IsUtf8-take, IsUtf8-drop, IsCharBoundary-before_ascii, IsCharBoundary-after_ascii, encode_ascii}
use Rattle.std.proofs.Math.Utf8.{scalar, low_scalar}
use Rattle.json.specs.Json as json
use Rattle.json.specs.Token.{Token, begin_object, end_object, begin_array, end_array, key, string, number, boolean, null, bad}
use Rattle.json.specs.Text.{code_unit, short_escape, is_high_surrogate, is_low_surrogate, surrogate_pair, plain, after_backslash, after_u, after_high, prepend, content}
use Rattle.json.specs.Lex.{Lexeme, token, comma, colon, Class, quote, backslash, operator, space, other, class, operator_lexeme, string_token, Mode, between, in_word, in_string, in_escape, lex, lex_byte, Place, fresh, after_value, after_comma, after_key, if_allowed, place_token, punctuate, tokens}
use Rattle.json.specs.Ascii as ascii
use Rattle.json.specs.Word.{head, word, literal, ends_word, number_before, after_number, is_operator, is_space}

abbrev pub Each : {A : Type 0} → (A → Type 0) → Option A → Type 0
Each p None = ⊤
Each p (Some x) = p x

each_prepend : (front : List ℕ) (o : Option (List ℕ)) → IsUtf8 front → Each IsUtf8 o → Each IsUtf8 (prepend front o)
each_prepend front None u h = tt
each_prepend front (Some s) u h = IsUtf8-append front s u h

-- behind a front
each_behind : (pre : List ℕ) (o : Option (List ℕ)) → IsUtf8 pre → Each IsUtf8 o → Each (λ s. IsUtf8 (pre ++ s)) o
each_behind pre None u h = tt
each_behind pre (Some s) u h = IsUtf8-append pre s u h

-- behind a front that is longer by a byte
each_regrouped : (pre : List ℕ) (x : ℕ) (o : Option (List ℕ)) → Each (λ s. IsUtf8 ((pre ++ x ∷ []) ++ s)) o → Each (λ s. IsUtf8 (pre ++ s)) (prepend (x ∷ []) o)
each_regrouped pre x None h = tt
each_regrouped pre x (Some s) h = subst IsUtf8 (append_assoc pre (x ∷ []) s) h

each_cond : {A : Type 0} (p : A → Type 0) (b : Bool) (x y : Option A) → (b ≡ true → Each p x) → (b ≡ false → Each p y) → Each p (cond b x y)
each_cond p true x y h k = h refl
each_cond p false x y h k = k refl

each_then : {A B : Type 0} (p : A → Type 0) (q : B → Type 0) (f : A → Option B) (o : Option A) → Each p o → ((x : A) → p x → Each q (f x)) → Each q (option_and_then f o)
each_then p q f None h k = tt
each_then p q f (Some x) h k = k x h

-- ---- behind an ASCII byte

pub tail : (x : ℕ) (xs : List ℕ) → x < 128 → IsUtf8 (x ∷ xs) → IsUtf8 xs
tail x xs small u = IsUtf8-drop (x ∷ xs) 1 u (IsCharBoundary-after_ascii (x ∷ xs) 0 u (omega arith) small)

ascii_one : (c : ℕ) → c < 128 → IsUtf8 (c ∷ [])
ascii_one c small = subst IsUtf8 (encode_ascii c small) (IsUtf8-encode c (low_scalar c (omega arith)))

-- ---- escapes

abbrev Short : ℕ → ℕ → Type 0
Short x c = (x < 128) × (c < 128)

same_small : (x n c : ℕ) → n < 128 → c < 128 → (x == n) ≡ true → Short x c
same_small x n c h k e = (rw (eqb-true x n e) h, k)

self_small : (x : ℕ) → ((x == 34) || (x == 92) || (x == 47)) ≡ true → x < 128
self_small x e = elim (cases_lt x 128) [
  | inl small ↦ small
  | inr big ↦ absurd (grind (arith, nat_tests, e))
]

self_short : (x : ℕ) → ((x == 34) || (x == 92) || (x == 47)) ≡ true → Short x x
self_short x e = let small = self_small x e in (small, small)

short_small : (x : ℕ) → Each (Short x) (short_escape x)
unfolding short_escape
short_small x =
    each_cond (Short x) _ _ _ (self_short x)
    (λ _. each_cond (Short x) _ _ _ (same_small x 98 8 (omega arith) (omega arith))
    (λ _. each_cond (Short x) _ _ _ (same_small x 102 12 (omega arith) (omega arith))
    (λ _. each_cond (Short x) _ _ _ (same_small x 110 10 (omega arith) (omega arith))
    (λ _. each_cond (Short x) _ _ _ (same_small x 114 13 (omega arith) (omega arith))
    (λ _. each_cond (Short x) _ _ _ (same_small x 116 9 (omega arith) (omega arith)) (λ _. tt))))))

digit_small : (a : ℕ) → is_digit a 16 ≡ true → a < 128
digit_small a h = grind (arith, nat_tests, h)

abbrev Hex : ℕ → ℕ → ℕ → ℕ → ℕ → Type 0
Hex a b c d u = (a < 128) × (b < 128) × (c < 128) × (d < 128) × (u < 65536)

value_small : (a : ℕ) → is_digit a 16 ≡ true → digit_value a < 16
value_small a h = ltb-true (digit_value a) 16 h

hex_small : (a b c d : ℕ) → is_digit a 16 ≡ true → is_digit b 16 ≡ true → is_digit c 16 ≡ true → is_digit d 16 ≡ true → Hex a b c d (digit_value a * 4096 + digit_value b * 256 + digit_value c * 16 + digit_value d)
hex_small a b c d ha hb hc hd = (digit_small a ha, digit_small b hb, digit_small c hc, digit_small d hd, omega (arith, value_small a ha, value_small b hb, value_small c hc, value_small d hd))

four : (p q r s : Bool) → (p && q && r && s) ≡ true → (p ≡ true) × (q ≡ true) × (r ≡ true) × (s ≡ true)
four true true true true e = (refl, refl, refl, refl)
four true true true false e = absurd (cc)
four true true false s e = absurd (cc)
four true false r s e = absurd (cc)
four false q r s e = absurd (cc)

unit_small : (a b c d : ℕ) → Each (Hex a b c d) (code_unit a b c d)
unfolding code_unit
unit_small a b c d = each_cond (Hex a b c d) _ _ _ (λ e. let h = four _ _ _ _ e in hex_small a b c d h.0 h.1 h.2 h.3) (λ _. tt)

high_scalar : (v : ℕ) → 57344 ≤ v → v < 1114112 → scalar v ≡ true
high_scalar v h k = grind (arith, nat_tests)

plain_scalar : (v : ℕ) → v < 65536 → is_high_surrogate v ≡ false → is_low_surrogate v ≡ false → scalar v ≡ true
plain_scalar v h not_high not_low = elim (cases_lt v 55296) [
  | inl low ↦ low_scalar v low
  | inr big ↦ high_scalar v (grind (arith, nat_tests, not_high, not_low)) (omega arith)
]

pair_scalar : (h l : ℕ) → is_high_surrogate h ≡ true → is_low_surrogate l ≡ true → scalar (surrogate_pair h l) ≡ true
pair_scalar h l high low =
    let p = and_parts (nat_le 0xd800 h) (nat_lt h 0xdc00) high in
    let q = and_parts (nat_le 0xdc00 l) (nat_lt l 0xe000) low in
    let a : h < 0xdc00 = ltb-true _ _ p.1 in
    let b : l < 0xe000 = ltb-true _ _ q.1 in
    high_scalar (surrogate_pair h l) (omega arith) (omega arith)

-- ---- the front of a text, and what stands behind an ASCII byte

take_front : (pre ys : List ℕ) → take (length pre) (pre ++ ys) ≡ pre
take_front [] ys = refl
take_front (p ∷ pre) ys = ap (λ l. p ∷ l) (take_front pre ys)

drop_front : (pre : List ℕ) (x : ℕ) (xs : List ℕ) → drop (suc (length pre)) (pre ++ x ∷ xs) ≡ xs
drop_front [] x xs = refl
drop_front (p ∷ pre) x xs = drop_front pre x xs

get_front : (pre : List ℕ) (x : ℕ) (xs : List ℕ) → get_or (pre ++ x ∷ xs) (length pre) 0 ≡ x
get_front [] x xs = refl
get_front (p ∷ pre) x xs = get_front pre x xs

front_within : (pre : List ℕ) (x : ℕ) (xs : List ℕ) → length pre < length (pre ++ x ∷ xs)
front_within [] x xs = omega arith
front_within (p ∷ pre) x xs = omega (arith, front_within pre x xs)

front : (pre : List ℕ) (x : ℕ) (xs : List ℕ) → x < 128 → IsUtf8 (pre ++ x ∷ xs) → IsUtf8 pre
front pre x xs small u =
    subst IsUtf8 (take_front pre (x ∷ xs)) (IsUtf8-take (pre ++ x ∷ xs) (length pre) u (IsCharBoundary-before_ascii (pre ++ x ∷ xs) (length pre) (front_within pre x xs) (rw (get_front pre x xs) small)))

behind : (pre : List ℕ) (x : ℕ) (xs : List ℕ) → x < 128 → IsUtf8 (pre ++ x ∷ xs) → IsUtf8 xs
behind pre x xs small u =
    let whole = pre ++ x ∷ xs in
    let next : length pre + 1 ≡ suc (length pre) = omega arith in
    subst IsUtf8 (drop_front pre x xs)
    (IsUtf8-drop whole (suc (length pre)) u (subst (IsCharBoundary whole) next (IsCharBoundary-after_ascii whole (length pre) u (front_within pre x xs) (rw (get_front pre x xs) small))))

-- ---- a string's content

mutual
  unfolding content

  clear : (xs pre : List ℕ) → IsUtf8 (pre ++ xs) → Each (λ s. IsUtf8 (pre ++ s)) (content plain xs)
  clear [] pre u = tt
  clear (x ∷ xs) pre u =
      each_cond (λ s. IsUtf8 (pre ++ s)) (x == 34) _ _
      (λ e. subst IsUtf8 (sym (append-nil pre)) (front pre x xs (rw (eqb-true x 34 e) (omega arith)) u))
      (λ _. each_cond (λ s. IsUtf8 (pre ++ s)) (x == 92) _ _
      (λ e. let small : x < 128 = rw (eqb-true x 92 e) (omega arith) in each_behind pre (content after_backslash xs) (front pre x xs small u) (escaped xs (behind pre x xs small u)))
      (λ _. each_cond (λ s. IsUtf8 (pre ++ s)) (nat_lt x 32) _ _ (λ _. tt)
      (λ _. each_regrouped pre x (content plain xs) (clear xs (pre ++ x ∷ []) (subst IsUtf8 (sym (append_assoc pre (x ∷ []) xs)) u)))))

  escaped : (xs : List ℕ) → IsUtf8 xs → Each IsUtf8 (content after_backslash xs)
  escaped [] u = tt
  escaped (x ∷ xs) u =
      each_cond IsUtf8 (x == 117) _ _
      (λ e. unit_of xs (tail x xs (rw (eqb-true x 117 e) (omega arith)) u))
      (λ _. each_then (Short x) IsUtf8 _ (short_escape x) (short_small x) (λ c h. each_prepend (c ∷ []) (content plain xs) (ascii_one c h.1) (clear xs [] (tail x xs h.0 u))))

  unit_of : (xs : List ℕ) → IsUtf8 xs → Each IsUtf8 (content after_u xs)
  unit_of [] u = tt
  unit_of (a ∷ []) u = tt
  unit_of (a ∷ b ∷ []) u = tt
  unit_of (a ∷ b ∷ c ∷ []) u = tt
  unit_of (a ∷ b ∷ c ∷ d ∷ xs) u =
      each_then (Hex a b c d) IsUtf8 _ (code_unit a b c d) (unit_small a b c d) (λ v h.
      let rest = tail d xs h.3 (tail c (d ∷ xs) h.2 (tail b (c ∷ d ∷ xs) h.1 (tail a (b ∷ c ∷ d ∷ xs) h.0 u))) in
      each_cond IsUtf8 (is_high_surrogate v) _ _ (λ e. high_of v e xs rest)
      (λ not_high. each_cond IsUtf8 (is_low_surrogate v) _ _ (λ _. tt)
      (λ not_low. each_prepend (encode_utf8 v) (content plain xs) (IsUtf8-encode v (plain_scalar v h.4 not_high not_low)) (clear xs [] rest))))

  high_of : (h : ℕ) → is_high_surrogate h ≡ true → (xs : List ℕ) → IsUtf8 xs → Each IsUtf8 (content (after_high h) xs)
  high_of h high [] u = tt
  high_of h high (s ∷ []) u = tt
  high_of h high (s ∷ t ∷ []) u = tt
  high_of h high (s ∷ t ∷ a ∷ []) u = tt
  high_of h high (s ∷ t ∷ a ∷ b ∷ []) u = tt
  high_of h high (s ∷ t ∷ a ∷ b ∷ c ∷ []) u = tt
  high_of h high (s ∷ t ∷ a ∷ b ∷ c ∷ d ∷ xs) u =
      each_cond IsUtf8 ((s == 92) && (t == 117)) _ _ (λ e.
      let p = and_parts (s == 92) (t == 117) e in
      let six = tail t (a ∷ b ∷ c ∷ d ∷ xs) (rw (eqb-true t 117 p.1) (omega arith)) (tail s (t ∷ a ∷ b ∷ c ∷ d ∷ xs) (rw (eqb-true s 92 p.0) (omega arith)) u) in
      each_then (Hex a b c d) IsUtf8 _ (code_unit a b c d) (unit_small a b c d) (λ l k.
      let rest = tail d xs k.3 (tail c (d ∷ xs) k.2 (tail b (c ∷ d ∷ xs) k.1 (tail a (b ∷ c ∷ d ∷ xs) k.0 six))) in
      each_cond IsUtf8 (is_low_surrogate l) _ _ (λ low. each_prepend (encode_utf8 (surrogate_pair h l)) (content plain xs) (IsUtf8-encode (surrogate_pair h l) (pair_scalar h l high low)) (clear xs [] rest)) (λ _. tt)))
      (λ _. tt)

pub string_clear : (xs : List ℕ) → IsUtf8 xs → Each IsUtf8 (content plain xs)
string_clear xs u = clear xs [] u

-- ---- tokens

abbrev pub TokenClear : Token → Type 0
TokenClear begin_object = ⊤
TokenClear end_object = ⊤
TokenClear begin_array = ⊤
TokenClear end_array = ⊤
TokenClear (key s) = IsUtf8 s
TokenClear (string s) = IsUtf8 s
TokenClear (number s) = ⊤
TokenClear (boolean b) = ⊤
TokenClear null = ⊤
TokenClear bad = ⊤

abbrev pub AllClear : List Token → Type 0
AllClear = AllByRecursion TokenClear

abbrev LexemeClear : Lexeme → Type 0
LexemeClear (token t) = TokenClear t
LexemeClear comma = ⊤
LexemeClear colon = ⊤

token_cond : (b : Bool) (t u : Token) → TokenClear t → TokenClear u → TokenClear (cond b t u)
token_cond true t u h k = h
token_cond false t u h k = k

lexeme_cond : (b : Bool) (t u : Lexeme) → LexemeClear t → LexemeClear u → LexemeClear (cond b t u)
lexeme_cond true t u h k = h
lexeme_cond false t u h k = k

number_clear : (t : List ℕ) (o : Option (List ℕ)) → TokenClear (number_before t o)
number_clear t None = tt
number_clear t (Some rest) = token_cond _ (number _) bad tt tt

literal_clear : (name : List ℕ) (t : Token) (xs : List ℕ) → TokenClear t → TokenClear (literal name t xs)
literal_clear name t xs h = token_cond (starts_with nat_eq xs name && ends_word (drop (length name) xs)) t bad h tt

word_clear : (t : List ℕ) → TokenClear (word t)
unfolding word
word_clear t =
    let a = literal ascii.true_text (boolean true) t in
    let b = literal ascii.false_text (boolean false) t in
    let c = literal ascii.null_text null t in
    let d = number_before t (after_number t) in
    token_cond (head t == ascii.lower_t) a (cond (head t == ascii.lower_f) b (cond (head t == ascii.lower_n) c d)) (literal_clear ascii.true_text (boolean true) t tt)
    (token_cond (head t == ascii.lower_f) b (cond (head t == ascii.lower_n) c d) (literal_clear ascii.false_text (boolean false) t tt)
    (token_cond (head t == ascii.lower_n) c d (literal_clear ascii.null_text null t tt) (number_clear t (after_number t))))

operator_clear : (x : ℕ) → LexemeClear (operator_lexeme x)
operator_clear x =
    let five = cond (x == 44) comma colon in
    let four = cond (x == 93) (token end_array) five in
    let three = cond (x == 91) (token begin_array) four in
    let two = cond (x == 125) (token end_object) three in
    lexeme_cond (x == 123) (token begin_object) two tt (lexeme_cond (x == 125) (token end_object) three tt
    (lexeme_cond (x == 91) (token begin_array) four tt (lexeme_cond (x == 93) (token end_array) five tt (lexeme_cond (x == 44) comma colon tt tt))))

string_token_clear : (o : Option (List ℕ)) → Each IsUtf8 o → TokenClear (string_token o)
string_token_clear None h = tt
string_token_clear (Some s) h = h

abbrev is_quote : Class → Bool
is_quote quote = true
is_quote backslash = false
is_quote operator = false
is_quote space = false
is_quote other = false

quote_cond : (b : Bool) (c : Class) → is_quote c ≡ false → is_quote (cond b quote c) ≡ true → b ≡ true
quote_cond true c h e = refl
quote_cond false c h e = sym h ∙ e

other_cond : (b : Bool) (c d : Class) → is_quote c ≡ false → is_quote d ≡ false → is_quote (cond b c d) ≡ false
other_cond true c d h k = h
other_cond false c d h k = k

quote_byte : (x : ℕ) → is_quote (class x) ≡ true → x < 128
quote_byte x e =
    let four = cond (is_space x) space other in
    let three = cond (is_operator x) operator four in
    let two = cond (x == 92) backslash three in
    let is : (x == 34) ≡ true =
    quote_cond (x == 34) two (other_cond (x == 92) backslash three refl (other_cond (is_operator x) operator four refl (other_cond (is_space x) space other refl refl))) e in
    rw (eqb-true x 34 is) (omega arith)

-- what follows each ASCII byte is UTF-8
abbrev After : List ℕ → Type 0
After xs = (n : ℕ) → n < length xs → get_or xs n 0 < 128 → IsUtf8 (drop (suc n) xs)

after_text : (xs : List ℕ) → IsUtf8 xs → After xs
after_text xs u n l small =
    let next : n + 1 ≡ suc n = omega arith in
    IsUtf8-drop xs (suc n) u (subst (IsCharBoundary xs) next (IsCharBoundary-after_ascii xs n u l small))

after_tail : (x : ℕ) (xs : List ℕ) → After (x ∷ xs) → After xs
after_tail x xs a n l small = a (suc n) (omega (arith, l)) small

byte_clear : (m : Mode) (c : Class) (x : ℕ) (xs : List ℕ) (k : Mode → List Lexeme) → (is_quote c ≡ true → IsUtf8 xs) → ((n : Mode) → AllByRecursion LexemeClear (k n)) → AllByRecursion LexemeClear (lex_byte m c x xs k)
byte_clear between quote x xs k u h = (string_token_clear (content plain xs) (string_clear xs (u refl)), h in_string)
byte_clear between backslash x xs k u h = (tt, h in_word)
byte_clear between operator x xs k u h = (operator_clear x, h between)
byte_clear between space x xs k u h = h between
byte_clear between other x xs k u h = (word_clear (x ∷ xs), h in_word)
byte_clear in_word quote x xs k u h = h in_word
byte_clear in_word backslash x xs k u h = h in_word
byte_clear in_word operator x xs k u h = (operator_clear x, h between)
byte_clear in_word space x xs k u h = h between
byte_clear in_word other x xs k u h = h in_word
byte_clear in_string quote x xs k u h = h between
byte_clear in_string backslash x xs k u h = h in_escape
byte_clear in_string operator x xs k u h = h in_string
byte_clear in_string space x xs k u h = h in_string
byte_clear in_string other x xs k u h = h in_string
byte_clear in_escape c x xs k u h = h in_string

lex_clear : (xs : List ℕ) (m : Mode) → After xs → AllByRecursion LexemeClear (lex m xs)
unfolding lex
lex_clear [] m a = tt
lex_clear (x ∷ xs) m a = byte_clear m (class x) x xs (λ next. lex next xs) (λ q. a 0 (omega arith) (quote_byte x q)) (λ n. lex_clear xs n (after_tail x xs a))

allowed_clear : (b : Bool) (t : Token) (k : Place → List Token) (next : Place) → TokenClear t → AllClear (k next) → AllClear (if_allowed b t k next)
allowed_clear true t k next h rest = (h, rest)
allowed_clear false t k next h rest = (tt, tt)

place_clear : (p : Place) (t : Token) (b : Bool) (k : Place → List Token) → TokenClear t → ((n : Place) → AllClear (k n)) → AllClear (place_token p t b k)
place_clear p begin_object b k h rest = allowed_clear _ begin_object k fresh tt (rest fresh)
place_clear p end_object b k h rest = allowed_clear _ end_object k after_value tt (rest after_value)
place_clear p begin_array b k h rest = allowed_clear _ begin_array k fresh tt (rest fresh)
place_clear p end_array b k h rest = allowed_clear _ end_array k after_value tt (rest after_value)
place_clear p (key s) b k h rest = (tt, tt)
place_clear p (string s) true k h rest = allowed_clear _ (key s) k after_key h (rest after_key)
place_clear p (string s) false k h rest = allowed_clear _ (string s) k after_value h (rest after_value)
place_clear p (number s) b k h rest = allowed_clear _ (number s) k after_value tt (rest after_value)
place_clear p (boolean c) b k h rest = allowed_clear _ (boolean c) k after_value tt (rest after_value)
place_clear p null b k h rest = allowed_clear _ null k after_value tt (rest after_value)
place_clear p bad b k h rest = (tt, tt)

punctuate_clear : (ls : List Lexeme) (p : Place) → AllByRecursion LexemeClear ls → AllClear (punctuate p ls)
unfolding punctuate
punctuate_clear [] fresh h = tt
punctuate_clear [] after_value h = tt
punctuate_clear [] after_comma h = (tt, tt)
punctuate_clear [] after_key h = (tt, tt)
punctuate_clear (token t ∷ ls) fresh h = place_clear fresh t _ _ h.0 (λ n. punctuate_clear ls n h.1)
punctuate_clear (token t ∷ ls) after_value h = place_clear after_value t _ _ h.0 (λ n. punctuate_clear ls n h.1)
punctuate_clear (token t ∷ ls) after_comma h = place_clear after_comma t _ _ h.0 (λ n. punctuate_clear ls n h.1)
punctuate_clear (token t ∷ ls) after_key h = place_clear after_key t _ _ h.0 (λ n. punctuate_clear ls n h.1)
punctuate_clear (comma ∷ ls) fresh h = (tt, tt)
punctuate_clear (comma ∷ ls) after_value h = punctuate_clear ls after_comma h.1
punctuate_clear (comma ∷ ls) after_comma h = (tt, tt)
punctuate_clear (comma ∷ ls) after_key h = (tt, tt)
punctuate_clear (colon ∷ ls) fresh h = (tt, tt)
punctuate_clear (colon ∷ ls) after_value h = (tt, tt)
punctuate_clear (colon ∷ ls) after_comma h = (tt, tt)
punctuate_clear (colon ∷ ls) after_key h = punctuate_clear ls fresh h.1

pub tokens_clear : (text : List ℕ) → IsUtf8 text → AllClear (tokens text)
tokens_clear text u = punctuate_clear (lex between text) fresh (lex_clear text between (after_text text u))

-- ---- the value of the tokens

abbrev mutual
  pub JsonClear : json.Json → Type 0
  JsonClear json.null = ⊤
  JsonClear (json.boolean b) = ⊤
  JsonClear (json.number s) = ⊤
  JsonClear (json.string s) = IsUtf8 s
  JsonClear (json.array js) = ItemsClear js
  JsonClear (json.object ms) = MembersClear ms

  pub ItemsClear : json.Items → Type 0
  ItemsClear json.no_items = ⊤
  ItemsClear (json.item j js) = JsonClear j × ItemsClear js

  pub MembersClear : json.Members → Type 0
  MembersClear json.no_members = ⊤
  MembersClear (json.member k j ms) = IsUtf8 k × JsonClear j × MembersClear ms

abbrev Given : {A : Type 0} → (A → Type 0) → Option (A × List Token) → Type 0
Given p None = ⊤
Given p (Some r) = p r.0 × AllClear r.1

abbrev Gives : {A : Type 0} → (A → Type 0) → json.Parse A → Type 0
Gives p parse = (ts : List Token) → AllClear ts → Given p (parse ts)

mapped : {A B : Type 0} (p : A → Type 0) (q : B → Type 0) (f : A → B) → ((x : A) → p x → q (f x)) → (o : Option (A × List Token)) → Given p o → Given q (json.parse_map f o)
mapped p q f k None h = tt
mapped p q f k (Some r) h = (k r.0 h.0, h.1)

and_more : {B : Type 0} (q : B → Type 0) (f : json.Json → B → B) → ((j : json.Json) (b : B) → JsonClear j → q b → q (f j b)) → (more : json.Parse B) → Gives q more
    → (o : Option (json.Json × List Token)) → Given JsonClear o → Given q (option_and_then (λ r. json.parse_map (f r.0) (more r.1)) o)
and_more q f is more again None h = tt
and_more q f is more again (Some r) h = mapped q q (f r.0) (λ b y. is r.0 b h.0 y) (more r.1) (again r.1 h.1)

abbrev Rest : Option (List Token) → Type 0
Rest None = ⊤
Rest (Some ts) = AllClear ts

end_rest : (ts : List Token) → AllClear ts → Rest (json.after_end_array ts)
end_rest [] h = tt
end_rest (begin_object ∷ ts) h = tt
end_rest (end_object ∷ ts) h = tt
end_rest (begin_array ∷ ts) h = tt
end_rest (end_array ∷ ts) h = h.1
end_rest (key s ∷ ts) h = tt
end_rest (string s ∷ ts) h = tt
end_rest (number s ∷ ts) h = tt
end_rest (boolean b ∷ ts) h = tt
end_rest (null ∷ ts) h = tt
end_rest (bad ∷ ts) h = tt

key_given : (ts : List Token) → AllClear ts → Given (Each IsUtf8) (json.read_key ts)
key_given [] h = tt
key_given (begin_object ∷ ts) h = tt
key_given (end_object ∷ ts) h = (tt, h.1)
key_given (begin_array ∷ ts) h = tt
key_given (end_array ∷ ts) h = tt
key_given (key s ∷ ts) h = (h.0, h.1)
key_given (string s ∷ ts) h = tt
key_given (number s ∷ ts) h = tt
key_given (boolean b ∷ ts) h = tt
key_given (null ∷ ts) h = tt
key_given (bad ∷ ts) h = tt

module _ (value : json.Parse json.Json) (gives : Gives JsonClear value) where
  item_turn : (more : json.Parse json.Items) → Gives ItemsClear more → (ts : List Token) → AllClear ts → (o : Option (List Token)) → Rest o → Given ItemsClear (json.items_step value more ts o)
  item_turn more again ts h (Some r) rest = (tt, rest)
  item_turn more again ts h None rest = and_more ItemsClear json.item (λ j b c d. (c, d)) more again (value ts) (gives ts h)

  items_given : (n : ℕ) → Gives ItemsClear (json.items value n)
  unfolding json.items
  items_given zero ts h = tt
  items_given (suc n) ts h = item_turn (json.items value n) (items_given n) ts h (json.after_end_array ts) (end_rest ts h)

  member_turn : (more : json.Parse json.Members) → Gives MembersClear more → (o : Option (Option (List ℕ) × List Token)) → Given (Each IsUtf8) o → Given MembersClear (option_and_then (λ r. json.members_step value more r.0 r.1) o)
  member_turn more again None h = tt
  member_turn more again (Some (None, ts)) h = (tt, h.1)
  member_turn more again (Some (Some k, ts)) h = and_more MembersClear (json.member k) (λ j b c d. (h.0, c, d)) more again (value ts) (gives ts h.1)

  members_given : (n : ℕ) → Gives MembersClear (json.members value n)
  unfolding json.members
  members_given zero ts h = tt
  members_given (suc n) ts h = member_turn (json.members value n) (members_given n) (json.read_key ts) (key_given ts h)

one_level : (a : json.Parse json.Items) (o : json.Parse json.Members) → Gives ItemsClear a → Gives MembersClear o → Gives JsonClear (json.value_with a o)
one_level a o p q [] h = tt
one_level a o p q (begin_object ∷ ts) h = mapped MembersClear JsonClear json.object (λ ms x. x) (o ts) (q ts h.1)
one_level a o p q (end_object ∷ ts) h = tt
one_level a o p q (begin_array ∷ ts) h = mapped ItemsClear JsonClear json.array (λ js x. x) (a ts) (p ts h.1)
one_level a o p q (end_array ∷ ts) h = tt
one_level a o p q (key s ∷ ts) h = tt
one_level a o p q (string s ∷ ts) h = (h.0, h.1)
one_level a o p q (number s ∷ ts) h = (tt, h.1)
one_level a o p q (boolean b ∷ ts) h = (tt, h.1)
one_level a o p q (null ∷ ts) h = (tt, h.1)
one_level a o p q (bad ∷ ts) h = tt

value_given : (d : ℕ) → Gives JsonClear (json.value d)
unfolding json.value
value_given zero = one_level (λ ts. None) (λ ts. None) (λ ts h. tt) (λ ts h. tt)
value_given (suc d) =
    one_level (λ ts. json.items (json.value d) (length ts) ts) (λ ts. json.members (json.value d) (length ts) ts)
    (λ ts h. items_given (json.value d) (value_given d) (length ts) ts h)
    (λ ts h. members_given (json.value d) (value_given d) (length ts) ts h)

last_clear : (o : Option (json.Json × List Token)) → Given JsonClear o → Each JsonClear (option_and_then (λ p. json.if_last p.0 p.1) o)
last_clear None h = tt
last_clear (Some (j, [])) h = h.0
last_clear (Some (j, t ∷ ts)) h = tt

-- the strings and names of a text in UTF-8
pub document_clear : (depth : ℕ) (text : List ℕ) → IsUtf8 text → Each JsonClear (option_and_then (λ p. json.if_last p.0 p.1) (json.value depth (tokens text)))
document_clear depth text u = last_clear (json.value depth (tokens text)) (value_given depth (tokens text) (tokens_clear text u))
