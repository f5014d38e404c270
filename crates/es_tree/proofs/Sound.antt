-- What was read is in order, fits, and is printed in UTF-8.
use Rattle.std.proofs.Common.{◌≡◌, ℕ, zero, suc, ◌^◌, ◌<◌, ◌≤◌, ℤ, pos, negsuc, List, [], ◌∷◌, ◌++◌, map, codes, Bool, true, false, ◌&&◌, nat_lt, nat_le, if◌then◌else◌, Option, Some, None, option_map, option_and_then, nat_cmp, Ordering, Less, Equal, Greater, refl, sym, ap, ap₂, ◌∙◌, subst, arith}
use Rattle.std.specs.Prelude.{⊤}
use Rattle.std.specs.List.{list_all, AllByRecursion}
use Rattle.std.specs.Str.{IsUtf8}
use Rattle.std.specs.Fmt.{signed_decimal}
use Rattle.std.specs.Ordering.{match_ordering, is_lt, ordering_reverse}
use Rattle.std.specs.Cmp.Lexicographic.{slice_cmp}
use Rattle.std.proofs.lemmas.Bool.{and_parts}
use Rattle.std.proofs.lemmas.Bool.Decides.{nat_tests}
use Rattle.std.proofs.lemmas.Str.{IsUtf8-append, IsUtf8-nil, IsUtf8-from_ascii}
use Rattle.std.proofs.lemmas.Fmt.{IsAscii-signed}
use Rattle.std.proofs.lemmas.Cmp.{nat_list_cmp_total}
use Rattle.std.proofs.lemmas.Option.{option_and_then_some}
use Rattle.fast_float.specs.Text.{Parts, scan, digits_of, with_sign}
use Rattle.json.specs.Json as json
use Rattle.json.specs.Lex.{tokens}
use Rattle.json.specs.Print.{quoted}
use Rattle.json.proofs.Printed.Utf8.{IsUtf8-are_ascii, IsUtf8-quoted}
use Rattle.serde_json.specs.Data.{Num, unsigned, negative, float, Data, null, boolean, number, string, array, object, Items, no_items, item, Members, no_members, member, put}
use Rattle.serde_json.specs.Find.{as_i64}
use Rattle.serde_json.specs.Read.{is_integer, float_of, number_from, number_of, of_json, of_items, of_members, max_depth, read}
use Rattle.es_tree.specs.declared.tree.Tree.{Tree}
use Rattle.es_tree.specs.declared.tree.Tree as tree
use Rattle.es_tree.specs.declared.tree.Named.{Named}
use Rattle.es_tree.specs.Order.{fits_i64, is_ordered, is_fitting}
use Rattle.es_tree.specs.Rising.{name_of, is_before, is_rising}
use Rattle.es_tree.specs.Text.{after_commas, with_commas, text_of, member_text}
use Rattle.es_tree.specs.Read.{tree_of, trees_of, members_of}
use Rattle.es_tree.proofs.Names.{all_before}
use Rattle.es_tree.proofs.Fronts.{some_same, option_map_some}
use Rattle.es_tree.proofs.Utf8.{Each, JsonClear, ItemsClear, MembersClear, document_clear}
use Rattle.es_tree.proofs.Texts.{text_of-Null, text_of-true, text_of-false, text_of-Int, text_of-Text, text_of-List, text_of-Object}
use Rattle.es_tree.proofs.Induction.{is_fitting-Null, is_fitting-Bool, is_fitting-Int, is_fitting-Text, is_fitting-List, is_fitting-Object, is_ordered-Null, is_ordered-Bool, is_ordered-Int, is_ordered-Text, is_ordered-List, is_ordered-Object}

abbrev pub names_of : Members → List (List ℕ)
names_of no_members = []
names_of (member k d ms) = k ∷ names_of ms

-- as an `i64` it is one
abbrev pub NumFits : Num → Type 0
NumFits n = (z : ℤ) → as_i64 n ≡ Some z → fits_i64 z ≡ true

abbrev mutual
  pub Sound : Data → Type 0
  Sound null = ⊤
  Sound (boolean b) = ⊤
  Sound (number n) = NumFits n
  Sound (string s) = IsUtf8 s
  Sound (array ds) = ItemsSound ds
  Sound (object ms) = (is_rising (names_of ms) ≡ true) × MembersSound ms

  pub ItemsSound : Items → Type 0
  ItemsSound no_items = ⊤
  ItemsSound (item d ds) = Sound d × ItemsSound ds

  pub MembersSound : Members → Type 0
  MembersSound no_members = ⊤
  MembersSound (member k d ms) = IsUtf8 k × Sound d × MembersSound ms

-- ---- a member is put

put_all_at : (o : Ordering) (x k l : List ℕ) (d e : Data) (ms : Members) → is_before x k ≡ true → list_all (is_before x) (l ∷ names_of ms) ≡ true
    → (list_all (is_before x) (names_of ms) ≡ true → list_all (is_before x) (names_of (put k d ms)) ≡ true)
    → list_all (is_before x) (names_of (match_ordering o (member k d (member l e ms)) (member l d ms) (member l e (put k d ms)))) ≡ true
put_all_at Less x k l d e ms h a again = ap₂ (λ b c. b && c) h a
put_all_at Equal x k l d e ms h a again = a
put_all_at Greater x k l d e ms h a again = let p = and_parts _ _ a in ap₂ (λ b c. b && c) p.0 (again p.1)

put_all : (x k : List ℕ) (d : Data) (ms : Members) → is_before x k ≡ true → list_all (is_before x) (names_of ms) ≡ true → list_all (is_before x) (names_of (put k d ms)) ≡ true
put_all x k d no_members h a = ap (λ b. b && true) h
put_all x k d (member l e ms) h a = put_all_at (slice_cmp nat_cmp k l) x k l d e ms h a (put_all x k d ms h)

put_rising_at : (o : Ordering) (k l : List ℕ) (d e : Data) (ms : Members) → slice_cmp nat_cmp k l ≡ o → is_rising (l ∷ names_of ms) ≡ true
    → (is_rising (names_of ms) ≡ true → is_rising (names_of (put k d ms)) ≡ true)
    → is_rising (names_of (match_ordering o (member k d (member l e ms)) (member l d ms) (member l e (put k d ms)))) ≡ true
put_rising_at Less k l d e ms is r again =
    let p = and_parts _ _ r in
    let before = ap is_lt is in
    ap₂ (λ b c. b && c) (ap₂ (λ b c. b && c) before (all_before k l (names_of ms) before p.0)) r
put_rising_at Equal k l d e ms is r again = r
put_rising_at Greater k l d e ms is r again =
    let p = and_parts _ _ r in
    let after : is_before l k ≡ true = ap is_lt (nat_list_cmp_total.antisymm l k ∙ ap ordering_reverse is) in
    ap₂ (λ b c. b && c) (put_all l k d ms after p.0) (again p.1)

put_rising : (k : List ℕ) (d : Data) (ms : Members) → is_rising (names_of ms) ≡ true → is_rising (names_of (put k d ms)) ≡ true
put_rising k d no_members r = refl
put_rising k d (member l e ms) r = put_rising_at (slice_cmp nat_cmp k l) k l d e ms refl r (put_rising k d ms)

put_sound_at : (o : Ordering) (k l : List ℕ) (d e : Data) (ms : Members) → IsUtf8 k → Sound d → IsUtf8 l × Sound e × MembersSound ms → MembersSound (put k d ms)
    → MembersSound (match_ordering o (member k d (member l e ms)) (member l d ms) (member l e (put k d ms)))
put_sound_at Less k l d e ms u h s again = (u, h, s)
put_sound_at Equal k l d e ms u h s again = (s.0, h, s.2)
put_sound_at Greater k l d e ms u h s again = (s.0, s.1, again)

put_sound : (k : List ℕ) (d : Data) (ms : Members) → IsUtf8 k → Sound d → MembersSound ms → MembersSound (put k d ms)
put_sound k d no_members u h s = (u, h, tt)
put_sound k d (member l e ms) u h s = put_sound_at (slice_cmp nat_cmp k l) k l d e ms u h s (put_sound k d ms u h s.2)

-- ---- numbers

small_fits : (n : ℕ) (b : Bool) → nat_lt n (2 ^ 63) ≡ b → (z : ℤ) → (if b then Some (pos n) else None) ≡ Some z → fits_i64 z ≡ true
small_fits n true h z e = subst (λ (y : ℤ). fits_i64 y ≡ true) (some_same e) h
small_fits n false h z e = absurd (cc)

minus_fits : (n : ℕ) → n ≤ 2 ^ 63 → fits_i64 (with_sign true n) ≡ true
minus_fits zero h = refl
minus_fits (suc n) h = let e : nat_lt n (2 ^ 63) ≡ true = grind (arith, nat_tests) in e

each_map : {A B : Type 0} (p : A → Type 0) (q : B → Type 0) (f : A → B) → ((x : A) → p x → q (f x)) → (o : Option A) → Each p o → Each q (option_map f o)
each_map p q f k None h = tt
each_map p q f k (Some x) h = k x h

each_then : {A B : Type 0} (p : A → Type 0) (q : B → Type 0) (f : A → Option B) → ((x : A) → p x → Each q (f x)) → (o : Option A) → Each p o → Each q (option_and_then f o)
each_then p q f k None h = tt
each_then p q f k (Some x) h = k x h

float_fits : (b : Bool) (n : Num) → NumFits n → Each NumFits (if b then Some n else None)
float_fits true n h = h
float_fits false n h = tt

number_from_fits : (b : Bool) (n : Num) (o : Option Num) → (b ≡ true → NumFits n) → Each NumFits o → Each NumFits (if b then Some n else o)
number_from_fits true n o h k = h refl
number_from_fits false n o h k = k

floats_fit : (sign : Bool) (p : Parts) → Each NumFits (float_of sign p)
floats_fit sign p = float_fits _ (float _) (λ z e. absurd (cc))

minus_number : (n : ℕ) → nat_le n (2 ^ 63) ≡ true → NumFits (negative (with_sign true n))
minus_number n h z e = subst (λ (y : ℤ). fits_i64 y ≡ true) (some_same e) (minus_fits n (grind (arith, nat_tests, h)))

numbers_fit : (sign : Bool) (p : Parts) → Each NumFits (number_from sign p)
numbers_fit false p = number_from_fits _ (unsigned (digits_of p)) _ (λ _. small_fits (digits_of p) _ refl) (floats_fit false p)
numbers_fit true p = number_from_fits _ (negative (with_sign true (digits_of p))) _ (λ h. minus_number (digits_of p) (and_parts (is_integer p && nat_lt 0 (digits_of p)) (nat_le (digits_of p) (2 ^ 63)) h).1) (floats_fit true p)

either_fits : (b : Bool) (o p : Option Num) → Each NumFits o → Each NumFits p → Each NumFits (if b then o else p)
either_fits true o p h k = h
either_fits false o p h k = k

number_fits : (s : List ℕ) → Each NumFits (number_of s)
unfolding number_of
number_fits s = either_fits _ _ _ (numbers_fit true (scan _)) (numbers_fit false (scan s))

-- ---- what was read

mutual
  sound_json : (j : json.Json) → JsonClear j → Each Sound (of_json j)
  sound_json json.null c = tt
  sound_json (json.boolean b) c = tt
  sound_json (json.number s) c = each_map NumFits Sound number (λ n h. h) (number_of s) (number_fits s)
  sound_json (json.string s) c = c
  sound_json (json.array js) c = each_map ItemsSound Sound array (λ ds h. h) (of_items js) (sound_items js c)
  sound_json (json.object ms) c = each_map (λ (es : Members). (is_rising (names_of es) ≡ true) × MembersSound es) Sound object (λ es h. h) (of_members ms no_members) (sound_members ms no_members c refl tt)

  sound_items : (js : json.Items) → ItemsClear js → Each ItemsSound (of_items js)
  sound_items json.no_items c = tt
  sound_items (json.item j js) c = each_then Sound ItemsSound _ (λ d h. each_map ItemsSound ItemsSound (item d) (λ ds k. (h, k)) (of_items js) (sound_items js c.1)) (of_json j) (sound_json j c.0)

  sound_members : (ms : json.Members) (found : Members) → MembersClear ms → is_rising (names_of found) ≡ true → MembersSound found → Each (λ (es : Members). (is_rising (names_of es) ≡ true) × MembersSound es) (of_members ms found)
  sound_members json.no_members found c r s = (r, s)
  sound_members (json.member k j ms) found c r s =
      each_then Sound (λ (es : Members). (is_rising (names_of es) ≡ true) × MembersSound es) _ (λ d h. sound_members ms (put k d found) c.2 (put_rising k d found r) (put_sound k d found c.0 h s)) (of_json j) (sound_json j c.1)

each_some : {A : Type 0} (p : A → Type 0) (o : Option A) (x : A) → o ≡ Some x → Each p o → p x
each_some p o x e h = subst (Each p) e h

sound_data : (o : Option json.Json) → Each JsonClear o → Each Sound (option_and_then of_json o)
sound_data None c = tt
sound_data (Some j) c = sound_json j c

pub sound_read : (text : List ℕ) (d : Data) → IsUtf8 text → read text ≡ Some d → Sound d
sound_read text d u e = each_some Sound (read text) d e (sound_data (option_and_then (λ p. json.if_last p.0 p.1) (json.value max_depth (tokens text))) (document_clear max_depth text u))

-- ---- its tree

commas_clear : (ts : List (List ℕ)) → AllByRecursion IsUtf8 ts → IsUtf8 (after_commas ts)
commas_clear [] h = IsUtf8-nil
commas_clear (t ∷ ts) h = IsUtf8-append (codes ",") _ (IsUtf8-are_ascii (codes ",") refl) (IsUtf8-append t (after_commas ts) h.0 (commas_clear ts h.1))

listed_clear : (ts : List (List ℕ)) → AllByRecursion IsUtf8 ts → IsUtf8 (with_commas ts)
listed_clear [] h = IsUtf8-nil
listed_clear (t ∷ ts) h = IsUtf8-append t (after_commas ts) h.0 (commas_clear ts h.1)

bracketed_clear : (opening closing inner : List ℕ) → IsUtf8 opening → IsUtf8 inner → IsUtf8 closing → IsUtf8 (opening ++ (inner ++ closing))
bracketed_clear opening closing inner o i c = IsUtf8-append opening _ o (IsUtf8-append inner closing i c)

truth_clear : (b : Bool) → IsUtf8 (text_of (tree.Bool b))
truth_clear true = subst IsUtf8 (sym text_of-true) (IsUtf8-are_ascii (codes "true") refl)
truth_clear false = subst IsUtf8 (sym text_of-false) (IsUtf8-are_ascii (codes "false") refl)

number_clear : (z : ℤ) → fits_i64 z ≡ true → IsUtf8 (signed_decimal z)
number_clear (pos n) h = let below : n < 2 ^ 63 = grind (arith, nat_tests, h) in IsUtf8-from_ascii _ (IsAscii-signed (pos n) below)
number_clear (negsuc n) h = let below : n < 2 ^ 63 = grind (arith, nat_tests, h) in IsUtf8-from_ascii _ (IsAscii-signed (negsuc n) below)

abbrev pub Kept : Tree → Type 0
Kept t = (is_ordered t ≡ true) × (is_fitting t ≡ true) × IsUtf8 (text_of t)

abbrev pub AllKept : List Tree → Type 0
AllKept ts = (list_all is_ordered ts ≡ true) × (list_all is_fitting ts ≡ true) × AllByRecursion IsUtf8 (map text_of ts)

abbrev pub MembersKept : List (Named Tree) → Type 0
MembersKept ms = (list_all (λ (m : Named Tree). is_ordered m.value) ms ≡ true) × (list_all (λ (m : Named Tree). is_fitting m.value) ms ≡ true) × AllByRecursion IsUtf8 (map member_text ms)

list_kept : (ts : List Tree) → AllKept ts → Kept (tree.List ts)
list_kept ts k = (
  is_ordered-List ts ∙ k.0,
  is_fitting-List ts ∙ k.1,
  subst IsUtf8 (sym (text_of-List ts)) (bracketed_clear (codes "[") (codes "]") _ (IsUtf8-are_ascii (codes "[") refl) (listed_clear (map text_of ts) k.2) (IsUtf8-are_ascii (codes "]") refl)),
)

object_kept : (ms : List (Named Tree)) → is_rising (map name_of ms) ≡ true → MembersKept ms → Kept (tree.Object ms)
object_kept ms rising k = (
  is_ordered-Object ms ∙ ap₂ (λ b c. b && c) rising k.0,
  is_fitting-Object ms ∙ k.1,
  subst IsUtf8 (sym (text_of-Object ms)) (bracketed_clear (codes "{") (codes "}") _ (IsUtf8-are_ascii (codes "{") refl) (listed_clear (map member_text ms) k.2) (IsUtf8-are_ascii (codes "}") refl)),
)

mutual
  kept : (d : Data) (t : Tree) → tree_of d ≡ Some t → Sound d → Kept t
  kept null t e h = subst Kept (some_same e) (is_ordered-Null, is_fitting-Null, subst IsUtf8 (sym text_of-Null) (IsUtf8-are_ascii (codes "null") refl))
  kept (boolean b) t e h = subst Kept (some_same e) (is_ordered-Bool b, is_fitting-Bool b, truth_clear b)
  kept (number n) t e h = option_map_some tree.Int (as_i64 n) t e (λ z whole is. subst Kept is (is_ordered-Int z, is_fitting-Int z ∙ h z whole, subst IsUtf8 (sym (text_of-Int z)) (number_clear z (h z whole))))
  kept (string s) t e h = subst Kept (some_same e) (is_ordered-Text s, is_fitting-Text s, subst IsUtf8 (sym (text_of-Text s)) (IsUtf8-quoted s h))
  kept (array ds) t e h = option_map_some tree.List (trees_of ds) t e (λ ts found is. subst Kept is (list_kept ts (all_kept ds ts found h)))
  kept (object es) t e h = option_map_some tree.Object (members_of es) t e (λ ms found is.
      subst Kept is (object_kept ms (ap is_rising (names_kept es ms found) ∙ h.0) (members_kept es ms found h.1)))

  all_kept : (ds : Items) (ts : List Tree) → trees_of ds ≡ Some ts → ItemsSound ds → AllKept ts
  all_kept no_items ts e h = subst AllKept (some_same e) (refl, refl, tt)
  all_kept (item d ds) ts e h =
      option_and_then_some _ (tree_of d) ts e (λ t first rest.
      option_map_some _ (trees_of ds) ts rest (λ more later is.
      let k = kept d t first h.0 in
      let l = all_kept ds more later h.1 in
      subst AllKept is (ap₂ (λ b c. b && c) k.0 l.0, ap₂ (λ b c. b && c) k.1 l.1, (k.2, l.2))))

  members_kept : (es : Members) (ms : List (Named Tree)) → members_of es ≡ Some ms → MembersSound es → MembersKept ms
  members_kept no_members ms e h = subst MembersKept (some_same e) (refl, refl, tt)
  members_kept (member name d es) ms e h =
      option_and_then_some _ (tree_of d) ms e (λ t first rest.
      option_map_some _ (members_of es) ms rest (λ more later is.
      let k = kept d t first h.1 in
      let l = members_kept es more later h.2 in
      let text : IsUtf8 (quoted name ++ (codes ":" ++ text_of t)) = IsUtf8-append (quoted name) _ (IsUtf8-quoted name h.0) (IsUtf8-append (codes ":") _ (IsUtf8-are_ascii (codes ":") refl) k.2) in
      subst MembersKept is (ap₂ (λ b c. b && c) k.0 l.0, ap₂ (λ b c. b && c) k.1 l.1, (text, l.2))))

  names_kept : (es : Members) (ms : List (Named Tree)) → members_of es ≡ Some ms → map name_of ms ≡ names_of es
  names_kept no_members ms e = ap (map name_of) (sym (some_same e))
  names_kept (member name d es) ms e =
      option_and_then_some _ (tree_of d) ms e (λ t first rest.
      option_map_some _ (members_of es) ms rest (λ more later is.
      ap (map name_of) (sym is) ∙ ap (λ l. name ∷ l) (names_kept es more later)))

pub read_kept : (text : List ℕ) (d : Data) (t : Tree) → IsUtf8 text → read text ≡ Some d → tree_of d ≡ Some t → Kept t
read_kept text d t u e is = kept d t is (sound_read text d u e)
