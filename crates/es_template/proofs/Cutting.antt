-- Texts that are cut at a mark.
use Rattle.std.proofs.Common.{◌≡◌, ◌≢◌, ℕ, zero, suc, ◌+◌, ◌-◌, ◌<◌, ◌≤◌, List, [], ◌∷◌, ◌++◌, length, take, drop, Bool, true, false, ◌==◌, Option, Some, None, refl, sym, ap, ◌∙◌, arith, drop_at, reverse, encode_utf8, lit<, length-append}
use Rattle.std.specs.Prelude.{if◌then◌else◌, is_some}
use Rattle.std.specs.Str.Pattern.{LacksTextAt}
use Rattle.std.proofs.lemmas.Bool.{false≢true, eqb-true}
use Rattle.std.proofs.Common.{eq-eqb}
use Rattle.std.proofs.lemmas.Str.{encode_ascii}
use Rattle.std.proofs.lemmas.List.{reverse-reverse, reverse-append}
use Rattle.es_template.specs.Tags.{has_bytes, spaces_dropped}
use Rattle.es_template.specs.Marks.{behind, or_later, at_end, cut, grown, parts_from, parts}

pub some_same : {A : Type 0} (x y : A) → Some x ≡ Some y → x ≡ y
some_same x y e = cc e

pub none_some : {A : Type 0} (x : A) → None ≡ Some x → ⊥
none_some x e = false≢true (ap is_some e)

-- ---- at the front

pub behind-append : (mark rest : List ℕ) → behind mark (mark ++ rest) ≡ Some rest
behind-append [] rest = refl
behind-append (m ∷ ms) rest = rw (eq-eqb m m refl) (behind-append ms rest)

behind_by : (c : Bool) (m b : ℕ) (ms bs rest : List ℕ) → (m == b) ≡ c → (behind ms bs ≡ Some rest → bs ≡ ms ++ rest) → (if c then behind ms bs else None) ≡ Some rest → b ∷ bs ≡ m ∷ (ms ++ rest)
behind_by true m b ms bs rest same later e = rw (eqb-true m b same, later e) refl
behind_by false m b ms bs rest same later e = absurd (none_some rest e)

pub behind_is : (mark text rest : List ℕ) → behind mark text ≡ Some rest → text ≡ mark ++ rest
behind_is [] text rest e = some_same text rest e
behind_is (m ∷ ms) [] rest e = absurd (none_some rest e)
behind_is (m ∷ ms) (b ∷ bs) rest e = behind_by (m == b) m b ms bs rest refl (behind_is ms bs rest) e

lacks_by : (o : Option (List ℕ)) (mark text : List ℕ) → behind mark text ≡ o → ((rest : List ℕ) → text ≢ mark ++ rest) → o ≡ None
lacks_by None mark text e lacks = refl
lacks_by (Some rest) mark text e lacks = absurd (lacks rest (behind_is mark text rest e))

pub behind_none : (mark text : List ℕ) → ((rest : List ℕ) → text ≢ mark ++ rest) → behind mark text ≡ None
behind_none mark text lacks = lacks_by (behind mark text) mark text refl lacks

-- ---- the first place

pub cut_found : (mark text : List ℕ) (i : ℕ) (rest : List ℕ) → ((k : ℕ) → k < i → LacksTextAt mark text k) → i ≤ length text → drop i text ≡ mark ++ rest → cut mark text ≡ Some (take i text, rest)
cut_found mark [] zero rest lacks le e = ap at_end (ap (behind mark) e ∙ behind-append mark rest)
cut_found mark [] (suc i) rest lacks le e = absurd (omega arith)
cut_found mark (b ∷ bs) zero rest lacks le e = ap (λ o. or_later b o (cut mark bs)) (ap (behind mark) e ∙ behind-append mark rest)
cut_found mark (b ∷ bs) (suc i) rest lacks le e =
    let here = behind_none mark (b ∷ bs) (lacks 0 (omega arith)) in
    let later = cut_found mark bs i rest (λ k l. lacks (suc k) (omega arith)) (omega arith) e in
    rw (here, later) refl

pub cut_none : (mark text : List ℕ) → ((k : ℕ) → k ≤ length text → LacksTextAt mark text k) → cut mark text ≡ None
cut_none mark [] lacks = ap at_end (behind_none mark [] (lacks 0 (omega arith)))
cut_none mark (b ∷ bs) lacks =
    let here = behind_none mark (b ∷ bs) (lacks 0 (omega arith)) in
    let later = cut_none mark bs (λ k l. lacks (suc k) (omega arith)) in
    rw (here, later) refl

-- ---- the parts

or_later_none : (b : ℕ) (here : Option (List ℕ)) (later : Option (List ℕ × List ℕ)) → or_later b here later ≡ None → (here ≡ None) × (later ≡ None)
or_later_none b (Some rest) later e = absurd (none_some _ (sym e))
or_later_none b None None e = (refl, refl)
or_later_none b None (Some later) e = absurd (none_some _ (sym e))

pub parts_later : (mark : List ℕ) (n : ℕ) (text : List ℕ) → parts_from mark n text ≡ parts_from mark 0 (drop n text)
parts_later mark zero [] = refl
parts_later mark (suc n) [] = refl
parts_later mark zero (b ∷ bs) = refl
parts_later mark (suc n) (b ∷ bs) = parts_later mark n bs

pub parts_begun : (m : ℕ) (ms : List ℕ) (b : ℕ) (bs rest : List ℕ) → behind (m ∷ ms) (b ∷ bs) ≡ Some rest → parts_from (m ∷ ms) 0 (b ∷ bs) ≡ [] ∷ parts_from (m ∷ ms) 0 rest
parts_begun m ms b bs rest e =
    let whole : bs ≡ ms ++ rest = ap (drop 1) (behind_is (m ∷ ms) (b ∷ bs) rest e) in
    let count : length (m ∷ ms) - 1 ≡ length ms = omega arith in
    let left : drop (length (m ∷ ms) - 1) bs ≡ rest = ap (λ n. drop n bs) count ∙ ap (drop (length ms)) whole ∙ drop_at ms rest (length ms) refl in
    let first : parts_from (m ∷ ms) 0 (b ∷ bs) ≡ [] ∷ parts_from (m ∷ ms) (length (m ∷ ms) - 1) bs = rw e refl in
    first ∙ ap (λ ps. [] ∷ ps) (parts_later (m ∷ ms) (length (m ∷ ms) - 1) bs ∙ ap (parts_from (m ∷ ms) 0) left)

pub parts_going : (mark : List ℕ) (b : ℕ) (bs : List ℕ) → behind mark (b ∷ bs) ≡ None → parts_from mark 0 (b ∷ bs) ≡ grown b (parts_from mark 0 bs)
parts_going mark b bs e = rw e refl

uncut : (m : ℕ) (ms text : List ℕ) → cut (m ∷ ms) text ≡ None → parts_from (m ∷ ms) 0 text ≡ text ∷ []
uncut m ms [] e = refl
uncut m ms (b ∷ bs) e =
    let none = or_later_none b (behind (m ∷ ms) (b ∷ bs)) (cut (m ∷ ms) bs) e in
    parts_going (m ∷ ms) b bs none.0 ∙ ap (grown b) (uncut m ms bs none.1)

abbrev Pair : Type 0
Pair = List ℕ × List ℕ

once_by : (m : ℕ) (ms : List ℕ) (b : ℕ) (bs : List ℕ) (here : Option (List ℕ)) (later : Option Pair) (found : Pair)
    → behind (m ∷ ms) (b ∷ bs) ≡ here → cut (m ∷ ms) bs ≡ later → ((more : Pair) → later ≡ Some more → parts_from (m ∷ ms) 0 bs ≡ more.0 ∷ parts_from (m ∷ ms) 0 more.1)
    → or_later b here later ≡ Some found → parts_from (m ∷ ms) 0 (b ∷ bs) ≡ found.0 ∷ parts_from (m ∷ ms) 0 found.1
once_by m ms b bs (Some rest) later found is then_cut further e =
    let same : Path Pair ([], rest) found = some_same {A = Pair} ([], rest) found e in
    parts_begun m ms b bs rest is ∙ ap (λ (p : Pair). p.0 ∷ parts_from (m ∷ ms) 0 p.1) same
once_by m ms b bs None None found is then_cut further e = absurd (none_some found e)
once_by m ms b bs None (Some more) found is then_cut further e =
    let same : Path Pair (b ∷ more.0, more.1) found = some_same {A = Pair} (b ∷ more.0, more.1) found e in
    parts_going (m ∷ ms) b bs is ∙ ap (grown b) (further more refl) ∙ ap (λ (p : Pair). p.0 ∷ parts_from (m ∷ ms) 0 p.1) same

cut_once : (m : ℕ) (ms text : List ℕ) (found : Pair) → cut (m ∷ ms) text ≡ Some found → parts_from (m ∷ ms) 0 text ≡ found.0 ∷ parts_from (m ∷ ms) 0 found.1
cut_once m ms [] found e = absurd (none_some found e)
cut_once m ms (b ∷ bs) found e = once_by m ms b bs (behind (m ∷ ms) (b ∷ bs)) (cut (m ∷ ms) bs) found refl refl (λ more is. cut_once m ms bs more is) e

pub parts_uncut : (m : ℕ) (ms text : List ℕ) → cut (m ∷ ms) text ≡ None → parts (m ∷ ms) text ≡ text ∷ []
unfolding parts
parts_uncut m ms text e = uncut m ms text e

pub parts_cut : (m : ℕ) (ms text front rest : List ℕ) → cut (m ∷ ms) text ≡ Some (front, rest) → parts (m ∷ ms) text ≡ front ∷ parts (m ∷ ms) rest
unfolding parts
parts_cut m ms text front rest e = cut_once m ms text (front, rest) e

-- ---- what a cut text is

is_by : (mark : List ℕ) (b : ℕ) (bs : List ℕ) (here : Option (List ℕ)) (later : Option Pair) (found : Pair)
    → behind mark (b ∷ bs) ≡ here → ((more : Pair) → later ≡ Some more → bs ≡ more.0 ++ (mark ++ more.1))
    → or_later b here later ≡ Some found → b ∷ bs ≡ found.0 ++ (mark ++ found.1)
is_by mark b bs (Some rest) later found is further e =
    behind_is mark (b ∷ bs) rest is ∙ ap (λ (p : Pair). p.0 ++ (mark ++ p.1)) (some_same {A = Pair} ([], rest) found e)
is_by mark b bs None None found is further e = absurd (none_some found e)
is_by mark b bs None (Some more) found is further e =
    ap (λ l. b ∷ l) (further more refl) ∙ ap (λ (p : Pair). p.0 ++ (mark ++ p.1)) (some_same {A = Pair} (b ∷ more.0, more.1) found e)

is_end : (mark : List ℕ) (here : Option (List ℕ)) (found : Pair) → behind mark [] ≡ here → at_end here ≡ Some found → [] ≡ found.0 ++ (mark ++ found.1)
is_end mark None found is e = absurd (none_some found e)
is_end mark (Some rest) found is e = behind_is mark [] rest is ∙ ap (λ (p : Pair). p.0 ++ (mark ++ p.1)) (some_same {A = Pair} ([], rest) found e)

pub cut_is : (mark text : List ℕ) (found : Pair) → cut mark text ≡ Some found → text ≡ found.0 ++ (mark ++ found.1)
cut_is mark [] found e = is_end mark (behind mark []) found refl e
cut_is mark (b ∷ bs) found e = is_by mark b bs (behind mark (b ∷ bs)) (cut mark bs) found refl (λ more is. cut_is mark bs more is) e

-- ---- the first part

pub part_some : (mark text front rest : List ℕ) → has_bytes mark ≡ true → cut mark text ≡ Some (front, rest) → front ∷ parts mark rest ≡ parts mark text
part_some [] text front rest some e = absurd (false≢true some)
part_some (m ∷ ms) text front rest some e = sym (parts_cut m ms text front rest e)

pub part_none : (mark text : List ℕ) → has_bytes mark ≡ true → cut mark text ≡ None → text ∷ [] ≡ parts mark text
part_none [] text some e = absurd (false≢true some)
part_none (m ∷ ms) text some e = sym (parts_uncut m ms text e)

pub part_shorter : (mark text front rest : List ℕ) → has_bytes mark ≡ true → cut mark text ≡ Some (front, rest) → length rest < length text
part_shorter [] text front rest some e = absurd (false≢true some)
part_shorter (m ∷ ms) text front rest some e =
    let whole : length text ≡ length front + length ((m ∷ ms) ++ rest) = ap length (cut_is (m ∷ ms) text (front, rest) e) ∙ length-append front ((m ∷ ms) ++ rest) in
    omega (arith, whole, length-append ms rest)

-- ---- spaces

space_by : (c : Bool) (b : ℕ) (bs : List ℕ) → (b == 32) ≡ c → ((rest : List ℕ) → b ∷ bs ≢ 32 ∷ rest) → (if c then spaces_dropped bs else b ∷ bs) ≡ b ∷ bs
space_by true b bs is lacks = absurd (lacks bs (ap (λ a. a ∷ bs) (eqb-true b 32 is)))
space_by false b bs is lacks = refl

no_space : (s : List ℕ) → ((rest : List ℕ) → s ≢ 32 ∷ rest) → spaces_dropped s ≡ s
no_space [] lacks = refl
no_space (b ∷ bs) lacks = space_by (b == 32) b bs refl lacks

pub no_first_space : (s : List ℕ) → ((rest : List ℕ) → s ≢ encode_utf8 32 ++ rest) → spaces_dropped s ≡ s
no_first_space s lacks = no_space s (λ rest e. lacks rest (e ∙ ap (λ l. l ++ rest) (sym (encode_ascii 32 (lit< tt)))))

pub no_last_space : (s : List ℕ) → ((front : List ℕ) → s ≢ front ++ encode_utf8 32) → spaces_dropped (reverse s) ≡ reverse s
no_last_space s lacks = no_space (reverse s) (λ rest e.
    lacks (reverse rest) (sym (reverse-reverse s) ∙ ap reverse e ∙ reverse-append (32 ∷ []) rest ∙ ap (λ l. reverse rest ++ l) (sym (encode_ascii 32 (lit< tt)))))
