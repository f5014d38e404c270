-- Members that were read: their names stay.
use Rattle.std.proofs.Common.{◌≡◌, ℕ, ◌≤◌, List, [], ◌∷◌, ◌++◌, map, drop, length, Bool, true, false, Result, Ok, Err, IsTrue, is_ok, refl, sym, ap, ◌∙◌, append-nil}
use Rattle.std.specs.Prelude.{if◌then◌else◌, is_some}
use Rattle.std.proofs.lemmas.Bool.{false≢true}
use Rattle.std.proofs.lemmas.List.{drop_all}
use Rattle.es_tree.specs.declared.tree.Tree.{Tree}
use Rattle.es_tree.specs.declared.tree.Named.{Named}
use Rattle.es_tree.specs.Rising.{name_of, is_rising}
use Rattle.es_grammar.specs.Reading.{◌>>=◌, below}
use Rattle.es_grammar.proofs.Fronts.{with_front}
use Rattle.es_template.specs.declared.kinds.Template.{Template}
use Rattle.es_template.specs.Marks.{cut}
use Rattle.es_template.specs.Tags.{opening}
use Rattle.es_template.specs.Sources.{member_form, members_form, member_reading}

abbrev ok : {A : Type 0} → A → Result A (List ℕ)
ok x = Ok x

pub ok_same : {A : Type 0} (x y : A) → ok x ≡ ok y → x ≡ y
ok_same x y e = cc e

pub err_ok : {A : Type 0} (p : List ℕ) (x : A) → Err p ≡ Ok x → ⊥
err_ok p x e = false≢true (ap is_ok e)

-- ---- one member

pub record OneRead {A : Type 0} (name : List ℕ) (r : Result A (List ℕ)) (m : Named A) : Type 0 where
  pub free : is_some (cut opening name) ≡ false
  pub same : m.name ≡ name
  pub value : r ≡ Ok m.value

read_by : {A : Type 0} (c : Bool) (name : List ℕ) (r : Result A (List ℕ)) (m : Named A) → is_some (cut opening name) ≡ c
    → (below name (if c then Err [] else Ok name) >>= λ n. below name r >>= λ v. Ok (record { name = n; value = v })) ≡ Ok m → OneRead name r m
read_by true name r m is e = absurd (err_ok _ m e)
read_by false name (Err p) m is e = absurd (err_ok _ m e)
read_by {A} false name (Ok v) m is e =
    let same : Path (Named A) (record { name = name; value = v }) m = ok_same _ m e in
    record { free = is; same = ap (λ (n : Named A). n.name) (sym same); value = ap (λ (n : Named A). Ok n.value) same }

pub one_read : {A : Type 0} (r : Named (Result A (List ℕ))) (m : Named A) → member_form r ≡ Ok m → OneRead r.name r.value m
one_read r m e = read_by (is_some (cut opening r.name)) r.name r.value m refl e

-- ---- all members

pub record FirstRead {A : Type 0} (r : Named (Result A (List ℕ))) (rs : List (Named (Result A (List ℕ)))) (xs : List (Named A)) : Type 0 where
  pub first : Named A
  pub later : List (Named A)
  pub are : xs ≡ first ∷ later
  pub first_is : member_form r ≡ Ok first
  pub later_are : members_form rs ≡ Ok later

first_by : {A : Type 0} (r : Named (Result A (List ℕ))) (rs : List (Named (Result A (List ℕ)))) (xs : List (Named A)) (one : Result (Named A) (List ℕ)) (all : Result (List (Named A)) (List ℕ))
    → member_form r ≡ one → members_form rs ≡ all → (one >>= λ first. all >>= λ later. Ok (first ∷ later)) ≡ Ok xs → FirstRead r rs xs
first_by r rs xs (Err p) all o a e = absurd (err_ok _ xs e)
first_by r rs xs (Ok first) (Err p) o a e = absurd (err_ok _ xs e)
first_by r rs xs (Ok first) (Ok later) o a e = record { first = first; later = later; are = sym (ok_same _ xs e); first_is = o; later_are = a }

pub first_read : {A : Type 0} (r : Named (Result A (List ℕ))) (rs : List (Named (Result A (List ℕ)))) (xs : List (Named A)) → members_form (r ∷ rs) ≡ Ok xs → FirstRead r rs xs
first_read r rs xs e = first_by r rs xs (member_form r) (members_form rs) refl refl e

pub names_read : {A : Type 0} (rs : List (Named (Result A (List ℕ)))) (xs : List (Named A)) → members_form rs ≡ Ok xs → map name_of xs ≡ map name_of rs
names_read [] xs e = ap (map name_of) (sym (ok_same [] xs e))
names_read (r ∷ rs) xs e =
    let f = first_read r rs xs e in
    ap (map name_of) f.are ∙ (λ k. (one_read r f.first f.first_is).same k ∷ names_read rs f.later f.later_are k)

names_kept : (ms : List (Named Tree)) → map name_of (map member_reading ms) ≡ map name_of ms
names_kept [] = refl
names_kept (m ∷ ms) = ap (λ names. m.name ∷ names) (names_kept ms)

pub rising_read : (ms items : List (Named Tree)) (i : ℕ) (found : List (Named Template)) → with_front found (members_form (map member_reading (drop i items))) ≡ members_form (map member_reading ms) → length items ≤ i → IsTrue (is_rising (map name_of ms)) → IsTrue (is_rising (map name_of found))
rising_read ms items i found e end rising =
    let none : drop i items ≡ [] = drop_all i items end in
    let whole : Ok (found ++ []) ≡ members_form (map member_reading ms) = ap (λ rest. with_front found (members_form (map member_reading rest))) (sym none) ∙ e in
    let read : members_form (map member_reading ms) ≡ Ok found = sym whole ∙ ap Ok (append-nil found) in
    ap is_rising (names_read (map member_reading ms) found read ∙ names_kept ms) ∙ rising
