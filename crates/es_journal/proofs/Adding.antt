-- A call that is answered now is legal in the list to which its entry was added.
use Rattle.std.proofs.Common.{◌≡◌, ℕ, ◌+◌, ◌-◌, ◌<◌, ◌≤◌, Bool, true, false, List, [], ◌∷◌, ◌++◌, length, take, Option, Some, None, sym, ◌∙◌, ap, subst, refl, arith, append-nil, slice_get, IsTrue, IsSome, is_some, length-append}
use Rattle.std.proofs.lemmas.List.{take_at}
use Rattle.es_journal.specs.Journal.{Told, seen_by, added_by, told_at, IsLegalCall}

get_last : {X : Type 0} (xs : List X) (x : X) → slice_get (xs ++ x ∷ []) (length xs) ≡ Some x
get_last [] x = refl
get_last (y ∷ xs) x = get_last xs x

-- the entry as a list of none or one
abbrev pub entry_list : {X : Type 0} → Option X → List X
entry_list None = []
entry_list (Some e) = e ∷ []

seen_now : {X : Type 0} (J : List X) (o : Option X) → seen_by (J ++ entry_list o) (length (J ++ entry_list o)) (is_some o) ≡ J
seen_now J None = ap (λ (n : ℕ). take n (J ++ [])) (ap length (append-nil J)) ∙ take_at J [] (length J) refl
seen_now J (Some e) =
    let n : length (J ++ e ∷ []) - 1 ≡ length J = omega (arith, length-append J (e ∷ [])) in
    ap (λ (k : ℕ). take k (J ++ e ∷ [])) n ∙ take_at J (e ∷ []) (length J) refl

added_now : {X : Type 0} (J : List X) (o : Option X) → added_by (J ++ entry_list o) (length (J ++ entry_list o)) (is_some o) ≡ o
added_now J None = refl
added_now J (Some e) =
    let n : length (J ++ e ∷ []) - 1 ≡ length J = omega (arith, length-append J (e ∷ [])) in
    ap (slice_get (J ++ e ∷ [])) n ∙ get_last J e

is_some_from : {X : Type 0} (o : Option X) → IsTrue (is_some o) → IsSome o
is_some_from None t = cc
is_some_from (Some e) t = refl

module _ {Reply Entry Call : Type 0} (answer : List Entry → Call → Told Reply Entry) (J : List Entry) (call : Call) (o : Option Entry) where
  -- what it is told in that list is what it was told
  pub told_now : told_at answer (J ++ entry_list o) call (length (J ++ entry_list o)) (is_some o) ≡ answer J call
  unfolding told_at
  told_now = ap (λ (K : List Entry). answer K call) (seen_now J o)

  pub legal_now : (answer J call).entry ≡ o → 0 < length (J ++ entry_list o) → IsLegalCall answer (J ++ entry_list o) call (length (J ++ entry_list o)) (is_some o)
  legal_now e lt = record {
    from = lt;
    to = omega arith;
    entry = ap (λ (t : Told Reply Entry). t.entry) told_now ∙ e ∙ sym (added_now J o);
    stands = λ t. subst IsSome (sym (added_now J o)) (is_some_from o t);
  }
