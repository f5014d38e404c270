-- What is legal in a list of entries stays so in one that goes on.
use Rattle.std.proofs.Common.{◌≡◌, ℕ, ◌+◌, ◌-◌, ◌<◌, ◌≤◌, Bool, true, false, List, [], ◌∷◌, ◌++◌, length, take, Option, None, sym, ◌∙◌, ap, subst, refl, arith, slice_get, IsSome, cond, length-append, zero, suc}
use Rattle.std.proofs.lemmas.List.{take-append-le}
use Rattle.es_journal.specs.Journal.{Told, seen_by, added_by, told_at, IsLegalCall}

get_front : {X : Type 0} (xs ys : List X) (i : ℕ) → i < length xs → slice_get (xs ++ ys) i ≡ slice_get xs i
get_front [] ys i lt = absurd (omega arith)
get_front (x ∷ xs) ys zero lt = refl
get_front (x ∷ xs) ys (suc i) lt = get_front xs ys i (omega arith)

module _ {X : Type 0} (J E : List X) (place : ℕ) where
  seen_same : (changed : Bool) → place ≤ length J → seen_by (J ++ E) place changed ≡ seen_by J place changed
  seen_same true le = take-append-le (place - 1) J E (omega arith)
  seen_same false le = take-append-le place J E le

  added_same : (changed : Bool) → 0 < place → place ≤ length J → added_by (J ++ E) place changed ≡ added_by J place changed
  added_same true lt le = get_front J E (place - 1) (omega arith)
  added_same false lt le = refl

module _ {Reply Entry Call : Type 0} (answer : List Entry → Call → Told Reply Entry) (J E : List Entry) (call : Call) (place : ℕ) (changed : Bool) where
  -- the call was told the same
  pub told-grow : place ≤ length J → told_at answer (J ++ E) call place changed ≡ told_at answer J call place changed
  unfolding told_at
  told-grow le = ap (λ (K : List Entry). answer K call) (seen_same J E place changed le)

  pub IsLegalCall-grow : IsLegalCall answer J call place changed → IsLegalCall answer (J ++ E) call place changed
  IsLegalCall-grow legal =
      let to = legal.to in
      let added : added_by (J ++ E) place changed ≡ added_by J place changed = added_same J E place changed legal.from legal.to in
      let long : length (J ++ E) ≡ length J + length E = length-append J E in
      record {
        from = legal.from;
        to = omega arith;
        entry = ap (λ (t : Told Reply Entry). t.entry) (told-grow legal.to) ∙ legal.entry ∙ sym added;
        stands = λ t. subst IsSome (sym added) (legal.stands t);
      }
