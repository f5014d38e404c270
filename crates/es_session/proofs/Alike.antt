-- Connections that are alone on like nodes, are sent the same requests and are given the same, are answered alike.
use Rattle.std.proofs.Common.{◌≡◌, ℕ, ◌+◌, ◌-◌, ◌<◌, ◌≤◌, Bool, true, false, List, [], ◌∷◌, ◌++◌, length, take, map, Option, Some, None, slice_get, is_some, IsTrue, IsSome, refl, sym, ◌∙◌, ap, ap₂, subst, arith, cond, zero, suc}
use Rattle.std.specs.List.{flat_map}
use Rattle.std.proofs.lemmas.List.{take_all}
use Rattle.std.proofs.Math.Seq.{take-append_seam}
use Rattle.es_edge.specs.declared.chance.Draw.{Draw}
use Rattle.es_journal.specs.Journal.{Told, told_at, seen_by, added_by}
use Rattle.es_response.specs.Reply.{ReplyValue}
use Rattle.es_wire.specs.declared.receipt.Receipt.{Receipt}
use Rattle.es_wire.specs.Requests.{Message, raw_of}
use Rattle.es_session.specs.Node.{Node, Given}
use Rattle.es_session.specs.Legal.{given_of, IsLegal, AllLegal, AllAnswered, HasCountedPlaces, change_of, changes, joined}
use Rattle.es_session.specs.State.{State}
use Rattle.es_session.specs.Session.{Answers, IsAlone}
use Rattle.es_session.proofs.Counting.{places_count}

grown_take : {X : Type 0} (J : List X) (p : ℕ) (e : X) → slice_get J p ≡ Some e → take (suc p) J ≡ take p J ++ (e ∷ [])
grown_take [] p e h = cc
grown_take (x ∷ J) zero e h = cc
grown_take (x ∷ J) (suc p) e h = ap (λ (xs : List _). x ∷ xs) (grown_take J p e h)

none_is : {X A : Type 0} (o : Option X) → o ≡ None → IsSome o → A
none_is o e some = cc

module _ {X : Type 0} (J K : List X) (p : ℕ) (same : take p J ≡ take p K) where
  entry_same : (o : Option X) → slice_get J p ≡ o → slice_get K p ≡ o → IsSome o → take (suc p) J ≡ take (suc p) K
  entry_same None e f some = cc
  entry_same (Some x) e f some = grown_take J p x e ∙ ap (λ (xs : List X). xs ++ (x ∷ [])) same ∙ sym (grown_take K p x f)

  -- the entry tells whether there was a change, and both lists go on alike
  same_change : (b c : Bool) (place other : ℕ) → place ≡ p + cond b 1 0 → other ≡ p + cond c 1 0
      → (IsTrue b → IsSome (added_by J place b)) → (IsTrue c → IsSome (added_by K other c))
      → added_by J place b ≡ added_by K other c → (b ≡ c) × (take place J ≡ take place K)
  same_change true true place other e f some some' h =
      let at : place ≡ suc p = omega arith in
      let before : place - 1 ≡ p = omega arith in
      let before' : other - 1 ≡ p = omega arith in
      let first : slice_get J p ≡ slice_get J (place - 1) = ap (slice_get J) (sym before) in
      let second : slice_get K p ≡ slice_get J (place - 1) = ap (slice_get K) (sym before') ∙ sym h in
      (refl, rw at (entry_same (slice_get J (place - 1)) first second (some refl)))
  same_change true false place other e f some some' h = none_is (added_by J place true) h (some refl)
  same_change false true place other e f some some' h = none_is (added_by K other true) (sym h) (some' refl)
  same_change false false place other e f some some' h = let at : place ≡ p = omega arith in (refl, rw at same)

seen_is : {X : Type 0} (J : List X) (p place : ℕ) (b : Bool) → place ≡ p + cond b 1 0 → seen_by J place b ≡ take p J
seen_is J p place true e = let at : place - 1 ≡ p = omega arith in ap (λ (n : ℕ). take n J) at
seen_is J p place false e = let at : place ≡ p = omega arith in ap (λ (n : ℕ). take n J) at

told_is : (N : Node) (J : List N.Entry) (p : ℕ) (call : N.Call) (place : ℕ) (b : Bool) → place ≡ p + cond b 1 0 → told_at N.answer J call place b ≡ N.answer (take p J) call
unfolding told_at
told_is N J p call place b e = ap (λ (K : List N.Entry). N.answer K call) (seen_is J p place b e)

module _ (N : Node) (J K : List N.Entry) where
  -- one call
  receipt_same : (p : ℕ) (call : Given → N.Call) (r q : Receipt) → take p J ≡ take p K → IsLegal N J call r → IsLegal N K call q → given_of r ≡ given_of q
      → r.place ≡ p + change_of r → q.place ≡ p + change_of q → (r ≡ q) × (take r.place J ≡ take r.place K)
  receipt_same p call r q same legal other given e f =
      let first : (N.answer (take p J) (call (given_of r))).entry ≡ added_by J r.place r.changed =
      ap (λ (t : Told ReplyValue N.Entry). t.entry) (sym (told_is N J p (call (given_of r)) r.place r.changed e)) ∙ legal.legal.entry in
      let second : (N.answer (take p K) (call (given_of q))).entry ≡ added_by K q.place q.changed =
      ap (λ (t : Told ReplyValue N.Entry). t.entry) (sym (told_is N K p (call (given_of q)) q.place q.changed f)) ∙ other.legal.entry in
      let told : (N.answer (take p J) (call (given_of r))).entry ≡ (N.answer (take p K) (call (given_of q))).entry =
      ap₂ (λ (L : List N.Entry) (g : Given). (N.answer L (call g)).entry) same given in
      let change = same_change J K p same r.changed q.changed r.place q.place e f legal.legal.stands other.legal.stands (sym first ∙ told ∙ second) in
      let place : r.place ≡ q.place = e ∙ ap (λ (b : Bool). p + cond b 1 0) change.0 ∙ sym f in
      let moment : r.moment ≡ q.moment = ap (λ (g : Given). g.moment) given in
      let draw : r.draw ≡ q.draw = ap (λ (g : Given). g.draw) given in
      (λ i. record { place = place i; moment = moment i; changed = change.0 i; draw = draw i }, change.1)

  tails : {A : Type 0} {x y : A} {xs ys : List A} → (x ∷ xs) ≡ (y ∷ ys) → (x ≡ y) × (xs ≡ ys)
  tails e = (cc, cc)

  receipts_same : (calls : List (Given → N.Call)) (rs qs : List Receipt) (p : ℕ) → take p J ≡ take p K → AllLegal N J calls rs → AllLegal N K calls qs
      → map given_of rs ≡ map given_of qs → HasCountedPlaces p rs → HasCountedPlaces p qs
      → (rs ≡ qs) × (take (p + changes rs) J ≡ take (p + changes rs) K)
  receipts_same [] [] [] p same legal other given counted counted' = let at : p + 0 ≡ p = omega arith in (refl, rw at same)
  receipts_same [] (r ∷ rs) qs p same legal other given counted counted' = absurd legal
  receipts_same [] [] (q ∷ qs) p same legal other given counted counted' = absurd other
  receipts_same (call ∷ calls) [] qs p same legal other given counted counted' = absurd legal
  receipts_same (call ∷ calls) (r ∷ rs) [] p same legal other given counted counted' = absurd other
  receipts_same (call ∷ calls) (r ∷ rs) (q ∷ qs) p same legal other given counted counted' =
      let parts = tails given in
      let one = receipt_same p call r q same legal.0 other.0 parts.0 counted.0 counted'.0 in
      let there : q.place ≡ r.place = ap (λ (x : Receipt). x.place) (sym one.0) in
      let rest = receipts_same calls rs qs r.place one.1 legal.1 other.1 parts.1 counted.1 (subst (λ (n : ℕ). HasCountedPlaces n qs) there counted'.1) in
      let first : r.place ≡ p + change_of r = counted.0 in
      let at : p + (change_of r + changes rs) ≡ r.place + changes rs = omega arith in
      (ap₂ (λ (x : Receipt) (xs : List Receipt). x ∷ xs) one.0 rest.0, rw at rest.1)

  legal_append : (calls more : List (Given → N.Call)) (rs qs : List Receipt) → AllLegal N J calls rs → AllLegal N J more qs → AllLegal N J (calls ++ more) (rs ++ qs)
  legal_append [] more [] qs a b = b
  legal_append (call ∷ calls) more (r ∷ rs) qs a b = (a.0, legal_append calls more rs qs a.1 b)
  legal_append [] more (r ∷ rs) qs a b = absurd a
  legal_append (call ∷ calls) more [] qs a b = absurd a

all_legal : (N : Node) (caller : ℕ) (J : List N.Entry) (ms : List Message) (gs : List (List Receipt)) → AllAnswered N caller J ms gs → AllLegal N J (flat_map (λ m. N.calls_of caller (raw_of m)) ms) (joined gs)
all_legal N caller J [] [] answered = tt
all_legal N caller J (m ∷ ms) (rs ∷ gs) answered =
    legal_append N J J (N.calls_of caller (raw_of m)) (flat_map (λ m. N.calls_of caller (raw_of m)) ms) rs (joined gs) answered.0 (all_legal N caller J ms gs answered.1)
all_legal N caller J [] (rs ∷ gs) answered = absurd answered
all_legal N caller J (m ∷ ms) [] answered = absurd answered

changes-append : (rs qs : List Receipt) → changes (rs ++ qs) ≡ changes rs + changes qs
changes-append [] qs = omega arith
changes-append (r ∷ rs) qs = let more = changes-append rs qs in omega arith

module _ {N : Node} {caller : ℕ} {clock : Option ℕ} {closed : Bool} {a b : State N.Entry} {read : List ℕ} {ms : List Message} {gs : List (List Receipt)} where
  grew : Answers N caller clock closed a b read ms gs → IsAlone a.journal b.journal a.receipts b.receipts → length b.journal ≡ length a.journal + changes (joined gs)
  grew answers alone =
      let all : changes b.receipts ≡ changes a.receipts + changes (joined gs) = ap changes answers.receipts ∙ changes-append a.receipts (joined gs) in
      omega arith

  counted : Answers N caller clock closed a b read ms gs → IsAlone a.journal b.journal a.receipts b.receipts → HasCountedPlaces (length a.journal) (joined gs)
  counted answers alone = places_count (length a.journal) (length b.journal) (joined gs) answers.ascends (grew answers alone)

  front : Answers N caller clock closed a b read ms gs → take (length a.journal) b.journal ≡ a.journal
  front answers = ap (take (length a.journal)) answers.journal ∙ take-append_seam a.journal answers.entries

-- the same requests, moments and draws, from the same state on: the same receipts, and the same journal
pub same_answers :
    {N : Node} {caller : ℕ} {clock clock' : Option ℕ} {closed closed' : Bool} {a b c : State N.Entry} {read read' : List ℕ} {ms : List Message} {gs hs : List (List Receipt)}
    → Answers N caller clock closed a b read ms gs → Answers N caller clock' closed' a c read' ms hs
    → IsAlone a.journal b.journal a.receipts b.receipts → IsAlone a.journal c.journal a.receipts c.receipts
    → map given_of (joined gs) ≡ map given_of (joined hs) → (b.receipts ≡ c.receipts) × (b.journal ≡ c.journal)
same_answers {N} {caller} {clock} {clock'} {closed} {closed'} {a} {b} {c} {read} {read'} {ms} {gs} {hs} one other alone alone' given =
    let same = receipts_same N b.journal c.journal (flat_map (λ m. N.calls_of caller (raw_of m)) ms) (joined gs) (joined hs) (length a.journal)
    (front one ∙ sym (front other)) (all_legal N caller b.journal ms gs one.answered) (all_legal N caller c.journal ms hs other.answered) given (counted one alone) (counted other alone') in
    let first : length b.journal ≡ length a.journal + changes (joined gs) = grew one alone in
    let second : length c.journal ≡ length a.journal + changes (joined gs) = grew other alone' ∙ ap (λ (rs : List Receipt). length a.journal + changes rs) (sym same.0) in (
      one.receipts ∙ ap (λ (rs : List Receipt). a.receipts ++ rs) same.0 ∙ sym other.receipts,
      sym (take_all (length a.journal + changes (joined gs)) b.journal (omega arith)) ∙ same.1 ∙ take_all (length a.journal + changes (joined gs)) c.journal (omega arith),
    )
