-- What holds in a journal holds in one that goes on.
use Rattle.std.proofs.Common.{◌≡◌, ℕ, ◌≤◌, Bool, true, false, List, [], ◌∷◌, ◌++◌, length, Option, ◌∙◌, ap, ap₂, refl, arith, cond, suc}
use Rattle.std.specs.List.{flat_map}
use Rattle.std.proofs.lemmas.Grind.{flat_map-append}
use Rattle.es_edge.specs.declared.chance.Draw.{Draw}
use Rattle.es_journal.specs.Journal.{Told, told_at, IsLegalCall}
use Rattle.es_journal.proofs.Growing.{told-grow, IsLegalCall-grow}
use Rattle.es_response.specs.Reply.{ReplyValue, response}
use Rattle.es_wire.specs.declared.receipt.Receipt.{Receipt}
use Rattle.es_wire.specs.declared.request.RawRequest.{RawRequest}
use Rattle.es_wire.specs.Requests.{Message, raw_of}
use Rattle.es_session.specs.Node.{Node, Given, Placed}
use Rattle.es_session.specs.Legal.{given_of, IsLegal, AllLegal, AllAnswered, placed_at, all_placed, response_at, responses, joined, Ascends, AllHaveMoments, drawn_for, is_drawn}

module _ (N : Node) (J E : List N.Entry) where
  IsLegal-grow : (call : Given → N.Call) (r : Receipt) → IsLegal N J call r → IsLegal N (J ++ E) call r
  IsLegal-grow call r legal = record {
    legal = IsLegalCall-grow N.answer J E (call (given_of r)) r.place r.changed legal.legal;
    drawn = legal.drawn;
  }

  AllLegal-grow : (calls : List (Given → N.Call)) (rs : List Receipt) → AllLegal N J calls rs → AllLegal N (J ++ E) calls rs
  AllLegal-grow [] [] legal = tt
  AllLegal-grow (call ∷ calls) (r ∷ rs) legal = (IsLegal-grow call r legal.0, AllLegal-grow calls rs legal.1)
  AllLegal-grow [] (r ∷ rs) legal = legal
  AllLegal-grow (call ∷ calls) [] legal = legal

  placed-grow : (call : Given → N.Call) (r : Receipt) → r.place ≤ length J → placed_at N (J ++ E) call r ≡ placed_at N J call r
  placed-grow call r le =
      ap (λ (t : Told ReplyValue N.Entry). record { reply = t.reply; place = r.place }) (told-grow N.answer J E (call (given_of r)) r.place r.changed le)

  all_placed-grow : (calls : List (Given → N.Call)) (rs : List Receipt) → AllLegal N J calls rs → all_placed N (J ++ E) calls rs ≡ all_placed N J calls rs
  all_placed-grow [] [] legal = refl
  all_placed-grow (call ∷ calls) (r ∷ rs) legal =
      ap₂ (λ (p : Placed) (ps : List Placed). p ∷ ps) (placed-grow call r legal.0.legal.to) (all_placed-grow calls rs legal.1)
  all_placed-grow [] (r ∷ rs) legal = refl
  all_placed-grow (call ∷ calls) [] legal = refl

-- each call has one receipt
pub AllLegal-length : (N : Node) (J : List N.Entry) (calls : List (Given → N.Call)) (rs : List Receipt) → AllLegal N J calls rs → length rs ≡ length calls
AllLegal-length N J [] [] legal = refl
AllLegal-length N J (call ∷ calls) (r ∷ rs) legal = ap suc (AllLegal-length N J calls rs legal.1)
AllLegal-length N J [] (r ∷ rs) legal = absurd legal
AllLegal-length N J (call ∷ calls) [] legal = absurd legal

module _ (N : Node) (caller : ℕ) where
  response-grow : (J E : List N.Entry) (raw : RawRequest) (rs : List Receipt) → AllLegal N J (N.calls_of caller raw) rs
      → response_at N caller (J ++ E) raw rs ≡ response_at N caller J raw rs
  response-grow J E raw rs legal = rw (all_placed-grow N J E (N.calls_of caller raw) rs legal) refl

  pub AllAnswered-grow : (J E : List N.Entry) (ms : List Message) (groups : List (List Receipt)) → AllAnswered N caller J ms groups → AllAnswered N caller (J ++ E) ms groups
  AllAnswered-grow J E [] [] legal = tt
  AllAnswered-grow J E (m ∷ ms) (rs ∷ groups) legal = (AllLegal-grow N J E (N.calls_of caller (raw_of m)) rs legal.0, AllAnswered-grow J E ms groups legal.1)
  AllAnswered-grow J E [] (rs ∷ groups) legal = legal
  AllAnswered-grow J E (m ∷ ms) [] legal = legal

  pub responses-grow : (J E : List N.Entry) (ms : List Message) (groups : List (List Receipt)) → AllAnswered N caller J ms groups
      → responses N caller (J ++ E) ms groups ≡ responses N caller J ms groups
  responses-grow J E [] [] legal = refl
  responses-grow J E (m ∷ ms) (rs ∷ groups) legal =
      ap₂ (λ (t : List ℕ) (ts : List (List ℕ)). t ∷ ts) (response-grow J E (raw_of m) rs legal.0) (responses-grow J E ms groups legal.1)
  responses-grow J E [] (rs ∷ groups) legal = absurd legal
  responses-grow J E (m ∷ ms) [] legal = absurd legal

  pub AllAnswered-append : (J : List N.Entry) (ms ns : List Message) (gs hs : List (List Receipt)) → AllAnswered N caller J ms gs → AllAnswered N caller J ns hs
      → AllAnswered N caller J (ms ++ ns) (gs ++ hs)
  AllAnswered-append J [] ns [] hs a b = b
  AllAnswered-append J (m ∷ ms) ns (rs ∷ gs) hs a b = (a.0, AllAnswered-append J ms ns gs hs a.1 b)
  AllAnswered-append J [] ns (rs ∷ gs) hs a b = absurd a
  AllAnswered-append J (m ∷ ms) ns [] hs a b = absurd a

  pub responses-append : (J : List N.Entry) (ms ns : List Message) (gs hs : List (List Receipt)) → AllAnswered N caller J ms gs
      → responses N caller J (ms ++ ns) (gs ++ hs) ≡ responses N caller J ms gs ++ responses N caller J ns hs
  responses-append J [] ns [] hs a = refl
  responses-append J (m ∷ ms) ns (rs ∷ gs) hs a =
      ap (λ (texts : List (List ℕ)). response_at N caller J (raw_of m) rs ∷ texts) (responses-append J ms ns gs hs a.1)
  responses-append J [] ns (rs ∷ gs) hs a = absurd a
  responses-append J (m ∷ ms) ns [] hs a = absurd a

Ascends-from : (a b c : ℕ) (rs : List Receipt) → a ≤ b → Ascends b c rs → Ascends a c rs
Ascends-from a b c [] le up = omega arith
Ascends-from a b c (r ∷ rs) le up = let x = up.0 in (omega arith, λ t. (let y = up.1 t in omega arith), up.2)

pub Ascends-append : (a b c : ℕ) (rs qs : List Receipt) → Ascends a b rs → Ascends b c qs → Ascends a c (rs ++ qs)
Ascends-append a b c [] qs first second = Ascends-from a b c qs first second
Ascends-append a b c (r ∷ rs) qs first second = (first.0, first.1, Ascends-append r.place b c rs qs first.2 second)

pub AllHaveMoments-append : (clock : Option ℕ) (rs qs : List Receipt) → AllHaveMoments clock rs → AllHaveMoments clock qs → AllHaveMoments clock (rs ++ qs)
AllHaveMoments-append clock [] qs first second = second
AllHaveMoments-append clock (r ∷ rs) qs first second = (first.0, AllHaveMoments-append clock rs qs first.1 second)

pub joined-append : {A : Type 0} (xs ys : List (List A)) → joined (xs ++ ys) ≡ joined xs ++ joined ys
joined-append xs ys = flat_map-append (λ list. list) xs ys

drawn_then : (b : Bool) (d : Draw) (all front back : List Draw) → all ≡ front ++ back → cond b (d ∷ all) all ≡ cond b (d ∷ front) front ++ back
drawn_then true d all front back e = ap (λ (ds : List Draw). d ∷ ds) e
drawn_then false d all front back e = e

pub drawn-append : (rs qs : List Receipt) → drawn_for (rs ++ qs) ≡ drawn_for rs ++ drawn_for qs
drawn-append [] qs = refl
drawn-append (r ∷ rs) qs = drawn_then (is_drawn r.draw) r.draw (drawn_for (rs ++ qs)) (drawn_for rs) (drawn_for qs) (drawn-append rs qs)
