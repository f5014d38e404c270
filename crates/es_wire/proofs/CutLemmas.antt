-- The bytes of a connection are cut into requests in one way.
use Rattle.std.proofs.Common.{◌≡◌, ℕ, ◌⊎◌, inl, inr, Bool, true, false, List, [], ◌∷◌, ◌++◌, length, take, drop, sym, ◌∙◌, ap, subst, refl, append_assoc}
use Rattle.std.specs.List.{flat_map, All}
use Rattle.std.proofs.lemmas.List.{take_at, drop_at}
use Rattle.std.proofs.lemmas.List.Elements.{All-head, All-tail}
use Rattle.httparse.specs.Grammar.{RequestHead}
use Rattle.httparse.proofs.GrammarLemmas.{request_unique}
use Rattle.es_wire.specs.declared.framing.Framing.TheVariants.{Body}
use Rattle.es_wire.specs.Framing.{pairs_of, framing_of, is_last}
use Rattle.es_wire.specs.Requests.{Message, IsMessage, print_message, ReadsMessage, HasNoMessage, ClosesAtEnd, Begins}
use Rattle.es_wire.proofs.MessageLemmas.{reads_head}

-- two fronts of one list that are equally long are equal
same_front : (a b r q : List ℕ) → length a ≡ length b → a ++ r ≡ b ++ q → (a ≡ b) × (r ≡ q)
same_front a b r q len e = (
  sym (take_at a r (length a) refl) ∙ ap (take (length a)) e ∙ take_at b q (length a) (sym len),
  sym (drop_at a r (length a) refl) ∙ ap (drop (length a)) e ∙ drop_at b q (length a) (sym len),
)

-- bytes begin with at most one whole request
pub message_unique : (bytes : List ℕ) (m n : Message) (r q : List ℕ) → ReadsMessage bytes m r → ReadsMessage bytes n q
    → (m ≡ n) × (r ≡ q)
message_unique bytes m n r q x y =
    let head = request_unique bytes m.head n.head (m.body ++ r) (n.body ++ q) (reads_head bytes m r x) (reads_head bytes n q y) in
    let framed : framing_of (pairs_of m.head) ≡ Body (length n.body) = subst (λ (k : RequestHead). framing_of (pairs_of k) ≡ Body (length n.body)) (sym head.0) y.0.framed in
    let first = x.0.framed in
    let len : length m.body ≡ length n.body = cc in
    let rest = same_front m.body n.body r q len head.1 in
    (λ i. record { head = head.0 i; body = rest.0 i }, rest.1)

-- the first of the requests, and what follows it
first_of : (bytes : List ℕ) (m : Message) (ms : List Message) (rest : List ℕ) → bytes ≡ flat_map print_message (m ∷ ms) ++ rest
    → All IsMessage (m ∷ ms) → ReadsMessage bytes m (flat_map print_message ms ++ rest)
first_of bytes m ms rest whole each =
    (All-head IsMessage m ms each, whole ∙ append_assoc (print_message m) (flat_map print_message ms) rest)

-- no request is left behind a cut that is as long as it can be
left_none : (rest : List ℕ) (closed : Bool) → HasNoMessage rest ⊎ (closed ≡ true) → closed ≡ false → HasNoMessage rest
left_none rest closed (inl none) e = none
left_none rest closed (inr is) e = cc

cuts : (ms ns : List Message) (bytes r q : List ℕ) (c d : Bool)
    → bytes ≡ flat_map print_message ms ++ r → All IsMessage ms → ClosesAtEnd c ms → HasNoMessage r ⊎ (c ≡ true)
    → bytes ≡ flat_map print_message ns ++ q → All IsMessage ns → ClosesAtEnd d ns → HasNoMessage q ⊎ (d ≡ true)
    → (ms ≡ ns) × (r ≡ q) × (c ≡ d)
cuts [] [] bytes r q c d w each closes most v each' closes' most' = (refl, sym w ∙ v, closes ∙ sym closes')
cuts [] (n ∷ ns) bytes r q c d w each closes most v each' closes' most' =
    absurd (left_none r c most closes n _ (first_of r n ns q (sym w ∙ v) each'))
cuts (m ∷ ms) [] bytes r q c d w each closes most v each' closes' most' =
    absurd (left_none q d most' closes' m _ (first_of q m ms r (sym v ∙ w) each))
cuts (m ∷ []) (n ∷ []) bytes r q c d w each closes most v each' closes' most' =
    let same = message_unique bytes m n _ _ (first_of bytes m [] r w each) (first_of bytes n [] q v each') in
    (ap (λ (k : Message). k ∷ []) same.0, same.1, sym closes ∙ ap (λ (k : Message). is_last k.head) same.0 ∙ closes')
cuts (m ∷ []) (n ∷ (o ∷ ns)) bytes r q c d w each closes most v each' closes' most' =
    let same = message_unique bytes m n _ _ (first_of bytes m [] r w each) (first_of bytes n (o ∷ ns) q v each') in
    let open_ : c ≡ false = sym closes ∙ ap (λ (k : Message). is_last k.head) same.0 ∙ closes'.0 in
    absurd (left_none r c most open_ o _ (first_of r o ns q same.1 (All-tail IsMessage n (o ∷ ns) each')))
cuts (m ∷ (o ∷ ms)) (n ∷ []) bytes r q c d w each closes most v each' closes' most' =
    let same = message_unique bytes m n _ _ (first_of bytes m (o ∷ ms) r w each) (first_of bytes n [] q v each') in
    let open_ : d ≡ false = sym closes' ∙ ap (λ (k : Message). is_last k.head) (sym same.0) ∙ closes.0 in
    absurd (left_none q d most' open_ o _ (first_of q o ms r (sym same.1) (All-tail IsMessage m (o ∷ ms) each)))
cuts (m ∷ (o ∷ ms)) (n ∷ (p ∷ ns)) bytes r q c d w each closes most v each' closes' most' =
    let same = message_unique bytes m n _ _ (first_of bytes m (o ∷ ms) r w each) (first_of bytes n (p ∷ ns) q v each') in
    let more = cuts (o ∷ ms) (p ∷ ns) (flat_map print_message (o ∷ ms) ++ r) r q c d
    refl (All-tail IsMessage m (o ∷ ms) each) closes.1 most
    same.1 (All-tail IsMessage n (p ∷ ns) each') closes'.1 most' in
    (λ i. same.0 i ∷ more.0 i, more.1, more.2)

-- two cuts of the same bytes that are each as long as they can be are the same cut
pub cut_unique : (bytes : List ℕ) (ms ns : List Message) (rest rest' : List ℕ) (closed closed' : Bool)
    → Begins bytes ms rest closed → HasNoMessage rest ⊎ (closed ≡ true)
    → Begins bytes ns rest' closed' → HasNoMessage rest' ⊎ (closed' ≡ true)
    → (ms ≡ ns) × (rest ≡ rest') × (closed ≡ closed')
cut_unique bytes ms ns rest rest' closed closed' first most second most' =
    cuts ms ns bytes rest rest' closed closed' first.whole first.each first.closes most second.whole second.each second.closes most'
