-- Loops over items and members: what was read, with what is left to read, is what the whole gives.
use Rattle.std.proofs.Common.{◌≡◌, ℕ, ◌+◌, List, [], ◌∷◌, ◌++◌, map, Bool, IsTrue, Result, Ok, refl, ap, subst, take, length, ◌≤◌, ◌&&◌, ◌∙◌}
use Rattle.std.specs.List.{list_all, AllByRecursion}
use Rattle.std.proofs.lemmas.Bool.{and_parts}
use Rattle.std.proofs.lemmas.List.{take_all}
use Rattle.es_tree.specs.declared.tree.Tree.{Tree}
use Rattle.es_tree.specs.declared.tree.Named.{Named}
use Rattle.es_tree.specs.Rising.{name_of, is_rising}
use Rattle.es_grammar.specs.Reading.{◌>>=◌}
use Rattle.es_grammar.specs.Members.{each_of, named}
use Rattle.es_grammar.specs.Printing.{named_tree}
use Rattle.es_grammar.specs.Values.{items_of}

abbrev pub with_front : {A : Type 0} → List A → Result (List A) (List ℕ) → Result (List A) (List ℕ)
with_front front r = r >>= λ xs. Ok (front ++ xs)

-- sound items whose trees read back, one after the other
pub items_back : {A : Type 0} (sound : A → Bool) (form : Tree → Result A (List ℕ)) (print : A → Tree) (xs : List A) → AllByRecursion (λ x. IsTrue (sound x) → form (print x) ≡ Ok x) xs → IsTrue (list_all sound xs) → (n : ℕ) → items_of form n (map print xs) ≡ Ok xs
items_back sound form print [] all s n = refl
items_back sound form print (x ∷ xs) all s n =
    let p = and_parts (sound x) (list_all sound xs) s in
    rw (all.0 p.0, items_back sound form print xs all.1 p.1 (n + 1)) refl

-- the same once a loop has printed each item
pub printed_back : {A : Type 0} (sound : A → Bool) (form : Tree → Result A (List ℕ)) (print : A → Tree) (xs : List A) (i : ℕ) (found : List Tree) → found ≡ map print (take i xs) → AllByRecursion (λ x. IsTrue (sound x) → form (print x) ≡ Ok x) (take i xs) → length xs ≤ i → IsTrue (list_all sound xs) → items_of form 0 found ≡ Ok xs
printed_back sound form print xs i found e all end s =
    let whole : take i xs ≡ xs = take_all i xs end in
    rw (e, whole) (items_back sound form print xs (subst (AllByRecursion (λ x. IsTrue (sound x) → form (print x) ≡ Ok x)) whole all) s 0)

names_printed : {A : Type 0} (print : A → Tree) (ms : List (Named A)) → map name_of (map (named_tree print) ms) ≡ map name_of ms
names_printed print [] = refl
names_printed print (m ∷ ms) = ap (λ names. m.name ∷ names) (names_printed print ms)

-- printing changes no name
pub printed_rising : {A : Type 0} (print : A → Tree) (ms items : List (Named A)) (i : ℕ) (found : List (Named Tree)) → items ≡ ms → found ≡ map (named_tree print) (take i items) → length items ≤ i → IsTrue (is_rising (map name_of ms)) → IsTrue (is_rising (map name_of found))
printed_rising print ms items i found same e end rising =
    let whole : take i items ≡ ms = take_all i items end ∙ same in
    ap (λ names. is_rising names) (ap (map name_of) e ∙ ap (λ ns. map name_of (map (named_tree print) ns)) whole ∙ names_printed print ms) ∙ rising

-- sound named values whose trees read back, one after the other
members_back : {A : Type 0} (permits : List ℕ → Bool) (sound : A → Bool) (form : Tree → Result A (List ℕ)) (print : A → Tree) (ms : List (Named A)) → AllByRecursion (λ m. IsTrue (sound m.value) → form (print m.value) ≡ Ok m.value) ms → IsTrue (list_all (λ m. permits m.name && sound m.value) ms) → each_of (named permits form) (map (named_tree print) ms) ≡ Ok ms
members_back permits sound form print [] all s = refl
members_back permits sound form print (m ∷ ms) all s =
    let p = and_parts (permits m.name && sound m.value) (list_all (λ m. permits m.name && sound m.value) ms) s in
    let q = and_parts (permits m.name) (sound m.value) p.0 in
    rw (q.0, all.0 q.1, members_back permits sound form print ms all.1 p.1) refl

pub entries_back : {A : Type 0} (permits : List ℕ → Bool) (sound : A → Bool) (form : Tree → Result A (List ℕ)) (print : A → Tree) (ms items : List (Named A)) (i : ℕ) (found : List (Named Tree)) → items ≡ ms → found ≡ map (named_tree print) (take i items) → AllByRecursion (λ m. IsTrue (sound m.value) → form (print m.value) ≡ Ok m.value) (take i items) → length items ≤ i → IsTrue (list_all (λ m. permits m.name && sound m.value) ms) → each_of (named permits form) found ≡ Ok ms
entries_back permits sound form print ms items i found same e all end s =
    let whole : take i items ≡ ms = take_all i items end ∙ same in
    rw (e, whole) (members_back permits sound form print ms (subst (AllByRecursion (λ m. IsTrue (sound m.value) → form (print m.value) ≡ Ok m.value)) whole all) s)
