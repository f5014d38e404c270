-- The lines of a grammar follow the table of their names and forms.
use Rattle.std.proofs.Common.{◌≡◌, ℕ, List, [], ◌∷◌, map, Bool, true, false, ◌&&◌, Option, Some, None, Result, Ok, Err, nat_cmp, Ordering, Less, Equal, Greater, pos, codes, refl, sym, ap, ap₂, ◌∙◌, subst}
use Rattle.std.specs.List.{list_all, AllByRecursion}
use Rattle.std.specs.Ordering.{is_lt}
use Rattle.std.specs.Cmp.Lexicographic.{slice_cmp}
use Rattle.std.proofs.lemmas.Bool.{and_parts}
use Rattle.es_tree.specs.declared.tree.Tree.{Tree}
use Rattle.es_tree.specs.declared.tree.Named.{Named}
use Rattle.es_tree.specs.Rising.{name_of, is_before, is_rising}
use Rattle.es_tree.proofs.Names.{all_before, after_other, before_other, same_name, same_bytes, turned}
use Rattle.es_grammar.specs.Reading.{below, place_below, if_holds}
use Rattle.es_grammar.specs.Reading.{◌>>=◌ as ◌then◌}
use Rattle.es_grammar.specs.Values.{text_form, whole_form}
use Rattle.es_grammar.specs.Members.{next_by, inside, each_of}
use Rattle.es_grammar.specs.Grammar.{◌>>=◌, member, no_more, required, means, means_where, object}
use Rattle.es_grammar.specs.Rule.{fits, Table, row, in_table, FaultsHere, Agrees, Follows, ObjectFollows, sample_form, sample_table}
use Rattle.es_grammar.proofs.Back.{members_of-Object}

abbrev pub Lines : Type 0 → Type 0
Lines A = List (Named Tree) → Result (A × List (Named Tree)) (List ℕ)

same_each : {A : Type 0} (f g : List ℕ → Tree → Result A (List ℕ)) (ms : List (Named Tree)) → AllByRecursion (λ m. f m.name m.value ≡ g m.name m.value) ms → each_of f ms ≡ each_of g ms
same_each f g [] h = refl
same_each {A} f g (m ∷ ms) h = ap₂ (λ (r : Result A (List ℕ)) (rs : Result (List A) (List ℕ)). below m.name r then λ x. rs then λ xs. Ok (x ∷ xs)) h.0 (same_each f g ms h.1)

-- a name before all in the table isn't in it
unknown : (name : List ℕ) (t : Tree) (table : Table) → list_all (is_before name) (map name_of table) ≡ true → in_table table name t ≡ Err []
unknown name t [] h = refl
unknown name t (r ∷ rows) h = let p = and_parts _ _ h in rw (before_other name r.name p.0) (unknown name t rows p.1)

-- members behind a name don't see its row
behind_row : (r : Named (Tree → Result (Unit {0}) (List ℕ))) (rows : Table) (ms : List (Named Tree)) → list_all (is_before r.name) (map name_of ms) ≡ true
    → AllByRecursion (λ m. in_table (r ∷ rows) m.name m.value ≡ in_table rows m.name m.value) ms
behind_row r rows [] h = tt
behind_row r rows (m ∷ ms) h = let p = and_parts _ _ h in (rw (after_other r.name m.name p.0), behind_row r rows ms p.1)

one_more : {A B : Type 0} (x : A) (walk : Result (List A) (List ℕ)) (r : Result B (List ℕ)) → Agrees walk r → Agrees (walk then λ xs. Ok (x ∷ xs)) r
one_more x (Ok xs) r h = h
one_more x (Err p) r h = h

abbrev with_rest : {B : Type 0} → List (Named Tree) → Option B → Result (Option B × List (Named Tree)) (List ℕ)
with_rest rest value = Ok (value, rest)

-- a member of the line
taken : {A B : Type 0} (name : List ℕ) (f : Result B (List ℕ)) (walk : Result (List (Unit {0})) (List ℕ)) (rest : List (Named Tree)) (next : Option B → Lines A) → ((o : Option B) → Agrees walk (next o rest))
    → Agrees (below name (f then λ _. Ok tt) then λ x. walk then λ xs. Ok (x ∷ xs)) (((below name f then λ x. Ok (Some x)) then with_rest rest) then λ x. next x.0 x.1)
taken name (Err p) walk rest next h = refl
taken name (Ok x) walk rest next h = one_more tt walk _ (h (Some x))

module _ {A B : Type 0} (name : List ℕ) (form : Tree → Result B (List ℕ)) (rows : Table) (next : Option B → Lines A)
    (later : list_all (is_before name) (map name_of rows) ≡ true) (follow : (o : Option B) → Follows rows (next o)) where
  line_at : (o : Ordering) (m : Named Tree) (ms : List (Named Tree)) → slice_cmp nat_cmp m.name name ≡ o → is_rising (map name_of (m ∷ ms)) ≡ true
      → Agrees (each_of (in_table (row name form ∷ rows)) (m ∷ ms)) ((next_by o m ms then λ found. inside name form found.0 then with_rest found.1) then λ x. next x.0 x.1)
  line_at Less m ms is rising =
      let before : is_before m.name name ≡ true = ap is_lt is in
      let none = unknown m.name m.value (row name form ∷ rows) (ap₂ (λ a b. a && b) before (all_before m.name name (map name_of rows) before later)) in
      let fault : Result (A × List (Named Tree)) (List ℕ) = Err (place_below m.name []) in
      subst (λ (r : Result (Unit {0}) (List ℕ)). Agrees (below m.name r then λ x. each_of (in_table (row name form ∷ rows)) ms then λ xs. Ok (x ∷ xs)) fault) (sym none) refl
  line_at Equal m ms is rising =
      let p = and_parts _ _ rising in
      let same : m.name ≡ name = same_name m.name name is in
      let behind : list_all (is_before name) (map name_of ms) ≡ true = subst (λ (n : List ℕ). list_all (is_before n) (map name_of ms) ≡ true) same p.0 in
      let here : in_table (row name form ∷ rows) m.name m.value ≡ fits form m.value = rw (same_bytes name m.name (sym same)) in
      let walk : each_of (in_table (row name form ∷ rows)) ms ≡ each_of (in_table rows) ms = same_each _ _ ms (behind_row (row name form) rows ms behind) in
      let all : each_of (in_table (row name form ∷ rows)) (m ∷ ms) ≡ (below name (fits form m.value) then λ x. each_of (in_table rows) ms then λ xs. Ok (x ∷ xs)) =
      ap₂ (λ (r : Result (Unit {0}) (List ℕ)) (rs : Result (List (Unit {0})) (List ℕ)). below m.name r then λ x. rs then λ xs. Ok (x ∷ xs)) here walk
      ∙ ap (λ (n : List ℕ). below n (fits form m.value) then λ x. each_of (in_table rows) ms then λ xs. Ok (x ∷ xs)) same in
      subst (λ (r : Result (List (Unit {0})) (List ℕ)). Agrees r (((below name (form m.value) then λ x. Ok (Some x)) then with_rest ms) then λ x. next x.0 x.1)) (sym all)
      (taken name (form m.value) (each_of (in_table rows) ms) ms next (λ o. (follow o).agrees ms p.1))
  line_at Greater m ms is rising =
      let p = and_parts _ _ rising in
      let after : is_before name m.name ≡ true = turned m.name name is in
      let behind : list_all (is_before name) (map name_of (m ∷ ms)) ≡ true = ap₂ (λ a b. a && b) after (all_before name m.name (map name_of ms) after p.0) in
      subst (λ (r : Result (List (Unit {0})) (List ℕ)). Agrees r (next None (m ∷ ms))) (sym (same_each _ _ (m ∷ ms) (behind_row (row name form) rows (m ∷ ms) behind))) ((follow None).agrees (m ∷ ms) rising)

  line_agrees : (ms : List (Named Tree)) → is_rising (map name_of ms) ≡ true → Agrees (each_of (in_table (row name form ∷ rows)) ms) ((member name form >>= next) ms)
  line_agrees [] rising = (follow None).agrees [] rising
  line_agrees (m ∷ ms) rising = line_at (slice_cmp nat_cmp m.name name) m ms refl rising

  -- a line, and those behind it
  pub follows_line : Follows (row name form ∷ rows) (member name form >>= next)
  follows_line = record { agrees = line_agrees }

-- no other member
end_agrees : {A : Type 0} (next : Unit {0} → Lines A) → FaultsHere (next tt []) → (ms : List (Named Tree)) → Agrees (each_of (in_table []) ms) ((no_more >>= next) ms)
end_agrees next h [] = h
end_agrees next h (m ∷ ms) = refl

pub follows_end : {A : Type 0} (next : Unit {0} → Lines A) → FaultsHere (next tt []) → Follows [] (no_more >>= next)
follows_end next h = record { agrees = λ ms rising. end_agrees next h ms }

-- what is wanted, behind the last line
pub required_here : {A B : Type 0} (found : Option B) (next : B → Lines A) (ms : List (Named Tree)) → ((x : B) → FaultsHere (next x ms)) → FaultsHere ((required found >>= next) ms)
required_here None next ms h = refl
required_here (Some x) next ms h = h x

rule_here : {A : Type 0} (b : Bool) (x : A) (ms : List (Named Tree)) → FaultsHere {A = A × List (Named Tree)} (if_holds b x then λ y. Ok (y, ms))
rule_here true x ms = tt
rule_here false x ms = refl

pub means_where_here : {A : Type 0} (rule : A → Bool) (x : A) (ms : List (Named Tree)) → FaultsHere (means_where rule x ms)
means_where_here rule x ms = rule_here (rule x) x ms

without_rest : {A B : Type 0} (walk : Result B (List ℕ)) (r : Result (A × List (Named Tree)) (List ℕ)) → Agrees walk r → Agrees walk (r then λ x. Ok x.0)
without_rest (Ok xs) (Ok x) h = tt
without_rest (Ok xs) (Err p) h = h
without_rest {A} (Err q) r h = ap (λ (s : Result (A × List (Named Tree)) (List ℕ)). s then λ x. Ok x.0) h

-- the object of these lines
pub follows_object : {A : Type 0} (table : Table) (lines : Lines A) → Follows table lines → ObjectFollows table (object lines)
follows_object {A} table lines h ms rising =
    subst (λ (r : Result (List (Named Tree)) (List ℕ)). Agrees (each_of (in_table table) ms) (r then λ ns. lines ns then λ x. Ok x.0)) (sym (members_of-Object ms)) (without_rest (each_of (in_table table) ms) (lines ms) (h.agrees ms rising))

pub sample_follows : ObjectFollows sample_table sample_form
sample_follows =
    follows_object sample_table _
    (follows_line (codes "level") (whole_form (pos 1) (pos 9)) (row (codes "name") text_form ∷ []) _ refl (λ level.
    follows_line (codes "name") text_form [] _ refl (λ name.
    follows_end _ (required_here name (λ the_name. means (level, the_name)) [] (λ x. tt)))))
