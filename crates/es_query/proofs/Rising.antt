-- The members of a printed `bool` stand in the order of their names.
use Rattle.std.proofs.Common.{◌≡◌, ℕ, List, [], ◌∷◌, ◌++◌, map, Option, Some, None, true, codes, refl, ap, ◌∙◌, append_assoc}
use Rattle.std.specs.List.{list_all}
use Rattle.es_tree.specs.declared.tree.Tree.{Tree}
use Rattle.es_tree.specs.declared.tree.Named.{Named}
use Rattle.es_tree.specs.Rising.{name_of, is_before, is_rising}
use Rattle.es_query.specs.Printed.{clause_members, minimum_members}

-- the name comes before each of these
abbrev Before : List ℕ → List (Named Tree) → Type 0
Before name ms = list_all (is_before name) (map name_of ms) ≡ true

before_clause : (name other : List ℕ) → is_before name other ≡ true → (ts : List Tree) (ms : List (Named Tree)) → Before name ms → Before name (clause_members other ts ++ ms)
before_clause name other b [] ms h = h
before_clause name other b (t ∷ ts) ms h = rw b h

before_last : (name other : List ℕ) → is_before name other ≡ true → (ts : List Tree) → Before name (clause_members other ts)
before_last name other b [] = refl
before_last name other b (t ∷ ts) = rw b

before_minimum : (name : List ℕ) → is_before name (codes "minimum_should_match") ≡ true → (o : Option ℕ) (ms : List (Named Tree)) → Before name ms → Before name (minimum_members o ++ ms)
before_minimum name b None ms h = h
before_minimum name b (Some n) ms h = rw b h

rising_clause : (name : List ℕ) (ts : List Tree) (ms : List (Named Tree)) → Before name ms → is_rising (map name_of ms) ≡ true → is_rising (map name_of (clause_members name ts ++ ms)) ≡ true
rising_clause name [] ms b r = r
rising_clause name (t ∷ ts) ms b r = rw b r

rising_last : (name : List ℕ) (ts : List Tree) → is_rising (map name_of (clause_members name ts)) ≡ true
rising_last name [] = refl
rising_last name (t ∷ ts) = refl

rising_minimum : (o : Option ℕ) (ms : List (Named Tree)) → Before (codes "minimum_should_match") ms → is_rising (map name_of ms) ≡ true → is_rising (map name_of (minimum_members o ++ ms)) ≡ true
rising_minimum None ms b r = r
rising_minimum (Some n) ms b r = rw b r

pub clauses_rise : (filter : List Tree) (minimum : Option ℕ) (must must_not should : List Tree)
    → is_rising (map name_of (clause_members (codes "filter") filter ++ (minimum_members minimum ++ (clause_members (codes "must") must ++ (clause_members (codes "must_not") must_not ++ clause_members (codes "should") should))))) ≡ true
clauses_rise filter minimum must must_not should =
    let l4 = clause_members (codes "should") should in
    let l3 = clause_members (codes "must_not") must_not ++ l4 in
    let l2 = clause_members (codes "must") must ++ l3 in
    let l1 = minimum_members minimum ++ l2 in
    let not_before : Before (codes "must_not") l4 = before_last (codes "must_not") (codes "should") refl should in
    let must_before : Before (codes "must") l3 = before_clause (codes "must") (codes "must_not") refl must_not l4 (before_last (codes "must") (codes "should") refl should) in
    let before2 : (name : List ℕ) → is_before name (codes "must") ≡ true → is_before name (codes "must_not") ≡ true → is_before name (codes "should") ≡ true → Before name l2 =
    λ name b c d. before_clause name (codes "must") b must l3 (before_clause name (codes "must_not") c must_not l4 (before_last name (codes "should") d should)) in
    let minimum_before : Before (codes "minimum_should_match") l2 = before2 (codes "minimum_should_match") refl refl refl in
    let filter_before : Before (codes "filter") l1 = before_minimum (codes "filter") refl minimum l2 (before2 (codes "filter") refl refl refl) in
    rising_clause (codes "filter") filter l1 filter_before
    (rising_minimum minimum l2 minimum_before
    (rising_clause (codes "must") must l3 must_before
    (rising_clause (codes "must_not") must_not l4 not_before
    (rising_last (codes "should") should))))

added : (a b c d e : List (Named Tree)) → (((a ++ b) ++ c) ++ d) ++ e ≡ a ++ (b ++ (c ++ (d ++ e)))
added a b c d e = simp append_assoc

-- the same of members that are added one after the other
pub clauses_added : (filter : List Tree) (minimum : Option ℕ) (must must_not should : List Tree)
    → is_rising (map name_of ((((clause_members (codes "filter") filter ++ minimum_members minimum) ++ clause_members (codes "must") must) ++ clause_members (codes "must_not") must_not) ++ clause_members (codes "should") should)) ≡ true
clauses_added filter minimum must must_not should =
    ap (λ (ms : List (Named Tree)). is_rising (map name_of ms)) (added (clause_members (codes "filter") filter) (minimum_members minimum) (clause_members (codes "must") must) (clause_members (codes "must_not") must_not) (clause_members (codes "should") should))
    ∙ clauses_rise filter minimum must must_not should
