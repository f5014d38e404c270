-- More levels change nothing for a tree that has no more.
use Rattle.std.proofs.Common.{◌≡◌, ℕ, zero, suc, ◌+◌, ◌-◌, ◌≤◌, ℤ, List, [], ◌∷◌, map, Bool, Option, Some, None, Result, Ok, Err, codes, refl, sym, ap, ◌∙◌, rules, arith, nat_cmp}
use Rattle.std.specs.List.{AllByRecursion}
use Rattle.std.specs.Cmp.Lexicographic.{slice_cmp}
use Rattle.std.specs.declared.cmp.Ordering.{Ordering}
use Rattle.std.specs.declared.cmp.Ordering.TheVariants.{Less, Equal, Greater}
use Rattle.es_tree.specs.declared.tree.Tree.{Tree, the_lemmas}
use Rattle.es_tree.specs.declared.tree.Tree as tree
use Rattle.es_tree.specs.declared.tree.Named.{Named}
use Rattle.es_tree.specs.Order.{greatest, levels_of}
use Rattle.es_tree.proofs.Induction.{for_trees, levels_of-List, levels_of-Object}
use Rattle.es_grammar.specs.Members.{members_of, next_of, next_by, each_of}
use Rattle.es_grammar.specs.Grammar.{object, only_member}
use Rattle.es_grammar.specs.Values.{items_of, one_of, one_or_list_form}
use Rattle.es_grammar.proofs.Back.{members_of-Object, one_or_list_form-List}
use Rattle.es_query.specs.declared.kinds.Query.{Query}
use Rattle.es_query.specs.Queries.{count_form, bool_form, clause_form, query_at, most_levels, query_clause_form, query_form}
use Rattle.es_query.proofs.Lines.{taken, taken_at}
use Rattle.es_query.proofs.Bools.{at_end, at_should, at_must_not, at_must, at_minimum, at_filter, bool_lines}

-- ---- trees inside a tree

-- no member has more levels
abbrev Within : ℕ → List (Named Tree) → Type 0
Within k ms = AllByRecursion (λ m. levels_of m.value ≤ k) ms

members_within : (k : ℕ) (ms : List (Named Tree)) → greatest (map (λ (m : Named Tree). levels_of m.value) ms) ≤ k → Within k ms
members_within k [] h = tt
members_within k (m ∷ ms) h = (omega arith, members_within k ms (omega arith))

items_within : (k : ℕ) (ts : List Tree) → greatest (map levels_of ts) ≤ k → AllByRecursion (λ t. levels_of t ≤ k) ts
items_within k [] h = tt
items_within k (t ∷ ts) h = (omega arith, items_within k ts (omega arith))

-- ---- what has no members

members_of-Null : members_of tree.Null ≡ Err []
members_of-Null = search (rules, the_lemmas)

members_of-Bool : (b : Bool) → members_of (tree.Bool b) ≡ Err []
members_of-Bool b = search (rules, the_lemmas)

members_of-Int : (z : ℤ) → members_of (tree.Int z) ≡ Err []
members_of-Int z = search (rules, the_lemmas)

members_of-Text : (s : List ℕ) → members_of (tree.Text s) ≡ Err []
members_of-Text s = search (rules, the_lemmas)

members_of-List : (ts : List Tree) → members_of (tree.List ts) ≡ Err []
members_of-List ts = search (rules, the_lemmas)

no_members : (t : Tree) → levels_of t ≤ 0 → members_of t ≡ Err []
no_members =
    for_trees (λ t. levels_of t ≤ 0 → members_of t ≡ Err [])
    (λ h. members_of-Null)
    (λ b h. members_of-Bool b)
    (λ z h. members_of-Int z)
    (λ s h. members_of-Text s)
    (λ ts i h. members_of-List ts)
    (λ ms i h. absurd (omega (arith, levels_of-Object ms)))

-- grammars that agree on members of so few levels agree on objects of one level more
module _ {A : Type 0} (k : ℕ) (p q : List (Named Tree) → Result (A × List (Named Tree)) (List ℕ)) (same : (ms : List (Named Tree)) → Within k ms → p ms ≡ q ms) where
  pub object_same : (t : Tree) → levels_of t ≤ suc k → object p t ≡ object q t
  object_same =
      for_trees (λ t. levels_of t ≤ suc k → object p t ≡ object q t)
      (λ h. rw members_of-Null)
      (λ b h. rw (members_of-Bool b))
      (λ z h. rw (members_of-Int z))
      (λ s h. rw (members_of-Text s))
      (λ ts i h. rw (members_of-List ts))
      (λ ms i h. rw (members_of-Object ms, same ms (members_within k ms (omega (arith, levels_of-Object ms)))))

-- ---- a line

-- nothing that a line found has more levels
abbrev FoundWithin : ℕ → Option Tree → Type 0
FoundWithin k None = Unit {0}
FoundWithin k (Some t) = levels_of t ≤ k

abbrev NextWithin : ℕ → Result (Option Tree × List (Named Tree)) (List ℕ) → Type 0
NextWithin k (Ok found) = FoundWithin k found.0 × Within k found.1
NextWithin k (Err p) = Unit {0}

next_by_within : (k : ℕ) (o : Ordering) (m : Named Tree) (ms : List (Named Tree)) → Within k (m ∷ ms) → NextWithin k (next_by o m ms)
next_by_within k Less m ms w = tt
next_by_within k Equal m ms w = (w.0, w.1)
next_by_within k Greater m ms w = (tt, w)

next_within : (k : ℕ) (name : List ℕ) (ms : List (Named Tree)) → Within k ms → NextWithin k (next_of name ms)
next_within k name [] w = (tt, tt)
next_within k name (m ∷ ms) w = next_by_within k (slice_cmp nat_cmp m.name name) m ms w

module _ {A B : Type 0} (k : ℕ) (name : List ℕ) (p q : Tree → Result A (List ℕ)) (c d : Option A → List (Named Tree) → Result B (List ℕ))
    (same : (t : Tree) → levels_of t ≤ k → p t ≡ q t) (after : (x : Option A) (rest : List (Named Tree)) → Within k rest → c x rest ≡ d x rest) where
  at_same : (rest : List (Named Tree)) → Within k rest → (r : Result A (List ℕ)) → taken_at name rest c r ≡ taken_at name rest d r
  at_same rest w (Ok x) = after (Some x) rest w
  at_same rest w (Err e) = refl

  found_same : (found : Option Tree) (rest : List (Named Tree)) → FoundWithin k found → Within k rest → taken name p c (Ok (found, rest)) ≡ taken name q d (Ok (found, rest))
  found_same None rest f w = after None rest w
  found_same (Some t) rest f w = ap (taken_at name rest c) (same t f) ∙ at_same rest w (q t)

  next_same : (r : Result (Option Tree × List (Named Tree)) (List ℕ)) → NextWithin k r → taken name p c r ≡ taken name q d r
  next_same (Ok found) w = found_same found.0 found.1 w.0 w.1
  next_same (Err e) w = refl

  pub line_same : (ms : List (Named Tree)) → Within k ms → taken name p c (next_of name ms) ≡ taken name q d (next_of name ms)
  line_same ms w = next_same (next_of name ms) (next_within k name ms w)

-- ---- queries inside a query

one-Null : (form : Tree → Result Query (List ℕ)) → one_or_list_form form tree.Null ≡ one_of form tree.Null
one-Null form = search (rules, the_lemmas)

one-Bool : (form : Tree → Result Query (List ℕ)) (b : Bool) → one_or_list_form form (tree.Bool b) ≡ one_of form (tree.Bool b)
one-Bool form b = search (rules, the_lemmas)

one-Int : (form : Tree → Result Query (List ℕ)) (z : ℤ) → one_or_list_form form (tree.Int z) ≡ one_of form (tree.Int z)
one-Int form z = search (rules, the_lemmas)

one-Text : (form : Tree → Result Query (List ℕ)) (s : List ℕ) → one_or_list_form form (tree.Text s) ≡ one_of form (tree.Text s)
one-Text form s = search (rules, the_lemmas)

one-Object : (form : Tree → Result Query (List ℕ)) (ms : List (Named Tree)) → one_or_list_form form (tree.Object ms) ≡ one_of form (tree.Object ms)
one-Object form ms = search (rules, the_lemmas)

module _ (k : ℕ) (p q : Tree → Result Query (List ℕ)) (same : (t : Tree) → levels_of t ≤ k → p t ≡ q t) where
  items_same : (n : ℕ) (ts : List Tree) → AllByRecursion (λ t. levels_of t ≤ k) ts → items_of p n ts ≡ items_of q n ts
  items_same n [] w = refl
  items_same n (t ∷ ts) w = rw (same t w.0, items_same (n + 1) ts w.1)

  one_same : (t : Tree) → levels_of t ≤ k → one_of p t ≡ one_of q t
  one_same t h = rw (same t h)

  lists_same : (t : Tree) → levels_of t ≤ k → one_or_list_form p t ≡ one_or_list_form q t
  lists_same =
      for_trees (λ t. levels_of t ≤ k → one_or_list_form p t ≡ one_or_list_form q t)
      (λ h. one-Null p ∙ one_same tree.Null h ∙ sym (one-Null q))
      (λ b h. one-Bool p b ∙ one_same (tree.Bool b) h ∙ sym (one-Bool q b))
      (λ z h. one-Int p z ∙ one_same (tree.Int z) h ∙ sym (one-Int q z))
      (λ s h. one-Text p s ∙ one_same (tree.Text s) h ∙ sym (one-Text q s))
      (λ ts i h. one_or_list_form-List p ts ∙ items_same 0 ts (items_within k ts (omega (arith, levels_of-List ts))) ∙ sym (one_or_list_form-List q ts))
      (λ ms i h. one-Object p ms ∙ one_same (tree.Object ms) h ∙ sym (one-Object q ms))

  filter_same : (ms : List (Named Tree)) → Within k ms → at_filter p ms ≡ at_filter q ms
  filter_same =
      line_same k (codes "filter") (one_or_list_form p) (one_or_list_form q) (at_minimum p) (at_minimum q) lists_same (λ filter.
      line_same k (codes "minimum_should_match") count_form count_form (at_must p filter) (at_must q filter) (λ t h. refl) (λ minimum.
      line_same k (codes "must") (one_or_list_form p) (one_or_list_form q) (at_must_not p filter minimum) (at_must_not q filter minimum) lists_same (λ must.
      line_same k (codes "must_not") (one_or_list_form p) (one_or_list_form q) (at_should p filter minimum must) (at_should q filter minimum must) lists_same (λ must_not.
      line_same k (codes "should") (one_or_list_form p) (one_or_list_form q) (at_end filter minimum must must_not) (at_end filter minimum must must_not) lists_same (λ should rest w. refl)))))

  bool_same : (t : Tree) → levels_of t ≤ suc k → bool_form p t ≡ bool_form q t
  bool_same t h = bool_lines p t ∙ object_same k (at_filter p) (at_filter q) filter_same t h ∙ sym (bool_lines q t)

  clause_same : (name : List ℕ) (t : Tree) → levels_of t ≤ suc k → clause_form p name t ≡ clause_form q name t
  unfolding clause_form
  clause_same name t h = rw (bool_same t h)

  each_same : (ms : List (Named Tree)) → Within k ms → each_of (clause_form p) ms ≡ each_of (clause_form q) ms
  each_same [] w = refl
  each_same (m ∷ ms) w = rw (clause_same m.name m.value (omega (arith, w.0)), each_same ms w.1)

  pub only_same : (ms : List (Named Tree)) → Within k ms → only_member (clause_form p) ms ≡ only_member (clause_form q) ms
  only_same ms w = rw (each_same ms w)

-- ---- one level more

one_more : (n : ℕ) (t : Tree) → levels_of t ≤ n → query_at n t ≡ query_at (suc n) t
one_more zero t h = rw (no_members t h)
one_more (suc n) t h = object_same n (only_member (clause_form (query_at n))) (only_member (clause_form (query_at (suc n)))) (only_same n (query_at n) (query_at (suc n)) (one_more n)) t h

more : (d n : ℕ) (t : Tree) → levels_of t ≤ n → query_at n t ≡ query_at (n + d) t
more zero n t h =
    let e : n ≡ n + zero = omega arith in
    ap (λ (m : ℕ). query_at m t) e
more (suc d) n t h =
    let e : suc (n + d) ≡ n + suc d = omega arith in
    let enough : levels_of t ≤ n + d = omega arith in
    more d n t h ∙ one_more (n + d) t enough ∙ ap (λ (m : ℕ). query_at m t) e

-- from the tree's own levels on it is the same query, or the same fault
pub query_at_levels : (t : Tree) (n : ℕ) → levels_of t ≤ n → n ≤ most_levels → query_at n t ≡ query_form t
unfolding query_form
query_at_levels t n h below =
    let e : n + (most_levels - n) ≡ most_levels = omega arith in
    more (most_levels - n) n t h ∙ ap (λ (m : ℕ). query_at m t) e

-- ---- the levels that reading begins with

pub query_at_most : (n : ℕ) → n ≡ most_levels → (t : Tree) → query_at n t ≡ query_form t
unfolding query_form
query_at_most n e t = ap (λ (m : ℕ). query_at m t) e

pub greatest_is_most : 18446744073709551615 ≡ most_levels
unfolding most_levels
greatest_is_most = refl

pub fewer_is_less : 18446744073709551614 ≡ most_levels - 1
unfolding most_levels
fewer_is_less = refl

one_less : most_levels ≡ suc (most_levels - 1)
unfolding most_levels
one_less = refl

-- a query is an object whose one member is a clause
pub query_form-clause : (t : Tree) → query_form t ≡ object (only_member query_clause_form) t
unfolding query_form
query_form-clause t = ap (λ (m : ℕ). query_at m t) one_less

pub clause_form_most : (n : ℕ) → n ≡ most_levels - 1 → (name : List ℕ) (t : Tree) → clause_form (query_at n) name t ≡ query_clause_form name t
clause_form_most n e name t = ap (λ (m : ℕ). clause_form (query_at m) name t) e
