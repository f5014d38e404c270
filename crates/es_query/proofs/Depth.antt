-- How queries inside a query count.
use Rattle.std.proofs.Common.{◌≡◌, ℕ, suc, ◌≤◌, List, [], ◌∷◌, map, Bool, true, ◌&&◌, refl, ◌∙◌, arith, rules}
use Rattle.std.specs.Prelude.{max}
use Rattle.std.specs.List.{AllByRecursion}
use Rattle.std.proofs.lemmas.Bool.{and_parts, and_from}
use Rattle.es_tree.specs.declared.tree.Tree.{Tree}
use Rattle.es_tree.specs.Order.{greatest}
use Rattle.es_query.specs.declared.kinds.Bounds.{Bounds}
use Rattle.es_query.specs.declared.kinds.Clauses.{Clauses}
use Rattle.es_query.specs.declared.kinds.Query.{Query, the_lemmas}
use Rattle.es_query.specs.declared.kinds.Query as query
use Rattle.es_query.specs.Sound.{is_scalar, is_known, are_bounds, is_count, are_true, is_spelled, depth_of}
use Rattle.std.specs.List.{list_all}

pub is_spelled-All : is_spelled query.All ≡ true
unfolding is_spelled
is_spelled-All = search (rules, the_lemmas)

pub is_spelled-Nothing : is_spelled query.Nothing ≡ true
unfolding is_spelled
is_spelled-Nothing = search (rules, the_lemmas)

pub is_spelled-Term : (field : List ℕ) (t : Tree) → is_spelled (query.Term field t) ≡ is_known t
unfolding is_spelled
is_spelled-Term field t = search (rules, the_lemmas)

pub is_spelled-Terms : (field : List ℕ) (ts : List Tree) → is_spelled (query.Terms field ts) ≡ list_all is_scalar ts
unfolding is_spelled
is_spelled-Terms field ts = search (rules, the_lemmas)

pub is_spelled-Range : (field : List ℕ) (b : Bounds) → is_spelled (query.Range field b) ≡ are_bounds b
unfolding is_spelled
is_spelled-Range field b = search (rules, the_lemmas)

pub is_spelled-Exists : (field : List ℕ) → is_spelled (query.Exists field) ≡ true
unfolding is_spelled
is_spelled-Exists field = search (rules, the_lemmas)

-- all queries of a list
abbrev pub all_spelled : List Query → Bool
all_spelled qs = are_true (map is_spelled qs)

abbrev pub most_depth : List Query → ℕ
most_depth qs = greatest (map depth_of qs)

pub is_spelled-Bool : (c : Clauses Query) → is_spelled (query.Bool c) ≡ (((all_spelled c.must && all_spelled c.filter) && (all_spelled c.should && all_spelled c.must_not)) && is_count c.minimum)
unfolding is_spelled
is_spelled-Bool c = search (rules, the_lemmas)

pub depth_of-All : depth_of query.All ≡ 1
unfolding depth_of
depth_of-All = search (rules, the_lemmas)

pub depth_of-Nothing : depth_of query.Nothing ≡ 1
unfolding depth_of
depth_of-Nothing = search (rules, the_lemmas)

pub depth_of-Term : (field : List ℕ) (t : Tree) → depth_of (query.Term field t) ≡ 1
unfolding depth_of
depth_of-Term field t = search (rules, the_lemmas)

pub depth_of-Terms : (field : List ℕ) (ts : List Tree) → depth_of (query.Terms field ts) ≡ 1
unfolding depth_of
depth_of-Terms field ts = search (rules, the_lemmas)

pub depth_of-Range : (field : List ℕ) (b : Bounds) → depth_of (query.Range field b) ≡ 1
unfolding depth_of
depth_of-Range field b = search (rules, the_lemmas)

pub depth_of-Exists : (field : List ℕ) → depth_of (query.Exists field) ≡ 1
unfolding depth_of
depth_of-Exists field = search (rules, the_lemmas)

pub depth_of-Bool : (c : Clauses Query) → depth_of (query.Bool c) ≡ suc (max (max (most_depth c.must) (most_depth c.filter)) (max (most_depth c.should) (most_depth c.must_not)))
unfolding depth_of
depth_of-Bool c = search (rules, the_lemmas)

-- a query of parts that trees have, with at most so many queries one inside the other
pub record Sound (n : ℕ) (q : Query) : Type 0 where
  pub spelled : is_spelled q ≡ true
  pub depth : depth_of q ≤ n

pub all_spelled-from : (n : ℕ) (qs : List Query) → AllByRecursion (Sound n) qs → all_spelled qs ≡ true
all_spelled-from n [] s = refl
all_spelled-from n (q ∷ qs) s = and_from (is_spelled q) (all_spelled qs) s.0.spelled (all_spelled-from n qs s.1)

pub most_depth-from : (n : ℕ) (qs : List Query) → AllByRecursion (Sound n) qs → most_depth qs ≤ n
most_depth-from n [] s = omega arith
most_depth-from n (q ∷ qs) s =
    let first : depth_of q ≤ n = s.0.depth in
    let others : most_depth qs ≤ n = most_depth-from n qs s.1 in
    omega arith

pub all_sound : (n : ℕ) (qs : List Query) → all_spelled qs ≡ true → most_depth qs ≤ n → AllByRecursion (Sound n) qs
all_sound n [] s d = tt
all_sound n (q ∷ qs) s d =
    let parts = and_parts (is_spelled q) (all_spelled qs) s in
    let first : depth_of q ≤ n = omega arith in
    let others : most_depth qs ≤ n = omega arith in
    (record { spelled = parts.0; depth = first }, all_sound n qs parts.1 others)

-- the queries of a `bool`
pub record SoundClauses (n : ℕ) (c : Clauses Query) : Type 0 where
  pub must : AllByRecursion (Sound n) c.must
  pub filter : AllByRecursion (Sound n) c.filter
  pub should : AllByRecursion (Sound n) c.should
  pub must_not : AllByRecursion (Sound n) c.must_not
  pub minimum : is_count c.minimum ≡ true

five : (a b c d e : Bool) → a ≡ true → b ≡ true → c ≡ true → d ≡ true → e ≡ true → (((a && b) && (c && d)) && e) ≡ true
five a b c d e p q r s t = rw (p, q, r, s, t) refl

deepest : (n a b c d : ℕ) → a ≤ n → b ≤ n → c ≤ n → d ≤ n → suc (max (max a b) (max c d)) ≤ suc n
deepest n a b c d p q r s = omega arith

pub clauses_sound : (n : ℕ) (c : Clauses Query) → SoundClauses n c → Sound (suc n) (query.Bool c)
clauses_sound n c s = record {
  spelled = is_spelled-Bool c ∙ five (all_spelled c.must) (all_spelled c.filter) (all_spelled c.should) (all_spelled c.must_not) (is_count c.minimum) (all_spelled-from n c.must s.must) (all_spelled-from n c.filter s.filter) (all_spelled-from n c.should s.should) (all_spelled-from n c.must_not s.must_not) s.minimum;
  depth = rw (depth_of-Bool c) (deepest n (most_depth c.must) (most_depth c.filter) (most_depth c.should) (most_depth c.must_not) (most_depth-from n c.must s.must) (most_depth-from n c.filter s.filter) (most_depth-from n c.should s.should) (most_depth-from n c.must_not s.must_not));
}

pub sound_clauses : (n : ℕ) (c : Clauses Query) → Sound (suc n) (query.Bool c) → SoundClauses n c
sound_clauses n c s =
    let whole = and_parts ((all_spelled c.must && all_spelled c.filter) && (all_spelled c.should && all_spelled c.must_not)) (is_count c.minimum) (rw (is_spelled-Bool c) at s.spelled) in
    let both = and_parts (all_spelled c.must && all_spelled c.filter) (all_spelled c.should && all_spelled c.must_not) whole.0 in
    let first = and_parts (all_spelled c.must) (all_spelled c.filter) both.0 in
    let second = and_parts (all_spelled c.should) (all_spelled c.must_not) both.1 in
    let depth = rw (depth_of-Bool c) at s.depth in
    let must : most_depth c.must ≤ n = omega arith in
    let filter : most_depth c.filter ≤ n = omega arith in
    let should : most_depth c.should ≤ n = omega arith in
    let must_not : most_depth c.must_not ≤ n = omega arith in
    record { must = all_sound n c.must first.0 must; filter = all_sound n c.filter first.1 filter; should = all_sound n c.should second.0 should; must_not = all_sound n c.must_not second.1 must_not; minimum = whole.1 }
