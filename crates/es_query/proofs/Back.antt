-- What is printed of a query reads back: each form at the tree that it prints.
use Rattle.std.proofs.Common.{◌≡◌, ℕ, zero, suc, ◌+◌, ◌-◌, ◌^◌, ◌≤◌, nat_lt, nat_le, min, ℤ, pos, List, [], ◌∷◌, ◌++◌, map, Bool, true, false, not, ◌&&◌, Option, Some, None, Result, Ok, Err, codes, refl, sym, ap, ◌∙◌, subst, arith, nat_cmp}
use Rattle.std.specs.Prelude.{unsigned_abs, int_lt, IfOk, IsTrue}
use Rattle.std.specs.List.{AllByRecursion, list_all}
use Rattle.std.specs.Option.{option_map}
use Rattle.std.specs.Cmp.Lexicographic.{slice_cmp}
use Rattle.std.specs.declared.cmp.Ordering.TheVariants.{Equal, Greater}
use Rattle.std.proofs.lemmas.Bool.{and_parts, and_from, false≢true}
use Rattle.std.proofs.lemmas.Bool.Decides.{nat_tests}
use Rattle.std.proofs.lemmas.Int.{ints}
use Rattle.es_tree.specs.declared.tree.Tree.{Tree, out-Tree, Tree-F}
use Rattle.es_tree.specs.declared.tree.Tree as tree
use Rattle.es_tree.specs.declared.tree.Named.{Named}
use Rattle.es_tree.specs.declared.fault.BodyFault.{BodyFault}
use Rattle.es_grammar.specs.Reading.{if_holds, or_empty, Gives}
use Rattle.es_grammar.specs.Reading.{◌>>=◌ as ◌then◌}
use Rattle.es_grammar.specs.Printing.{member_tree}
use Rattle.es_grammar.specs.Members.{optional_of, named}
use Rattle.es_grammar.specs.Grammar.{◌>>=◌, object, member, no_more, required, only_member, means, means_where}
use Rattle.es_grammar.specs.Values.{text_form, whole_form, is_between, items_of, one_or_list_form, list_form}
use Rattle.es_grammar.proofs.Back.{members_of-Object, text_form-Text, whole_form-Int, list_form-List, one_or_list_form-List}
use Rattle.es_query.specs.declared.kinds.Bounds.{Bounds}
use Rattle.es_query.specs.declared.kinds.Clauses.{Clauses}
use Rattle.es_query.specs.declared.kinds.Query.{Query}
use Rattle.es_query.specs.declared.kinds.Query as query
use Rattle.es_query.specs.Queries.{is_scalar_in, is_null_in, scalar_form, known_form, no_members_form, term_value_in, term_value_form, field_form, term_of, terms_of, range_of, are_fair, bounds_of, bounds_form, exists_form, count_form, bool_form, then_query, clause_form, query_at, most_levels, query_form}
use Rattle.es_query.specs.Printed.{single, bounds_tree, clause_members, minimum_members, printed_count, clauses_tree, with_trees, query_tree}
use Rattle.es_query.specs.Sound.{is_scalar, is_known, is_bound, are_bounds, is_count, is_spelled, depth_of, is_query}
use Rattle.es_query.proofs.Trees.{query_tree-All, query_tree-Nothing, query_tree-Term, query_tree-Terms, query_tree-Range, query_tree-Exists, query_tree-Bool}
use Rattle.es_query.proofs.Lines.{ok_same}
use Rattle.es_query.proofs.Bools.{clauses_of, at_end, at_should, at_must_not, at_must, at_minimum, at_filter, bool_lines}
use Rattle.es_query.proofs.Induction.{OfEach, for_queries}
use Rattle.es_query.proofs.Depth.{Sound, sound_clauses, is_spelled-Term, is_spelled-Terms, is_spelled-Range, depth_of-All, depth_of-Nothing, depth_of-Term, depth_of-Terms, depth_of-Range, depth_of-Exists, depth_of-Bool}
use Rattle.es_query.proofs.Spelled.{query_at_sound}

-- ---- small forms

if_from : {A : Type 0} (b : Bool) (x : A) → b ≡ true → if_holds b x ≡ Ok x
if_from b x e = rw e refl

scalar_read : (t : Tree) → is_scalar t ≡ true → scalar_form t ≡ Ok t
scalar_read t s = if_from (is_scalar t) t s

-- an object with this one member, read by its name
single_read : {A : Type 0} (form : List ℕ → Tree → Result A (List ℕ)) (name : List ℕ) (t : Tree) (x : A) → form name t ≡ Ok x → object (only_member form) (single name t) ≡ Ok x
single_read form name t x e = rw (members_of-Object (member_tree name t ∷ []), e)

field_read : {A : Type 0} (form : Tree → Result A (List ℕ)) (name : List ℕ) (t : Tree) (x : A) → form t ≡ Ok x → field_form form (single name t) ≡ Ok (record { name = name; value = x })
field_read form name t x e = single_read (named (λ n. true) form) name t (record { name = name; value = x }) (rw e)

-- what is known is a term as it stands
known_term : (t : Tree) (f : Tree-F Tree) → (is_scalar_in f && not (is_null_in f)) ≡ true → known_form t ≡ Ok t → term_value_in t f ≡ Ok t
known_term t Tree-F.Null e k = k
known_term t (Tree-F.Bool b) e k = k
known_term t (Tree-F.Int z) e k = k
known_term t (Tree-F.Text s) e k = k
known_term t (Tree-F.List ts) e k = k
known_term t (Tree-F.Object ms) e k = absurd (false≢true e)

term_read : (t : Tree) → is_known t ≡ true → term_value_form t ≡ Ok t
term_read t k = known_term t (out-Tree t) k (if_from (is_known t) t k)

scalars_read : (n : ℕ) (ts : List Tree) → list_all is_scalar ts ≡ true → items_of scalar_form n ts ≡ Ok ts
scalars_read n [] s = refl
scalars_read n (t ∷ ts) s =
    let parts = and_parts (is_scalar t) (list_all is_scalar ts) s in
    rw (scalar_read t parts.0, scalars_read (n + 1) ts parts.1)

list_read : (ts : List Tree) → list_all is_scalar ts ≡ true → list_form scalar_form (tree.List ts) ≡ Ok ts
list_read ts s = list_form-List scalar_form ts ∙ scalars_read 0 ts s

no_members_read : (p : Query) → no_members_form p (tree.Object []) ≡ Ok p
unfolding no_members_form
no_members_read p = rw (members_of-Object [])

exists_read : (field : List ℕ) → exists_form (single (codes "field") (tree.Text field)) ≡ Ok (query.Exists field)
unfolding exists_form
exists_read field = rw (members_of-Object (member_tree (codes "field") (tree.Text field) ∷ []), text_form-Text field)

-- ---- bounds

bound_read : (low : Option Tree) (low_open : Bool) (high : Option Tree) (high_open : Bool) → are_bounds (record { low = low; low_open = low_open; high = high; high_open = high_open }) ≡ true → bounds_form (bounds_tree (record { low = low; low_open = low_open; high = high; high_open = high_open })) ≡ Ok (record { low = low; low_open = low_open; high = high; high_open = high_open })
unfolding bounds_form
bound_read None low_open None high_open s = absurd (false≢true s)
bound_read None true (Some v) high_open s = absurd (false≢true s)
bound_read None false (Some v) true s = rw (members_of-Object (member_tree (codes "lt") v ∷ []), scalar_read v s)
bound_read None false (Some v) false s = rw (members_of-Object (member_tree (codes "lte") v ∷ []), scalar_read v s)
bound_read (Some u) low_open None true s = absurd (false≢true (and_parts (is_scalar u) false s).1)
bound_read (Some u) true None false s = rw (members_of-Object (member_tree (codes "gt") u ∷ []), scalar_read u (and_parts (is_scalar u) true s).0)
bound_read (Some u) false None false s = rw (members_of-Object (member_tree (codes "gte") u ∷ []), scalar_read u (and_parts (is_scalar u) true s).0)
bound_read (Some u) true (Some v) true s = rw (members_of-Object (member_tree (codes "gt") u ∷ member_tree (codes "lt") v ∷ []), scalar_read u (and_parts (is_scalar u) (is_scalar v) s).0, scalar_read v (and_parts (is_scalar u) (is_scalar v) s).1)
bound_read (Some u) true (Some v) false s = rw (members_of-Object (member_tree (codes "gt") u ∷ member_tree (codes "lte") v ∷ []), scalar_read u (and_parts (is_scalar u) (is_scalar v) s).0, scalar_read v (and_parts (is_scalar u) (is_scalar v) s).1)
bound_read (Some u) false (Some v) true s = rw (members_of-Object (member_tree (codes "gte") u ∷ member_tree (codes "lt") v ∷ []), scalar_read u (and_parts (is_scalar u) (is_scalar v) s).0, scalar_read v (and_parts (is_scalar u) (is_scalar v) s).1)
bound_read (Some u) false (Some v) false s = rw (members_of-Object (member_tree (codes "gte") u ∷ member_tree (codes "lte") v ∷ []), scalar_read u (and_parts (is_scalar u) (is_scalar v) s).0, scalar_read v (and_parts (is_scalar u) (is_scalar v) s).1)

bounds_read : (b : Bounds) → are_bounds b ≡ true → bounds_form (bounds_tree b) ≡ Ok b
bounds_read b s = bound_read b.low b.low_open b.high b.high_open s

-- ---- a number of queries

within_most : (n most : ℕ) → nat_le n most ≡ true → n ≤ most
within_most n most e = grind (arith, nat_tests)

most_within : (n most : ℕ) → n ≤ most → nat_le n most ≡ true
most_within n most e = grind (arith, nat_tests)

at_most_next : (n most : ℕ) → nat_lt n (suc most) ≡ true → n ≤ most
at_most_next n most e = grind (arith, nat_tests)

is_within : (n most : ℕ) → n ≤ most → is_between (pos 0) (pos most) (pos n) ≡ true
is_within n most h = first_of (grind (arith, nat_tests), grind (arith, ints), grind (arith, nat_tests, ints))

number_read : (most n : ℕ) → n ≤ most → whole_form (pos 0) (pos most) (tree.Int (pos (min n most))) ≡ Ok (pos n)
number_read most n h =
    let same : min n most ≡ n = omega arith in
    rw (same, whole_form-Int (pos 0) (pos most) (pos n), is_within n most h)

count_read : (n : ℕ) → is_count (Some n) ≡ true → count_form (tree.Int (printed_count n)) ≡ Ok (pos n)
unfolding printed_count
count_read n s = number_read (2 ^ 63 - 1) n (at_most_next n (2 ^ 63 - 1) s)

-- the number that is read
abbrev signed : Option ℕ → Option ℤ
signed minimum = option_map pos minimum

unsigned-signed : (minimum : Option ℕ) → option_map unsigned_abs (signed minimum) ≡ minimum
unsigned-signed None = refl
unsigned-signed (Some n) = refl

-- ---- members that may be left out

-- each name comes after this one
abbrev After : List ℕ → List (Named Tree) → Type 0
After name ms = AllByRecursion (λ m. slice_cmp nat_cmp m.name name ≡ Greater) ms

absent : {A : Type 0} (name : List ℕ) (form : Tree → Result A (List ℕ)) (ms : List (Named Tree)) → After name ms → optional_of name form ms ≡ Ok (None, ms)
absent name form [] after = refl
absent name form (m ∷ ms) after = rw after.0

present : {A : Type 0} (name : List ℕ) (form : Tree → Result A (List ℕ)) (t : Tree) (x : A) (ms : List (Named Tree)) → slice_cmp nat_cmp name name ≡ Equal → form t ≡ Ok x → optional_of name form (member_tree name t ∷ ms) ≡ Ok (Some x, ms)
present name form t x ms same e = rw (same, e)

after_clause : (name other : List ℕ) → slice_cmp nat_cmp other name ≡ Greater → (ts : List Tree) (ms : List (Named Tree)) → After name ms → After name (clause_members other ts ++ ms)
after_clause name other g [] ms after = after
after_clause name other g (t ∷ ts) ms after = (g, after)

after_minimum : (name : List ℕ) → slice_cmp nat_cmp (codes "minimum_should_match") name ≡ Greater → (o : Option ℕ) (ms : List (Named Tree)) → After name ms → After name (minimum_members o ++ ms)
after_minimum name g None ms after = after
after_minimum name g (Some n) ms after = (g, after)

last_after : (name other : List ℕ) → slice_cmp nat_cmp other name ≡ Greater → (ts : List Tree) → After name (clause_members other ts)
last_after name other g [] = tt
last_after name other g (t ∷ ts) = (g, tt)

-- a list that is printed only where it isn't empty
abbrev some_of : List Query → Option (List Query)
some_of [] = None
some_of (q ∷ qs) = Some (q ∷ qs)

or_empty-some_of : (qs : List Query) → or_empty (some_of qs) ≡ qs
or_empty-some_of [] = refl
or_empty-some_of (q ∷ qs) = refl

minimum_taken : (minimum : Option ℕ) → is_count minimum ≡ true → (ms : List (Named Tree)) → After (codes "minimum_should_match") ms → optional_of (codes "minimum_should_match") count_form (minimum_members minimum ++ ms) ≡ Ok (signed minimum, ms)
minimum_taken None s ms after = absent (codes "minimum_should_match") count_form ms after
minimum_taken (Some n) s ms after = present (codes "minimum_should_match") count_form (tree.Int (printed_count n)) (pos n) ms refl (count_read n s)

abbrev meaning_of : Result (Query × List (Named Tree)) (List ℕ) → Result Query (List ℕ)
meaning_of r = r then λ x. Ok x.0

line_read : {A B : Type 0} (name : List ℕ) (form : Tree → Result A (List ℕ)) (c : Option A → List (Named Tree) → Result (B × List (Named Tree)) (List ℕ)) (ms : List (Named Tree)) (x : Option A) (rest : List (Named Tree)) → optional_of name form ms ≡ Ok (x, rest) → (member name form >>= c) ms ≡ c x rest
line_read name form c ms x rest e = rw e

module _ (inner : Tree → Result Query (List ℕ)) where
  clause_taken : (name : List ℕ) (qs : List Query) (ms : List (Named Tree)) → slice_cmp nat_cmp name name ≡ Equal → items_of inner 0 (map query_tree qs) ≡ Ok qs → After name ms → optional_of name (one_or_list_form inner) (clause_members name (map query_tree qs) ++ ms) ≡ Ok (some_of qs, ms)
  clause_taken name [] ms same e after = absent name (one_or_list_form inner) ms after
  clause_taken name (q ∷ qs) ms same e after = present name (one_or_list_form inner) (tree.List (map query_tree (q ∷ qs))) (q ∷ qs) ms same (one_or_list_form-List inner (map query_tree (q ∷ qs)) ∙ e)

  last_taken : (name : List ℕ) (qs : List Query) → slice_cmp nat_cmp name name ≡ Equal → items_of inner 0 (map query_tree qs) ≡ Ok qs → optional_of name (one_or_list_form inner) (clause_members name (map query_tree qs)) ≡ Ok (some_of qs, [])
  last_taken name [] same e = refl
  last_taken name (q ∷ qs) same e = present name (one_or_list_form inner) (tree.List (map query_tree (q ∷ qs))) (q ∷ qs) [] same (one_or_list_form-List inner (map query_tree (q ∷ qs)) ∙ e)

  -- the clauses of a `bool`, as they are printed
  bool_read : (c : Clauses Query)
      → items_of inner 0 (map query_tree c.filter) ≡ Ok c.filter → items_of inner 0 (map query_tree c.must) ≡ Ok c.must → items_of inner 0 (map query_tree c.must_not) ≡ Ok c.must_not → items_of inner 0 (map query_tree c.should) ≡ Ok c.should → is_count c.minimum ≡ true
      → bool_form inner (clauses_tree (with_trees c)) ≡ Ok (query.Bool c)
  bool_read d f m n s count =
      let filter : List Query = d.filter in
      let must : List Query = d.must in
      let must_not : List Query = d.must_not in
      let should : List Query = d.should in
      let minimum : Option ℤ = signed d.minimum in
      let l4 = clause_members (codes "should") (map query_tree should) in
      let l3 = clause_members (codes "must_not") (map query_tree must_not) ++ l4 in
      let l2 = clause_members (codes "must") (map query_tree must) ++ l3 in
      let l1 = minimum_members d.minimum ++ l2 in
      let l0 = clause_members (codes "filter") (map query_tree filter) ++ l1 in
      let after4 : (name : List ℕ) → slice_cmp nat_cmp (codes "should") name ≡ Greater → After name l4 = λ name g. last_after name (codes "should") g (map query_tree should) in
      let after3 : (name : List ℕ) → slice_cmp nat_cmp (codes "must_not") name ≡ Greater → slice_cmp nat_cmp (codes "should") name ≡ Greater → After name l3 = λ name g h. after_clause name (codes "must_not") g (map query_tree must_not) l4 (after4 name h) in
      let after2 : (name : List ℕ) → slice_cmp nat_cmp (codes "must") name ≡ Greater → slice_cmp nat_cmp (codes "must_not") name ≡ Greater → slice_cmp nat_cmp (codes "should") name ≡ Greater → After name l2 = λ name g h i. after_clause name (codes "must") g (map query_tree must) l3 (after3 name h i) in
      let read0 = line_read (codes "filter") (one_or_list_form inner) (at_minimum inner) l0 (some_of filter) l1 (clause_taken (codes "filter") filter l1 refl f (after_minimum (codes "filter") refl d.minimum l2 (after2 (codes "filter") refl refl refl))) in
      let read1 = line_read (codes "minimum_should_match") count_form (at_must inner (some_of filter)) l1 minimum l2 (minimum_taken d.minimum count l2 (after2 (codes "minimum_should_match") refl refl refl)) in
      let read2 = line_read (codes "must") (one_or_list_form inner) (at_must_not inner (some_of filter) minimum) l2 (some_of must) l3 (clause_taken (codes "must") must l3 refl m (after3 (codes "must") refl refl)) in
      let read3 = line_read (codes "must_not") (one_or_list_form inner) (at_should inner (some_of filter) minimum (some_of must)) l3 (some_of must_not) l4 (clause_taken (codes "must_not") must_not l4 refl n (after4 (codes "must_not") refl)) in
      let read4 = line_read (codes "should") (one_or_list_form inner) (at_end (some_of filter) minimum (some_of must) (some_of must_not)) l4 (some_of should) [] (last_taken (codes "should") should refl s) in
      let whole : at_filter inner l0 ≡ Ok (query.Bool (clauses_of (some_of filter) minimum (some_of must) (some_of must_not) (some_of should)), []) = read0 ∙ read1 ∙ read2 ∙ read3 ∙ read4 in
      let read : object (at_filter inner) (tree.Object l0) ≡ Ok (query.Bool (clauses_of (some_of filter) minimum (some_of must) (some_of must_not) (some_of should))) = rw (members_of-Object l0) (ap meaning_of whole) in
      bool_lines inner (tree.Object l0) ∙ read ∙ rw (or_empty-some_of filter, or_empty-some_of must, or_empty-some_of must_not, or_empty-some_of should, unsigned-signed d.minimum)

  -- ---- one clause

  -- the query is read back from its tree
  abbrev pub Reads : Query → Type 0
  Reads q = object (only_member (clause_form inner)) (query_tree q) ≡ Ok q

  clause_read : (name : List ℕ) (t : Tree) (q : Query) → query_tree q ≡ single name t → clause_form inner name t ≡ Ok q → Reads q
  clause_read name t q p e = rw p (single_read (clause_form inner) name t q e)

  bool_reads : (c : Clauses Query) → bool_form inner (clauses_tree (with_trees c)) ≡ Ok (query.Bool c) → Reads (query.Bool c)
  unfolding clause_form
  bool_reads c e = clause_read (codes "bool") (clauses_tree (with_trees c)) (query.Bool c) (query_tree-Bool c) e

  exists_reads : (field : List ℕ) → Reads (query.Exists field)
  unfolding clause_form
  exists_reads field = clause_read (codes "exists") (single (codes "field") (tree.Text field)) (query.Exists field) (query_tree-Exists field) (exists_read field)

  all_reads : Reads query.All
  unfolding clause_form
  all_reads = clause_read (codes "match_all") (tree.Object []) query.All query_tree-All (no_members_read query.All)

  nothing_reads : Reads query.Nothing
  unfolding clause_form
  nothing_reads = clause_read (codes "match_none") (tree.Object []) query.Nothing query_tree-Nothing (no_members_read query.Nothing)

  range_reads : (field : List ℕ) (b : Bounds) → are_bounds b ≡ true → Reads (query.Range field b)
  unfolding clause_form
  range_reads field b s = clause_read (codes "range") (single field (bounds_tree b)) (query.Range field b) (query_tree-Range field b) (ap (then_query range_of) (field_read bounds_form field (bounds_tree b) b (bounds_read b s)))

  term_reads : (field : List ℕ) (t : Tree) → is_known t ≡ true → Reads (query.Term field t)
  unfolding clause_form
  term_reads field t s = clause_read (codes "term") (single field t) (query.Term field t) (query_tree-Term field t) (ap (then_query term_of) (field_read term_value_form field t t (term_read t s)))

  terms_reads : (field : List ℕ) (ts : List Tree) → list_all is_scalar ts ≡ true → Reads (query.Terms field ts)
  unfolding clause_form
  terms_reads field ts s = clause_read (codes "terms") (single field (tree.List ts)) (query.Terms field ts) (query_tree-Terms field ts) (ap (then_query terms_of) (field_read (list_form scalar_form) field (tree.List ts) ts (list_read ts s)))

-- ---- a query

-- the query is read back where so many levels are read
abbrev ReadsAt : Query → Type 0
ReadsAt q = (n : ℕ) → Sound n q → query_at n (query_tree q) ≡ Ok q

queries_read : (n m : ℕ) (qs : List Query) → AllByRecursion ReadsAt qs → AllByRecursion (Sound n) qs → items_of (query_at n) m (map query_tree qs) ≡ Ok qs
queries_read n m [] i s = refl
queries_read n m (q ∷ qs) i s = rw (i.0 n s.0, queries_read n (m + 1) qs i.1 s.1)

leaf_reads : (q : Query) → depth_of q ≡ 1 → ((n : ℕ) → is_spelled q ≡ true → Reads (query_at n) q) → ReadsAt q
leaf_reads q one reads zero s =
    let depth : depth_of q ≤ 0 = s.depth in
    absurd (omega arith)
leaf_reads q one reads (suc n) s = reads n s.spelled

clauses_read : (c : Clauses Query) → OfEach ReadsAt c → ReadsAt (query.Bool c)
clauses_read c i zero s =
    let depth = rw (depth_of-Bool c) at s.depth in
    absurd (omega arith)
clauses_read c i (suc n) s =
    let sound = sound_clauses n c s in
    bool_reads (query_at n) c (bool_read (query_at n) c (queries_read n 0 c.filter i.filter sound.filter) (queries_read n 0 c.must i.must sound.must) (queries_read n 0 c.must_not i.must_not sound.must_not) (queries_read n 0 c.should i.should sound.should) sound.minimum)

pub query_at_back : (q : Query) → ReadsAt q
query_at_back =
    for_queries ReadsAt
    (leaf_reads query.All depth_of-All (λ n s. all_reads (query_at n)))
    (leaf_reads query.Nothing depth_of-Nothing (λ n s. nothing_reads (query_at n)))
    (λ field t. leaf_reads (query.Term field t) (depth_of-Term field t) (λ n s. term_reads (query_at n) field t (sym (is_spelled-Term field t) ∙ s)))
    (λ field ts. leaf_reads (query.Terms field ts) (depth_of-Terms field ts) (λ n s. terms_reads (query_at n) field ts (sym (is_spelled-Terms field ts) ∙ s)))
    (λ field b. leaf_reads (query.Range field b) (depth_of-Range field b) (λ n s. range_reads (query_at n) field b (sym (is_spelled-Range field b) ∙ s)))
    (λ field. leaf_reads (query.Exists field) (depth_of-Exists field) (λ n s. exists_reads (query_at n) field))
    clauses_read

sound_most : (q : Query) → is_query q ≡ true → Sound most_levels q
sound_most q s =
    let parts = and_parts (is_spelled q) (nat_le (depth_of q) most_levels) s in
    record { spelled = parts.0; depth = within_most (depth_of q) most_levels parts.1 }

-- what is printed of a sound query is read back
pub query_back : (q : Query) → is_query q ≡ true → query_form (query_tree q) ≡ Ok q
unfolding query_form
query_back q s = query_at_back q most_levels (sound_most q s)

sound_is : (q : Query) → Sound most_levels q → is_query q ≡ true
sound_is q s = and_from (is_spelled q) (nat_le (depth_of q) most_levels) s.spelled (most_within (depth_of q) most_levels s.depth)

-- what is read is sound
pub query_sound : (t : Tree) (q : Query) → query_form t ≡ Ok q → is_query q ≡ true
unfolding query_form
query_sound t q e = sound_is q (query_at_sound most_levels t q e)

-- sound queries that print the same tree are the same
pub same_query : (p q : Query) → is_query p ≡ true → is_query q ≡ true → query_tree p ≡ query_tree q → p ≡ q
same_query p q s t e =
    let one = query_back p s in
    let other = query_back q t in
    ok_same p q (sym one ∙ ap query_form e ∙ other)

pub given_sound : (t : Tree) (r : Result Query BodyFault) → Gives r (query_form t) → IfOk r (λ q. IsTrue (is_query q))
given_sound t (Ok q) g = query_sound t q g
given_sound t (Err f) g = tt
