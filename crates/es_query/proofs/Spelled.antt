-- What is read is sound: each form at the value that it gives.
use Rattle.std.proofs.Common.{◌≡◌, ℕ, zero, suc, ◌+◌, ◌-◌, ◌^◌, ◌≤◌, nat_lt, ℤ, pos, negsuc, List, [], ◌∷◌, Bool, true, false, not, ◌&&◌, Option, Some, None, Result, Ok, Err, codes, refl, sym, ap, ◌∙◌, subst, arith, decimal, if◌then◌else◌}
use Rattle.std.specs.Prelude.{unsigned_abs, int_lt}
use Rattle.std.specs.List.{AllByRecursion, list_all}
use Rattle.std.specs.Option.{option_map}
use Rattle.std.specs.Str.{bytes_eq}
use Rattle.std.proofs.lemmas.Bool.{and_parts, and_from, false≢true}
use Rattle.std.proofs.lemmas.Bool.Decides.{nat_tests}
use Rattle.std.proofs.lemmas.Int.{ints}
use Rattle.es_tree.specs.declared.tree.Tree.{Tree, out-Tree, Tree-F}
use Rattle.es_tree.specs.declared.tree.Named.{Named}
use Rattle.es_grammar.specs.Reading.{below, if_holds, or_empty}
use Rattle.es_grammar.specs.Reading.{◌>>=◌ as ◌then◌}
use Rattle.es_grammar.specs.Members.{named}
use Rattle.es_grammar.specs.Grammar.{◌>>=◌, object, member, no_more, required, only_member, means, means_where}
use Rattle.es_grammar.specs.Values.{text_form, whole_in, is_between, items_of, one_of, one_in, one_or_list_form, list_in, list_form}
use Rattle.es_query.specs.declared.kinds.Bounds.{Bounds}
use Rattle.es_query.specs.declared.kinds.Clauses.{Clauses}
use Rattle.es_query.specs.declared.kinds.Query.{Query}
use Rattle.es_query.specs.declared.kinds.Query as query
use Rattle.es_query.specs.Queries.{is_scalar_in, is_null_in, scalar_form, known_form, no_members_form, value_form, term_value_in, term_value_form, field_form, term_of, terms_of, range_of, are_fair, bounds_of, bounds_form, exists_form, count_form, bool_form, then_query, clause_form, query_at, most_levels, query_form}
use Rattle.es_query.specs.Sound.{is_scalar, is_known, are_bounds, is_count, is_spelled, depth_of, is_query}
use Rattle.es_query.proofs.Lines.{then_ok, below_ok, ok, ok_same, pair_same, Came, line_ok, object_ok, only_ok, ends_ok}
use Rattle.es_query.proofs.Bools.{clauses_of, meant, at_end, at_should, at_must_not, at_must, at_minimum, at_filter, bool_lines}
use Rattle.es_query.proofs.Depth.{Sound, SoundClauses, clauses_sound, is_spelled-All, is_spelled-Nothing, is_spelled-Term, is_spelled-Terms, is_spelled-Range, is_spelled-Exists, depth_of-All, depth_of-Nothing, depth_of-Term, depth_of-Terms, depth_of-Range, depth_of-Exists}

-- ---- small forms

if_true : {A : Type 0} (b : Bool) (x y : A) → if_holds b x ≡ Ok y → b ≡ true
if_true true x y e = refl
if_true false x y e = cc e

if_same : {A : Type 0} (b : Bool) (x y : A) → if_holds b x ≡ Ok y → x ≡ y
if_same true x y e = ok_same x y e
if_same false x y e = cc e

scalar_sound : (t x : Tree) → scalar_form t ≡ Ok x → is_scalar x ≡ true
scalar_sound t x e = subst (λ (u : Tree). is_scalar u ≡ true) (if_same (is_scalar t) t x e) (if_true (is_scalar t) t x e)

known_sound : (t x : Tree) → known_form t ≡ Ok x → is_known x ≡ true
known_sound t x e = subst (λ (u : Tree). is_known u ≡ true) (if_same (is_known t) t x e) (if_true (is_known t) t x e)

-- the field that was read, and a tree that its value was read from
record Field {A : Type 0} (form : Tree → Result A (List ℕ)) (m : Named A) : Type 0 where
  pub source : Tree
  pub is : form source ≡ Ok m.value

field_ok : {A : Type 0} (form : Tree → Result A (List ℕ)) (t : Tree) (m : Named A) → field_form form t ≡ Ok m → Field form m
field_ok {A} form t m e =
    let o = only_ok (named (λ n. true) form) m t e in
    let b = then_ok {B = Named A} (form o.tree) (λ x. Ok (record { name = o.name; value = x })) m o.is in
    let same : b.value ≡ m.value = cc b.later in
    record { source = o.tree; is = b.first ∙ ap ok same }

-- ---- lists

module _ {A : Type 0} (form : Tree → Result A (List ℕ)) (P : A → Type 0) (sound : (t : Tree) (x : A) → form t ≡ Ok x → P x) where
  items_sound : (n : ℕ) (ts : List Tree) (xs : List A) → items_of form n ts ≡ Ok xs → AllByRecursion P xs
  items_sound n [] xs e = subst (AllByRecursion P) (ok_same [] xs e) tt
  items_sound n (t ∷ ts) xs e =
      let a = then_ok (below (decimal n) (form t)) (λ x. items_of form (n + 1) ts then λ ys. Ok (x ∷ ys)) xs e in
      let b = then_ok (items_of form (n + 1) ts) (λ ys. Ok (a.value ∷ ys)) xs a.later in
      let whole : AllByRecursion P (a.value ∷ b.value) = (sound t a.value (below_ok (decimal n) (form t) a.value a.first), items_sound (n + 1) ts b.value b.first) in
      subst (AllByRecursion P) (ok_same (a.value ∷ b.value) xs b.later) whole

  single_sound : (t : Tree) (xs : List A) → one_of form t ≡ Ok xs → AllByRecursion P xs
  single_sound t xs e =
      let a = then_ok (form t) (λ x. Ok (x ∷ [])) xs e in
      let whole : AllByRecursion P (a.value ∷ []) = (sound t a.value a.first, tt) in
      subst (AllByRecursion P) (ok_same (a.value ∷ []) xs a.later) whole

  one_in_sound : (t : Tree) (f : Tree-F Tree) (xs : List A) → one_in form t f ≡ Ok xs → AllByRecursion P xs
  one_in_sound t Tree-F.Null xs e = single_sound t xs e
  one_in_sound t (Tree-F.Bool b) xs e = single_sound t xs e
  one_in_sound t (Tree-F.Int z) xs e = single_sound t xs e
  one_in_sound t (Tree-F.Text s) xs e = single_sound t xs e
  one_in_sound t (Tree-F.List ts) xs e = items_sound 0 ts xs e
  one_in_sound t (Tree-F.Object ms) xs e = single_sound t xs e

  -- the list of a member that was read, or the empty one
  came_sound : (found : Option (List A)) → Came (one_or_list_form form) found → AllByRecursion P (or_empty found)
  came_sound None c = tt
  came_sound (Some xs) c = one_in_sound c.0 (out-Tree c.0) xs c.1

  list_in_sound : (f : Tree-F Tree) (xs : List A) → list_in form f ≡ Ok xs → AllByRecursion P xs
  list_in_sound Tree-F.Null xs e = cc e
  list_in_sound (Tree-F.Bool b) xs e = cc e
  list_in_sound (Tree-F.Int z) xs e = cc e
  list_in_sound (Tree-F.Text s) xs e = cc e
  list_in_sound (Tree-F.List ts) xs e = items_sound 0 ts xs e
  list_in_sound (Tree-F.Object ms) xs e = cc e

all_scalars : (ts : List Tree) → AllByRecursion (λ t. is_scalar t ≡ true) ts → list_all is_scalar ts ≡ true
all_scalars [] s = refl
all_scalars (t ∷ ts) s = and_from (is_scalar t) (list_all is_scalar ts) s.0 (all_scalars ts s.1)

scalars_sound : (t : Tree) (ts : List Tree) → list_form scalar_form t ≡ Ok ts → list_all is_scalar ts ≡ true
scalars_sound t ts e = all_scalars ts (list_in_sound scalar_form (λ x. is_scalar x ≡ true) scalar_sound (out-Tree t) ts e)

-- ---- the value of a term

value_came : (found : Option Tree) → Came known_form found → (rest : List (Named Tree)) (x : Tree) → required found [] ≡ Ok (x, rest) → is_known x ≡ true
value_came None c rest x e = cc e
value_came (Some v) c rest x e = subst (λ (u : Tree). is_known u ≡ true) (pair_same v x [] rest e) (known_sound c.0 v c.1)

abbrev at_value : Option Tree → List (Named Tree) → Result (Tree × List (Named Tree)) (List ℕ)
at_value value = no_more >>= λ end. required value

value_sound : (t x : Tree) → value_form t ≡ Ok x → is_known x ≡ true
unfolding value_form
value_sound t x e =
    let o = object_ok (member (codes "value") known_form >>= at_value) t x e in
    let a = line_ok (codes "value") known_form at_value (x, o.rest) o.members o.are in
    value_came a.value a.came o.rest x (ends_ok (required a.value) a.rest (x, o.rest) a.later)

term_in_sound : (t x : Tree) (f : Tree-F Tree) → term_value_in t f ≡ Ok x → is_known x ≡ true
term_in_sound t x Tree-F.Null e = known_sound t x e
term_in_sound t x (Tree-F.Bool b) e = known_sound t x e
term_in_sound t x (Tree-F.Int z) e = known_sound t x e
term_in_sound t x (Tree-F.Text s) e = known_sound t x e
term_in_sound t x (Tree-F.List ts) e = known_sound t x e
term_in_sound t x (Tree-F.Object ms) e = value_sound t x e

-- ---- what has one member, or none

no_members_ok : (p : Query) (t : Tree) (q : Query) → no_members_form p t ≡ Ok q → p ≡ q
unfolding no_members_form
no_members_ok p t q e =
    let o = object_ok (no_more >>= λ end. means p) t q e in
    pair_same p q [] o.rest (ends_ok (means p) o.members (q, o.rest) o.are)

abbrev field_meant : Option (List ℕ) → List (Named Tree) → Result (Query × List (Named Tree)) (List ℕ)
field_meant found = required found >>= λ field. means (query.Exists field)

exists_meant : (found : Option (List ℕ)) (rest : List (Named Tree)) (q : Query) → field_meant found [] ≡ Ok (q, rest) → (field : List ℕ) × (query.Exists field ≡ q)
exists_meant None rest q e = cc e
exists_meant (Some field) rest q e = (field, pair_same (query.Exists field) q [] rest e)

abbrev at_field : Option (List ℕ) → List (Named Tree) → Result (Query × List (Named Tree)) (List ℕ)
at_field found = no_more >>= λ end. field_meant found

exists_ok : (t : Tree) (q : Query) → exists_form t ≡ Ok q → (field : List ℕ) × (query.Exists field ≡ q)
unfolding exists_form
exists_ok t q e =
    let o = object_ok (member (codes "field") text_form >>= at_field) t q e in
    let a = line_ok (codes "field") text_form at_field (q, o.rest) o.members o.are in
    exists_meant a.value o.rest q (ends_ok (field_meant a.value) a.rest (q, o.rest) a.later)

-- a query that was made of what was read
record Made {A : Type 0} (f : A → Query) (r : Result A (List ℕ)) (q : Query) : Type 0 where
  pub value : A
  pub first : r ≡ Ok value
  pub is : f value ≡ q

then_query_ok : {A : Type 0} (f : A → Query) (r : Result A (List ℕ)) (q : Query) → then_query f r ≡ Ok q → Made f r q
then_query_ok f (Ok x) q e = record { value = x; first = refl; is = ok_same (f x) q e }
then_query_ok f (Err p) q e = cc e

-- ---- bounds

fair_bounded : (gt gte lt lte : Option Tree) → Came scalar_form gt → Came scalar_form gte → Came scalar_form lt → Came scalar_form lte → are_fair gt gte lt lte ≡ true → are_bounds (bounds_of gt gte lt lte) ≡ true
fair_bounded None None None None a b c d fair = absurd (false≢true fair)
fair_bounded None None None (Some v) a b c d fair = scalar_sound d.0 v d.1
fair_bounded None None (Some v) None a b c d fair = scalar_sound c.0 v c.1
fair_bounded None None (Some v) (Some w) a b c d fair = absurd (false≢true fair)
fair_bounded None (Some u) None None a b c d fair = rw (scalar_sound b.0 u b.1) refl
fair_bounded None (Some u) None (Some v) a b c d fair = rw (scalar_sound b.0 u b.1) (scalar_sound d.0 v d.1)
fair_bounded None (Some u) (Some v) None a b c d fair = rw (scalar_sound b.0 u b.1) (scalar_sound c.0 v c.1)
fair_bounded None (Some u) (Some v) (Some w) a b c d fair = absurd (false≢true fair)
fair_bounded (Some u) None None None a b c d fair = rw (scalar_sound a.0 u a.1) refl
fair_bounded (Some u) None None (Some v) a b c d fair = rw (scalar_sound a.0 u a.1) (scalar_sound d.0 v d.1)
fair_bounded (Some u) None (Some v) None a b c d fair = rw (scalar_sound a.0 u a.1) (scalar_sound c.0 v c.1)
fair_bounded (Some u) None (Some v) (Some w) a b c d fair = absurd (false≢true fair)
fair_bounded (Some u) (Some s) lt lte a b c d fair = absurd (false≢true fair)

bounds_meant : (gt gte lt lte : Option Tree) → Came scalar_form gt → Came scalar_form gte → Came scalar_form lt → Came scalar_form lte → (b : Bounds) → if_holds (are_fair gt gte lt lte) (bounds_of gt gte lt lte) ≡ Ok b → are_bounds b ≡ true
bounds_meant gt gte lt lte a b c d x e =
    subst (λ (y : Bounds). are_bounds y ≡ true) (if_same (are_fair gt gte lt lte) (bounds_of gt gte lt lte) x e) (fair_bounded gt gte lt lte a b c d (if_true (are_fair gt gte lt lte) (bounds_of gt gte lt lte) x e))

abbrev fair_bounds : (gt gte lt lte : Option Tree) → List (Named Tree) → Result (Bounds × List (Named Tree)) (List ℕ)
fair_bounds gt gte lt lte = means_where (λ b. are_fair gt gte lt lte) (bounds_of gt gte lt lte)

abbrev at_bounds : (gt gte lt lte : Option Tree) → List (Named Tree) → Result (Bounds × List (Named Tree)) (List ℕ)
at_bounds gt gte lt lte = no_more >>= λ end. fair_bounds gt gte lt lte

abbrev at_lte : (gt gte lt : Option Tree) → List (Named Tree) → Result (Bounds × List (Named Tree)) (List ℕ)
at_lte gt gte lt = member (codes "lte") scalar_form >>= at_bounds gt gte lt

abbrev at_lt : (gt gte : Option Tree) → List (Named Tree) → Result (Bounds × List (Named Tree)) (List ℕ)
at_lt gt gte = member (codes "lt") scalar_form >>= at_lte gt gte

abbrev at_gte : (gt : Option Tree) → List (Named Tree) → Result (Bounds × List (Named Tree)) (List ℕ)
at_gte gt = member (codes "gte") scalar_form >>= at_lt gt

abbrev at_gt : List (Named Tree) → Result (Bounds × List (Named Tree)) (List ℕ)
at_gt = member (codes "gt") scalar_form >>= at_gte

bounds_sound : (t : Tree) (b : Bounds) → bounds_form t ≡ Ok b → are_bounds b ≡ true
unfolding bounds_form
bounds_sound t x e =
    let o = object_ok at_gt t x e in
    let y : Bounds × List (Named Tree) = (x, o.rest) in
    let a = line_ok (codes "gt") scalar_form at_gte y o.members o.are in
    let b = line_ok (codes "gte") scalar_form (at_lt a.value) y a.rest a.later in
    let c = line_ok (codes "lt") scalar_form (at_lte a.value b.value) y b.rest b.later in
    let d = line_ok (codes "lte") scalar_form (at_bounds a.value b.value c.value) y c.rest c.later in
    let end = then_ok {B = Bounds × List (Named Tree)} (if_holds (are_fair a.value b.value c.value d.value) (bounds_of a.value b.value c.value d.value)) (λ z. Ok (z, [])) y (ends_ok (fair_bounds a.value b.value c.value d.value) d.rest y d.later) in
    let same : end.value ≡ x = pair_same end.value x [] o.rest end.later in
    bounds_meant a.value b.value c.value d.value a.came b.came c.came d.came x (end.first ∙ ap ok same)

-- ---- a number of queries

within_bounds : (n most : ℕ) → is_between (pos 0) (pos most) (pos n) ≡ true → n ≤ most
within_bounds n most e =
    let p = (and_parts (not (int_lt (pos n) (pos 0))) (not (int_lt (pos most) (pos n))) e).1 in
    first_of (grind (arith, nat_tests), grind (arith, ints), grind (arith, nat_tests, ints))

below_next : (n most : ℕ) → n ≤ most → nat_lt n (suc most) ≡ true
below_next n most h = grind (arith, nat_tests)

number_sound : (most : ℕ) (z : ℤ) → is_between (pos 0) (pos most) z ≡ true → nat_lt (unsigned_abs z) (suc most) ≡ true
number_sound most (pos n) e = below_next n most (within_bounds n most e)
number_sound most (negsuc n) e = absurd (false≢true e)

whole_in_sound : (most : ℕ) (f : Tree-F Tree) (z : ℤ) → whole_in (pos 0) (pos most) f ≡ Ok z → is_between (pos 0) (pos most) z ≡ true
whole_in_sound most Tree-F.Null z e = cc e
whole_in_sound most (Tree-F.Bool b) z e = cc e
whole_in_sound most (Tree-F.Int y) z e = subst (λ (x : ℤ). is_between (pos 0) (pos most) x ≡ true) (if_same (is_between (pos 0) (pos most) y) y z e) (if_true (is_between (pos 0) (pos most) y) y z e)
whole_in_sound most (Tree-F.Text s) z e = cc e
whole_in_sound most (Tree-F.List ts) z e = cc e
whole_in_sound most (Tree-F.Object ms) z e = cc e

minimum_sound : (found : Option ℤ) → Came count_form found → is_count (option_map unsigned_abs found) ≡ true
minimum_sound None c = refl
minimum_sound (Some z) c = number_sound (2 ^ 63 - 1) z (whole_in_sound (2 ^ 63 - 1) (out-Tree c.0) z c.1)

-- ---- one clause

by_name : {G : Type 0} (b : Bool) (x y : Result Query (List ℕ)) (q : Query) → (if b then x else y) ≡ Ok q → (x ≡ Ok q → G) → (y ≡ Ok q → G) → G
by_name true x y q e f g = f e
by_name false x y q e f g = g e

made_sound : (n : ℕ) (q : Query) → is_spelled q ≡ true → depth_of q ≡ 1 → Sound (suc n) q
made_sound n q s d = record { spelled = s; depth = omega arith }

module _ (inner : Tree → Result Query (List ℕ)) (n : ℕ) (sound : (t : Tree) (q : Query) → inner t ≡ Ok q → Sound n q) where
  bool_case : (t : Tree) (q : Query) → bool_form inner t ≡ Ok q → Sound (suc n) q
  bool_case t q e =
      let o = object_ok (at_filter inner) t q (sym (bool_lines inner t) ∙ e) in
      let y : Query × List (Named Tree) = (q, o.rest) in
      let a = line_ok (codes "filter") (one_or_list_form inner) (at_minimum inner) y o.members o.are in
      let b = line_ok (codes "minimum_should_match") count_form (at_must inner a.value) y a.rest a.later in
      let c = line_ok (codes "must") (one_or_list_form inner) (at_must_not inner a.value b.value) y b.rest b.later in
      let d = line_ok (codes "must_not") (one_or_list_form inner) (at_should inner a.value b.value c.value) y c.rest c.later in
      let f = line_ok (codes "should") (one_or_list_form inner) (at_end a.value b.value c.value d.value) y d.rest d.later in
      let meaning : meant a.value b.value c.value d.value f.value [] ≡ Ok y = ends_ok (meant a.value b.value c.value d.value f.value) f.rest y f.later in
      let clauses : Clauses Query = clauses_of a.value b.value c.value d.value f.value in
      let is : SoundClauses n clauses = record {
        must = came_sound inner (Sound n) sound c.value c.came;
        filter = came_sound inner (Sound n) sound a.value a.came;
        should = came_sound inner (Sound n) sound f.value f.came;
        must_not = came_sound inner (Sound n) sound d.value d.came;
        minimum = minimum_sound b.value b.came;
      } in
      subst (Sound (suc n)) (pair_same (query.Bool clauses) q [] o.rest meaning) (clauses_sound n clauses is)

  exists_case : (t : Tree) (q : Query) → exists_form t ≡ Ok q → Sound (suc n) q
  exists_case t q e =
      let a = exists_ok t q e in
      subst (Sound (suc n)) a.1 (made_sound n (query.Exists a.0) (is_spelled-Exists a.0) (depth_of-Exists a.0))

  all_case : (t : Tree) (q : Query) → no_members_form query.All t ≡ Ok q → Sound (suc n) q
  all_case t q e = subst (Sound (suc n)) (no_members_ok query.All t q e) (made_sound n query.All is_spelled-All depth_of-All)

  nothing_case : (t : Tree) (q : Query) → no_members_form query.Nothing t ≡ Ok q → Sound (suc n) q
  nothing_case t q e = subst (Sound (suc n)) (no_members_ok query.Nothing t q e) (made_sound n query.Nothing is_spelled-Nothing depth_of-Nothing)

  range_case : (t : Tree) (q : Query) → then_query range_of (field_form bounds_form t) ≡ Ok q → Sound (suc n) q
  range_case t q e =
      let a = then_query_ok range_of (field_form bounds_form t) q e in
      let m = a.value in
      let f = field_ok bounds_form t m a.first in
      subst (Sound (suc n)) a.is (made_sound n (query.Range m.name m.value) (is_spelled-Range m.name m.value ∙ bounds_sound f.source m.value f.is) (depth_of-Range m.name m.value))

  term_case : (t : Tree) (q : Query) → then_query term_of (field_form term_value_form t) ≡ Ok q → Sound (suc n) q
  term_case t q e =
      let a = then_query_ok term_of (field_form term_value_form t) q e in
      let m = a.value in
      let f = field_ok term_value_form t m a.first in
      subst (Sound (suc n)) a.is (made_sound n (query.Term m.name m.value) (is_spelled-Term m.name m.value ∙ term_in_sound f.source m.value (out-Tree f.source) f.is) (depth_of-Term m.name m.value))

  terms_case : (t : Tree) (q : Query) → then_query terms_of (field_form (list_form scalar_form) t) ≡ Ok q → Sound (suc n) q
  terms_case t q e =
      let a = then_query_ok terms_of (field_form (list_form scalar_form) t) q e in
      let m = a.value in
      let f = field_ok (list_form scalar_form) t m a.first in
      subst (Sound (suc n)) a.is (made_sound n (query.Terms m.name m.value) (is_spelled-Terms m.name m.value ∙ scalars_sound f.source m.value f.is) (depth_of-Terms m.name m.value))

  abbrev at_terms : List ℕ → Tree → Result Query (List ℕ)
  at_terms name t = if bytes_eq name (codes "terms") then then_query terms_of (field_form (list_form scalar_form) t) else Err []

  abbrev at_term : List ℕ → Tree → Result Query (List ℕ)
  at_term name t = if bytes_eq name (codes "term") then then_query term_of (field_form term_value_form t) else at_terms name t

  abbrev at_range : List ℕ → Tree → Result Query (List ℕ)
  at_range name t = if bytes_eq name (codes "range") then then_query range_of (field_form bounds_form t) else at_term name t

  abbrev at_match_none : List ℕ → Tree → Result Query (List ℕ)
  at_match_none name t = if bytes_eq name (codes "match_none") then no_members_form query.Nothing t else at_range name t

  abbrev at_match_all : List ℕ → Tree → Result Query (List ℕ)
  at_match_all name t = if bytes_eq name (codes "match_all") then no_members_form query.All t else at_match_none name t

  abbrev at_exists : List ℕ → Tree → Result Query (List ℕ)
  at_exists name t = if bytes_eq name (codes "exists") then exists_form t else at_match_all name t

  pub clause_sound : (name : List ℕ) (t : Tree) (q : Query) → clause_form inner name t ≡ Ok q → Sound (suc n) q
  unfolding clause_form
  clause_sound name t q e =
      by_name (bytes_eq name (codes "bool")) (bool_form inner t) (at_exists name t) q e (bool_case t q) (λ e1.
      by_name (bytes_eq name (codes "exists")) (exists_form t) (at_match_all name t) q e1 (exists_case t q) (λ e2.
      by_name (bytes_eq name (codes "match_all")) (no_members_form query.All t) (at_match_none name t) q e2 (all_case t q) (λ e3.
      by_name (bytes_eq name (codes "match_none")) (no_members_form query.Nothing t) (at_range name t) q e3 (nothing_case t q) (λ e4.
      by_name (bytes_eq name (codes "range")) (then_query range_of (field_form bounds_form t)) (at_term name t) q e4 (range_case t q) (λ e5.
      by_name (bytes_eq name (codes "term")) (then_query term_of (field_form term_value_form t)) (at_terms name t) q e5 (term_case t q) (λ e6.
      by_name (bytes_eq name (codes "terms")) (then_query terms_of (field_form (list_form scalar_form) t)) (Err []) q e6 (terms_case t q) (λ e7. cc e7)))))))

-- ---- a query

pub query_at_sound : (n : ℕ) (t : Tree) (q : Query) → query_at n t ≡ Ok q → Sound n q
query_at_sound zero t q e = cc e
query_at_sound (suc n) t q e =
    let o = only_ok (clause_form (query_at n)) q t e in
    clause_sound (query_at n) n (query_at_sound n) o.name o.tree q o.is
