-- What was made ready stands for its query.
use Rattle.std.proofs.Common.{◌≡◌, ◌∙◌, ℕ, Bool, true, false, ◌&&◌, ◌||◌, List, [], ◌∷◌, Option, Some, None, map, refl, sym, ap, ap₂}
use Rattle.std.specs.Prelude.{is_some, IsPermutation}
use Rattle.std.specs.List.{list_any, filter_map, cons_option}
use Rattle.std.specs.Option.{option_map}
use Rattle.std.proofs.Math.Bool.{or-false}
use Rattle.std.proofs.lemmas.List.Sorted.{list_any-IsPermutation}
use Rattle.std.proofs.lemmas.Option.{same_Some}
use Rattle.es_tree.specs.declared.tree.Tree.{Tree}
use Rattle.es_tree.specs.declared.tree.Named.{Named}
use Rattle.es_tree.specs.Find.{value_named}
use Rattle.es_path.specs.Scalars.{scalars_at}
use Rattle.es_query.specs.declared.kinds.Bounds.{Bounds}
use Rattle.es_query.specs.declared.kinds.Query as query
use Rattle.es_query.specs.declared.kinds.Query.{Query}
use Rattle.es_query.specs.declared.kinds.Clauses.{Clauses}
use Rattle.es_value.specs.declared.kinds.FieldType.{FieldType}
use Rattle.es_value.specs.declared.kinds.Value.{Value}
use Rattle.es_value.specs.Order.{is_same}
use Rattle.es_value.specs.Values.{typed}
use Rattle.es_mapping.specs.Checking.{values_of, typed_at}
use Rattle.es_match.specs.declared.asking.Asked.{Asked}
use Rattle.es_match.specs.declared.asking.Asked.TheVariants.{OneOf, Within, Any}
use Rattle.es_match.specs.declared.matcher.Matcher.{Matcher}
use Rattle.es_match.specs.declared.matcher.Matcher as ready
use Rattle.es_match.specs.Compared.{is_over, is_under, has_value, bound_of, has_within, has_in_range}
use Rattle.es_match.specs.Seen.{Seen, seen_under}
use Rattle.es_match.specs.Holds.{holds_on, query_holds, on_field, has_any, clauses_hold}
use Rattle.es_match.specs.Asked.{meets, asks_of, meets_if}
use Rattle.es_match.specs.Ready.{matcher_holds, StandsWithin, AllStand}
use Rattle.es_match.proofs.Folds.{holds-All, holds-Nothing, holds-Bool, ready-Bool, holds-Term, holds-Terms, holds-Range, holds-Exists, ready-Field, ready-Always}

any_more : (p : Value → Bool) (asked : Asked) → ((v : Value) → meets asked v ≡ p v) → (o : Option Value) (vs : List Value) (b : Bool) → b ≡ list_any p vs → (meets_if asked o || b) ≡ list_any p (cons_option o vs)
any_more p asked same None vs b e = e
any_more p asked same (Some v) vs b e = ap₂ (λ x y. x || y) (same v) e

-- the values of scalars are asked one by one
any_typed : (p : Value → Bool) (kind : FieldType) (asked : Asked) → ((v : Value) → meets asked v ≡ p v) → (ts : List Tree) → list_any (asks_of kind asked) ts ≡ list_any p (filter_map (typed kind) ts)
unfolding asks_of
any_typed p kind asked same [] = refl
any_typed p kind asked same (t ∷ ts) = any_more p asked same (typed kind t) (filter_map (typed kind) ts) _ (any_typed p kind asked same ts)

and-true : (b : Bool) → (b && true) ≡ b
and-true true = refl
and-true false = refl

and-false : (b : Bool) → (b && false) ≡ false
and-false true = refl
and-false false = refl

-- a query that asks this of one field
module _ (asks : FieldType → List Value → Bool) (path : List ℕ) (q : Query) (holds : (seen : Seen) → holds_on seen q ≡ on_field (seen path) asks) where
  -- where a field of the type is asked
  asked_at : (kind : FieldType) (asked : Asked) (p : Value → Bool) → ((v : Value) → meets asked v ≡ p v) → ((vs : List Value) → asks kind vs ≡ list_any p vs) → (ts : List Tree) (o : Option FieldType) → ((k : FieldType) → o ≡ Some k → k ≡ kind)
      → (list_any (asks_of kind asked) ts && is_some o) ≡ on_field (option_map (λ k. (k, typed_at o ts)) o) asks
  asked_at kind asked p same is ts None only = and-false (list_any (asks_of kind asked) ts)
  asked_at kind asked p same is ts (Some k) only =
      and-true (list_any (asks_of kind asked) ts)
      ∙ any_typed p kind asked same ts
      ∙ sym (is (filter_map (typed kind) ts))
      ∙ ap (λ x. asks x (filter_map (typed x) ts)) (sym (only k refl))

  pub field_stands : (kind : FieldType) (asked : Asked) (p : Value → Bool) → ((v : Value) → meets asked v ≡ p v) → ((vs : List Value) → asks kind vs ≡ list_any p vs) → (whole : List (Named FieldType)) → value_named path whole ≡ Some kind → StandsWithin (ready.Field path (record { kind = kind; asked = asked })) q whole
  unfolding seen_under values_of
  field_stands kind asked p same is whole known written t within =
      ready-Field written t path (record { kind = kind; asked = asked })
      ∙ asked_at kind asked p same is (scalars_at path t) (value_named path written) (λ k e. same_Some k kind (sym (within path k e) ∙ known))
      ∙ sym (holds (seen_under written t))

  nothing_at : (ts : List Tree) (o : Option FieldType) → ((k : FieldType) → o ≡ Some k → (vs : List Value) → asks k vs ≡ false) → false ≡ on_field (option_map (λ k. (k, typed_at o ts)) o) asks
  nothing_at ts None none = refl
  nothing_at ts (Some k) none = sym (none k refl (filter_map (typed k) ts))

  -- where nothing meets what is asked
  pub never_stands : (whole : List (Named FieldType)) → ((k : FieldType) → value_named path whole ≡ Some k → (vs : List Value) → asks k vs ≡ false) → StandsWithin (ready.Always false) q whole
  unfolding seen_under values_of
  never_stands whole none written t within =
      ready-Always written t false
      ∙ nothing_at (scalars_at path t) (value_named path written) (λ k e. none k (within path k e))
      ∙ sym (holds (seen_under written t))

  pub unmapped : (whole : List (Named FieldType)) → value_named path whole ≡ None → StandsWithin (ready.Always false) q whole
  unmapped whole absent = never_stands whole (λ k known vs. let no : None ≡ Some k = sym absent ∙ known in cc no)

abbrev term_asks : Tree → FieldType → List Value → Bool
term_asks scalar kind vs = has_value (typed kind scalar) vs

pub term_stands : (path : List ℕ) (scalar : Tree) (mapping : List (Named FieldType)) (kind : FieldType) (v : Value) → value_named path mapping ≡ Some kind → typed kind scalar ≡ Some v → StandsWithin (ready.Field path (record { kind = kind; asked = OneOf (v ∷ []) })) (query.Term path scalar) mapping
term_stands path scalar mapping kind v e known =
    field_stands (term_asks scalar) path (query.Term path scalar) (λ seen. holds-Term seen path scalar) kind (OneOf (v ∷ [])) (is_same v)
    (λ x. or-false (is_same v x))
    (λ vs. ap (λ o. has_value o vs) known) mapping e

pub term_unmapped : (path : List ℕ) (scalar : Tree) (mapping : List (Named FieldType)) → value_named path mapping ≡ None → StandsWithin (ready.Always false) (query.Term path scalar) mapping
term_unmapped path scalar = unmapped (term_asks scalar) path (query.Term path scalar) (λ seen. holds-Term seen path scalar)

pub term_untyped : (path : List ℕ) (scalar : Tree) (mapping : List (Named FieldType)) (kind : FieldType) → value_named path mapping ≡ Some kind → typed kind scalar ≡ None → StandsWithin (ready.Always false) (query.Term path scalar) mapping
term_untyped path scalar mapping kind e unknown =
    never_stands (term_asks scalar) path (query.Term path scalar) (λ seen. holds-Term seen path scalar) mapping
    (λ k is vs. ap (λ x. has_value (typed x scalar) vs) (same_Some k kind (sym is ∙ e)) ∙ ap (λ o. has_value o vs) unknown)

exchange : (a b c d : Bool) → ((a || b) || (c || d)) ≡ ((a || c) || (b || d))
exchange true b c d = refl
exchange false true true d = refl
exchange false true false d = refl
exchange false false c d = refl

any_or : (p q : Value → Bool) (vs : List Value) → list_any (λ v. p v || q v) vs ≡ (list_any p vs || list_any q vs)
any_or p q [] = refl
any_or p q (v ∷ vs) = ap (λ b. (p v || q v) || b) (any_or p q vs) ∙ exchange (p v) (q v) (list_any p vs) (list_any q vs)

any_none : (vs : List Value) → list_any (λ v. false) vs ≡ false
any_none [] = refl
any_none (v ∷ vs) = any_none vs

one_more : (kind : FieldType) (o : Option Value) (ws vs : List Value) (b : Bool) → list_any (λ x. list_any (λ w. is_same w x) ws) vs ≡ b → list_any (λ x. list_any (λ w. is_same w x) (cons_option o ws)) vs ≡ (has_value o vs || b)
one_more kind None ws vs b e = e
one_more kind (Some w) ws vs b e = any_or (is_same w) (λ x. list_any (λ w. is_same w x) ws) vs ∙ ap (λ y. list_any (is_same w) vs || y) e

-- a value is one of those asked for exactly where one of those asked for is a value
one_of_them : (kind : FieldType) (ts : List Tree) (vs : List Value) → list_any (λ x. list_any (λ w. is_same w x) (filter_map (typed kind) ts)) vs ≡ list_any (λ t. has_value (typed kind t) vs) ts
one_of_them kind [] vs = any_none vs
one_of_them kind (t ∷ ts) vs = one_more kind (typed kind t) (filter_map (typed kind) ts) vs _ (one_of_them kind ts vs)

abbrev terms_asks : List Tree → FieldType → List Value → Bool
terms_asks scalars kind vs = list_any (λ s. has_value (typed kind s) vs) scalars

pub terms_stand : (path : List ℕ) (scalars : List Tree) (mapping : List (Named FieldType)) (kind : FieldType) (set : List Value) → value_named path mapping ≡ Some kind → IsPermutation (filter_map (typed kind) scalars) set → StandsWithin (ready.Field path (record { kind = kind; asked = OneOf set })) (query.Terms path scalars) mapping
terms_stand path scalars mapping kind set e moved =
    field_stands (terms_asks scalars) path (query.Terms path scalars) (λ seen. holds-Terms seen path scalars) kind (OneOf set) (λ x. list_any (λ w. is_same w x) (filter_map (typed kind) scalars))
    (λ x. sym (list_any-IsPermutation (λ w. is_same w x) (filter_map (typed kind) scalars) set moved))
    (λ vs. sym (one_of_them kind scalars vs)) mapping e

pub terms_unmapped : (path : List ℕ) (scalars : List Tree) (mapping : List (Named FieldType)) → value_named path mapping ≡ None → StandsWithin (ready.Always false) (query.Terms path scalars) mapping
terms_unmapped path scalars = unmapped (terms_asks scalars) path (query.Terms path scalars) (λ seen. holds-Terms seen path scalars)

abbrev range_asks : Bounds → FieldType → List Value → Bool
range_asks b kind vs = has_in_range kind b vs

pub range_stands : (path : List ℕ) (b : Bounds) (mapping : List (Named FieldType)) (kind : FieldType) (low high : Option Value) → value_named path mapping ≡ Some kind → bound_of kind b.low ≡ Some low → bound_of kind b.high ≡ Some high → StandsWithin (ready.Field path (record { kind = kind; asked = Within (record { low = low; low_open = b.low_open; high = high; high_open = b.high_open }) })) (query.Range path b) mapping
range_stands path b mapping kind low high e el eh =
    field_stands (range_asks b) path (query.Range path b) (λ seen. holds-Range seen path b) kind (Within (record { low = low; low_open = b.low_open; high = high; high_open = b.high_open })) (λ v. is_over b.low_open low v && is_under b.high_open high v)
    (λ x. refl)
    (λ vs. ap₂ (λ l h. has_within b.low_open l b.high_open h vs) el eh) mapping e

pub range_unmapped : (path : List ℕ) (b : Bounds) (mapping : List (Named FieldType)) → value_named path mapping ≡ None → StandsWithin (ready.Always false) (query.Range path b) mapping
range_unmapped path b = unmapped (range_asks b) path (query.Range path b) (λ seen. holds-Range seen path b)

no_high : (low_open high_open : Bool) (low : Option (Option Value)) (vs : List Value) → has_within low_open low high_open None vs ≡ false
no_high low_open high_open None vs = refl
no_high low_open high_open (Some low) vs = refl

pub range_low_untyped : (path : List ℕ) (b : Bounds) (mapping : List (Named FieldType)) (kind : FieldType) → value_named path mapping ≡ Some kind → bound_of kind b.low ≡ None → StandsWithin (ready.Always false) (query.Range path b) mapping
range_low_untyped path b mapping kind e el =
    never_stands (range_asks b) path (query.Range path b) (λ seen. holds-Range seen path b) mapping
    (λ k is vs. ap (λ x. has_in_range x b vs) (same_Some k kind (sym is ∙ e)) ∙ ap (λ l. has_within b.low_open l b.high_open (bound_of kind b.high) vs) el)

pub range_high_untyped : (path : List ℕ) (b : Bounds) (mapping : List (Named FieldType)) (kind : FieldType) → value_named path mapping ≡ Some kind → bound_of kind b.high ≡ None → StandsWithin (ready.Always false) (query.Range path b) mapping
range_high_untyped path b mapping kind e eh =
    never_stands (range_asks b) path (query.Range path b) (λ seen. holds-Range seen path b) mapping
    (λ k is vs. ap (λ x. has_in_range x b vs) (same_Some k kind (sym is ∙ e)) ∙ ap (λ h. has_within b.low_open (bound_of kind b.low) b.high_open h vs) eh ∙ no_high b.low_open b.high_open (bound_of kind b.low) vs)

has_any-list_any : (vs : List Value) → list_any (λ v. true) vs ≡ has_any vs
has_any-list_any [] = refl
has_any-list_any (v ∷ vs) = refl

abbrev exists_asks : FieldType → List Value → Bool
exists_asks kind vs = has_any vs

pub exists_stands : (path : List ℕ) (mapping : List (Named FieldType)) (kind : FieldType) → value_named path mapping ≡ Some kind → StandsWithin (ready.Field path (record { kind = kind; asked = Any })) (query.Exists path) mapping
exists_stands path mapping kind e = field_stands exists_asks path (query.Exists path) (λ seen. holds-Exists seen path) kind Any (λ v. true) (λ x. refl) (λ vs. sym (has_any-list_any vs)) mapping e

pub exists_unmapped : (path : List ℕ) (mapping : List (Named FieldType)) → value_named path mapping ≡ None → StandsWithin (ready.Always false) (query.Exists path) mapping
exists_unmapped path = unmapped exists_asks path (query.Exists path) (λ seen. holds-Exists seen path)

pub all_stands : (mapping : List (Named FieldType)) → StandsWithin (ready.Always true) query.All mapping
all_stands mapping written t within = ready-Always written t true ∙ sym (holds-All (seen_under written t))

pub nothing_stands : (mapping : List (Named FieldType)) → StandsWithin (ready.Always false) query.Nothing mapping
nothing_stands mapping written t within = ready-Always written t false ∙ sym (holds-Nothing (seen_under written t))

pub bool_stands : (must filter should must_not : List Matcher) (c : Clauses Query) (mapping : List (Named FieldType)) → AllStand must c.must mapping → AllStand filter c.filter mapping → AllStand should c.should mapping → AllStand must_not c.must_not mapping → StandsWithin (ready.Bool (record { must = must; filter = filter; should = should; must_not = must_not; minimum = c.minimum })) (query.Bool c) mapping
bool_stands must filter should must_not c mapping em ef es en written t within =
    let hold : List Bool → List Bool → List Bool → List Bool → Bool = λ m f s n. clauses_hold (record { must = m; filter = f; should = s; must_not = n; minimum = c.minimum }) in
    let is : Query → Bool = query_holds written t in
    ready-Bool written t (record { must = must; filter = filter; should = should; must_not = must_not; minimum = c.minimum })
    ∙ ap₂ (λ m f. hold m f (map (matcher_holds written t) should) (map (matcher_holds written t) must_not)) (em written t within) (ef written t within)
    ∙ ap₂ (λ s n. hold (map is c.must) (map is c.filter) s n) (es written t within) (en written t within)
    ∙ sym (holds-Bool (seen_under written t) c)

pub ruleset term_laws = (term_stands, term_unmapped, term_untyped)

pub ruleset terms_laws = (terms_stand, terms_unmapped)

pub ruleset range_laws = (range_stands, range_unmapped, range_low_untyped, range_high_untyped)

pub ruleset exists_laws = (exists_stands, exists_unmapped)

pub ruleset query_laws = (all_stands, nothing_stands, bool_stands)
