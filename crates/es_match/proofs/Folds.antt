-- Queries, and those that were made ready, level by level.
use Rattle.std.proofs.Common.{◌≡◌, ℕ, Bool, true, false, ◌&&◌, List, map, rules}
use Rattle.std.specs.Prelude.{is_some}
use Rattle.std.specs.List.{list_any}
use Rattle.es_tree.specs.declared.tree.Tree.{Tree}
use Rattle.es_tree.specs.declared.tree.Named.{Named}
use Rattle.es_tree.specs.Find.{value_named}
use Rattle.es_path.specs.Scalars.{scalars_at}
use Rattle.es_query.specs.declared.kinds.Bounds.{Bounds}
use Rattle.es_query.specs.declared.kinds.Clauses.{Clauses}
use Rattle.es_query.specs.declared.kinds.Query.{Query, the_lemmas}
use Rattle.es_query.specs.declared.kinds.Query as query
use Rattle.es_query.specs.declared.kinds.Query.TheOpen.{Query-F}
use Rattle.es_value.specs.declared.kinds.FieldType.{FieldType}
use Rattle.es_match.specs.declared.matcher.FieldTest.{FieldTest}
use Rattle.es_match.specs.declared.matcher.Matcher.{Matcher, the_lemmas as matcher_lemmas}
use Rattle.es_match.specs.declared.matcher.Matcher as ready
use Rattle.es_match.specs.Asked.{asks_of}
use Rattle.es_match.specs.Seen.{Seen}
use Rattle.es_match.specs.Holds.{holds_on, holds_step, clauses_hold}
use Rattle.es_match.specs.Ready.{matcher_holds, matcher_step}

abbrev pub each_of : {A B : Type 0} → (A → B) → Clauses A → Clauses B
each_of f c = record { must = map f c.must; filter = map f c.filter; should = map f c.should; must_not = map f c.must_not; minimum = c.minimum }

module _ (seen : Seen) where
  pub holds-All : holds_on seen query.All ≡ true
  unfolding holds_on
  holds-All = search (rules, the_lemmas)

  pub holds-Nothing : holds_on seen query.Nothing ≡ false
  unfolding holds_on
  holds-Nothing = search (rules, the_lemmas)

  pub holds-Term : (path : List ℕ) (s : Tree) → holds_on seen (query.Term path s) ≡ holds_step seen (Query-F.Term path s)
  unfolding holds_on
  holds-Term path s = search (rules, the_lemmas)

  pub holds-Terms : (path : List ℕ) (ss : List Tree) → holds_on seen (query.Terms path ss) ≡ holds_step seen (Query-F.Terms path ss)
  unfolding holds_on
  holds-Terms path ss = search (rules, the_lemmas)

  pub holds-Range : (path : List ℕ) (b : Bounds) → holds_on seen (query.Range path b) ≡ holds_step seen (Query-F.Range path b)
  unfolding holds_on
  holds-Range path b = search (rules, the_lemmas)

  pub holds-Exists : (path : List ℕ) → holds_on seen (query.Exists path) ≡ holds_step seen (Query-F.Exists path)
  unfolding holds_on
  holds-Exists path = search (rules, the_lemmas)

  pub holds-Bool : (c : Clauses Query) → holds_on seen (query.Bool c) ≡ clauses_hold (each_of (holds_on seen) c)
  unfolding holds_on
  holds-Bool c = search (rules, the_lemmas)

module _ (written : List (Named FieldType)) (t : Tree) where
  pub ready-Always : (b : Bool) → matcher_holds written t (ready.Always b) ≡ b
  unfolding matcher_holds
  ready-Always b = search (rules, matcher_lemmas)

  pub ready-Field : (path : List ℕ) (test : FieldTest) → matcher_holds written t (ready.Field path test) ≡ (list_any (asks_of test.kind test.asked) (scalars_at path t) && is_some (value_named path written))
  unfolding matcher_holds
  ready-Field path test = search (rules, matcher_lemmas)

  pub ready-Bool : (c : Clauses Matcher) → matcher_holds written t (ready.Bool c) ≡ clauses_hold (each_of (matcher_holds written t) c)
  unfolding matcher_holds
  ready-Bool c = search (rules, matcher_lemmas)
