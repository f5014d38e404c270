-- Induction over a query.
use Rattle.std.proofs.Common.{◌≡◌, ℕ, List, [], ◌∷◌, map, Option, sym, subst}
use Rattle.std.specs.List.{AllByRecursion}
use Rattle.es_tree.specs.declared.tree.Tree.{Tree}
use Rattle.es_query.specs.declared.kinds.Bounds.{Bounds}
use Rattle.es_query.specs.declared.kinds.Clauses.{Clauses}
use Rattle.es_query.specs.declared.kinds.Query.{Query, Query-F, roll-Query, ind-Query, map-Query}
use Rattle.es_query.specs.declared.kinds.Query as query
use Rattle.es_query.specs.declared.kinds.Query.TheVariants.{rolls-All, rolls-Nothing, rolls-Term, rolls-Terms, rolls-Range, rolls-Exists, rolls-Bool}

abbrev pub each_of : {A B : Type 0} → (A → B) → Clauses A → Clauses B
each_of f c = record { must = map f c.must; filter = map f c.filter; should = map f c.should; must_not = map f c.must_not; minimum = c.minimum }

module _ (P : Query → Type 0) where
  -- the fact holds of each query of these clauses
  pub record OfEach (c : Clauses Query) : Type 0 where
    pub must : AllByRecursion P c.must
    pub filter : AllByRecursion P c.filter
    pub should : AllByRecursion P c.should
    pub must_not : AllByRecursion P c.must_not

  abbrev Shown : Type 0
  Shown = (q : Query) × P q

  all_queries : (ys : List Shown) → AllByRecursion P (map (λ e. e.0) ys)
  all_queries [] = tt
  all_queries (y ∷ ys) = (y.1, all_queries ys)

  module _
      (all : P query.All)
      (nothing : P query.Nothing)
      (term : (field : List ℕ) (t : Tree) → P (query.Term field t))
      (terms : (field : List ℕ) (ts : List Tree) → P (query.Terms field ts))
      (range : (field : List ℕ) (b : Bounds) → P (query.Range field b))
      (exists : (field : List ℕ) → P (query.Exists field))
      (bool : (c : Clauses Query) → OfEach c → P (query.Bool c)) where
    layer : (y : Query-F Shown) → P (roll-Query (map-Query Shown Query (λ e. e.0) y))
    layer Query-F.All = subst P (sym rolls-All) all
    layer Query-F.Nothing = subst P (sym rolls-Nothing) nothing
    layer (Query-F.Term field t) = subst P (sym (rolls-Term field t)) (term field t)
    layer (Query-F.Terms field ts) = subst P (sym (rolls-Terms field ts)) (terms field ts)
    layer (Query-F.Range field b) = subst P (sym (rolls-Range field b)) (range field b)
    layer (Query-F.Exists field) = subst P (sym (rolls-Exists field)) (exists field)
    layer (Query-F.Bool c) =
        let inner : Clauses Query = each_of (λ (e : Shown). e.0) c in
        subst P (sym (rolls-Bool inner)) (bool inner (record { must = all_queries c.must; filter = all_queries c.filter; should = all_queries c.should; must_not = all_queries c.must_not }))

    -- what holds of a query where it holds of the queries inside it holds of each
    pub for_queries : (q : Query) → P q
    for_queries = ind-Query P (λ x y e. subst (λ z. P (roll-Query z)) e (layer y))
