-- The indices after a change, by its kind.
use Rattle.std.proofs.Common.{◌≡◌, ℕ, List, IfOk, sym, ap, ◌∙◌, subst}
use Rattle.std.specs.declared.result.Result.{Result}
use Rattle.std.specs.FinMap as map
use Rattle.es_tree.specs.declared.tree.Tree.{Tree}
use Rattle.es_tree.specs.declared.tree.Named.{Named}
use Rattle.es_value.specs.declared.kinds.FieldType.{FieldType}
use Rattle.es_map.proofs.Forks.{ok_same}
use Rattle.es_catalog.specs.declared.change.DocChange.{DocChange}
use Rattle.es_catalog.specs.declared.change.DocChange.TheVariants.{CreateIndex, DeleteIndex, Put, Delete}
use Rattle.es_catalog.specs.Catalog.{IndexValue, CatalogValue}
use Rattle.es_catalog.specs.Changes.{with_doc, put_into, delete_from}

module _ {E : Type 0} (r : Result CatalogValue E) (catalog : CatalogValue) (number : ℕ) (change : DocChange) where
  pub created : (name : List ℕ) (mapping shared : List (Named FieldType)) (index : IndexValue) → change ≡ CreateIndex name mapping → shared ≡ mapping
      → index ≡ record { incarnation = number; mapping = shared; documents = map.empty } → IfOk r (λ m. m ≡ map.insert catalog name index) → IfOk r (λ m. m ≡ with_doc catalog number change)
  unfolding with_doc
  created name mapping shared index is same made h =
      let whole : index ≡ record { incarnation = number; mapping = mapping; documents = map.empty } = made ∙ (λ i. record { incarnation = number; mapping = same i; documents = map.empty }) in
      subst (λ (d : DocChange). IfOk r (λ m. m ≡ with_doc catalog number d)) (sym is) (ok_same r _ _ h (ap (map.insert catalog name) whole))

  pub deleted : (name text : List ℕ) → change ≡ DeleteIndex name → text ≡ name → IfOk r (λ m. m ≡ map.remove catalog text) → IfOk r (λ m. m ≡ with_doc catalog number change)
  unfolding with_doc
  deleted name text is same h = subst (λ (d : DocChange). IfOk r (λ m. m ≡ with_doc catalog number d)) (sym is) (ok_same r _ _ h (ap (map.remove catalog) same))

  pub document_put : (name id : List ℕ) (document : Tree) → change ≡ Put name id document → IfOk r (λ m. m ≡ put_into catalog name (map.get catalog name) id document) → IfOk r (λ m. m ≡ with_doc catalog number change)
  unfolding with_doc
  document_put name id document is h = subst (λ (d : DocChange). IfOk r (λ m. m ≡ with_doc catalog number d)) (sym is) h

  pub document_deleted : (name id text : List ℕ) → change ≡ Delete name id → text ≡ id → IfOk r (λ m. m ≡ delete_from catalog name (map.get catalog name) text) → IfOk r (λ m. m ≡ with_doc catalog number change)
  unfolding with_doc
  document_deleted name id text is same h = subst (λ (d : DocChange). IfOk r (λ m. m ≡ with_doc catalog number d)) (sym is) (ok_same r _ _ h (ap (delete_from catalog name (map.get catalog name)) same))
