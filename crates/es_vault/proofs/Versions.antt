-- The versions stay below the place.
use Rattle.std.proofs.Common.{ℕ, ◌+◌, ◌<◌, ◌≤◌, ◌^◌, Bool, true, false, cond, List, Option, Some, None, sym, subst, arith}
use Rattle.std.specs.Ordering.{eq_by_cmp}
use Rattle.std.specs.FinMap as map
use Rattle.std.proofs.lemmas.Cmp.{nat_list_cmp_total}
use Rattle.es_tree.specs.declared.tree.Tree.{Tree}
use Rattle.es_tree.specs.declared.tree.Named.{Named}
use Rattle.es_value.specs.declared.kinds.FieldType.{FieldType}
use Rattle.es_catalog.specs.declared.index.Stored.{Stored}
use Rattle.es_catalog.specs.declared.change.DocChange.{DocChange}
use Rattle.es_catalog.specs.declared.change.DocChange.TheVariants.{CreateIndex, DeleteIndex, Put, Delete}
use Rattle.es_catalog.specs.Catalog.{text_cmp, IndexValue, CatalogValue, document_in}
use Rattle.es_catalog.specs.Changes.{version_of, number_of, version_after, with_document, without_document, put_into, delete_from, with_doc, CanGrow}
use Rattle.es_vault.specs.Versions.{HasVersionsUpTo}

-- the version of a document of an index, if both stand
abbrev version_in : Option IndexValue → List ℕ → ℕ
version_in index id = number_of (version_of (document_in index id))

-- no document of the index has a version above this one
abbrev IndexUpTo : ℕ → Option IndexValue → Type 0
IndexUpTo n index = (id : List ℕ) → version_in index id ≤ n

-- no index, no version
pub versions_none : (n : ℕ) → HasVersionsUpTo n map.empty
versions_none n name id = subst (λ (o : Option IndexValue). version_in o id ≤ n) (sym (map.get-empty text_cmp name)) (omega arith)

-- what holds of a number holds of a greater one
pub versions_later : (m : CatalogValue) (n : ℕ) → HasVersionsUpTo n m → HasVersionsUpTo (n + 1) m
versions_later m n h name id = let old = h name id in omega arith

-- one of two indices
either_index : (b : Bool) (o p : Option IndexValue) (id : List ℕ) (n : ℕ) → version_in o id ≤ n → version_in p id ≤ n → version_in (cond b o p) id ≤ n
either_index true o p id n h k = h
either_index false o p id n h k = k

-- the index at one name is this one now
with_index : (m : CatalogValue) (name : List ℕ) (x : IndexValue) (n : ℕ) → HasVersionsUpTo n m → IndexUpTo (n + 1) (Some x) → HasVersionsUpTo (n + 1) (map.insert m name x)
with_index m name x n h new q id =
    let old = h q id in
    subst (λ (o : Option IndexValue). version_in o id ≤ n + 1) (sym (map.get-insert nat_list_cmp_total m name x q))
    (either_index (eq_by_cmp text_cmp q name) (Some x) (map.get m q) id (n + 1) (new id) (omega arith))

-- no index stands at one name now
without_index : (m : CatalogValue) (name : List ℕ) (n : ℕ) → HasVersionsUpTo n m → HasVersionsUpTo (n + 1) (map.remove m name)
without_index m name n h q id =
    let old = h q id in
    subst (λ (o : Option IndexValue). version_in o id ≤ n + 1) (sym (map.get-remove nat_list_cmp_total m name q))
    (either_index (eq_by_cmp text_cmp q name) None (map.get m q) id (n + 1) (omega arith) (omega arith))

-- an index without documents has no versions
fresh : (number : ℕ) (mapping : List (Named FieldType)) (n : ℕ) → IndexUpTo n (Some (record { incarnation = number; mapping = mapping; documents = map.empty }))
fresh number mapping n id = subst (λ (o : Option Stored). number_of (version_of o) ≤ n) (sym (map.get-empty text_cmp id)) (omega arith)

-- one of two documents
either_document : (b : Bool) (o p : Option Stored) (n : ℕ) → number_of (version_of o) ≤ n → number_of (version_of p) ≤ n → number_of (version_of (cond b o p)) ≤ n
either_document true o p n h k = h
either_document false o p n h k = k

next_version : (o : Option Stored) (n : ℕ) → number_of (version_of o) ≤ n → version_after (version_of o) ≤ n + 1
next_version None n h = omega arith
next_version (Some stored) n h = omega arith

put_document : (x : IndexValue) (id : List ℕ) (document : Tree) (n : ℕ) → IndexUpTo n (Some x) → IndexUpTo (n + 1) (Some (with_document x id document))
put_document x id document n h i =
    let old = h i in
    subst (λ (o : Option Stored). number_of (version_of o) ≤ n + 1) (sym (map.get-insert nat_list_cmp_total x.documents id _ i))
    (either_document (eq_by_cmp text_cmp i id) (Some _) (map.get x.documents i) (n + 1) (next_version (map.get x.documents id) n (h id)) (omega arith))

delete_document : (x : IndexValue) (id : List ℕ) (n : ℕ) → IndexUpTo n (Some x) → IndexUpTo (n + 1) (Some (without_document x id))
delete_document x id n h i =
    let old = h i in
    subst (λ (o : Option Stored). number_of (version_of o) ≤ n + 1) (sym (map.get-remove nat_list_cmp_total x.documents id i))
    (either_document (eq_by_cmp text_cmp i id) None (map.get x.documents i) (n + 1) (omega arith) (omega arith))

put_in : (m : CatalogValue) (name : List ℕ) (o : Option IndexValue) (id : List ℕ) (document : Tree) (n : ℕ) → HasVersionsUpTo n m → IndexUpTo n o
    → HasVersionsUpTo (n + 1) (put_into m name o id document)
put_in m name None id document n h k = versions_later m n h
put_in m name (Some x) id document n h k = with_index m name (with_document x id document) n h (put_document x id document n k)

deleted_in : (m : CatalogValue) (name : List ℕ) (o : Option IndexValue) (id : List ℕ) (n : ℕ) → HasVersionsUpTo n m → IndexUpTo n o
    → HasVersionsUpTo (n + 1) (delete_from m name o id)
deleted_in m name None id n h k = versions_later m n h
deleted_in m name (Some x) id n h k = with_index m name (without_document x id) n h (delete_document x id n k)

-- a change makes no version that is more than one above
pub versions_doc : (m : CatalogValue) (number n : ℕ) (change : DocChange) → HasVersionsUpTo n m → HasVersionsUpTo (n + 1) (with_doc m number change)
unfolding with_doc
versions_doc m number n (CreateIndex name mapping) h = with_index m name _ n h (fresh number mapping (n + 1))
versions_doc m number n (DeleteIndex name) h = without_index m name n h
versions_doc m number n (Put name id document) h = put_in m name (map.get m name) id document n h (h name)
versions_doc m number n (Delete name id) h = deleted_in m name (map.get m name) id n h (h name)

-- versions below the limit can grow
pub can_grow : (m : CatalogValue) (n : ℕ) (change : DocChange) → HasVersionsUpTo n m → n < 2 ^ 63 → CanGrow m change
can_grow m n (CreateIndex name mapping) h small = tt
can_grow m n (DeleteIndex name) h small = tt
can_grow m n (Put name id document) h small = let old = h name id in omega arith
can_grow m n (Delete name id) h small = tt
