-- What stands at a key of a map whose values were replaced, and of one of which only some were kept.
use Rattle.std.proofs.Common.{◌≡◌, ℕ, Bool, true, false, cond, List, [], ◌∷◌, map as list_map, Option, Some, None, option_map, refl, sym, ap, ◌∙◌}
use Rattle.std.proofs.lemmas.Bool.{false≢true}
use Rattle.std.specs.declared.cmp.Ordering.{Ordering}
use Rattle.std.specs.declared.cmp.Ordering.TheVariants.{Less, Equal, Greater}
use Rattle.std.specs.Ordering.{is_eq, eq_by_cmp}
use Rattle.std.specs.FinMap as map
use Rattle.std.proofs.lemmas.Cmp.{nat_list_cmp_total}
use Rattle.es_catalog.specs.Catalog.{text_cmp, IndexValue}
use Rattle.es_catalog.specs.declared.index.Stored.{Stored}
use Rattle.es_compose.specs.declared.kinds.Permission.{Permission}
use Rattle.es_fetch.specs.declared.shown.Shown.{Shown}
use Rattle.es_fetch.specs.Mapped.{mapped}
use Rattle.es_fetch.specs.Permitted.{permits, is_permitted, shown, permitted_documents, permitted_index, permitted_catalog}
use Rattle.es_fetch.specs.Laws.{DocumentSeen, IndexSeen, shown_if}

is_equal : (o : Ordering) → is_eq o ≡ true → o ≡ Equal
is_equal Less e = absurd (false≢true e)
is_equal Equal e = refl
is_equal Greater e = absurd (false≢true e)

-- keys that tie are the same
same_key : (q k : List ℕ) → eq_by_cmp text_cmp q k ≡ true → q ≡ k
same_key q k e = map.slice_cmp-IsAntisymmetric map.nat_cmp-IsAntisymmetric q k (is_equal (text_cmp q k) e)

module _ {A B : Type 0} (f : List ℕ → A → B) where
  found_at : (q k : List ℕ) (x : A) (rest : Option A) (b : Bool) → eq_by_cmp text_cmp q k ≡ b → cond b (Some (f k x)) (option_map (f q) rest) ≡ option_map (f q) (cond b (Some x) rest)
  found_at q k x rest true e = ap (λ (key : List ℕ). Some (f key x)) (sym (same_key q k e))
  found_at q k x rest false e = refl

  find_mapped : (q : List ℕ) (es : List (List ℕ × A)) → map.find text_cmp q (list_map (λ e. (e.0, f e.0 e.1)) es) ≡ option_map (f q) (map.find text_cmp q es)
  find_mapped q [] = refl
  find_mapped q (e ∷ es) =
      ap (λ (o : Option B). cond (eq_by_cmp text_cmp q e.0) (Some (f e.0 e.1)) o) (find_mapped q es)
      ∙ found_at q e.0 e.1 (map.find text_cmp q es) (eq_by_cmp text_cmp q e.0) refl

  pub get_mapped : (m : map.FinMap text_cmp A) (q : List ℕ) → map.get (mapped f m) q ≡ option_map (f q) (map.get m q)
  get_mapped m q =
      map.get-from_entries nat_list_cmp_total (list_map (λ e. (e.0, f e.0 e.1)) (map.entries m)) q
      ∙ find_mapped q (map.entries m)
      ∙ ap (option_map (f q)) (sym (map.get-entries m q))

-- what stands where only the keys that pass a test are kept
get_kept : {A : Type 0} (m : map.FinMap text_cmp A) (p : List ℕ → Bool) (q : List ℕ) → map.get (map.retain_keys m p) q ≡ cond (p q) (map.get m q) None
get_kept m p q = map.get-retain_keys m p q (λ x e. ap p (sym (map.slice_cmp-IsAntisymmetric map.nat_cmp-IsAntisymmetric q x e)))

module _ (permission : Permission) (documents : map.FinMap text_cmp Stored) (id : List ℕ) where
  at_permitted : (b : Bool) (stored : Stored) → option_map (shown permission.fields) (cond b (Some stored) None) ≡ cond b (Some (shown permission.fields stored)) None
  at_permitted true stored = refl
  at_permitted false stored = refl

  at_document : (found : Option Stored) → option_map (shown permission.fields) (cond (is_permitted permission.docs found) found None) ≡ shown_if permission found
  at_document None = refl
  at_document (Some stored) = at_permitted (permits permission.docs stored) stored

  document_at_id : map.get (permitted_documents permission documents) id ≡ shown_if permission (map.get documents id)
  unfolding permitted_documents
  document_at_id =
      get_mapped (λ (_ : List ℕ). shown permission.fields) (map.retain_keys documents (λ (key : List ℕ). is_permitted permission.docs (map.get documents key))) id
      ∙ ap (option_map (shown permission.fields)) (get_kept documents (λ (key : List ℕ). is_permitted permission.docs (map.get documents key)) id)
      ∙ at_document (map.get documents id)

pub document_seen : DocumentSeen
document_seen permission documents id = document_at_id permission documents id

at_index : (permission : Permission) (b : Bool) (found : Option IndexValue) → option_map (permitted_index permission) (cond b found None) ≡ cond b (option_map (permitted_index permission) found) None
at_index permission true found = refl
at_index permission false found = refl

pub index_seen : IndexSeen
unfolding permitted_catalog
index_seen permission catalog name =
    get_mapped (λ (key : List ℕ). permitted_index (permission key)) (map.retain_keys catalog (λ (key : List ℕ). (permission key).granted)) name
    ∙ ap (option_map (permitted_index (permission name))) (get_kept catalog (λ (key : List ℕ). (permission key).granted) name)
    ∙ at_index (permission name) (permission name).granted (map.get catalog name)

-- what is got at an id: nothing where no document stands, the document as it is shown where it is permitted, and nothing where it isn't
module _ (permission : Permission) (index : IndexValue) (id : List ℕ) where
  got : (found : Option Stored) → found ≡ map.get index.documents id → shown_if permission found ≡ map.get (permitted_index permission index).documents id
  unfolding permitted_index
  got found e = ap (shown_if permission) e ∙ sym (document_seen permission index.documents id)

  pub got_none : None ≡ map.get index.documents id → None ≡ map.get (permitted_index permission index).documents id
  got_none e = got None e

  pub got_shown : (stored : Stored) (it : Shown) → Some stored ≡ map.get index.documents id → permits permission.docs stored ≡ true → it ≡ shown permission.fields stored
      → Some it ≡ map.get (permitted_index permission index).documents id
  got_shown stored it e is same =
      let there : shown_if permission (Some stored) ≡ Some (shown permission.fields stored) = rw is refl in
      ap (λ s. Some s) same ∙ sym there ∙ got (Some stored) e

  pub got_hidden : (stored : Stored) → Some stored ≡ map.get index.documents id → permits permission.docs stored ≡ false → None ≡ map.get (permitted_index permission index).documents id
  got_hidden stored e is =
      let there : shown_if permission (Some stored) ≡ None = rw is refl in
      sym there ∙ got (Some stored) e
