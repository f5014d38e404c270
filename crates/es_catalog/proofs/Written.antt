-- An index after a change of its documents.
use Rattle.std.proofs.Common.{◌≡◌, ◌<◌, ◌^◌, ℕ, List, [], Bool, true, false, cond, Option, Some, None, IfSome, refl, sym, ap, ◌∙◌, subst}
use Rattle.std.specs.Ordering.{eq_by_cmp}
use Rattle.std.specs.Map.{lookup, remove_entry}
use Rattle.std.specs.BTreeMap.{insert_entry, is_at}
use Rattle.std.specs.FinMap as map
use Rattle.std.proofs.lemmas.Cmp.{nat_list_cmp_total}
use Rattle.es_tree.specs.declared.tree.Tree.{Tree}
use Rattle.es_tree.specs.declared.tree.Named.{Named}
use Rattle.es_value.specs.declared.kinds.FieldType.{FieldType}
use Rattle.es_mapping.specs.Mappings.{IsWithin}
use Rattle.es_catalog.specs.declared.index.Stored.{Stored}
use Rattle.es_catalog.specs.Catalog.{text_cmp, IndexValue, HasWritten}
use Rattle.es_catalog.specs.Changes.{version_of, number_of, version_after, with_document, without_document}
use Rattle.es_map.specs.Views.{map_of}
use Rattle.es_catalog.specs.Views.{index_of, IsKept}
use Rattle.es_map.proofs.Kept.{none_rising, none_kept, get_kept, insert_rising, insert_kept, insert_seen, remove_rising, remove_kept}

module _ (incarnation : ℕ) (mapping : List (Named FieldType)) where
  abbrev WrittenWithin : map.FinMap text_cmp Stored → Type 0
  WrittenWithin documents = HasWritten (record { incarnation = incarnation; mapping = mapping; documents = documents })

  abbrev IfWithin : Option Stored → Type 0
  IfWithin stored = IfSome stored (λ s. IsWithin s.written mapping)

  insert_written : (documents : map.FinMap text_cmp Stored) (id : List ℕ) (stored : Stored) → WrittenWithin documents → IsWithin stored.written mapping → WrittenWithin (map.insert documents id stored)
  insert_written documents id stored w h q = subst IfWithin (sym (map.get-insert nat_list_cmp_total documents id stored q)) (by (eq_by_cmp text_cmp q id))
    where
      by : (b : Bool) → IfWithin (cond b (Some stored) (map.get documents q))
      by true = h
      by false = w q

  remove_written : (documents : map.FinMap text_cmp Stored) (id : List ℕ) → WrittenWithin documents → WrittenWithin (map.remove documents id)
  remove_written documents id w q = subst IfWithin (sym (map.get-remove nat_list_cmp_total documents id q)) (by (eq_by_cmp text_cmp q id))
    where
      by : (b : Bool) → IfWithin (cond b None (map.get documents q))
      by true = tt
      by false = w q

  none_written : WrittenWithin map.empty
  none_written q = subst IfWithin (sym (map.get-empty text_cmp q)) tt

-- ---- an index by its parts
pub none_sound : (incarnation : ℕ) (mapping : List (Named FieldType)) (es : List (List ℕ × Stored)) → es ≡ [] → IsKept incarnation mapping es
none_sound incarnation mapping es e = record { rising = none_rising es e; written = subst (WrittenWithin incarnation mapping) (sym (none_kept es e)) (none_written incarnation mapping) }

pub none_is : (incarnation : ℕ) (mapping : List (Named FieldType)) (es : List (List ℕ × Stored)) → es ≡ [] → index_of incarnation mapping es ≡ record { incarnation = incarnation; mapping = mapping; documents = map.empty }
none_is incarnation mapping es e = ap (λ (ds : map.FinMap text_cmp Stored). record { incarnation = incarnation; mapping = mapping; documents = ds }) (none_kept es e)

module _ (incarnation : ℕ) (mapping : List (Named FieldType)) (es : List (List ℕ × Stored)) (sound : IsKept incarnation mapping es) (id : List ℕ) where
  -- what a look-up of the id finds
  pub told : (found : Option Stored) (asked : List ℕ) → asked ≡ id → found ≡ lookup (is_at (text_cmp asked)) es → found ≡ map.get (map_of es) id
  told found asked same is = is ∙ ap (λ (q : List ℕ). lookup (is_at (text_cmp q)) es) same ∙ sym (get_kept es sound.rising id)

  pub told_small : (found : Option Stored) (asked : List ℕ) (seen : IndexValue) → index_of incarnation mapping es ≡ seen → asked ≡ id → found ≡ lookup (is_at (text_cmp asked)) es → number_of (version_of (map.get seen.documents id)) < 2 ^ 63 → number_of (version_of found) < 2 ^ 63
  told_small found asked seen view same is small =
      subst (λ (stored : Option Stored). number_of (version_of stored) < 2 ^ 63) (sym (told found asked same is ∙ ap (λ (index : IndexValue). map.get index.documents id) view)) small

  -- a document at the id, which is written under the index's mapping
  pub insert_sound : (shared : List (Named FieldType)) (copy : List ℕ) (stored : Stored) (more : List (List ℕ × Stored)) → shared ≡ mapping → more ≡ insert_entry text_cmp es copy stored → stored.written ≡ mapping → IsWithin mapping mapping → IsKept incarnation shared more
  insert_sound shared copy stored more same is written itself =
      let within : IsWithin stored.written mapping = subst (λ (m : List (Named FieldType)). IsWithin m mapping) (sym written) itself in
      let kept : IsKept incarnation mapping (insert_entry text_cmp es copy stored) = record {
        rising = insert_rising es sound.rising copy stored;
        written = subst (WrittenWithin incarnation mapping) (sym (insert_kept es sound.rising copy stored)) (insert_written incarnation mapping (map_of es) copy stored sound.written within);
      } in
      subst (λ (m : List (Named FieldType)). IsKept incarnation m more) (sym same) (subst (IsKept incarnation mapping) (sym is) kept)

  pub insert_is : (shared : List (Named FieldType)) (copy : List ℕ) (stored : Stored) (document : Tree) (more : List (List ℕ × Stored)) → shared ≡ mapping → copy ≡ id → more ≡ insert_entry text_cmp es copy stored
      → stored.version ≡ version_after (version_of (map.get (map_of es) id)) → stored.document ≡ document → stored.written ≡ mapping
      → index_of incarnation shared more ≡ with_document (index_of incarnation mapping es) id document
  insert_is shared copy stored document more same copied is version whole written =
      let put : stored ≡ record { version = version_after (version_of (map.get (map_of es) id)); document = document; written = mapping } = λ i. record { version = version i; document = whole i; written = written i } in
      let documents : map_of more ≡ map.insert (map_of es) id (record { version = version_after (version_of (map.get (map_of es) id)); document = document; written = mapping }) =
      insert_seen es sound.rising (map_of es) refl id copy stored more copied is ∙ ap (map.insert (map_of es) id) put
      in
      λ i. record { incarnation = incarnation; mapping = same i; documents = documents i }

  -- without the document at the id
  pub remove_sound : (shared : List (Named FieldType)) (less : List (List ℕ × Stored)) → shared ≡ mapping → less ≡ remove_entry (is_at (text_cmp id)) es → IsKept incarnation shared less
  remove_sound shared less same is =
      let kept : IsKept incarnation mapping (remove_entry (is_at (text_cmp id)) es) = record {
        rising = remove_rising es sound.rising id;
        written = subst (WrittenWithin incarnation mapping) (sym (remove_kept es sound.rising id)) (remove_written incarnation mapping (map_of es) id sound.written);
      } in
      subst (λ (m : List (Named FieldType)). IsKept incarnation m less) (sym same) (subst (IsKept incarnation mapping) (sym is) kept)

  pub remove_is : (shared : List (Named FieldType)) (less : List (List ℕ × Stored)) → shared ≡ mapping → less ≡ remove_entry (is_at (text_cmp id)) es → index_of incarnation shared less ≡ without_document (index_of incarnation mapping es) id
  remove_is shared less same is = λ i. record { incarnation = incarnation; mapping = same i; documents = (ap map_of is ∙ remove_kept es sound.rising id) i }
