-- A read of an index that is granted and stands, and of one that doesn't.
use Rattle.std.proofs.Common.{◌≡◌, ℕ, IfOk, List, Option, None, Bool, true, false, option_map, refl, sym, ap, ◌∙◌, if◌then◌else◌}
use Rattle.std.specs.declared.result.Result.{Result}
use Rattle.std.specs.FinMap as map
use Rattle.std.proofs.lemmas.Result.{IfOk-weaker}
use Rattle.es_response.specs.Reply.{ReplyValue}
use Rattle.es_catalog.specs.Catalog.{IndexValue, CatalogValue}
use Rattle.es_compose.specs.declared.kinds.Permission.{Permission}
use Rattle.es_fetch.specs.Permitted.{permitted_index, permitted_catalog}
use Rattle.es_fetch.proofs.Maps.{index_seen}

granted_first : (p : Permission) (b : Bool) (found : Option IndexValue) → (if b then option_map (permitted_index p) found else None) ≡ option_map (permitted_index p) (if b then found else None)
granted_first p true found = refl
granted_first p false found = refl

-- what is seen at a name, by what stands there and is granted
pub seen_index : (permission : List ℕ → Permission) (p : Permission) (catalog : CatalogValue) (name : List ℕ) (found : Option IndexValue) → p ≡ permission name
    → found ≡ (if p.granted then map.get catalog name else None) → map.get (permitted_catalog permission catalog) name ≡ option_map (permitted_index p) found
seen_index permission p catalog name found is e =
    index_seen permission catalog name ∙ rw (← is) (granted_first p p.granted (map.get catalog name)) ∙ ap (option_map (permitted_index p)) (sym e)

-- a reply that a call gives is this one, and so any that equals it
pub same_reply : {E : Type 0} (r : Result ReplyValue E) (one other : ReplyValue) → IfOk r (λ reply. reply ≡ one) → one ≡ other → IfOk r (λ reply. reply ≡ other)
same_reply r one other h e = IfOk-weaker r (λ reply. reply ≡ one) (λ reply. reply ≡ other) (λ reply is. is ∙ e) h
