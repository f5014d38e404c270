-- What is seen of a projected mapping and of a document under it.
use Rattle.std.proofs.Common.{◌≡◌, ℕ, List, [], ◌∷◌, map, Bool, true, false, Option, Some, None, refl, sym, ap, ◌∙◌, arith}
use Rattle.std.specs.Prelude.{if◌then◌else◌}
use Rattle.std.specs.List.{filter, AllByRecursion}
use Rattle.std.specs.Str.{bytes_eq}
use Rattle.std.proofs.lemmas.List.Elements.{recursion_from_All, All-from_recursion}
use Rattle.std.proofs.lemmas.Slice.Eq.{bytes_eq-Decides}
use Rattle.es_glob.specs.declared.field.FieldRule.{FieldRule}
use Rattle.es_glob.specs.Fields.{rule_grants}
use Rattle.es_tree.specs.declared.tree.Tree.{Tree}
use Rattle.es_tree.specs.declared.tree.Named.{Named}
use Rattle.es_tree.specs.declared.kinds.Leaf.{Leaf}
use Rattle.es_tree.specs.Find.{value_named}
use Rattle.es_tree.specs.Leaves.{leaves_of}
use Rattle.es_path.specs.Scalars.{scalars_at}
use Rattle.es_value.specs.declared.kinds.FieldType.{FieldType}
use Rattle.es_value.specs.declared.kinds.Value.{Value}
use Rattle.es_mapping.specs.Checking.{typed_at, values_of}
use Rattle.es_fields.specs.Projection.{project_of, projected_mapping}
use Rattle.es_fields.specs.Laws.{WholeMapping, TypeSeen, ValuesSeen, ValuesAlike, StaysWithin}
use Rattle.es_fields.proofs.Granted.{rule_all, leaves_granted}

abbrev Fields : Type 0
Fields = List (Named FieldType)

-- ---- types

module _ (granted : List ℕ → Bool) where
  abbrev kept : Fields → Fields
  kept fields = filter (λ field. granted field.name) fields

  one_field : (keep is : Bool) (path : List ℕ) (f : Named FieldType) (fs : Fields) → granted f.name ≡ keep → bytes_eq f.name path ≡ is
      → value_named path (kept fs) ≡ (if granted path then value_named path fs else None)
      → value_named path (if keep then f ∷ kept fs else kept fs) ≡ (if granted path then (if is then Some f.value else value_named path fs) else None)
  one_field true true path f fs keep is more =
      let same : f.name ≡ path = (bytes_eq-Decides f.name path).0 is in
      rw (is, sym (ap granted same) ∙ keep) refl
  one_field true false path f fs keep is more = rw is more
  one_field false true path f fs keep is more =
      let same : f.name ≡ path = (bytes_eq-Decides f.name path).0 is in
      let gone : granted path ≡ false = sym (ap granted same) ∙ keep in
      more ∙ ap (λ b. if b then value_named path fs else None) gone ∙ sym (ap (λ b. if b then Some f.value else None) gone)
  one_field false false path f fs keep is more = more

  none_either : (b : Bool) → value_named {V = FieldType} [] [] ≡ (if b then None else None)
  none_either true = refl
  none_either false = refl

  value_named-kept : (path : List ℕ) (fs : Fields) → value_named path (kept fs) ≡ (if granted path then value_named path fs else None)
  value_named-kept path [] = none_either (granted path)
  value_named-kept path (f ∷ fs) = one_field (granted f.name) (bytes_eq f.name path) path f fs refl refl (value_named-kept path fs)

  abbrev Found : Fields → Named FieldType → Type 0
  Found whole f = value_named f.name whole ≡ Some f.value

  one_within : (keep : Bool) (whole : Fields) (f : Named FieldType) (fs : Fields) → granted f.name ≡ keep → Found whole f
      → AllByRecursion (Found (kept whole)) fs → AllByRecursion (Found (kept whole)) (if keep then f ∷ fs else fs)
  one_within true whole f fs keep found each = (value_named-kept f.name whole ∙ ap (λ b. if b then value_named f.name whole else None) keep ∙ found, each)
  one_within false whole f fs keep found each = each

  within-kept : (whole fs : Fields) → AllByRecursion (Found whole) fs → AllByRecursion (Found (kept whole)) (kept fs)
  within-kept whole [] each = tt
  within-kept whole (f ∷ fs) each = one_within (granted f.name) whole f (kept fs) refl each.0 (within-kept whole fs each.1)

  all_kept : ((path : List ℕ) → granted path ≡ true) → (fs : Fields) → kept fs ≡ fs
  all_kept all [] = refl
  all_kept all (f ∷ fs) = rw (all f.name) (ap (λ (l : Fields). f ∷ l) (all_kept all fs))

pub whole_mapping : WholeMapping
unfolding projected_mapping
whole_mapping rule mapping all = all_kept (rule_grants rule) (λ path. rule_all rule path all) mapping

pub type_seen : TypeSeen
unfolding projected_mapping
type_seen rule mapping path = value_named-kept (rule_grants rule) path mapping

pub stays_within : StaysWithin
unfolding projected_mapping
stays_within rule part whole within =
    All-from_recursion _ (kept (rule_grants rule) part) (within-kept (rule_grants rule) whole part (recursion_from_All _ part within))

-- ---- values

abbrev leaves_at : List ℕ → List Leaf → List Leaf
leaves_at path ls = filter (λ l. bytes_eq l.path path) ls

abbrev granted_leaves : FieldRule → List Leaf → List Leaf
granted_leaves rule ls = filter (λ l. rule_grants rule l.path) ls

one_leaf : (rule : FieldRule) (path : List ℕ) (keep is : Bool) (l : Leaf) (ls : List Leaf) → rule_grants rule path ≡ true → rule_grants rule l.path ≡ keep → bytes_eq l.path path ≡ is
    → leaves_at path (granted_leaves rule ls) ≡ leaves_at path ls
    → leaves_at path (if keep then l ∷ granted_leaves rule ls else granted_leaves rule ls) ≡ (if is then l ∷ leaves_at path ls else leaves_at path ls)
one_leaf rule path true true l ls all keep is more = rw is (ap (λ (m : List Leaf). l ∷ m) more)
one_leaf rule path true false l ls all keep is more = rw is more
one_leaf rule path false true l ls all keep is more =
    let same : l.path ≡ path = (bytes_eq-Decides l.path path).0 is in
    let both : false ≡ true = sym keep ∙ ap (rule_grants rule) same ∙ all in
    absurd (grind arith)
one_leaf rule path false false l ls all keep is more = more

leaves-granted_at : (rule : FieldRule) (path : List ℕ) → rule_grants rule path ≡ true → (ls : List Leaf) → leaves_at path (granted_leaves rule ls) ≡ leaves_at path ls
leaves-granted_at rule path all [] = refl
leaves-granted_at rule path all (l ∷ ls) = one_leaf rule path (rule_grants rule l.path) (bytes_eq l.path path) l ls all refl refl (leaves-granted_at rule path all ls)

-- at a granted path the projection has the scalars of the document
scalars_alike : (rule : FieldRule) (document : Tree) (path : List ℕ) → rule_grants rule path ≡ true → scalars_at path document ≡ scalars_at path (project_of rule document)
unfolding scalars_at
scalars_alike rule document path all =
    ap (map (λ l. l.value)) (sym (leaves-granted_at rule path all (leaves_of document)) ∙ ap (leaves_at path) (sym (leaves_granted rule document)))

abbrev values_at : FieldRule → Fields → List ℕ → List Tree → List Value
values_at rule mapping path ts = typed_at (value_named path (projected_mapping rule mapping)) ts

values_case : (rule : FieldRule) (mapping : Fields) (document : Tree) (path : List ℕ) (b : Bool) → rule_grants rule path ≡ b
    → values_at rule mapping path (scalars_at path document) ≡ values_at rule mapping path (scalars_at path (project_of rule document))
values_case rule mapping document path true all = ap (values_at rule mapping path) (scalars_alike rule document path all)
values_case rule mapping document path false none =
    let gone : value_named path (projected_mapping rule mapping) ≡ None = type_seen rule mapping path ∙ ap (λ b. if b then value_named path mapping else None) none in
    rw gone refl

pub values_alike : ValuesAlike
unfolding values_of
values_alike rule mapping document path = values_case rule mapping document path (rule_grants rule path) refl

own_values : (b : Bool) (kind : Option FieldType) (ts : List Tree) → typed_at (if b then kind else None) ts ≡ (if b then typed_at kind ts else [])
own_values true kind ts = refl
own_values false kind ts = refl

own_of : (rule : FieldRule) (mapping : Fields) (document : Tree) (path : List ℕ) → values_of (projected_mapping rule mapping) document path ≡ (if rule_grants rule path then values_of mapping document path else [])
unfolding values_of
own_of rule mapping document path =
    ap (λ (kind : Option FieldType). typed_at kind (scalars_at path document)) (type_seen rule mapping path) ∙ own_values (rule_grants rule path) (value_named path mapping) (scalars_at path document)

pub values_seen : ValuesSeen
values_seen rule mapping document path = sym (values_alike rule mapping document path) ∙ own_of rule mapping document path
