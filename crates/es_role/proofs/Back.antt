-- Printed descriptors read back.
use Rattle.std.proofs.Common.{◌≡◌, ℕ, List, [], ◌∷◌, ◌++◌, Option, Some, None, Ok, true, codes, refl, ap}
use Rattle.std.specs.List.{list_all}
use Rattle.es_tree.specs.declared.tree.Tree.{Tree}
use Rattle.es_tree.specs.declared.tree.Tree as tree
use Rattle.es_tree.specs.Rising.{is_rising}
use Rattle.es_grammar.specs.Printing.{member_tree}
use Rattle.es_grammar.specs.Values.{list_form, one_or_list_form, one_or_more_form, object_form}
use Rattle.es_grammar.proofs.Back.{members_of-Object, empty_list_form-List}
use Rattle.es_glob.specs.declared.field.FieldPair.{FieldPair}
use Rattle.es_priv.specs.declared.kinds.IndexPrivilege.{IndexPrivilege}
use Rattle.es_role.specs.declared.kinds.Descriptor.{Descriptor}
use Rattle.es_role.specs.Values.{pattern_form, index_privilege_form, cluster_privilege_form}
use Rattle.es_role.specs.Descriptors.{pair_form, group_form, descriptor_form}
use Rattle.es_role.specs.Printed.{pair_tree, fields_members, query_members}
use Rattle.es_role.specs.Laws.{FieldsBack}

pub all_true : {A : Type 0} (xs : List A) → list_all (λ _. true) xs ≡ true
all_true [] = refl
all_true (x ∷ xs) = all_true xs

-- members that are added one after the other
pub added : {A : Type 0} (front : List A) (x y : A) (back : List A) → ((front ++ x ∷ []) ++ y ∷ []) ++ back ≡ front ++ (x ∷ y ∷ back)
added [] x y back = refl
added (f ∷ front) x y back = ap (λ l. f ∷ l) (added front x y back)

-- fields that were granted and exceptions, each printed by itself
pub pair_read : (except grant : List (List ℕ)) (excepts grants : Tree) → list_form pattern_form excepts ≡ Ok except → list_form pattern_form grants ≡ Ok grant
    → pair_form (tree.Object (member_tree (codes "except") excepts ∷ member_tree (codes "grant") grants ∷ [])) ≡ Ok (record { grant = grant; except = except })
unfolding pair_form
pair_read except grant excepts grants e f = rw (members_of-Object (member_tree (codes "except") excepts ∷ member_tree (codes "grant") grants ∷ []), e, f) refl

pub group_read : (names : List (List ℕ)) (privileges : List IndexPrivilege) (fields : Option FieldPair) (query : Option Tree) (names_tree privileges_tree : Tree)
    → one_or_more_form pattern_form names_tree ≡ Ok names → one_or_list_form index_privilege_form privileges_tree ≡ Ok privileges → FieldsBack fields
    → group_form (tree.Object (fields_members fields ++ (member_tree (codes "names") names_tree ∷ member_tree (codes "privileges") privileges_tree ∷ query_members query)))
    ≡ Ok (record { names = names; privileges = privileges; fields = fields; query = query })
unfolding group_form
group_read names privileges None None names_tree privileges_tree e f back =
    rw (members_of-Object (member_tree (codes "names") names_tree ∷ member_tree (codes "privileges") privileges_tree ∷ []), e, f) refl
group_read names privileges None (Some query) names_tree privileges_tree e f back =
    rw (members_of-Object (member_tree (codes "names") names_tree ∷ member_tree (codes "privileges") privileges_tree ∷ member_tree (codes "query") query ∷ []), e, f) refl
group_read names privileges (Some pair) None names_tree privileges_tree e f back =
    rw (members_of-Object (member_tree (codes "field_security") (pair_tree pair) ∷ member_tree (codes "names") names_tree ∷ member_tree (codes "privileges") privileges_tree ∷ []), back, e, f) refl
group_read names privileges (Some pair) (Some query) names_tree privileges_tree e f back =
    rw (members_of-Object (member_tree (codes "field_security") (pair_tree pair) ∷ member_tree (codes "names") names_tree ∷ member_tree (codes "privileges") privileges_tree ∷ member_tree (codes "query") query ∷ []), back, e, f) refl

-- the names of each grammar stand in the order of their bytes
pub names_rise : is_rising (codes "applications" ∷ codes "cluster" ∷ codes "description" ∷ codes "global" ∷ codes "indices" ∷ codes "metadata" ∷ codes "remote_cluster" ∷ codes "remote_indices" ∷ codes "run_as" ∷ codes "transient_metadata" ∷ []) ≡ true
names_rise = refl

pub pair_names_rise : is_rising (codes "except" ∷ codes "grant" ∷ []) ≡ true
pair_names_rise = refl

pub group_names_rise : is_rising (codes "allow_restricted_indices" ∷ codes "field_security" ∷ codes "names" ∷ codes "privileges" ∷ codes "query" ∷ []) ≡ true
group_names_rise = refl

pub descriptor_read : (d : Descriptor) (cluster indices metadata run_as : Tree) → list_form cluster_privilege_form cluster ≡ Ok d.cluster → list_form group_form indices ≡ Ok d.indices → object_form metadata ≡ Ok d.metadata → list_form pattern_form run_as ≡ Ok d.run_as → descriptor_form (tree.Object (member_tree (codes "applications") (tree.List []) ∷ member_tree (codes "cluster") cluster ∷ member_tree (codes "indices") indices ∷ member_tree (codes "metadata") metadata ∷ member_tree (codes "run_as") run_as ∷ [])) ≡ Ok d
unfolding descriptor_form
descriptor_read d cluster indices metadata run_as e f g h =
    rw (
      members_of-Object (member_tree (codes "applications") (tree.List []) ∷ member_tree (codes "cluster") cluster ∷ member_tree (codes "indices") indices ∷ member_tree (codes "metadata") metadata ∷ member_tree (codes "run_as") run_as ∷ []),
      empty_list_form-List,
      e,
      f,
      g,
      h,
    ) refl
