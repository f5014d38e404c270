-- What is printed of a descriptor that was read reads back to it.
use Rattle.std.proofs.Common.{◌≡◌, ℕ, List, [], ◌∷◌, Bool, true, false, ◌||◌, is_some, Option, Some, None, Result, Ok, codes, if◌then◌else◌, refl, subst}
use Rattle.std.specs.List.{AllByRecursion}
use Rattle.std.specs.Str.{chars}
use Rattle.es_tree.specs.declared.tree.Tree.{Tree, out-Tree}
use Rattle.es_tree.specs.declared.tree.Tree as tree
use Rattle.es_grammar.specs.Reading.{or_empty, or_no_members}
use Rattle.es_grammar.specs.Printing.{list_tree}
use Rattle.es_grammar.specs.Values.{any_form, text_form, object_form, list_form, one_or_list_form, one_or_more_form, empty_list_form}
use Rattle.es_grammar.proofs.Back.{text_form-Text, object_form-Object, list_form-List}
use Rattle.es_glob.specs.Patterns.{is_pattern}
use Rattle.es_glob.specs.declared.field.FieldPair.{FieldPair}
use Rattle.es_priv.specs.declared.kinds.IndexPrivilege.{IndexPrivilege}
use Rattle.es_priv.specs.declared.kinds.ClusterPrivilege.{ClusterPrivilege}
use Rattle.es_priv.specs.Names.{index_named, index_name_of, cluster_named, cluster_name_of}
use Rattle.es_priv.proofs.Laws.{index_named-index_name_of, cluster_named-cluster_name_of}
use Rattle.es_role.specs.declared.kinds.IndexGroup.{IndexGroup}
use Rattle.es_role.specs.declared.kinds.Descriptor.{Descriptor}
use Rattle.es_role.specs.Values.{pattern_named, pattern_form, index_privilege_form, cluster_privilege_form, nothing_form, false_form}
use Rattle.es_role.specs.Descriptors.{or_every_field, pair_form, group_form, descriptor_form}
use Rattle.es_role.specs.Printed.{patterns_tree, pair_tree, index_privileges_tree, cluster_privileges_tree, group_tree, descriptor_tree}
use Rattle.es_role.specs.Laws.{FieldsBack, DescriptorBack}
use Rattle.es_role.proofs.Back.{pair_read, group_read, descriptor_read}
use Rattle.es_role.proofs.Yields.{Reads, yields_line, yields_end, yields_required, yields_means, yields_means_where, reads_object}
use Rattle.es_role.proofs.Reread.{IsReread, spelled_reread, object_reread, list_given, items_list, list_reread, one_or_list_reread, one_or_more_reread}

pattern_at : (b : Bool) (s p : List ℕ) → is_pattern s ≡ b → (if b then Some s else None) ≡ Some p → pattern_named p ≡ Some p
pattern_at true s p is e = let same : s ≡ p = cc e in subst (λ (r : List ℕ). pattern_named r ≡ Some r) same (rw is refl)
pattern_at false s p is e = cc e

pattern_reread : IsReread pattern_form tree.Text
pattern_reread = spelled_reread pattern_named (λ pattern. pattern) (λ s p e. pattern_at (is_pattern s) s p refl e)

abbrev index_tree : IndexPrivilege → Tree
index_tree privilege = tree.Text (index_name_of privilege)

index_reread : IsReread index_privilege_form index_tree
index_reread = spelled_reread index_named index_name_of (λ s p e. index_named-index_name_of p)

abbrev cluster_tree : ClusterPrivilege → Tree
cluster_tree privilege = tree.Text (cluster_name_of privilege)

cluster_reread : IsReread cluster_privilege_form cluster_tree
cluster_reread = spelled_reread cluster_named cluster_name_of (λ s p e. cluster_named-cluster_name_of p)

-- ---- a list that may be absent

abbrev ListBack : {A : Type 0} → (Tree → Result A (List ℕ)) → (A → Tree) → Option (List A) → Type 0
ListBack form print found = list_form form (list_tree print (or_empty found)) ≡ Ok (or_empty found)

no_items : {A : Type 0} (form : Tree → Result A (List ℕ)) (print : A → Tree) → ListBack form print None
no_items form print = list_form-List form []

-- what holds of a member's value, where it is there
abbrev IfThere : {A : Type 0} → (A → Type 0) → Option A → Type 0
IfThere Is None = Unit {0}
IfThere Is (Some x) = Is x

there : {A : Type 0} (Is : A → Type 0) (found : Option A) (x : A) → found ≡ Some x → IfThere Is found → Is x
there Is None x e is = cc e
there Is (Some y) x e is = let same : y ≡ x = cc e in subst Is same is

abbrev Anything : {A : Type 0} → Option A → Type 0
Anything found = Unit {0}

-- ---- a rule over fields

abbrev PairBack : FieldPair → Type 0
PairBack pair = pair_form (pair_tree pair) ≡ Ok pair

abbrev GrantBack : Option (List (List ℕ)) → Type 0
GrantBack found = list_form pattern_form (patterns_tree (or_every_field found)) ≡ Ok (or_every_field found)

star_is_pattern : is_pattern (codes "*") ≡ true
unfolding is_pattern chars
star_is_pattern = refl

star_back : pattern_form (tree.Text (codes "*")) ≡ Ok (codes "*")
star_back = rw (text_form-Text (codes "*"), star_is_pattern) refl

every_field_back : GrantBack None
every_field_back = items_list pattern_form tree.Text (codes "*" ∷ []) (star_back, tt)

pair_back : (except grant : Option (List (List ℕ))) → ListBack pattern_form tree.Text except → GrantBack grant → PairBack (record { grant = or_every_field grant; except = or_empty except })
pair_back except grant e f = pair_read (or_empty except) (or_every_field grant) (patterns_tree (or_empty except)) (patterns_tree (or_every_field grant)) e f

pairs_back : Reads PairBack pair_form
unfolding pair_form
pairs_back =
    reads_object PairBack _
    (yields_line PairBack (codes "except") (list_form pattern_form) _ (ListBack pattern_form tree.Text) (no_items pattern_form tree.Text) (list_reread pattern_form tree.Text pattern_reread) (λ except are_exceptions.
    yields_line PairBack (codes "grant") (list_form pattern_form) _ GrantBack every_field_back (list_reread pattern_form tree.Text pattern_reread) (λ grant are_granted.
    yields_end PairBack _
    (yields_means_where PairBack (λ pair. is_some grant || is_some except) _ (pair_back except grant are_exceptions are_granted)))))

-- ---- a member of `indices`

abbrev NamesBack : List (List ℕ) → Type 0
NamesBack names = one_or_more_form pattern_form (patterns_tree names) ≡ Ok names

abbrev PrivilegesBack : List IndexPrivilege → Type 0
PrivilegesBack privileges = one_or_list_form index_privilege_form (index_privileges_tree privileges) ≡ Ok privileges

-- what is printed of each part but the query, which any tree is taken for, reads back to it
pub record IsGroup (group : IndexGroup) : Type 0 where
  pub names : NamesBack group.names
  pub privileges : PrivilegesBack group.privileges
  pub fields : FieldsBack group.fields

-- such a member is one with any query
pub is_group_with : (group : IndexGroup) (query : Option Tree) → IsGroup group → IsGroup (record { names = group.names; privileges = group.privileges; fields = group.fields; query = query })
is_group_with group query is = record { names = is.names; privileges = is.privileges; fields = is.fields }

pub group_back : (group : IndexGroup) → IsGroup group → group_form (group_tree group) ≡ Ok group
group_back group is = group_read group.names group.privileges group.fields group.query (patterns_tree group.names) (index_privileges_tree group.privileges) is.names is.privileges is.fields

groups_read : Reads IsGroup group_form
unfolding group_form
groups_read =
    reads_object IsGroup _
    (yields_line IsGroup (codes "allow_restricted_indices") false_form _ Anything tt (λ t x e. tt) (λ _ _.
    yields_line IsGroup (codes "field_security") pair_form _ FieldsBack tt pairs_back.each (λ fields are_fields.
    yields_line IsGroup (codes "names") (one_or_more_form pattern_form) _ (IfThere NamesBack) tt (one_or_more_reread pattern_form tree.Text pattern_reread) (λ names are_names.
    yields_line IsGroup (codes "privileges") (one_or_list_form index_privilege_form) _ (IfThere PrivilegesBack) tt (one_or_list_reread index_privilege_form index_tree index_reread) (λ privileges are_privileges.
    yields_line IsGroup (codes "query") any_form _ Anything tt (λ t x e. tt) (λ query _.
    yields_end IsGroup _
    (yields_required IsGroup names _ (λ the_names found_names.
    yields_required IsGroup privileges _ (λ the_privileges found_privileges.
    yields_means IsGroup _
    (record { names = there NamesBack names the_names found_names are_names; privileges = there PrivilegesBack privileges the_privileges found_privileges are_privileges; fields = are_fields }))))))))))

groups_back : (groups : List IndexGroup) → AllByRecursion IsGroup groups → AllByRecursion (λ group. group_form (group_tree group) ≡ Ok group) groups
groups_back [] all = tt
groups_back (group ∷ groups) all = (group_back group all.0, groups_back groups all.1)

-- ---- a descriptor

-- what is printed of each part reads back to it
pub record IsDescribed (d : Descriptor) : Type 0 where
  pub cluster : list_form cluster_privilege_form (cluster_privileges_tree d.cluster) ≡ Ok d.cluster
  pub indices : AllByRecursion IsGroup d.indices
  pub metadata : object_form d.metadata ≡ Ok d.metadata
  pub run_as : list_form pattern_form (patterns_tree d.run_as) ≡ Ok d.run_as

pub descriptor_back : (d : Descriptor) → IsDescribed d → descriptor_form (descriptor_tree d) ≡ Ok d
descriptor_back d is =
    descriptor_read d (cluster_privileges_tree d.cluster) (list_tree group_tree d.indices) d.metadata (patterns_tree d.run_as)
    is.cluster (items_list group_form group_tree d.indices (groups_back d.indices is.indices)) is.metadata is.run_as

abbrev AreGroups : Option (List IndexGroup) → Type 0
AreGroups found = AllByRecursion IsGroup (or_empty found)

abbrev MetadataBack : Option Tree → Type 0
MetadataBack found = object_form (or_no_members found) ≡ Ok (or_no_members found)

groups_given : (t : Tree) (groups : List IndexGroup) → list_form group_form t ≡ Ok groups → AllByRecursion IsGroup groups
groups_given t groups e = list_given group_form IsGroup groups_read.each (out-Tree t) groups e

-- each descriptor that is read is such a one
pub descriptors_read : Reads IsDescribed descriptor_form
unfolding descriptor_form
descriptors_read =
    reads_object IsDescribed _
    (yields_line IsDescribed (codes "applications") empty_list_form _ Anything tt (λ t x e. tt) (λ _ _.
    yields_line IsDescribed (codes "cluster") (list_form cluster_privilege_form) _ (ListBack cluster_privilege_form cluster_tree) (no_items cluster_privilege_form cluster_tree) (list_reread cluster_privilege_form cluster_tree cluster_reread) (λ cluster are_privileges.
    yields_line IsDescribed (codes "description") text_form _ Anything tt (λ t x e. tt) (λ _ _.
    yields_line IsDescribed (codes "global") nothing_form _ Anything tt (λ t x e. tt) (λ _ _.
    yields_line IsDescribed (codes "indices") (list_form group_form) _ AreGroups tt groups_given (λ indices are_groups.
    yields_line IsDescribed (codes "metadata") object_form _ MetadataBack (object_form-Object []) object_reread (λ metadata is_object.
    yields_line IsDescribed (codes "remote_cluster") empty_list_form _ Anything tt (λ t x e. tt) (λ _ _.
    yields_line IsDescribed (codes "remote_indices") empty_list_form _ Anything tt (λ t x e. tt) (λ _ _.
    yields_line IsDescribed (codes "run_as") (list_form pattern_form) _ (ListBack pattern_form tree.Text) (no_items pattern_form tree.Text) (list_reread pattern_form tree.Text pattern_reread) (λ run_as are_patterns.
    yields_line IsDescribed (codes "transient_metadata") object_form _ Anything tt (λ t x e. tt) (λ _ _.
    yields_end IsDescribed _
    (yields_means IsDescribed _
    (record { cluster = are_privileges; indices = are_groups; metadata = is_object; run_as = are_patterns })))))))))))))

pub descriptor_reread : DescriptorBack
descriptor_reread t d e = descriptor_back d (descriptors_read.each t d e)
