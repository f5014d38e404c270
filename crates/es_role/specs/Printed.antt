-- The trees that descriptors print as.
use Rattle.std.specs.Prelude.{ℕ, List, [], ◌∷◌, ◌++◌, Option, Some, None, codes}
use Rattle.es_tree.specs.declared.tree.Tree.{Tree}
use Rattle.es_tree.specs.declared.tree.Tree as tree
use Rattle.es_tree.specs.declared.tree.Named.{Named}
use Rattle.es_grammar.specs.Printing.{list_tree, member_tree}
use Rattle.es_glob.specs.declared.field.FieldPair.{FieldPair}
use Rattle.es_priv.specs.declared.kinds.IndexPrivilege.{IndexPrivilege}
use Rattle.es_priv.specs.declared.kinds.ClusterPrivilege.{ClusterPrivilege}
use Rattle.es_priv.specs.Names.{index_name_of, cluster_name_of}
use Rattle.es_role.specs.declared.kinds.IndexGroup.{IndexGroup}
use Rattle.es_role.specs.declared.kinds.Descriptor.{Descriptor}

-- a list of patterns
abbrev pub patterns_tree : List (List ℕ) → Tree
patterns_tree = list_tree (λ pattern. tree.Text pattern)

-- a list of names of privileges on indices
abbrev pub index_privileges_tree : List IndexPrivilege → Tree
index_privileges_tree = list_tree (λ privilege. tree.Text (index_name_of privilege))

-- a list of names of privileges on the cluster
abbrev pub cluster_privileges_tree : List ClusterPrivilege → Tree
cluster_privileges_tree = list_tree (λ privilege. tree.Text (cluster_name_of privilege))

-- fields that are granted, and exceptions
abbrev pub pair_tree : FieldPair → Tree
pair_tree pair = tree.Object (member_tree (codes "except") (patterns_tree pair.except) ∷ member_tree (codes "grant") (patterns_tree pair.grant) ∷ [])

-- the member `field_security`, where there is one
abbrev pub fields_members : Option FieldPair → List (Named Tree)
fields_members None = []
fields_members (Some pair) = member_tree (codes "field_security") (pair_tree pair) ∷ []

-- the member `query`, where there is one
abbrev pub query_members : Option Tree → List (Named Tree)
query_members None = []
query_members (Some query) = member_tree (codes "query") query ∷ []

-- the members of a member of `indices`
abbrev pub group_members : IndexGroup → List (Named Tree)
group_members group = fields_members group.fields ++ (member_tree (codes "names") (patterns_tree group.names) ∷ member_tree (codes "privileges") (index_privileges_tree group.privileges) ∷ query_members group.query)

-- a member of `indices`
abbrev pub group_tree : IndexGroup → Tree
group_tree group = tree.Object (group_members group)

-- a descriptor
abbrev pub descriptor_tree : Descriptor → Tree
descriptor_tree descriptor = tree.Object (
    member_tree (codes "applications") (tree.List [])
    ∷ member_tree (codes "cluster") (cluster_privileges_tree descriptor.cluster)
    ∷ member_tree (codes "indices") (list_tree group_tree descriptor.indices)
    ∷ member_tree (codes "metadata") descriptor.metadata
    ∷ member_tree (codes "run_as") (patterns_tree descriptor.run_as)
    ∷ [])
