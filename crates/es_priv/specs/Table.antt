-- Which privileges grant which action.
use Rattle.std.specs.Prelude.{Bool, List, [], ◌∷◌}
use Rattle.std.specs.List.{list_any}
use Rattle.std.specs.Str.{bytes_eq}
use Rattle.es_priv.specs.declared.kinds.Action.{Action}
use Rattle.es_priv.specs.declared.kinds.Action.TheVariants.{Get, Search, Put, Create, Delete, CreateIndex, DeleteIndex, GetMapping, PutMapping}
use Rattle.es_priv.specs.declared.kinds.ClusterAction.{ClusterAction}
use Rattle.es_priv.specs.declared.kinds.ClusterAction.TheVariants.{Security, OwnKeys, AnyKeys}
use Rattle.es_priv.specs.declared.kinds.IndexPrivilege.{IndexPrivilege}
use Rattle.es_priv.specs.declared.kinds.IndexPrivilege.TheVariants as index
use Rattle.es_priv.specs.declared.kinds.ClusterPrivilege.{ClusterPrivilege}
use Rattle.es_priv.specs.declared.kinds.ClusterPrivilege.TheVariants as cluster
use Rattle.es_priv.specs.Names.{index_name_of, cluster_name_of}

-- the privileges that grant an action on an index, in the order in which they are listed
abbrev pub granting_of : Action → List IndexPrivilege
granting_of Get = index.Read ∷ index.All ∷ []
granting_of Search = index.Read ∷ index.All ∷ []
granting_of Put = index.Index ∷ index.Write ∷ index.All ∷ []
granting_of Create = index.CreateDoc ∷ index.Index ∷ index.Write ∷ index.All ∷ []
granting_of Delete = index.Delete ∷ index.Write ∷ index.All ∷ []
granting_of CreateIndex = index.CreateIndex ∷ index.Manage ∷ index.All ∷ []
granting_of DeleteIndex = index.DeleteIndex ∷ index.Manage ∷ index.All ∷ []
granting_of GetMapping = index.ViewIndexMetadata ∷ index.Manage ∷ index.All ∷ []
granting_of PutMapping = index.Manage ∷ index.All ∷ []

-- the privileges that grant an action on the cluster, in the order in which they are listed
abbrev pub granting_cluster_of : ClusterAction → List ClusterPrivilege
granting_cluster_of Security = cluster.ManageSecurity ∷ cluster.All ∷ []
granting_cluster_of OwnKeys = cluster.ManageOwnApiKey ∷ cluster.ManageApiKey ∷ cluster.ManageSecurity ∷ cluster.All ∷ []
granting_cluster_of AnyKeys = cluster.ManageApiKey ∷ cluster.ManageSecurity ∷ cluster.All ∷ []

-- two privileges on indices are one where their names are
abbrev pub is_same_index_privilege : IndexPrivilege → IndexPrivilege → Bool
is_same_index_privilege p q = bytes_eq (index_name_of p) (index_name_of q)

-- two privileges on the cluster are one where their names are
abbrev pub is_same_cluster_privilege : ClusterPrivilege → ClusterPrivilege → Bool
is_same_cluster_privilege p q = bytes_eq (cluster_name_of p) (cluster_name_of q)

-- a privilege on indices grants an action where it stands in the action's row
unfoldable pub grants_of : IndexPrivilege → Action → Bool
grants_of p a = list_any (is_same_index_privilege p) (granting_of a)

-- a privilege on the cluster grants an action where it stands in the action's row
unfoldable pub grants_cluster_of : ClusterPrivilege → ClusterAction → Bool
grants_cluster_of p a = list_any (is_same_cluster_privilege p) (granting_cluster_of a)
