-- The names of privileges and actions.
use Rattle.std.specs.Prelude.{ℕ, List, [], ◌∷◌, Option, codes, find}
use Rattle.std.specs.Str.{bytes_eq}
use Rattle.es_priv.specs.declared.kinds.Action.{Action}
use Rattle.es_priv.specs.declared.kinds.Action.TheVariants as action
use Rattle.es_priv.specs.declared.kinds.ClusterAction.{ClusterAction}
use Rattle.es_priv.specs.declared.kinds.ClusterAction.TheVariants as cluster_action
use Rattle.es_priv.specs.declared.kinds.IndexPrivilege.{IndexPrivilege}
use Rattle.es_priv.specs.declared.kinds.IndexPrivilege.TheVariants as index
use Rattle.es_priv.specs.declared.kinds.ClusterPrivilege.{ClusterPrivilege}
use Rattle.es_priv.specs.declared.kinds.ClusterPrivilege.TheVariants as cluster

-- the name of a privilege on indices
abbrev pub index_name_of : IndexPrivilege → List ℕ
index_name_of index.All = codes "all"
index_name_of index.Read = codes "read"
index_name_of index.Index = codes "index"
index_name_of index.Write = codes "write"
index_name_of index.CreateDoc = codes "create_doc"
index_name_of index.Delete = codes "delete"
index_name_of index.CreateIndex = codes "create_index"
index_name_of index.DeleteIndex = codes "delete_index"
index_name_of index.Manage = codes "manage"
index_name_of index.ViewIndexMetadata = codes "view_index_metadata"
index_name_of index.Monitor = codes "monitor"
index_name_of index.Maintenance = codes "maintenance"
index_name_of index.AutoConfigure = codes "auto_configure"
index_name_of index.ReadCrossCluster = codes "read_cross_cluster"
index_name_of index.None = codes "none"

-- the name of a privilege on the cluster
abbrev pub cluster_name_of : ClusterPrivilege → List ℕ
cluster_name_of cluster.All = codes "all"
cluster_name_of cluster.ManageSecurity = codes "manage_security"
cluster_name_of cluster.ManageApiKey = codes "manage_api_key"
cluster_name_of cluster.ManageOwnApiKey = codes "manage_own_api_key"
cluster_name_of cluster.Monitor = codes "monitor"
cluster_name_of cluster.Manage = codes "manage"
cluster_name_of cluster.ReadSecurity = codes "read_security"
cluster_name_of cluster.ManageIndexTemplates = codes "manage_index_templates"
cluster_name_of cluster.ManageIlm = codes "manage_ilm"
cluster_name_of cluster.ManageIngestPipelines = codes "manage_ingest_pipelines"
cluster_name_of cluster.ManagePipeline = codes "manage_pipeline"
cluster_name_of cluster.None = codes "none"

-- the name of an action on an index
abbrev pub action_name_of : Action → List ℕ
action_name_of action.Get = codes "get"
action_name_of action.Search = codes "search"
action_name_of action.Put = codes "put"
action_name_of action.Create = codes "create"
action_name_of action.Delete = codes "delete"
action_name_of action.CreateIndex = codes "create_index"
action_name_of action.DeleteIndex = codes "delete_index"
action_name_of action.GetMapping = codes "get_mapping"
action_name_of action.PutMapping = codes "put_mapping"

-- the name of an action on the cluster
abbrev pub cluster_action_name_of : ClusterAction → List ℕ
cluster_action_name_of cluster_action.Security = codes "security"
cluster_action_name_of cluster_action.OwnKeys = codes "own_keys"
cluster_action_name_of cluster_action.AnyKeys = codes "any_keys"

-- all privileges on indices
abbrev pub index_privileges : List IndexPrivilege
index_privileges = index.All ∷ index.Read ∷ index.Index ∷ index.Write ∷ index.CreateDoc ∷ index.Delete ∷ index.CreateIndex ∷ index.DeleteIndex ∷ index.Manage ∷ index.ViewIndexMetadata ∷ index.Monitor ∷ index.Maintenance ∷ index.AutoConfigure ∷ index.ReadCrossCluster ∷ index.None ∷ []

-- all privileges on the cluster
abbrev pub cluster_privileges : List ClusterPrivilege
cluster_privileges = cluster.All ∷ cluster.ManageSecurity ∷ cluster.ManageApiKey ∷ cluster.ManageOwnApiKey ∷ cluster.Monitor ∷ cluster.Manage ∷ cluster.ReadSecurity ∷ cluster.ManageIndexTemplates ∷ cluster.ManageIlm ∷ cluster.ManageIngestPipelines ∷ cluster.ManagePipeline ∷ cluster.None ∷ []

-- the privilege on indices whose name this is
unfoldable pub index_named : List ℕ → Option IndexPrivilege
index_named name = find (λ p. bytes_eq (index_name_of p) name) index_privileges

-- the privilege on the cluster whose name this is
unfoldable pub cluster_named : List ℕ → Option ClusterPrivilege
cluster_named name = find (λ p. bytes_eq (cluster_name_of p) name) cluster_privileges
