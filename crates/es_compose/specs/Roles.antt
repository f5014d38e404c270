-- What descriptors grant together.
use Rattle.std.specs.Prelude.{ℕ, List, Bool, ◌&&◌, filter}
use Rattle.std.specs.List.{list_any, flat_map}
use Rattle.es_glob.specs.Patterns.{any_fits}
use Rattle.es_priv.specs.declared.kinds.Action.{Action}
use Rattle.es_priv.specs.declared.kinds.ClusterAction.{ClusterAction}
use Rattle.es_priv.specs.declared.kinds.IndexPrivilege.{IndexPrivilege}
use Rattle.es_priv.specs.declared.kinds.ClusterPrivilege.{ClusterPrivilege}
use Rattle.es_priv.specs.Table.{grants_of, grants_cluster_of}
use Rattle.es_role.specs.declared.kinds.IndexGroup.{IndexGroup}
use Rattle.es_role.specs.declared.kinds.Descriptor.{Descriptor}

-- whether one of the privileges grants the action on an index
abbrev pub some_grants : Action → List IndexPrivilege → Bool
some_grants action privileges = list_any (λ privilege. grants_of privilege action) privileges

-- whether one of the privileges grants the action on the cluster
abbrev pub some_grants_cluster : ClusterAction → List ClusterPrivilege → Bool
some_grants_cluster action privileges = list_any (λ privilege. grants_cluster_of privilege action) privileges

-- whether a member of `indices` counts for the action on the index: one of its privileges grants the action, and one of its patterns fits the index
abbrev pub counts : Action → List ℕ → IndexGroup → Bool
counts action index group = some_grants action group.privileges && any_fits group.names index

-- whether one of a descriptor's members counts
abbrev pub grants_index : Action → List ℕ → Descriptor → Bool
grants_index action index descriptor = list_any (counts action index) descriptor.indices

-- whether one of a descriptor's privileges grants the action on the cluster
abbrev pub grants_cluster : ClusterAction → Descriptor → Bool
grants_cluster action descriptor = some_grants_cluster action descriptor.cluster

-- whether the descriptors together grant the action on the index: one of them does
unfoldable pub role_grants : List Descriptor → Action → List ℕ → Bool
role_grants descriptors action index = list_any (grants_index action index) descriptors

-- whether the descriptors together grant the action on the cluster: one of them does
unfoldable pub role_grants_cluster : List Descriptor → ClusterAction → Bool
role_grants_cluster descriptors action = list_any (grants_cluster action) descriptors

-- the members that count for the action on the index, in the order of the descriptors
abbrev pub counting : List Descriptor → Action → List ℕ → List IndexGroup
counting descriptors action index = filter (counts action index) (flat_map (λ (d : Descriptor). d.indices) descriptors)
