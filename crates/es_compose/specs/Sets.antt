-- Sets of actions, for private clauses.
use Rattle.std.specs.Prelude.{List, Bool}
use Rattle.es_priv.specs.declared.kinds.Action.{Action}
use Rattle.es_priv.specs.declared.kinds.Action.TheVariants.{Get, Search, Put, Create, Delete, CreateIndex, DeleteIndex, GetMapping, PutMapping}
use Rattle.es_priv.specs.declared.kinds.ClusterAction.{ClusterAction}
use Rattle.es_priv.specs.declared.kinds.ClusterAction.TheVariants.{Security, OwnKeys, AnyKeys}
use Rattle.es_priv.specs.declared.kinds.IndexPrivilege.{IndexPrivilege}
use Rattle.es_priv.specs.declared.kinds.ClusterPrivilege.{ClusterPrivilege}
use Rattle.es_compose.specs.declared.actions.Actions.{Actions}
use Rattle.es_compose.specs.declared.actions.ClusterActions.{ClusterActions}
use Rattle.es_compose.specs.Roles.{some_grants, some_grants_cluster}

-- whether the action is in the set
abbrev pub has_action : Actions → Action → Bool
has_action actions Get = actions.get
has_action actions Search = actions.search
has_action actions Put = actions.put
has_action actions Create = actions.create
has_action actions Delete = actions.delete
has_action actions CreateIndex = actions.create_index
has_action actions DeleteIndex = actions.delete_index
has_action actions GetMapping = actions.get_mapping
has_action actions PutMapping = actions.put_mapping

-- the actions that one of the privileges grants
abbrev pub actions_of : List IndexPrivilege → Actions
actions_of privileges = record {
  get = some_grants Get privileges;
  search = some_grants Search privileges;
  put = some_grants Put privileges;
  create = some_grants Create privileges;
  delete = some_grants Delete privileges;
  create_index = some_grants CreateIndex privileges;
  delete_index = some_grants DeleteIndex privileges;
  get_mapping = some_grants GetMapping privileges;
  put_mapping = some_grants PutMapping privileges;
}

-- the same for the cluster
abbrev pub has_cluster_action : ClusterActions → ClusterAction → Bool
has_cluster_action actions Security = actions.security
has_cluster_action actions OwnKeys = actions.own_keys
has_cluster_action actions AnyKeys = actions.any_keys

abbrev pub cluster_actions_of : List ClusterPrivilege → ClusterActions
cluster_actions_of privileges = record { security = some_grants_cluster Security privileges; own_keys = some_grants_cluster OwnKeys privileges; any_keys = some_grants_cluster AnyKeys privileges }
