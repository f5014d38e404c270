-- What each request needs.
use Rattle.std.specs.Prelude.{ℕ, Bool, List, if◌then◌else◌}
use Rattle.es_priv.specs.declared.kinds.Action.{Action}
use Rattle.es_priv.specs.declared.kinds.Action.TheVariants as action
use Rattle.es_priv.specs.declared.kinds.ClusterAction.{ClusterAction}
use Rattle.es_priv.specs.declared.kinds.ClusterAction.TheVariants as cluster_action
use Rattle.es_request.specs.declared.needs.Need as lent
use Rattle.es_request.specs.declared.request.Request.{Request}
use Rattle.es_request.specs.declared.request.Request.TheVariants.{Refused, CreateIndex, DeleteIndex, GetMapping, Put, Get, Delete, PutRole, GetRole, DeleteRole, PutUser, GetUser, DeleteUser, CreateKey, ListKeys, Invalidate, Authenticate, ClearCache}

-- what the caller's roles have to grant: nothing, an action on an index, or an action on the cluster
pub data Need : Type 0 where
  nothing : Need
  on_index : Action → List ℕ → Need
  on_cluster : ClusterAction → Need

-- the action on keys: on those of the acting user, where it says so, else on any
abbrev pub keys_action : Bool → ClusterAction
keys_action owner = if owner then cluster_action.OwnKeys else cluster_action.AnyKeys

-- What a request needs. The creation of a document that must be new is an action of its own.
unfoldable pub need_of : Request → Need
need_of (Refused reply) = nothing
need_of (CreateIndex name mapping) = on_index action.CreateIndex name
need_of (DeleteIndex name) = on_index action.DeleteIndex name
need_of (GetMapping name) = on_index action.GetMapping name
need_of (Put name id document only_new) = on_index (if only_new then action.Create else action.Put) name
need_of (Get name id) = on_index action.Get name
need_of (Delete name id) = on_index action.Delete name
need_of (PutRole name role) = on_cluster cluster_action.Security
need_of (GetRole name) = on_cluster cluster_action.Security
need_of (DeleteRole name) = on_cluster cluster_action.Security
need_of (PutUser user) = on_cluster cluster_action.Security
need_of (GetUser name) = on_cluster cluster_action.Security
need_of (DeleteUser name) = on_cluster cluster_action.Security
need_of (CreateKey asked) = on_cluster cluster_action.OwnKeys
need_of (ListKeys owner) = on_cluster (keys_action owner)
need_of (Invalidate ids owner) = on_cluster (keys_action owner)
need_of Authenticate = nothing
need_of (ClearCache names every) = on_cluster cluster_action.Security

-- a need by the name that it lends
abbrev pub need_as : lent.Need → Need
need_as lent.TheVariants.Nothing = nothing
need_as (lent.TheVariants.Index action name) = on_index action name.now
need_as (lent.TheVariants.Cluster action) = on_cluster action
