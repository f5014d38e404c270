-- Whether a caller may do what is asked: by who it is, by whom it may run as, and by what the roles of its halves grant.
use Rattle.std.specs.Prelude.{ℕ, List, [], Option, Some, None, if◌then◌else◌}
use Rattle.es_priv.specs.declared.kinds.Action.{Action}
use Rattle.es_priv.specs.declared.kinds.ClusterAction.{ClusterAction}
use Rattle.es_response.specs.Reply.{ReplyValue}
use Rattle.es_reply.specs.Bodies as reply
use Rattle.es_keys.specs.declared.kinds.Subject.{Subject}
use Rattle.es_keys.specs.Subjects.{caller_text, subject_text}
use Rattle.es_decide.specs.declared.kinds.Halves.{Halves}
use Rattle.es_decide.specs.Decisions as decisions
use Rattle.es_records.specs.Records.{RecordsValue, who}
use Rattle.es_records.specs.Halves.{halves_in}
use Rattle.es_request.specs.declared.call.Call.{Call}
use Rattle.es_request.specs.Needs.{Need, nothing, on_index, on_cluster, need_of}

-- what is decided: nobody known calls, a caller may not run as a user, an action is denied to a subject, or what is asked is granted to the subject
pub data Decision : Type 0 where
  no_caller : Decision
  no_run_as : List ℕ → List ℕ → Decision
  denied : List ℕ → Action → List ℕ → Decision
  denied_cluster : List ℕ → ClusterAction → Decision
  granted : Subject → Decision

-- what is decided of a need of a subject that may act as it asks to
abbrev pub decided_need : Subject → Halves → Need → Decision
decided_need subject halves nothing = granted subject
decided_need subject halves (on_index action index) = if decisions.granted subject halves action index then granted subject else denied (subject_text subject) action index
decided_need subject halves (on_cluster action) = if decisions.granted_cluster subject halves action then granted subject else denied_cluster (subject_text subject) action

-- the name of the user as whom a call asks to act
abbrev pub name_asked : Option (List ℕ) → List ℕ
name_asked None = []
name_asked (Some name) = name

-- what is decided of a need of a subject with these halves that asks to act as this user
abbrev pub decided_by : Subject → Halves → Option (List ℕ) → Need → Decision
decided_by subject halves run_as need = if decisions.runs_as subject halves then decided_need subject halves need else no_run_as (caller_text subject.caller) (name_asked run_as)

-- what is decided of a need of the subject, if it is known
abbrev pub decided_for : RecordsValue → Option (List ℕ) → Need → Option Subject → Decision
decided_for records run_as need None = no_caller
decided_for records run_as need (Some subject) = decided_by subject (halves_in records subject) run_as need

-- What is decided of a call, by the records alone.
unfoldable pub decision : RecordsValue → Call → Decision
decision records call = decided_for records call.run_as (need_of call.request) (who records call.credentials call.run_as call.moment)

-- the reply to what isn't granted: 401 to a caller that isn't known, and 403
abbrev pub denial_of : Decision → Option ReplyValue
denial_of no_caller = Some reply.unauthorized
denial_of (no_run_as caller target) = Some (reply.denied_run_as caller target)
denial_of (denied subject action index) = Some (reply.denied subject action index)
denial_of (denied_cluster subject action) = Some (reply.denied_cluster subject action)
denial_of (granted subject) = None
