-- Reads look at what may be seen and at nothing else.
use Rattle.std.proofs.Common.{◌≡◌, refl, sym, ap, subst}
use Rattle.std.specs.FinMap as map
use Rattle.es_priv.specs.declared.kinds.Action.{Action}
use Rattle.es_priv.specs.declared.kinds.Action.TheVariants as action
use Rattle.es_request.specs.declared.request.Request.TheVariants.{Refused, CreateIndex, DeleteIndex, GetMapping, Put, Get, Delete, PutRole, GetRole, DeleteRole, PutUser, GetUser, DeleteUser, CreateKey, ListKeys, Invalidate, Authenticate, ClearCache}
use Rattle.es_request.specs.Needs.{need_of}
use Rattle.es_job.specs.Reads.{mapping_reply, document_reply}
use Rattle.es_job.specs.Answer.{read_in, shown_to}
use Rattle.es_drive.specs.Laws.{ReadsAlike}

pub reads_alike : ReadsAlike
unfolding read_in need_of
reads_alike w v subject halves (Refused reply) a name need shown = refl
reads_alike w v subject halves (CreateIndex index mapping) a name need shown = refl
reads_alike w v subject halves (DeleteIndex index) a name need shown = refl
reads_alike w v subject halves (GetMapping index) a name need shown =
    let is : action.GetMapping ≡ a = cc need in
    ap (λ m. mapping_reply index (map.get m index)) (subst (λ (x : Action). shown_to w.catalog subject halves x ≡ shown_to v.catalog subject halves x) (sym is) shown)
reads_alike w v subject halves (Put index id document only_new) a name need shown = refl
reads_alike w v subject halves (Get index id) a name need shown =
    let is : action.Get ≡ a = cc need in
    ap (λ m. document_reply index id (map.get m index)) (subst (λ (x : Action). shown_to w.catalog subject halves x ≡ shown_to v.catalog subject halves x) (sym is) shown)
reads_alike w v subject halves (Delete index id) a name need shown = refl
reads_alike w v subject halves (PutRole role descriptor) a name need shown = refl
reads_alike w v subject halves (GetRole role) a name need shown = cc need
reads_alike w v subject halves (DeleteRole role) a name need shown = refl
reads_alike w v subject halves (PutUser user) a name need shown = refl
reads_alike w v subject halves (GetUser user) a name need shown = cc need
reads_alike w v subject halves (DeleteUser user) a name need shown = refl
reads_alike w v subject halves (CreateKey asked) a name need shown = refl
reads_alike w v subject halves (ListKeys owner) a name need shown = cc need
reads_alike w v subject halves (Invalidate ids owner) a name need shown = refl
reads_alike w v subject halves Authenticate a name need shown = cc need
reads_alike w v subject halves (ClearCache names every) a name need shown = refl
