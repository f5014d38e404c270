use Rattle.es_compose.proofs.Rereading.{role_query_reread}
use Rattle.es_compose.proofs.Rechecked.{checked_reread}
use Rattle.es_compose.proofs.lawful.laws.Goals as goal

pub returns : goal.returns
returns c =
    let query_back = role_query_reread c.laws.ensures.template_back in
    record { query_back = query_back; checked_back = checked_reread query_back }
