use Rattle.std.proofs.Common.{Some, None, sym, ap}
use Rattle.std.specs.FinMap as map
use Rattle.es_priv.specs.declared.kinds.Action.TheVariants as action
use Rattle.es_decide.specs.Decisions.{permitted}
use Rattle.es_reply.specs.Bodies.{no_such_index}
use Rattle.es_fetch.specs.Permitted.{permitted_index}
use Rattle.es_job.specs.Reads.{document_reply, stored_reply}
use Rattle.es_job.proofs.Reading.{seen_index, same_reply}
use Rattle.es_job.proofs.reads.get_document.Goals as goal

pub returns-in-None : goal.returns-in-None
returns-in-None c =
    let name = c.args.name.now in
    let seen = seen_index (permitted c.args.subject.now c.args.halves.now action.Get) c.in_ok-permission.permission c.args.catalog.now name None c.in_ok-permission.ensures c.in-None.ensures in
    same_reply c.no_such_index.result (no_such_index name) _ c.no_such_index.ensures (sym (ap (document_reply name c.args.id.now) seen))

pub returns : goal.returns
returns c =
    let name = c.args.name.now in
    let seen = seen_index (permitted c.args.subject.now c.args.halves.now action.Get) c.in_ok-permission.permission c.args.catalog.now name (Some c.in-Some.index.now) c.in_ok-permission.ensures c.in-Some.ensures in
    same_reply c.get_from.result
    (stored_reply name c.args.id.now (map.get (permitted_index c.in_ok-permission.permission c.in-Some.index.now).documents c.args.id.now)) _ c.get_from.ensures
    (sym (ap (document_reply name c.args.id.now) seen))
