use Rattle.std.proofs.Common.{Some, None, sym, ap, ◌∙◌}
use Rattle.es_priv.specs.declared.kinds.Action.TheVariants as action
use Rattle.es_reply.specs.Bodies.{no_such_index, mapping_shown}
use Rattle.es_mapping.specs.Printed.{mapping_tree}
use Rattle.es_decide.specs.Decisions.{permitted}
use Rattle.es_job.specs.Reads.{mapping_reply}
use Rattle.es_job.proofs.Reading.{seen_index, same_reply}
use Rattle.es_job.proofs.reads.get_mapping.Goals as goal

pub returns-in-None : goal.returns-in-None
returns-in-None c =
    let name = c.args.name.now in
    let seen = seen_index (permitted c.args.subject.now c.args.halves.now action.GetMapping) c.in_ok-permission.permission c.args.catalog.now name None c.in_ok-permission.ensures c.in-None.ensures in
    same_reply c.no_such_index.result (no_such_index name) _ c.no_such_index.ensures (sym (ap (mapping_reply name) seen))

pub returns : goal.returns
returns c =
    let name = c.args.name.now in
    let seen = seen_index (permitted c.args.subject.now c.args.halves.now action.GetMapping) c.in_ok-permission.permission c.args.catalog.now name (Some c.in-Some.index.now) c.in_ok-permission.ensures c.in-Some.ensures in
    same_reply c.mapping_shown.result (mapping_shown name c.in_ok-tree-in-Some.tree) _ c.mapping_shown.ensures
    (ap (mapping_shown name) (c.in_ok-tree-in-Some.ensures.tree ∙ ap mapping_tree c.in_ok-fields-in-Some.ensures) ∙ sym (ap (mapping_reply name) seen))
