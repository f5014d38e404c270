use Rattle.std.proofs.Common.{◌∙◌, sym}
use Rattle.es_fetch.proofs.Maps.{got_none, got_shown, got_hidden}
use Rattle.es_fetch.proofs.fetching.get.Goals as goal

pub returns-in-None : goal.returns-in-None
returns-in-None c = got_none c.args.permission.now c.args.index.now c.args.id.now c.in-None.ensures.document

pub returns-in_ok-shown-in-Some : goal.returns-in_ok-shown-in-Some
returns-in_ok-shown-in-Some c =
    got_shown c.args.permission.now c.args.index.now c.args.id.now c.in-Some.stored.now c.in_ok-shown-in-Some.field-0 c.in-Some.ensures.document
    (sym c.in_ok-permits-in-Some.ensures ∙ c.if-branch.true) c.in_ok-shown-in-Some.ensures

pub returns-else-branch : goal.returns-else-branch
returns-else-branch c =
    got_hidden c.args.permission.now c.args.index.now c.args.id.now c.in-Some.stored.now c.in-Some.ensures.document
    (sym c.in_ok-permits-in-Some.ensures ∙ c.if-branch.false)
