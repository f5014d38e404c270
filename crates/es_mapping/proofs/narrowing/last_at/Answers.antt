use Rattle.std.proofs.Common.{sym, ◌∙◌, ap}
use Rattle.std.specs.Str.{bytes_eq}
use Rattle.es_mapping.proofs.Narrowed.{last_is, last_is_not}
use Rattle.es_mapping.proofs.narrowing.last_at.Goals as goal

pub returns-then-eq : goal.returns-then-eq
returns-then-eq c =
    sym (last_is c.args.from c.args.name.now c.args.fields.now c.in_ok-last.field-0-1.now c.in_ok-last.last.now c.in_ok-last.ensures.cases.0 c.requires.rising (ap (λ l. bytes_eq l c.args.name.now) (sym c.left.ensures) ∙ sym c.if-eq.ensures))

pub returns-else-eq : goal.returns-else-eq
returns-else-eq c =
    sym (last_is_not c.args.from c.args.name.now c.args.fields.now c.in_ok-last.field-0-1.now c.in_ok-last.last.now c.in_ok-last.ensures.cases.0 c.requires.rising c.requires.before (ap (λ l. bytes_eq l c.args.name.now) (sym c.left.ensures) ∙ sym c.if-eq.ensures))
