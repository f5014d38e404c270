use Rattle.std.proofs.Common.{◌&&◌, sym, ap, ◌∙◌}
use Rattle.es_glob.specs.Patterns.{any_fits}
use Rattle.es_compose.proofs.Permitted.{counts_ready}
use Rattle.es_compose.proofs.member.Member.counts.Goals as goal

pub returns-then-has : goal.returns-then-has
returns-then-has c = λ e.
    c.matches.ensures ∙ ap (λ b. b && any_fits c.args.group.now.names c.args.index.now) (sym c.if-has.true ∙ c.has.ensures) ∙ counts_ready c.args.self.now c.args.group.now c.args.action c.args.index.now e

pub returns-else-has : goal.returns-else-has
returns-else-has c = λ e.
    c.if-has.false ∙ ap (λ b. b && any_fits c.args.group.now.names c.args.index.now) (sym c.if-has.false ∙ c.has.ensures) ∙ counts_ready c.args.self.now c.args.group.now c.args.action c.args.index.now e
