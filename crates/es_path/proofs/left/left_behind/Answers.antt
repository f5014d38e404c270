use Rattle.std.proofs.Common.{Some, None, option_map, sym, ap, ◌∙◌, if◌then◌else◌}
use Rattle.std.specs.Str.{bytes_eq}
use Rattle.es_path.specs.Reached.{left_of, behind_dot}
use Rattle.es_path.proofs.Reaching.{behind_short, behind_split, no_rest}
use Rattle.es_path.proofs.left.left_behind.Goals as goal

pub returns-in_err-front : goal.returns-in_err-front
returns-in_err-front c = ap (option_map left_of) c.from_residual.ensures ∙ sym (behind_short c.args.name.now c.args.names.now c.in_err-front.ensures.cases)

pub returns-in_err-left : goal.returns-in_err-left
returns-in_err-left c =
    let names = c.args.names.now in
    let name = c.args.name.now in
    let front = c.in_ok-front.front.now in
    let rest = c.in_ok-front.rest.now in
    let cut = c.in_ok-front.ensures.cases in
    ap (option_map left_of) c.from_residual-in_err-left.ensures ∙ sym (behind_split name names front rest cut.1 cut.2 cut.3 ∙ no_rest (bytes_eq name front) rest (sym c.in_err-left.ensures))

pub returns-then-eq : goal.returns-then-eq
returns-then-eq c =
    let names = c.args.names.now in
    let name = c.args.name.now in
    let front = c.in_ok-front.front.now in
    let rest = c.in_ok-front.rest.now in
    let cut = c.in_ok-front.ensures.cases in
    c.in_ok-left.ensures ∙ sym (behind_split name names front rest cut.1 cut.2 cut.3 ∙ ap (λ b. behind_dot (if b then Some rest else None)) (sym c.if-eq.ensures))

pub returns-else-eq : goal.returns-else-eq
returns-else-eq c =
    let names = c.args.names.now in
    let name = c.args.name.now in
    let front = c.in_ok-front.front.now in
    let rest = c.in_ok-front.rest.now in
    let cut = c.in_ok-front.ensures.cases in
    sym (behind_split name names front rest cut.1 cut.2 cut.3 ∙ ap (λ b. behind_dot (if b then Some rest else None)) (sym c.if-eq.ensures))
