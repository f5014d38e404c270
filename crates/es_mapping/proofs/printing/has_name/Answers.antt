use Rattle.std.proofs.Common.{◌≡◌, ◌∙◌, sym, ap, slice_get, Some, None}
use Rattle.std.specs.Option.{option_copied}
use Rattle.es_mapping.specs.Paths.{pieces}
use Rattle.es_mapping.specs.Printed.{is_headed}
use Rattle.es_mapping.proofs.Groups.{drop_at, drop_past}
use Rattle.es_mapping.proofs.printing.has_name.Goals as goal

pub returns-in-Some : goal.returns-in-Some
returns-in-Some c =
    let parts = pieces c.args.field.now.name in
    let found : slice_get parts c.args.depth ≡ Some c.in-Some.piece.now =
    ap (λ t. slice_get (pieces t) c.args.depth) (sym c.text.ensures) ∙ sym c.piece.ensures ∙ ap option_copied c.in-Some.is in
    c.eq.ensures ∙ sym (ap (is_headed c.args.name.now) (drop_at c.args.depth parts c.in-Some.piece.now found))

pub returns-in-None : goal.returns-in-None
returns-in-None c =
    let parts = pieces c.args.field.now.name in
    let none : slice_get parts c.args.depth ≡ None =
    ap (λ t. slice_get (pieces t) c.args.depth) (sym c.text.ensures) ∙ sym c.piece.ensures ∙ ap option_copied c.in-None.is in
    sym (ap (is_headed c.args.name.now) (drop_past c.args.depth parts none))
