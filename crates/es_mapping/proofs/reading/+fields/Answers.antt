use Rattle.std.proofs.Common.{◌≡◌, ◌-◌, suc, List, ℕ, false, sym, ap, ◌∙◌, subst, arith}
use Rattle.es_grammar.specs.Reading.{Gives, below}
use Rattle.es_mapping.specs.Mappings.{field_at}
use Rattle.es_mapping.specs.Below.{at_path}
use Rattle.es_mapping.proofs.Fields.{below-at_path, field_form-lines}
use Rattle.es_mapping.proofs.reading.+fields.Goals as goal

pub fields_at-returns : goal.fields_at-returns
fields_at-returns t c =
    let m = c.args.member.now in
    let path = c.in_ok-longer.longer in
    let read = field_at c.args.levels m.value in
    let named = below-at_path c.args.is_top c.args.path.now m.name read in
    subst (Gives c.under.result) (ap (λ p. below m.name (at_path false p read)) c.in_ok-longer.ensures ∙ named)
    (subst (λ (name : List ℕ). Gives c.under.result (below name (at_path false path read))) c.text.ensures (c.under.ensures.gives (at_path false path read) c.field-fields.ensures))

pub field-returns : goal.field-returns
field-returns t c =
    let levels = c.args.levels in
    let more : suc (levels - 1) ≡ levels = omega arith in
    subst (Gives c.field_in.result) (sym (field_form-lines c.args.path.now (field_at (levels - 1)) c.args.tree.now) ∙ ap (λ n. at_path false c.args.path.now (field_at n c.args.tree.now)) more) c.field_in.ensures
