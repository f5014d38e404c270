use Rattle.std.proofs.Common.{◌∙◌, sym, ap, subst, rules}
use Rattle.std.specs.Prelude.{IsSorted}
use Rattle.std.specs.List.{list_any}
use Rattle.std.proofs.lemmas.Fn.{always_returns_same}
use Rattle.es_value.specs.Lent.{value_of}
use Rattle.es_value.specs.Order.{value_cmp, is_same}
use Rattle.es_match.proofs.SearchEnds.{found, absent}
use Rattle.es_match.proofs.searching.ValueSet.contains.Goals as goal

pub returns-in-Ok : goal.returns-in-Ok
returns-in-Ok c =
    let v = value_of c.args.value in
    let items = c.as_slice-values.result.now in
    let equal = c.in-Ok.ensures.position (λ w. value_cmp w v) (always_returns_same _ _ _ (λ a r next called. (search rules, search rules))) in
    let same = c.as_slice-values.ensures.value in
    sym (ap (list_any (λ w. is_same w v)) (sym (same ∙ c.self.view_is)) ∙ found v items c.in-Ok.field-0 c.in-Ok.ensures.bound equal)

pub returns-in-Err : goal.returns-in-Err
returns-in-Err c =
    let v = value_of c.args.value in
    let items = c.as_slice-values.result.now in
    let apart = c.in-Err.ensures.position (λ w. value_cmp w v) (always_returns_same _ _ _ (λ a r next called. (search rules, search rules))) in
    let same = c.as_slice-values.ensures.value in
    sym (ap (list_any (λ w. is_same w v)) (sym (same ∙ c.self.view_is)) ∙ absent v items (subst (IsSorted value_cmp) (sym same) c.self.invariant) c.in-Err.field-0 apart)
