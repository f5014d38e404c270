use Rattle.std.proofs.Common.{nat_cmp, sym, ap, ◌∙◌, rules}
use Rattle.std.specs.Cmp.Lexicographic.{slice_cmp}
use Rattle.std.proofs.lemmas.Fn.{always_returns_same}
use Rattle.es_tree.specs.Find.{value_named}
use Rattle.es_tree.proofs.Names.{value_named-found, value_named-absent}
use Rattle.es_tree.proofs.ordered.Ordered.find.Goals as goal

pub returns-in-Ok : goal.returns-in-Ok
returns-in-Ok g c =
    let found = c.in-Ok.ensures in
    let name = c.args.name.now in
    let items = c.as_slice-items.result.now in
    let equal = found.position (λ m. slice_cmp nat_cmp m.name name) (always_returns_same _ _ _ (λ a r next called. (search rules, search rules))) in
    let same = c.as_slice-items.ensures.value in
    let is = value_named-found name items (rw same c.self.invariant) c.in-Ok.at found.bound equal c.index-items-at.result in
    sym (ap (value_named name) (sym (same ∙ c.self.view_is)) ∙ is)

pub returns-in-Err : goal.returns-in-Err
returns-in-Err g c =
    let name = c.args.name.now in
    let items = c.as_slice-items.result.now in
    let apart = c.in-Err.ensures.position (λ m. slice_cmp nat_cmp m.name name) (always_returns_same _ _ _ (λ a r next called. (search rules, search rules))) in
    let same = c.as_slice-items.ensures.value in
    sym (ap (value_named name) (sym (same ∙ c.self.view_is)) ∙ value_named-absent name items (rw same c.self.invariant) c.in-Err.field-0 apart)
