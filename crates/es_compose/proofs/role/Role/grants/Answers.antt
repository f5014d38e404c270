use Rattle.std.proofs.Common.{List, ap, ◌∙◌}
use Rattle.es_role.specs.declared.kinds.Descriptor.{Descriptor}
use Rattle.es_compose.specs.Roles.{role_grants}
use Rattle.es_compose.proofs.Counting.{grants_by_counting}
use Rattle.es_compose.proofs.role.Role.grants.Goals as goal

pub returns-clause-counting : goal.returns-clause-counting
returns-clause-counting c =
    let whole = c.as_slice.ensures ∙ c.self.view_is in
    c.some_part.ensures
    ∙ ap (λ (ds : List Descriptor). role_grants ds c.args.action c.args.index.now) whole
    ∙ grants_by_counting c.args.self.now c.args.action c.args.index.now
