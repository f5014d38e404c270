use Rattle.std.proofs.Common.{◌≡◌, List, map, ap, ◌∙◌}
use Rattle.std.specs.Borrow.{Bor}
use Rattle.es_grammar.specs.Values.{has_some}
use Rattle.es_role.specs.declared.kinds.Descriptor.{Descriptor}
use Rattle.es_compose.specs.declared.member.Member.{Member}
use Rattle.es_compose.specs.Roles.{counting}
use Rattle.es_compose.specs.Ready.{ready, seen, member_documents, member_fields}
use Rattle.es_compose.proofs.Permitted.{permitted}
use Rattle.es_compose.proofs.role.Role.permission.Goals as goal

pub returns-clause-permission : goal.returns-clause-permission
returns-clause-permission c =
    let whole = c.as_slice.ensures ∙ c.self.view_is in
    let slice = c.as_slice-members.ensures.value in
    let are : seen c.in_ok-counting.counting.items ≡ map ready (counting c.args.self.now c.args.action c.args.index.now) =
    c.in_ok-counting.ensures ∙ ap (λ (ds : List Descriptor). map ready (counting ds c.args.action c.args.index.now)) whole in
    permitted c.args.self.now c.args.person.now c.args.action c.args.index.now (seen c.in_ok-counting.counting.items) c.granted.result c.in_ok-documents.field-0 c.in_ok-fields.field-0 are
    (c.granted.ensures ∙ ap (λ (ms : List (Bor Member)). has_some (seen ms)) slice)
    (c.in_ok-documents.ensures ∙ ap (λ (ms : List (Bor Member)). member_documents c.args.person.now (seen ms)) slice)
    (c.in_ok-fields.ensures ∙ ap (λ (ms : List (Bor Member)). member_fields (seen ms)) slice)
