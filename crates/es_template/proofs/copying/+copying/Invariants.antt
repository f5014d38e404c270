use Rattle.std.proofs.Common.{◌≡◌, take}
use Rattle.es_template.proofs.copying.+copying.Given as goal

abbrev pub invariant-copy_templates-loop-template : goal.invariant-copy_templates-loop-template
invariant-copy_templates-loop-template l = l.copies ≡ take l.template-index l.templates

abbrev pub invariant-copy_members-loop-member : goal.invariant-copy_members-loop-member
invariant-copy_members-loop-member l = l.copies ≡ take l.member-index l.members
