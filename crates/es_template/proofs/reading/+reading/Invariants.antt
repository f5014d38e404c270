use Rattle.std.proofs.Common.{◌≡◌, map, drop}
use Rattle.es_grammar.specs.Values.{items_of}
use Rattle.es_grammar.proofs.Fronts.{with_front}
use Rattle.es_template.specs.Sources.{template_form, members_form, member_reading}
use Rattle.es_template.proofs.reading.+reading.Given as goal

-- what was read, with what is left to read, is what the whole gives
abbrev pub invariant-templates-loop-number : goal.invariant-templates-loop-number
invariant-templates-loop-number l = with_front l.found (items_of template_form l.number (drop l.number l.trees)) ≡ items_of template_form 0 l.trees

abbrev pub invariant-template_members-loop-member : goal.invariant-template_members-loop-member
invariant-template_members-loop-member l = with_front l.found (members_form (map member_reading (drop l.member-index l.member-items))) ≡ members_form (map member_reading l.members)
