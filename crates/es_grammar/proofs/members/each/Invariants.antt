use Rattle.std.proofs.Common.{◌≡◌, drop}
use Rattle.es_grammar.specs.Members.{each_of}
use Rattle.es_grammar.proofs.Fronts.{with_front}
use Rattle.es_grammar.proofs.members.each.Given as goal

abbrev pub invariant-loop-member : goal.invariant-loop-member
invariant-loop-member g l = with_front l.found (each_of g.F.MemberForm.form (drop l.member-index l.members)) ≡ each_of g.F.MemberForm.form l.members
