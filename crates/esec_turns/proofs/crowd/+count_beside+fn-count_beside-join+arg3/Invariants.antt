use Rattle.std.proofs.Common.{◌-◌, ◌*◌}
use Rattle.esec_turns.proofs.crowd.+count_beside+fn-count_beside-join+arg3.Given as goal

abbrev pub decreases-count_beside : goal.decreases-count_beside
decreases-count_beside g l = 2 * l.threads

abbrev pub decreases-join+arg3 : goal.decreases-join+arg3
decreases-join+arg3 g l = 2 * l.threads - 1
