use Rattle.std.proofs.Common.{arith}
use Rattle.es_request.proofs.Digits.{number_more}
use Rattle.es_request.proofs.durations.number_of.Goals as goal

pub overflow_mul-number : goal.overflow_mul-number
overflow_mul-number c = let more = number_more _ _ _ c.requires.are_digits c.requires.is_number c.loop-byte-test.true c.loop-byte.invariant in omega arith

pub overflow_add-number : goal.overflow_add-number
overflow_add-number c = let more = number_more _ _ _ c.requires.are_digits c.requires.is_number c.loop-byte-test.true c.loop-byte.invariant in omega arith

pub loop-byte-preserved : goal.loop-byte-preserved
loop-byte-preserved c = let more = number_more _ _ _ c.requires.are_digits c.requires.is_number c.loop-byte-test.true c.loop-byte.invariant in more.3
