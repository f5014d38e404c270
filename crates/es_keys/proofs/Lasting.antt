-- When keys expire.
use Rattle.std.proofs.Common.{◌≡◌, ◌<◌, ◌≤◌, ◌+◌, ℕ, true, false, nat_le, arith}
use Rattle.std.proofs.lemmas.Bool.Decides.{nat_tests}
use Rattle.es_keys.specs.Keys.{key_record, is_expired}
use Rattle.es_keys.specs.Laws.{MadeUnexpired}

before_end : (end later : ℕ) → later < end → nat_le end later ≡ false
before_end end later h = grind (arith, nat_tests)

from_end : (end later : ℕ) → end ≤ later → nat_le end later ≡ true
from_end end later h = grind (arith, nat_tests)

pub lasts : MadeUnexpired
unfolding key_record is_expired
lasts owner limits asked place moment duration later secret e =
    (λ h. rw e (before_end (moment + duration) later h), λ h. rw e (from_end (moment + duration) later h))
