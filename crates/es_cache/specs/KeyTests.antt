-- What a test of keys answers.
use Rattle.std.specs.Prelude.{◌≡◌, Bool}
use Rattle.std.specs.Fn.{FnReturnsAt, Shared}
use Rattle.std.specs.Borrow.{Bor}

-- the test, called at a reference to the key, may give this answer, and is the same afterwards
abbrev pub AnswersAt : {F K : Type 0} → Shared F (Bor K × Unit {0}) Bool → F → K → Bool → F → Type 0
AnswersAt calls test key answer after = FnReturnsAt calls test key answer × (after ≡ test)
