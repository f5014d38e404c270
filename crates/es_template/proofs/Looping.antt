-- What is left of a text that is cut part by part, for loops.
use Rattle.std.proofs.Common.{ℕ, suc, List, length, Option, Some, None}

-- it gets less with each part
abbrev pub bytes_left : Option (List ℕ) → ℕ
bytes_left None = 0
bytes_left (Some rest) = suc (length rest)
