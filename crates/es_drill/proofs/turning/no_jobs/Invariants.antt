use Rattle.std.proofs.Common.{◌≡◌, replicate, None}
use Rattle.es_drill.proofs.turning.no_jobs.Given as goal

-- as many places as the loop has turned
abbrev pub invariant-loop : goal.invariant-loop
invariant-loop l = l.jobs.items ≡ replicate l.counter None
