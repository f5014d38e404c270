use Rattle.std.proofs.Common.{◌≡◌, ◌+◌, length, min, arith}
use Rattle.es_edge.proofs.ListedLemmas.{listed_bytes, listed_failed, failed_by}
use Rattle.es_edge.proofs.chance.ListedChanceChance.draw.Goals as goal

pub returns-in-Bytes-clause-draws : goal.returns-in-Bytes-clause-draws
returns-in-Bytes-clause-draws c =
    let next : c.min-self.result ≡ min (c.args.self.now.place + 1) (length c.args.self.now.draws) = omega arith in
    listed_bytes _ _ _ _ _ next c.in-Bytes.ensures

pub returns-clause-draws : goal.returns-clause-draws
returns-clause-draws c =
    let next : c.min-self.result ≡ min (c.args.self.now.place + 1) (length c.args.self.now.draws) = omega arith in
    listed_failed _ _ _ _ _ next (failed_by _ _ c.answer_at-answer.ensures c.in_default.not-Bytes) (omega arith) (omega arith)

pub returns-clause-gives : goal.returns-clause-gives
returns-clause-gives c = failed_by _ _ c.answer_at-answer.ensures c.in_default.not-Bytes
