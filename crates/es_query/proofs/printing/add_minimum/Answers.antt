use Rattle.std.proofs.Common.{rules, w64}
use Rattle.std.proofs.lemmas.Int.{to_z-of_z}
use mir.Val.{SFits}
use Rattle.es_query.proofs.printing.add_minimum.Goals as goal

pub returns-in-Some : goal.returns-in-Some
returns-in-Some c =
    let fits : SFits w64 c.printed_count.result = search rules in
    let added = simp to_z-of_z at c.add.ensures.ok in
    rw (c.in-Some.is, ← c.printed_count.ensures) added
