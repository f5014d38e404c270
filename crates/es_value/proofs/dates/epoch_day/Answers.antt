use Rattle.std.proofs.Common.{◌≡◌, Some, pos, w8, w16, w32, FitsSigned, to_z, of_z, refl, ap, ◌∙◌, arith, rules}
use Rattle.std.proofs.lemmas.Int.{to_z-of_z, to_z_pos}
use Rattle.jiff_core.specs.Date.{epoch_day}
use Rattle.es_value.proofs.Days.{found_day}
use Rattle.es_value.proofs.dates.epoch_day.Goals as goal

pub returns-in-Ok-clause-value : goal.returns-in-Ok-clause-value
returns-in-Ok-clause-value c =
    let fits : FitsSigned w32 c.to_unix_epoch_day.result = search rules in
    let same : to_z w32 (of_z w32 c.to_unix_epoch_day.result) ≡ epoch_day c.in-Ok.date = to_z-of_z w32 _ fits ∙ c.to_unix_epoch_day.ensures.value in
    let year : to_z w16 c.args.year ≡ pos c.args.year = to_z_pos w16 c.args.year (omega arith) in
    let month : to_z w8 c.args.month ≡ pos c.args.month = to_z_pos w8 c.args.month (omega arith) in
    let day : to_z w8 c.args.day ≡ pos c.args.day = to_z_pos w8 c.args.day (omega arith) in
    let valid = rw (year, month, day) at (c.in-Ok.ensures.succeeds.0 refl) in
    let parts = rw (year, month, day) at c.in-Ok.ensures.value in
    ap Some same ∙ found_day c.args.year c.args.month c.args.day c.in-Ok.date valid parts
