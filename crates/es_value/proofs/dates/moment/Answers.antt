use Rattle.std.proofs.Common.{◌≡◌, ℤ, pos, ◌+ℤ◌, ◌*ℤ◌, [], true, rules}
use Rattle.std.specs.Option.{unwrap_or}
use Rattle.jiff_core.specs.Calendar.{days_from_civil}
use Rattle.es_value.specs.Dates.{is_day, on_a_day}
use Rattle.es_value.proofs.Days.{said_on}
use Rattle.es_value.proofs.dates.moment.Goals as goal

pub returns : goal.returns
returns c =
    let month = unwrap_or c.args.month 1 in
    let day = unwrap_or c.args.day 1 in
    let stands : on_a_day c.args.day c.args.time ≡ true = search rules in
    said_on (on_a_day c.args.day c.args.time) (is_day c.args.year month day) c.in_ok-epoch_day.epoch_day (days_from_civil (pos c.args.year) month day) _ (λ (z : ℤ). (pos 86400000 *ℤ z) +ℤ unwrap_or c.args.time (pos 0)) [] stands (search rules) (search rules)
