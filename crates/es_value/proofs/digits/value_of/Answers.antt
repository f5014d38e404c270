use Rattle.std.proofs.Common.{◌≡◌, ◌<◌, true, length, get_or, arith, rules}
use Rattle.std.specs.Char.{is_ascii_digit}
use Rattle.es_value.proofs.DigitSteps.{digit_is, all_digits_more, value_more, power_more, power_below}
use Rattle.es_value.proofs.digits.value_of.Goals as goal

pub overflow_mul-number : goal.overflow_mul-number
overflow_mul-number c =
    let short : c.loop-digit.digit-index < 19 = omega arith in
    omega (arith, power_below c.loop-digit.digit-index short)

pub overflow_add-number : goal.overflow_add-number
overflow_add-number c =
    let short : c.loop-digit.digit-index < 19 = omega arith in
    let digit : is_ascii_digit (get_or c.args.digits.now c.loop-digit.digit-index 0) ≡ true = search rules in
    omega (arith, power_below c.loop-digit.digit-index short, digit_is (get_or c.args.digits.now c.loop-digit.digit-index 0) digit)

pub loop-digit-preserved : goal.loop-digit-preserved
loop-digit-preserved c =
    let i = c.loop-digit.digit-index in
    let within : i < length c.args.digits.now = omega arith in
    let digit : is_ascii_digit (get_or c.args.digits.now i 0) ≡ true = search rules in
    record {
      digits = all_digits_more c.args.digits.now i within c.loop-digit.invariant.digits digit;
      value = value_more c.args.digits.now i c.loop-digit.number within c.loop-digit.invariant.value digit;
      bound = omega (arith, power_more i, digit_is (get_or c.args.digits.now c.loop-digit.digit-index 0) digit);
    }
