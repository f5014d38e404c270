-- Rows of what texts say.
use Rattle.std.proofs.Common.{◌≡◌, Some, None, pos, negsuc, codes, refl}
use Rattle.es_value.specs.Dates.{date_of}
use Rattle.es_value.specs.Numbers.{number_of}
use Rattle.jiff_core.specs.Calendar.{days_from_civil, day_count, days_of_years, days_of_months}

the_first_moment_of_a_year : date_of (codes "2020") ≡ Some (pos 1577836800000)
unfolding date_of days_from_civil day_count days_of_years days_of_months
the_first_moment_of_a_year = refl

a_leap_day_and_its_last_millisecond : date_of (codes "2020-02-29T23:59:59.999Z") ≡ Some (pos 1583020799999)
unfolding date_of days_from_civil day_count days_of_years days_of_months
a_leap_day_and_its_last_millisecond = refl

tenths_of_a_second_before_1970 : date_of (codes "1969-12-31T23:59:59.9") ≡ Some (negsuc 99)
unfolding date_of days_from_civil day_count days_of_years days_of_months
tenths_of_a_second_before_1970 = refl

a_time_ahead_of_utc : date_of (codes "2020-01-01T00:00+01:30") ≡ Some (pos 1577831400000)
unfolding date_of days_from_civil day_count days_of_years days_of_months
a_time_ahead_of_utc = refl

no_leap_day : date_of (codes "2021-02-29") ≡ None
unfolding date_of number_of
no_leap_day = refl

no_hour_24 : date_of (codes "2020-01-01T24:00") ≡ None
unfolding date_of number_of
no_hour_24 = refl

no_minute_60_of_an_offset : date_of (codes "2020-01-01T00:00+00:60") ≡ None
unfolding date_of number_of
no_minute_60_of_an_offset = refl

no_fourth_digit_of_a_second : date_of (codes "2020-01-01T00:00:00.0000") ≡ None
unfolding date_of number_of
no_fourth_digit_of_a_second = refl

no_time_without_a_day : date_of (codes "2020-01T00:00") ≡ None
unfolding date_of number_of
no_time_without_a_day = refl

four_digits_behind_a_sign : date_of (codes "-2020") ≡ Some (negsuc 2019)
unfolding date_of number_of
four_digits_behind_a_sign = refl

five_digits : date_of (codes "02020") ≡ Some (pos 2020)
unfolding date_of number_of
five_digits = refl

no_plus : date_of (codes "+2020") ≡ None
unfolding date_of number_of
no_plus = refl

the_greatest_number : number_of (codes "9223372036854775807") ≡ Some (pos 9223372036854775807)
unfolding number_of
the_greatest_number = refl

no_greater_number : number_of (codes "9223372036854775808") ≡ None
unfolding number_of
no_greater_number = refl

the_least_number : number_of (codes "-9223372036854775808") ≡ Some (negsuc 9223372036854775807)
unfolding number_of
the_least_number = refl

no_digits : number_of (codes "-") ≡ None
unfolding number_of
no_digits = refl
