-- The lemmas that other crates may use.
pub use Rattle.tdf_base.proofs.DecimalDigits.{own, digit_small, number_below, same_digit, same_digits, number_decimal, digits_decimal, few_decimal, int_decimal, int_small, time_of_count, time_at_picoseconds, time_at_femtoseconds}
pub use Rattle.tdf_base.proofs.NumeralReaders.{place_at, no_place, around, some_same, after_some, all_of, digits_from, numeral_spells, numeral_spelled, reads_numerals}
pub use Rattle.tdf_base.proofs.Places.{place_step, place_below, place_fits, digit_at, digit_in}
pub use Rattle.tdf_base.proofs.Powers.{power_of_ten, power_of_two, power_some, scaled_within}
pub use Rattle.tdf_base.proofs.Quotients.{of_parts, times_div, times_mod}
pub use Rattle.tdf_base.proofs.TimeBounds.{time_small, time_at_small}
pub use Rattle.tdf_base.proofs.TimeReaders.{reads_times, reads_times_at, reads_both}
pub use Rattle.tdf_base.proofs.Leasts.{least_none, least_append, least_if, least_more, least_all, least_more_plain, least_all_plain, if_none, none_first, none_second}
pub use Rattle.tdf_base.proofs.IsFirst.{finds_first}
