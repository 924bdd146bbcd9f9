-- The lemmas that other crates may use.
pub use Rattle.tdf_fixed.proofs.ExactReaders.{reads_exactly}
pub use Rattle.tdf_fixed.proofs.Orders.{monotone}
pub use Rattle.tdf_fixed.proofs.Ranges.{in_range, in_width, in_small, cast_in}
pub use Rattle.tdf_fixed.proofs.ReadBack.{reads_back}
pub use Rattle.tdf_fixed.proofs.Readers.{reads_literals}
pub use Rattle.tdf_fixed.proofs.Scaling.{placed_up, placed_down, quantised_scaled, times_both}
pub use Rattle.tdf_fixed.proofs.TimeTexts.{HasTimeShape, fraction_room, picoseconds_in_femtoseconds, time_is, time_one, time_only, time_shape}
pub use Rattle.tdf_fixed.proofs.ValueLaws.{by_value, casts_exactly, nearest_half, rounds_down}
pub use Rattle.tdf_fixed.proofs.WholeParts.{few_whole, number_above, same_whole, whole_decimal}
pub use Rattle.tdf_fixed.proofs.Wraps.{neighbours, kept, cast_keeps, cast_again, wrap_is, only_wrap}
