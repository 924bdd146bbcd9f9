-- Definitions of crates below, passed on to those above.
-- Source: the crates that say them.
pub use Rattle.tdf_bind_invariants.specs.Formats.{format_of_row, signal_format}
pub use Rattle.tdf_bind_invariants.specs.Limits.{AreWithinLimits, limits_in}
pub use Rattle.tdf_streams.specs.Cluster.{initial_list}
pub use Rattle.tdf_streams.specs.Periods.{AreAttributes, HasAllowedRates, read_rates, write_rates}
pub use Rattle.tdf_streams.specs.Places.{block_at, block_of_row, is_own, reader_at, reader_of_row, writer_at, writer_of_row}
pub use Rattle.tdf_streams.specs.Starts.{held_at_head, initial_of_row}
