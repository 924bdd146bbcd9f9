-- Definitions of crates below, passed on to those above.
-- Source: the crates that say them.
pub use Rattle.tdf_bind.specs.declared.model.Flat.{Flat}
pub use Rattle.tdf_streams.specs.Below.{AreWithinLimits, First, IsFirstPlan}
pub use Rattle.tdf_streams.specs.Cluster.{Start, cluster_net, driver_samples, text_start, zero_sample}
pub use Rattle.tdf_streams.specs.Grounds.{firings}
pub use Rattle.tdf_streams.specs.Net.{Past, Run, Turn, count}
pub use Rattle.tdf_streams.specs.Periods.{AreAttributes, IsPeriodRecord, IsWholeRecord, PeriodInfo, PeriodRecord, period_record}
pub use Rattle.tdf_streams.specs.Places.{has_changes, reader_at}
pub use Rattle.tdf_streams.specs.Signals.{output_at_spot, outputs_in, positions, rate_in, step_in, time_of_periods}
unfoldable pub use Rattle.tdf_streams.specs.Signals.{port_output}
pub use Rattle.tdf_streams.specs.Stands.{Less, Longer}
pub use Rattle.tdf_streams.specs.Starts.{ArePast, AreRecords}
pub use Rattle.tdf_streams.specs.Streams.{Spot, spot}
unfoldable pub use Rattle.tdf_streams.specs.Streams.{find, known, place, state_before}
