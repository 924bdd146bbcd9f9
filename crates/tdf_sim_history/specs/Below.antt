-- Definitions of crates below, passed on to those above.
-- Source: the crates that say them.
pub use Rattle.tdf_events.specs.Delta.{AreWritesOf}
pub use Rattle.tdf_events.specs.Runnable.{AreOfSignals, signal_formats}
