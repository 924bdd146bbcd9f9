-- Definitions of crates below, passed on to those above.
-- Source: the crates that say them.
pub use Rattle.tdf_exec_layout.specs.Traced.{is_trace_of}
