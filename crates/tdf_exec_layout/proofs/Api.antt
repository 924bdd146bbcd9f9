-- The lemmas that other crates may use.
pub use Rattle.tdf_streams.proofs.Api.{are_rates, get_high, get_inside, get_low, is_wired, some_same, text_attributes}
pub use Rattle.tdf_exec_layout.proofs.Actors.{IsSinkOf, module_kind, port_actor_at, sink_at}
pub use Rattle.tdf_exec_layout.proofs.Drivers.{IsDriver, driver_is}
pub use Rattle.tdf_exec_layout.proofs.Edges.{edge_row, port_once, sampler_reads, sink_writes, sinks_read}
pub use Rattle.tdf_exec_layout.proofs.Rates.{between_rates, in_within, out_within, sampler_rates, sink_rates}
pub use Rattle.tdf_exec_layout.proofs.Samples.{edge_fits, read_format, samples_fit, write_format}
pub use Rattle.tdf_exec_layout.proofs.Uses.{are_formats, can_put, initials_fit}
pub use Rattle.tdf_exec_layout.proofs.Wired.{InSpan, IsAtPlace, IsReadBy, IsWrittenBy, OutSpan, are_wired, at_place, in_span, out_span, place_once, read_by, spans_at, written_by}
