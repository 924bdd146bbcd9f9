-- The lemmas that the crates above use.
pub use Rattle.tdf_exec_parts.proofs.EdgeRates.{edge_reads, edge_writes, rate_there, reads_at, writes_at}
pub use Rattle.tdf_exec_parts.proofs.FirstRings.{in_groups}
pub use Rattle.tdf_exec_parts.proofs.OwnEdges.{own_at, own_below, own_found, own_many, own_numbers}
pub use Rattle.tdf_exec_parts.proofs.Rows.{all_at, index_at}
pub use Rattle.tdf_exec_parts.proofs.Said.{IsSaid, row_said}
