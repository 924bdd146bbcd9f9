-- Rows of lists, by number.
pub use Rattle.tdf_exec_parts.proofs.Api.{all_at, index_at}
