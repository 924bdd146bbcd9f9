-- The lemmas that other crates may use.
pub use Rattle.tdf_dynamic_first.proofs.Firsts.{net_fit, net_clusters}
pub use Rattle.tdf_dynamic_first.proofs.Tables.{table_is}
