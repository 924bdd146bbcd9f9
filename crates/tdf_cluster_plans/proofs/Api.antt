-- What crates above use of the proofs.
pub use Rattle.tdf_cluster_plans.proofs.Clustering.{in_count, index_below}
pub use Rattle.tdf_cluster_plans.proofs.EdgeOnes.{reads_elsewhere, writes_elsewhere}
