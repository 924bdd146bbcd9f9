-- The lemmas that other crates may use.
pub use Rattle.tdf_cluster_net.proofs.Counts.{own_clusters_are, own_counts, own_has, own_rates_fault, own_size_fault}
pub use Rattle.tdf_cluster_net.proofs.Edges.{at_contains, contains_at, edge_up}
pub use Rattle.tdf_cluster_net.proofs.Faults.{deadlock_down, deadlock_up, noncausal_down, noncausal_up, pace_up}
pub use Rattle.tdf_cluster_net.proofs.Numbering.{numbers_passed, numbers_pushed}
pub use Rattle.tdf_cluster_net.proofs.Plans.{whole_plan}
pub use Rattle.tdf_cluster_net.proofs.Ranks.{spread_at}
pub use Rattle.tdf_cluster_net.proofs.Renaming.{edges_among, made_is_own, picked_none, picked_one_more, ports_among}
pub use Rattle.tdf_cluster_net.proofs.Samples.{samples_same}
pub use Rattle.tdf_cluster_net.proofs.Spread.{spread_sum}
pub use Rattle.tdf_cluster_net.proofs.Steps.{assigned_down, disagreed_up, firing_within, inexact_up, steps_up, too_long_up}
