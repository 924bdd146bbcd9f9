-- The lemmas that other crates may use.
pub use Rattle.tdf_graph.proofs.Labels.{joined_then, joined_back, along, joined_by, joined_more, last_edge, edge_cases, labels_alone, labels_same, labels_next}
pub use Rattle.tdf_graph.proofs.Renames.{renamed_gone, renamed_other, place_in}
pub use Rattle.tdf_graph.proofs.Unique.{stands_below, same_clusters}
