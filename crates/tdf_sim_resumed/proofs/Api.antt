-- The lemmas that other crates may use.
pub use Rattle.tdf_sim_refinement.proofs.Api.{done_none}
pub use Rattle.tdf_sim_resumed.proofs.Good.{plan_whole, resumed_good, whole_is}
pub use Rattle.tdf_sim_resumed.proofs.Members.{ResumedAt, each_at, resumed_at}
pub use Rattle.tdf_sim_resumed.proofs.Places.{done_early}
pub use Rattle.tdf_sim_resumed.proofs.Quiet.{none_due, still}
pub use Rattle.tdf_sim_resumed.proofs.Standing.{says}
pub use Rattle.tdf_sim_resumed.proofs.One.{rows_same}
