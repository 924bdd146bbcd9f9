-- The lemmas that the crates above use.
pub use Rattle.tdf_sim.proofs.Running.{can_run, sound_model}
pub use Rattle.tdf_sim.proofs.Writing.{first_plans, same_about, say_the_same}
pub use Rattle.tdf_sim.proofs.Texts.{accepted_tree}
pub use Rattle.tdf_sim_runs.proofs.Api.{own_model, own_start}
