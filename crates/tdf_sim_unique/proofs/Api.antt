-- The lemmas that other crates may use: two flat models of one model write the same, and so do two runs that are told answers. What the
-- history reads of the one is what it reads of the other.
pub use Rattle.tdf_sim_unique.proofs.Answers.{answers_same}
pub use Rattle.tdf_sim_unique.proofs.Bodies.{initialized_same, net_same, with_bodies}
pub use Rattle.tdf_sim_unique.proofs.Cells.{cells_same, sample_same}
pub use Rattle.tdf_sim_unique.proofs.Checks.{AreSame, are_same, in_checked}
pub use Rattle.tdf_sim_unique.proofs.Events.{rules_same}
pub use Rattle.tdf_sim_unique.proofs.Firsts.{world_same}
pub use Rattle.tdf_sim_unique.proofs.Instants.{history_same}
pub use Rattle.tdf_sim_unique.proofs.News.{news_same}
pub use Rattle.tdf_sim_unique.proofs.Runs.{runs_write_the_same}
pub use Rattle.tdf_sim_unique.proofs.Telling.{answers_write_alike, ended_bare, starts_alike}
