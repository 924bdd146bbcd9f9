-- What the history of a run comes to, for the crates above: the definitions are those of the crates
-- that say them.
-- Source: own.
pub use Rattle.tdf_sim_history.specs.History.{Spent, Stopped}
