-- The lemmas that other crates may use.
pub use Rattle.tdf_bind_connections.proofs.DriverLoops.{first_none, first_some, first_end}
pub use Rattle.tdf_bind_connections.proofs.Lists.{map_next, numbered_next, filtered_next, any_default}
