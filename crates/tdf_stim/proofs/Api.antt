-- The lemmas that other crates may use.
pub use Rattle.tdf_stim.proofs.FreeNames.{driver_named}
pub use Rattle.tdf_stim.proofs.KeptDriver.{driven_kept}
