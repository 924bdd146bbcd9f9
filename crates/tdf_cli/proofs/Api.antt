-- The lemmas that other crates may use: what an outcome is, by its case.
pub use Rattle.tdf_cli.proofs.Resumed.{OfRest, OfResume, seen_resume}
pub use Rattle.tdf_cli.proofs.Saved.{OfStateEnd, seen_state}
pub use Rattle.tdf_cli.proofs.Seen.{OfEnd, OfRunText, OfSaveText, ran, same_tree, seen}
