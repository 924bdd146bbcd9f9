-- The lemmas that other crates may use.
pub use Rattle.tdf_stim_flat.proofs.Ends.{all_placed, last_is_last}
pub use Rattle.tdf_stim_flat.proofs.Marks.{marks_are_written}
pub use Rattle.tdf_stim_flat.proofs.Writers.{last_gives_alone}
