-- The lemmas that the crates above use.
pub use Rattle.tdf_stim_lines.proofs.Kept.{numbered_kept, numbered_formed}
