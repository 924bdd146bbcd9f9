-- The lemmas that other crates may use.
pub use Rattle.tdf_stim_history.proofs.Histories.{history_drives}
pub use Rattle.tdf_stim_history.proofs.Literals.{last_row_gives}
