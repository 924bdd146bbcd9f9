-- The lemmas that other crates may use: the texts of the first plans, and the notes of a run.
pub use Rattle.tdf_sim_notes.proofs.Listed.{firsts_printable, plans_are_first}
pub use Rattle.tdf_sim_notes.proofs.Notes.{closing_is, notes_are}
