-- The lemmas that other crates may use.
pub use Rattle.tdf_stim_process.proofs.Owned.{among_at, is_among_of}
pub use Rattle.tdf_stim_process.proofs.Reading.{text_gives_instance}
pub use Rattle.tdf_stim_process.proofs.Shown.{ports_show_columns}
pub use Rattle.tdf_stim_process.proofs.Times.{times_rise}
