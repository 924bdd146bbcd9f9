-- The lemmas that other crates may use.
pub use Rattle.tdf_stim_body.proofs.Bodies.{body_drives}
pub use Rattle.tdf_stim_body.proofs.Lines.{lines_change_nothing}
pub use Rattle.tdf_stim_body.proofs.Numbers.{has_item}
pub use Rattle.tdf_stim_body.proofs.Naming.{AreFresh, all_fresh, all_names, both, driver_names_stand, line_name, line_thing}
pub use Rattle.tdf_stim_body.proofs.Things.{columns_things, tail_things, things_are}
