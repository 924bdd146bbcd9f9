-- The lemmas that other crates may use.
pub use Rattle.tdf_stim_binding.proofs.Meeting.{driver_is_last}
pub use Rattle.tdf_stim_binding.proofs.Roles.{driver_has_role, just_behind, last_none, once_in}
pub use Rattle.tdf_stim_binding.proofs.Shape.{driven_tree_is}
