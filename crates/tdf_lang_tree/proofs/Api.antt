-- The lemmas that the crates above use.
pub use Rattle.tdf_lang_tree.proofs.Views.{pure_if, pure_for, pure_assign, pure_notify, pure_set_rate, pure_set_step, pure_accept, pure_reject}
