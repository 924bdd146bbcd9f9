-- The lemmas that other crates may use.
pub use Rattle.tdf_expr_machine.proofs.InOrder.{acted_append, safe_first, safe_second, sequence_none, sequence_one, sequence_both}
pub use Rattle.tdf_expr_machine.proofs.Runs.{turned_none, turned_more, turned_same, turn_safe}
