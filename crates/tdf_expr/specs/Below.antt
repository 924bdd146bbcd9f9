-- Definitions of crates below, passed on to those above.
-- Source: the crates that say them.
pub use Rattle.tdf_expr_blocks.specs.Blocks.{bodies_faults}
unfoldable pub use Rattle.tdf_expr_blocks.specs.Blocks.{composite_faults, tdf_faults}
unfoldable pub use Rattle.tdf_expr_blocks.specs.Lines.{attr_faults, initial_faults, member_faults}
unfoldable pub use Rattle.tdf_expr_blocks.specs.Lines.{tdf_line_faults}
pub use Rattle.tdf_expr_blocks.specs.Types.{traces_faults}
unfoldable pub use Rattle.tdf_expr_blocks.specs.Types.{global_faults, type_faults}
