-- The lemmas that the crates above use.
pub use Rattle.tdf_expr_semantics.proofs.Api.{found}
pub use Rattle.tdf_expr.proofs.Declared.{IsGlobal, format_there, globals_all}
pub use Rattle.tdf_expr.proofs.Fitting.{cells_start, limits_same, rates_in_order, rates_start, zero_in}
pub use Rattle.tdf_expr.proofs.Things.{AllThings, all_changed, all_named}
pub use Rattle.tdf_expr.proofs.Held.{AreHeld, fits_one, held_fit, held_more}
