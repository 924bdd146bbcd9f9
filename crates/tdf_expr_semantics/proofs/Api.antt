-- The lemmas that the crates above use.
pub use Rattle.tdf_expr_semantics.proofs.Bounds.{raised, abs_times, twice, adds, differs, either, aligned, within_format, within_cast}
pub use Rattle.tdf_expr_semantics.proofs.Found.{found, thing_sound, global_sound, least_greatest, IsOpen, open_loop, IsOfKind, of_kind, is_loop}
pub use Rattle.tdf_expr_semantics.proofs.Indices.{IsTurn, turn_at, inside}
pub use Rattle.tdf_expr_semantics.proofs.Placed.{slice_replicate, slice_left, slice_right, placed, limits_placed}
pub use Rattle.tdf_expr_semantics.specs.Places.{HasElement}
pub use Rattle.tdf_expr_semantics.proofs.Widths.{element_kind, own_of, has_element, first_element, within}
pub use Rattle.tdf_expr_semantics.proofs.Keeps.{IsLimit, is_limit, rate_kind, rate_own, IsRateVar, rate_var, rate_within, loops_more, IsElement, target_element, keeps}
pub use Rattle.tdf_expr_semantics.proofs.Sets.{numbers_set, rates_set}
