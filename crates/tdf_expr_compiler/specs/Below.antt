-- Definitions of crates below, passed on to those above.
-- Source: the crates that say them.
pub use Rattle.tdf_expr_semantics.specs.Places.{rate_number, rates_of}
unfoldable pub use Rattle.tdf_expr_semantics.specs.Places.{before}
pub use Rattle.tdf_expr_semantics.specs.Value.{literal_in}
