-- Definitions of crates below, passed on to those above.
-- Source: the crates that say them.
unfoldable pub use Rattle.tdf_expr_types.specs.Bodies.{body_faults}
