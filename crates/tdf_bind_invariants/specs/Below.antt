-- Definitions of crates below, passed on to those above.
-- Source: the crates that say them.
pub use Rattle.tdf_bind.specs.Flat.{IsFlatOf, top_place}
pub use Rattle.tdf_bind.specs.declared.model.Flat.{Flat}
pub use Rattle.tdf_expr.specs.Blocks.{PureBlock, blocks_of, body_of}
pub use Rattle.tdf_expr.specs.Made.{event_count, port_spans_of, start_cells, start_rates}
pub use Rattle.tdf_expr.specs.Runs.{scope_in}
pub use Rattle.tdf_expr.specs.declared.bodies.Body.{Body}
pub use Rattle.tdf_expr.specs.declared.bodies.Body.TheVariants.{Change, Initialize, Processing, Reinitialize}
