use Rattle.std.proofs.Common.{◌∙◌, List, slice_get, ap, sym}
use Rattle.tdf_bind_connections.specs.ProcessBlocks.{BlockRowOf}
use Rattle.tdf_bind_tables.specs.FlatTables.{FlatTablesOf}
use Rattle.tdf_events.proofs.fitting.is_state.Goals as goal

pub are_cells-requires : goal.are_cells-requires
are_cells-requires c = λ n row at. (c.requires.instances n row (ap (λ (t : FlatTablesOf). slice_get t.blocks n) (sym c.tables.view_is) ∙ ap (λ (xs : List BlockRowOf). slice_get xs n) (sym c.deref-then-are_values.ensures.value) ∙ at)).block
