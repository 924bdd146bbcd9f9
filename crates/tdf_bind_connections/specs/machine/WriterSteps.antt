-- How writers are gathered.
-- Source: own.
use Rattle.std.specs.Prelude.{Bool, List, ◌++◌, Option, Some, None, slice_get}
use Rattle.tdf_bind_hierarchy.specs.Tables.{RowOf}
use Rattle.tdf_bind_connections.specs.ProcessBlocks.{PlacedBlock, as_block}
use Rattle.tdf_bind_connections.specs.Writers.{writers_at}
use Rattle.tdf_bind_connections.specs.declared.roles.Role.{Role}
use Rattle.tdf_bind_connections.specs.declared.writers.Writer.{Writer}

abbrev pub with_writers : Bool → Option PlacedBlock → List Writer → List Writer
with_writers event None writers = writers
with_writers event (Some placed) writers =
    writers ++ writers_at event placed.instance.signals placed.role.ports

abbrev pub with_instance_writers : Bool → List Role → RowOf → List Writer → List Writer
with_instance_writers event roles instance writers =
    with_writers event (as_block instance (slice_get roles instance.block)) writers
