-- The modules of a model and their ports.
-- Source: own.
use Rattle.std.specs.List.{enumerate_from}
use Rattle.std.specs.Prelude.{◌≡◌, ◌+◌, ℕ, false, List, [], ◌∷◌, ◌++◌, map, Option, Some, None, slice_get, slice_index_or, filter_map}
use Rattle.tdf_bind_hierarchy.specs.Paths.{path_in}
use Rattle.tdf_bind_hierarchy.specs.Tables.{RowOf}
use Rattle.tdf_bind_hierarchy.specs.declared.tables.SignalNumber.{SignalNumber}
use Rattle.tdf_bind_connections.specs.Roles.{ModuleRole}
use Rattle.tdf_bind_connections.specs.declared.modules.ModuleRow.{ModuleRow}
use Rattle.tdf_bind_connections.specs.declared.modules.PortRow.{PortRow}
use Rattle.tdf_bind_connections.specs.declared.roles.PortData.{PortData}
use Rattle.tdf_bind_connections.specs.declared.roles.Role.{Role}
use Rattle.tdf_bind_connections.specs.declared.roles.Role.TheVariants.{Module}

-- an instance of a module with the data of its block
pub record PlacedModule : Type 0 where
  pub instance : RowOf
  pub role : ModuleRole

abbrev pub as_module : RowOf → Option Role → Option PlacedModule
as_module instance (Some (Module role)) = Some (record { instance = instance; role = role })
as_module instance _ = None

-- the modules among the instances
abbrev pub placed_modules : List Role → List RowOf → List PlacedModule
placed_modules roles instances =
    filter_map (λ instance. as_module instance (slice_get roles instance.block)) instances

-- the number of the signal that the port at a place reaches
abbrev pub signal_at : List SignalNumber → ℕ → ℕ
signal_at signals place =
    (slice_index_or signals place (record { event = false; number = 0 })).number

abbrev pub module_row : PlacedModule → ModuleRow
module_row placed = record {
  path = placed.instance.path;
  block = placed.role.block;
  changes = placed.role.changes;
  accepts = placed.role.accepts;
  step = placed.role.step;
}

-- the port at a place of an instance, which is the module of this number
abbrev pub port_row : ℕ → RowOf → ℕ → PortData → PortRow
port_row number instance place port = record {
  path = path_in (Some instance.path) port.name;
  «module» = number;
  kind = port.kind;
  rate = port.rate;
  delay = port.delay;
  step = port.step;
  signal = signal_at instance.signals place;
  initials = port.initials;
}

-- the ports of the module of this number, each with its place
abbrev pub module_ports : ℕ → PlacedModule → List PortRow
module_ports number placed =
    map (λ port. port_row number placed.instance port.0 port.1) (enumerate_from 0 placed.role.ports)

-- the ports of modules that are numbered from `number`
abbrev pub ports_from : ℕ → List PlacedModule → List PortRow
ports_from number [] = []
ports_from number (placed ∷ later) = module_ports number placed ++ ports_from (number + 1) later

pub record ModulesOf : Type 0 where
  pub modules : List ModuleRow
  pub ports : List PortRow

-- the tables are those of the modules among the instances
pub record AreModules (roles : List Role) (instances : List RowOf)
    (tables : ModulesOf) : Type 0 where
  pub modules : tables.modules ≡ map module_row (placed_modules roles instances)
  pub ports : tables.ports ≡ ports_from 0 (placed_modules roles instances)
