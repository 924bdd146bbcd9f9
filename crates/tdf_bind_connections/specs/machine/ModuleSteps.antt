-- How the tables of modules are made.
-- Source: own.
use Rattle.std.specs.List.{enumerate_from}
use Rattle.std.specs.Prelude.{ℕ, List, [], ◌∷◌, ◌++◌, length, map, Option, Some, None, slice_get}
use Rattle.tdf_bind_hierarchy.specs.Tables.{RowOf}
use Rattle.tdf_bind_connections.specs.Modules.{PlacedModule, as_module, module_row, port_row, ModulesOf}
use Rattle.tdf_bind_connections.specs.Roles.{ModuleRole}
use Rattle.tdf_bind_connections.specs.declared.modules.PortRow.{PortRow}
use Rattle.tdf_bind_connections.specs.declared.roles.PortData.{PortData}
use Rattle.tdf_bind_connections.specs.declared.roles.Role.{Role}

abbrev pub no_modules : ModulesOf
no_modules = record { modules = []; ports = [] }

abbrev pub ports_before : ℕ → RowOf → List PortData → List PortRow
ports_before number instance ports =
    map (λ port. port_row number instance port.0 port.1) (enumerate_from 0 ports)

abbrev pub with_module : RowOf → ModuleRole → ModulesOf → ModulesOf
with_module instance role tables = record {
  modules = tables.modules ++ module_row (record { instance = instance; role = role }) ∷ [];
  ports = tables.ports ++ ports_before (length tables.modules) instance role.ports;
}

abbrev pub with_placed : Option PlacedModule → ModulesOf → ModulesOf
with_placed None tables = tables
with_placed (Some placed) tables = with_module placed.instance placed.role tables

abbrev pub with_instance : List Role → RowOf → ModulesOf → ModulesOf
with_instance roles instance tables =
    with_placed (as_module instance (slice_get roles instance.block)) tables
