-- The ports of modules, and the attributes of the modules among some actors.
-- Source: own.
use Rattle.std.specs.Prelude.{ℕ, ◌≡◌, ◌<◌, ◌≤◌, List, [], Option, Some, None, filter_map, length, slice_get, slice_index_or}
use Rattle.tdf_bind.specs.declared.model.Flat.{Flat}
use Rattle.tdf_bind_connections.specs.declared.modules.ModuleRow.{ModuleRow}
use Rattle.tdf_bind_connections.specs.declared.modules.PortRow.{PortRow}
use Rattle.tdf_dynamic_plans.specs.Attributes.{AttrsOf, ports_of_module}
use Rattle.tdf_dynamic_first.specs.Text.{first_attrs}

-- for each module the numbers of its ports
pub record ArePortsByModule (ports : List PortRow) (count : ℕ) (groups : List (List ℕ))
    : Type 0 where
  pub long : count ≤ length groups
  pub each : (m : ℕ) → m < count → slice_index_or groups m [] ≡ ports_of_module ports m

-- the attributes of a module by its number, and those of the modules among some actors
abbrev pub attrs_by : Flat → ℕ → Option ModuleRow → Option AttrsOf
attrs_by flat number None = None
attrs_by flat number (Some row) = Some (first_attrs flat number row)

abbrev pub attrs_of : Flat → ℕ → Option AttrsOf
attrs_of flat number = attrs_by flat number (slice_get flat.tables.modules number)

abbrev pub own_rows : Flat → (actors : List ℕ) → List AttrsOf
own_rows flat actors = filter_map (attrs_of flat) actors
