-- The table of attributes of a cluster as the text says it.
-- Source: own.
use Rattle.std.specs.List.{enumerate_from, list_any}
use Rattle.std.specs.Prelude.{ℕ, Bool, false, List, [], ◌∷◌, map, Option, Some, None, nat_eq, if◌then◌else◌, filter_map, slice_get, slice_index}
use Rattle.tdf_bind_tables.specs.FlatTables.{FlatTablesOf}
use Rattle.tdf_dynamic_plans.specs.Attributes.{AttrsOf, clusters_of, ports_of_module}
use Rattle.tdf_dynamic_plans.specs.Known.{PlansOf}
use Rattle.tdf_expr.specs.Made.{start_rates}
use Rattle.tdf_bind.specs.declared.model.Flat.{Flat}
use Rattle.tdf_bind_connections.specs.declared.modules.ModuleRow.{ModuleRow}
use Rattle.tdf_bind_connections.specs.declared.modules.PortRow.{PortRow}

abbrev pub step_or_none : Option PortRow → ℕ
step_or_none None = 0
step_or_none (Some port) = port.step

abbrev pub port_step : List PortRow → ℕ → ℕ
port_step ports number = step_or_none (slice_get ports number)

-- the attributes of a module as the text says them
abbrev pub first_attrs : Flat → ℕ → ModuleRow → AttrsOf
first_attrs flat number row = record {
  number = number;
  ports = ports_of_module flat.tables.ports number;
  accepts = row.accepts;
  rates = start_rates flat.checked row.block;
  steps = row.step ∷ map (port_step flat.tables.ports) (ports_of_module flat.tables.ports number);
}

-- those of the module of a number, if it is in the cluster
abbrev pub attrs_if : Flat → ℕ → ℕ → ModuleRow → Option AttrsOf
attrs_if flat cluster number row =
    if nat_eq (slice_index (clusters_of flat.tables) number) cluster
    then Some (first_attrs flat number row) else None

-- those of some modules, the first ones of the model, that are in the cluster
abbrev pub attrs_in : Flat → (cluster : ℕ) → List ModuleRow → List AttrsOf
attrs_in flat cluster rows =
    filter_map (λ row. attrs_if flat cluster row.0 row.1) (enumerate_from 0 rows)

-- the table of a cluster as the text says it: its modules in order
unfoldable pub first_table : Flat → (cluster : ℕ) → List AttrsOf
first_table flat cluster = attrs_in flat cluster flat.tables.modules

-- whether a module has a body that changes attributes
abbrev pub changes_of : Option ModuleRow → Bool
changes_of None = false
changes_of (Some row) = row.changes

abbrev pub changes_at : FlatTablesOf → ℕ → Bool
changes_at tables number = changes_of (slice_get tables.modules number)

-- whether a table can change: a module of it has one
abbrev pub can_change : FlatTablesOf → List AttrsOf → Bool
can_change tables rows = list_any (λ attrs. changes_at tables attrs.number) rows

-- no plan is known yet; plans are kept where the table can change
abbrev pub none_known : FlatTablesOf → List AttrsOf → PlansOf
none_known tables rows = record {
  plans = [];
  most = if can_change tables rows then 8 else 0;
  made = 0;
}
