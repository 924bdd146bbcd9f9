-- The attributes of the modules of a cluster: whether each accepts changes, the values of its rate
-- variables, and the timesteps that are assigned to it and to its ports.
-- Source: IEEE 1666.1-2016, attributes of TDF modules and ports; the table is own.
use Rattle.std.specs.List.{enumerate_from}
use Rattle.std.specs.Prelude.{◌≡◌, ◌+◌, ◌<◌, ℕ, Bool, false, List, [], ◌∷◌, length, map, Option, Some, None, nat_eq, if◌then◌else◌, filter_map, slice_get, slice_index, All}
use Rattle.tdf_base.specs.Limits.{time_end}
use Rattle.tdf_bind_tables.specs.Actors.{cluster_of}
use Rattle.tdf_bind_tables.specs.FlatTables.{FlatTablesOf}
use Rattle.tdf_bind_connections.specs.declared.modules.PortRow.{PortRow}

-- a module, the numbers of its ports in order, and their attributes: the timestep at place 0 is the
-- module's own, that at place 1 + i its port i's; it is 0 where none is assigned
pub record AttrsOf : Type 0 where
  pub number : ℕ
  pub ports : List ℕ
  pub accepts : Bool
  pub rates : List ℕ
  pub steps : List ℕ

-- the numbers of the clusters of the actors
abbrev pub clusters_of : FlatTablesOf → List ℕ
clusters_of tables = map cluster_of tables.actors

-- the numbers of the ports of a module
abbrev pub number_if : ℕ → ℕ → PortRow → Option ℕ
number_if «module» number port = if nat_eq port.«module» «module» then Some number else None

abbrev pub ports_of_module : List PortRow → ℕ → List ℕ
ports_of_module ports «module» =
    filter_map (λ port. number_if «module» port.0 port.1) (enumerate_from 0 ports)

-- attributes of a module of a cluster
pub record IsOfCluster (tables : FlatTablesOf) (cluster : ℕ) (attrs : AttrsOf) : Type 0 where
  pub is_module : attrs.number < length tables.modules
  pub inside : slice_index (clusters_of tables) attrs.number ≡ cluster
  pub own : attrs.ports ≡ ports_of_module tables.ports attrs.number
  pub each : length attrs.steps ≡ 1 + length attrs.ports
  pub short : All (λ step. step < time_end) attrs.steps

-- the attributes of a module in a table
abbrev pub attrs_at : List AttrsOf → ℕ → Option AttrsOf
attrs_at [] number = None
attrs_at (attrs ∷ table) number =
    if nat_eq attrs.number number then Some attrs else attrs_at table number

-- each module has one row
abbrev pub RowsStandOnce : List AttrsOf → Type 0
RowsStandOnce table = (i j : ℕ) (one other : AttrsOf) → slice_get table i ≡ Some one
    → slice_get table j ≡ Some other → one.number ≡ other.number → i ≡ j

-- the values of the rate variables, the timesteps and the flag of the module at a place of a table
abbrev pub rates_in : Option AttrsOf → List ℕ
rates_in None = []
rates_in (Some attrs) = attrs.rates

abbrev pub steps_in : Option AttrsOf → List ℕ
steps_in None = []
steps_in (Some attrs) = attrs.steps

abbrev pub accepts_in : Option AttrsOf → Bool
accepts_in None = false
accepts_in (Some attrs) = attrs.accepts

abbrev pub table_rates : List AttrsOf → ℕ → List ℕ
table_rates table place = rates_in (slice_get table place)

abbrev pub table_steps : List AttrsOf → ℕ → List ℕ
table_steps table place = steps_in (slice_get table place)

abbrev pub table_accepts : List AttrsOf → ℕ → Bool
table_accepts table place = accepts_in (slice_get table place)
