-- What holds of all flat models: a model has one answer, and its signals have different paths.
-- Source: own.
use Rattle.std.specs.List.{AllByRecursion}
use Rattle.std.specs.Prelude.{◌≡◌, ◌<◌, ℕ, Bool, true, ◌||◌, nat_eq, List, [], ◌++◌, length, map, Some, slice_get, filter_map}
use Rattle.tdf_base.specs.Names.{is_part}
use Rattle.tdf_base.specs.declared.faults.Fault.{Fault}
use Rattle.tdf_bind_tables.specs.FlatTables.{AreShort, FlatTablesOf}
use Rattle.tdf_expr.specs.Below.{type_faults}
use Rattle.tdf_bind.specs.Flat.{IsBindFault, IsFlatOf, top_place}
use Rattle.tdf_bind.specs.declared.model.Flat.{Flat}
use Rattle.tdf_expr_names.specs.Names.{name_faults}
use Rattle.tdf_bind_names.specs.Resolved.{AreResolved}
use Rattle.tdf_bind_attributes.specs.Roles.{roles_of}
use Rattle.tdf_lang_tree.specs.Kept.{IsKept, IsName}
use Rattle.tdf_lang_tree.specs.Pure.{PureTree}
use Rattle.tdf_bind_hierarchy.specs.Blocks.{BlockOf}
use Rattle.tdf_bind_hierarchy.specs.Met.{met_in}
use Rattle.tdf_bind_hierarchy.specs.Tables.{met_signal}
use Rattle.tdf_bind_hierarchy.specs.declared.tables.Signal.{Signal}
use Rattle.tdf_bind_connections.specs.ProcessBlocks.{BlockRowOf}
use Rattle.tdf_bind_connections.specs.declared.blocks.EventRow.{EventRow}
use Rattle.tdf_bind_connections.specs.declared.drivers.SignalRow.{SignalRow}
use Rattle.tdf_bind_connections.specs.declared.modules.ModuleRow.{ModuleRow}
use Rattle.tdf_bind_connections.specs.declared.modules.PortRow.{PortRow}
use Rattle.tdf_bind_connections.specs.declared.traces.TraceRow.{TraceRow}

-- a model that keeps what the tree of each text keeps, and has no fault of names and of types
pub record PassesChecks (model : PureTree) : Type 0 where
  pub kept : IsKept model
  pub names : name_faults model ≡ []
  pub types : type_faults model ≡ []

-- no path stands twice among some paths
abbrev pub StandOnce : List (List ℕ) → Type 0
StandOnce paths = (i j : ℕ) (path : List ℕ) → slice_get paths i ≡ Some path
    → slice_get paths j ≡ Some path → i ≡ j

-- a model has one list of resolved blocks
abbrev pub BlocksAreOne : Type 0
BlocksAreOne = (model : PureTree) (one other : List BlockOf) → type_faults model ≡ []
    → AreResolved model one → AreResolved model other → one ≡ other

-- the paths of the signals of a model, in preorder
abbrev pub paths_in : List BlockOf → List (List ℕ)
paths_in blocks =
    map (λ (signal : Signal). signal.path)
    (filter_map met_signal (met_in blocks (top_place blocks)))

-- a path of a model leads to one signal at most
abbrev pub PathsAreUnique : Type 0
PathsAreUnique = (model : PureTree) (blocks : List BlockOf) → IsKept model
    → name_faults model ≡ [] → AreResolved model blocks → StandOnce (paths_in blocks)

-- the paths of the signals of samples and of the event signals of a flat model
abbrev pub signal_paths : FlatTablesOf → List (List ℕ)
signal_paths flat =
    map (λ (row : SignalRow). row.path) flat.signals
    ++ map (λ (row : SignalRow). row.path) flat.de_signals

-- no two signals of a flat model have the same path
abbrev pub FlatPathsAreUnique : Type 0
FlatPathsAreUnique = (model : PureTree) (flat : Flat) → IsKept model
    → name_faults model ≡ [] → IsFlatOf model flat → StandOnce (signal_paths flat.tables)

-- the paths of the instances of blocks of processes of a flat model
abbrev pub block_paths : FlatTablesOf → List (List ℕ)
block_paths flat = map (λ (row : BlockRowOf). row.path) flat.blocks

-- no two instances of blocks of processes have the same path
abbrev pub BlockPathsAreUnique : Type 0
BlockPathsAreUnique = (model : PureTree) (flat : Flat) → IsKept model
    → name_faults model ≡ [] → IsFlatOf model flat → StandOnce (block_paths flat.tables)

-- each event is one of an instance, and no two events of an instance have the same name
pub record HasEventsApart (flat : FlatTablesOf) : Type 0 where
  pub owners : AllByRecursion (λ row. row.owner < length flat.blocks) flat.events
  pub names : (i j : ℕ) (row : EventRow) → slice_get flat.events i ≡ Some row
      → slice_get flat.events j ≡ Some row → i ≡ j

abbrev pub EventsAreApart : Type 0
EventsAreApart = (model : PureTree) (flat : Flat) → IsKept model
    → name_faults model ≡ [] → IsFlatOf model flat → HasEventsApart flat.tables

-- a byte of a name, or a point
abbrev pub is_path_byte : ℕ → Bool
is_path_byte byte = is_part byte || nat_eq byte 46

-- letters, digits, `_` and points
abbrev pub IsPlainPath : List ℕ → Type 0
IsPlainPath path = AllByRecursion (λ byte. is_path_byte byte ≡ true) path

-- each path is plain, and events and labels have the form of names
pub record HasPlainPaths (flat : FlatTablesOf) : Type 0 where
  pub modules : AllByRecursion (λ (row : ModuleRow). IsPlainPath row.path) flat.modules
  pub ports : AllByRecursion (λ (row : PortRow). IsPlainPath row.path) flat.ports
  pub signals : AllByRecursion (λ (row : SignalRow). IsPlainPath row.path) flat.signals
  pub de_signals : AllByRecursion (λ (row : SignalRow). IsPlainPath row.path) flat.de_signals
  pub blocks : AllByRecursion (λ (row : BlockRowOf). IsPlainPath row.path) flat.blocks
  pub events : AllByRecursion (λ (row : EventRow). IsName row.name) flat.events
  pub traces : AllByRecursion (λ (row : TraceRow). IsName row.label) flat.traces

abbrev pub PathsArePlain : Type 0
PathsArePlain = (model : PureTree) (flat : Flat) → IsKept model
    → name_faults model ≡ [] → IsFlatOf model flat → HasPlainPaths flat.tables

-- a model has one fault at most
abbrev pub FaultIsOne : Type 0
FaultIsOne = (model : PureTree) (one other : Fault) → PassesChecks model
    → IsBindFault model one → IsBindFault model other → one ≡ other

-- a model with a fault has no flat model
abbrev pub FaultOrFlat : Type 0
FaultOrFlat = (model : PureTree) (fault : Fault) (flat : Flat) → PassesChecks model
    → IsBindFault model fault → IsFlatOf model flat → ⊥

-- two flat models of one model have the same tables and the same resolution
pub record HasSameTables (one other : Flat) : Type 0 where
  pub tables : one.tables ≡ other.tables
  pub resolution : one.resolution ≡ other.resolution

abbrev pub TablesAreOne : Type 0
TablesAreOne = (model : PureTree) (one other : Flat) → PassesChecks model
    → IsFlatOf model one → IsFlatOf model other → HasSameTables one other

-- the delays of all ports of a model without a fault of types are within their limit
abbrev pub DelaysAreShort : Type 0
DelaysAreShort = (model : PureTree) → type_faults model ≡ [] → AreShort (roles_of model)
