-- What holds of all tables and of all models.
-- Source: own.
use Rattle.std.specs.List.{AllZip}
use Rattle.std.specs.Prelude.{◌≡◌, ◌<◌, ◌≤◌, ℕ, List, length, Option, Some, slice_get, filter_map, All}
use Rattle.tdf_bind_hierarchy.specs.Blocks.{BlockOf}
use Rattle.tdf_bind_hierarchy.specs.Met.{Met, inside}
use Rattle.tdf_bind_hierarchy.specs.Tables.{TablesOf, table, met_signal, IsNumberOf, IsTable}
use Rattle.tdf_bind_hierarchy.specs.declared.tables.Signal.{Signal}
use Rattle.tdf_bind_hierarchy.specs.declared.tables.SignalNumber.{SignalNumber}

-- a number is below the number of signals of its kind
abbrev pub IsInRange : TablesOf → SignalNumber → Type 0
IsInRange tables number = number.number < length (table number.event tables)

-- each port of each instance has a number in range
abbrev pub PortsAreInRange : Type 0
PortsAreInRange = (met : List Met) (tables : TablesOf) → IsTable met tables
    → All (λ row. All (IsInRange tables) row.signals) tables.instances

-- each number in the order is in range
abbrev pub OrderIsInRange : Type 0
OrderIsInRange = (met : List Met) (tables : TablesOf) → IsTable met tables
    → All (IsInRange tables) tables.order

-- the numbers of the order stand for the signals in preorder, one for each
abbrev pub OrderIsPreorder : Type 0
OrderIsPreorder = (met : List Met) (tables : TablesOf) → IsTable met tables
    → AllZip (IsNumberOf tables) tables.order (filter_map met_signal met)

-- each instance is of a block before the one that it is in
abbrev pub AreEarlier : List BlockOf → Type 0
AreEarlier blocks = (n : ℕ) (block : BlockOf) → slice_get blocks n ≡ Some block
    → All (λ instance. instance.block < n) block.instances

-- no model is deeper than its number of blocks: a greater depth meets nothing more
abbrev pub DepthIsEnough : Type 0
DepthIsEnough = (blocks : List BlockOf) → AreEarlier blocks
    → (depth block : ℕ) → length blocks ≤ depth → block < length blocks
    → (path : Option (List ℕ)) (outer : List (Option Signal))
    → inside blocks depth block path outer ≡ inside blocks (length blocks) block path outer
