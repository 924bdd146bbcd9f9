-- Ports of event signals and of signals of samples.
-- Source: own.
use Rattle.std.specs.Option.{option_map}
use Rattle.std.specs.Prelude.{◌≡◌, ℕ, Bool, List, [], map, Option, Some, slice_get, slice_index_or, All}
use Rattle.tdf_bind_hierarchy.specs.Blocks.{BlockOf}
use Rattle.tdf_bind_hierarchy.specs.Met.{met_in}
use Rattle.tdf_bind_hierarchy.specs.Tables.{TablesOf, IsTable}
use Rattle.tdf_bind_hierarchy.specs.declared.blocks.Target.{Target}
use Rattle.tdf_bind_hierarchy.specs.declared.blocks.Target.TheVariants.{Own, Outer}

-- `kinds` has for each port of each block whether it is for event signals; here those of one block
abbrev pub kinds_of : List (List Bool) → ℕ → List Bool
kinds_of kinds block = slice_index_or kinds block []

-- whether a target is for event signals, in a composite whose ports are of these kinds
abbrev pub target_kind : BlockOf → List Bool → Target → Option Bool
target_kind composite ports (Own signal) =
    option_map (λ line. line.event) (slice_get composite.signals signal)
target_kind composite ports (Outer port) = slice_get ports port

-- each port is bound to a signal or port of its own kind
pub record KeepKinds (kinds : List (List Bool)) (blocks : List BlockOf) (top : ℕ) : Type 0 where
  pub each : (n : ℕ) (composite : BlockOf) → slice_get blocks n ≡ Some composite
      → All (λ instance. map (target_kind composite (kinds_of kinds n)) instance.targets
      ≡ map Some (kinds_of kinds instance.block)) composite.instances
  pub closed : kinds_of kinds top ≡ []

-- then each port of each instance reaches a signal of its own kind
abbrev pub PortsKeepKinds : Type 0
PortsKeepKinds = (kinds : List (List Bool)) (blocks : List BlockOf) (top : ℕ) (tables : TablesOf)
    → KeepKinds kinds blocks top → IsTable (met_in blocks top) tables
    → All (λ row. map (λ number. number.event) row.signals ≡ kinds_of kinds row.block)
    tables.instances
