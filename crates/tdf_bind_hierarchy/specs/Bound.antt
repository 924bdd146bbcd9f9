-- When the ports of all instances are bound.
-- Source: own.
use Rattle.std.specs.Prelude.{◌≡◌, ◌<◌, ℕ, List, length, Some, slice_get, All}
use Rattle.tdf_bind_hierarchy.specs.Blocks.{InstanceOf, BlockOf}
use Rattle.tdf_bind_hierarchy.specs.declared.blocks.Target.{Target}
use Rattle.tdf_bind_hierarchy.specs.declared.blocks.Target.TheVariants.{Own, Outer}

-- a target is one of the signals or one of the ports of the block around the instance
abbrev pub IsTarget : BlockOf → Target → Type 0
IsTarget around (Own signal) = signal < length around.signals
IsTarget around (Outer port) = port < around.ports

-- an instance in the block `around` has a target for each port of its own block
pub record IsInstanceBound (blocks : List BlockOf) (around : BlockOf) (instance : InstanceOf)
    : Type 0 where
  pub targets : All (IsTarget around) instance.targets
  pub ports : (block : BlockOf) → slice_get blocks instance.block ≡ Some block
      → length instance.targets ≡ block.ports

-- all instances of all blocks are bound, and the block `top` has no ports
pub record AreBound (blocks : List BlockOf) (top : ℕ) : Type 0 where
  pub each : (n : ℕ) (block : BlockOf) → slice_get blocks n ≡ Some block
      → All (IsInstanceBound blocks block) block.instances
  pub closed : (block : BlockOf) → slice_get blocks top ≡ Some block → block.ports ≡ 0
