-- The entries of an offset are done within the turns that are left.
-- Source: own.
use Rattle.std.specs.Prelude.{◌≡◌, ◌≤◌, ◌<◌, ◌-◌, ℕ, List}
use Rattle.tdf_convert.specs.Outputs.{OutputsOf}
use Rattle.tdf_exec.specs.Cluster.{ClusterOf, due_count}
use Rattle.tdf_exec.specs.Gained.{HasGained}
use Rattle.tdf_exec.specs.Made.{IsClusterOf}
use Rattle.tdf_exec.specs.Played.{AreDone, KeepsStanding}
use Rattle.tdf_fixed.specs.declared.raw.Raw.{Raw}
use Rattle.tdf_bind.specs.declared.model.Flat.{Flat}

-- each entry of the offset took a turn, and a cluster did these entries
pub record HasFired (flat : Flat) (offset : ℕ) (inputs : List Raw) (c d : ClusterOf)
    (before after : OutputsOf) (left rest : ℕ) : Type 0 where
  pub enough : due_count c offset ≤ left
  pub turns : rest ≡ left - due_count c offset
  pub of : IsClusterOf flat d
  pub done : AreDone offset c d
  pub stands : KeepsStanding flat offset inputs c d
  pub gained : HasGained flat offset inputs c d before after

-- the turns are too few, and nothing has happened
pub record HasTooFew (offset : ℕ) (c d : ClusterOf) (before after : OutputsOf) (left rest : ℕ)
    : Type 0 where
  pub few : left < due_count c offset
  pub same : d ≡ c
  pub none : after ≡ before
  pub kept : rest ≡ left

-- nothing has happened
pub record HasStayed (c d : ClusterOf) (before after : OutputsOf) (left rest : ℕ) : Type 0 where
  pub same : d ≡ c
  pub none : after ≡ before
  pub kept : rest ≡ left
