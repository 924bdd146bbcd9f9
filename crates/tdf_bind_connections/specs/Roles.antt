-- The data of blocks, as clauses see it.
-- Source: own.
use Rattle.std.specs.Prelude.{ℕ, Bool, List}
use Rattle.tdf_lang_tree.specs.declared.blocks.PortKind.{PortKind}
use Rattle.tdf_bind_connections.specs.declared.roles.PortData.{PortData}

-- the block of a module
pub record ModuleRole : Type 0 where
  pub block : ℕ
  pub changes : Bool
  pub accepts : Bool
  pub step : ℕ
  pub ports : List PortData

-- a process: whether it runs at the start, and the places of the ports and events
-- that it is sensitive to
pub record ProcessOf : Type 0 where
  pub starts : Bool
  pub ports : List ℕ
  pub events : List ℕ

-- a block of processes
pub record ProcessesOf : Type 0 where
  pub block : ℕ
  pub ports : List PortKind
  pub processes : List ProcessOf
  pub events : List (List ℕ)
