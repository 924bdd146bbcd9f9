-- Blocks whose names are resolved to numbers, as clauses see them.
-- Source: own.
use Rattle.std.specs.Prelude.{ℕ, List}
use Rattle.tdf_bind_hierarchy.specs.declared.blocks.SignalLine.{SignalLine}
use Rattle.tdf_bind_hierarchy.specs.declared.blocks.Target.{Target}

pub record InstanceOf : Type 0 where
  pub name : List ℕ
  pub block : ℕ
  pub targets : List Target

pub record BlockOf : Type 0 where
  pub ports : ℕ
  pub signals : List SignalLine
  pub instances : List InstanceOf
