-- What a cluster in progress has for a module and for a sampler.
-- Source: own.
use Rattle.std.specs.Prelude.{ℕ, List}
use Rattle.tdf_exec.specs.declared.runners.TracedPort.{TracedPort}
use Rattle.tdf_expr.specs.Frames.{FrameSeen, PortsSeen}
use Rattle.tdf_exec_firing.specs.Wires.{WiresOf}

pub record ModuleOf : Type 0 where
  -- the number of its block
  pub block : ℕ
  pub frame : FrameSeen
  pub ports : PortsSeen
  pub wires : WiresOf
  -- its ports whose signals are traced
  pub traced : List TracedPort

pub record SamplerOf : Type 0 where
  pub edges : List ℕ
  -- its place among the samplers of the cluster
  pub place : ℕ
