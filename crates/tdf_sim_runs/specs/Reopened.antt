-- A run that goes on from a snapshot: what a model has, so that one can be tried.
-- Source: own.
use Rattle.std.specs.Prelude.{Bool, true, false}
use Rattle.tdf_bind.specs.declared.model.Flat.{Flat}
use Rattle.tdf_events.specs.Runnable.{IsRunnable}
use Rattle.tdf_lang_tree.specs.Pure.{PureTree}
use Rattle.tdf_sim_instants.specs.InstantLaws.{IsModelOf}
use Rattle.tdf_trace_rows.specs.declared.kinds.TraceKind.{TraceKind}
use Rattle.tdf_trace_rows.specs.declared.kinds.TraceKind.TheVariants.{Table, Vcd}

-- the flat model of a sound model, whose event side can run
pub record CanReopen (flat : Flat) : Type 0 where
  pub model : PureTree
  pub of : IsModelOf model flat
  pub runnable : IsRunnable flat

-- the kind of the trace of a snapshot
abbrev pub kind_saved : (vcd : Bool) → TraceKind
kind_saved true = Vcd
kind_saved false = Table
