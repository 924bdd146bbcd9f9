-- A whole run: what a model has so that it can run, what the run writes, and what it leaves.
-- Source: own.
use Rattle.std.specs.Io.KnownBytes.{Appends}
use Rattle.std.specs.Prelude.{◌≡◌, ℕ, List, Option, Result, map, IfOk, OnErr, OnOk}
use Rattle.tdf_dynamic_first.specs.declared.first.First.{First}
use Rattle.tdf_sim_instants.specs.InstantLaws.{IsModelOf}
use Rattle.tdf_sim_instants.specs.Making.{HavePlans}
use Rattle.tdf_events.specs.Kernel.{IsKernelOf, side_of}
use Rattle.tdf_events.specs.Runnable.{IsRunnable}
use Rattle.tdf_events.specs.Side.{SideOf}
use Rattle.tdf_bind.specs.declared.model.Flat.{Flat}
use Rattle.tdf_sim_history.specs.Texts.{run_trace}
use Rattle.tdf_sim_history.specs.Telling.{untold}
use Rattle.tdf_sim_history.specs.World.{Change, World}
use Rattle.tdf_sim_history.specs.History.{On}
use Rattle.tdf_sim_runs.specs.declared.run.Ran.{Ran}
use Rattle.tdf_io.specs.Bytes.{AppendsFront}
use Rattle.tdf_sim_notes.specs.Ending.{run_end, run_note, run_state}
use Rattle.tdf_sim_notes.specs.declared.ending.End.TheVariants.{Reached}
use Rattle.tdf_sim_notes.specs.Plans.{ArePrintable}
use Rattle.tdf_sim_instants.specs.Below.{AreAt}
use Rattle.tdf_sim_shown.specs.Below.{variables_of}
use Rattle.tdf_trace.specs.Writings.{AboutSeen, about_of, writing_of}
use Rattle.tdf_lang_tree.specs.Pure.{PureTree}
use Rattle.tdf_trace_rows.specs.declared.kinds.TraceKind.{TraceKind}
use Rattle.tdf_sim_history.specs.Rules.{rules_of, start_world}

-- a flat model of a sound model can run from the first plans of its clusters
pub record CanRun (flat : Flat) (firsts : List First) : Type 0 where
  pub model : PureTree
  pub of : IsModelOf model flat
  pub runnable : IsRunnable flat
  pub plans : HavePlans flat firsts
  pub printable : ArePrintable flat firsts

-- what its trace is of
abbrev pub model_about : TraceKind → Flat → AboutSeen
model_about kind flat = about_of kind flat.resolution (variables_of flat.tables)

-- the text of its trace, where the history is told this of its boundaries
abbrev pub trace_of : TraceKind → PureTree → Flat → List First → (ahead : List (List Change))
    → (stop turns : ℕ) → List ℕ
trace_of kind model flat firsts ahead stop turns = run_trace
    (writing_of (model_about kind flat)) model flat (rules_of model flat)
    (start_world model flat firsts ahead turns) stop

-- where it reached its stop, its clusters and its event side are those of the history then, which
-- is told this; the kernel can be asked for its values and its next time, and goes on
pub record IsLeft (model : PureTree) (flat : Flat) (firsts : List First)
    (ahead : List (List Change)) (stop turns : ℕ) (ran : Ran) : Type 0 where
  pub world : World SideOf
  pub on : run_state model flat firsts ahead stop turns ≡ On world
  pub since : List ℕ
  pub clusters : AreAt model flat since (map untold world.clusters) ran.clusters.items
  pub kernel : side_of ran.kernel ≡ world.events
  pub going : IsKernelOf flat ran.kernel

-- a run writes the trace and the notes of the history that is told this, and ends as it does; one
-- that did not end wrote front parts of both
pub record RunsAs {E : Type 0} (kind : TraceKind) (model : PureTree) (flat : Flat)
    (firsts : List First) (ahead : List (List Change)) (stop turns : ℕ)
    (out_old out_new notes_old notes_new : Option (List ℕ)) (result : Result Ran E)
    : Type 0 where
  pub end : IfOk result (λ ran. ran.end ≡ run_end model flat firsts ahead stop turns)
  pub trace : OnOk result
      (Appends out_old out_new (trace_of kind model flat firsts ahead stop turns))
  pub notes : OnOk result
      (Appends notes_old notes_new (run_note model flat firsts ahead stop turns))
  pub trace_part : OnErr result
      (AppendsFront out_old out_new (trace_of kind model flat firsts ahead stop turns))
  pub notes_part : OnErr result
      (AppendsFront notes_old notes_new (run_note model flat firsts ahead stop turns))
  pub left : IfOk result (λ ran. (time taken : ℕ) → ran.end ≡ Reached time taken
      → IsLeft model flat firsts ahead stop turns ran)
