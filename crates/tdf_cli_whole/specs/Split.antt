-- A run of an accepted model is the part up to a stop and what goes on from the snapshot there.
-- Source: own.
use Rattle.std.specs.Prelude.{◌≡◌, ◌<◌, ◌≤◌, ◌++◌, ◌^◌, ℕ, Bool, List}
use Rattle.tdf_base.specs.Limits.{time_end}
use Rattle.tdf_dynamic_first.specs.declared.first.First.{First}
use Rattle.tdf_events.specs.Side.{SideOf}
use Rattle.tdf_lang_tree.specs.Pure.{PureTree}
use Rattle.tdf_saved.specs.State.{SnapshotOf}
use Rattle.tdf_sim.specs.Runs.{IsAcceptedTree}
use Rattle.tdf_sim.specs.States.{saved_world}
use Rattle.tdf_sim.specs.declared.sim.Sim.{Sim}
use Rattle.tdf_sim_history.specs.History.{On}
use Rattle.tdf_sim_history.specs.Rules.{rules_of}
use Rattle.tdf_sim_history.specs.Telling.{world_told}
use Rattle.tdf_sim_history.specs.Texts.{notes_to}
use Rattle.tdf_sim_history.specs.World.{Change, World}
use Rattle.tdf_sim_notes.specs.Ending.{HaveAnswers, run_end, run_note, run_state}
use Rattle.tdf_sim_runs.specs.Below.{IsValid, rows_from_saved}
use Rattle.tdf_sim_runs.specs.Ongoing.{AreToldTo}
use Rattle.tdf_sim_runs.specs.Parts.{IsRowsToWrite, part_notes, part_trace}
use Rattle.tdf_sim_runs.specs.Paused.{IsSnapshotOfRun}
use Rattle.tdf_sim_runs.specs.Rest.{rest_end, rest_notes, rest_trace}
use Rattle.tdf_sim_runs.specs.Runs.{model_about, trace_of}
use Rattle.tdf_trace_rows.specs.declared.kinds.TraceKind.{TraceKind}

-- a run comes to a time; its trace, its end and its notes are those of its part up to there, with
-- the rows that it writes by then, and then those of the run that goes on from a snapshot
pub record IsWhole (kind : TraceKind) (tree : PureTree) (sim : Sim) (plans : List First)
    (s : SnapshotOf) (ahead told : List (List Change)) (from stop turns : ℕ) : Type 0 where
  pub world : World SideOf
  pub comes : run_state tree sim.flat sim.firsts.items ahead from turns ≡ On world
  pub rows : IsRowsToWrite tree sim.flat sim.firsts.items ahead from turns
      (rows_from_saved tree sim.flat plans s)
  pub trace : trace_of kind tree sim.flat sim.firsts.items ahead stop turns
      ≡ part_trace kind tree sim.flat sim.firsts.items ahead from turns
      (rows_from_saved tree sim.flat plans s)
      ++ rest_trace tree sim.flat (model_about kind sim.flat) (saved_world tree sim plans s) told
      (rows_from_saved tree sim.flat plans s) stop
  pub end : run_end tree sim.flat sim.firsts.items ahead stop turns
      ≡ rest_end tree sim.flat (saved_world tree sim plans s) told stop turns
  pub notes : run_note tree sim.flat sim.firsts.items ahead stop turns
      ≡ part_notes tree sim.flat sim.firsts.items ahead from turns
      ++ rest_notes tree sim.flat (saved_world tree sim plans s) told stop turns
      (notes_to tree sim.flat (rules_of tree sim.flat)
      (world_told told (saved_world tree sim plans s)) stop)

-- a time that a run may have as its stop, and the turns that it may be given
pub record AreInBounds (from turns : ℕ) : Type 0 where
  pub early : from < time_end
  pub some : 1 ≤ turns
  pub most : turns ≤ 10 ^ 12

-- the snapshot of a run of an accepted model is valid, with some plans
abbrev pub SavedRunsAreValid : Type 0
SavedRunsAreValid = (tree : PureTree) (sim : Sim) (from turns : ℕ) (vcd : Bool) (s : SnapshotOf)
    → IsAcceptedTree tree sim → AreInBounds from turns
    → IsSnapshotOfRun tree sim.flat sim.firsts.items from turns vcd s
    → (plans : List First) × IsValid tree sim.flat plans s

-- a run to a later stop is its part up to the time of the snapshot and the rest from there, with
-- each list of plans that the snapshot is valid with, and whatever answers both are told
abbrev pub AcceptedRunsSplit : Type 0
AcceptedRunsSplit = (kind : TraceKind) (tree : PureTree) (sim : Sim) (plans : List First)
    → (s : SnapshotOf) (ahead told : List (List Change)) (from stop turns : ℕ) (vcd : Bool)
    → IsAcceptedTree tree sim → AreInBounds from turns → from ≤ stop
    → IsSnapshotOfRun tree sim.flat sim.firsts.items from turns vcd s
    → IsValid tree sim.flat plans s
    → HaveAnswers tree sim.flat sim.firsts.items ahead stop turns
    → AreToldTo tree sim.flat (saved_world tree sim plans s) stop told
    → IsWhole kind tree sim plans s ahead told from stop turns
