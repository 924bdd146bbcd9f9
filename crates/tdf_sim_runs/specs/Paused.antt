-- A run that waits at a time, and the histories in which it does.
-- Source: own.
use Rattle.std.specs.Prelude.{◌≡◌, ◌<◌, ℕ, Bool, List, []}
use Rattle.tdf_base.specs.Limits.{time_end}
use Rattle.tdf_bind.specs.declared.model.Flat.{Flat}
use Rattle.tdf_dynamic_first.specs.declared.first.First.{First}
use Rattle.tdf_events.specs.Runnable.{IsRunnable}
use Rattle.tdf_events.specs.Side.{SideOf}
use Rattle.tdf_lang_tree.specs.Pure.{PureTree}
use Rattle.tdf_saved.specs.State.{SnapshotOf}
use Rattle.tdf_sim_history.specs.Cells.{run_cells}
use Rattle.tdf_sim_history.specs.Rules.{rules_of, start_world}
use Rattle.tdf_sim_history.specs.Telling.{world_told}
use Rattle.tdf_sim_history.specs.World.{Change, World}
use Rattle.tdf_sim_notes.specs.Ending.{HaveAnswers}
use Rattle.tdf_sim_runs.specs.declared.paused.Paused.{Paused}
use Rattle.tdf_sim_shown.specs.Below.{AreInFormatsTo, IsRowsFrom, IsSnapshot}
use Rattle.tdf_sim_runs.specs.Running.{CanGoOn, IsRunningAt}
use Rattle.tdf_sim_runs.specs.Runs.{model_about}
use Rattle.tdf_trace.specs.declared.stage.Stage.TheVariants.{Open}

-- a run that waits can go on, and its trace is one of its model, in its form
pub record IsPaused (p : Paused) : Type 0 where
  pub runnable : IsRunnable p.flat
  pub can : CanGoOn p.flat p.run
  pub stage : p.run.shown.trace.stage ≡ Open
  pub about : p.run.shown.trace.about ≡ model_about p.kind p.flat
  pub early : p.run.from < time_end

-- it waits in the history from a start: it goes on from there, all its news were handed on, and its
-- rows are written up to the time from which on they are still to be written
pub record IsPausedAt (model : PureTree) (start : World SideOf) (handed : List ℕ) (p : Paused)
    : Type 0 where
  pub goes_on : IsRunningAt model p.flat start handed p.run
  pub none_held : p.run.news.items ≡ []
  pub rows : IsRowsFrom (run_cells model p.flat (rules_of model p.flat)
      (world_told goes_on.going.ahead start) p.run.from) p.run.from p.run.shown.trace.rows.upto

-- it is the snapshot at a time of the history of a model from its first plans on, whose event
-- signals had values of their formats up to then
pub record IsSnapshotOfRun (model : PureTree) (flat : Flat) (firsts : List First)
    (time turns : ℕ) (vcd : Bool) (s : SnapshotOf) : Type 0 where
  pub ahead : List (List Change)
  pub answers : HaveAnswers model flat firsts ahead time turns
  pub world : World SideOf
  pub is : IsSnapshot model flat (start_world model flat firsts ahead turns) world time turns vcd s
  pub fits : AreInFormatsTo model flat (start_world model flat firsts ahead turns) time
