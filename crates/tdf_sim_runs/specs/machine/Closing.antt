-- How a run is closed that goes no further.
-- Source: own.
use Rattle.std.specs.Prelude.{◌++◌, ℕ, List}
use Rattle.tdf_base.specs.declared.resolution.Resolution.{Resolution}
use Rattle.tdf_bind.specs.Flat.{IsFlatOf}
use Rattle.tdf_bind.specs.declared.model.Flat.{Flat}
use Rattle.tdf_bind_invariants.specs.Limits.{AreWithinLimits}
use Rattle.tdf_events.specs.Side.{SideOf}
use Rattle.tdf_lang_tree.specs.Pure.{PureTree}
use Rattle.tdf_sim_history.specs.Cells.{run_cells, world_before}
use Rattle.tdf_sim_history.specs.Rules.{rules_of}
use Rattle.tdf_sim_history.specs.World.{World}
use Rattle.tdf_sim_notes.specs.Ending.{end_text}
use Rattle.tdf_sim_runs.specs.Ending.{end_by}
use Rattle.tdf_sim_runs.specs.declared.going.Ended.{Ended}
use Rattle.tdf_sim_runs.specs.declared.running.Running.{Running}
use Rattle.tdf_sim_shown.specs.Below.{IsShown, Shown}
use Rattle.tdf_trace.specs.Writings.{rest_text}

-- so it is with the other rows below an end and the tail, whatever model and start what is shown is
-- of
abbrev pub EndsTrace : Shown → (end : ℕ) → (List ℕ → Type 0) → Type 0
EndsTrace s end Is = (model : PureTree) (flat : Flat) (start : World SideOf) → IsFlatOf model flat
    → AreWithinLimits flat
    → IsShown model flat start end (world_before model flat (rules_of model flat) start end) s
    → Is (rest_text s.trace.about (run_cells model flat (rules_of model flat) start end)
    s.trace.rows.upto end)

-- the news that a run holds and how it ended
abbrev pub closing_notes : Resolution → (stop turns : ℕ) → Running → Ended → List ℕ
closing_notes unit stop turns run how =
    run.news.items ++ end_text unit turns (end_by run stop turns how)
