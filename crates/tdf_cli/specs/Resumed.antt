-- The outcomes of `resume`: a run goes on from the text of a state.
-- Source: own.
use Rattle.std.specs.Prelude.{◌≡◌, ◌<◌, ◌≤◌, ℕ, List, None, Some, codes}
use Rattle.tdf_cli.specs.Runs.{Outcome, note, status_of, stop_in}
use Rattle.tdf_cli.specs.Saving.{stop_too_long}
use Rattle.tdf_cli.specs.declared.status.Status.TheVariants as status
use Rattle.tdf_sim.specs.Ends.{AreToldTo, Change, First, SnapshotOf, kind_saved, model_about, notes_to, rest_end, rest_notes, rest_trace, rows_from_saved, rules_of, world_told}
use Rattle.tdf_lang_tree.specs.Pure.{PureTree}
use Rattle.tdf_sim.specs.declared.sim.Sim.{Sim}
use Rattle.tdf_sim.specs.States.{IsNoState, IsSavedState, saved_world}

-- the plans that come from a snapshot on, up to a stop
abbrev pub rest_news : PureTree → Sim → List First → SnapshotOf → (ahead : List (List Change))
    → (end : ℕ) → List ℕ
rest_news tree sim firsts s ahead end = notes_to tree sim.flat (rules_of tree sim.flat)
    (world_told ahead (saved_world tree sim firsts s)) end

-- a run goes on from a snapshot to a stop, with what is told of its boundaries: the rest of its
-- trace; the plans that came, and the closing line
abbrev pub rest_outcome : PureTree → Sim → List First → SnapshotOf
    → (ahead : List (List Change)) → (end : ℕ) → Outcome
rest_outcome tree sim firsts s ahead end = record {
  status = status_of (rest_end tree sim.flat (saved_world tree sim firsts s) ahead end s.budget);
  out = rest_trace tree sim.flat (model_about (kind_saved s.vcd) sim.flat)
      (saved_world tree sim firsts s) ahead (rows_from_saved tree sim.flat firsts s) end;
  notes = rest_notes tree sim.flat (saved_world tree sim firsts s) ahead end s.budget
      (rest_news tree sim firsts s ahead end);
}

-- what comes of the bytes of a state and of a stop in ps, case by case, in the order in which they
-- are looked at
pub data HasResumeOutcome (stop : ℕ) (bytes : List ℕ) : Outcome → Type 0 where
  bad_state : IsNoState bytes
      → HasResumeOutcome stop bytes (note status.BadState (codes "bad state\n"))
  late_stop : {tree : PureTree} {sim : Sim} {firsts : List First} {s : SnapshotOf}
      → IsSavedState bytes tree sim firsts s → stop_in sim.flat.resolution stop ≡ None
      → HasResumeOutcome stop bytes stop_too_long
  early_stop : {tree : PureTree} {sim : Sim} {firsts : List First} {s : SnapshotOf} {end : ℕ}
      → IsSavedState bytes tree sim firsts s → stop_in sim.flat.resolution stop ≡ Some end
      → end < s.time
      → HasResumeOutcome stop bytes (note status.StopTooEarly (codes "stop too early\n"))
  goes_on : {tree : PureTree} {sim : Sim} {firsts : List First} {s : SnapshotOf} {end : ℕ}
      → IsSavedState bytes tree sim firsts s → stop_in sim.flat.resolution stop ≡ Some end
      → s.time ≤ end → (ahead : List (List Change))
      → AreToldTo tree sim.flat (saved_world tree sim firsts s) end ahead
      → HasResumeOutcome stop bytes (rest_outcome tree sim firsts s ahead end)
