-- The outcomes of `save`: what there is of a run at its stop.
-- Source: own.
use Rattle.std.specs.Prelude.{◌≡◌, ◌≢◌, ℕ, List, [], None, Some, codes, if◌then◌else◌, length, nat_lt}
use Rattle.tdf_cli.specs.Input.{longest_state}
use Rattle.tdf_cli.specs.Runs.{Outcome, note, run_outcome, status_of, stop_in}
use Rattle.tdf_cli.specs.declared.status.Status.TheVariants as status
use Rattle.tdf_cli_words.specs.declared.asked.RunOptions.{RunOptions}
use Rattle.tdf_cli_words.specs.declared.asked.SavePart.{SavePart}
use Rattle.tdf_cli_words.specs.declared.asked.SavePart.TheVariants.{Trace, State}
use Rattle.tdf_sim.specs.Ends.{Change, HaveAnswers, IsRowsToWrite, On, SideOf, World, end_text, is_vcd, part_notes, part_trace, run_end, run_state}
use Rattle.tdf_lang_tree.specs.Pure.{PureTree}
use Rattle.tdf_sim.specs.Accepted.{IsAccepted}
use Rattle.tdf_sim.specs.declared.sim.Sim.{Sim}
use Rattle.tdf_sim.specs.States.{IsStateText}

-- a model runs to a stop, in counts of its resolution, and this is told of its boundaries
pub record IsAskedRun (asked : RunOptions) (tree : PureTree) (sim : Sim)
    (ahead : List (List Change)) (end : ℕ) : Type 0 where
  pub accepted : IsAccepted tree sim
  pub stops : stop_in sim.flat.resolution asked.stop ≡ Some end
  pub answers : HaveAnswers tree sim.flat sim.firsts.items ahead end asked.turns

-- it comes to its stop
pub record ReachesItsStop (asked : RunOptions) (tree : PureTree) (sim : Sim)
    (ahead : List (List Change)) (end : ℕ) : Type 0 where
  pub world : World SideOf
  pub on : run_state tree sim.flat sim.firsts.items ahead end asked.turns ≡ On world

-- it ends before
abbrev pub EndsBeforeStop : RunOptions → PureTree → Sim → (ahead : List (List Change))
    → (end : ℕ) → Type 0
EndsBeforeStop asked tree sim ahead end = (w : World SideOf)
    → run_state tree sim.flat sim.firsts.items ahead end asked.turns ≢ On w

-- the stop is no time of the model's resolution
abbrev pub stop_too_long : Outcome
stop_too_long = note status.StopTooLong (codes "stop too long\n")

-- ---- the trace

-- the trace and the notes of a run up to its stop, but for rows from a time on
abbrev pub part_outcome : RunOptions → PureTree → Sim → (ahead : List (List Change))
    → (end rows : ℕ) → Outcome
part_outcome asked tree sim ahead end rows = record {
  status = status.Done;
  out = part_trace asked.kind tree sim.flat sim.firsts.items ahead end asked.turns rows;
  notes = part_notes tree sim.flat sim.firsts.items ahead end asked.turns;
}

-- of `--part trace`: a run that comes to its stop has its trace up to there, but for rows that are
-- still to be written then; one that ends before has the outcome of `run`
pub data HasTraceOutcome (asked : RunOptions) (tree : PureTree) : Outcome → Type 0 where
  late_trace : {sim : Sim} → IsAccepted tree sim → stop_in sim.flat.resolution asked.stop ≡ None
      → HasTraceOutcome asked tree stop_too_long
  saved_trace : {sim : Sim} {ahead : List (List Change)} {end rows : ℕ}
      → IsAskedRun asked tree sim ahead end → ReachesItsStop asked tree sim ahead end
      → IsRowsToWrite tree sim.flat sim.firsts.items ahead end asked.turns rows
      → HasTraceOutcome asked tree (part_outcome asked tree sim ahead end rows)
  ended_trace : {sim : Sim} {ahead : List (List Change)} {end : ℕ}
      → IsAskedRun asked tree sim ahead end → EndsBeforeStop asked tree sim ahead end
      → HasTraceOutcome asked tree (run_outcome asked.kind tree sim ahead end asked.turns)

-- ---- the state

-- the text of a state is the output
abbrev pub whole_state : (bytes : List ℕ) → Outcome
whole_state bytes = record { status = status.Done; out = bytes; notes = [] }

-- where it isn't too long
abbrev pub state_outcome : (bytes : List ℕ) → Outcome
state_outcome bytes = if nat_lt longest_state (length bytes)
    then note status.StateTooLong (codes "state too long\n") else whole_state bytes

-- how a run ended, with its closing line alone
abbrev pub closing_outcome : RunOptions → PureTree → Sim → (ahead : List (List Change))
    → (end : ℕ) → Outcome
closing_outcome asked tree sim ahead end = note
    (status_of (run_end tree sim.flat sim.firsts.items ahead end asked.turns))
    (end_text sim.flat.resolution asked.turns
    (run_end tree sim.flat sim.firsts.items ahead end asked.turns))

-- of `--part state`: a run that comes to its stop has the text of its snapshot there, with the text
-- of the model; one that ends before has its closing line
pub data HasStateOutcome (asked : RunOptions) (tree : PureTree) (text : List ℕ)
    : Outcome → Type 0 where
  late_state : {sim : Sim} → IsAccepted tree sim → stop_in sim.flat.resolution asked.stop ≡ None
      → HasStateOutcome asked tree text stop_too_long
  saved_state : {sim : Sim} {end : ℕ} {bytes : List ℕ} → IsAccepted tree sim
      → stop_in sim.flat.resolution asked.stop ≡ Some end
      → IsStateText tree sim.flat sim.firsts.items end asked.turns (is_vcd asked.kind) text bytes
      → HasStateOutcome asked tree text (state_outcome bytes)
  ended_state : {sim : Sim} {ahead : List (List Change)} {end : ℕ}
      → IsAskedRun asked tree sim ahead end → EndsBeforeStop asked tree sim ahead end
      → HasStateOutcome asked tree text (closing_outcome asked tree sim ahead end)

-- of either part, for the tree of a text
abbrev pub HasSaveOutcome : SavePart → RunOptions → PureTree → (text : List ℕ) → Outcome → Type 0
HasSaveOutcome Trace asked tree text outcome = HasTraceOutcome asked tree outcome
HasSaveOutcome State asked tree text outcome = HasStateOutcome asked tree text outcome
