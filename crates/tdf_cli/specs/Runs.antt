-- An outcome: what the command answers, and what it writes on its output and on its notes; and that
-- of a run.
-- Source: own.
use Rattle.std.specs.Prelude.{ℕ, ◌≡◌, ◌*◌, List, [], Option, Some, None, codes, if◌then◌else◌, nat_lt}
use Rattle.tdf_base.specs.Limits.{time_end}
use Rattle.tdf_base.specs.declared.faults.Fault.{Fault}
use Rattle.tdf_base.specs.declared.resolution.Resolution.{Resolution}
use Rattle.tdf_base.specs.declared.resolution.Resolution.TheVariants.{Ps, Fs}
use Rattle.tdf_cli.specs.Refusals.{refusal_text}
use Rattle.tdf_cli.specs.declared.status.Status.{Status}
use Rattle.tdf_cli.specs.declared.status.Status.TheVariants as status
use Rattle.tdf_cli_words.specs.declared.asked.RunOptions.{RunOptions}
use Rattle.tdf_lang_tree.specs.Pure.{PureTree}
use Rattle.tdf_sim.specs.Accepted.{IsAccepted}
use Rattle.tdf_sim.specs.Ends.{Change, End, HaveAnswers, run_end, run_note, trace_of}
use Rattle.tdf_sim.specs.Ends as ending
use Rattle.tdf_sim.specs.declared.sim.Sim.{Sim}
use Rattle.tdf_trace_rows.specs.declared.kinds.TraceKind.{TraceKind}

pub record Outcome : Type 0 where
  pub status : Status
  pub out : List ℕ
  pub notes : List ℕ

-- an outcome that only leaves a note
abbrev pub note : Status → List ℕ → Outcome
note status text = record { status = status; out = []; notes = text }

-- the text has a fault
abbrev pub refused : Fault → Outcome
refused fault = note status.Refused (refusal_text fault)

-- a stop, which the words say in ps, in counts of a resolution, where a run may have it
abbrev pub stop_in : Resolution → ℕ → Option ℕ
stop_in Ps stop = Some stop
stop_in Fs stop = if nat_lt (stop * 1000) time_end then Some (stop * 1000) else None

-- the answer of a run that ended so
abbrev pub status_of : End → Status
status_of (ending.Reached time turns) = status.Done
status_of (ending.Stopped time cluster fault) = status.Stopped
status_of (ending.Spent time) = status.Spent

-- a run that ended, whichever way, with what is told of its boundaries; its stop is in counts of
-- the resolution
abbrev pub run_outcome : TraceKind → PureTree → Sim → (ahead : List (List Change))
    → (stop turns : ℕ) → Outcome
run_outcome kind tree sim ahead stop turns = record {
  status = status_of (run_end tree sim.flat sim.firsts.items ahead stop turns);
  out = trace_of kind tree sim.flat sim.firsts.items ahead stop turns;
  notes = run_note tree sim.flat sim.firsts.items ahead stop turns;
}

-- the outcomes of a run of a tree's model, as it is asked for: its stop is in ps
pub data HasRunOutcome (asked : RunOptions) (tree : PureTree) : Outcome → Type 0 where
  too_late : {sim : Sim} → IsAccepted tree sim → stop_in sim.flat.resolution asked.stop ≡ None
      → HasRunOutcome asked tree (note status.StopTooLong (codes "stop too long\n"))
  has_run : {end : ℕ} {sim : Sim} → IsAccepted tree sim
      → stop_in sim.flat.resolution asked.stop ≡ Some end → (ahead : List (List Change))
      → HaveAnswers tree sim.flat sim.firsts.items ahead end asked.turns
      → HasRunOutcome asked tree (run_outcome asked.kind tree sim ahead end asked.turns)
