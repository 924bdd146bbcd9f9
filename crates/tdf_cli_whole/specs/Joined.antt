-- What `save` and `resume` write is what one `run` writes.
-- Source: own.
use Rattle.std.specs.Prelude.{◌≡◌, ◌≢◌, ◌≤◌, ◌++◌, ℕ, List, length}
use Rattle.tdf_base.specs.Limits.{longest_text}
use Rattle.tdf_cli.specs.Input.{Text}
use Rattle.tdf_cli.specs.Outcome.{HasOutcome}
use Rattle.tdf_cli.specs.Runs.{Outcome}
use Rattle.tdf_cli.specs.Status.{status_number}
use Rattle.tdf_cli_whole.specs.Split.{AreInBounds}
use Rattle.tdf_cli_words.specs.declared.asked.RunOptions.{RunOptions}
use Rattle.tdf_cli_words.specs.declared.asked.SavePart.TheVariants.{State, Trace}
use Rattle.tdf_cli_words.specs.declared.asked.Settings.TheVariants.{Resume, Run, Save}

-- an outcome has what two others write, one after the other, and answers as the second does
pub record IsJoined (whole part rest : Outcome) : Type 0 where
  pub status : whole.status ≡ rest.status
  pub out : whole.out ≡ part.out ++ rest.out
  pub notes : whole.notes ≡ part.notes ++ rest.notes

-- what is asked of a run, with another stop
abbrev pub stopped_at : RunOptions → (stop : ℕ) → RunOptions
stopped_at asked stop = record asked { stop = stop }

-- a text is saved at a stop, and then goes on from the state that was written to a stop that is not
-- earlier, which its resolution has: what `save` wrote of the trace and what `resume` writes are
-- together the outcome of a run to that stop
abbrev pub SavedAndResumedIsOneRun : Type 0
SavedAndResumedIsOneRun = (asked : RunOptions) (text : List ℕ) (stop : ℕ)
    → (part state rest whole : Outcome) → length text ≤ longest_text
    → AreInBounds stop asked.turns → asked.stop ≤ stop
    → HasOutcome (Text (Save Trace asked) text) part
    → HasOutcome (Text (Save State asked) text) state → status_number state.status ≡ 0
    → HasOutcome (Text (Resume stop) state.out) rest
    → HasOutcome (Text (Run (stopped_at asked stop)) text) whole
    → status_number whole.status ≢ 9
    → IsJoined whole part rest
