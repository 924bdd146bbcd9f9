-- What a run of a model writes and how it ends, for the crates above: the definitions are those of
-- the crates that say them.
-- Source: own.
pub use Rattle.tdf_sim_runs.specs.Runs.{trace_of}
pub use Rattle.tdf_sim_history.specs.World.{Change}
pub use Rattle.tdf_sim_notes.specs.Ending.{HaveAnswers, run_end, run_note}
pub use Rattle.tdf_sim_notes.specs.declared.ending.End.{End}
pub use Rattle.tdf_sim_notes.specs.declared.ending.End.TheVariants.{Reached, Stopped, Spent}
pub use Rattle.tdf_bind.specs.declared.model.Flat.{Flat}
pub use Rattle.tdf_dynamic_first.specs.declared.first.First.{First}
pub use Rattle.tdf_events.specs.Side.{SideOf}
pub use Rattle.tdf_save.specs.Members.{MembersOf}
pub use Rattle.tdf_save.specs.Text.{saved_text}
pub use Rattle.tdf_sim_unique.specs.Below.{members_of}
pub use Rattle.tdf_saved.specs.State.{SnapshotOf}
pub use Rattle.tdf_sim_history.specs.History.{HistoryState, On}
pub use Rattle.tdf_sim_history.specs.Instant.{RunFault}
pub use Rattle.tdf_sim_history.specs.Rules.{rules_of, start_world}
pub use Rattle.tdf_sim_history.specs.Telling.{world_told}
pub use Rattle.tdf_sim_history.specs.Texts.{notes_to}
pub use Rattle.tdf_sim_history.specs.World.{World}
pub use Rattle.tdf_sim_runs.specs.Below.{IsModelOf, IsValid, rows_from_saved}
pub use Rattle.tdf_sim_notes.specs.Ending.{end_of, end_text, run_state}
pub use Rattle.tdf_sim_runs.specs.Ongoing.{AreToldTo}
pub use Rattle.tdf_sim_runs.specs.Parts.{HasEndedBefore, IfEndedBefore, IfPaused, IsRefusedPart, IsRowsToWrite, PausesAt, part_notes, part_trace}
pub use Rattle.tdf_sim_runs.specs.Paused.{IsPaused}
pub use Rattle.tdf_sim_runs.specs.Reopened.{kind_saved}
pub use Rattle.tdf_sim_runs.specs.Rest.{GoesOnAs, rest_end, rest_notes, rest_trace}
pub use Rattle.tdf_sim_runs.specs.Running.{IsRunningAt}
pub use Rattle.tdf_sim_runs.specs.Runs.{model_about}
pub use Rattle.tdf_sim_runs.specs.Saving.{is_vcd}
pub use Rattle.tdf_sim_runs.specs.declared.part.Part.{Part}
pub use Rattle.tdf_sim_runs.specs.declared.paused.Paused.{Paused}
pub use Rattle.tdf_sim_runs.specs.declared.run.Ran.{Ran}
