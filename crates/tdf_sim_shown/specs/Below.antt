-- Definitions of crates below, passed on to those above.
-- Source: the crates that say them.
pub use Rattle.tdf_sim_resumed.specs.Formats.{AreInFormatsTo}
pub use Rattle.tdf_sim_resumed.specs.Laws.{AreToldStates, AreUpTo, ClustersAreSaved, IsGoodStart, NoneIsDueBefore, ResumedAreGood, StandsStill}
pub use Rattle.tdf_sim_resumed.specs.Made.{AllGoOnFromStates, AreStatesAt, AreUnderPlans, GoesOnFromState}
pub use Rattle.tdf_sim_resumed.specs.MadeLaws.{ClustersStandThere, HavePlansFor, PlansAreTheirs, PlansAreThere}
pub use Rattle.tdf_sim_resumed.specs.Resuming.{resumed_clusters}
pub use Rattle.tdf_sim_resumed.specs.Snapshot.{AreSavedColumns, IsRowsFrom, IsSideBefore, IsSnapshot}
pub use Rattle.tdf_sim_resumed.specs.Starting.{Tracked, first_unknown, resumed_world, row_of_trace, rows_from_saved, tracked_of}
unfoldable pub use Rattle.tdf_sim_resumed.specs.Starting.{least_within}
pub use Rattle.tdf_sim_resumed.specs.Valid.{ArePlansOf, HasMembersOf, HasNumbersFor, HasTimesOf, IsNumberFor, IsValid, IsValidColumn, IsValidEvents, IsValidTracked}
pub use Rattle.tdf_sim_traces.specs.Advanced.{Advances, HasAdvanced}
pub use Rattle.tdf_sim_traces.specs.Calls.{CanBeShown, CanStart, CanTake, IsUnshown, ShowsInstant, StartsShowing}
pub use Rattle.tdf_sim_traces.specs.Events.{event_before, events_before, values_before}
pub use Rattle.tdf_sim_traces.specs.GoingOn.{IsNotMade}
pub use Rattle.tdf_sim_traces.specs.Laws.{AreAllThere, SoundCanBeShown, SoundCanStart}
pub use Rattle.tdf_sim_traces.specs.Periods.{CanBegin, ClockAt, clock_at, positions_in}
pub use Rattle.tdf_sim_traces.specs.Shown.{IsShown, IsShownOf}
pub use Rattle.tdf_sim_traces.specs.Signals.{AreTold, IsListed, IsSignalOf}
pub use Rattle.tdf_sim_traces.specs.Variables.{trace_variable, traced_signal, variable_for, variables_of}
pub use Rattle.tdf_sim_traces.specs.declared.shown.Shown.{Shown}
pub use Rattle.tdf_sim_traces.specs.declared.signals.TracedSignal.{TracedSignal}
