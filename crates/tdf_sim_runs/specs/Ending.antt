-- How a run ends.
-- Source: own.
use Rattle.std.specs.Io.KnownBytes.{Appends}
use Rattle.std.specs.Prelude.{◌≡◌, ◌≢◌, ◌<◌, ◌≤◌, ◌-◌, ◌++◌, ℕ, List, None, Option, Result, Some}
use Rattle.tdf_trace.specs.Calls.{StandBelow}
use Rattle.tdf_trace.specs.Tracked.{AreSince}
use Rattle.tdf_sim_instants.specs.InstantLaws.{IsModelOf, IsNow}
use Rattle.tdf_events.specs.Kernel.{IsKernelOf}
use Rattle.tdf_events.specs.Side.{SideOf}
use Rattle.tdf_bind.specs.Flat.{IsFlatOf}
use Rattle.tdf_bind.specs.declared.model.Flat.{Flat}
use Rattle.tdf_sim_history.specs.Cells.{run_cells, world_before}
use Rattle.tdf_sim_history.specs.Instant.{RunFault}
use Rattle.tdf_sim_history.specs.Telling.{world_told}
use Rattle.tdf_sim_history.specs.Texts.{end_of as end_before, notes_to, state_at}
use Rattle.tdf_sim_history.specs.World.{Change, World}
use Rattle.tdf_sim_history.specs.History.{On, Spent, HistoryState, Stopped}
use Rattle.tdf_io.specs.Bytes.{AppendsFront, WritesText}
use Rattle.tdf_io.specs.declared.writing.SinkErr.{SinkErr}
use Rattle.tdf_bind_invariants.specs.Limits.{AreWithinLimits}
use Rattle.tdf_sim_runs.specs.Ongoing.{AreToldTo, CanBeTold}
use Rattle.tdf_sim_runs.specs.Running.{IsRunningAt, told_rows}
use Rattle.tdf_sim_runs.specs.declared.going.Ended.{Ended}
use Rattle.tdf_sim_runs.specs.declared.going.Ended.TheVariants as ended
use Rattle.tdf_sim_runs.specs.declared.running.Running.{Running}
use Rattle.tdf_sim_notes.specs.declared.ending.End.{End}
use Rattle.tdf_sim_notes.specs.declared.ending.End.TheVariants as ending
use Rattle.tdf_sim_shown.specs.Below.{IsShown, Shown}
use Rattle.tdf_trace.specs.Writings.{AboutSeen, rest_text, rows_text}
use Rattle.tdf_trace_rows.specs.Rows.{Cells}
use Rattle.tdf_lang_tree.specs.Pure.{PureTree}
use Rattle.tdf_sim_history.specs.WorldLaws.{AreSteady}
use Rattle.tdf_sim_history.specs.Rules.{rules_of}

-- below a mark that no period with positions left began before, the rows stand for the cells of
-- the run
abbrev pub ShownStandsBelow : Type 0
ShownStandsBelow = (model : PureTree) (flat : Flat) (start : World SideOf) (from mark : ℕ)
    → (s : Shown) → IsFlatOf model flat → AreWithinLimits flat
    → IsShown model flat start from (world_before model flat (rules_of model flat) start from) s
    → AreSteady model flat (world_before model flat (rules_of model flat) start from)
    → AreSince mark s.tracking.list → mark ≤ from
    → StandBelow (run_cells model flat (rules_of model flat) start from) mark s.trace.rows

-- the sink takes the other rows below the end, and the tail
abbrev pub WritesEnd : {S T : Type 0} → (S → Option (List ℕ)) → (S → ℕ) → (old new : S)
    → Shown → (end : ℕ) → Result T SinkErr → Type 0
WritesEnd taken faults old new s end result = (model : PureTree) (flat : Flat)
    → (start : World SideOf) → IsFlatOf model flat → AreWithinLimits flat
    → IsShown model flat start end (world_before model flat (rules_of model flat) start end) s
    → WritesText taken faults old new (rest_text s.trace.about
    (run_cells model flat (rules_of model flat) start end) s.trace.rows.upto end) result

-- the state at a stop of the history from a start that is told this of its boundaries
abbrev pub state_from : PureTree → Flat → (start : World SideOf) → (ahead : List (List Change))
    → (stop : ℕ) → HistoryState (World SideOf) RunFault
state_from model flat start ahead stop =
    state_at model flat (rules_of model flat) (world_told ahead start) stop

-- the time at which a run ends
abbrev pub end_from : PureTree → Flat → (start : World SideOf) → (ahead : List (List Change))
    → (stop : ℕ) → ℕ
end_from model flat start ahead stop =
    end_before model flat (rules_of model flat) (world_told ahead start) stop

-- the history has ended so: at its stop, where all that runs is what there is in it, by a turn too
-- many at the time of the run, or by a fault of this cluster then
abbrev pub EndsBy : PureTree → Flat → (start : World SideOf) → (ahead : List (List Change))
    → (stop : ℕ) → Running → Ended → Type 0
EndsBy model flat start ahead stop r ended.Reached = (w : World SideOf)
    × (state_from model flat start ahead stop ≡ On w) × IsNow model flat w r.engine r.left
    × IsKernelOf flat r.engine.kernel
EndsBy model flat start ahead stop r ended.Spent =
    (w : World SideOf) × (state_from model flat start ahead stop ≡ Spent r.from w)
EndsBy model flat start ahead stop r (ended.Stopped cluster fault) = (w : World SideOf)
    × (state_from model flat start ahead stop
    ≡ Stopped r.from (record { cluster = cluster; fault = fault }) w)

-- how a run of so many turns has ended
abbrev pub end_by : Running → (stop turns : ℕ) → Ended → End
end_by r stop turns ended.Reached = ending.Reached stop (turns - r.left)
end_by r stop turns ended.Spent = ending.Spent r.from
end_by r stop turns (ended.Stopped cluster fault) = ending.Stopped r.from cluster fault

-- a run has ended as the history does that is told the answers of its boundaries; its trace shows
-- what it did before its end, and the news, those handed on and those it holds, are the plans that
-- came
pub record EndsAs (model : PureTree) (flat : Flat) (start : World SideOf) (handed : List ℕ)
    (stop : ℕ) (r : Running) (how : Ended) : Type 0 where
  pub can : CanBeTold flat start
  pub ahead : List (List Change)
  pub told : AreToldTo model flat start stop ahead
  pub by : EndsBy model flat start ahead stop r how
  pub time : end_from model flat start ahead stop ≡ r.from
  pub shown : IsShown model flat (world_told ahead start) r.from (world_before model flat
      (rules_of model flat) (world_told ahead start) r.from) r.shown
  pub news : handed ++ r.news.items
      ≡ notes_to model flat (rules_of model flat) (world_told ahead start) stop

-- from one state of a run to its end, and these news were handed on
pub record GoesToEnd (flat : Flat) (stop : ℕ) (old new : Running) (news : List ℕ)
    (before after : Option (List ℕ)) (how : Ended) : Type 0 where
  pub about : new.shown.trace.about ≡ old.shown.trace.about
  pub wrote : old.shown.trace.rows.upto ≤ new.shown.trace.rows.upto
  pub early : new.shown.trace.rows.upto ≤ new.from
  pub since : AreSince new.shown.trace.rows.upto new.shown.tracking.list
  pub ends : (model : PureTree) (start : World SideOf) (handed : List ℕ)
      → IsModelOf model flat → IsRunningAt model flat start handed old
      → EndsAs model flat start (handed ++ news) stop new how
  pub rows : (model : PureTree) (start : World SideOf) (handed : List ℕ)
      → (ahead : List (List Change)) → IsModelOf model flat
      → IsRunningAt model flat start handed old
      → AreToldTo model flat start stop ahead → Appends before after
      (told_rows model flat start ahead old.shown.trace.about new.from
      old.shown.trace.rows.upto new.shown.trace.rows.upto)

-- each cell below a time is known
abbrev pub AreKnownBelow : Cells → (time : ℕ) → Type 0
AreKnownBelow cells time = (column t : ℕ) → column < cells.columns → t < time
    → cells.at column t ≢ Some None

-- the sink took a front part of the rows of these cells from a time on, up to one that is not past
-- the end and below which each cell is known
pub record WritesKnown (about : AboutSeen) (cells : Cells) (from end : ℕ)
    (before after : Option (List ℕ)) : Type 0 where
  pub mark : ℕ
  pub within : mark ≤ end
  pub known : AreKnownBelow cells mark
  pub front : AppendsFront before after (rows_text about cells from mark)

-- a call was refused: the sink took a front part of the rows that are known at the end, whatever
-- answers the history is told
abbrev pub WritesPart : Flat → (stop : ℕ) → (old : Running) → (before after : Option (List ℕ))
    → Type 0
WritesPart flat stop old before after = (model : PureTree) (start : World SideOf)
    → (handed : List ℕ) (ahead : List (List Change)) → IsModelOf model flat
    → IsRunningAt model flat start handed old → AreToldTo model flat start stop ahead
    → WritesKnown old.shown.trace.about (run_cells model flat (rules_of model flat)
    (world_told ahead start) (end_from model flat start ahead stop))
    old.shown.trace.rows.upto (end_from model flat start ahead stop) before after

-- and of the news that weren't handed on yet
abbrev pub HandsPart : Flat → (stop : ℕ) → (old : Running) → (before after : Option (List ℕ))
    → Type 0
HandsPart flat stop old before after = (model : PureTree) (start : World SideOf)
    → (handed : List ℕ) (ahead : List (List Change)) (rest : List ℕ) → IsModelOf model flat
    → IsRunningAt model flat start handed old → AreToldTo model flat start stop ahead
    → handed ++ rest ≡ notes_to model flat (rules_of model flat) (world_told ahead start) stop
    → AppendsFront before after rest
