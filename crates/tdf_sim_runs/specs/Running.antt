-- A run with what it shows.
-- Source: own.
use Rattle.std.specs.Io.KnownBytes.{Appends}
use Rattle.std.specs.Prelude.{◌≡◌, ◌<◌, ◌≤◌, ℕ, List, [], Option, Some, slice_get, ◌+◌, ◌++◌}
use Rattle.tdf_sim_instants.specs.Engine.{IsEngineOf, IsReadyAt}
use Rattle.tdf_sim_instants.specs.InstantLaws.{IsModelOf}
use Rattle.tdf_sim_instants.specs.Times.{IsNextDue}
use Rattle.tdf_sim_instants.specs.declared.engine.Engine.{Engine}
use Rattle.tdf_events.specs.Kernel.{side_of}
use Rattle.tdf_events.specs.Side.{SideOf}
use Rattle.tdf_bind.specs.declared.model.Flat.{Flat}
use Rattle.tdf_bind_tables.specs.Ranges.{AreInRange}
use Rattle.tdf_sim_history.specs.Cells.{run_cells}
use Rattle.tdf_sim_history.specs.Telling.{world_told}
use Rattle.tdf_sim_history.specs.Texts.{notes_to}
use Rattle.tdf_sim_history.specs.World.{Change, World}
use Rattle.tdf_io.specs.Bytes.{AppendsFront}
use Rattle.tdf_sim_shown.specs.Below.{AreInFormatsTo, IsShown, Shown}
use Rattle.tdf_sim_runs.specs.Ongoing.{AreToldTo, IsOngoing}
use Rattle.tdf_sim_runs.specs.declared.running.Running.{Running}
use Rattle.tdf_trace.specs.Writings.{AboutSeen, rows_text}
use Rattle.tdf_lang_tree.specs.Pure.{PureTree}
use Rattle.tdf_sim_history.specs.Rules.{rules_of}
use Rattle.tdf_trace.specs.Tracked.{AreSince}
use Rattle.tdf_sim_instants.specs.Below.{ClusterOf}

-- a run goes on before a time, its trace shows what it has done, its event signals had values of
-- their formats, and the news are the plans that came
pub record IsRunning (model : PureTree) (flat : Flat) (start : World SideOf) (from : ℕ)
    (e : Engine) (left : ℕ) (s : Shown) (news : List ℕ) : Type 0 where
  pub going : IsOngoing model flat start from e left
  pub shown : IsShown model flat (world_told going.ahead start) from going.world s
  pub fits : AreInFormatsTo model flat (world_told going.ahead start) from
  pub news_are : news
      ≡ notes_to model flat (rules_of model flat) (world_told going.ahead start) from

-- so does this run, where the news before those that it holds were handed on
abbrev pub IsRunningAt : PureTree → Flat → World SideOf → (handed : List ℕ) → Running → Type 0
IsRunningAt model flat start handed r =
    IsRunning model flat start r.from r.engine r.left r.shown (handed ++ r.news.items)

-- it does so for one model and start at least
pub record IsSomeRun (flat : Flat) (r : Running) : Type 0 where
  pub model : PureTree
  pub of : IsModelOf model flat
  pub start : World SideOf
  pub handed : List ℕ
  pub is : IsRunningAt model flat start handed r

-- no period in progress ends before a mark
abbrev pub AreWithin : (mark : ℕ) → Engine → Type 0
AreWithin mark e = (n s : ℕ) (c : ClusterOf) → slice_get e.since.items n ≡ Some s
    → slice_get e.clusters.items n ≡ Some c → mark ≤ s + c.period

-- a run can go on: nothing is due before its time, no position without a sample and no end of a
-- period lies before the end of the rows that are written, and what the last instant traced has
-- been taken
pub record CanGoOn (flat : Flat) (r : Running) : Type 0 where
  pub engine : IsEngineOf flat r.engine
  pub ready : IsReadyAt r.from r.engine
  pub none : r.engine.outputs.traced ≡ []
  pub early : r.shown.trace.rows.upto ≤ r.from
  pub since : AreSince r.shown.trace.rows.upto r.shown.tracking.list
  pub within : AreWithin r.shown.trace.rows.upto r.engine
  pub printable : AreInRange flat.tables
  pub some : IsSomeRun flat r

-- something is due at a time, and nothing before
pub record IsDueNow (e : Engine) (time : ℕ) : Type 0 where
  pub stop : ℕ
  pub below : time < stop
  pub next : IsNextDue e.clusters.items e.since.items (side_of e.kernel) stop time

-- the text of the rows from a time on and below another, by what the history from a start has done
-- before one that is told this of its boundaries
abbrev pub told_rows : PureTree → Flat → (start : World SideOf) → (ahead : List (List Change))
    → AboutSeen → (before from end : ℕ) → List ℕ
told_rows model flat start ahead about before from end = rows_text about
    (run_cells model flat (rules_of model flat) (world_told ahead start) before) from end

-- a run went on from one state to another and handed on these news, and the sink took the rows that
-- were written: those of the history, whatever answers it is told
pub record RunGoesOn (flat : Flat) (old new : Running) (news : List ℕ)
    (before after : Option (List ℕ)) : Type 0 where
  pub later : old.from ≤ new.from
  pub about : new.shown.trace.about ≡ old.shown.trace.about
  pub wrote : old.shown.trace.rows.upto ≤ new.shown.trace.rows.upto
  pub runs : (model : PureTree) (start : World SideOf) (handed : List ℕ)
      → IsModelOf model flat → IsRunningAt model flat start handed old
      → IsRunningAt model flat start (handed ++ news) new
  pub rows : (model : PureTree) (start : World SideOf) (handed : List ℕ)
      → (ahead : List (List Change)) → IsModelOf model flat
      → IsRunningAt model flat start handed old
      → AreToldTo model flat start new.from ahead → Appends before after
      (told_rows model flat start ahead old.shown.trace.about new.from
      old.shown.trace.rows.upto new.shown.trace.rows.upto)

-- a call that writes was refused: the sink took a front part of the rows below a mark; no position
-- without a sample and no end of a period lies before it
pub record WritesFrontTo (flat : Flat) (r : Running) (before after : Option (List ℕ)) : Type 0 where
  pub mark : ℕ
  pub early : mark ≤ r.from
  pub since : AreSince mark r.shown.tracking.list
  pub within : AreWithin mark r.engine
  pub front : (model : PureTree) (start : World SideOf) (handed : List ℕ)
      → (ahead : List (List Change)) → IsModelOf model flat
      → IsRunningAt model flat start handed r
      → AreToldTo model flat start r.from ahead → AppendsFront before after
      (told_rows model flat start ahead r.shown.trace.about r.from r.shown.trace.rows.upto mark)

-- where nothing is due before the next time, it goes on up to that time
abbrev pub RunsToNext : Type 0
RunsToNext = (model : PureTree) (flat : Flat) (start : World SideOf) (from stop time left : ℕ)
    → (e : Engine) (s : Shown) (news : List ℕ) → IsEngineOf flat e → IsReadyAt from e
    → IsRunning model flat start from e left s news → from ≤ stop
    → IsNextDue e.clusters.items e.since.items (side_of e.kernel) stop time
    → IsRunning model flat start time e left s news
