-- A run that comes to a stop and waits there.
-- Source: own.
use Rattle.std.specs.Io.KnownBytes.{Appends}
use Rattle.std.specs.Prelude.{◌≡◌, ◌≢◌, ◌++◌, ℕ, IfOk, List, [], Ok, OnErr, Option, Result, ⊤}
use Rattle.tdf_bind.specs.declared.model.Flat.{Flat}
use Rattle.tdf_events.specs.Side.{SideOf}
use Rattle.tdf_io.specs.Bytes.{AppendsFront}
use Rattle.tdf_io.specs.declared.writing.SinkErr.{SinkErr}
use Rattle.tdf_lang_tree.specs.Pure.{PureTree}
use Rattle.tdf_sim_history.specs.Cells.{run_cells}
use Rattle.tdf_sim_history.specs.History.{On}
use Rattle.tdf_sim_history.specs.Rules.{rules_of}
use Rattle.tdf_sim_history.specs.Telling.{world_told}
use Rattle.tdf_sim_history.specs.World.{Change, World}
use Rattle.tdf_sim_instants.specs.InstantLaws.{IsModelOf}
use Rattle.tdf_sim_shown.specs.Below.{IsRowsFrom}
use Rattle.tdf_sim_runs.specs.Ending.{state_from}
use Rattle.tdf_sim_runs.specs.Rest.{AreNewsAfter, GoesOnAs, rest_notes, rest_trace}
use Rattle.tdf_sim_runs.specs.Running.{CanGoOn, IsRunningAt, RunGoesOn, told_rows}
use Rattle.tdf_sim_runs.specs.declared.pausing.Arrival.{Arrival}
use Rattle.tdf_sim_runs.specs.declared.pausing.Arrival.TheVariants as arrival
use Rattle.tdf_sim_runs.specs.declared.run.Ran.{Ran}
use Rattle.tdf_sim_runs.specs.declared.running.Running.{Running}
use Rattle.tdf_trace.specs.Writings.{AboutSeen}
use Rattle.tdf_trace.specs.declared.stage.Stage.TheVariants.{Open}

-- what holds of a run that waits, and of one that ended
abbrev pub IfWaiting : Arrival → (Running → Type 0) → Type 0
IfWaiting (arrival.Waiting r) Holds = Holds r
IfWaiting (arrival.Ended ran) Holds = ⊤

abbrev pub IfEnded : Arrival → (Ran → Type 0) → Type 0
IfEnded (arrival.Waiting r) Holds = ⊤
IfEnded (arrival.Ended ran) Holds = Holds ran

-- a run wrote rows up to the time from which on they are still to be written, and handed on all its
-- news
pub record HasWaited (flat : Flat) (old new : Running)
    (out_old out_new notes_old notes_new : Option (List ℕ)) : Type 0 where
  pub can : CanGoOn flat new
  pub at : new.from ≡ old.from
  pub stage : new.shown.trace.stage ≡ Open
  pub goes : RunGoesOn flat old new old.news.items out_old out_new
  pub took : Appends notes_old notes_new old.news.items
  pub none : new.news.items ≡ []
  pub rows : (model : PureTree) (start : World SideOf) (handed : List ℕ) → IsModelOf model flat
      → (run : IsRunningAt model flat start handed old)
      → IsRowsFrom (run_cells model flat (rules_of model flat)
      (world_told run.going.ahead start) old.from) old.from new.shown.trace.rows.upto

-- a run waits at a stop as the history does that is told this: it wrote the rows from a time on up
-- to that from which on they are still to be written, and the news that were not handed on before
pub record WaitsAs (model : PureTree) (flat : Flat) (about : AboutSeen) (start : World SideOf)
    (handed : List ℕ) (ahead : List (List Change)) (from stop : ℕ)
    (out_old out_new notes_old notes_new : Option (List ℕ)) (r : Running) : Type 0 where
  pub world : World SideOf
  pub on : state_from model flat start ahead stop ≡ On world
  pub rows : IsRowsFrom (run_cells model flat (rules_of model flat) (world_told ahead start) stop)
      stop r.shown.trace.rows.upto
  pub trace : Appends out_old out_new
      (told_rows model flat start ahead about stop from r.shown.trace.rows.upto)
  pub about_is : r.shown.trace.about ≡ about
  pub news : List ℕ
  pub news_are : AreNewsAfter model flat start ahead stop handed news
  pub notes : Appends notes_old notes_new news
  pub none_held : r.news.items ≡ []
  pub goes_on : IsRunningAt model flat start (handed ++ news) r

-- it ended before as the history does, and wrote all of its trace and its notes
pub record EndsBefore (model : PureTree) (flat : Flat) (about : AboutSeen) (start : World SideOf)
    (handed : List ℕ) (ahead : List (List Change)) (from stop turns : ℕ)
    (out_old out_new notes_old notes_new : Option (List ℕ)) (ran : Ran) : Type 0 where
  pub none_on : (w : World SideOf) → state_from model flat start ahead stop ≢ On w
  pub goes : GoesOnAs {E = SinkErr} model flat about start handed ahead from stop turns out_old
      out_new notes_old notes_new (Ok ran)

-- where the history comes to the stop, one that was refused wrote front parts of the rows up to
-- that time from which on they are still to be written, and of the news that were not handed on
-- before
pub record WaitsInPart (model : PureTree) (flat : Flat) (about : AboutSeen) (start : World SideOf)
    (handed : List ℕ) (ahead : List (List Change)) (from stop : ℕ)
    (out_old out_new notes_old notes_new : Option (List ℕ)) : Type 0 where
  pub trace : (rows : ℕ) → IsRowsFrom (run_cells model flat (rules_of model flat)
      (world_told ahead start) stop) stop rows
      → AppendsFront out_old out_new (told_rows model flat start ahead about stop from rows)
  pub notes : (news : List ℕ) → AreNewsAfter model flat start ahead stop handed news
      → AppendsFront notes_old notes_new news

-- where it ended before, of all of its trace and its notes
pub record EndsInPart (model : PureTree) (flat : Flat) (about : AboutSeen) (start : World SideOf)
    (handed : List ℕ) (ahead : List (List Change)) (from stop turns : ℕ)
    (out_old out_new notes_old notes_new : Option (List ℕ)) : Type 0 where
  pub trace : AppendsFront out_old out_new (rest_trace model flat about start ahead from stop)
  pub notes : (news : List ℕ) → AreNewsAfter model flat start ahead stop handed news
      → AppendsFront notes_old notes_new (rest_notes model flat start ahead stop turns news)

-- so it wrote, where it does and where it doesn't
pub record PausesInPart (model : PureTree) (flat : Flat) (about : AboutSeen) (start : World SideOf)
    (handed : List ℕ) (ahead : List (List Change)) (from stop turns : ℕ)
    (out_old out_new notes_old notes_new : Option (List ℕ)) : Type 0 where
  pub waits : (w : World SideOf) → state_from model flat start ahead stop ≡ On w
      → WaitsInPart model flat about start handed ahead from stop out_old out_new notes_old
      notes_new
  pub ends : ((w : World SideOf) → state_from model flat start ahead stop ≢ On w)
      → EndsInPart model flat about start handed ahead from stop turns out_old out_new notes_old
      notes_new

-- a run waits at a stop where the history from a start comes to it, or ended before as the history
-- does; one that was refused wrote front parts of what it writes so
pub record PausesAs (model : PureTree) (flat : Flat) (about : AboutSeen) (start : World SideOf)
    (handed : List ℕ) (ahead : List (List Change)) (from stop turns : ℕ)
    (out_old out_new notes_old notes_new : Option (List ℕ)) (result : Result Arrival SinkErr)
    : Type 0 where
  pub waits : IfOk result (λ p. IfWaiting p (WaitsAs model flat about start handed ahead from stop
      out_old out_new notes_old notes_new))
  pub ended : IfOk result (λ p. IfEnded p (EndsBefore model flat about start handed ahead from stop
      turns out_old out_new notes_old notes_new))
  pub part : OnErr result (PausesInPart model flat about start handed ahead from stop turns out_old
      out_new notes_old notes_new)
