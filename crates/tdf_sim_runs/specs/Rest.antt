-- What a run that goes on from a start writes, how it ends, and what it leaves.
-- Source: own.
use Rattle.std.specs.Io.KnownBytes.{Appends}
use Rattle.std.specs.Prelude.{◌≡◌, ◌++◌, ℕ, IfOk, List, OnErr, OnOk, Option, Result, map}
use Rattle.tdf_bind.specs.declared.model.Flat.{Flat}
use Rattle.tdf_events.specs.Kernel.{IsKernelOf, side_of}
use Rattle.tdf_events.specs.Side.{SideOf}
use Rattle.tdf_io.specs.Bytes.{AppendsFront}
use Rattle.tdf_lang_tree.specs.Pure.{PureTree}
use Rattle.tdf_sim_history.specs.Cells.{run_cells}
use Rattle.tdf_sim_history.specs.History.{On}
use Rattle.tdf_sim_history.specs.Rules.{rules_of}
use Rattle.tdf_sim_history.specs.Telling.{untold, world_told}
use Rattle.tdf_sim_history.specs.Texts.{notes_to}
use Rattle.tdf_sim_history.specs.World.{Change, World}
use Rattle.tdf_sim_notes.specs.Ending.{end_of, end_text}
use Rattle.tdf_sim_notes.specs.declared.ending.End.{End}
use Rattle.tdf_sim_notes.specs.declared.ending.End.TheVariants.{Reached}
use Rattle.tdf_sim_instants.specs.Below.{AreAt}
use Rattle.tdf_sim_runs.specs.Ending.{end_from, state_from}
use Rattle.tdf_sim_runs.specs.declared.run.Ran.{Ran}
use Rattle.tdf_trace.specs.Writings.{AboutSeen, rest_text}

-- how the history from a start ends at a stop, where it is told this of its boundaries and was
-- given so many turns
abbrev pub rest_end : PureTree → Flat → (start : World SideOf) → (ahead : List (List Change))
    → (stop turns : ℕ) → End
rest_end model flat start ahead stop turns =
    end_of stop turns (state_from model flat start ahead stop)

-- its trace from a time on: the rows up to its end, and the tail
abbrev pub rest_trace : PureTree → Flat → AboutSeen → (start : World SideOf)
    → (ahead : List (List Change)) → (from stop : ℕ) → List ℕ
rest_trace model flat about start ahead from stop = rest_text about
    (run_cells model flat (rules_of model flat) (world_told ahead start)
    (end_from model flat start ahead stop)) from (end_from model flat start ahead stop)

-- these news are the plans that came, but for those that were handed on before
abbrev pub AreNewsAfter : PureTree → Flat → (start : World SideOf) → (ahead : List (List Change))
    → (stop : ℕ) → (handed news : List ℕ) → Type 0
AreNewsAfter model flat start ahead stop handed news = handed ++ news
    ≡ notes_to model flat (rules_of model flat) (world_told ahead start) stop

-- its notes: these news and the closing line
abbrev pub rest_notes : PureTree → Flat → (start : World SideOf) → (ahead : List (List Change))
    → (stop turns : ℕ) → (news : List ℕ) → List ℕ
rest_notes model flat start ahead stop turns news = news
    ++ end_text flat.resolution turns (rest_end model flat start ahead stop turns)

-- where it reached its stop, its clusters and its event side are those of the history then
pub record IsLeftFrom (model : PureTree) (flat : Flat) (start : World SideOf)
    (ahead : List (List Change)) (stop : ℕ) (ran : Ran) : Type 0 where
  pub world : World SideOf
  pub on : state_from model flat start ahead stop ≡ On world
  pub since : List ℕ
  pub clusters : AreAt model flat since (map untold world.clusters) ran.clusters.items
  pub kernel : side_of ran.kernel ≡ world.events
  pub going : IsKernelOf flat ran.kernel

-- a run goes on from a start as the history does that is told this; what it writes are the rows
-- from a time on and the tail, and the news that were not handed on before with the closing line;
-- one that did not end wrote front parts of both
pub record GoesOnAs {E : Type 0} (model : PureTree) (flat : Flat) (about : AboutSeen)
    (start : World SideOf) (handed : List ℕ) (ahead : List (List Change)) (from stop turns : ℕ)
    (out_old out_new notes_old notes_new : Option (List ℕ)) (result : Result Ran E)
    : Type 0 where
  pub end : IfOk result (λ ran. ran.end ≡ rest_end model flat start ahead stop turns)
  pub trace : OnOk result
      (Appends out_old out_new (rest_trace model flat about start ahead from stop))
  pub notes : (news : List ℕ) → AreNewsAfter model flat start ahead stop handed news
      → OnOk result
      (Appends notes_old notes_new (rest_notes model flat start ahead stop turns news))
  pub trace_part : OnErr result
      (AppendsFront out_old out_new (rest_trace model flat about start ahead from stop))
  pub notes_part : (news : List ℕ) → AreNewsAfter model flat start ahead stop handed news
      → OnErr result
      (AppendsFront notes_old notes_new (rest_notes model flat start ahead stop turns news))
  pub left : IfOk result (λ ran. (time taken : ℕ) → ran.end ≡ Reached time taken
      → IsLeftFrom model flat start ahead stop ran)
