-- The text of the state of a run: which one a run has, and which run goes on from it.
-- Source: own.
use Rattle.std.specs.Prelude.{◌≡◌, ◌≤◌, ℕ, Bool, List, [], length}
use Rattle.tdf_base.specs.Limits.{longest_text}
use Rattle.tdf_bind.specs.declared.model.Flat.{Flat}
use Rattle.tdf_dynamic_first.specs.declared.first.First.{First}
use Rattle.tdf_events.specs.Side.{SideOf}
use Rattle.tdf_lang_parser.specs.Refused.{SpellsText}
use Rattle.tdf_lang_tree.specs.Pure.{PureTree}
use Rattle.tdf_save.specs.Members.{IsSnapshotFor}
use Rattle.tdf_save.specs.Text.{saved_text}
use Rattle.tdf_sim_unique.specs.Below.{members_of}
use Rattle.tdf_saved.specs.State.{SnapshotOf}
use Rattle.tdf_sim.specs.Accepted.{IsAccepted}
use Rattle.tdf_sim.specs.declared.sim.Sim.{Sim}
use Rattle.tdf_sim_history.specs.World.{World}
use Rattle.tdf_sim_runs.specs.Below.{IsModelOf, IsValid, resumed_world, rows_from_saved}
use Rattle.tdf_sim_runs.specs.Paused.{IsSnapshotOfRun}
use Rattle.tdf_sim_runs.specs.declared.paused.Paused.{Paused}
use Rattle.tdf_sim_runs.specs.Reopened.{kind_saved}
use Rattle.tdf_sim_runs.specs.Running.{IsRunningAt}

-- ---- of a run from its first plans on

-- the bytes are the text of its snapshot at a time, with this text of its model
pub record IsStateText (model : PureTree) (flat : Flat) (firsts : List First) (time turns : ℕ)
    (vcd : Bool) (text bytes : List ℕ) : Type 0 where
  pub snapshot : SnapshotOf
  pub of : IsSnapshotOfRun model flat firsts time turns vcd snapshot
  pub is : bytes ≡ saved_text (members_of flat) text snapshot

-- ---- of any

-- the bytes are the text of a valid snapshot, with the text of an accepted model
pub record IsSavedState (bytes : List ℕ) (tree : PureTree) (sim : Sim) (firsts : List First)
    (s : SnapshotOf) : Type 0 where
  pub text : List ℕ
  pub short : length text ≤ longest_text
  pub spells : SpellsText text tree
  pub accepted : IsAccepted tree sim
  pub fits : IsSnapshotFor (members_of sim.flat) s
  pub is : bytes ≡ saved_text (members_of sim.flat) text s
  pub valid : IsValid tree sim.flat firsts s

-- they are that of none
abbrev pub IsNoState : (bytes : List ℕ) → Type 0
IsNoState bytes = (tree : PureTree) (sim : Sim) (firsts : List First) (s : SnapshotOf)
    → ¬ IsSavedState bytes tree sim firsts s

-- the history that a snapshot says goes on from this world
abbrev pub saved_world : PureTree → Sim → List First → SnapshotOf → World SideOf
saved_world tree sim firsts s = resumed_world tree sim.flat firsts s []

-- a run goes on from the world that a snapshot says, with rows from a time on that it says too
pub record GoesOnFromSaved (tree : PureTree) (sim : Sim) (firsts : List First) (s : SnapshotOf)
    (p : Paused) : Type 0 where
  pub runs : IsRunningAt tree sim.flat (saved_world tree sim firsts s) [] p.run
  pub rows : p.run.shown.trace.rows.upto ≡ rows_from_saved tree sim.flat firsts s

-- a run waits at the time of the snapshot whose text the bytes are, in the form of its trace and
-- with its turns; it goes on from the world that the snapshot says with each valid list of plans
pub record IsRunOf (bytes : List ℕ) (p : Paused) : Type 0 where
  pub tree : PureTree
  pub sim : Sim
  pub firsts : List First
  pub snapshot : SnapshotOf
  pub saved : IsSavedState bytes tree sim firsts snapshot
  pub model : IsModelOf tree sim.flat
  pub flat : p.flat ≡ sim.flat
  pub time : p.run.from ≡ snapshot.time
  pub kind : p.kind ≡ kind_saved snapshot.vcd
  pub turns : p.turns ≡ snapshot.budget
  pub goes_on : (plans : List First) → IsValid tree sim.flat plans snapshot
      → GoesOnFromSaved tree sim plans snapshot p
