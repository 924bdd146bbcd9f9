-- What holds of the texts of states, and of saving and going on by the models of one tree.
-- Source: own.
use Rattle.std.specs.Prelude.{◌≡◌, ◌≤◌, ℕ, Bool, List}
use Rattle.tdf_dynamic_first.specs.declared.first.First.{First}
use Rattle.tdf_lang_tree.specs.Kept.{IsKept}
use Rattle.tdf_lang_tree.specs.Pure.{PureTree}
use Rattle.tdf_sim_unique.specs.Below.{members_of}
use Rattle.tdf_saved.specs.State.{SnapshotOf}
use Rattle.tdf_sim.specs.Accepted.{IsAccepted}
use Rattle.tdf_sim.specs.declared.sim.Sim.{Sim}
use Rattle.tdf_sim_history.specs.Rules.{rules_of}
use Rattle.tdf_sim_history.specs.Telling.{world_told}
use Rattle.tdf_sim_history.specs.Texts.{notes_to}
use Rattle.tdf_sim_history.specs.World.{Change}
use Rattle.tdf_sim_notes.specs.Ending.{HaveAnswers, run_end}
use Rattle.tdf_sim_runs.specs.Parts.{IsRowsToWrite, part_notes, part_trace}
use Rattle.tdf_sim_runs.specs.Paused.{IsSnapshotOfRun}
use Rattle.tdf_sim_runs.specs.Below.{IsValid, rows_from_saved}
use Rattle.tdf_sim_runs.specs.Ongoing.{AreToldTo}
use Rattle.tdf_sim_runs.specs.Rest.{rest_end, rest_trace}
use Rattle.tdf_sim_runs.specs.Runs.{model_about}
use Rattle.tdf_sim.specs.States.{IsSavedState, saved_world}
use Rattle.tdf_trace_rows.specs.declared.kinds.TraceKind.{TraceKind}

-- bytes are the text of one snapshot at most, of the model of one tree
abbrev pub StateIsOne : Type 0
StateIsOne = (bytes : List ℕ) (tree other : PureTree) (a b : Sim) (firsts others : List First)
    → (s t : SnapshotOf) → IsSavedState bytes tree a firsts s → IsSavedState bytes other b others t
    → (tree ≡ other) × (s ≡ t)

-- ---- up to a stop

-- two runs of one tree's models end alike at a stop, where both are told the answers of their
-- boundaries; where they come to it, rows are still to be written from one time on, and the trace
-- before and the notes are the same
pub record PartsRunAlike (tree : PureTree) (a b : Sim) (ahead told : List (List Change))
    (stop turns : ℕ) : Type 0 where
  pub end : run_end tree a.flat a.firsts.items ahead stop turns
      ≡ run_end tree b.flat b.firsts.items told stop turns
  pub rows : (m n : ℕ) → IsRowsToWrite tree a.flat a.firsts.items ahead stop turns m
      → IsRowsToWrite tree b.flat b.firsts.items told stop turns n → m ≡ n
  pub rows_too : (m : ℕ) → IsRowsToWrite tree a.flat a.firsts.items ahead stop turns m
      → IsRowsToWrite tree b.flat b.firsts.items told stop turns m
  pub trace : (kind : TraceKind) (rows : ℕ) → rows ≤ stop
      → part_trace kind tree a.flat a.firsts.items ahead stop turns rows
      ≡ part_trace kind tree b.flat b.firsts.items told stop turns rows
  pub notes : part_notes tree a.flat a.firsts.items ahead stop turns
      ≡ part_notes tree b.flat b.firsts.items told stop turns

abbrev pub PartsAreAlike : Type 0
PartsAreAlike = (tree : PureTree) (a b : Sim) → IsKept tree → IsAccepted tree a
    → IsAccepted tree b → (ahead told : List (List Change)) (stop turns : ℕ)
    → HaveAnswers tree a.flat a.firsts.items ahead stop turns
    → HaveAnswers tree b.flat b.firsts.items told stop turns
    → PartsRunAlike tree a b ahead told stop turns

-- and they have one snapshot
abbrev pub SnapshotsAreOne : Type 0
SnapshotsAreOne = (tree : PureTree) (a b : Sim) → IsKept tree → IsAccepted tree a
    → IsAccepted tree b → (stop turns : ℕ) (vcd : Bool) (s t : SnapshotOf)
    → IsSnapshotOfRun tree a.flat a.firsts.items stop turns vcd s
    → IsSnapshotOfRun tree b.flat b.firsts.items stop turns vcd t → s ≡ t

-- ---- from a snapshot on

-- the models of one tree have the same members
abbrev pub MembersAreAlike : Type 0
MembersAreAlike = (tree : PureTree) (a b : Sim) → IsKept tree → IsAccepted tree a
    → IsAccepted tree b → members_of a.flat ≡ members_of b.flat

-- a snapshot that is valid for the one is valid for the other
abbrev pub ValidIsAlike : Type 0
ValidIsAlike = (tree : PureTree) (a b : Sim) → IsKept tree → IsAccepted tree a
    → IsAccepted tree b → (firsts : List First) (s : SnapshotOf) → IsValid tree a.flat firsts s
    → IsValid tree b.flat firsts s

-- two runs of these models that go on from one snapshot write the same and end alike
pub record RestsRunAlike (tree : PureTree) (a b : Sim) (firsts others : List First)
    (s : SnapshotOf) (ahead told : List (List Change)) (stop : ℕ) : Type 0 where
  pub end : (turns : ℕ) → rest_end tree a.flat (saved_world tree a firsts s) ahead stop turns
      ≡ rest_end tree b.flat (saved_world tree b others s) told stop turns
  pub trace : (kind : TraceKind) → rest_trace tree a.flat (model_about kind a.flat)
      (saved_world tree a firsts s) ahead (rows_from_saved tree a.flat firsts s) stop
      ≡ rest_trace tree b.flat (model_about kind b.flat)
      (saved_world tree b others s) told (rows_from_saved tree b.flat others s) stop
  pub notes : notes_to tree a.flat (rules_of tree a.flat)
      (world_told ahead (saved_world tree a firsts s)) stop
      ≡ notes_to tree b.flat (rules_of tree b.flat)
      (world_told told (saved_world tree b others s)) stop

-- where both are told the answers of their boundaries
abbrev pub RestsAreAlike : Type 0
RestsAreAlike = (tree : PureTree) (a b : Sim) → IsKept tree → IsAccepted tree a
    → IsAccepted tree b → (firsts others : List First) (s : SnapshotOf)
    → (ahead told : List (List Change)) (stop : ℕ) → IsValid tree a.flat firsts s
    → IsValid tree b.flat others s
    → AreToldTo tree a.flat (saved_world tree a firsts s) stop ahead
    → AreToldTo tree b.flat (saved_world tree b others s) stop told
    → RestsRunAlike tree a b firsts others s ahead told stop

-- and answers of the one are answers of the other
abbrev pub AnswersAreAlike : Type 0
AnswersAreAlike = (tree : PureTree) (a b : Sim) → IsKept tree → IsAccepted tree a
    → IsAccepted tree b → (firsts : List First) (s : SnapshotOf)
    → (ahead : List (List Change)) (stop : ℕ)
    → AreToldTo tree a.flat (saved_world tree a firsts s) stop ahead
    → AreToldTo tree b.flat (saved_world tree b firsts s) stop ahead
