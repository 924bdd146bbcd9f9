-- A part of a run, its snapshot, and a run that goes on from one, do not depend on which flat model
-- of the model is used, nor on which answers of its boundaries the history is told.
-- Source: own.
use Rattle.std.specs.Prelude.{◌≡◌, ◌≤◌, ◌-◌, ℕ, Bool, List, []}
use Rattle.tdf_bind.specs.Flat.{IsFlatOf}
use Rattle.tdf_bind.specs.declared.model.Flat.{Flat}
use Rattle.tdf_bind_invariants.specs.Limits.{AreWithinLimits}
use Rattle.tdf_dynamic_first.specs.declared.first.First.{First}
use Rattle.tdf_events.specs.Side.{SideOf}
use Rattle.tdf_lang_tree.specs.Kept.{IsKept}
use Rattle.tdf_lang_tree.specs.Pure.{PureTree}
use Rattle.tdf_save_members.specs.OfFlat.{members_of}
use Rattle.tdf_saved.specs.State.{SnapshotOf}
use Rattle.tdf_sim_history.specs.Answers.{AreAnswers}
use Rattle.tdf_sim_history.specs.Cells.{run_cells}
use Rattle.tdf_sim_history.specs.History.{On}
use Rattle.tdf_sim_history.specs.Rules.{rules_of, start_world}
use Rattle.tdf_sim_history.specs.TableLaws.{HaveAttributes}
use Rattle.tdf_sim_history.specs.Telling.{world_told, world_untold}
use Rattle.tdf_sim_history.specs.Texts.{end_of, notes_to, state_at}
use Rattle.tdf_sim_history.specs.World.{Change, World}
use Rattle.tdf_sim_notes.specs.Ending.{HaveAnswers, end_of as ending_of, run_end}
use Rattle.tdf_sim_notes.specs.Plans.{plans_of}
use Rattle.tdf_sim_resumed.specs.Snapshot.{IsRowsFrom, IsSnapshot}
use Rattle.tdf_sim_resumed.specs.Starting.{resumed_world, rows_from_saved}
use Rattle.tdf_sim_resumed.specs.Valid.{ArePlansOf, HasMembersOf, IsValid}
use Rattle.tdf_sim_unique.specs.Laws.{AreFirstPlans, AreModelsAlike}
use Rattle.tdf_trace_rows.specs.Laws.{Agree}
use Rattle.tdf_trace_rows.specs.Rows.{Cells, Line, text_from}

-- ---- two flat models of one model

-- two flat models of one model, with the same tables and the same unit of time
pub record AreFlatsAlike (model : PureTree) (a b : Flat) : Type 0 where
  pub one : IsFlatOf model a
  pub other : IsFlatOf model b
  pub tables : a.tables ≡ b.tables
  pub unit : a.resolution ≡ b.resolution

-- from a start the history goes by the one as by the other
pub record GoAsOne (model : PureTree) (a b : Flat) (start : World SideOf) (stop : ℕ) : Type 0 where
  pub state : state_at model a (rules_of model a) start stop
      ≡ state_at model b (rules_of model b) start stop
  pub cells : run_cells model a (rules_of model a) start stop
      ≡ run_cells model b (rules_of model b) start stop
  pub notes : notes_to model a (rules_of model a) start stop
      ≡ notes_to model b (rules_of model b) start stop
  pub answers : AreAnswers model a (rules_of model a) start stop
      → AreAnswers model b (rules_of model b) start stop

abbrev pub FlatsGoAsOne : Type 0
FlatsGoAsOne = (model : PureTree) (a b : Flat) (start : World SideOf) (stop : ℕ)
    → AreFlatsAlike model a b → GoAsOne model a b start stop

-- a snapshot that the history has by the one, it has by the other
abbrev pub FlatsHaveSnapshots : Type 0
FlatsHaveSnapshots = (model : PureTree) (a b : Flat) (start w : World SideOf) (time budget : ℕ)
    → (vcd : Bool) (s : SnapshotOf) → AreFlatsAlike model a b
    → IsSnapshot model a start w time budget vcd s → IsSnapshot model b start w time budget vcd s

-- a snapshot that is valid for the one is so for the other, and says the same world
abbrev pub FlatsHaveValid : Type 0
FlatsHaveValid = (model : PureTree) (a b : Flat) (firsts : List First) (s : SnapshotOf)
    → AreFlatsAlike model a b → IsValid model a firsts s → IsValid model b firsts s

abbrev pub FlatsSayWorlds : Type 0
FlatsSayWorlds = (model : PureTree) (a b : Flat) (firsts : List First) (s : SnapshotOf)
    → (ahead : List (List Change)) → AreFlatsAlike model a b
    → resumed_world model a firsts s ahead ≡ resumed_world model b firsts s ahead

-- the text of a snapshot names the same members
abbrev pub FlatsHaveMembers : Type 0
FlatsHaveMembers = (model : PureTree) (a b : Flat) → AreFlatsAlike model a b
    → members_of a ≡ members_of b

-- the plans under the tables that a snapshot says are one, so it says one world
abbrev pub PlansSayOneWorld : Type 0
PlansSayOneWorld = (model : PureTree) (flat : Flat) (firsts others : List First) (s : SnapshotOf)
    → (ahead : List (List Change)) → AreWithinLimits flat → HasMembersOf flat s
    → ArePlansOf flat s firsts → ArePlansOf flat s others
    → resumed_world model flat firsts s ahead ≡ resumed_world model flat others s ahead

-- ---- two histories that are told answers

-- two starts that are the same but for what is told of their boundaries, which is their answers up
-- to a stop
pub record AreToldAlike (model : PureTree) (flat : Flat) (one other : World SideOf) (stop : ℕ)
    : Type 0 where
  pub start : world_untold one ≡ world_untold other
  pub attributes : HaveAttributes flat one
  pub answers : AreAnswers model flat (rules_of model flat) one stop
  pub others : AreAnswers model flat (rules_of model flat) other stop

-- their histories end in one way, show the same up to the stop, and bring the same plans
pub record ComeToTheSame (model : PureTree) (flat : Flat) (one other : World SideOf) (stop : ℕ)
    : Type 0 where
  pub end : (turns : ℕ) → ending_of stop turns (state_at model flat (rules_of model flat) one stop)
      ≡ ending_of stop turns (state_at model flat (rules_of model flat) other stop)
  pub time : end_of model flat (rules_of model flat) one stop
      ≡ end_of model flat (rules_of model flat) other stop
  pub cells : (below : ℕ) → below ≤ stop
      → Agree (run_cells model flat (rules_of model flat) one below)
      (run_cells model flat (rules_of model flat) other below) below
  pub notes : notes_to model flat (rules_of model flat) one stop
      ≡ notes_to model flat (rules_of model flat) other stop

abbrev pub AnswersComeToTheSame : Type 0
AnswersComeToTheSame = (model : PureTree) (flat : Flat) (one other : World SideOf) (stop : ℕ)
    → IsKept model → IsFlatOf model flat → AreWithinLimits flat
    → AreToldAlike model flat one other stop → ComeToTheSame model flat one other stop

-- a snapshot that the one history has at the stop, the other has
abbrev pub AnswersHaveSnapshots : Type 0
AnswersHaveSnapshots = (model : PureTree) (flat : Flat) (one other w v : World SideOf)
    → (stop budget : ℕ) (vcd : Bool) (s : SnapshotOf) → IsKept model → IsFlatOf model flat
    → AreWithinLimits flat → AreToldAlike model flat one other stop
    → state_at model flat (rules_of model flat) other stop ≡ On v
    → IsSnapshot model flat one w stop budget vcd s
    → IsSnapshot model flat other v stop budget vcd s

-- ---- the part of a run up to a stop

-- what the columns of a run show, by its history up to a stop
abbrev pub cells_to : PureTree → Flat → List First → (ahead : List (List Change))
    → (stop turns : ℕ) → Cells
cells_to model flat firsts ahead stop turns = run_cells model flat (rules_of model flat)
    (start_world model flat firsts ahead turns) stop

-- two runs of a model, each by a flat model of it and first plans, and with what is told of the
-- boundaries: where the one comes to the stop, the other does; rows are still to be written from
-- one time on; the rows before, the plans and the snapshot are the same
pub record PartsWriteTheSame (model : PureTree) (a b : Flat) (firsts others : List First)
    (ahead told : List (List Change)) (stop turns : ℕ) : Type 0 where
  pub end : run_end model a firsts ahead stop turns ≡ run_end model b others told stop turns
  pub rows : (m n : ℕ) → IsRowsFrom (cells_to model a firsts ahead stop turns) stop m
      → IsRowsFrom (cells_to model b others told stop turns) stop n → m ≡ n
  pub rows_too : (m : ℕ) → IsRowsFrom (cells_to model a firsts ahead stop turns) stop m
      → IsRowsFrom (cells_to model b others told stop turns) stop m
  pub text : (line : Line) (rows : ℕ) → rows ≤ stop
      → text_from line (cells_to model a firsts ahead stop turns) 0 rows
      ≡ text_from line (cells_to model b others told stop turns) 0 rows
  pub plans : plans_of a firsts ≡ plans_of b others
  pub news : notes_to model a (rules_of model a) (start_world model a firsts ahead turns) stop
      ≡ notes_to model b (rules_of model b) (start_world model b others told turns) stop
  pub snapshot : (w v : World SideOf) (vcd : Bool) (one other : SnapshotOf)
      → IsSnapshot model a (start_world model a firsts ahead turns) w stop turns vcd one
      → IsSnapshot model b (start_world model b others told turns) v stop turns vcd other
      → one ≡ other

-- they do so where both are told the answers of their boundaries
abbrev pub PartsWriteOne : Type 0
PartsWriteOne = (model : PureTree) (a b : Flat) (firsts others : List First)
    → (ahead told : List (List Change)) (stop turns : ℕ) → IsKept model
    → AreModelsAlike model a b firsts others → AreWithinLimits b → AreFirstPlans b others
    → HaveAnswers model a firsts ahead stop turns → HaveAnswers model b others told stop turns
    → PartsWriteTheSame model a b firsts others ahead told stop turns

-- ---- from a snapshot on

-- the world that a snapshot says, with what is told of its boundaries
abbrev pub told_world : PureTree → Flat → List First → SnapshotOf → (ahead : List (List Change))
    → World SideOf
told_world model flat firsts s ahead = world_told ahead (resumed_world model flat firsts s [])

-- when the history from there ends, at a stop
abbrev pub end_told : PureTree → Flat → List First → SnapshotOf → (ahead : List (List Change))
    → (stop : ℕ) → ℕ
end_told model flat firsts s ahead stop =
    end_of model flat (rules_of model flat) (told_world model flat firsts s ahead) stop

-- the rows from a time on and below its end
abbrev pub rows_told : PureTree → Flat → List First → SnapshotOf → (ahead : List (List Change))
    → (stop : ℕ) → Line → (from : ℕ) → List ℕ
rows_told model flat firsts s ahead stop line from = text_from line
    (run_cells model flat (rules_of model flat) (told_world model flat firsts s ahead)
    (end_told model flat firsts s ahead stop)) from
    (end_told model flat firsts s ahead stop - from)

-- two runs that go on from one snapshot, each by a flat model and plans under the tables of the
-- snapshot: the rows that are left, the plans that came and the end are the same
pub record RestsWriteTheSame (model : PureTree) (a b : Flat) (firsts others : List First)
    (s : SnapshotOf) (ahead told : List (List Change)) (stop : ℕ) : Type 0 where
  pub from : rows_from_saved model a firsts s ≡ rows_from_saved model b others s
  pub time : end_told model a firsts s ahead stop ≡ end_told model b others s told stop
  pub rows : (line : Line) (from : ℕ) → rows_told model a firsts s ahead stop line from
      ≡ rows_told model b others s told stop line from
  pub news : notes_to model a (rules_of model a) (told_world model a firsts s ahead) stop
      ≡ notes_to model b (rules_of model b) (told_world model b others s told) stop
  pub end : (turns : ℕ) → ending_of stop turns
      (state_at model a (rules_of model a) (told_world model a firsts s ahead) stop)
      ≡ ending_of stop turns
      (state_at model b (rules_of model b) (told_world model b others s told) stop)

-- they do so where both are told the answers of their boundaries
abbrev pub RestsWriteOne : Type 0
RestsWriteOne = (model : PureTree) (a b : Flat) (firsts others : List First) (s : SnapshotOf)
    → (ahead told : List (List Change)) (stop : ℕ) → IsKept model → AreFlatsAlike model a b
    → AreWithinLimits b → IsValid model a firsts s → IsValid model b others s
    → AreAnswers model a (rules_of model a) (told_world model a firsts s ahead) stop
    → AreAnswers model b (rules_of model b) (told_world model b others s told) stop
    → RestsWriteTheSame model a b firsts others s ahead told stop

-- and what is told of the boundaries of the one are answers of the other
abbrev pub RestsAreTold : Type 0
RestsAreTold = (model : PureTree) (a b : Flat) (firsts : List First) (s : SnapshotOf)
    → (ahead : List (List Change)) (stop : ℕ) → AreFlatsAlike model a b
    → AreAnswers model a (rules_of model a) (told_world model a firsts s ahead) stop
    → AreAnswers model b (rules_of model b) (told_world model b firsts s ahead) stop
