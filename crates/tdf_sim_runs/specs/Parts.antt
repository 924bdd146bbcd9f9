-- What a run of a model writes up to a stop at which it waits, and how it comes to that.
-- Source: own.
use Rattle.std.specs.Io.KnownBytes.{Appends}
use Rattle.std.specs.Prelude.{◌≡◌, ◌≢◌, ◌++◌, ℕ, IfOk, List, [], Ok, OnErr, Option, Result, ⊤}
use Rattle.tdf_bind.specs.declared.model.Flat.{Flat}
use Rattle.tdf_dynamic_first.specs.declared.first.First.{First}
use Rattle.tdf_events.specs.Side.{SideOf}
use Rattle.tdf_io.specs.Bytes.{AppendsFront}
use Rattle.tdf_io.specs.declared.writing.SinkErr.{SinkErr}
use Rattle.tdf_lang_tree.specs.Pure.{PureTree}
use Rattle.tdf_sim_history.specs.Cells.{run_cells}
use Rattle.tdf_sim_history.specs.History.{On}
use Rattle.tdf_sim_history.specs.Rules.{rules_of, start_world}
use Rattle.tdf_sim_history.specs.Texts.{notes_to}
use Rattle.tdf_sim_history.specs.World.{Change, World}
use Rattle.tdf_sim_notes.specs.Ending.{run_note, run_state}
use Rattle.tdf_sim_notes.specs.Plans.{plans_of}
use Rattle.tdf_sim_runs.specs.Paused.{IsPausedAt}
use Rattle.tdf_sim_runs.specs.declared.part.Part.{Part}
use Rattle.tdf_sim_runs.specs.declared.part.Part.TheVariants as part
use Rattle.tdf_sim_runs.specs.declared.paused.Paused.{Paused}
use Rattle.tdf_sim_shown.specs.Below.{IsRowsFrom}
use Rattle.tdf_sim_runs.specs.Runs.{RunsAs, model_about, trace_of}
use Rattle.tdf_sim_runs.specs.declared.run.Ran.{Ran}
use Rattle.tdf_trace.specs.Writings.{head_of, rows_text}
use Rattle.tdf_trace_rows.specs.Rows.{Cells}
use Rattle.tdf_trace_rows.specs.declared.kinds.TraceKind.{TraceKind}

-- ---- the texts

-- the cells of a run at its stop, where the history is told this of its boundaries
abbrev pub part_cells : PureTree → Flat → List First → (ahead : List (List Change))
    → (stop turns : ℕ) → Cells
part_cells model flat firsts ahead stop turns =
    run_cells model flat (rules_of model flat) (start_world model flat firsts ahead turns) stop

-- rows are still to be written from this time on
abbrev pub IsRowsToWrite : PureTree → Flat → List First → (ahead : List (List Change))
    → (stop turns rows : ℕ) → Type 0
IsRowsToWrite model flat firsts ahead stop turns rows =
    IsRowsFrom (part_cells model flat firsts ahead stop turns) stop rows

-- the trace up to there: its head and the rows before that time
abbrev pub part_trace : TraceKind → PureTree → Flat → List First → (ahead : List (List Change))
    → (stop turns rows : ℕ) → List ℕ
part_trace kind model flat firsts ahead stop turns rows = head_of (model_about kind flat)
    ++ rows_text (model_about kind flat) (part_cells model flat firsts ahead stop turns) 0 rows

-- the notes: the first plans, and those that the boundaries before the stop brought
abbrev pub part_notes : PureTree → Flat → List First → (ahead : List (List Change))
    → (stop turns : ℕ) → List ℕ
part_notes model flat firsts ahead stop turns = plans_of flat firsts ++ notes_to model flat
    (rules_of model flat) (start_world model flat firsts ahead turns) stop

-- ---- how a run comes to its stop

-- what holds of a run that waits, and of one that ended
abbrev pub IfPaused : Part → (Paused → Type 0) → Type 0
IfPaused (part.Paused p) Holds = Holds p
IfPaused (part.Ended ran) Holds = ⊤

abbrev pub IfEndedBefore : Part → (Ran → Type 0) → Type 0
IfEndedBefore (part.Paused p) Holds = ⊤
IfEndedBefore (part.Ended ran) Holds = Holds ran

-- it waits at its stop, where the history comes to it, and wrote the trace and the notes up to
-- there
pub record PausesAt (kind : TraceKind) (model : PureTree) (flat : Flat) (firsts : List First)
    (ahead : List (List Change)) (stop turns : ℕ)
    (out_old out_new notes_old notes_new : Option (List ℕ)) (p : Paused) : Type 0 where
  pub flat_is : p.flat ≡ flat
  pub kind_is : p.kind ≡ kind
  pub turns_is : p.turns ≡ turns
  pub time_is : p.run.from ≡ stop
  pub world : World SideOf
  pub on : run_state model flat firsts ahead stop turns ≡ On world
  pub rows : IsRowsToWrite model flat firsts ahead stop turns p.run.shown.trace.rows.upto
  pub trace : Appends out_old out_new
      (part_trace kind model flat firsts ahead stop turns p.run.shown.trace.rows.upto)
  pub notes : Appends notes_old notes_new (part_notes model flat firsts ahead stop turns)
  pub at : IsPausedAt model (start_world model flat firsts [] turns) (notes_to model flat
      (rules_of model flat) (start_world model flat firsts ahead turns) stop) p

-- it ended before, as the history does
pub record HasEndedBefore (kind : TraceKind) (model : PureTree) (flat : Flat) (firsts : List First)
    (ahead : List (List Change)) (stop turns : ℕ)
    (out_old out_new notes_old notes_new : Option (List ℕ)) (ran : Ran) : Type 0 where
  pub none_on : (w : World SideOf) → run_state model flat firsts ahead stop turns ≢ On w
  pub runs : RunsAs {E = SinkErr} kind model flat firsts ahead stop turns out_old out_new notes_old
      notes_new (Ok ran)

-- one that was refused wrote front parts of the texts up to the stop, where the history comes to it
pub record IsFrontOfPart (kind : TraceKind) (model : PureTree) (flat : Flat) (firsts : List First)
    (ahead : List (List Change)) (stop turns : ℕ)
    (out_old out_new notes_old notes_new : Option (List ℕ)) : Type 0 where
  pub trace : (rows : ℕ) → IsRowsToWrite model flat firsts ahead stop turns rows
      → AppendsFront out_old out_new (part_trace kind model flat firsts ahead stop turns rows)
  pub notes : AppendsFront notes_old notes_new (part_notes model flat firsts ahead stop turns)

-- else of those up to its end
pub record IsFrontOfRun (kind : TraceKind) (model : PureTree) (flat : Flat) (firsts : List First)
    (ahead : List (List Change)) (stop turns : ℕ)
    (out_old out_new notes_old notes_new : Option (List ℕ)) : Type 0 where
  pub trace : AppendsFront out_old out_new (trace_of kind model flat firsts ahead stop turns)
  pub notes : AppendsFront notes_old notes_new (run_note model flat firsts ahead stop turns)

-- as the history has it
pub record IsRefusedPart (kind : TraceKind) (model : PureTree) (flat : Flat) (firsts : List First)
    (ahead : List (List Change)) (stop turns : ℕ)
    (out_old out_new notes_old notes_new : Option (List ℕ)) : Type 0 where
  pub waits : (w : World SideOf) → run_state model flat firsts ahead stop turns ≡ On w
      → IsFrontOfPart kind model flat firsts ahead stop turns out_old out_new notes_old notes_new
  pub ends : ((w : World SideOf) → run_state model flat firsts ahead stop turns ≢ On w)
      → IsFrontOfRun kind model flat firsts ahead stop turns out_old out_new notes_old notes_new

-- a run waits at its stop where the history that is told this comes to it, or ended before as the
-- history does
pub record PartsAs {E : Type 0} (kind : TraceKind) (model : PureTree) (flat : Flat)
    (firsts : List First) (ahead : List (List Change)) (stop turns : ℕ)
    (out_old out_new notes_old notes_new : Option (List ℕ)) (result : Result Part E)
    : Type 0 where
  pub paused : IfOk result (λ it. IfPaused it (PausesAt kind model flat firsts ahead stop turns
      out_old out_new notes_old notes_new))
  pub ended : IfOk result (λ it. IfEndedBefore it (HasEndedBefore kind model flat firsts ahead stop
      turns out_old out_new notes_old notes_new))
  pub refused : OnErr result (IsRefusedPart kind model flat firsts ahead stop turns out_old out_new
      notes_old notes_new)
