-- Below a mark that no position without a sample lies before, each cell of a run is known.
use Rattle.std.proofs.Common.{◌≡◌, ◌∙◌, ◌≤◌, ℕ, List, Option, max, refl, sym, ap, subst, inl, inr, arith}
use Rattle.std.proofs.lemmas.Bool.{cases_lt}
use Rattle.tdf_bind.specs.declared.model.Flat.{Flat}
use Rattle.tdf_sim_instants.specs.Below.{BoundariesHaveOne}
use Rattle.tdf_events.specs.Side.{SideOf}
use Rattle.tdf_io.specs.Bytes.{AppendsFront}
use Rattle.tdf_lang_tree.specs.Pure.{PureTree}
use Rattle.tdf_sim_history.specs.Cells.{run_cells, world_before, world_of}
use Rattle.tdf_sim_history.specs.Rules.{rules_of}
use Rattle.tdf_sim_history.specs.Telling.{world_told}
use Rattle.tdf_sim_history.specs.World.{Change, World}
use Rattle.tdf_sim_history.specs.WorldLaws.{AreSteady}
use Rattle.tdf_sim_instants.specs.InstantLaws.{IsModelOf}
use Rattle.tdf_sim_shown.specs.Below.{IsRowsFrom, IsShown}
use Rattle.tdf_sim_runs.proofs.Below.{known_below}
use Rattle.tdf_sim_runs.proofs.Onward.{on_before}
use Rattle.tdf_sim_runs.proofs.Staying.{steady}
use Rattle.tdf_sim_runs.proofs.Told.{cells_told}
use Rattle.tdf_sim_runs.proofs.Written.{none_front, rows_less}
use Rattle.tdf_sim_runs.specs.Ending.{AreKnownBelow, WritesKnown}
use Rattle.tdf_sim_runs.specs.Ongoing.{AreToldTo}
use Rattle.tdf_sim_runs.specs.Running.{IsRunningAt}
use Rattle.tdf_sim_runs.specs.declared.running.Running.{Running}
use Rattle.tdf_trace.specs.Tracked.{AreSince}
use Rattle.tdf_trace.specs.Writings.{AboutSeen, rows_text}
use Rattle.tdf_trace_rows.specs.Laws.{Agree}
use Rattle.tdf_trace_rows.specs.Rows.{Cells}

-- ---- cells

pub agree_itself : (g : Cells) (time : ℕ) → Agree g g time
agree_itself g time = record { columns = refl; first = λ column inside. refl; cells = λ column t inside less. refl }

pub agree_known : (g h : Cells) (mark time : ℕ) → mark ≤ time → Agree g h time → AreKnownBelow g mark → AreKnownBelow h mark
agree_known g h mark time low agree known = λ column t inside less none.
    let c = agree.columns in
    known column t (omega (arith, inside, c)) less (agree.cells column t (omega (arith, inside, c)) (omega (arith, less, low)) ∙ none)

pub known_max : (g : Cells) (a b : ℕ) → AreKnownBelow g a → AreKnownBelow g b → AreKnownBelow g (max a b)
known_max g a b one other = λ column t inside less none. elim (cases_lt t a) [
  | inl low ↦ one column t inside low none
  | inr high ↦ other column t inside (omega (arith, less, high)) none
]

-- such a mark isn't past the time from which on rows are still to be written
pub mark_before : (g : Cells) (mark end rows : ℕ) → mark ≤ end → AreKnownBelow g mark → IsRowsFrom g end rows → mark ≤ rows
mark_before g mark end rows within known is = elim is.one [
  | inl same ↦ omega (arith, within, same)
  | inr at ↦ elim (cases_lt rows mark) [
    | inl less ↦ absurd (known at.0 rows at.1 less at.2)
    | inr high ↦ high
  ]
]

-- ---- of a run

module _ (law : BoundariesHaveOne) (model : PureTree) (flat : Flat) (start : World SideOf) (handed : List ℕ) (ahead : List (List Change)) (r : Running) (mark : ℕ) (m : IsModelOf model flat) (run : IsRunningAt model flat start handed r)
    (to : AreToldTo model flat start r.from ahead) where
  abbrev own : World SideOf
  own = world_told run.going.ahead start

  now : run.going.world ≡ world_before model flat (rules_of model flat) own r.from
  now = sym (ap world_of (on_before model flat start handed r run))

  -- whatever answers its history is told
  pub known_now : mark ≤ r.from → AreSince mark r.shown.tracking.list → AreKnownBelow (run_cells model flat (rules_of model flat) (world_told ahead start) r.from) mark
  known_now low since = agree_known (run_cells model flat (rules_of model flat) own r.from) (run_cells model flat (rules_of model flat) (world_told ahead start) r.from) mark r.from low
      (cells_told law model flat start r.from r.left r.engine m run.going ahead to)
      (known_below model flat own r.from mark r.shown m.is m.limits (subst (λ (w : World SideOf). IsShown model flat own r.from w r.shown) now run.shown)
      (subst (λ (w : World SideOf). AreSteady model flat w) now (steady model flat run.going.world r.engine r.left run.going.now)) since low)

-- ---- what was written

pub known_none : (about : AboutSeen) (g : Cells) (from end : ℕ) (taken : Option (List ℕ)) → WritesKnown about g from end taken taken
known_none about g from end taken = record {
  mark = 0;
  within = omega arith;
  known = λ column t inside less none. absurd (omega (arith, less));
  front = none_front about g from 0 taken;
}

-- it is a front part of the rows up to a time that is not before the mark
pub known_rows : (about : AboutSeen) (g : Cells) (from end time : ℕ) (a b : Option (List ℕ)) → (part : WritesKnown about g from end a b) → part.mark ≤ time → AppendsFront a b (rows_text about g from time)
known_rows about g from end time a b part high = rows_less about g g from part.mark time a b high (agree_itself g part.mark) part.front
