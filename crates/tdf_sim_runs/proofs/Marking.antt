-- Rows of a run are written up to a mark: no position without a sample and no end of a period lies before it.
use Rattle.std.proofs.Common.{◌≡◌, ◌∙◌, ℕ, ◌≤◌, ◌++◌, List, [], Option, max, sym, subst, inl, inr, arith}
use Rattle.std.proofs.lemmas.Bool.{cases_lt}
use Rattle.std.specs.Io.KnownBytes.{Appends}
use Rattle.tdf_trace.specs.Calls.{StandBelow}
use Rattle.tdf_sim_instants.specs.InstantLaws.{IsModelOf}
use Rattle.tdf_events.specs.Side.{SideOf}
use Rattle.tdf_bind.specs.declared.model.Flat.{Flat}
use Rattle.tdf_sim_history.specs.Cells.{run_cells}
use Rattle.tdf_sim_instants.specs.Below.{BoundariesHaveOne}
use Rattle.tdf_sim_history.specs.Telling.{world_told}
use Rattle.tdf_sim_history.specs.World.{Change, World}
use Rattle.tdf_io.specs.Bytes.{AppendsFront}
use Rattle.tdf_sim_runs.proofs.Handing.{hands_none}
use Rattle.tdf_sim_runs.proofs.RunStands.{run_stands}
use Rattle.tdf_sim_runs.proofs.Finishing.{rows_same}
use Rattle.tdf_sim_runs.proofs.Told.{cells_told}
use Rattle.tdf_sim_runs.proofs.Written.{rows_alike, rows_past}
use Rattle.tdf_sim_runs.specs.Ending.{ShownStandsBelow}
use Rattle.tdf_sim_runs.specs.Ongoing.{AreToldTo}
use Rattle.tdf_sim_runs.specs.Running.{AreWithin, CanGoOn, RunGoesOn, IsRunningAt, WritesFrontTo}
use Rattle.tdf_sim_runs.specs.declared.running.Running.{Running}
use Rattle.tdf_trace_rows.specs.Laws.{Agree}
use Rattle.tdf_trace_rows.specs.Rows.{Cells}
use Rattle.tdf_trace_rows.proofs.Api.{agree_trans}
use Rattle.tdf_sim_shown.proofs.Api.{written_is_shown}
use Rattle.tdf_trace.specs.Stands.{TraceSeen, WritesFront, WritesRows}
use Rattle.tdf_trace.specs.Tracked.{AreSince}
use Rattle.tdf_trace.specs.Writings.{AboutSeen, rows_text}
use Rattle.tdf_lang_tree.specs.Pure.{PureTree}
use Rattle.tdf_sim_history.specs.Rules.{rules_of}

-- rows by cells that agree below a mark, up to a time that is not past both
rows_by : (about : AboutSeen) (g h : Cells) (u v mark : ℕ) (a b : Option (List ℕ)) → Agree g h mark → u ≤ v → v ≤ max u mark → Appends a b (rows_text about g u v) → Appends a b (rows_text about h u v)
rows_by about g h u v mark a b agree low within took = elim (cases_lt mark v) [
  | inr high ↦ subst (λ (t : List ℕ). Appends a b t) (rows_alike about g h u v mark agree (omega (arith, low, high)) high) took
  | inl past ↦ subst (λ (t : List ℕ). Appends a b t) (rows_past about g u v (omega (arith, low, within, past)) ∙ sym (rows_past about h u v (omega (arith, low, within, past)))) took
]

module _ (law : BoundariesHaveOne) (stands : ShownStandsBelow) (flat : Flat) (r : Running) (can : CanGoOn flat r) (mark : ℕ) (low : mark ≤ r.from) (since : AreSince mark r.shown.tracking.list) (inside : AreWithin mark r.engine) where
  pub stand : (model : PureTree) (start : World SideOf) (handed : List ℕ) → IsModelOf model flat → (run : IsRunningAt model flat start handed r)
      → StandBelow (run_cells model flat (rules_of model flat) (world_told run.going.ahead start) r.from) mark r.shown.trace.rows
  stand model start handed m run = run_stands stands model flat start r.from mark r.left r.engine r.shown (handed ++ r.news.items) m run since low

  -- they agree with the cells of the history that is told other answers
  pub agrees : (model : PureTree) (start : World SideOf) (handed : List ℕ) (ahead : List (List Change)) → (m : IsModelOf model flat) → (run : IsRunningAt model flat start handed r) → AreToldTo model flat start r.from ahead
      → (noted : Cells) → Agree noted (run_cells model flat (rules_of model flat) (world_told run.going.ahead start) r.from) mark → Agree noted (run_cells model flat (rules_of model flat) (world_told ahead start) r.from) mark
  agrees model start handed ahead m run to noted agree = agree_trans noted (run_cells model flat (rules_of model flat) (world_told run.going.ahead start) r.from)
      (run_cells model flat (rules_of model flat) (world_told ahead start) r.from) mark r.from low agree
      (cells_told law model flat start r.from r.left r.engine m run.going ahead to)

  pub marks_part : (before after : Option (List ℕ)) → WritesFront r.shown.trace mark before after → WritesFrontTo flat r before after
  marks_part before after part = record {
    mark = mark;
    early = low;
    since = since;
    within = inside;
    front = λ model start handed ahead m run to. (
        let s = stand model start handed m run in
        subst (λ (t : List ℕ). AppendsFront before after t)
        (rows_same r.shown.trace.about s.noted (run_cells model flat (rules_of model flat) (world_told ahead start) r.from) r.shown.trace.rows.upto mark (agrees model start handed ahead m run to s.noted s.agree))
        (part s.noted s.stand));
  }

  module _ (trace : TraceSeen) (before after : Option (List ℕ)) (wrote : WritesRows r.shown.trace trace before after) (about : trace.about ≡ r.shown.trace.about) (within : trace.rows.upto ≤ max r.shown.trace.rows.upto mark) where
    abbrev pub marked : Running
    marked = record r { shown = record r.shown { trace = trace } }

    upto_later : r.shown.trace.rows.upto ≤ trace.rows.upto
    upto_later = let some = can.some in let s = stand some.model some.start some.handed some.of some.is in (wrote s.noted s.stand).later

    marks_run : (model : PureTree) (start : World SideOf) (handed : List ℕ) → IsModelOf model flat → IsRunningAt model flat start handed r → IsRunningAt model flat start handed marked
    marks_run model start handed m run = record {
      going = run.going;
      shown = written_is_shown model flat (world_told run.going.ahead start) run.going.world r.from r.shown trace run.shown (λ cells old. (wrote cells old).stands) about;
      fits = run.fits;
      news_are = run.news_are;
    }

    pub marks_can : CanGoOn flat marked
    marks_can = record {
      engine = can.engine;
      ready = can.ready;
      none = can.none;
      early = (let e = can.early in omega (arith, e, low, within));
      since = λ place t t_at more. (let a = can.since place t t_at more in let b = since place t t_at more in omega (arith, a, b, within));
      within = λ n s c s_at c_at. (let e = can.within n s c s_at c_at in let l = inside n s c s_at c_at in omega (arith, e, l, within));
      printable = can.printable;
      some = record { model = can.some.model; of = can.some.of; start = can.some.start; handed = can.some.handed; is = marks_run can.some.model can.some.start can.some.handed can.some.of can.some.is };
    }

    pub marks_goes : RunGoesOn flat r marked [] before after
    marks_goes = record {
      later = omega arith;
      about = about;
      wrote = upto_later;
      runs = λ model start handed m run. hands_none model flat start marked handed (marks_run model start handed m run);
      rows = λ model start handed ahead m run to. (
          let s = stand model start handed m run in
          rows_by r.shown.trace.about s.noted (run_cells model flat (rules_of model flat) (world_told ahead start) r.from) r.shown.trace.rows.upto trace.rows.upto mark before after
          (agrees model start handed ahead m run to s.noted s.agree) upto_later within
          (wrote s.noted s.stand).took);
    }
