-- From one state of a run to the next.
use Rattle.std.proofs.Common.{◌≡◌, ◌∙◌, ℕ, ◌-◌, ◌≤◌, ◌++◌, List, [], Option, Some, slice_get, refl, ap, subst, arith}
use Rattle.std.proofs.lemmas.Option.{slice_get_within}
use Rattle.std.specs.Io.KnownBytes.{Appends}
use Rattle.tdf_trace.specs.Tracked.{AreSince}
use Rattle.tdf_sim_instants.specs.Engine.{IsEngineOf}
use Rattle.tdf_sim_instants.specs.InstantLaws.{IsModelOf, IsNow}
use Rattle.tdf_sim_instants.specs.Times.{IsNextDue}
use Rattle.tdf_sim_instants.specs.declared.engine.Engine.{Engine}
use Rattle.tdf_events.specs.Kernel.{side_of}
use Rattle.tdf_events.specs.Side.{SideOf}
use Rattle.tdf_bind.specs.declared.model.Flat.{Flat}
use Rattle.tdf_streams.proofs.Api.{get_inside}
use Rattle.tdf_sim_history.specs.Cells.{run_cells}
use Rattle.tdf_sim_instants.specs.Below.{BoundariesHaveOne}
use Rattle.tdf_sim_history.specs.Telling.{world_told}
use Rattle.tdf_sim_history.specs.World.{Change, ClusterAt, World}
use Rattle.tdf_sim_history.specs.History.{On, history}
use Rattle.tdf_sim_history.specs.TurnLaws.{IsNextTime}
use Rattle.tdf_sim_runs.proofs.Dues.{next_is}
use Rattle.tdf_sim_runs.proofs.Handing.{hands_none, hands_then}
use Rattle.tdf_sim_runs.proofs.Leading.{ready_then}
use Rattle.tdf_sim_runs.proofs.Told.{cells_stay_below, on_other}
use Rattle.tdf_sim_runs.proofs.Waiting.{runs_to_next}
use Rattle.tdf_sim_runs.proofs.Written.{none_taken, rows_then}
use Rattle.tdf_sim_runs.specs.Ongoing.{AreToldTo}
use Rattle.tdf_sim_runs.specs.Running.{CanGoOn, RunGoesOn, IsRunningAt, AreWithin}
use Rattle.tdf_sim_runs.specs.declared.running.Running.{Running}
use Rattle.tdf_trace_rows.specs.Laws.{Agree}
use Rattle.tdf_sim_shown.proofs.Api.{rows_may_be_written}
use Rattle.tdf_trace.specs.Writings.{AboutSeen, rows_text}
use Rattle.tdf_lang_tree.specs.Pure.{PureTree}
use Rattle.tdf_sim_history.specs.Rules.{rules_of, world_engine}
use Rattle.tdf_sim_runs.proofs.Below.{settled_below}
use Rattle.tdf_sim_runs.proofs.Staying.{ends_late, steady}

-- no period of the history began before a mark below all starts
pub periods_late : (model : PureTree) (flat : Flat) (w : World SideOf) (e : Engine) (left mark : ℕ) → IsEngineOf flat e → IsNow model flat w e left
    → ((n s : ℕ) → slice_get e.since.items n ≡ Some s → mark ≤ s) → (n : ℕ) (h : ClusterAt) → slice_get w.clusters n ≡ Some h → mark ≤ h.since
periods_late model flat w e left mark of now late n h h_at =
    let i = slice_get_within w.clusters n h h_at in
    let s = now.at.same in
    let l = of.since in
    let t = get_inside e.since.items n (omega (arith, i, s, l)) in
    let b = now.at.begun n t.0 h h_at t.1 in
    let low = late n t.0 t.1 in omega (arith, b, low)

-- so its rows up to the mark may be written
pub since_mark : (flat : Flat) (r : Running) (can : CanGoOn flat r) (mark : ℕ) → ((n s : ℕ) → slice_get r.engine.since.items n ≡ Some s → mark ≤ s) → AreSince mark r.shown.tracking.list
since_mark flat r can mark late =
    let some = can.some in
    rows_may_be_written some.model flat (world_told some.is.going.ahead some.start) some.is.going.world r.from mark r.shown some.is.shown
    (periods_late some.model flat some.is.going.world r.engine r.left mark can.engine some.is.going.now late)

-- and no period ends before it
pub within_mark : (flat : Flat) (r : Running) (mark : ℕ) → ((n s : ℕ) → slice_get r.engine.since.items n ≡ Some s → mark ≤ s) → AreWithin mark r.engine
within_mark flat r mark late n s c s_at c_at = let l = late n s s_at in omega (arith, l)

-- the history is on before the time of a run
pub on_before : (model : PureTree) (flat : Flat) (start : World SideOf) (handed : List ℕ) (r : Running) → (run : IsRunningAt model flat start handed r)
    → history (world_engine model flat) 0 (world_told run.going.ahead start) r.from ≡ On run.going.world
on_before model flat start handed r run = let z : r.from ≡ r.from - 0 = omega arith in ap (history (world_engine model flat) 0 (world_told run.going.ahead start)) z ∙ run.going.on.on

-- what is told up to a time is told up to an earlier one
pub told_before : (model : PureTree) (flat : Flat) (start : World SideOf) (now later : ℕ) (ahead : List (List Change)) → now ≤ later → AreToldTo model flat start later ahead → AreToldTo model flat start now ahead
told_before model flat start now later ahead low to = record {
  answers = λ t n w below on due. to.answers t n w (omega (arith, below, low)) on due;
  counts = to.counts;
}

-- cells below a mark stay
pub cells_stay : BoundariesHaveOne → (model : PureTree) (flat : Flat) (start last : World SideOf) (handed : List ℕ) (ahead : List (List Change)) (r : Running) (end mark : ℕ) → IsModelOf model flat → CanGoOn flat r → IsRunningAt model flat start handed r
    → AreToldTo model flat start r.from ahead → r.from ≤ end
    → history (world_engine model flat) 0 (world_told ahead start) end ≡ On last → mark ≤ r.from → AreSince mark r.shown.tracking.list → AreWithin mark r.engine
    → Agree (run_cells model flat (rules_of model flat) (world_told ahead start) r.from) (run_cells model flat (rules_of model flat) (world_told ahead start) end) mark
cells_stay law model flat start last handed ahead r end mark m can run to later on low since within =
    cells_stay_below law model flat start last ahead r.from end mark r.left r.engine m can.engine run.going to later on low
    (settled_below model flat (world_told run.going.ahead start) run.going.world r.from mark r.shown m.limits run.shown (steady model flat run.going.world r.engine r.left run.going.now) since
    (ends_late model flat run.going.world r.engine r.left run.going.now run.going.timed can.engine.since mark within))

-- a run goes on without a row more
pub goes_quietly : (flat : Flat) (old new : Running) (taken : Option (List ℕ)) → old.from ≤ new.from → new.shown.trace.about ≡ old.shown.trace.about
    → new.shown.trace.rows.upto ≡ old.shown.trace.rows.upto
    → ((model : PureTree) (start : World SideOf) (handed : List ℕ) → IsModelOf model flat → IsRunningAt model flat start handed old → IsRunningAt model flat start handed new) → RunGoesOn flat old new [] taken taken
goes_quietly flat old new taken later about upto runs = record {
  later = later;
  about = about;
  wrote = omega (arith, upto);
  runs = λ model start handed m run. hands_none model flat start new handed (runs model start handed m run);
  rows = λ model start handed ahead m run to. none_taken old.shown.trace.about (run_cells model flat (rules_of model flat) (world_told ahead start) new.from) old.shown.trace.rows.upto new.shown.trace.rows.upto taken (omega (arith, upto));
}

-- and on again
pub goes_then : BoundariesHaveOne → (flat : Flat) (x y z : Running) (g h : List ℕ) (a b c : Option (List ℕ)) → CanGoOn flat y → RunGoesOn flat x y g a b → RunGoesOn flat y z h b c → RunGoesOn flat x z (g ++ h) a c
goes_then law flat x y z g h a b c can one other = record {
  later = (let l = one.later in let k = other.later in omega (arith, l, k));
  about = other.about ∙ one.about;
  wrote = (let l = one.wrote in let k = other.wrote in omega (arith, l, k));
  runs = λ model start handed m run. hands_then model flat start z handed g h (other.runs model start (handed ++ g) m (one.runs model start handed m run));
  rows = λ model start handed ahead m run to. (
      let mid = one.runs model start handed m run in
      let last = other.runs model start (handed ++ g) m mid in
      let own = world_told ahead start in
      let early = told_before model flat start y.from z.from ahead other.later to in
      let on = on_other law model flat start z.from z.left z.engine m last.going ahead to in
      rows_then x.shown.trace.about (run_cells model flat (rules_of model flat) own y.from) (run_cells model flat (rules_of model flat) own z.from)
      x.shown.trace.rows.upto y.shown.trace.rows.upto z.shown.trace.rows.upto a b c one.wrote other.wrote
      (cells_stay law model flat start on.0 (handed ++ g) ahead y z.from y.shown.trace.rows.upto m can mid early other.later on.1 can.early can.since can.within)
      (one.rows model start handed ahead m run early)
      (subst (λ (o : AboutSeen). Appends b c (rows_text o (run_cells model flat (rules_of model flat) own z.from) y.shown.trace.rows.upto z.shown.trace.rows.upto)) one.about
      (other.rows model start (handed ++ g) ahead m mid to)));
}

-- up to the next time at which something is due
module _ (flat : Flat) (r : Running) (stop time : ℕ) (can : CanGoOn flat r) (within : r.from ≤ stop) (next : IsNextDue r.engine.clusters.items r.engine.since.items (side_of r.engine.kernel) stop time) where
  abbrev pub waiting : Running
  waiting = record r { from = time }

  some_next : IsNextTime (world_engine can.some.model flat) can.some.is.going.world r.from stop time
  some_next = next_is can.some.model flat can.some.is.going.world r.engine r.left can.engine can.some.is.going.now r.from stop time can.ready next within

  pub waits_later : r.from ≤ time
  waits_later = some_next.not_before

  unfoldable pub waits_runs : (model : PureTree) (start : World SideOf) (handed : List ℕ) → IsModelOf model flat → IsRunningAt model flat start handed r → IsRunningAt model flat start handed waiting
  waits_runs model start handed m run = runs_to_next model flat start r.from stop time r.left r.engine r.shown (handed ++ r.news.items) can.engine can.ready run within next

  pub waits : CanGoOn flat waiting
  waits = record {
    engine = can.engine;
    ready = ready_then r.from stop time r.engine can.ready waits_later next;
    none = can.none;
    early = (let e = can.early in let l = waits_later in omega (arith, e, l));
    since = can.since;
    within = can.within;
    printable = can.printable;
    some = record {
      model = can.some.model;
      of = can.some.of;
      start = can.some.start;
      handed = can.some.handed;
      is = waits_runs can.some.model can.some.start can.some.handed can.some.of can.some.is;
    };
  }

  pub waits_goes : (taken : Option (List ℕ)) → RunGoesOn flat r waiting [] taken taken
  waits_goes taken = goes_quietly flat r waiting taken waits_later refl refl waits_runs
