-- A run that comes to a stop and waits there.
use Rattle.std.proofs.Common.{◌≡◌, ◌∙◌, ◌++◌, ◌≤◌, ◌<◌, ◌+◌, ◌-◌, ℕ, List, [], Option, Some, None, length, slice_get, max, append-nil, refl, sym, ap, subst, inl, inr, arith}
use Rattle.std.proofs.lemmas.Bool.{cases_lt}
use Rattle.std.proofs.lemmas.Option.{slice_get_within}
use Rattle.std.specs.Io.KnownBytes.{Appends}
use Rattle.tdf_bind.specs.declared.model.Flat.{Flat}
use Rattle.tdf_events.specs.Side.{SideOf}
use Rattle.tdf_sim_instants.specs.Below.{BoundariesHaveOne, ClusterOf, next_offset, offset_in}
use Rattle.tdf_io.proofs.Api.{front_whole}
use Rattle.tdf_lang_tree.specs.Pure.{PureTree}
use Rattle.tdf_schedule.specs.declared.entry.Entry.{Entry}
use Rattle.tdf_sim_history.specs.Cells.{run_cells, world_before, world_of}
use Rattle.tdf_sim_history.specs.History.{history}
use Rattle.tdf_sim_history.specs.Rules.{rules_of, world_engine}
use Rattle.tdf_sim_history.specs.Telling.{world_told}
use Rattle.tdf_sim_history.specs.World.{Change, World}
use Rattle.tdf_sim_instants.specs.Ahead.{LieInside}
use Rattle.tdf_sim_instants.specs.Times.{due_offset}
use Rattle.tdf_sim_instants.specs.InstantLaws.{IsModelOf}
use Rattle.tdf_sim_shown.specs.Below.{IsRowsFrom, IsShown}
use Rattle.tdf_sim_instants.proofs.Api.{all_at}
use Rattle.tdf_sim_runs.proofs.Handed.{hands_can, hands_goes}
use Rattle.tdf_sim_runs.proofs.Marking.{marked, marks_can, marks_goes, marks_part, stand}
use Rattle.tdf_sim_runs.proofs.Onward.{goes_then}
use Rattle.tdf_sim_runs.proofs.Told.{cells_told}
use Rattle.tdf_sim_runs.specs.Ending.{ShownStandsBelow}
use Rattle.tdf_sim_runs.specs.Handing.{HandsOn}
use Rattle.tdf_sim_runs.specs.Ongoing.{AreToldTo}
use Rattle.tdf_sim_runs.specs.Pausing.{HasWaited}
use Rattle.tdf_sim_runs.specs.Running.{AreWithin, CanGoOn, IsRunningAt, RunGoesOn, WritesFrontTo}
use Rattle.tdf_sim_runs.specs.declared.running.Running.{Running}
use Rattle.tdf_sim_shown.specs.Saved.{GivesRowsFrom}
use Rattle.tdf_trace.specs.Missing.{IsFirstMissing}
use Rattle.tdf_trace.specs.Stands.{AreWrittenTo, TraceSeen, WritesFront, WritesRows}
use Rattle.tdf_trace.specs.Tracked.{AreSince, TrackedOf}
use Rattle.tdf_trace_rows.specs.Laws.{Agree}
use Rattle.tdf_trace_rows.specs.Rows.{Cells}
use Rattle.tdf_trace.specs.declared.stage.Stage.TheVariants.{Open}

-- cells that agree below a time have rows to be written from the same time on
pub rows_agree : (g h : Cells) (time rows : ℕ) → Agree g h time → IsRowsFrom g time rows → IsRowsFrom h time rows
rows_agree g h time rows agree is = record {
  within = is.within;
  known = λ column t inside low none. (
      let c = agree.columns in
      let w = is.within in
      is.known column t (omega (arith, inside, c)) low (agree.cells column t (omega (arith, inside, c)) (omega (arith, low, w)) ∙ none));
  one = elim is.one [
    | inl same ↦ inl same
    | inr at ↦ elim (cases_lt rows time) [
      | inl less ↦ inr (at.0, subst (λ n. at.0 < n) agree.columns at.1, sym (agree.cells at.0 rows at.1 less) ∙ at.2)
      | inr over ↦ inl (let w = is.within in omega (arith, w, over))
    ]
  ];
}

-- what is next due in a period comes by its end
pub due_within : (c : ClusterOf) → LieInside c → due_offset c (next_offset c) ≤ c.period
due_within c inside = go (slice_get c.entries c.place) refl
  where
    go : (o : Option Entry) → slice_get c.entries c.place ≡ o → due_offset c (offset_in o) ≤ c.period
    go None is = omega arith
    go (Some x) is = let l = all_at (λ (y : Entry). y.offset < c.period) c.entries c.place x inside is in omega (arith, l)

module _ (law : BoundariesHaveOne) (stands : ShownStandsBelow) (flat : Flat) (r : Running) (can : CanGoOn flat r) (rows : ℕ) (first : IsFirstMissing r.shown.tracking.list (length r.shown.tracking.list) r.from rows)
    (gives : GivesRowsFrom r.shown r.from rows) where
  pub low : rows ≤ r.from
  low = first.within

  pub since : AreSince rows r.shown.tracking.list
  since place t there left = first.none place t (slice_get_within r.shown.tracking.list place t there) there left

  pub inside : AreWithin rows r.engine
  inside n s c s_at c_at =
      let ready = can.ready.clusters n s c c_at s_at in
      let late = due_within c (can.engine.clusters n c c_at).inside in omega (arith, low, ready, late)

  not_early : r.shown.trace.rows.upto ≤ rows
  not_early = elim first.one [
    | inl same ↦ (let e = can.early in omega (arith, e, same))
    | inr at ↦ (let e = can.since at.place at.it at.there at.left in let t = at.at in omega (arith, e, t))
  ]

  -- so says each history
  rows_own : (model : PureTree) (start : World SideOf) (handed : List ℕ) → IsModelOf model flat → (run : IsRunningAt model flat start handed r)
      → IsRowsFrom (run_cells model flat (rules_of model flat) (world_told run.going.ahead start) r.from) r.from rows
  rows_own model start handed m run =
      let own = world_told run.going.ahead start in
      let z : r.from ≡ r.from - 0 = omega arith in
      let now : run.going.world ≡ world_before model flat (rules_of model flat) own r.from = sym (ap world_of (ap (history (world_engine model flat) 0 own) z ∙ run.going.on.on)) in
      gives model flat own m.is m.limits (subst (λ (w : World SideOf). IsShown model flat own r.from w r.shown) now run.shown)

  pub waits_part : (before after : Option (List ℕ)) → WritesFront r.shown.trace rows before after → WritesFrontTo flat r before after
  waits_part before after part = marks_part law stands flat r can rows low since inside before after part

  module _ (trace : TraceSeen) (before after : Option (List ℕ)) (wrote : WritesRows r.shown.trace trace before after) (about : trace.about ≡ r.shown.trace.about)
      (within : trace.rows.upto ≤ max r.shown.trace.rows.upto rows) (written : AreWrittenTo trace.rows rows) where
    abbrev pub mid : Running
    mid = marked law stands flat r can rows low since inside trace before after wrote about within

    pub mid_can : CanGoOn flat mid
    mid_can = marks_can law stands flat r can rows low since inside trace before after wrote about within

    mid_goes : RunGoesOn flat r mid [] before after
    mid_goes = marks_goes law stands flat r can rows low since inside trace before after wrote about within

    -- all rows below the time are written, since each cell there is known
    upto_is : trace.rows.upto ≡ rows
    upto_is =
        let some = can.some in
        let s = stand law stands flat r can rows low since inside some.model some.start some.handed some.of some.is in
        elim (written s.noted (wrote s.noted s.stand).stands) [
          | inl high ↦ (let e = not_early in omega (arith, high, within, e))
          | inr waits ↦ absurd (
              let columns = s.agree.columns in
              let column = waits.column in
              let col = waits.inside in
              (rows_own some.model some.start some.handed some.of some.is).known column waits.time (omega (arith, columns, col)) waits.below (sym (s.agree.cells column waits.time col waits.below) ∙ waits.waits))
        ]

    pub rows_are : (model : PureTree) (start : World SideOf) (handed : List ℕ) → IsModelOf model flat → (run : IsRunningAt model flat start handed r)
        → IsRowsFrom (run_cells model flat (rules_of model flat) (world_told run.going.ahead start) r.from) r.from trace.rows.upto
    rows_are model start handed m run = subst (λ n. IsRowsFrom (run_cells model flat (rules_of model flat) (world_told run.going.ahead start) r.from) r.from n) (sym upto_is) (rows_own model start handed m run)

    -- where the sink of the notes refused, the rows were written all the same
    pub rows_front : WritesFrontTo flat r before after
    rows_front = record {
      mark = trace.rows.upto;
      early = mid_can.early;
      since = mid_can.since;
      within = mid_can.within;
      front = λ model start handed ahead m run to. front_whole before after _ (mid_goes.rows model start handed ahead m run to);
    }

    module _ (last : Running) (c d : Option (List ℕ)) (took : Appends c d r.news.items) (none : last.news.items ≡ []) (rest : last ≡ record mid { news = last.news }) (stage : trace.stage ≡ Open) where
      abbrev hands : HandsOn mid last c d
      hands = record { news = r.news.items; took = took; whole = ap (λ l. r.news.items ++ l) none ∙ append-nil r.news.items; rest = rest }

      pub has_waited : HasWaited flat r last before after c d
      has_waited = record {
        can = hands_can flat mid last c d hands mid_can;
        at = ap (λ (x : Running). x.from) rest;
        stage = ap (λ (x : Running). x.shown.trace.stage) rest ∙ stage;
        goes = goes_then law flat r mid last [] r.news.items before after after mid_can mid_goes (hands_goes flat mid last c d hands after);
        took = took;
        none = none;
        rows = λ model start handed m run. subst (λ n. IsRowsFrom (run_cells model flat (rules_of model flat) (world_told run.going.ahead start) r.from) r.from n) (ap (λ (x : Running). x.shown.trace.rows.upto) (sym rest)) (rows_are model start handed m run);
      }
