-- The columns of event signals show the values of a time, one after the other.
use Rattle.std.proofs.Common.{◌≡◌, ℕ, zero, suc, ◌+◌, ◌<◌, Bool, true, false, ◌&&◌, nat_eq, nat_lt, if◌then◌else◌, Option, Some, None, List, [], ◌∷◌, length, slice_get, slice_set, refl, ap, sym, ◌∙◌, subst, inl, inr, arith}
use Rattle.std.proofs.lemmas.Bool.{cases_eq, cases_lt, eq-eqb, le-ltb, lt-ltb, ne_eqb}
use Rattle.std.proofs.lemmas.Option.{slice_get_within}
use Rattle.tdf_trace.proofs.Api.{holds_event, stands_alike}
use Rattle.tdf_trace.specs.Calls.{Holds}
use Rattle.tdf_trace.specs.Tracked.{TrackedOf}
use Rattle.tdf_trace.specs.Tracks.{known_by}
use Rattle.tdf_trace.specs.Traces.{sample_or, with_signal_samples}
use Rattle.tdf_events.specs.Side.{SideOf}
use Rattle.tdf_fixed.specs.declared.raw.Raw.{Raw}
use Rattle.tdf_bind.specs.declared.model.Flat.{Flat}
use Rattle.tdf_streams.proofs.Api.{get_inside, none_some, some_same}
use Rattle.tdf_sim_history.specs.Cells.{cell_or, changed_cell, event_cell, event_column_cell, is_same_value}
use Rattle.tdf_sim_history.specs.Columns.{start_of}
use Rattle.tdf_sim_history.specs.World.{World}
use Rattle.tdf_trace_rows.specs.Laws.{Agree}
use Rattle.tdf_trace_rows.specs.Noted.{is_cell_of}
use Rattle.tdf_trace_rows.specs.Positions.{Span}
use Rattle.tdf_trace_rows.specs.Rows.{Cells}
use Rattle.tdf_sim_traces.proofs.Items.{true_false}
use Rattle.tdf_sim_traces.specs.Events.{AreEventColumns, EventsStartBefore, IsColumnOf, IsEventColumn, event_before, events_before, value_of, values_before}
use Rattle.tdf_sim_traces.specs.declared.events.EventColumn.{EventColumn}
use Rattle.tdf_sim_traces.specs.machine.Noting.{HaveShown, IsShowing, TakesChange, cell_for, with_change, with_changes, with_shown}
use Rattle.tdf_trace.specs.Stands.{RowsSeen, TakesCell, TraceSeen}
use Rattle.tdf_lang_tree.specs.Pure.{PureTree}
use Rattle.tdf_bind_connections.specs.declared.traces.TraceRow.{TraceRow}
use Rattle.tdf_sim_history.specs.Rules.{rules_of}

-- cells that are alike
pub holds_cells : (traces : List TraceRow) (g h : Cells) (spans : ℕ → List Span) (samples : ℕ → List Raw) (list : List TrackedOf) (rows : RowsSeen) → ((below : ℕ) → Agree g h below)
    → Holds traces g spans samples list rows → Holds traces h spans samples list rows
holds_cells traces g h spans samples list rows alike holds = record {
  of = holds.of;
  tracked = holds.tracked;
  stands = stands_alike (with_signal_samples traces g (known_by spans samples)) (with_signal_samples traces h (known_by spans samples)) rows (λ below. record {
    columns = (alike below).columns;
    first = (alike below).first;
    cells = λ c t inside low. ap (sample_or (slice_get traces c) (λ s. known_by spans samples s t)) ((alike below).cells c t inside low);
  }) holds.stands;
}

-- a value that is the same has no cell, another one has
pub same_taken : (values : List Raw) (time : ℕ) (e : EventColumn) (rows : RowsSeen) → is_same_value e.shown (value_of values e.signal) ≡ true → TakesChange values time e rows rows
same_taken values time e rows same traces cells spans samples list row at event h =
    subst (λ g. Holds traces g spans samples list rows) (sym (ap (λ (b : Bool). if b then cells else with_cell_of) same)) h
  where
    with_cell_of : Cells
    with_cell_of = record {
      columns = cells.columns;
      first = cells.first;
      at = λ c t. if is_cell_of (cell_for values time e) c t then Some (Some (value_of values e.signal)) else cells.at c t;
    }

pub other_taken : (values : List Raw) (time : ℕ) (e : EventColumn) (before after : RowsSeen) → is_same_value e.shown (value_of values e.signal) ≡ false → TakesCell (cell_for values time e) before after → TakesChange values time e before after
other_taken values time e before after apart took traces cells spans samples list row at event h =
    subst (λ g. Holds traces g spans samples list after) (sym (ap (λ (b : Bool). if b then cells else with_cell_of) apart))
    (holds_event traces cells spans samples list (cell_for values time e) row before after at event took h)
  where
    with_cell_of : Cells
    with_cell_of = record {
      columns = cells.columns;
      first = cells.first;
      at = λ c t. if is_cell_of (cell_for values time e) c t then Some (Some (value_of values e.signal)) else cells.at c t;
    }

-- all columns
pub have_none : (values : List Raw) (events : List EventColumn) → HaveShown values 0 events events
have_none values events = record {
  long = refl;
  done = λ j e below at. absurd (omega (arith, below));
  rest = λ j low. refl;
}

pub none_shown : (values : List Raw) (time : ℕ) (events : List EventColumn) (trace : TraceSeen) → IsShowing values time 0 events events trace trace
unfolding with_changes
none_shown values time events trace = record {
  shown = have_none values events;
  took = λ traces cells spans samples list of h. h;
  upto = refl;
  stage = refl;
  about = refl;
}

set_same : {A : Type 0} (xs : List A) (k : ℕ) (x : A) → k < length xs → slice_get (slice_set xs k x) k ≡ Some x
set_same [] k x low = absurd (omega (arith, low))
set_same (y ∷ ys) zero x low = refl
set_same (y ∷ ys) (suc k) x low = set_same ys k x (omega (arith, low))

set_apart : {A : Type 0} (xs : List A) (k j : ℕ) (x : A) → (j ≡ k → ⊥) → slice_get (slice_set xs k x) j ≡ slice_get xs j
set_apart [] k j x apart = refl
set_apart (y ∷ ys) zero zero x apart = absurd (apart refl)
set_apart (y ∷ ys) zero (suc j) x apart = refl
set_apart (y ∷ ys) (suc k) zero x apart = refl
set_apart (y ∷ ys) (suc k) (suc j) x apart = set_apart ys k j x (λ e. apart (ap suc e))

set_long : {A : Type 0} (xs : List A) (k : ℕ) (x : A) → length (slice_set xs k x) ≡ length xs
set_long [] k x = refl
set_long (y ∷ ys) zero x = refl
set_long (y ∷ ys) (suc k) x = ap suc (set_long ys k x)

pub have_more : (values : List Raw) (k : ℕ) (old mid : List EventColumn) (e : EventColumn) → slice_get mid k ≡ Some e → k < length mid → HaveShown values k old mid
    → HaveShown values (k + 1) old (slice_set mid k (with_shown values e))
have_more values k old mid e at low s = record {
  long = set_long mid k (with_shown values e) ∙ s.long;
  done = λ j f below there. elim (cases_eq j k) [
    | inl same ↦ ap (slice_get (slice_set mid k (with_shown values e))) same ∙ set_same mid k (with_shown values e) low
        ∙ ap (λ (x : EventColumn). Some (with_shown values x)) (some_same e f (sym was ∙ ap (slice_get old) (sym same) ∙ there))
    | inr apart ↦ set_apart mid k j (with_shown values e) apart ∙ s.done j f (omega (arith, below, apart)) there
  ];
  rest = λ j high. set_apart mid k j (with_shown values e) (λ same. omega (arith, high, same)) ∙ s.rest j (omega (arith, high));
}
  where
    was : slice_get old k ≡ Some e
    was = sym (s.rest k (omega arith)) ∙ at

pub more_shown : (values : List Raw) (time k : ℕ) (old mid : List EventColumn) (e : EventColumn) (before between after : TraceSeen) → slice_get mid k ≡ Some e → k < length mid → IsShowing values time k old mid before between
    → TakesChange values time e between.rows after.rows → after.rows.upto ≡ between.rows.upto → after.stage ≡ between.stage → after.about ≡ between.about
    → IsShowing values time (k + 1) old (slice_set mid k (with_shown values e)) before after
unfolding with_changes
more_shown values time k old mid e before between after at low s took upto stage about = record {
  shown = have_more values k old mid e at low s.shown;
  took = λ traces cells spans samples list of h. (
      let w = of k e was in
      subst (λ g. Holds traces g spans samples list after.rows) (sym (next cells))
      (took traces (with_changes values time old k cells) spans samples list w.0 w.1 w.2 (s.took traces cells spans samples list of h)));
  upto = upto ∙ s.upto;
  stage = stage ∙ s.stage;
  about = about ∙ s.about;
}
  where
    was : slice_get old k ≡ Some e
    was = sym (s.shown.rest k (omega arith)) ∙ at

    next : (cells : Cells) → with_changes values time old (k + 1) cells ≡ with_change values time (Some e) (with_changes values time old k cells)
    next cells = let n : k + 1 ≡ suc k = omega arith in ap (λ m. with_changes values time old m cells) n ∙ ap (λ o. with_change values time o (with_changes values time old k cells)) was

-- what a change makes of a cell
module _ (values : List Raw) (time : ℕ) (events : List EventColumn) (cells : Cells) where
  change_at : (e : EventColumn) (g : Cells) (c t : ℕ) → (with_change values time (Some e) g).at c t
      ≡ (if is_same_value e.shown (value_of values e.signal) then g.at c t else (if is_cell_of (cell_for values time e) c t then Some (Some (value_of values e.signal)) else g.at c t))
  change_at e g c t = go (is_same_value e.shown (value_of values e.signal))
    where
      go : (b : Bool) → (if b then g else record {
        columns = g.columns;
        first = g.first;
        at = λ c t. if is_cell_of (cell_for values time e) c t then Some (Some (value_of values e.signal)) else g.at c t;
      }).at c t ≡ (if b then g.at c t else (if is_cell_of (cell_for values time e) c t then Some (Some (value_of values e.signal)) else g.at c t))
      go true = refl
      go false = refl

  both_same : {A : Type 0} (b : Bool) (x : A) → (if b then x else x) ≡ x
  both_same true x = refl
  both_same false x = refl

  -- none of another place
  change_apart : (e : EventColumn) (g : Cells) (c t : ℕ) → is_cell_of (cell_for values time e) c t ≡ false → (with_change values time (Some e) g).at c t ≡ g.at c t
  change_apart e g c t apart = change_at e g c t
      ∙ ap (λ (p : Bool). if is_same_value e.shown (value_of values e.signal) then g.at c t else (if p then Some (Some (value_of values e.signal)) else g.at c t)) apart
      ∙ both_same (is_same_value e.shown (value_of values e.signal)) (g.at c t)

  other_time : (e : EventColumn) (c t : ℕ) → (time ≡ t → ⊥) → is_cell_of (cell_for values time e) c t ≡ false
  other_time e c t apart = and_no (nat_eq e.column c) (nat_eq time t) (ne_eqb time t apart)
    where
      and_no : (p q : Bool) → q ≡ false → (p && q) ≡ false
      and_no true q is = is
      and_no false q is = refl

  other_column : (e : EventColumn) (c t : ℕ) → (e.column ≡ c → ⊥) → is_cell_of (cell_for values time e) c t ≡ false
  other_column e c t apart = ap (λ (p : Bool). p && nat_eq time t) (ne_eqb e.column c apart)

  pub changes_shape : (k : ℕ) → ((with_changes values time events k cells).columns ≡ cells.columns) × ((with_changes values time events k cells).first ≡ cells.first)
  unfolding with_changes
  changes_shape zero = (refl, refl)
  changes_shape (suc k) = by_event (slice_get events k) (changes_shape k)
    where
      by_event : (o : Option EventColumn) → ((with_changes values time events k cells).columns ≡ cells.columns) × ((with_changes values time events k cells).first ≡ cells.first)
          → ((with_change values time o (with_changes values time events k cells)).columns ≡ cells.columns) × ((with_change values time o (with_changes values time events k cells)).first ≡ cells.first)
      by_event None h = h
      by_event (Some e) h = by_same (is_same_value e.shown (value_of values e.signal)) h
        where
          by_same : (b : Bool) → ((with_changes values time events k cells).columns ≡ cells.columns) × ((with_changes values time events k cells).first ≡ cells.first)
              → ((if b then with_changes values time events k cells else record {
                columns = (with_changes values time events k cells).columns;
                first = (with_changes values time events k cells).first;
                at = λ c t. if is_cell_of (cell_for values time e) c t then Some (Some (value_of values e.signal)) else (with_changes values time events k cells).at c t;
              }).columns ≡ cells.columns) × ((if b then with_changes values time events k cells else record {
                columns = (with_changes values time events k cells).columns;
                first = (with_changes values time events k cells).first;
                at = λ c t. if is_cell_of (cell_for values time e) c t then Some (Some (value_of values e.signal)) else (with_changes values time events k cells).at c t;
              }).first ≡ cells.first)
          by_same true h = h
          by_same false h = h

  pub changes_apart : (k c t : ℕ) → ((j : ℕ) (e : EventColumn) → j < k → slice_get events j ≡ Some e → is_cell_of (cell_for values time e) c t ≡ false) → (with_changes values time events k cells).at c t ≡ cells.at c t
  unfolding with_changes
  changes_apart zero c t apart = refl
  changes_apart (suc k) c t apart = by_event (slice_get events k) refl ∙ changes_apart k c t (λ j e below at. apart j e (omega (arith, below)) at)
    where
      by_event : (o : Option EventColumn) → slice_get events k ≡ o → (with_change values time o (with_changes values time events k cells)).at c t ≡ (with_changes values time events k cells).at c t
      by_event None at = refl
      by_event (Some e) at = change_apart e (with_changes values time events k cells) c t (apart k e (omega arith) at)

  pub changes_here : (k j : ℕ) (e : EventColumn) → j < k → slice_get events j ≡ Some e → ((i : ℕ) (f : EventColumn) → slice_get events i ≡ Some f → e.column ≡ f.column → j ≡ i) → cells.at e.column time ≡ None
      → (with_changes values time events k cells).at e.column time ≡ changed_cell e.shown (value_of values e.signal)
  unfolding with_changes
  changes_here zero j e below at once none = absurd (omega (arith, below))
  changes_here (suc k) j e below at once none = elim (cases_eq j k) [
    | inl same ↦ (
        let here : slice_get events k ≡ Some e = ap (slice_get events) (sym same) ∙ at in
        let before : (with_changes values time events k cells).at e.column time ≡ None =
        changes_apart k e.column time (λ i f low there. other_column f e.column time (λ is. (let n : j ≡ i = once i f there (sym is) in absurd (omega (arith, n, low, same))))) ∙ none in
        ap (λ o. (with_change values time o (with_changes values time events k cells)).at e.column time) here
        ∙ change_at e (with_changes values time events k cells) e.column time
        ∙ ap (λ (p : Bool). if is_same_value e.shown (value_of values e.signal) then (with_changes values time events k cells).at e.column time else (if p then Some (Some (value_of values e.signal)) else (with_changes values time events k cells).at e.column time))
        (both_true (nat_eq e.column e.column) (nat_eq time time) (eq-eqb e.column e.column refl) (eq-eqb time time refl))
        ∙ ap (λ x. if is_same_value e.shown (value_of values e.signal) then x else Some (Some (value_of values e.signal))) before)
    | inr apart ↦ by_event apart (slice_get events k) refl ∙ changes_here k j e (omega (arith, below, apart)) at once none
  ]
    where
      both_true : (p q : Bool) → p ≡ true → q ≡ true → (p && q) ≡ true
      both_true p q x y = ap (λ (b : Bool). b && q) x ∙ y

      by_event : (j ≡ k → ⊥) → (o : Option EventColumn) → slice_get events k ≡ o → (with_change values time o (with_changes values time events k cells)).at e.column time ≡ (with_changes values time events k cells).at e.column time
      by_event apart None there = refl
      by_event apart (Some f) there = change_apart f (with_changes values time events k cells) e.column time (other_column f e.column time (λ is. apart (once k f there (sym is))))

-- the cells of the instants before a time, and those of one more
module _ (model : PureTree) (flat : Flat) (start : World SideOf) (time : ℕ) (events : List EventColumn)
    (are : AreEventColumns flat.tables.traces (values_before model flat start time) events) (stamped : EventsStartBefore flat.tables.traces start.shown time) where
  abbrev values : List Raw
  values = values_before model flat start (time + 1)

  abbrev before : Cells
  before = events_before model flat start time

  abbrev after : Cells
  after = events_before model flat start (time + 1)

  abbrev changed : Cells
  changed = with_changes values time events (length events) before

  of_row : (c t : ℕ) (row : TraceRow) → slice_get flat.tables.traces c ≡ Some row → (b : Bool) → row.event ≡ b → (g : ℕ)
      → (events_before model flat start g).at c t ≡ (if b && nat_lt t g then event_column_cell model flat (rules_of model flat) start (start_of start.shown c) row.signal t else None)
  of_row c t row at b is g = ap (event_before model flat start g t (start_of start.shown c)) at ∙ ap (λ (p : Bool). if p && nat_lt t g then event_column_cell model flat (rules_of model flat) start (start_of start.shown c) row.signal t else None) is

  later : (t : ℕ) → (time ≡ t → ⊥) → nat_lt t time ≡ nat_lt t (time + 1)
  later t apart = elim (cases_lt t time) [
    | inl low ↦ lt-ltb t time low ∙ sym (lt-ltb t (time + 1) (omega (arith, low)))
    | inr high ↦ le-ltb t time high ∙ sym (le-ltb t (time + 1) (omega (arith, high, apart)))
  ]

  -- another time
  other_cell : (c t : ℕ) → (time ≡ t → ⊥) → (o : Option TraceRow) → event_before model flat start time t (start_of start.shown c) o ≡ event_before model flat start (time + 1) t (start_of start.shown c) o
  other_cell c t apart None = refl
  other_cell c t apart (Some row) = ap (λ (p : Bool). if row.event && p then event_column_cell model flat (rules_of model flat) start (start_of start.shown c) row.signal t else None) (later t apart)

  -- a column of samples, or none
  no_event : (c : ℕ) → ((j : ℕ) (e : EventColumn) → slice_get events j ≡ Some e → e.column ≡ c → ⊥) → (o : Option TraceRow) → slice_get flat.tables.traces c ≡ o
      → event_before model flat start time time (start_of start.shown c) o ≡ event_before model flat start (time + 1) time (start_of start.shown c) o
  no_event c not None at = refl
  no_event c not (Some row) at = go row.event refl
    where
      go : (b : Bool) → row.event ≡ b → (if row.event && nat_lt time time then event_column_cell model flat (rules_of model flat) start (start_of start.shown c) row.signal time else None)
          ≡ (if row.event && nat_lt time (time + 1) then event_column_cell model flat (rules_of model flat) start (start_of start.shown c) row.signal time else None)
      go true is = absurd (let w : IsColumnOf events c = are.all c row at is in not w.place w.it w.there w.same)
      go false is = rw is refl

  -- a column of an event signal
  event_here : (c : ℕ) (row : TraceRow) → slice_get flat.tables.traces c ≡ Some row → row.event ≡ true → changed.at c time ≡ after.at c time
  event_here c row at is =
      let w : IsColumnOf events c = are.all c row at is in
      let x : IsEventColumn flat.tables.traces (values_before model flat start time) w.it = are.are w.place w.it w.there in
      let same_row : x.row ≡ row = some_same x.row row (sym x.there ∙ ap (slice_get flat.tables.traces) w.same ∙ at) in
      let signal : w.it.signal ≡ row.signal = x.signal_is ∙ ap (λ (r : TraceRow). r.signal) same_row in
      let none : before.at c time ≡ None = of_row c time row at true is time ∙ ap (λ (p : Bool). if p then event_column_cell model flat (rules_of model flat) start (start_of start.shown c) row.signal time else None) (le-ltb time time (omega arith)) in
      let none_here : before.at w.it.column time ≡ None = ap (λ k. before.at k time) w.same ∙ none in
      ap (λ k. changed.at k time) (sym w.same)
      ∙ changes_here values time events before (length events) w.place w.it (slice_get_within events w.place w.it w.there) w.there (λ i f there same. are.once w.place i w.it f w.there there same) none_here
      ∙ ap (λ v. changed_cell v (value_of values w.it.signal)) (x.shown_is ∙ ap (λ (r : TraceRow). value_of (values_before model flat start time) r.signal) same_row)
      ∙ ap (λ s. changed_cell (value_of (values_before model flat start time) row.signal) (value_of values s)) signal
      ∙ sym (of_row c time row at true is (time + 1) ∙ ap (λ (p : Bool). if p then event_column_cell model flat (rules_of model flat) start (start_of start.shown c) row.signal time else None) (lt-ltb time (time + 1) (omega arith))
      ∙ ap (λ o. cell_or o (event_cell model flat (rules_of model flat) start row.signal time)) (stamped c row at is time (omega arith)))

  cell_same : (c t : ℕ) → changed.at c t ≡ after.at c t
  cell_same c t = elim (cases_eq time t) [
    | inr apart ↦ changes_apart values time events before (length events) c t (λ j e below at. other_time values time events before e c t apart) ∙ other_cell c t apart (slice_get flat.tables.traces c)
    | inl same ↦ subst (λ s. changed.at c s ≡ after.at c s) same (by_row (slice_get flat.tables.traces c) refl)
  ]
    where
      by_row : (o : Option TraceRow) → slice_get flat.tables.traces c ≡ o → changed.at c time ≡ after.at c time
      by_row None at = changes_apart values time events before (length events) c time (λ j e below there. other_column values time events before e c time (λ same. (
          let x = are.are j e there in none_some x.row (sym at ∙ ap (slice_get flat.tables.traces) (sym same) ∙ x.there))))
          ∙ ap (event_before model flat start time time (start_of start.shown c)) at ∙ sym (ap (event_before model flat start (time + 1) time (start_of start.shown c)) at)
      by_row (Some row) at = by_event row.event refl
        where
          by_event : (b : Bool) → row.event ≡ b → changed.at c time ≡ after.at c time
          by_event true is = event_here c row at is
          by_event false is = changes_apart values time events before (length events) c time (λ j e below there. other_column values time events before e c time (λ same. (not j e there same)))
              ∙ no_event c not (slice_get flat.tables.traces c) refl
            where
              not : (j : ℕ) (e : EventColumn) → slice_get events j ≡ Some e → e.column ≡ c → ⊥
              not j e there same = (
                  let x = are.are j e there in
                  let r : x.row ≡ row = some_same x.row row (sym x.there ∙ ap (slice_get flat.tables.traces) same ∙ at) in
                  true_false (sym x.event ∙ ap (λ (y : TraceRow). y.event) r ∙ is))

  pub events_agree : (below : ℕ) → Agree changed after below
  events_agree below = record {
    columns = (changes_shape values time events before (length events)).0;
    first = λ c inside. ap (λ (f : ℕ → Option Raw). f c) (changes_shape values time events before (length events)).1;
    cells = λ c t inside low. cell_same c t;
  }

-- the columns show the values of the time
pub columns_shown : (traces : List TraceRow) (was values : List Raw) (old new : List EventColumn) → AreEventColumns traces was old → HaveShown values (length old) old new → AreEventColumns traces values new
columns_shown traces was values old new are shown = record {
  are = λ k e at. (let x = back k e at in let y = are.are k x.0 x.1 in record {
    row = y.row;
    there = ap (λ (f : EventColumn). slice_get traces f.column) (sym x.2) ∙ y.there;
    event = y.event;
    signal_is = ap (λ (f : EventColumn). f.signal) (sym x.2) ∙ y.signal_is;
    shown_is = ap (λ (f : EventColumn). f.shown) (sym x.2) ∙ ap (value_of values) y.signal_is;
  });
  once = λ i j e f ei fj same. (let x = back i e ei in let y = back j f fj in are.once i j x.0 y.0 x.1 y.1 (ap (λ (g : EventColumn). g.column) x.2 ∙ same ∙ ap (λ (g : EventColumn). g.column) (sym y.2)));
  all = λ column row at event. (let w = are.all column row at event in record {
    place = w.place;
    it = with_shown values w.it;
    there = shown.done w.place w.it (slice_get_within old w.place w.it w.there) w.there;
    same = w.same;
  });
}
  where
    back : (k : ℕ) (e : EventColumn) → slice_get new k ≡ Some e → (f : EventColumn) × (slice_get old k ≡ Some f) × (with_shown values f ≡ e)
    back k e at = (let f = get_inside old k (let w = slice_get_within new k e at in let l = shown.long in omega (arith, w, l)) in
        (f.0, f.1, some_same (with_shown values f.0) e (sym (shown.done k f.0 (slice_get_within old k f.0 f.1) f.1) ∙ at)))
