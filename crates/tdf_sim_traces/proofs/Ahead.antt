-- What is shown stays so where more is told of the boundaries to come.
use Rattle.std.proofs.Common.{◌≡◌, ◌∙◌, ℕ, zero, suc, ◌+◌, ◌≤◌, Bool, true, false, ◌&&◌, nat_lt, if◌then◌else◌, Option, Some, None, option_map, List, [], ◌∷◌, map, slice_get, refl, ap, sym, subst, arith}
use Rattle.std.proofs.lemmas.Bool.{ltb-true}
use Rattle.std.specs.List.{enumerate_from}
use Rattle.std.specs.Prelude.{slice_index_or}
use Rattle.tdf_fixed.specs.declared.raw.Raw.{Raw}
use Rattle.tdf_bind.specs.declared.model.Flat.{Flat}
use Rattle.tdf_sim_history.specs.Cells.{cell_or, changed_cell, event_cell, world_of}
use Rattle.tdf_sim_history.specs.Columns.{ColumnStart, stamp_at, start_of}
use Rattle.tdf_sim_history.specs.Instant.{RunFault, engine}
use Rattle.tdf_sim_history.specs.World.{Change, ClusterAt, World}
use Rattle.tdf_sim_history.specs.History.{On, Spent, HistoryState, Stopped, history}
use Rattle.tdf_trace_rows.specs.Laws.{Agree}
use Rattle.tdf_lang_tree.specs.Pure.{PureTree}
use Rattle.tdf_bind_connections.specs.declared.traces.TraceRow.{TraceRow}
use Rattle.tdf_streams.proofs.Api.{none_some, some_same}
use Rattle.tdf_sim_traces.proofs.Noting.{holds_cells}
use Rattle.tdf_sim_traces.specs.Events.{AreEventColumns, event_before, events_before, value_of, values_before}
use Rattle.tdf_sim_traces.specs.Laws.{ToldIsShown}
use Rattle.tdf_sim_traces.specs.Shown.{HasBegunBefore}
use Rattle.tdf_events.specs.Side.{SideOf}
use Rattle.tdf_sim_history.specs.Telling.{AreTold, state_as, told_more, world_told}
use Rattle.tdf_sim_history.specs.Rules.{rules_of}
use Rattle.tdf_sim_history.proofs.Api.{history_told}

-- a cell that is there in two ways alike
both_ways : {A : Type 0} (e b : Bool) (x y : Option A) → (b ≡ true → x ≡ y) → (if e && b then x else None) ≡ (if e && b then y else None)
both_ways true true x y same = same refl
both_ways true false x y same = refl
both_ways false b x y same = refl

module _ (more : List (List Change)) where
  -- a cluster of which more is told
  abbrev told_at : ℕ → ClusterAt → ClusterAt
  told_at n c = told_more (slice_index_or more n []) c

  told_from : (k n : ℕ) (cs : List ClusterAt) → slice_get (map (λ (c : ℕ × ClusterAt). told_more (slice_index_or more c.0 []) c.1) (enumerate_from k cs)) n ≡ option_map (told_at (k + n)) (slice_get cs n)
  told_from k n [] = refl
  told_from k zero (c ∷ cs) = let e : k ≡ k + 0 = omega arith in ap (λ j. Some (told_at j c)) e
  told_from k (suc n) (c ∷ cs) = let e : k + 1 + n ≡ k + suc n = omega arith in told_from (k + 1) n cs ∙ ap (λ j. option_map (told_at j) (slice_get cs n)) e

  told_get : (w : World SideOf) (n : ℕ) → slice_get (world_told more w).clusters n ≡ option_map (told_at n) (slice_get w.clusters n)
  told_get w n = let e : 0 + n ≡ n = omega arith in told_from 0 n w.clusters ∙ ap (λ j. option_map (told_at j) (slice_get w.clusters n)) e

  -- it is one of the clusters of which no more is told
  told_back : (w : World SideOf) (n : ℕ) (h : ClusterAt) → slice_get (world_told more w).clusters n ≡ Some h → (c : ClusterAt) × (slice_get w.clusters n ≡ Some c) × (told_at n c ≡ h)
  told_back w n h there = go (slice_get w.clusters n) refl (sym (told_get w n) ∙ there)
    where
      go : (o : Option ClusterAt) → slice_get w.clusters n ≡ o → option_map (told_at n) o ≡ Some h → (c : ClusterAt) × (slice_get w.clusters n ≡ Some c) × (told_at n c ≡ h)
      go None at is = none_some h is
      go (Some c) at is = (c, at, some_same (told_at n c) h is)

module _ (model : PureTree) (flat : Flat) (start : World SideOf) (from : ℕ) (more : List (List Change)) (told : AreTold model flat (rules_of model flat) start from) where
  same_side : (x : HistoryState (World SideOf) RunFault) → (world_of (state_as (world_told more) x)).events ≡ (world_of x).events
  same_side (On w) = refl
  same_side (Stopped time fault w) = refl
  same_side (Spent time w) = refl

  -- the settled values are the same up to the time
  values_same : (time : ℕ) → time ≤ from → values_before model flat (world_told more start) time ≡ values_before model flat start time
  values_same time low =
      ap (λ (x : HistoryState (World SideOf) RunFault). (world_of x).events.values) (history_told more model flat (rules_of model flat) start from told time low)
      ∙ ap (λ (side : SideOf). side.values) (same_side (history (engine model flat (rules_of model flat)) 0 start time))

  event_same : (signal time : ℕ) → time + 1 ≤ from
      → event_cell model flat (rules_of model flat) start signal time ≡ event_cell model flat (rules_of model flat) (world_told more start) signal time
  event_same signal time low =
      let now : time ≤ from = omega (arith, low) in
      let before : values_before model flat start time ≡ values_before model flat (world_told more start) time = sym (values_same time now) in
      let after : values_before model flat start (time + 1) ≡ values_before model flat (world_told more start) (time + 1) = sym (values_same (time + 1) low) in
      λ i. changed_cell (value_of (before i) signal) (value_of (after i) signal)

  cell_same : (time : ℕ) (s : ColumnStart) (o : Option TraceRow) → event_before model flat start from time s o ≡ event_before model flat (world_told more start) from time s o
  cell_same time s None = refl
  cell_same time s (Some row) = both_ways row.event (nat_lt time from) _ _ (λ is. (let low = ltb-true time from is in ap (cell_or (stamp_at s.stamps time)) (event_same row.signal time (omega (arith, low)))))

  -- so are the cells of event signals
  cells_same : (below : ℕ) → Agree (events_before model flat start from) (events_before model flat (world_told more start) from) below
  cells_same below = record {
    columns = refl;
    first = λ c inside. refl;
    cells = λ c t inside low. cell_same t (start_of start.shown c) (slice_get flat.tables.traces c);
  }

pub told_is_shown : ToldIsShown
told_is_shown model flat start w from more s told shown = record {
  spans = shown.spans;
  samples = shown.samples;
  holds = holds_cells flat.tables.traces (events_before model flat start from) (events_before model flat (world_told more start) from) shown.spans shown.samples s.tracking.list s.trace.rows
      (cells_same model flat start from more told) shown.holds;
  signals = shown.signals;
  each = λ n number port drives. (let x = shown.each n number port drives in record {
    cluster = told_at more n x.cluster;
    there = told_get more w n ∙ ap (option_map (told_at more n)) x.there;
    start = x.start;
    starts = x.starts;
    first = x.first;
    chain = x.chain;
    spans_are = x.spans_are;
    samples_are = record { many = x.samples_are.many; are = x.samples_are.are };
    since = x.since;
    next = x.next;
  });
  none = shown.none;
  events = subst (λ (l : List Raw). AreEventColumns flat.tables.traces l s.events.items) (sym (values_same model flat start from more told from (omega arith))) shown.events;
  stamped = shown.stamped;
  begun = λ n h there. (
      let back = told_back more w n h there in
      let b = shown.begun n back.0 back.1 in
      subst (λ (c : ClusterAt). HasBegunBefore from c) back.2 (record { early = b.early; after_old = b.after_old }));
  width = shown.width;
  columns = shown.columns;
}
