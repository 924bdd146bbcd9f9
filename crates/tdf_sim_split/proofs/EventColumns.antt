-- The columns of event signals in a snapshot are valid.
use Rattle.std.proofs.Common.{◌≡◌, ◌∙◌, ◌<◌, ◌≤◌, ◌+◌, ◌-◌, ℕ, ℤ, zero, suc, Bool, true, false, ◌&&◌, if◌then◌else◌, nat_eq, Option, Some, None, option_map, List, [], ◌∷◌, length, map, slice_get, refl, ap, sym, subst, inl, inr, arith}
use Rattle.std.proofs.lemmas.Bool.{cases_lt, eq-eqb, ne_eqb}
use Rattle.std.proofs.lemmas.Bool.Decides.{Decides-int_eq}
use Rattle.std.proofs.lemmas.Option.{get_or_from_slice_get}
use Rattle.std.specs.Prelude.{All, slice_index_or}
use Rattle.tdf_bind.specs.declared.model.Flat.{Flat}
use Rattle.tdf_bind_connections.specs.declared.traces.TraceRow.{TraceRow}
use Rattle.tdf_events.specs.Side.{SideOf}
use Rattle.tdf_events.specs.State.{kernel_state_of}
use Rattle.tdf_fixed.specs.declared.raw.Raw.{Raw}
use Rattle.tdf_lang_tree.specs.Pure.{PureTree}
use Rattle.tdf_saved.specs.State.{ColumnStateOf, KernelStateOf}
use Rattle.tdf_saved.specs.declared.state.Stamp.{Stamp as SavedStamp}
use Rattle.tdf_sim_history.specs.Cells.{cell_or, changed_cell, driver_of_row, event_column_cell, is_same_value, run_cells, signal_cell, trace_cell, value_before, world_before, world_of}
use Rattle.tdf_sim_history.specs.Columns.{ColumnStart, Stamp, stamp_at, start_of}
use Rattle.tdf_sim_history.specs.History.{HistoryState, On, after, history, state_of}
use Rattle.tdf_sim_history.specs.Instant.{RunFault, engine, instant}
use Rattle.tdf_sim_history.specs.Rules.{rules_of}
use Rattle.tdf_sim_history.specs.World.{World}
use Rattle.tdf_sim_resumed.specs.Snapshot.{IsSavedColumn, later_of, shown_until, stamps_between}
use Rattle.tdf_sim_resumed.specs.Starting.{tracked_of, tracked_signal}
use Rattle.tdf_sim_resumed.specs.Valid.{IsValidEvents, StartsWith}
use Rattle.tdf_sim_split.proofs.Changing.{IsChange, ShowsChanges, changes_to, shown_num, stamps_change, value_at, value_changes}
use Rattle.tdf_sim_split.proofs.Rises.{found_below, found_in, found_rising}
use Rattle.tdf_sim_split.specs.Columns.{HasSoundColumns, IsEventStart, StandRising}
use Rattle.tdf_streams.proofs.Api.{get_inside, none_some, some_same}
use Rattle.tdf_streams.specs.Cluster.{zero_sample}
use Rattle.tdf_trace_rows.specs.Rows.{Cells, last}
use Rattle.tdf_trace_states.specs.Windows.{AreChangesTo, AreRisingFrom}

mapped_at : {A B : Type 0} (f : A → B) (xs : List A) (k : ℕ) (y : B) → slice_get (map f xs) k ≡ Some y → (x : A) × (slice_get xs k ≡ Some x) × (f x ≡ y)
mapped_at f [] k y at = none_some y at
mapped_at f (x ∷ xs) zero y at = (x, refl, some_same (f x) y at)
mapped_at f (x ∷ xs) (suc k) y at = mapped_at f xs k y at

-- samples that rise from one time on do from an earlier one, and none stands at their end or after
rise_less : (less from end : ℕ) (xs : List Stamp) → less ≤ from → StandRising from xs end → StandRising less xs end
rise_less less from end [] low rising = omega (arith, low, rising)
rise_less less from end (x ∷ xs) low rising = (let l = rising.0 in omega (arith, l, low), rising.1)

none_late : (from end t : ℕ) (xs : List Stamp) → StandRising from xs end → end ≤ t → stamp_at xs t ≡ None
none_late from end t [] rising late = refl
none_late from end t (x ∷ xs) rising late =
    let e = stand_end (x.time + 1) xs rising.1 in
    ap (λ b. if b then Some x.value else stamp_at xs t) (ne_eqb x.time t (λ s. omega (arith, s, e, late)))
    ∙ none_late (x.time + 1) end t xs rising.1 late
  where
    stand_end : (from : ℕ) (zs : List Stamp) → StandRising from zs end → from ≤ end
    stand_end from [] rising = rising
    stand_end from (u ∷ us) rising = let l = rising.0 in let r = stand_end (u.time + 1) us rising.1 in omega (arith, l, r)

module _ (model : PureTree) (flat : Flat) (start w : World SideOf) (first begin time : ℕ) (starts : HasSoundColumns model flat first begin start) (early : begin ≤ time) (on : history (engine model flat (rules_of model flat)) 0 start time ≡ On w) where
  abbrev cells : Cells
  cells = run_cells model flat (rules_of model flat) start time

  -- nothing happens before the start
  still : (t : ℕ) → t ≤ begin → history (engine model flat (rules_of model flat)) 0 start t ≡ On start
  unfolding history
  still zero low = refl
  still (suc t) low =
      let z : 0 + t ≡ t = omega arith in
      ap (after_at t) (still t (omega (arith, low)))
      ∙ ap (λ (b : Bool). if b then state_of (0 + t) (instant model flat (rules_of model flat) (0 + t) start) else On start) (ap ((engine model flat (rules_of model flat)).is_due start) z ∙ starts.quiet t (omega (arith, low)))
    where
      after_at : ℕ → HistoryState (World SideOf) RunFault → HistoryState (World SideOf) RunFault
      after_at t x = after (engine model flat (rules_of model flat)) (0 + t) x

  module _ (n : ℕ) (row : TraceRow) (at : slice_get flat.tables.traces n ≡ Some row) (event : row.event ≡ true) where
    abbrev s : ColumnStart
    s = start_of start.shown n

    abbrev value : ℕ → Raw
    value t = value_before model flat (rules_of model flat) start row.signal t

    abbrev begun : IsEventStart first begin s (slice_get flat.tables.de_signals row.signal) (slice_index_or start.events.values row.signal zero_sample)
    begun = starts.events n row at event

    cell_is : (t : ℕ) → cells.at n t ≡ event_column_cell model flat (rules_of model flat) start s row.signal t
    cell_is t =
        ap (trace_cell model flat (rules_of model flat) start time t s) at
        ∙ ap (λ (b : Bool). if b then event_column_cell model flat (rules_of model flat) start s row.signal t
        else signal_cell model flat s t (world_before model flat (rules_of model flat) start time).clusters row.signal) event

    -- none of its cells is unknown
    pub no_unknown : (t : ℕ) → cells.at n t ≡ Some None → ⊥
    no_unknown t is = never (stamp_at s.stamps t) (is_same_value (value t) (value (t + 1))) (value (t + 1)) (sym (cell_is t) ∙ is)
      where
        never : (o : Option Raw) (b : Bool) (v : Raw) → cell_or o (if b then None else Some (Some v)) ≡ Some None → ⊥
        never (Some u) b v same = none_some u (sym (some_same (Some u) None same))
        never None true v same = none_some None same
        never None false v same = none_some v (sym (some_same (Some v) None same))

    -- its value at the start, and at the time
    value_still : (t : ℕ) → t ≤ begin → value t ≡ slice_index_or start.events.values row.signal zero_sample
    value_still t low = ap (λ (x : HistoryState (World SideOf) RunFault). slice_index_or (world_of x).events.values row.signal zero_sample) (still t low)

    value_now : value time ≡ slice_index_or w.events.values row.signal zero_sample
    value_now = ap (λ (x : HistoryState (World SideOf) RunFault). slice_index_or (world_of x).events.values row.signal zero_sample) on

    -- before the start it has the samples that stand there
    cell_early : (t : ℕ) → 0 ≤ t → t < begin → cells.at n t ≡ cell_or (stamp_at s.stamps t) None
    cell_early t up low = cell_is t ∙ ap (cell_or (stamp_at s.stamps t)) (same_cell (value t) (value (t + 1)) (value_still t (omega (arith, low)) ∙ sym (value_still (t + 1) (omega (arith, low)))))
      where
        itself : (a : Raw) → is_same_value a a ≡ true
        itself a = ap (λ b. b && nat_eq a.frac a.frac) ((Decides-int_eq a.num a.num).1 refl) ∙ eq-eqb a.frac a.frac refl

        same_cell : (a b : Raw) → a ≡ b → changed_cell a b ≡ None
        same_cell a b same = subst (λ x. changed_cell a x ≡ None) same (ap (λ (p : Bool). if p then None else Some (Some a)) (itself a))

    -- and from there on the changes of its value
    cell_late : (t : ℕ) → begin ≤ t → t < time → cells.at n t ≡ changed_cell (value t) (value (t + 1))
    cell_late t low high = cell_is t ∙ ap (λ o. cell_or o (changed_cell (value t) (value (t + 1)))) (none_late first begin t s.stamps begun.rising low)

    early_shown : ShowsChanges cells n 0 begin (slice_index_or start.events.values row.signal zero_sample).num
    unfolding last
    early_shown = stamps_change cells n begin begin 0 begun.carry.num (slice_index_or start.events.values row.signal zero_sample).num s.stamps (omega arith) (rise_less 0 first begin s.stamps (omega arith) begun.rising) cell_early begun.changes
        (ap (option_map (λ (v : Raw). v.num)) begun.carried)

    module _ (places : (t : ℕ) → t < time → (value t).frac ≡ (value (t + 1)).frac) where
      begin_shown : shown_num cells n begin ≡ Some (value begin).num
      begin_shown = early_shown.final ∙ ap (λ (v : Raw). Some v.num) (sym (value_still begin (omega arith)))

      late_shown : (t : ℕ) → begin ≤ t → t ≤ time → shown_num cells n t ≡ Some (value t).num
      late_shown = value_at cells n begin time value cell_late (λ t low high. places t high) begin_shown

      change_at : (t : ℕ) → t < time → IsChange cells n t
      change_at t high = elim (cases_lt t begin) [
        | inl low ↦ early_shown.each t (omega arith) low
        | inr up ↦ value_changes cells n begin time value cell_late (λ u low less. places u less) begin_shown t up high
      ]

      shown_at : (t : ℕ) → t ≤ time → (k : ℤ) × (shown_num cells n t ≡ Some k)
      shown_at t high = elim (cases_lt t begin) [
        | inl low ↦ early_shown.some t (omega arith) (omega (arith, low))
        | inr up ↦ ((value t).num, late_shown t up high)
      ]

      -- its state
      module _ (rows : ℕ) (within : rows ≤ time) (after : first ≤ rows) (state : ColumnStateOf) (saved : IsSavedColumn model flat start w cells rows time n row state)
          (kernel : KernelStateOf) (kernel_is : kernel ≡ kernel_state_of w.events) (there : row.signal < length kernel.values) where
        untracked : tracked_of flat.tables w.clusters row ≡ None
        untracked = ap (λ (b : Bool). if b then None else tracked_signal flat.tables w.clusters row.signal) event

        samples_are : state.samples ≡ found_in (cells.at n) rows (time - rows)
        samples_are = saved.samples ∙ ap (λ o. stamps_between cells n rows (shown_until time o)) untracked

        k : (num : ℤ) × (shown_num cells n rows ≡ Some num)
        k = shown_at rows within

        v : (num : ℤ) × (slice_get kernel.values row.signal ≡ Some num)
        v = get_inside kernel.values row.signal there

        -- the value of the signal in the snapshot
        value_is : (value time).num ≡ v.0
        value_is =
            let m = mapped_at (λ (x : Raw). x.num) w.events.values row.signal v.0 (sym (ap (λ (z : KernelStateOf). slice_get z.values row.signal) kernel_is) ∙ v.1) in
            ap (λ (x : Raw). x.num) (value_now ∙ get_or_from_slice_get w.events.values row.signal m.0 zero_sample m.1) ∙ m.2

        final : shown_num cells n (rows + (time - rows)) ≡ Some v.0
        final = let z : rows + (time - rows) ≡ time = omega (arith, within) in ap (shown_num cells n) z ∙ late_shown time early (omega arith) ∙ ap Some value_is

        starts_with : rows ≡ 0 → StartsWith (slice_get flat.tables.de_signals row.signal) k.0
        unfolding last
        starts_with none =
            let f : first ≡ 0 = omega (arith, none, after) in
            let e : begun.carry.num ≡ k.0 = some_same begun.carry.num k.0 (sym (ap (option_map (λ (x : Raw). x.num)) begun.carried) ∙ sym (ap (shown_num cells n) none) ∙ k.1) in
            subst (StartsWith (slice_get flat.tables.de_signals row.signal)) e (begun.starts f)

        pub valid_events : IsValidEvents flat rows time kernel.values row state
        valid_events = record {
          carry = k.0;
          carried = saved.carry ∙ k.1;
          starts = starts_with;
          none_later = saved.later ∙ ap (λ o. later_of model flat s o (driver_of_row (slice_get flat.tables.signals row.signal))) untracked;
          rising = subst (AreRisingFrom rows) (sym samples_are) (found_rising (cells.at n) rows (time - rows));
          before = subst (All (λ (x : SavedStamp). x.time < time)) (sym samples_are) (found_below (cells.at n) rows (time - rows) time (omega (arith, within)));
          value = v.0;
          value_is = v.1;
          changes = subst (λ l. AreChangesTo k.0 (map (λ (x : SavedStamp). x.num) l) v.0) (sym samples_are)
              (changes_to cells n (time - rows) rows k.0 v.0 k.1 final (λ t low high. change_at t (omega (arith, high, within))));
        }
