-- What event parts keep of an event side: rates are those declared, values of variables are of their formats, and notifications come soon.
use Rattle.std.proofs.Common.{◌≡◌, ◌∙◌, ◌⊎◌, ℕ, zero, suc, ◌+◌, ◌-◌, ◌<◌, ◌≤◌, Bool, true, false, if◌then◌else◌, min, nat_eq, List, [], ◌∷◌, Option, Some, None, map, replicate, length, length-set, slice_get, slice_index, slice_set, refl, ap, sym, subst, inl, inr, arith}
use Rattle.std.proofs.lemmas.List.{length-map}
use Rattle.std.proofs.lemmas.Option.{get_or_from_slice_get, same_Some, slice_get_within}
use Rattle.tdf_base.specs.Limits.{time_end}
use Rattle.tdf_bind.specs.declared.model.Flat.{Flat}
use Rattle.tdf_bind_connections.specs.ProcessBlocks.{BlockRowOf, ProcessRowOf}
use Rattle.tdf_bind_invariants.proofs.Api.{starts_are_allowed}
use Rattle.tdf_bind_invariants.specs.Limits.{AreWithinLimits}
use Rattle.tdf_convert.specs.declared.writes.SignalWrite.{SignalWrite}
use Rattle.tdf_events.proofs.Api.{instant_keeps}
use Rattle.tdf_events.specs.Delta.{after_evaluation, begun, delta_stepped, event_part, is_due}
use Rattle.tdf_events.specs.Notices.{NoticesOf, event_noticed, noticed_first, time_after}
use Rattle.tdf_events.specs.Processes.{after_process, frame_at, owned_events, owner_of, process_done, process_ports_before, ran, run_of}
use Rattle.tdf_events.specs.Side.{SideOf}
use Rattle.tdf_events_queue.specs.Evaluation.{evaluated}
use Rattle.tdf_events_queue.specs.Sets.{is_on}
use Rattle.tdf_events_queue.specs.Times.{earliest, pending_time}
use Rattle.tdf_expr.specs.Blocks.{PureBlock, blocks_of}
use Rattle.tdf_expr.specs.Checked.{IsCheckedOf}
use Rattle.tdf_expr.specs.Frames.{limits_of_rate}
use Rattle.tdf_expr.specs.Made.{CellsFit, event_count, port_spans_of, rate_spans_of, start_rates}
use Rattle.tdf_expr.specs.declared.bodies.Body.TheVariants.{Process}
use Rattle.tdf_expr_blocks.specs.Types.{type_faults}
use Rattle.tdf_expr_laws.specs.Cells.{AreAtMost, BodiesKeepCells}
use Rattle.tdf_expr_laws.specs.Processes.{AreSoon, LeavesSoon, ProcessesLeaveSoon}
use Rattle.tdf_expr_state.specs.State.{FrameState, State, standing, state_of}
use Rattle.tdf_lang_tree.specs.Kept.{IsKept}
use Rattle.tdf_lang_tree.specs.Pure.{PureTree}
use Rattle.tdf_streams.proofs.Api.{get_inside, none_some, some_same}

-- ---- what an event part keeps

module _ (model : PureTree) (flat : Flat) (time : ℕ) (P : SideOf → Type 0) (keep : (s : SideOf) → P s → P (delta_stepped model flat time s)) (first : (writes : List SignalWrite) (s : SideOf) → P s → P (begun flat time writes s)) where
  pub part_keeps : (left rest : ℕ) (writes : List SignalWrite) (s after : SideOf) → P s → event_part model flat time writes s left ≡ Some (after, rest) → P after
  part_keeps left rest writes s after p is = instant_keeps P model flat time left rest writes s after keep (λ e. first writes s p) (keep (begun flat time writes s) (first writes s p)) is

-- ---- rates, and notifications

-- of an event side: as many delta notifications as events, the rates that are declared, values of variables of their formats, and notifications up to a bound
pub record IsSteadySide (flat : Flat) (bound : ℕ) (side : SideOf) : Type 0 where
  pub delta : length side.notices.delta ≡ length flat.tables.events
  pub rates : (n : ℕ) (row : BlockRowOf) (f : FrameState) → slice_get flat.tables.blocks n ≡ Some row → slice_get side.frames n ≡ Some f → f.rates ≡ start_rates flat.checked row.block
  pub cells : (n : ℕ) (row : BlockRowOf) (f : FrameState) → slice_get flat.tables.blocks n ≡ Some row → slice_get side.frames n ≡ Some f → CellsFit flat.checked row.block f.cells
  pub until : (event time : ℕ) → pending_time side.notices.times event ≡ Some time → time ≤ bound

-- so much of its notices
record AreSteady (count bound : ℕ) (n : NoticesOf) : Type 0 where
  pub delta : length n.delta ≡ count
  pub until : (event time : ℕ) → pending_time n.times event ≡ Some time → time ≤ bound

time_set : (times : List (Option ℕ)) (event : ℕ) (o : Option ℕ) (e t : ℕ) → pending_time (slice_set times event o) e ≡ Some t → (o ≡ Some t) ⊎ (pending_time times e ≡ Some t)
time_set [] event o e t is = inr is
time_set (x ∷ xs) zero o zero t is = inl is
time_set (x ∷ xs) zero o (suc e) t is = inr is
time_set (x ∷ xs) (suc event) o zero t is = inr is
time_set (x ∷ xs) (suc event) o (suc e) t is = time_set xs event o e t is

frame_set : (xs : List FrameState) (i j : ℕ) (x y : FrameState) → slice_get (slice_set xs i y) j ≡ Some x → ((j ≡ i) × (y ≡ x)) ⊎ (slice_get xs j ≡ Some x)
frame_set [] i j x y at = inr at
frame_set (z ∷ xs) zero zero x y at = inl (refl, some_same y x at)
frame_set (z ∷ xs) zero (suc j) x y at = inr at
frame_set (z ∷ xs) (suc i) zero x y at = inr at
frame_set (z ∷ xs) (suc i) (suc j) x y at = elim (frame_set xs i j x y at) [ inl here ↦ inl (ap suc here.0, here.1) | inr there ↦ inr there ]

none_asked : (k e after : ℕ) → standing (slice_get (replicate {A = Option ℕ} k None) e) ≡ Some after → ⊥
none_asked zero e after is = absurd cc
none_asked (suc k) zero after is = absurd cc
none_asked (suc k) (suc e) after is = none_asked k e after is

module _ (count bound time : ℕ) (late : time + time_end ≤ bound) where
  late_one : (after : ℕ) → after < time_end → time_after time after ≤ bound
  late_one after soon = let m : time_after time after ≤ time + after = omega arith in omega (arith, m, soon, late)

  earliest_late : (o : Option ℕ) (new : ℕ) → new ≤ bound → earliest o new ≤ bound
  earliest_late None new low = low
  earliest_late (Some old) new low = let m : min old new ≤ new = omega arith in omega (arith, m, low)

  noticed_steady : (event : ℕ) (o : Option ℕ) (n : NoticesOf) → ((after : ℕ) → o ≡ Some after → after < time_end) → AreSteady count bound n → AreSteady count bound (event_noticed time event o n)
  noticed_steady event None n soon steady = steady
  noticed_steady event (Some after) n soon steady = choose (is_on n.delta event) (nat_eq after 0)
    where
      choose : (b c : Bool) → AreSteady count bound (if b then n else if c then record { times = slice_set n.times event None; delta = slice_set n.delta event true }
          else record { times = slice_set n.times event (Some (earliest (pending_time n.times event) (time_after time after))); delta = n.delta })
      choose true c = steady
      choose false true = record {
        delta = length-set n.delta event true ∙ steady.delta;
        until = λ e t is. elim (time_set n.times event None e t is) [ inl new ↦ none_some t new | inr was ↦ steady.until e t was ];
      }
      choose false false = record {
        delta = steady.delta;
        until = λ e t is. elim (time_set n.times event (Some (earliest (pending_time n.times event) (time_after time after))) e t is) [
          | inl new ↦ subst (λ k. k ≤ bound) (same_Some _ t new) (earliest_late (pending_time n.times event) (time_after time after) (late_one after (soon after refl)))
          | inr was ↦ steady.until e t was
        ];
      }

  all_noticed : (events : List ℕ) (asked : List (Option ℕ)) (i : ℕ) (n : NoticesOf) → AreSoon asked → AreSteady count bound n → AreSteady count bound (noticed_first time events asked i n)
  unfolding noticed_first
  all_noticed events asked zero n soon steady = steady
  all_noticed events asked (suc i) n soon steady =
      noticed_steady (slice_index events i) (standing (slice_get asked i)) (noticed_first time events asked i n) (λ after is. soon i after is) (all_noticed events asked i n soon steady)

module _ (law : ProcessesLeaveSoon) (keep : BodiesKeepCells) (model : PureTree) (flat : Flat) (kept : IsKept model) (none : type_faults model ≡ []) (checked : IsCheckedOf model flat.checked) (limits : AreWithinLimits flat)
    (bound time : ℕ) (late : time + time_end ≤ bound) where
  notices_of : (s : SideOf) → IsSteadySide flat bound s → AreSteady (length flat.tables.events) bound s.notices
  notices_of s steady = record { delta = steady.delta; until = steady.until }

  -- what a process begins with, and what it leaves
  abbrev before : ProcessRowOf → BlockRowOf → SideOf → State
  before process row s = state_of (frame_at s.frames process.owner) (process_ports_before s.values row.signals (port_spans_of flat.checked row.block) (event_count flat.checked row.block))

  abbrev left_by : ProcessRowOf → BlockRowOf → SideOf → State
  left_by process row s = process_done model flat process row s.values (frame_at s.frames process.owner)

  left_soon : (process : ProcessRowOf) (row : BlockRowOf) (s : SideOf) → LeavesSoon (before process row s) (left_by process row s)
  unfolding process_done
  left_soon process row s = go (slice_get (blocks_of model.globals) row.block) refl
    where
      go : (o : Option PureBlock) → slice_get (blocks_of model.globals) row.block ≡ o → LeavesSoon (before process row s) (after_process model o process.number (before process row s))
      go None at = record { rates = refl; soon = λ soon. soon }
      go (Some block) at = law model row.block process.number block (before process row s) kept none at

  left_fit : (process : ProcessRowOf) (row : BlockRowOf) (s : SideOf) → (before process row s).frame.rates ≡ start_rates flat.checked row.block → CellsFit flat.checked row.block (before process row s).frame.cells
      → CellsFit flat.checked row.block (left_by process row s).frame.cells
  unfolding process_done
  left_fit process row s rates fits = go (slice_get (blocks_of model.globals) row.block) refl
    where
      low : AreAtMost (map limits_of_rate (rate_spans_of flat.checked row.block)) (before process row s).frame.rates
      low = subst (AreAtMost (map limits_of_rate (rate_spans_of flat.checked row.block))) (sym rates) (λ j l at. ((starts_are_allowed flat.checked limits.checked_is row.block).each j l at).1)

      go : (o : Option PureBlock) → slice_get (blocks_of model.globals) row.block ≡ o → CellsFit flat.checked row.block (after_process model o process.number (before process row s)).frame.cells
      go None at = fits
      go (Some block) at = keep model flat.checked row.block block (Process process.number) (before process row s) checked at low fits

  run_steady : (p : Option ProcessRowOf) (r : Option BlockRowOf) (s : SideOf) → r ≡ slice_get flat.tables.blocks (owner_of p) → IsSteadySide flat bound s → IsSteadySide flat bound (run_of model flat time p r s)
  run_steady None r s is steady = steady
  run_steady (Some process) None s is steady = steady
  run_steady (Some process) (Some row) s is steady = record {
    delta = noticed.delta;
    rates = λ n own f own_at f_at. elim (frame_set s.frames process.owner n f (left_by process row s).frame f_at) [
      | inl here ↦ (
          let o = old n own f here.0 own_at f_at in
          ap (λ (x : FrameState). x.rates) (sym here.1) ∙ left.rates ∙ ap (λ (x : FrameState). x.rates) (get_or_from_slice_get s.frames process.owner o.0 (record { cells = []; rates = [] }) o.1)
          ∙ steady.rates process.owner own o.0 (ap (slice_get flat.tables.blocks) (sym here.0) ∙ own_at) o.1)
      | inr there ↦ steady.rates n own f own_at there
    ];
    cells = λ n own f own_at f_at. elim (frame_set s.frames process.owner n f (left_by process row s).frame f_at) [
      | inl here ↦ (
          let o = old n own f here.0 own_at f_at in
          let same : row ≡ own = some_same row own (is ∙ ap (slice_get flat.tables.blocks) (sym here.0) ∙ own_at) in
          let was : o.0 ≡ frame_at s.frames process.owner = sym (get_or_from_slice_get s.frames process.owner o.0 (record { cells = []; rates = [] }) o.1) in
          subst (λ (x : FrameState). CellsFit flat.checked own.block x.cells) here.1 (subst (λ (r : BlockRowOf). CellsFit flat.checked r.block (left_by process row s).frame.cells) same
          (left_fit process row s (ap (λ (x : FrameState). x.rates) (sym was) ∙ steady.rates process.owner row o.0 (sym is) o.1)
          (subst (λ (x : FrameState). CellsFit flat.checked row.block x.cells) was (steady.cells process.owner row o.0 (sym is) o.1)))))
      | inr there ↦ steady.cells n own f own_at there
    ];
    until = noticed.until;
  }
    where
      old : (n : ℕ) (own : BlockRowOf) (f : FrameState) → n ≡ process.owner → slice_get flat.tables.blocks n ≡ Some own → slice_get (slice_set s.frames process.owner (left_by process row s).frame) n ≡ Some f
          → (x : FrameState) × (slice_get s.frames process.owner ≡ Some x)
      old n own f here own_at f_at =
          let w = slice_get_within (slice_set s.frames process.owner (left_by process row s).frame) n f f_at in
          let l = length-set s.frames process.owner (left_by process row s).frame in get_inside s.frames process.owner (omega (arith, w, l, here))

      left : LeavesSoon (before process row s) (left_by process row s)
      left = left_soon process row s

      noticed : AreSteady (length flat.tables.events) bound (noticed_first time (owned_events flat process.owner) (left_by process row s).ports.notified (length (owned_events flat process.owner)) s.notices)
      noticed = all_noticed (length flat.tables.events) bound time late (owned_events flat process.owner) (left_by process row s).ports.notified
          (length (owned_events flat process.owner)) s.notices (left.soon (λ e after at. absurd (none_asked (event_count flat.checked row.block) e after at))) (notices_of s steady)

  ran_steady : (n : ℕ) (s : SideOf) → IsSteadySide flat bound s → IsSteadySide flat bound (ran model flat time n s)
  unfolding ran
  ran_steady n s steady = run_steady (slice_get flat.tables.processes n) (slice_get flat.tables.blocks (owner_of (slice_get flat.tables.processes n))) s refl steady

  evaluated_steady : (flags : List Bool) (n : ℕ) (s : SideOf) → IsSteadySide flat bound s → IsSteadySide flat bound (evaluated (ran model flat time) flags n s)
  unfolding evaluated
  evaluated_steady flags zero s steady = steady
  evaluated_steady flags (suc n) s steady = choose (evaluated_steady flags n s steady) (is_on flags n)
    where
      choose : IsSteadySide flat bound (evaluated (ran model flat time) flags n s) → (b : Bool)
          → IsSteadySide flat bound (if b then ran model flat time n (evaluated (ran model flat time) flags n s) else evaluated (ran model flat time) flags n s)
      choose was true = ran_steady n (evaluated (ran model flat time) flags n s) was
      choose was false = was

  stepped_steady : (s : SideOf) → IsSteadySide flat bound s → IsSteadySide flat bound (delta_stepped model flat time s)
  unfolding delta_stepped
  stepped_steady s steady =
      let e = evaluated_steady s.triggered (length s.triggered) s steady in
      record { delta = length-map (after_evaluation model flat time s).notices.delta (λ on. false) ∙ e.delta; rates = e.rates; cells = e.cells; until = e.until }

  kept_time : (times : List (Option ℕ)) (e t : ℕ) → pending_time (map (λ pending. if is_due time pending then None else pending) times) e ≡ Some t → pending_time times e ≡ Some t
  kept_time [] e t is = absurd cc
  kept_time (None ∷ xs) zero t is = absurd cc
  kept_time (Some x ∷ xs) zero t is = one (nat_eq x time) is
    where
      one : (b : Bool) → (if b then None else Some x) ≡ Some t → Some x ≡ Some t
      one true there = absurd cc
      one false there = there
  kept_time (x ∷ xs) (suc e) t is = kept_time xs e t is

  begun_steady : (writes : List SignalWrite) (s : SideOf) → IsSteadySide flat bound s → IsSteadySide flat bound (begun flat time writes s)
  begun_steady writes s steady = record { delta = steady.delta; rates = steady.rates; cells = steady.cells; until = λ e t is. steady.until e t (kept_time s.notices.times e t is) }

  pub part_steady : (left rest : ℕ) (writes : List SignalWrite) (s after : SideOf) → IsSteadySide flat bound s → event_part model flat time writes s left ≡ Some (after, rest) → IsSteadySide flat bound after
  part_steady left rest writes s after steady is = part_keeps model flat time (IsSteadySide flat bound) stepped_steady begun_steady left rest writes s after steady is
