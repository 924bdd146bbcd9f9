-- What an instant gave is shown.
use Rattle.std.proofs.Common.{Bool, false, ◌≡◌, ◌∙◌, ℕ, ◌+◌, ◌-◌, ◌<◌, ◌≤◌, true, Some, List, [], ◌∷◌, ◌++◌, length, slice_get, slice_index, refl, ap, sym, subst, arith}
use Rattle.std.proofs.lemmas.Bool.{eq-eqb, eqb-true}
use Rattle.std.proofs.lemmas.Option.{get_or_from_slice_get, slice_get_within}
use Rattle.tdf_trace.specs.Calls.{Holds, TakesSamples, with_traced}
use Rattle.tdf_trace.specs.Tracked.{AreSince, TrackedOf, TrackingOf, labels, sinces, AreLater}
use Rattle.tdf_convert.specs.declared.outputs.Traced.{Traced}
use Rattle.tdf_events.specs.Side.{SideOf}
use Rattle.tdf_sim_refinement.specs.Below.{ClusterOf}
use Rattle.tdf_fixed.specs.declared.raw.Raw.{Raw}
use Rattle.tdf_bind.specs.declared.model.Flat.{Flat}
use Rattle.tdf_streams.proofs.Api.{get_inside, some_same}
use Rattle.tdf_sim_history.specs.Cells.{column_spans}
use Rattle.tdf_sim_history.specs.Instant.{is_over, periods_of}
use Rattle.tdf_sim_history.specs.World.{ClusterAt, World}
use Rattle.tdf_bind_invariants.specs.Limits.{AreWithinLimits}
use Rattle.tdf_trace_rows.specs.Positions.{Span, span_of}
use Rattle.tdf_sim_refinement.specs.At.{IsAt}
use Rattle.tdf_sim_refinement.specs.Pass.{AreAt}
use Rattle.tdf_sim_traces.proofs.Beginning.{begun_since}
use Rattle.tdf_sim_traces.proofs.Listing.{IsFound, found, moved, samples_same}
use Rattle.tdf_sim_traces.proofs.Noting.{columns_shown, events_agree, holds_cells}
use Rattle.tdf_sim_traces.proofs.Spans.{chain_push, column_last, last_takes_some, over_time, span_is, steps_of, times_push, holds_more, records_front}
use Rattle.tdf_sim_traces.specs.Advanced.{Began, HasAdvanced, Stayed}
use Rattle.tdf_sim_traces.specs.Calls.{CanTake, ShowsInstant}
use Rattle.tdf_sim_traces.specs.Events.{AreEventColumns, events_before, values_before}
use Rattle.tdf_sim_traces.specs.Periods.{ClockAt, begins, span_in}
use Rattle.tdf_sim_traces.specs.Shown.{HasBegunBefore, IsShown, IsShownOf}
use Rattle.tdf_sim_traces.specs.Signals.{AreTracedSignals, DrivesTraced}
use Rattle.tdf_sim_traces.specs.declared.events.EventColumn.{EventColumn}
use Rattle.tdf_sim_traces.specs.declared.shown.Shown.{Shown}
use Rattle.tdf_sim_traces.specs.declared.signals.TracedSignal.{TracedSignal}
use Rattle.tdf_sim_traces.specs.machine.Beginning.{AreNext, BeginsAmong, BegunWith, First, HasBegun, IsBeginning, Later}
use Rattle.tdf_sim_traces.specs.machine.Noting.{HaveShown, IsShowing, with_changes}
use Rattle.tdf_streams.specs.Signals.{positions, step_in, time_of_periods}
use Rattle.tdf_trace.specs.Stands.{TraceSeen}
use Rattle.tdf_trace.specs.Writings.{AboutSeen}
use Rattle.tdf_sim_refinement.specs.Samples.{AreSamplesOf}
use Rattle.tdf_lang_tree.specs.Pure.{PureTree}
use Rattle.tdf_bind_connections.specs.declared.modules.PortRow.{PortRow}
use Rattle.tdf_sim_history.proofs.Api.{column_push, last_record, record_at, some_periods}
use Rattle.tdf_sim_history.specs.WorldLaws.{AreRecordsOf, HoldsFirst}
use Rattle.tdf_trace.specs.Tracks.{IsChain}
use Rattle.tdf_streams.specs.Periods.{IsPeriodRecord}
use Rattle.tdf_sim_traces.proofs.Items.{true_false}

-- the periods of each traced signal are those that its cluster has after the instant
pub record IsOnward (flat : Flat) (model : PureTree) (start : World SideOf) (time : ℕ) (w v : World SideOf) (s : Shown) (shown : IsShown model flat start time w s) (t : TrackingOf) (r : TraceSeen) : Type 0 where
  pub now : ℕ → List Span
  pub holds : Holds flat.tables.traces (events_before model flat start time) now shown.samples t.list r.rows
  pub spans : (n number : ℕ) (port : PortRow) (g : ClusterAt) (drives : DrivesTraced flat n number port) → slice_get v.clusters n ≡ Some g
      → now port.signal ≡ column_spans port (shown.each n number port drives).start g.origin (periods_of g)
  pub chain : (n number : ℕ) (port : PortRow) → DrivesTraced flat n number port → IsChain (now port.signal)
  pub next : (n number : ℕ) (port : PortRow) (g : ClusterAt) (place : ℕ) (u : TrackedOf) → DrivesTraced flat n number port → slice_get v.clusters n ≡ Some g → slice_get t.list place ≡ Some u → u.signal ≡ port.signal
      → 0 < u.stamps.left → g.since ≤ u.stamps.time
  pub since : (n number : ℕ) (port : PortRow) (g : ClusterAt) (place : ℕ) (u : TrackedOf) → DrivesTraced flat n number port → slice_get v.clusters n ≡ Some g → slice_get t.list place ≡ Some u → u.signal ≡ port.signal → u.since ≡ g.since
  pub none : (signal : ℕ) → ((place : ℕ) (x : TracedSignal) → slice_get s.signals.items place ≡ Some x → x.signal ≡ signal → ⊥) → now signal ≡ []
  pub width : t.width ≡ s.tracking.width
  pub about : r.about ≡ s.trace.about

module _ (model : PureTree) (flat : Flat) (clock : ClockAt) (start w v : World SideOf) (limits : AreWithinLimits flat) (s : Shown) (shown : IsShown model flat start clock.time w s) (traced : List Traced)
    (adv : HasAdvanced model flat clock.time w v traced) (at : AreAt model flat clock.since v.clusters clock.clusters) where
  -- a cluster after the instant, and before it
  pub before_it : (n : ℕ) (g : ClusterAt) → slice_get v.clusters n ≡ Some g → (h : ClusterAt) × (slice_get w.clusters n ≡ Some h)
  before_it n g there = get_inside w.clusters n (let i = slice_get_within v.clusters n g there in let e = adv.same in omega (arith, i, e))

  -- where it went on its periods stay
  stayed_periods : (h g : ClusterAt) → g.old ≡ h.old → g.now ≡ h.now → periods_of g ≡ periods_of h
  stayed_periods h g old now = ap (λ l. l ++ g.now ∷ []) old ∙ ap (λ p. h.old ++ p ∷ []) now

  -- and the start of the period lies before the time, or is 0
  pub early : (n : ℕ) (h g : ClusterAt) → slice_get w.clusters n ≡ Some h → g.since ≡ h.since → g.since ≤ clock.time - 1
  early n h g there same = let e = (shown.begun n h there).early in omega (arith, e, same)

  pub begun_before : (n : ℕ) (g : ClusterAt) → slice_get v.clusters n ≡ Some g → HasBegunBefore (clock.time + 1) g
  begun_before n g there = by_advance (before_it n g there)
    where
      by_advance : (h : ClusterAt) × (slice_get w.clusters n ≡ Some h) → HasBegunBefore (clock.time + 1) g
      by_advance x = elim (adv.clusters n x.0 g x.1 there) [
        | Began over origin since old ↦ record {
          early = omega (arith, since);
          after_old = (
              let o = over_time x.0 clock.time over in
              let a = (shown.begun n x.0 x.1).after_old in
              let p = times_push x.0.old x.0.now in
              let e : time_of_periods g.old ≡ time_of_periods (periods_of x.0) = ap time_of_periods old in
              omega (arith, origin, since, o, a, p, e));
        }
        | Stayed over origin since old now ↦ record {
          early = (let e = early n x.0 g x.1 since in omega (arith, e));
          after_old = (
              let a = (shown.begun n x.0 x.1).after_old in
              let e : time_of_periods g.old ≡ time_of_periods x.0.old = ap time_of_periods old in omega (arith, origin, since, a, e));
        }
      ]

  -- the periods of a signal whose cluster began one
  module _ (n number : ℕ) (port : PortRow) (drives : DrivesTraced flat n number port) (h g : ClusterAt) (c : ClusterOf) (t : TracedSignal) (before : slice_get w.clusters n ≡ Some h) (after : slice_get v.clusters n ≡ Some g)
      (is : IsAt model flat (n + 1) g c) (port_is : t.port ≡ number) (module_is : t.«module» ≡ port.«module») where
    abbrev was : IsShownOf model flat start.shown w.clusters n number port shown.spans shown.samples s.tracking.list
    was = shown.each n number port drives

    was_h : was.cluster ≡ h
    was_h = some_same was.cluster h (sym was.there ∙ before)

    was_spans : shown.spans port.signal ≡ column_spans port was.start h.origin (periods_of h)
    was_spans = was.spans_are ∙ ap (λ (k : ClusterAt). column_spans port was.start k.origin (periods_of k)) was_h

    some_old : g.old ≡ periods_of h → 0 < length g.old
    some_old old = let s = some_periods h.old h.now in let l = ap length old in omega (arith, s, l)

    pub began_spans : g.origin ≡ h.origin → g.since ≡ clock.time → g.old ≡ periods_of h → shown.spans port.signal ++ span_in flat.tables clock.time c t ∷ [] ≡ column_spans port was.start g.origin (periods_of g)
    began_spans origin since old =
        let a : g.since ≡ g.origin + time_of_periods g.old = (begun_before n g after).after_old in
        let e : clock.time ≡ g.origin + time_of_periods g.old = omega (arith, a, since) in
        ap (λ l. l ++ span_in flat.tables clock.time c t ∷ []) (was_spans ∙ ap (λ o. column_spans port was.start o (periods_of h)) (sym origin) ∙ ap (column_spans port was.start g.origin) (sym old))
        ∙ ap (λ p. column_spans port was.start g.origin g.old ++ p ∷ []) (span_is port model flat n number drives g c t is port_is module_is clock.time ∙ ap (λ k. span_of k (step_in port g.now) (positions port g.now)) e)
        ∙ sym (column_push port was.start g.origin g.old g.now (some_old old))

    pub stayed_spans : g.origin ≡ h.origin → g.old ≡ h.old → g.now ≡ h.now → shown.spans port.signal ≡ column_spans port was.start g.origin (periods_of g)
    stayed_spans origin old now = was_spans ∙ ap (λ o. column_spans port was.start o (periods_of h)) (sym origin) ∙ ap (column_spans port was.start g.origin) (sym (stayed_periods h g old now))

    -- the period that begins follows those before
    pub began_chain : g.origin ≡ h.origin → g.since ≡ clock.time → g.old ≡ periods_of h → IsChain (shown.spans port.signal ++ span_in flat.tables clock.time c t ∷ [])
    began_chain origin since old =
        let i : IsPeriodRecord flat (n + 1) g.now = last_record flat (n + 1) g.begun g.old g.now is.records in
        let first : HoldsFirst was.start port (periods_of h) = subst (λ (k : ClusterAt). HoldsFirst was.start port (periods_of k)) was_h was.first in
        let records : AreRecordsOf flat (n + 1) g.begun (periods_of h) = records_front flat (n + 1) g.begun (periods_of h) g.now (some_periods h.old h.now) (subst (λ l. AreRecordsOf flat (n + 1) g.begun (l ++ g.now ∷ [])) old is.records) in
        let e = column_last port flat (n + 1) g.begun was.start h.origin (periods_of h) records first
        (λ k p at. (steps_of port model flat n number drives limits p (record_at flat (n + 1) g.begun (periods_of h) k p records at)).1) in
        let a : g.since ≡ g.origin + time_of_periods g.old = (begun_before n g after).after_old in
        let o : time_of_periods g.old ≡ time_of_periods (periods_of h) = ap time_of_periods old in
        let x = span_is port model flat n number drives g c t is port_is module_is clock.time in
        let st : (span_in flat.tables clock.time c t).start ≡ clock.time = ap (λ (p : Span). p.start) x in
        let sp : (span_in flat.tables clock.time c t).step ≡ step_in port g.now = ap (λ (p : Span). p.step) x in
        let some = (steps_of port model flat n number drives limits g.now i).0 in
        let f = e.3 in
        chain_push port (shown.spans port.signal) e.0 e.1 (span_in flat.tables clock.time c t) (was_spans ∙ e.2) was.chain (omega (arith, st, f, a, o, origin, since)) (omega (arith, sp, some))

    -- none begins at the start
    pub none_at_zero : clock.time ≡ 0 → is_over clock.time h ≡ true → g.old ≡ periods_of h → ⊥
    none_at_zero at_zero over old = absurd (
        let o = over_time h clock.time over in
        let some = last_takes_some port model flat n number drives limits h g is.records old in
        omega (arith, at_zero, o, some))

  since_at : (n x : ℕ) (g : ClusterAt) → n < length clock.since → slice_get v.clusters n ≡ Some g → slice_index clock.since n ≡ g.since
  since_at n x g inside there =
      let y = get_inside clock.since n inside in
      get_or_from_slice_get clock.since n y.0 0 y.1 ∙ at.begun n y.0 g there y.1

  -- a later time
  module _ (later : 0 < clock.time) (can_since : (k : ℕ) (t : TracedSignal) → slice_get s.signals.items k ≡ Some t → t.cluster < length clock.since)
      (can_clusters : (k : ℕ) (t : TracedSignal) → slice_get s.signals.items k ≡ Some t → t.cluster < length clock.clusters) where
    pub cluster_there : (k : ℕ) (t : TracedSignal) → slice_get s.signals.items k ≡ Some t → (g : ClusterAt) × (slice_get v.clusters t.cluster ≡ Some g)
    cluster_there k t there = get_inside v.clusters t.cluster (let c = can_clusters k t there in let e = at.same in omega (arith, c, e))

    pub since_begins : (k : ℕ) (t : TracedSignal) (g : ClusterAt) → slice_get s.signals.items k ≡ Some t → slice_get v.clusters t.cluster ≡ Some g → begins clock t ≡ true → g.since ≡ clock.time
    since_begins k t g there here is = let e = since_at t.cluster 0 g (can_since k t there) here in let f = eqb-true (slice_index clock.since t.cluster) clock.time is in omega (arith, e, f)

    begins_since : (k : ℕ) (t : TracedSignal) (g : ClusterAt) → slice_get s.signals.items k ≡ Some t → slice_get v.clusters t.cluster ≡ Some g → g.since ≡ clock.time → begins clock t ≡ true
    begins_since k t g there here is = let e = since_at t.cluster 0 g (can_since k t there) here in eq-eqb (slice_index clock.since t.cluster) clock.time (omega (arith, e, is))

    pub next : AreNext flat.tables clock s.signals.items shown.spans
    next j t c there is here =
        let l = shown.signals.are j t there in
        let g = cluster_there j t there in
        let h = before_it t.cluster g.0 g.1 in
        let i : IsAt model flat (t.cluster + 1) g.0 c = at.each t.cluster g.0 c g.1 here in
        let now : g.0.since ≡ clock.time = since_begins j t g.0 there g.1 is in
        elim (adv.clusters t.cluster h.0 g.0 h.1 g.1) [
          | Began over origin since old ↦ subst (λ m. IsChain (shown.spans m ++ span_in flat.tables clock.time c t ∷ [])) (sym l.signal_is)
              (began_chain t.cluster t.port l.port l.drives h.0 g.0 c t h.1 g.1 i refl l.module_is origin since old)
          | Stayed over origin since old new ↦ absurd (let e = early t.cluster h.0 g.0 h.1 since in omega (arith, e, now, later))
        ]

    module _ (t1 : TrackingOf) (r1 : TraceSeen) (began : IsBeginning flat.tables clock s.signals.items (length s.signals.items) s.tracking t1 s.trace r1) where
      b : BegunWith flat.tables clock s.signals.items (length s.signals.items) t1.list r1.rows flat.tables.traces (events_before model flat start clock.time) shown.spans shown.samples
      b = began.took flat.tables.traces (events_before model flat start clock.time) shown.spans shown.samples next shown.holds

      -- a signal whose period goes on doesn't begin one
      not_among : (n number : ℕ) (port : PortRow) (f : IsFound s.signals.items n number port) (g : ClusterAt) → slice_get v.clusters n ≡ Some g → (g.since ≡ clock.time → ⊥) → BeginsAmong clock s.signals.items (length s.signals.items) port.signal → ⊥
      not_among n number port f g there apart a =
          let k : a.place ≡ f.place = shown.signals.once a.place f.place a.it f.it a.there f.there (a.same ∙ sym f.signal) in
          let e : a.it ≡ f.it = some_same a.it f.it (sym a.there ∙ ap (slice_get s.signals.items) k ∙ f.there) in
          apart (since_begins f.place f.it g f.there (ap (slice_get v.clusters) f.cluster ∙ there) (ap (begins clock) (sym e) ∙ a.begun))

      is_among : (n number : ℕ) (port : PortRow) (f : IsFound s.signals.items n number port) (g : ClusterAt) → slice_get v.clusters n ≡ Some g → g.since ≡ clock.time → begins clock f.it ≡ true
      is_among n number port f g there is = begins_since f.place f.it g f.there (ap (slice_get v.clusters) f.cluster ∙ there) is

      pub onward_later : IsOnward flat model start clock.time w v s shown t1 r1
      onward_later = record {
        now = b.now;
        holds = b.holds;
        spans = λ n number port g drives there. spans_now n number port g drives there (found flat s.signals.items n number port shown.signals drives) (before_it n g there);
        since = λ n number port g place u drives there here same. since_now n number port g place u drives there here same (found flat s.signals.items n number port shown.signals drives) (before_it n g there);
        chain = λ n number port drives. chain_now n number port drives (found flat s.signals.items n number port shown.signals drives);
        next = λ n number port g place u drives there here same more. next_now n number port g place u drives there here same more (found flat s.signals.items n number port shown.signals drives) (before_it n g there);
        none = λ signal unlisted. b.have.other signal (λ a. unlisted a.place a.it a.there a.same) ∙ shown.none signal unlisted;
        width = began.width;
        about = began.about;
      }
        where
          apart : (n : ℕ) (h g : ClusterAt) → slice_get w.clusters n ≡ Some h → g.since ≡ h.since → g.since ≡ clock.time → ⊥
          apart n h g there since now = absurd (let e = early n h g there since in omega (arith, e, now, later))

          spans_now : (n number : ℕ) (port : PortRow) (g : ClusterAt) (drives : DrivesTraced flat n number port) → slice_get v.clusters n ≡ Some g → IsFound s.signals.items n number port → (h : ClusterAt) × (slice_get w.clusters n ≡ Some h)
              → b.now port.signal ≡ column_spans port (shown.each n number port drives).start g.origin (periods_of g)
          spans_now n number port g drives there f h =
              let c = get_inside clock.clusters n (let i = slice_get_within v.clusters n g there in let e = at.same in omega (arith, i, e)) in
              let i : IsAt model flat (n + 1) g c.0 = at.each n g c.0 there c.1 in
              let here : slice_get clock.clusters f.it.cluster ≡ Some c.0 = ap (slice_get clock.clusters) f.cluster ∙ c.1 in
              elim (adv.clusters n h.0 g h.1 there) [
                | Began over origin since old ↦ ap b.now (sym f.signal)
                    ∙ b.have.begun f.place f.it c.0 (slice_get_within s.signals.items f.place f.it f.there) f.there (is_among n number port f g there since) here
                    ∙ ap (λ m. shown.spans m ++ span_in flat.tables clock.time c.0 f.it ∷ []) f.signal
                    ∙ began_spans n number port drives h.0 g c.0 f.it h.1 there i f.port_is f.module_is origin since old
                | Stayed over origin since old new ↦ b.have.other port.signal (not_among n number port f g there (apart n h.0 g h.1 since))
                    ∙ stayed_spans n number port drives h.0 g c.0 f.it h.1 there i f.port_is f.module_is origin old new
              ]

          since_now : (n number : ℕ) (port : PortRow) (g : ClusterAt) (place : ℕ) (u : TrackedOf) → DrivesTraced flat n number port → slice_get v.clusters n ≡ Some g → slice_get t1.list place ≡ Some u → u.signal ≡ port.signal
              → IsFound s.signals.items n number port → (h : ClusterAt) × (slice_get w.clusters n ≡ Some h) → u.since ≡ g.since
          since_now n number port g place u drives there here same f h = elim (adv.clusters n h.0 g h.1 there) [
            | Began over origin since old ↦ began.started.here place u here (record {
              place = f.place;
              it = f.it;
              below = slice_get_within s.signals.items f.place f.it f.there;
              there = f.there;
              begun = is_among n number port f g there since;
              same = f.signal ∙ sym same;
            }) ∙ sym since
            | Stayed over origin since old new ↦ (
                let o = began.started.others place u (λ a. not_among n number port f g there (apart n h.0 g h.1 since) (subst (BeginsAmong clock s.signals.items (length s.signals.items)) same a)) here in
                let x = shown.each n number port drives in
                x.since place u o same ∙ ap (λ (k : ClusterAt). k.since) (some_same x.cluster h.0 (sym x.there ∙ h.1)) ∙ sym since)
          ]

          chain_now : (n number : ℕ) (port : PortRow) → DrivesTraced flat n number port → IsFound s.signals.items n number port → IsChain (b.now port.signal)
          chain_now n number port drives f = go (begins clock f.it) refl
            where
              x : IsShownOf model flat start.shown w.clusters n number port shown.spans shown.samples s.tracking.list
              x = shown.each n number port drives

              go : (begun : Bool) → begins clock f.it ≡ begun → IsChain (b.now port.signal)
              go true is =
                  let i = slice_get_within w.clusters n x.cluster x.there in
                  let c = get_inside clock.clusters n (let e = adv.same in let l = at.same in omega (arith, i, e, l)) in
                  let here : slice_get clock.clusters f.it.cluster ≡ Some c.0 = ap (slice_get clock.clusters) f.cluster ∙ c.1 in
                  subst IsChain (sym (ap b.now (sym f.signal) ∙ b.have.begun f.place f.it c.0 (slice_get_within s.signals.items f.place f.it f.there) f.there is here))
                  (next f.place f.it c.0 f.there is here)
              go false is = subst IsChain (sym (b.have.other port.signal (λ a.
                  let k : a.place ≡ f.place = shown.signals.once a.place f.place a.it f.it a.there f.there (a.same ∙ sym f.signal) in
                  let e : a.it ≡ f.it = some_same a.it f.it (sym a.there ∙ ap (slice_get s.signals.items) k ∙ f.there) in
                  true_false (sym a.begun ∙ ap (begins clock) e ∙ is)))) x.chain

          next_now : (n number : ℕ) (port : PortRow) (g : ClusterAt) (place : ℕ) (u : TrackedOf) → DrivesTraced flat n number port → slice_get v.clusters n ≡ Some g → slice_get t1.list place ≡ Some u → u.signal ≡ port.signal → 0 < u.stamps.left
              → IsFound s.signals.items n number port → (h : ClusterAt) × (slice_get w.clusters n ≡ Some h) → g.since ≤ u.stamps.time
          next_now n number port g place u drives there here same more f h = elim (adv.clusters n h.0 g h.1 there) [
            | Began over origin since old ↦ (let e = began.started.from place u here (record {
              place = f.place;
              it = f.it;
              below = slice_get_within s.signals.items f.place f.it f.there;
              there = f.there;
              begun = is_among n number port f g there since;
              same = f.signal ∙ sym same;
            }) in omega (arith, e, since))
            | Stayed over origin since old new ↦ (
                let o = began.started.others place u (λ a. not_among n number port f g there (apart n h.0 g h.1 since) (subst (BeginsAmong clock s.signals.items (length s.signals.items)) same a)) here in
                let x = shown.each n number port drives in
                let m = x.next place u o same more in
                let e : x.cluster.since ≡ h.0.since = ap (λ (k : ClusterAt). k.since) (some_same x.cluster h.0 (sym x.there ∙ h.1)) in omega (arith, m, e, since))
          ]

  -- the first instant
  pub onward_first : clock.time ≡ 0 → IsOnward flat model start clock.time w v s shown s.tracking s.trace
  onward_first at_zero = record {
    now = shown.spans;
    holds = shown.holds;
    spans = λ n number port g drives there. spans_now n number port g drives there (found flat s.signals.items n number port shown.signals drives) (before_it n g there);
    since = λ n number port g place u drives there here same. since_now n number port g place u drives there here same (found flat s.signals.items n number port shown.signals drives) (before_it n g there);
    chain = λ n number port drives. (shown.each n number port drives).chain;
    next = λ n number port g place u drives there here same more. next_now n number port g place u drives there here same more (found flat s.signals.items n number port shown.signals drives) (before_it n g there);
    none = shown.none;
    width = refl;
    about = refl;
  }
    where
      spans_now : (n number : ℕ) (port : PortRow) (g : ClusterAt) (drives : DrivesTraced flat n number port) → slice_get v.clusters n ≡ Some g → IsFound s.signals.items n number port → (h : ClusterAt) × (slice_get w.clusters n ≡ Some h)
          → shown.spans port.signal ≡ column_spans port (shown.each n number port drives).start g.origin (periods_of g)
      spans_now n number port g drives there f h =
          let c = get_inside clock.clusters n (let i = slice_get_within v.clusters n g there in let e = at.same in omega (arith, i, e)) in
          let i : IsAt model flat (n + 1) g c.0 = at.each n g c.0 there c.1 in
          elim (adv.clusters n h.0 g h.1 there) [
            | Began over origin since old ↦ absurd (none_at_zero n number port drives h.0 g c.0 f.it h.1 there i f.port_is f.module_is at_zero over old)
            | Stayed over origin since old new ↦ stayed_spans n number port drives h.0 g c.0 f.it h.1 there i f.port_is f.module_is origin old new
          ]

      since_now : (n number : ℕ) (port : PortRow) (g : ClusterAt) (place : ℕ) (u : TrackedOf) → DrivesTraced flat n number port → slice_get v.clusters n ≡ Some g → slice_get s.tracking.list place ≡ Some u → u.signal ≡ port.signal
          → IsFound s.signals.items n number port → (h : ClusterAt) × (slice_get w.clusters n ≡ Some h) → u.since ≡ g.since
      since_now n number port g place u drives there here same f h =
          let c = get_inside clock.clusters n (let i = slice_get_within v.clusters n g there in let e = at.same in omega (arith, i, e)) in
          let i : IsAt model flat (n + 1) g c.0 = at.each n g c.0 there c.1 in
          elim (adv.clusters n h.0 g h.1 there) [
            | Began over origin since old ↦ absurd (none_at_zero n number port drives h.0 g c.0 f.it h.1 there i f.port_is f.module_is at_zero over old)
            | Stayed over origin since old new ↦ (let x = shown.each n number port drives in x.since place u here same ∙ ap (λ (k : ClusterAt). k.since) (some_same x.cluster h.0 (sym x.there ∙ h.1)) ∙ sym since)
          ]

      next_now : (n number : ℕ) (port : PortRow) (g : ClusterAt) (place : ℕ) (u : TrackedOf) → DrivesTraced flat n number port → slice_get v.clusters n ≡ Some g → slice_get s.tracking.list place ≡ Some u → u.signal ≡ port.signal → 0 < u.stamps.left
          → IsFound s.signals.items n number port → (h : ClusterAt) × (slice_get w.clusters n ≡ Some h) → g.since ≤ u.stamps.time
      next_now n number port g place u drives there here same more f h =
          let a = since_now n number port g place u drives there here same f h in
          let x = shown.each n number port drives in
          let m = x.next place u here same more in
          let b = x.since place u here same in omega (arith, a, b, m)

  -- then the samples, and the values
  module _ (t1 t2 : TrackingOf) (r1 r2 r3 : TraceSeen) (values : List Raw) (events : List EventColumn) (on : IsOnward flat model start clock.time w v s shown t1 r1)
      (took : TakesSamples traced t1.list t2.list r1.rows r2.rows) (labeled : labels t2.list ≡ labels t1.list) (sinced : sinces t2.list ≡ sinces t1.list) (laters : AreLater t1.list t2.list) (width : t2.width ≡ t1.width) (about : r2.about ≡ r1.about)
      (showed : IsShowing values clock.time (length s.events.items) s.events.items events r2 r3) (vals : values ≡ values_before model flat start (clock.time + 1)) where
    abbrev samples : ℕ → List Raw
    samples = with_traced shown.samples traced

    holds_samples : Holds flat.tables.traces (events_before model flat start clock.time) on.now samples t2.list r2.rows
    holds_samples = took flat.tables.traces (events_before model flat start clock.time) on.now shown.samples on.holds

    holds_values : Holds flat.tables.traces (events_before model flat start (clock.time + 1)) on.now samples t2.list r3.rows
    holds_values =
        holds_cells flat.tables.traces (with_changes (values_before model flat start (clock.time + 1)) clock.time s.events.items (length s.events.items) (events_before model flat start clock.time)) (events_before model flat start (clock.time + 1)) on.now samples t2.list r3.rows
        (events_agree model flat start clock.time s.events.items shown.events shown.stamped)
        (subst (λ (l : List Raw). Holds flat.tables.traces (with_changes l clock.time s.events.items (length s.events.items) (events_before model flat start clock.time)) on.now samples t2.list r3.rows) vals
        (showed.took flat.tables.traces (events_before model flat start clock.time) on.now samples t2.list (λ k e there. let x = shown.events.are k e there in (x.row, x.there, x.event)) holds_samples))

    each : (n number : ℕ) (port : PortRow) → DrivesTraced flat n number port → IsShownOf model flat start.shown v.clusters n number port on.now samples t2.list
    each n number port drives =
        let x = shown.each n number port drives in
        let g = get_inside v.clusters n (let i = slice_get_within w.clusters n x.cluster x.there in let e = adv.same in omega (arith, i, e)) in
        record {
          cluster = g.0;
          there = g.1;
          start = x.start;
          starts = x.starts;
          first = elim (adv.clusters n x.cluster g.0 x.there g.1) [
            | Began over origin since old ↦ subst (λ l. HoldsFirst x.start port (l ++ g.0.now ∷ [])) (sym old) (holds_more x.start port (periods_of x.cluster) (g.0.now ∷ []) (some_periods x.cluster.old x.cluster.now) x.first)
            | Stayed over origin since old new ↦ subst (HoldsFirst x.start port) (sym (stayed_periods x.cluster g.0 old new)) x.first
          ];
          chain = on.chain n number port drives;
          spans_are = on.spans n number port g.0 drives g.1;
          samples_are = subst (λ l. AreSamplesOf model flat (n + 1) number port x.start g.0 (shown.samples port.signal ++ l)) (sym (samples_same port.signal traced))
              (adv.samples n number port x.start x.cluster g.0 (shown.samples port.signal) x.there g.1 drives.traced x.samples_are);
          since = λ place u there same. (let m = moved t1.list t2.list place u labeled sinced there in sym m.3 ∙ on.since n number port g.0 place m.0 drives g.1 m.1 (m.2 ∙ same));
          next = λ place u there same more. (
              let m = moved t1.list t2.list place u labeled sinced there in
              let l = laters place m.0 u m.1 there in
              let a = l.0 in let b = l.1 in
              let e = on.next n number port g.0 place m.0 drives g.1 m.1 (m.2 ∙ same) (omega (arith, more, b)) in omega (arith, e, a));
        }

    pub shown_after : (new : Shown) → new.tracking ≡ t2 → new.trace ≡ r3 → new.signals ≡ s.signals → new.events.items ≡ events → IsShown model flat start (clock.time + 1) v new
    shown_after new tracking trace signals columns = record {
      spans = on.now;
      samples = samples;
      holds = subst (λ (t : TrackingOf). Holds flat.tables.traces (events_before model flat start (clock.time + 1)) on.now samples t.list new.trace.rows) (sym tracking)
          (subst (λ (r : TraceSeen). Holds flat.tables.traces (events_before model flat start (clock.time + 1)) on.now samples t2.list r.rows) (sym trace) holds_values);
      signals = subst (λ l. AreTracedSignals flat l) (sym (ap (λ l. l.items) signals)) shown.signals;
      each = λ n number port drives. subst (λ (t : TrackingOf). IsShownOf model flat start.shown v.clusters n number port on.now samples t.list) (sym tracking) (each n number port drives);
      none = λ signal unlisted. on.none signal (λ place x there same. unlisted place x (ap (λ l. slice_get l.items place) signals ∙ there) same);
      events = subst (AreEventColumns flat.tables.traces (values_before model flat start (clock.time + 1))) (sym columns)
          (columns_shown flat.tables.traces (values_before model flat start clock.time) (values_before model flat start (clock.time + 1)) s.events.items events shown.events
          (subst (λ (l : List Raw). HaveShown l (length s.events.items) s.events.items events) vals showed.shown));
      stamped = λ column row at event t low. shown.stamped column row at event t (omega (arith, low));
      begun = begun_before;
      width = ap (λ (t : TrackingOf). t.width) tracking ∙ width ∙ on.width ∙ shown.width;
      columns = ap (λ (r : TraceSeen). length r.about.variables) trace ∙ ap (λ (a : AboutSeen). length a.variables) (showed.about ∙ about ∙ on.about) ∙ shown.columns;
    }

-- rows are written before the periods that begin alone
pub begun_still : (flat : Flat) (clock : ClockAt) (signals : List TracedSignal) (old new : TrackingOf) (before after : TraceSeen) → before.rows.upto ≤ clock.time → HasBegun flat.tables clock signals old new before after
    → AreSince before.rows.upto old.list → AreSince after.rows.upto new.list
begun_still flat clock signals old new before after low (First at_zero same rows) since = subst (λ (r : TraceSeen). AreSince r.rows.upto new.list) (sym rows) (subst (λ (t : TrackingOf). AreSince before.rows.upto t.list) (sym same) since)
begun_still flat clock signals old new before after low (Later later b) since = subst (λ n. AreSince n new.list) (sym b.upto) (begun_since clock signals (length signals) before.rows.upto old.list new.list low b.started since)

pub shows_instant : (flat : Flat) (clock : ClockAt) (traced : List Traced) (values : List Raw) (old new : Shown) (t1 t2 : TrackingOf) (r1 r2 r3 : TraceSeen) → CanTake flat clock traced values old
    → HasBegun flat.tables clock old.signals.items old.tracking t1 old.trace r1 → TakesSamples traced t1.list t2.list r1.rows r2.rows → labels t2.list ≡ labels t1.list → sinces t2.list ≡ sinces t1.list → AreLater t1.list t2.list → t2.width ≡ t1.width
    → r2.about ≡ r1.about → IsShowing values clock.time (length old.events.items) old.events.items new.events.items r2 r3
    → new.tracking ≡ t2 → new.trace ≡ r3 → new.signals ≡ old.signals → ShowsInstant flat clock traced values old new
shows_instant flat clock traced values old new t1 t2 r1 r2 r3 can begun took labeled sinced laters width about showed tracking trace signals model start w v limits shown adv at vals =
    shown_after model flat clock start w v limits old shown traced adv at t1 t2 r1 r2 r3 values new.events.items (by_begun begun) took labeled sinced laters width about showed vals new tracking trace signals refl
  where
    by_begun : HasBegun flat.tables clock old.signals.items old.tracking t1 old.trace r1 → IsOnward flat model start clock.time w v old shown t1 r1
    by_begun (First at_zero same rows) = subst (λ (t : TrackingOf). IsOnward flat model start clock.time w v old shown t r1) (sym same)
        (subst (λ (r : TraceSeen). IsOnward flat model start clock.time w v old shown old.tracking r) (sym rows) (onward_first model flat clock start w v limits old shown traced adv at at_zero))
    by_begun (Later later b) = let c = can.begin later in onward_later model flat clock start w v limits old shown traced adv at later c.since c.clusters t1 r1 b
