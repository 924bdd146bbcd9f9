-- What stands by a valid snapshot goes on.
use Rattle.std.proofs.Common.{◌≡◌, ◌∙◌, ◌≤◌, ◌+◌, ◌-◌, ℕ, All, Option, Some, None, List, [], ◌∷◌, map, slice_get, refl, sym, ap, subst, arith}
use Rattle.std.proofs.lemmas.List.{length-map}
use Rattle.std.proofs.lemmas.List.Elements.{All-nil}
use Rattle.tdf_bind.specs.declared.model.Flat.{Flat}
use Rattle.tdf_bind_connections.specs.declared.drivers.SignalRow.{SignalRow}
use Rattle.tdf_bind_connections.specs.declared.traces.TraceRow.{TraceRow}
use Rattle.tdf_dynamic_first.specs.declared.first.First.{First}
use Rattle.tdf_events.specs.Kernel.{KernelOf, IsKernelOf, side_of}
use Rattle.tdf_events.specs.Runnable.{AreOfSignals, signal_formats}
use Rattle.tdf_events.specs.Side.{SideOf}
use Rattle.tdf_events.specs.State.{IsKernelState, resumed_side}
use Rattle.tdf_sim_instants.specs.Below.{AreAt, ClusterOf, offset_in}
use Rattle.tdf_fixed.specs.declared.raw.Raw.{Raw}
use Rattle.tdf_lang_tree.specs.Pure.{PureTree}
use Rattle.tdf_saved.specs.State.{SnapshotOf}
use Rattle.tdf_schedule.specs.declared.entry.Entry.{Entry}
use Rattle.tdf_sim_history.specs.Continuing.{HasToldCounts}
use Rattle.tdf_sim_instants.specs.Engine.{IsEngineOf, IsReadyAt}
use Rattle.tdf_sim_instants.specs.InstantLaws.{IsModelOf}
use Rattle.tdf_sim_instants.specs.Settling.{IsBefore}
use Rattle.tdf_sim_instants.specs.Times.{due_offset}
use Rattle.tdf_sim_instants.specs.declared.engine.Engine.{Engine}
use Rattle.tdf_sim_runs.proofs.Clock.{can_tell, done_so, early, ends_late, in_progress, places}
use Rattle.tdf_sim_runs.proofs.GoingOn.{is_before, runs_on}
use Rattle.tdf_sim_runs.proofs.Judged.{are_states, is_valid, stamped_from}
use Rattle.tdf_sim_runs.specs.Reopened.{CanReopen}
use Rattle.tdf_sim_runs.specs.declared.ready.Standing.{Standing}
use Rattle.tdf_sim_runs.specs.machine.Standing.{IsStanding, clock_in}
use Rattle.tdf_sim_shown.specs.Below.{ArePlansOf, AreUnderPlans, CanBeShown, ClockAt, ClustersStandThere, HasMembersOf, HasTimesOf, HavePlansFor, IsGoodStart, IsValid, NoneIsDueBefore, PlansAreTheirs, PlansAreThere, ResumedAreGood, Shown, SoundCanBeShown, StandsStill, first_unknown, least_within, resumed_clusters, resumed_world, rows_from_saved, tracked_of, variables_of}
use Rattle.tdf_sim_runs.specs.Running.{CanGoOn, IsRunning}
use Rattle.tdf_sim_runs.specs.declared.running.Running.{Running}
use Rattle.tdf_sim_shown.specs.Resumed.{CanGoOnFrom, HaveEventValues, LeavesSince, ShowsResumed}
use Rattle.tdf_sim_shown.proofs.Api.{next_late}
use Rattle.tdf_sim_shown.specs.Columns.{AreGoodColumns}
use Rattle.tdf_trace.specs.States.{AreColumnStates, AreStampedFrom}

-- the least of some times is within the limit
least_limit : (limit : ℕ) (times : List ℕ) → least_within limit times ≤ limit
unfolding least_within
least_limit limit [] = omega arith
least_limit limit (t ∷ ts) = let r = least_limit limit ts in omega (arith, r)

module _ (flat : Flat) (s : SnapshotOf) (x : Standing) (can : CanReopen flat) (times : HasTimesOf s) (members : HasMembersOf flat s) (stands : IsStanding flat s x)
    (law_clusters : ClustersStandThere) (law_plans : PlansAreThere) (law_theirs : PlansAreTheirs) (law_shown : SoundCanBeShown) where
  shown_can : CanBeShown flat.tables
  shown_can = law_shown can.model flat can.of.sound can.of.is can.of.limits can.runnable

  -- plans under which the clusters go on
  pub plans : HavePlansFor flat s x.clusters.items
  plans = law_plans flat s x.clusters.items stands.clusters

  pub stand_under : (model : PureTree) (firsts : List First) → IsModelOf model flat → AreUnderPlans firsts x.clusters.items → AreAt model flat x.since.items (resumed_clusters model flat firsts s []) x.clusters.items
  stand_under model firsts of under = subst (λ l. AreAt model flat l (resumed_clusters model flat firsts s []) x.clusters.items) (sym stands.since)
      (law_clusters model flat firsts s x.clusters.items of.checked stands.clusters under)

  pub are_at : (model : PureTree) (firsts : List First) → IsModelOf model flat → ArePlansOf flat s firsts → AreAt model flat x.since.items (resumed_clusters model flat firsts s []) x.clusters.items
  are_at model firsts of are = stand_under model firsts of (law_theirs flat firsts s x.clusters.items can.of.limits members are stands.clusters)

  pub rows_are : (model : PureTree) (firsts : List First) → IsModelOf model flat → ArePlansOf flat s firsts → x.rows ≡ rows_from_saved model flat firsts s
  rows_are model firsts of are = stands.rows model (resumed_clusters model flat firsts s []) (are_at model firsts of are)

  pub good_at : (model : PureTree) (firsts : List First) → IsModelOf model flat → ArePlansOf flat s firsts → AreGoodColumns flat (resumed_clusters model flat firsts s []) s
  good_at model firsts of are = stands.good model (resumed_clusters model flat firsts s []) (are_at model firsts of are)

  -- the trace can go on
  pub can_go : CanGoOnFrom flat (clock_in s x.since.items x.clusters.items)
  can_go = (can_tell flat s x.since.items x.clusters.items can.of.limits times members stands.since stands.clusters can.model (resumed_clusters can.model flat plans.firsts s []) (stand_under can.model plans.firsts can.of plans.under) shown_can).can

  -- the clock with lists that are those
  pub moved : (P : ClockAt → Type 0) (since : List ℕ) (cs : List ClusterOf) → since ≡ x.since.items → cs ≡ x.clusters.items → P (clock_in s since cs) → P (clock_in s x.since.items x.clusters.items)
  moved P since cs since_is cs_is holds = subst (λ (l : List ClusterOf). P (clock_in s x.since.items l)) cs_is (subst (λ (l : List ℕ). P (clock_in s l cs)) since_is holds)

  pub can_go_with : (since : List ℕ) (cs : List ClusterOf) → since ≡ x.since.items → cs ≡ x.clusters.items → CanGoOnFrom flat (clock_in s since cs)
  can_go_with since cs since_is cs_is = subst (λ (l : List ℕ). CanGoOnFrom flat (clock_in s l cs)) (sym since_is) (subst (λ (l : List ClusterOf). CanGoOnFrom flat (clock_in s x.since.items l)) (sym cs_is) can_go)

  pub from_rows : AreStampedFrom x.rows s.columns
  from_rows = stamped_from flat shown_can.told can.model plans.firsts s members (good_at can.model plans.firsts can.of plans.are) x.rows (rows_are can.model plans.firsts can.of plans.are)

  pub have_values : (k : KernelOf) → IsKernelOf flat k → HaveEventValues flat.tables.traces k.values
  have_values k of column row at event =
      let t = shown_can.told.events column row at event in
      let l = of.values.long in
      let m = length-map flat.tables.de_signals (λ (r : SignalRow). r.format) in omega (arith, t, l, m)

  pub still_valid : (model : PureTree) (firsts : List First) → IsModelOf model flat → ArePlansOf flat s firsts → IsKernelState flat s.time s.kernel → AreColumnStates (variables_of flat.tables) s.time s.columns → IsValid model flat firsts s
  still_valid model firsts of are kernel fit = is_valid flat shown_can.told model firsts s members times are kernel fit (good_at model firsts of are)

  pub states_fit : (model : PureTree) (firsts : List First) → IsValid model flat firsts s → AreColumnStates (variables_of flat.tables) s.time s.columns
  states_fit model firsts valid = are_states flat shown_can.told model firsts s members valid

  module _ (due : NoneIsDueBefore) (still : StandsStill) (law_good : ResumedAreGood) (kernel_is : IsKernelState flat s.time s.kernel) (fit : AreColumnStates (variables_of flat.tables) s.time s.columns)
      (e : Engine) (t : Shown) (since_are : e.since.items ≡ x.since.items) (clusters_are : e.clusters.items ≡ x.clusters.items) (side : side_of e.kernel ≡ resumed_side flat s.time s.kernel) (values : List Raw)
      (values_are : values ≡ e.kernel.values) (of_signals : AreOfSignals (signal_formats flat) e.kernel.values) (shows : ShowsResumed flat (clock_in s x.since.items x.clusters.items) s.columns values x.rows t) where
    engine_at : (model : PureTree) (firsts : List First) → IsModelOf model flat → ArePlansOf flat s firsts → AreAt model flat e.since.items (resumed_clusters model flat firsts s []) e.clusters.items
    engine_at model firsts of are =
        subst (λ l. AreAt model flat l (resumed_clusters model flat firsts s []) e.clusters.items) (sym since_are)
        (subst (λ (l : List ClusterOf). AreAt model flat x.since.items (resumed_clusters model flat firsts s []) l) (sym clusters_are) (are_at model firsts of are))

    pub reopens : (model : PureTree) (firsts : List First) → IsModelOf model flat → ArePlansOf flat s firsts → IsRunning model flat (resumed_world model flat firsts s []) s.time e (s.budget - s.used) t []
    reopens model firsts of are =
        let valid = still_valid model firsts of are kernel_is fit in
        let good : IsGoodStart flat (resumed_world model flat firsts s []) = law_good model flat firsts s [] of.limits valid (All-nil (All HasToldCounts)) in
        runs_on model flat firsts s due still valid good e t (engine_at model firsts of are) side of_signals
        (shows model firsts s of.is valid refl refl (sym (rows_are model firsts of are)) (sym (ap (λ (z : SideOf). z.values) side) ∙ sym values_are) (are_at model firsts of are))

    here : IsValid can.model flat plans.firsts s
    here = still_valid can.model plans.firsts can.of plans.are kernel_is fit

    ready : IsReadyAt s.time e
    ready = record {
      begun = λ n k at. early flat s x.since.items x.clusters.items can.of.limits times members stands.since stands.clusters n k (ap (λ l. slice_get l n) (sym since_are) ∙ at);
      before = λ n k c c_at k_at. done_so flat s x.since.items x.clusters.items can.of.limits times members stands.since stands.clusters n k c (ap (λ l. slice_get l n) (sym since_are) ∙ k_at) (ap (λ l. slice_get l n) (sym clusters_are) ∙ c_at);
      clusters = λ n k c c_at k_at. not_over n k c (ap (λ l. slice_get l n) (sym clusters_are) ∙ c_at) (ap (λ l. slice_get l n) (sym since_are) ∙ k_at);
      side = subst (IsBefore s.time) (sym side) (is_before can.model flat plans.firsts s due still here);
    }
      where
        not_over : (n k : ℕ) (c : ClusterOf) → slice_get x.clusters.items n ≡ Some c → slice_get x.since.items n ≡ Some k → s.time ≤ k + due_offset c (offset_in (slice_get c.entries c.place))
        not_over n k c c_at k_at = by_next (slice_get c.entries c.place) refl
          where
            by_next : (o : Option Entry) → slice_get c.entries c.place ≡ o → s.time ≤ k + due_offset c (offset_in o)
            by_next None at = ends_late flat s x.since.items x.clusters.items can.of.limits times members stands.since stands.clusters n k c k_at c_at
            by_next (Some y) at = next_late flat c (in_progress flat s x.since.items x.clusters.items can.of.limits times members stands.since stands.clusters n c c_at).of k s.time y
                (places flat s x.since.items x.clusters.items can.of.limits times members stands.since stands.clusters n k c k_at c_at) at

    -- a run before its first instant from there on
    abbrev pub reopened : Running → Running
    reopened r = record r { engine = e; shown = t; from = s.time; left = s.budget - s.used }

    rows_early : x.rows ≤ s.time
    rows_early = let e2 = rows_are can.model plans.firsts can.of plans.are in let l = least_limit s.time (map (λ (row : TraceRow). first_unknown s.time (tracked_of flat.tables (resumed_clusters can.model flat plans.firsts s []) row)) flat.tables.traces) in omega (arith, e2, l)

    pub can_reopen : (r : Running) → r.news.items ≡ [] → IsEngineOf flat e → e.outputs.traced ≡ [] → t.trace.rows.upto ≡ x.rows → LeavesSince flat (clock_in s x.since.items x.clusters.items) s.columns x.rows t
        → CanGoOn flat (reopened r)
    can_reopen r empty engine none upto leaves = record {
      engine = engine;
      ready = ready;
      none = none;
      early = (let l = rows_early in omega (arith, upto, l));
      since = λ place u u_at more. (
          let l = leaves can.model plans.firsts s here refl (sym (rows_are can.model plans.firsts can.of plans.are)) (are_at can.model plans.firsts can.of plans.are) place u u_at more in
          omega (arith, upto, l));
      within = λ n k c k_at c_at. (
          let a = ends_late flat s x.since.items x.clusters.items can.of.limits times members stands.since stands.clusters n k c (ap (λ l. slice_get l n) (sym since_are) ∙ k_at) (ap (λ l. slice_get l n) (sym clusters_are) ∙ c_at) in
          let l = rows_early in omega (arith, upto, a, l));
      printable = can.of.limits.in_range;
      some = record {
        model = can.model;
        of = can.of;
        start = resumed_world can.model flat plans.firsts s [];
        handed = [];
        is = subst (IsRunning can.model flat (resumed_world can.model flat plans.firsts s []) s.time e (s.budget - s.used) t) (sym empty) (reopens can.model plans.firsts can.of plans.are);
      };
    }
