-- What an instant begins, and what its firings trace, is what the history has.
use Rattle.std.proofs.Common.{◌≡◌, ◌∙◌, ◌&&◌, ℕ, ◌+◌, Bool, true, false, List, [], ◌++◌, Option, Some, None, option_map, length, nat_eq, slice_get, slice_index_or, refl, sym, ap, subst, arith}
use Rattle.std.proofs.lemmas.Bool.{eqb-true}
use Rattle.std.proofs.lemmas.Option.{slice_get_within}
use Rattle.tdf_convert.specs.Outputs.{OutputsOf}
use Rattle.tdf_sim_instants.proofs.Api.{boundaries_add_none, crossed_long, passes_trace, told_get, told_long}
use Rattle.tdf_sim_instants.specs.Crossing.{crossing_of}
use Rattle.tdf_sim_instants.specs.CrossingLaws.{Becomes, world_crossed}
use Rattle.tdf_sim_instants.specs.Engine.{HasHadInstant}
use Rattle.tdf_sim_instants.specs.InstantLaws.{InstantGoes, IsModelOf, IsNow}
use Rattle.tdf_sim_instants.specs.declared.engine.Engine.{Engine}
use Rattle.tdf_events.specs.Side.{SideOf}
use Rattle.tdf_sim_instants.specs.Below.{AreSamplesOf, ClusterOf, HavePassed, HaveTraced, IsAt, RunOf, pass_at, pass_run, signal_samples}
use Rattle.tdf_fixed.specs.declared.raw.Raw.{Raw}
use Rattle.tdf_bind.specs.declared.model.Flat.{Flat}
use Rattle.tdf_streams.proofs.Api.{get_inside, some_same}
use Rattle.tdf_sim_history.specs.Instant.{is_over}
use Rattle.tdf_sim_history.specs.World.{Change, ClusterAt, World}
use Rattle.tdf_bind_tables.specs.FlatTables.{FlatTablesOf}
use Rattle.tdf_sim_history.specs.Telling.{told_more, world_told}
use Rattle.tdf_exec_layout.specs.Traced.{SignalsHaveOnePort}
use Rattle.tdf_sim_runs.proofs.Keeping.{IsInPeriod, firings_keep}
use Rattle.tdf_sim_runs.proofs.Leading.{from_before}
use Rattle.tdf_sim_runs.specs.Advancing.{InstantAdvances}
use Rattle.tdf_sim_shown.specs.Below.{Advances, HasAdvanced}
use Rattle.tdf_lang_tree.specs.Pure.{PureTree}
use Rattle.tdf_bind_connections.specs.declared.modules.PortRow.{PortRow}
use Rattle.tdf_sim_history.specs.Rules.{rules_of}
use Rattle.tdf_sim_history.specs.Columns.{ColumnStart}

and_left : (a b : Bool) → (a && b) ≡ true → a ≡ true
and_left true b is = refl
and_left false b is = absurd cc

advances_by : (tables : FlatTablesOf) (time : ℕ) (h mid g : ClusterAt) → Becomes tables time h mid → IsInPeriod mid g → Advances time h g
advances_by tables time h mid g (Becomes.Stayed going same) kept = Advances.Stayed going (kept.origin ∙ ap (λ (z : ClusterAt). z.origin) same) (kept.since ∙ ap (λ (z : ClusterAt). z.since) same) (kept.old ∙ ap (λ (z : ClusterAt). z.old) same) (kept.now ∙ ap (λ (z : ClusterAt). z.now) same)
advances_by tables time h mid g (Becomes.Began table over is) kept = Advances.Began over (kept.origin ∙ ap (λ (z : ClusterAt). z.origin) is) (kept.since ∙ ap (λ (z : ClusterAt). z.since) is) (kept.old ∙ ap (λ (z : ClusterAt). z.old) is)
advances_by tables time h mid g (Becomes.Changed table counts period entries bounds over is) kept = Advances.Began over (kept.origin ∙ ap (λ (z : ClusterAt). z.origin) is) (kept.since ∙ ap (λ (z : ClusterAt). z.since) is) (kept.old ∙ ap (λ (z : ClusterAt). z.old) is)

-- so is one of which something is told
advances_told : (time : ℕ) (l : List Change) (h g : ClusterAt) → Advances time h g → Advances time (told_more l h) g
advances_told time l h g (Advances.Began over origin since old) = Advances.Began over origin since old
advances_told time l h g (Advances.Stayed over origin since old now) = Advances.Stayed over origin since old now

module _ (one_port : SignalsHaveOnePort) (model : PureTree) (flat : Flat) (time : ℕ) (w : World SideOf) (e f : Engine) (left rest : ℕ) (m : IsModelOf model flat) (now : IsNow model flat w e left)
    (none : e.outputs.traced ≡ []) (had : HasHadInstant flat time e f left rest) (goes : InstantGoes model flat time w e f left rest had) where
  long : length had.crossed.clusters ≡ length w.clusters
  long = (crossed_long ⊥ flat time (crossing_of e.clusters.items e.since.items left []) (length e.clusters.items) had.crossed had.boundaries).0 ∙ sym now.at.same

  abbrev v : World SideOf
  v = world_crossed w goes.crossing.clusters had.crossed.left had.crossed.planned

  abbrev x : RunOf
  x = pass_run had.crossed.clusters had.fired.outputs had.crossed.left

  traces : HaveTraced model flat goes.crossing.clusters goes.passing.clusters x had.run
  traces = passes_trace model flat (rules_of model flat) (pass_at time had.crossed.since f.inputs.items) v x one_port m.sound m.checked m.is m.limits
      goes.crossing.at refl goes.ready (length w.clusters) had.run had.fired.firings.sent
      (subst (λ n. HavePassed flat (pass_at time had.crossed.since f.inputs.items) n x had.run had.fired.firings.sent) long had.fired.firings.passed)
      goes.passing

  new_is : traces.new ≡ f.outputs.traced
  new_is = sym (traces.gained ∙ ap (λ l. l ++ traces.new) had.fired.none_traced) ∙ sym (ap (λ (o : OutputsOf). o.traced) had.traced)

  at_end : (h : ClusterAt) → is_over time h ≡ true → h.place ≡ length h.entries
  at_end h over = eqb-true h.place (length h.entries) (and_left (nat_eq h.place (length h.entries)) (nat_eq time (h.since + h.now.info.period)) over)

  -- a boundary adds no sample
  crossed_samples : (n number : ℕ) (port : PortRow) (cs : ColumnStart) (h mid : ClusterAt) (c : ClusterOf) (samples : List Raw) → IsAt model flat (n + 1) h c → Becomes flat.tables time h mid → AreSamplesOf model flat (n + 1) number port cs h samples
      → AreSamplesOf model flat (n + 1) number port cs mid samples
  crossed_samples n number port cs h mid c samples at (Becomes.Stayed going same) are = subst (λ z. AreSamplesOf model flat (n + 1) number port cs z samples) (sym same) are
  crossed_samples n number port cs h mid c samples at (Becomes.Began table over is) are = subst (λ z. AreSamplesOf model flat (n + 1) number port cs z samples) (sym is)
      (boundaries_add_none.same model flat (n + 1) number time port cs h c samples table at (at_end h over) are)
  crossed_samples n number port cs h mid c samples at (Becomes.Changed table counts period entries bounds over is) are = subst (λ z. AreSamplesOf model flat (n + 1) number port cs z samples) (sym is)
      (boundaries_add_none.new model flat (n + 1) number time port cs h c samples table counts period entries bounds at (at_end h over) are)

  cluster_of : (n : ℕ) (h : ClusterAt) → slice_get w.clusters n ≡ Some h → (c : ClusterOf) × IsAt model flat (n + 1) h c
  cluster_of n h h_at =
      let i = slice_get_within w.clusters n h h_at in
      let s = now.at.same in
      let c = get_inside e.clusters.items n (omega (arith, i, s)) in (c.0, now.at.each n h c.0 h_at c.1)

  abbrev told : List (List Change)
  told = goes.crossing.told

  -- a cluster of which something is told is one of those that there were
  of_told : (n : ℕ) (h : ClusterAt) → slice_get (world_told told w).clusters n ≡ Some h → (b : ClusterAt) × (slice_get w.clusters n ≡ Some b) × (told_more (slice_index_or told n []) b ≡ h)
  of_told n h at = go (slice_get w.clusters n) refl (sym (told_get told n w) ∙ at)
    where
      go : (o : Option ClusterAt) → slice_get w.clusters n ≡ o → option_map (told_more (slice_index_or told n [])) o ≡ Some h → (b : ClusterAt) × (slice_get w.clusters n ≡ Some b) × (told_more (slice_index_or told n []) b ≡ h)
      go None there is = absurd cc
      go (Some b) there is = (b, there, some_same (told_more (slice_index_or told n []) b) h is)

  pub advanced : HasAdvanced model flat time (world_told told w) goes.world f.outputs.traced
  advanced = record {
    same =
        let keeps = firings_keep model flat (rules_of model flat) time (length w.clusters) v _ goes.passing.goes in
        ap length goes.same ∙ keeps.same ∙ goes.crossing.at.same ∙ long ∙ sym (told_long told w);
    clusters = λ n h g h_at g_at. (
        let o = of_told n h h_at in
        let b = from_before model flat time w e f left rest had goes n g g_at in
        subst (λ z. Advances time z g) o.2 (advances_told time (slice_index_or told n []) o.0 g
        (subst (λ z. Advances time z g) (some_same b.0 o.0 (sym b.2 ∙ o.1)) (advances_by flat.tables time b.0 b.1 g b.4 b.5))));
    samples = λ n number port cs h g samples h_at g_at traced are. (
        let o = of_told n h h_at in
        let b = from_before model flat time w e f left rest had goes n g g_at in
        let c = cluster_of n o.0 o.1 in
        let becomes = subst (λ z. Becomes flat.tables time z b.1) (some_same b.0 o.0 (sym b.2 ∙ o.1)) b.4 in
        let bare : AreSamplesOf model flat (n + 1) number port cs o.0 samples = untell n number port cs (slice_index_or told n []) o.0 samples (subst (λ z. AreSamplesOf model flat (n + 1) number port cs z samples) (sym o.2) are) in
        subst (λ l. AreSamplesOf model flat (n + 1) number port cs g (samples ++ signal_samples port.signal l)) new_is
        (traces.samples n number port cs b.1 g samples b.3 (sym (ap (λ l. slice_get l n) goes.same) ∙ g_at) traced (crossed_samples n number port cs o.0 b.1 c.0 samples c.1 becomes bare)));
  }
    where
      untell : (n number : ℕ) (port : PortRow) (cs : ColumnStart) (l : List Change) (b : ClusterAt) (samples : List Raw) → AreSamplesOf model flat (n + 1) number port cs (told_more l b) samples → AreSamplesOf model flat (n + 1) number port cs b samples
      untell n number port cs l b samples are = record { many = are.many; are = are.are }

pub instant_advances : SignalsHaveOnePort → InstantAdvances
instant_advances one_port model flat time w e f left rest m now none had goes = advanced one_port model flat time w e f left rest m now none had goes
