-- The world that the snapshot of a run says goes on from that of the run.
use Rattle.std.proofs.Common.{◌≡◌, ◌∙◌, ℕ, zero, suc, ◌+◌, ◌-◌, ◌^◌, ◌<◌, ◌≤◌, false, List, [], ◌∷◌, Some, length, map, option_map, slice_get, slice_index_or, refl, sym, ap, subst, arith}
use Rattle.std.proofs.lemmas.List.{length-map}
use Rattle.std.proofs.lemmas.List.FromFn.{length-enumerate_from}
use Rattle.std.proofs.lemmas.Option.{get_or_from_slice_get, slice_get-map, slice_get_within}
use Rattle.std.proofs.lemmas.Slice.Zip.{length-zip}
use Rattle.std.specs.List.{enumerate_from, zip}
use Rattle.std.specs.Prelude.{Bool}
use Rattle.tdf_balance.specs.Laws.{AnswersExclude, CountsAreUnique}
use Rattle.tdf_bind.specs.declared.model.Flat.{Flat}
use Rattle.tdf_bind_connections.specs.ProcessBlocks.{ProcessRowOf}
use Rattle.tdf_bind_invariants.specs.Formats.{IsSoundModel}
use Rattle.tdf_bind_invariants.specs.Limits.{AreWithinLimits}
use Rattle.tdf_dynamic_first.specs.declared.first.First.{First}
use Rattle.tdf_dynamic_plans.specs.Attributes.{AttrsOf, IsOfCluster}
use Rattle.tdf_dynamic_values.specs.Laws.{ValuesAreOfOne}
use Rattle.tdf_events.proofs.Api.{nothing_stays_waiting, turns_never_grow}
use Rattle.tdf_events.specs.Laws.{HasNothingWaiting}
use Rattle.tdf_events.specs.Side.{SideOf}
use Rattle.tdf_events.specs.State.{IsKernelState, resumed_side}
use Rattle.tdf_events_queue.specs.Times.{IsNonePending}
use Rattle.tdf_exec_layout.specs.Samples.{EdgesHaveFormats}
use Rattle.tdf_exec_parts.specs.States.{IsStateUnder}
use Rattle.tdf_expr.specs.Checked.{IsCheckedOf}
use Rattle.tdf_expr_laws.specs.Cells.{BodiesKeepCells, StartsFit}
use Rattle.tdf_expr_laws.specs.Processes.{ProcessesLeaveSoon}
use Rattle.tdf_lang_tree.specs.Pure.{PureTree}
use Rattle.tdf_saved.specs.State.{ClusterStateOf, SnapshotOf}
use Rattle.tdf_schedule.specs.Laws.{BoundsAreUnique, PlansAreUnique}
use Rattle.tdf_schedule.specs.declared.entry.Plan.{Plan}
use Rattle.tdf_sim_history.proofs.Api.{go_on}
use Rattle.tdf_sim_history.specs.Cells.{world_of}
use Rattle.tdf_sim_history.specs.Continuing.{AllGoOn}
use Rattle.tdf_sim_history.specs.History.{On, history}
use Rattle.tdf_sim_history.specs.Instant.{engine}
use Rattle.tdf_sim_history.specs.Rules.{is_side_due, rules_of}
use Rattle.tdf_sim_history.specs.World.{ClusterAt, World}
use Rattle.tdf_sim_refinement.proofs.Api.{all_at}
use Rattle.tdf_sim_resumed.proofs.Api.{ResumedAt, none_due, resumed_at}
use Rattle.tdf_sim_resumed.specs.Resuming.{resumed_cluster, resumed_clusters}
use Rattle.tdf_sim_resumed.specs.Snapshot.{IsSavedCluster}
use Rattle.tdf_sim_resumed.specs.Starting.{resumed_world}
use Rattle.tdf_sim_split.proofs.Again.{none_on_side, side_again}
use Rattle.tdf_sim_split.proofs.Calm.{IsSteadySide, part_steady}
use Rattle.tdf_sim_split.proofs.Fits.{state_fit}
use Rattle.tdf_sim_split.proofs.Kernel.{is_kernel_state}
use Rattle.tdf_sim_split.proofs.Others.{state_others}
use Rattle.tdf_sim_split.proofs.Saved.{goes_on, stays_sound}
use Rattle.tdf_sim_split.proofs.Split.{sound_at}
use Rattle.tdf_sim_split.proofs.Turns.{along}
use Rattle.tdf_sim_split.proofs.Valid.{is_under}
use Rattle.tdf_sim_split.specs.Following.{IsResumedCluster, IsSoundCluster}
use Rattle.tdf_sim_split.specs.Laws.{AreSound}
use Rattle.tdf_sim_split.specs.Snapshots.{HasFitCells, HasSnapshot, IsStartSide, SaysOthers, SnapshotsAreSoundStarts, SnapshotsAreValid, SnapshotsGoOn, told_ahead}
use Rattle.tdf_streams.proofs.Api.{get_inside, none_some, some_same}
use Rattle.tdf_streams.specs.Cluster.{Start}

module _ (law : ProcessesLeaveSoon) (keep : BodiesKeepCells) (model : PureTree) (flat : Flat) (sound_model : IsSoundModel model) (checked : IsCheckedOf model flat.checked) (limits : AreWithinLimits flat) (start w : World SideOf) (from time budget : ℕ) (vcd : Bool) (s : SnapshotOf)
    (has : HasSnapshot model flat start w from time budget vcd s) where
  -- what a sound start comes to
  pub comes_sound : AreSound flat w
  comes_sound = sound_at model flat sound_model.kept checked start has.start_is.sound time has.told time (omega arith) w has.is.reached

  begun : history (engine model flat (rules_of model flat)) 0 start 0 ≡ On start
  unfolding history
  begun = refl

  pub all_on : AllGoOn start w
  all_on = go_on model flat (rules_of model flat) start start 0 begun time w (omega arith) has.is.reached

  pub says_others : (n : ℕ) (c : ClusterAt) → slice_get w.clusters n ≡ Some c → SaysOthers model flat (n + 1) c.begun
  says_others n c at =
      let i = slice_get_within w.clusters n c at in let l = all_on.same in
      let x = get_inside start.clusters n (omega (arith, i, l)) in
      subst (SaysOthers model flat (n + 1)) (sym ((all_on.each n x.0 c x.1 at).continues (has.start_is.sound.each n x.0 x.1).plan).begun) (has.start_is.others n x.0 x.1)

  pub begins_fit : (n : ℕ) (c : ClusterAt) → slice_get w.clusters n ≡ Some c → HasFitCells flat c.begun.cells
  begins_fit n c at =
      let i = slice_get_within w.clusters n c at in let l = all_on.same in
      let x = get_inside start.clusters n (omega (arith, i, l)) in
      subst (λ (b : Start). HasFitCells flat b.cells) (sym ((all_on.each n x.0 c x.1 at).continues (has.start_is.sound.each n x.0 x.1).plan).begun) (has.start_is.cells n x.0 x.1)

  -- what its event side and its turns keep
  abbrev pub Stays : SideOf → ℕ → Type 0
  Stays side left = HasNothingWaiting side × IsSteadySide flat (time + 10 ^ 18) side × (left ≤ budget)

  pub stays : Stays w.events w.left
  stays =
      let begins = has.start_is.side in
      let h = along model flat Stays (λ side l p. (p.0, p.1, (let low = p.2 in omega (arith, low)))) time
      (λ t l r writes side after early p is. (
        nothing_stays_waiting model flat t l r writes side after p.0 is,
        part_steady law keep model flat sound_model.kept sound_model.types checked limits (time + 10 ^ 18) t (omega (arith, early)) l r writes side after p.1 is,
        (let d = turns_never_grow model flat t l r writes side after is in let low = p.2 in omega (arith, low, d)),
      )) start
      (begins.waiting, record { delta = begins.delta; rates = begins.rates; cells = begins.cells; until = λ e t is. (let u = begins.until e t is in let l = has.later in omega (arith, u, l)) }, has.start_is.left) time (omega arith) in
      subst (λ (v : World SideOf). Stays v.events v.left) (ap world_of has.is.reached) h

  -- at the time 0 it is still that of the start
  at_start : time ≡ 0 → w ≡ start
  at_start none =
      let same : On w ≡ On start = sym has.is.reached ∙ ap (history (engine model flat (rules_of model flat)) 0 start) none ∙ begun in
      ap world_of same

  pub first : time ≡ 0 → w.events.triggered ≡ map (λ (row : ProcessRowOf). row.starts) flat.tables.processes
  first none = ap (λ (v : World SideOf). v.events.triggered) (at_start none) ∙ has.start_is.side.first (let l = has.later in omega (arith, l, none))

  pub none_first : time ≡ 0 → IsNonePending w.events.notices.times
  none_first none = subst (λ (v : World SideOf). IsNonePending v.events.notices.times) (sym (at_start none)) (has.start_is.side.none (let l = has.later in omega (arith, l, none)))

  pub side_is : resumed_side flat time s.kernel ≡ w.events
  side_is = ap (resumed_side flat time) has.is.side.is ∙ side_again flat time (time + 10 ^ 18) w.events has.is.side.before stays.0 stays.1 first

  pub left_within : w.left ≤ budget
  left_within = stays.2

  pub kernel_is : IsKernelState flat time s.kernel
  kernel_is = subst (IsKernelState flat time) (sym has.is.side.is) (is_kernel_state flat time (time + 10 ^ 18) w.events has.is.side.before stays.1 (omega arith) none_first)

-- attributes and a plan, where no other plans are known
abbrev first_under : List AttrsOf → Plan → First
first_under table plan = record { attrs = record { rows = table; known = record { plans = []; most = 0; made = 0 } }; plan = plan }

all_left : (budget left used : ℕ) → left ≤ budget → used ≡ budget - left → budget - used ≡ left
all_left budget left used low is = omega (arith, low, is)

module _ (law : ProcessesLeaveSoon) (keep : BodiesKeepCells) (starts : StartsFit) (values : ValuesAreOfOne) (formats : EdgesHaveFormats) (answers : AnswersExclude) (unique : CountsAreUnique) (plans : PlansAreUnique) (bounds : BoundsAreUnique) where
  pub snapshots_go_on : SnapshotsGoOn
  snapshots_go_on model flat firsts start w from time budget vcd s sound_model is checked limits has are = record {
    same = long;
    each = λ n c b c_at b_at. (let r = at_place n b b_at in subst (IsResumedCluster model flat (n + 1) c) (sym (made n c b c_at r)) (goes_at n c b c_at r));
    sound = record {
      each = λ n b b_at. (
          let r = at_place n b b_at in
          let i = slice_get_within (resumed_world model flat firsts s (told_ahead w)).clusters n b b_at in let l = long in
          let c = get_inside w.clusters n (omega (arith, i, l)) in
          subst (IsSoundCluster flat (n + 1)) (sym (made n c.0 b c.1 r)) (stays_at n c.0 b c.1 r));
    };
    events = events_are;
    left = ap (λ k. k - s.used) has.is.budget_is ∙ all_left budget w.left s.used (left_within law keep model flat sound_model checked limits start w from time budget vcd s has) has.is.used_is;
    quiet = λ t low. none_due model flat firsts s (told_ahead w) t are
        (subst (λ (side : SideOf). is_side_due side t ≡ false) (sym events_are) (none_on_side t w.events (has.is.side.before.idle (omega (arith, low))) (λ event pending at. (let l = has.is.side.before.none.none event pending at in omega (arith, l, low)))))
        (let e = has.is.time_is in omega (arith, low, e));
  }
    where
      events_are : resumed_side flat s.time s.kernel ≡ w.events
      events_are = ap (λ t. resumed_side flat t s.kernel) has.is.time_is ∙ side_is law keep model flat sound_model checked limits start w from time budget vcd s has

      long : length (resumed_clusters model flat firsts s (told_ahead w)) ≡ length w.clusters
      long =
          length-map (enumerate_from 0 (zip firsts s.clusters)) (λ (c : ℕ × (First × ClusterStateOf)). resumed_cluster model flat (c.0 + 1) s.time c.1.0 c.1.1 (slice_index_or (told_ahead w) c.0 []))
          ∙ length-enumerate_from 0 (zip firsts s.clusters)
          ∙ (let z = length-zip firsts s.clusters in let a = are.all in let b = has.is.clusters.same in omega (arith, z, a, b))

      at_place : (n : ℕ) (b : ClusterAt) → slice_get (resumed_world model flat firsts s (told_ahead w)).clusters n ≡ Some b → ResumedAt model flat firsts s (told_ahead w) n b
      at_place n b at = resumed_at model flat firsts s (told_ahead w) n b at

      ahead_is : (n : ℕ) (c : ClusterAt) → slice_get w.clusters n ≡ Some c → slice_index_or (told_ahead w) n [] ≡ c.ahead
      ahead_is n c at = get_or_from_slice_get (told_ahead w) n c.ahead [] (slice_get-map (λ (x : ClusterAt). x.ahead) w.clusters n ∙ ap (option_map (λ (x : ClusterAt). x.ahead)) at)

      made : (n : ℕ) (c b : ClusterAt) → slice_get w.clusters n ≡ Some c → (r : ResumedAt model flat firsts s (told_ahead w) n b) → b ≡ resumed_cluster model flat (n + 1) s.time r.first r.state c.ahead
      made n c b at r = r.is ∙ ap (resumed_cluster model flat (n + 1) s.time r.first r.state) (ahead_is n c at)

      saved : (n : ℕ) (c : ClusterAt) (x : ClusterStateOf) → slice_get w.clusters n ≡ Some c → slice_get s.clusters n ≡ Some x → IsSavedCluster model flat (n + 1) s.time c x
      saved n c x at there = subst (λ t. IsSavedCluster model flat (n + 1) t c x) (sym has.is.time_is) (has.is.clusters.each n c x at there)

      goes_at : (n : ℕ) (c b : ClusterAt) → slice_get w.clusters n ≡ Some c → (r : ResumedAt model flat firsts s (told_ahead w) n b) → IsResumedCluster model flat (n + 1) c (resumed_cluster model flat (n + 1) s.time r.first r.state c.ahead)
      goes_at n c b at r = goes_on values formats answers unique plans bounds model flat sound_model is limits (n + 1) s.time (omega arith) c ((comes_sound law keep model flat sound_model checked limits start w from time budget vcd s has).each n c at)
          (says_others law keep model flat sound_model checked limits start w from time budget vcd s has n c at) r.state (saved n c r.state at r.state_at) r.first (are.each n r.first r.state r.first_at r.state_at)

      stays_at : (n : ℕ) (c b : ClusterAt) → slice_get w.clusters n ≡ Some c → (r : ResumedAt model flat firsts s (told_ahead w) n b) → IsSoundCluster flat (n + 1) (resumed_cluster model flat (n + 1) s.time r.first r.state c.ahead)
      stays_at n c b at r = stays_sound values formats answers unique plans bounds model flat sound_model is limits (n + 1) s.time (omega arith) c ((comes_sound law keep model flat sound_model checked limits start w from time budget vcd s has).each n c at)
          (says_others law keep model flat sound_model checked limits start w from time budget vcd s has n c at) r.state (saved n c r.state at r.state_at) r.first (are.each n r.first r.state r.first_at r.state_at)

  -- a run that goes on from it can be saved again
  pub sound_again : SnapshotsAreSoundStarts
  sound_again model flat firsts start w from time budget vcd s sound_model is checked limits has are =
      let goes = snapshots_go_on model flat firsts start w from time budget vcd s sound_model is checked limits has are in
      let kept = stays law keep model flat sound_model checked limits start w from time budget vcd s has in
      record {
        sound = goes.sound;
        others = λ n b at. (
            let r = resumed_at model flat firsts s (told_ahead w) n b at in
            let under = are.each n r.first r.state r.first_at r.state_at in
            subst (λ (c : ClusterAt). SaysOthers model flat (n + 1) c.begun) (sym r.is)
            (state_others model flat limits (n + 1) r.first.attrs.rows (λ i a there. all_at (IsOfCluster flat.tables (n + 1)) r.first.attrs.rows i a under.table_is.attributes.own there) r.state));
        cells = λ n b at. (
            let r = resumed_at model flat firsts s (told_ahead w) n b at in
            subst (λ (c : ClusterAt). HasFitCells flat c.begun.cells) (sym r.is)
            (state_fit keep starts model flat checked (n + 1) r.state s.time r.first.attrs.rows r.first.plan (are.each n r.first r.state r.first_at r.state_at)));
        side = subst (IsStartSide flat time) (sym goes.events) (record {
          waiting = kept.0;
          delta = kept.1.delta;
          rates = kept.1.rates;
          cells = kept.1.cells;
          until = kept.1.until;
          none = none_first law keep model flat sound_model checked limits start w from time budget vcd s has;
          first = first law keep model flat sound_model checked limits start w from time budget vcd s has;
        });
        left = let b = has.is.budget_is in omega (arith, b);
      }

-- ---- and it is valid

-- a list of what there is for each of some numbers
gather : {X : Type 0} (P : ℕ → X → Type 0) (a k : ℕ) → ((n : ℕ) → n < k → (x : X) × P (a + n) x) → (l : List X) × (length l ≡ k) × ((n : ℕ) (x : X) → slice_get l n ≡ Some x → P (a + n) x)
gather P a zero has = ([], refl, λ n x at. none_some x at)
gather {X} P a (suc k) has =
    let first = has 0 (omega arith) in
    let rest = gather P (a + 1) k (λ n less. (let z : a + suc n ≡ a + 1 + n = omega arith in let x = has (suc n) (omega (arith, less)) in (x.0, subst (λ j. P j x.0) z x.1))) in
    (first.0 ∷ rest.0, ap suc rest.1, λ n x at. at_place first.0 first.1 rest.0 rest.2 n x at)
  where
    at_place : (y : X) → P (a + 0) y → (ys : List X) → ((n : ℕ) (x : X) → slice_get ys n ≡ Some x → P (a + 1 + n) x) → (n : ℕ) (x : X) → slice_get (y ∷ ys) n ≡ Some x → P (a + n) x
    at_place y one ys each zero x at = subst (P (a + 0)) (some_same y x at) one
    at_place y one ys each (suc n) x at = let z : a + 1 + n ≡ a + suc n = omega arith in subst (λ j. P j x) z (each n x at)

-- the cluster of this place can go on from its state, under such attributes and such a plan
abbrev Fits : Flat → SnapshotOf → ℕ → First → Type 0
Fits flat s n first = (c : ClusterStateOf) → slice_get s.clusters n ≡ Some c → IsStateUnder flat (n + 1) c s.time first.attrs.rows first.plan

pub snapshots_are_valid : ProcessesLeaveSoon → BodiesKeepCells → SnapshotsAreValid
snapshots_are_valid law keep model flat start w from time budget vcd s sound_model is checked limits has whole early some most = record {
  times = record {
    time = let t = has.is.time_is in omega (arith, t, early);
    used = let u = has.is.used_is in let b = has.is.budget_is in omega (arith, u, b);
    some = let b = has.is.budget_is in omega (arith, b, some);
    most = subst (λ k. k ≤ 10 ^ 12) (sym has.is.budget_is) most;
  };
  all = has.is.clusters.same ∙ (all_on law keep model flat sound_model checked limits start w from time budget vcd s has).same ∙ whole;
  firsts = found.0;
  plans = record {
    all = found.1;
    each = λ n first c at there. found.2 n first at c there;
  };
  kernel = subst (λ t. IsKernelState flat t s.kernel) (sym has.is.time_is) (kernel_is law keep model flat sound_model checked limits start w from time budget vcd s has);
}
  where
    one : (n : ℕ) → n < length s.clusters → (first : First) × Fits flat s n first
    one n less =
        let l = has.is.clusters.same in
        let h = get_inside w.clusters n (omega (arith, less, l)) in
        let sound = (comes_sound law keep model flat sound_model checked limits start w from time budget vcd s has).each n h.0 h.1 in (
          first_under h.0.now.info.table sound.planned.plan,
          λ c there. is_under keep model flat checked limits (n + 1) s.time h.0 sound (begins_fit law keep model flat sound_model checked limits start w from time budget vcd s has n h.0 h.1) c (subst (λ t. IsSavedCluster model flat (n + 1) t h.0 c) (sym has.is.time_is) (has.is.clusters.each n h.0 c h.1 there)),
        )

    found : (l : List First) × (length l ≡ length s.clusters) × ((n : ℕ) (first : First) → slice_get l n ≡ Some first → Fits flat s n first)
    found =
        let g = gather (Fits flat s) 0 (length s.clusters) (λ n less. (let z : n ≡ 0 + n = omega arith in let x = one n less in (x.0, subst (λ j. Fits flat s j x.0) z x.1))) in
        (g.0, g.1, λ n first at. (let z : 0 + n ≡ n = omega arith in subst (λ j. Fits flat s j first) z (g.2 n first at)))
