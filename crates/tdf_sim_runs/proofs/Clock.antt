-- Clusters that go on from the states of a snapshot tell the positions of the traced signals.
use Rattle.std.proofs.Common.{◌≡◌, ◌∙◌, ◌<◌, ◌≤◌, ◌+◌, ◌*◌, ◌^◌, ℕ, zero, suc, List, [], ◌∷◌, Some, length, map, option_map, slice_get, slice_index, inl, inr, refl, sym, ap, arith}
use Rattle.std.proofs.Math.Nat.{mul-le-mul_left}
use Rattle.std.proofs.lemmas.Bool.{cases_lt}
use Rattle.std.proofs.lemmas.List.{length-map}
use Rattle.std.proofs.lemmas.Option.{get_or_from_slice_get, slice_get-map, slice_get_within}
use Rattle.tdf_base.specs.Limits.{time_end}
use Rattle.tdf_bind.specs.declared.model.Flat.{Flat}
use Rattle.tdf_bind_invariants.specs.Limits.{AreWithinLimits}
use Rattle.tdf_dynamic_plans.specs.Attributes.{clusters_of}
use Rattle.tdf_sim_instants.specs.Below.{AreAt, ClusterOf, IsAt, due_before}
use Rattle.tdf_graph.specs.Clusters.{greatest}
use Rattle.tdf_lang_tree.specs.Pure.{PureTree}
use Rattle.tdf_saved.specs.State.{ClusterStateOf, SnapshotOf}
use Rattle.tdf_sim_history.proofs.Api.{last_record}
use Rattle.tdf_sim_history.specs.World.{ClusterAt}
use Rattle.tdf_sim_instants.specs.Engine.{AreInProgress, HasDoneBefore}
use Rattle.tdf_sim_instants.proofs.Api.{entries_inside, takes_time}
use Rattle.tdf_sim_runs.specs.machine.Standing.{clock_in}
use Rattle.tdf_sim_shown.proofs.Api.{done_early, span_is, steps_of}
use Rattle.tdf_sim_shown.specs.Below.{AllGoOnFromStates, CanBeShown, CanBegin, GoesOnFromState, HasMembersOf, HasTimesOf, IsListed, TracedSignal, positions_in}
use Rattle.tdf_sim_shown.specs.Columns.{CanTellColumns}
use Rattle.tdf_streams.proofs.Api.{get_inside, some_same}
use Rattle.tdf_streams.specs.Periods.{IsPeriodRecord}
use Rattle.tdf_streams.specs.Signals.{positions, step_in}
use Rattle.tdf_trace_rows.specs.Positions.{Span}

-- no number of a list is above the greatest
at_most : (xs : List ℕ) (m : ℕ) → slice_index xs m ≤ greatest xs
at_most [] m = omega arith
at_most (x ∷ xs) zero = omega arith
at_most (x ∷ xs) (suc m) = let b = at_most xs m in omega (arith, b)

least : (a b : ℕ) → 0 < b → a ≤ a * b
least a b some = let m : a * 1 ≤ a * b = mul-le-mul_left a (omega (arith, some)) in let one : a * 1 ≡ a = omega arith in omega (arith, m, one)

module _ (flat : Flat) (s : SnapshotOf) (since : List ℕ) (cs : List ClusterOf) (limits : AreWithinLimits flat) (times : HasTimesOf s) (members : HasMembersOf flat s)
    (since_are : since ≡ map (λ (c : ClusterStateOf). c.start) s.clusters) (go : AllGoOnFromStates flat s.clusters s.time cs) where
  pub since_long : length since ≡ length cs
  since_long = ap (λ (l : List ℕ). length l) since_are ∙ length-map s.clusters (λ (c : ClusterStateOf). c.start) ∙ sym go.same

  -- each cluster goes on from its state
  state_of : (n : ℕ) (c : ClusterOf) → slice_get cs n ≡ Some c → (x : ClusterStateOf) × (slice_get s.clusters n ≡ Some x)
  state_of n c at = get_inside s.clusters n (let i = slice_get_within cs n c at in let e = go.same in omega (arith, i, e))

  goes : (n : ℕ) (c : ClusterOf) (at : slice_get cs n ≡ Some c) → GoesOnFromState flat (n + 1) (state_of n c at).0 s.time c
  goes n c at = go.each n (state_of n c at).0 c (state_of n c at).1 at

  begun_at : (n t : ℕ) (c : ClusterOf) (at : slice_get cs n ≡ Some c) → slice_get since n ≡ Some t → t ≡ (state_of n c at).0.start
  begun_at n t c at t_at = some_same t (state_of n c at).0.start (sym t_at ∙ ap (λ l. slice_get l n) since_are
      ∙ slice_get-map (λ (x : ClusterStateOf). x.start) s.clusters n ∙ ap (option_map (λ (x : ClusterStateOf). x.start)) (state_of n c at).1)

  -- its period began by the time
  pub early : (n t : ℕ) → slice_get since n ≡ Some t → t ≤ s.time
  early n t t_at =
      let c = get_inside cs n (let i = slice_get_within since n t t_at in let l = since_long in omega (arith, i, l)) in
      let b = begun_at n t c.0 c.1 t_at in
      elim (goes n c.0 c.1).at.is.inside [
        | inl begin ↦ (let z = begin.0 in omega (arith, z, b))
        | inr inside ↦ (let l = inside.0 in omega (arith, l, b))
      ]

  -- and ends no earlier
  pub ends_late : (n t : ℕ) (c : ClusterOf) → slice_get since n ≡ Some t → slice_get cs n ≡ Some c → s.time ≤ t + c.period
  ends_late n t c t_at at =
      let b = begun_at n t c at t_at in let p = (goes n c at).at.period_is in
      elim (goes n c at).at.is.inside [
        | inl begin ↦ (let z = begin.1 in omega (arith, z))
        | inr inside ↦ (let l = inside.1 in omega (arith, l, b, p))
      ]

  pub places : (n t : ℕ) (c : ClusterOf) → slice_get since n ≡ Some t → slice_get cs n ≡ Some c → c.place ≡ due_before t s.time c.entries
  places n t c t_at at = (goes n c at).at.place_is ∙ ap (λ k. due_before k s.time c.entries) (sym (begun_at n t c at t_at))

  -- what is done was due before
  pub done_so : (n t : ℕ) (c : ClusterOf) → slice_get since n ≡ Some t → slice_get cs n ≡ Some c → HasDoneBefore s.time t c
  done_so n t c t_at at = record {
    begun = elim (goes n c at).at.is.inside [
      | inl begin ↦ (let b = begun_at n t c at t_at in inl (b ∙ begin.0, begin.1))
      | inr inside ↦ (let b = begun_at n t c at t_at in let l = inside.0 in inr (omega (arith, l, b)))
    ];
    done = λ i x below there. done_early flat c (goes n c at).of t s.time (places n t c t_at at) i x below there;
  }

  pub in_progress : AreInProgress flat cs
  in_progress n c at =
      let g = goes n c at in
      record {
        of = g.of;
        number = g.at.number_is;
        going = g.at.not_crossed;
        takes = takes_time flat c limits g.of;
        inside = entries_inside flat c limits g.of;
      }

  listed_in : (t : TracedSignal) → IsListed flat t → t.cluster < length cs
  listed_in t l =
      let i = l.drives.traced.inside in let m = at_most (clusters_of flat.tables) l.port.«module» in
      let a = go.same in let b = members.clusters in omega (arith, i, m, a, b)

  module _ (model : PureTree) (hs : List ClusterAt) (stand : AreAt model flat since hs cs) where
    record Started (t : TracedSignal) (c : ClusterOf) (k : ℕ) : Type 0 where
      pub can : CanBegin flat k c t
      pub few : positions_in flat.tables c t < time_end

    begins : (t : TracedSignal) (c : ClusterOf) (k : ℕ) → IsListed flat t → slice_get cs t.cluster ≡ Some c → k ≤ s.time → Started t c k
    begins t c k l at low = record {
      can = record { of = i.of; port = slice_get_within flat.tables.ports t.port l.port l.drives.traced.there; some = some; few = omega (arith, q, few, st_1, short, a); short = omega (arith, p, short, low, time) };
      few = omega (arith, q, few, st_1, short);
    }
      where
        h : (x : ClusterAt) × (slice_get hs t.cluster ≡ Some x)
        h = get_inside hs t.cluster (let j = slice_get_within cs t.cluster c at in let e = stand.same in omega (arith, j, e))

        i : IsAt model flat (t.cluster + 1) h.0 c
        i = stand.each t.cluster h.0 c h.1 at

        whole : IsPeriodRecord flat (t.cluster + 1) h.0.now
        whole = last_record flat (t.cluster + 1) h.0.begun h.0.old h.0.now i.records

        count : ℕ
        count = positions l.port h.0.now

        step : ℕ
        step = step_in l.port h.0.now

        st : (0 < step) × (count * step ≡ h.0.now.info.period)
        st = steps_of l.port model flat t.cluster t.port l.drives limits h.0.now whole

        st_1 : count * step ≡ h.0.now.info.period
        st_1 = st.1

        few : count ≤ count * step
        few = least count step st.0

        q : positions_in flat.tables c t ≡ count
        q = ap (λ (z : Span). z.count) (span_is l.port model flat t.cluster t.port l.drives h.0 c t i refl l.module_is 0)

        p : c.period ≡ h.0.now.info.period
        p = i.time_is

        short : h.0.now.info.period < time_end
        short = whole.timed.period_is.short

        time : s.time < time_end
        time = times.time

        a : time_end ≤ 2 ^ 64
        a = omega arith

        takes : 0 < c.period
        takes = takes_time flat c limits i.of

        some : 0 < positions_in flat.tables c t
        some = elim (cases_lt 0 (positions_in flat.tables c t)) [
          | inl more ↦ more
          | inr none ↦ absurd (let z : count ≡ 0 = omega (arith, none, q) in let m : count * step ≡ 0 * step = ap (λ k. k * step) z in omega (arith, m, st_1, p, takes))
        ]

    pub can_tell : CanBeShown flat.tables → CanTellColumns flat (clock_in s since cs)
    can_tell shown = record {
      can = record {
        limits = limits;
        shown = shown;
        since = λ t l. (let i = listed_in t l in let e = since_long in omega (arith, i, e));
        clusters = listed_in;
        can = λ t c l at. (begins t c (slice_index since t.cluster) l at (low t l)).can;
      };
      places = places;
      few = λ t c l at. (begins t c 0 l at (omega arith)).few;
    }
      where
        low : (t : TracedSignal) → IsListed flat t → slice_index since t.cluster ≤ s.time
        low t l =
            let q = get_inside since t.cluster (let i = listed_in t l in let e = since_long in omega (arith, i, e)) in
            let e = get_or_from_slice_get since t.cluster q.0 0 q.1 in let r = early t.cluster q.0 q.1 in omega (arith, e, r)
