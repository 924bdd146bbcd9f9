-- The times of the positions of a signal.
use Rattle.std.proofs.Common.{◌≡◌, ◌∙◌, ℕ, zero, suc, ◌+◌, ◌-◌, ◌*◌, ◌<◌, ◌≤◌, Option, Some, None, option_map, List, [], ◌∷◌, ◌++◌, length, if◌then◌else◌, slice_get, slice_index, refl, ap, sym, subst, inl, inr, arith}
use Rattle.std.proofs.Math.Nat.{div-mul_cancel, mul-le-mul_right, mul_comm}
use Rattle.std.proofs.lemmas.Bool.{cases_lt, le-ltb, lt-ltb}
use Rattle.std.proofs.lemmas.List.{length-map}
use Rattle.std.proofs.lemmas.List.Sums.{sum_by-cons, sum_by_push}
use Rattle.std.proofs.lemmas.Option.{slice_get-map}
use Rattle.std.specs.Int.{◌∣◌}
use Rattle.std.specs.List.{sum_by}
use Rattle.std.specs.Prelude.{All}
use Rattle.tdf_bind_tables.specs.Actors.{cluster_of}
use Rattle.tdf_dynamic_plans.proofs.Api.{assigned_fit, modules_few}
use Rattle.tdf_dynamic_plans.specs.Assignments.{assignments}
use Rattle.tdf_dynamic_plans.specs.Rates.{net_of, net_ports, port_rate, rated_port}
use Rattle.tdf_bind_invariants.specs.Below.{Flat}
use Rattle.tdf_streams.proofs.Lists.{get_inside, some_same}
use Rattle.tdf_streams.proofs.Steps.{none_some}
use Rattle.tdf_streams.specs.Streams.{Spot, find, spot}
use Rattle.tdf_graph.specs.Ranges.{IsRate}
use Rattle.tdf_bind_invariants.specs.Limits.{AreWithinLimits}
use Rattle.tdf_streams.proofs.Edges.{are_rates, is_wired}
use Rattle.tdf_streams.proofs.Rows.{all_at, at_contains}
use Rattle.tdf_streams.specs.Laws.{IsClusterPort, StepsAreWhole, TimesLieInside, TimesRise}
use Rattle.tdf_streams.specs.Periods.{IsTimedRecord, PeriodInfo, PeriodRecord, net_in}
use Rattle.tdf_streams.specs.Signals.{position_time, positions, rate_in, step_in, time_at_spot, time_of_periods}
use Rattle.tdf_timestep.specs.Period.{IsAssigned, port_rate_or_one, rate_at_port, share_of}
use Rattle.tdf_timestep.specs.declared.assign.Assign.{Assign}
use Rattle.tdf_timestep.specs.declared.assign.Spot.{Spot as TimeSpot}
use Rattle.tdf_bind_connections.specs.declared.modules.PortRow.{PortRow}

both_some : (a b : ℕ) → 0 < a → 0 < b → 0 < a * b
both_some a b some other = let m : 1 * b ≤ a * b = mul-le-mul_right b (omega (arith, some)) in omega (arith, m, other)

module _ (flat : Flat) (cluster : ℕ) (limits : AreWithinLimits flat) (p : PeriodRecord) (timed : IsTimedRecord flat cluster p) where
  some_row : (o : Option PortRow) → ((row : PortRow) → o ≡ Some row → 0 < rate_in row p) → 0 < port_rate_or_one (option_map (rated_port p.info.table) o)
  some_row None some = omega arith
  some_row (Some row) some = some row refl

  rate_some : (number : ℕ) (row : PortRow) → slice_get flat.tables.ports number ≡ Some row → 0 < rate_in row p
  rate_some number row at = let r = (all_at (λ (x : PortRow). IsRate (port_rate p.info.table x)) flat.tables.ports number row (are_rates flat limits p.info.table timed.attributes.allowed) at).some in omega (arith, r)

  rates_some : (o : Option ℕ) → 0 < rate_at_port (net_in flat.tables p).ports o
  unfolding net_of net_ports
  rates_some None = omega arith
  rates_some (Some number) = subst (λ r. 0 < port_rate_or_one r) (sym (slice_get-map (rated_port p.info.table) flat.tables.ports number))
      (some_row (slice_get flat.tables.ports number) (λ row at. rate_some number row at))

  -- a period takes some time
  takes_time : 0 < p.info.period
  unfolding net_of
  takes_time = subst (λ n. 0 < n) (timed.period_is.agreed.all first.0 (at_contains (assignments p.info.table) 0 first.0 first.1))
      (both_some _ first.0.step (both_some _ _ given.spot.fires (rates_some first.0.port)) (let s = given.some in omega (arith, s)))
    where
      first : (a : Assign) × (slice_get (assignments p.info.table) 0 ≡ Some a)
      first = get_inside (assignments p.info.table) 0 timed.period_is.agreed.some

      given : IsAssigned (net_ports flat.tables p.info.table) p.info.counts first.0
      given = all_at (IsAssigned (net_ports flat.tables p.info.table) p.info.counts) (assignments p.info.table) 0 first.0
          (assigned_fit flat.tables cluster p.info.table (net_in flat.tables p).edges p.info.counts timed.counts_are (modules_few flat.tables (is_wired flat limits)) timed.attributes.own) first.1

  module _ (number : ℕ) (port : PortRow) (of : IsClusterPort flat cluster number port) where
    at_spot : TimeSpot
    at_spot = record { actor = port.«module»; port = Some number }

    row_there : slice_get (net_in flat.tables p).ports number ≡ Some (rated_port p.info.table port)
    unfolding net_of net_ports
    row_there = slice_get-map (rated_port p.info.table) flat.tables.ports number ∙ ap (option_map (rated_port p.info.table)) of.there

    fires : 0 < slice_index p.info.counts port.«module»
    fires = timed.counts_are.positive port.«module»
        (let m = all_at (λ (row : PortRow). row.«module» < length flat.tables.modules) flat.tables.ports number port limits.in_range.port_modules of.there in
        let few = modules_few flat.tables (is_wired flat limits) in let e = length-map flat.tables.actors cluster_of in omega (arith, m, few, e)) of.inside

    share_is : share_of (net_in flat.tables p).ports p.info.counts at_spot ≡ positions port p
    unfolding at_spot
    share_is = ap (λ o. slice_index p.info.counts port.«module» * port_rate_or_one o) row_there

    pub step_whole : (0 < step_in port p) × (positions port p * step_in port p ≡ p.info.period)
    unfolding at_spot
    step_whole = (some (step_in port p) refl, mul_comm (positions port p) (step_in port p) ∙ cut)
      where
        cut : step_in port p * positions port p ≡ p.info.period
        cut = div-mul_cancel (positions port p) (subst (λ n. n ∣ p.info.period) share_is
            (timed.period_is.whole at_spot (record { fires = fires; own = (rated_port p.info.table port, row_there, refl) })))

        some : (n : ℕ) → n ≡ step_in port p → 0 < n
        some zero none = absurd (let z : zero * positions port p ≡ p.info.period = ap (λ k. k * positions port p) none ∙ cut in let t = takes_time in omega (arith, z, t))
        some (suc n) is = omega arith

pub steps_whole : StepsAreWhole
steps_whole flat cluster number port p limits of timed = step_whole flat cluster limits p timed number port of

-- the time of some periods and one more
time_push : (before : List PeriodRecord) (p : PeriodRecord) → time_of_periods (before ++ p ∷ []) ≡ time_of_periods before + p.info.period
time_push before p = sum_by_push (λ (r : PeriodRecord). r.info.period) before p

module _ (port : PortRow) where
  -- the steps of the port cut the periods in equal parts
  IsCut : PeriodRecord → Type 0
  IsCut p = (0 < step_in port p) × (positions port p * step_in port p ≡ p.info.period)

  -- of the positions of a period each is before its end with its step, and before the next one
  within_period : (p : PeriodRecord) (j : ℕ) → IsCut p → j < positions port p → j * step_in port p + step_in port p ≤ p.info.period
  unfolding IsCut
  within_period p j cut below = let m : (j + 1) * step_in port p ≤ positions port p * step_in port p = mul-le-mul_right (step_in port p) (omega (arith, below)) in
      let one : (j + 1) * step_in port p ≡ j * step_in port p + step_in port p = grind arith in let c = cut.1 in omega (arith, m, one, c)

  rises_in : (p : PeriodRecord) (i j : ℕ) → IsCut p → i < j → i * step_in port p < j * step_in port p
  unfolding IsCut
  rises_in p i j cut less = let m : (i + 1) * step_in port p ≤ j * step_in port p = mul-le-mul_right (step_in port p) (omega (arith, less)) in
      let one : (i + 1) * step_in port p ≡ i * step_in port p + step_in port p = grind arith in let c = cut.0 in omega (arith, m, one, c)

  -- position j lies in the periods
  pub record Lies (before ps : List PeriodRecord) (j : ℕ) : Type 0 where
    pub spot_is : Spot PeriodInfo
    pub found : find (positions port) before ps j ≡ Some spot_is
    pub low : time_of_periods before ≤ time_of_periods spot_is.before
    pub high : time_at_spot port spot_is + step_in port spot_is.period ≤ time_of_periods spot_is.before + spot_is.period.info.period

  lies : (before ps : List PeriodRecord) (j : ℕ) → ((k : ℕ) (p : PeriodRecord) → slice_get ps k ≡ Some p → IsCut p) → j < sum_by (positions port) ps → Lies before ps j
  unfolding find
  lies before [] j cut below = absurd (omega (arith, below))
  lies before (p ∷ ps) j cut below = elim (cases_lt j (positions port p)) [
    | inl here ↦ record {
      spot_is = spot before p j;
      found = rw (lt-ltb j (positions port p) here) refl;
      low = omega arith;
      high = (let w = within_period p j (cut 0 p refl) here in omega (arith, w));
    }
    | inr past ↦ (let s = sum_by-cons (positions port) p ps in let rest = lies (before ++ p ∷ []) ps (j - positions port p) (λ k q at. cut (suc k) q at) (omega (arith, below, s, past)) in record {
      spot_is = rest.spot_is;
      found = rw (le-ltb j (positions port p) past) rest.found;
      low = (let l = rest.low in let t = time_push before p in omega (arith, l, t));
      high = rest.high;
    })
  ]

  -- a step of the search for a position
  found_first : (before ps : List PeriodRecord) (p : PeriodRecord) (k : ℕ) (s : Spot PeriodInfo) → k < positions port p → find (positions port) before (p ∷ ps) k ≡ Some s → spot before p k ≡ s
  unfolding find
  found_first before ps p k s here at = some_same (spot before p k) s
      (subst (λ c. (if c then Some (spot before p k) else find (positions port) (before ++ p ∷ []) ps (k - positions port p)) ≡ Some s) (lt-ltb k (positions port p) here) at)

  found_later : (before ps : List PeriodRecord) (p : PeriodRecord) (k : ℕ) (s : Spot PeriodInfo) → positions port p ≤ k → find (positions port) before (p ∷ ps) k ≡ Some s
      → find (positions port) (before ++ p ∷ []) ps (k - positions port p) ≡ Some s
  unfolding find
  found_later before ps p k s past at = subst (λ c. (if c then Some (spot before p k) else find (positions port) (before ++ p ∷ []) ps (k - positions port p)) ≡ Some s) (le-ltb k (positions port p) past) at

  -- the period of a position isn't before those that were passed
  found_low : (before ps : List PeriodRecord) (k : ℕ) (s : Spot PeriodInfo) → find (positions port) before ps k ≡ Some s → time_of_periods before ≤ time_of_periods s.before
  unfolding find
  found_low before [] k s at = none_some s at
  found_low before (p ∷ ps) k s at = elim (cases_lt k (positions port p)) [
    | inl here ↦ (let same : time_of_periods before ≡ time_of_periods s.before = ap (λ (b : Spot PeriodInfo). time_of_periods b.before) (found_first before ps p k s here at) in omega (arith, same))
    | inr past ↦ (let rest = found_low (before ++ p ∷ []) ps (k - positions port p) s (found_later before ps p k s past at) in let t = time_push before p in omega (arith, rest, t))
  ]

  -- later positions have later times
  rise : (before ps : List PeriodRecord) (i j : ℕ) (a b : Spot PeriodInfo) → ((k : ℕ) (p : PeriodRecord) → slice_get ps k ≡ Some p → IsCut p) → i < j
      → find (positions port) before ps i ≡ Some a → find (positions port) before ps j ≡ Some b → time_at_spot port a < time_at_spot port b
  unfolding find IsCut
  rise before [] i j a b cut less at_i at_j = none_some a at_i
  rise before (p ∷ ps) i j a b cut less at_i at_j = elim (cases_lt i (positions port p)) [
    | inr past ↦ rise (before ++ p ∷ []) ps (i - positions port p) (j - positions port p) a b (λ k q at. cut (suc k) q at) (omega (arith, past, less))
        (found_later before ps p i a past at_i) (found_later before ps p j b (omega (arith, past, less)) at_j)
    | inl here ↦ (let x : time_of_periods before + i * step_in port p ≡ time_at_spot port a = ap (time_at_spot port) (found_first before ps p i a here at_i) in
        elim (cases_lt j (positions port p)) [
          | inl there ↦ (let y : time_of_periods before + j * step_in port p ≡ time_at_spot port b = ap (time_at_spot port) (found_first before ps p j b there at_j) in
              let r = rises_in p i j (cut 0 p refl) less in omega (arith, x, y, r))
          | inr past ↦ (let w = within_period p i (cut 0 p refl) here in let some = (cut 0 p refl).0 in let t = time_push before p in
              let low = found_low (before ++ p ∷ []) ps (j - positions port p) b (found_later before ps p j b past at_j) in omega (arith, x, w, some, t, low))
        ])
  ]

  found_of : (o : Option (Spot PeriodInfo)) (t : ℕ) → option_map (time_at_spot port) o ≡ Some t → (s : Spot PeriodInfo) × (o ≡ Some s) × (time_at_spot port s ≡ t)
  found_of None t at = none_some t at
  found_of (Some s) t at = (s, refl, some_same (time_at_spot port s) t at)

module _ (flat : Flat) (cluster number : ℕ) (port : PortRow) (limits : AreWithinLimits flat) (of : IsClusterPort flat cluster number port) (periods : List PeriodRecord)
    (timed : All (IsTimedRecord flat cluster) periods) where
  cuts : (k : ℕ) (p : PeriodRecord) → slice_get periods k ≡ Some p → IsCut port p
  unfolding IsCut
  cuts k p at = step_whole flat cluster limits p (all_at (IsTimedRecord flat cluster) periods k p timed at) number port of

pub times_inside : TimesLieInside
times_inside flat cluster number port periods j limits of timed below =
    let l = lies port [] periods j (cuts flat cluster number port limits of periods timed) below in record {
      spot = l.spot_is;
      found = l.found;
      not_before = omega arith;
      not_after = l.high;
    }

pub times_rise : TimesRise
unfolding position_time
times_rise flat cluster number port periods i j s t limits of timed less at_i at_j =
    let a = found_of port (find (positions port) [] periods i) s at_i in let b = found_of port (find (positions port) [] periods j) t at_j in
    let r = rise port [] periods i j a.0 b.0 (cuts flat cluster number port limits of periods timed) less a.1 b.1 in
    let x = a.2 in let y = b.2 in omega (arith, r, x, y)
