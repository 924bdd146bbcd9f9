-- The clusters of the world that a valid snapshot says have whole plans.
use Rattle.std.proofs.Common.{◌≡◌, ◌∙◌, ℕ, zero, suc, ◌+◌, ◌-◌, ◌<◌, ◌≤◌, false, List, [], ◌∷◌, length, map, drop, take, nat_eq, slice_get, inl, inr, refl, sym, ap, subst, arith}
use Rattle.std.proofs.Math.Seq.{take-length}
use Rattle.std.proofs.lemmas.Bool.{cases_lt}
use Rattle.std.proofs.lemmas.List.Elements.{All-head, All-nil, All-tail}
use Rattle.std.proofs.lemmas.List.FromFn.{length-map-range_with_len}
use Rattle.std.proofs.lemmas.List.Sums.{sum_by-cons}
use Rattle.std.proofs.lemmas.Option.{get_or_from_slice_get}
use Rattle.std.specs.List.{count_by, range_with_len}
use Rattle.std.specs.Prelude.{All, Some, cond, slice_index, slice_index_or}
use Rattle.tdf_bind.specs.declared.model.Flat.{Flat}
use Rattle.tdf_dynamic_first.specs.declared.first.First.{First}
use Rattle.tdf_dynamic_plans.specs.Rates.{net_of}
use Rattle.tdf_sim_refinement.specs.Below.{IsStateUnder}
use Rattle.tdf_lang_tree.specs.Pure.{PureTree}
use Rattle.tdf_saved.specs.State.{ClusterStateOf}
use Rattle.tdf_schedule.specs.Plan.{done}
use Rattle.tdf_schedule.specs.declared.entry.Entry.{Entry}
use Rattle.tdf_sim_history.specs.Continuing.{HasToldCounts, HasWholePlan}
use Rattle.tdf_sim_history.specs.Start.{counts_in}
use Rattle.tdf_sim_history.specs.World.{Change, ClusterAt}
use Rattle.tdf_sim_refinement.proofs.Api.{cluster_there, counted_in, plan_counts}
use Rattle.tdf_sim_resumed.proofs.Members.{ResumedAt, resumed_at}
use Rattle.tdf_sim_resumed.specs.Laws.{ResumedAreGood}
use Rattle.tdf_sim_resumed.specs.Resuming.{resumed_cluster, rest_of, whole_period, place_before}
use Rattle.tdf_sim_resumed.specs.Starting.{resumed_world}
use Rattle.tdf_streams.proofs.Api.{get_made_at, table_record}
use Rattle.tdf_streams.specs.Laws.{HasRecord}
use Rattle.tdf_streams.specs.Periods.{AreAttributes, IsWholeRecord, PeriodRecord, period_record}
use Rattle.tdf_streams.specs.Signals.{time_of_periods}

-- ---- what is left of a period

past_index : (xs : List ℕ) (m : ℕ) → length xs ≤ m → slice_index xs m ≡ 0
past_index [] m past = refl
past_index (x ∷ xs) zero past = absurd (omega (arith, past))
past_index (x ∷ xs) (suc m) past = past_index xs m (omega (arith, past))

made_index : (f : ℕ → ℕ) (n m : ℕ) → m < n → slice_index (map f (range_with_len 0 n)) m ≡ f m
made_index f n m inside =
    let z : 0 + m ≡ m = omega arith in
    get_or_from_slice_get (map f (range_with_len 0 n)) m (f (0 + m)) 0 (get_made_at f 0 n m inside) ∙ ap f z

none_left : (x y : ℕ) → x ≡ 0 → 0 ≡ x - y
none_left x y none = omega (arith, none)

pub rest_index : (p : PeriodRecord) (acts : ℕ → ℕ) (m : ℕ) → slice_index (rest_of p acts).counts m ≡ slice_index p.counts m - acts m
rest_index p acts m = elim (cases_lt m (length p.counts)) [
  | inl inside ↦ made_index left (length p.counts) m inside
  | inr past ↦ (let l = length-map-range_with_len left 0 (length p.counts) in
      past_index (map left (range_with_len 0 (length p.counts))) m (omega (arith, past, l)) ∙ none_left (slice_index p.counts m) (acts m) (past_index p.counts m past))
]
  where
    left : ℕ → ℕ
    left k = slice_index p.counts k - acts k

done_rest : (entries : List Entry) (i m : ℕ) → done entries i m + count_by (λ (x : Entry). nat_eq x.actor m) (drop i entries) ≡ count_by (λ (x : Entry). nat_eq x.actor m) entries
unfolding done
done_rest [] zero m = refl
done_rest [] (suc i) m = refl
done_rest (x ∷ es) zero m = omega arith
done_rest (x ∷ es) (suc i) m =
    let a = sum_by-cons (λ (z : Entry). cond {A = ℕ} (nat_eq z.actor m) 1 0) x (take i es) in
    let b = sum_by-cons (λ (z : Entry). cond {A = ℕ} (nat_eq z.actor m) 1 0) x es in
    let r = done_rest es i m in omega (arith, a, b, r)

done_within : (entries : List Entry) (i m : ℕ) → done entries i m ≤ count_by (λ (x : Entry). nat_eq x.actor m) entries
done_within entries i m = let r = done_rest entries i m in omega (arith, r)

done_all : (entries : List Entry) (m : ℕ) → count_by (λ (x : Entry). nat_eq x.actor m) entries ≡ done entries (length entries) m
unfolding done
done_all entries m = ap (count_by (λ (x : Entry). nat_eq x.actor m)) (sym (take-length entries))

-- ---- one cluster

module _ (flat : Flat) (number time : ℕ) (first : First) (s : ClusterStateOf) (state : IsStateUnder flat number s time first.attrs.rows first.plan) where
  abbrev entries : List Entry
  entries = first.plan.entries.items

  of_plan : HasRecord flat number first.attrs.rows first.plan false
  of_plan = table_record flat number first.attrs.rows first.plan false state.table_is.attributes state.planned

  counted : (m : ℕ) → count_by (λ (x : Entry). nat_eq x.actor m) entries ≡ slice_index of_plan.counts m
  counted = plan_counts (net_of flat.tables first.attrs.rows).edges _ of_plan.counts entries of_plan.plan_is.planned

  counts_are : counts_in flat.tables entries ≡ of_plan.counts
  counts_are = counted_in flat entries of_plan.counts of_plan.record_is.is.timed.counts_are.long counted

  pub whole_is : IsWholeRecord flat number (whole_period flat.tables first)
  whole_is = subst (λ l. IsWholeRecord flat number (period_record flat.tables first.attrs.rows l first.plan.period false)) (sym counts_are) of_plan.record_is

  whole_count : (m : ℕ) → slice_index (counts_in flat.tables entries) m ≡ count_by (λ (x : Entry). nat_eq x.actor m) entries
  whole_count m = ap (λ l. slice_index l m) counts_are ∙ sym (counted m)

  pub plan_whole : (model : PureTree) (ahead : List Change) → All HasToldCounts ahead → HasWholePlan (resumed_cluster model flat number time first s ahead)
  plan_whole model ahead told = record {
    counts = λ m. (
        let r = rest_index (whole_period flat.tables first) (done entries (place_before time first s)) m in
        let w = whole_count m in let d = done_within entries (place_before time first s) m in let a = done_all entries m in omega (arith, r, w, d, a));
    whole = λ m. whole_count m ∙ done_all entries m;
    ahead = told;
  }

-- ---- all of them

told_at : (ahead : List (List Change)) (n : ℕ) → All (All HasToldCounts) ahead → All HasToldCounts (slice_index_or ahead n [])
told_at [] n told = All-nil HasToldCounts
told_at (a ∷ ahead) zero told = All-head (All HasToldCounts) a ahead told
told_at (a ∷ ahead) (suc n) told = told_at ahead n (All-tail (All HasToldCounts) a ahead told)

pub resumed_good : ResumedAreGood
resumed_good model flat firsts s ahead limits valid told = record {
  attributes = record {
    has = λ n c at. (let r = at_number n c at in cluster_there flat (n + 1) (whole_period flat.tables r.first) limits (whole_is flat (n + 1) s.time r.first r.state (under n c r)).is);
    each = λ n c at. (let r = at_number n c at in subst (AreAttributes flat (n + 1)) (sym (ap (λ (d : ClusterAt). d.now.info.table) r.is)) (under n c r).table_is.attributes);
  };
  plans = λ n c at. (let r = at_number n c at in subst HasWholePlan (sym r.is) (plan_whole flat (n + 1) s.time r.first r.state (under n c r) model (slice_index_or ahead n []) (told_at ahead n told)));
  timed = λ n c at. (let r = at_number n c at in subst (λ (d : ClusterAt). d.since ≡ d.origin + time_of_periods d.old) (sym r.is) (zero_more r.state.start));
}
  where
    at_number : (n : ℕ) (c : ClusterAt) → slice_get (resumed_world model flat firsts s ahead).clusters n ≡ Some c → ResumedAt model flat firsts s ahead n c
    at_number n c at = resumed_at model flat firsts s ahead n c at

    under : (n : ℕ) (c : ClusterAt) (r : ResumedAt model flat firsts s ahead n c) → IsStateUnder flat (n + 1) r.state s.time r.first.attrs.rows r.first.plan
    under n c r = valid.clusters.each n r.first r.state r.first_at r.state_at

    zero_more : (n : ℕ) → n ≡ n + 0
    zero_more n = omega arith
