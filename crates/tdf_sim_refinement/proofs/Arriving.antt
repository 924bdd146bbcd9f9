-- A cluster in progress that does its entries of an offset comes to what the history says of it.
use Rattle.std.proofs.Common.{◌≡◌, ◌∙◌, ℕ, zero, suc, ◌+◌, ◌-◌, ◌<◌, ◌≤◌, Bool, List, [], ◌++◌, Some, length, replicate, if◌then◌else◌, refl, sym, ap, subst, inl, inr, arith}
use Rattle.std.proofs.lemmas.Bool.{cases_lt, eq-eqb}
use Rattle.std.proofs.lemmas.List.{length-append, length-replicate}
use Rattle.std.proofs.lemmas.Option.{slice_get_past}
use Rattle.std.specs.List.{sum_by}
use Rattle.std.specs.Prelude.{slice_get, slice_index, slice_index_or}
use Rattle.tdf_bind_tables.specs.declared.actors.ActorRow.{ActorRow}
use Rattle.tdf_convert.specs.Sampled.{AreByOffset}
use Rattle.tdf_exec.specs.Cluster.{ClusterOf, due_from, is_offset, next_offset, offset_in}
use Rattle.tdf_exec.specs.Made.{IsActorOf, IsClusterOf}
use Rattle.tdf_exec.specs.Played.{AreAllGiven, AreDone, IsPeriodOf, KeepsStanding, counted, play_of, turns_from}
use Rattle.tdf_exec.specs.declared.runners.Runner.TheVariants as runner
use Rattle.tdf_expr.specs.Checked.{IsCheckedOf}
use Rattle.tdf_fixed.specs.declared.raw.Raw.{Raw}
use Rattle.tdf_bind.specs.declared.model.Flat.{Flat}
use Rattle.tdf_streams.proofs.Api.{get_high, get_inside, none_some, reads_keep, some_same, done_next}
use Rattle.tdf_streams.specs.Net.{count}
use Rattle.tdf_streams.specs.Stands.{Stands}
use Rattle.tdf_graph.specs.declared.actors.Actor.TheVariants as actor
use Rattle.tdf_sim_history.specs.Instant.{is_entry_due}
use Rattle.tdf_sim_history.specs.World.{ClusterAt}
use Rattle.tdf_sim_refinement.proofs.Due.{due_counted, is_due_by, none_after, offset_is, true_false}
use Rattle.tdf_sim_refinement.proofs.Sampling.{done_up, reads_kept, reads_long, sampler_reads, done_to}
use Rattle.tdf_sim_refinement.specs.At.{AreSettled, IsAt}
use Rattle.tdf_sim_refinement.specs.Firings.{AreDueNext, IsNotLate, after_firings, reads_after, value_for}
use Rattle.tdf_sim_refinement.specs.Laws.{FiringsKeepAt}
use Rattle.tdf_schedule.specs.Plan.{done}
use Rattle.tdf_schedule.specs.declared.entry.Entry.{Entry}
use Rattle.tdf_streams.specs.Cluster.{cluster_net}
use Rattle.tdf_streams.specs.Places.{kind_of_row}
use Rattle.tdf_lang_tree.specs.Pure.{PureTree}

replicate_at : {A : Type 0} (n k : ℕ) (x : A) → k < n → slice_get (replicate n x) k ≡ Some x
replicate_at zero k x below = absurd (omega (arith, below))
replicate_at (suc n) zero x below = refl
replicate_at (suc n) (suc k) x below = replicate_at n k x (omega (arith, below))

-- item j after a front is one of the copies
copied : {A : Type 0} (xs : List A) (n k : ℕ) (x : A) → length xs ≤ k → k - length xs < n → slice_get (xs ++ replicate n x) k ≡ Some x
copied xs n k x high below = get_high xs (replicate n x) k high ∙ replicate_at n (k - length xs) x below

pub done_none : (entries : List Entry) (m : ℕ) → done entries 0 m ≡ 0
unfolding done
done_none entries m = refl

pub kind_inside : (actors : List ActorRow) (m : ℕ) (kind : _) → kind_of_row (slice_get actors m) ≡ Some kind → m < length actors
kind_inside actors m kind is = elim (cases_lt m (length actors)) [
  | inl inside ↦ inside
  | inr past ↦ none_some kind (ap kind_of_row (sym (slice_get_past actors m past)) ∙ is)
]

module _ (model : PureTree) (flat : Flat) (number time : ℕ) (values : List Raw) (h : ClusterAt) (c d : ClusterOf) (inputs : List Raw) (at : IsAt model flat number h c) (begun : h.since ≤ time) where
  abbrev offset : ℕ
  offset = time - h.since

  pub entry_at : (i : ℕ) (x : Entry) → slice_get c.entries i ≡ Some x → slice_get h.entries i ≡ Some x
  entry_at i x there = ap (λ (l : List Entry). slice_get l i) (sym at.entries_are) ∙ there

  pub in_plan : h.place ≤ length h.entries
  in_plan = let l = ap length at.entries_are in let p = at.place_is in let w = at.of.within in omega (arith, l, p, w)

  started : h.from ≤ h.place
  started = let s = at.period.started in let p = at.place_is in omega (arith, s, p)

  -- what was done before the start, or the period, is no more than what is done
  from_done : (m : ℕ) → done h.entries h.from m ≤ done h.entries h.place m
  from_done m = done_to h.entries m h.from h.place started in_plan

  pub not_late : next_offset c ≡ Some offset → IsNotLate time h
  not_late next = record {
    begun = begun;
    next = λ x there. (
        let next_is : offset_in (slice_get h.entries h.place) ≡ Some offset = ap (λ l. offset_in (slice_get l h.place)) (sym at.entries_are) ∙ ap (λ p. offset_in (slice_get c.entries p)) (sym at.place_is) ∙ next in
        let e = some_same x.offset offset (sym (ap offset_in there) ∙ next_is) in omega (arith, e, begun));
  }

  module _ (k : ℕ) (due : AreDueNext time k h) (sorted : AreByOffset h.entries) (late : IsNotLate time h) where
    -- the place that it comes to
    module _ (all : AreDone offset c d) where
      entries_d : d.entries ≡ c.entries
      entries_d = ap (λ (z : ClusterOf). z.entries) all.moved.rest

      not_before : d.place < h.place + k → ⊥
      not_before low =
          let up = all.moved.up in let p = at.place_is in let w = due.within in
          let e : h.place + (d.place - h.place) ≡ d.place = omega (arith, up, p) in
          let x = get_inside h.entries d.place (omega (arith, low, w)) in
          let is_now = due.due (d.place - h.place) (omega (arith, low, up, p)) in
          let same = offset_is time h x.0 (ap (is_entry_due time h) (sym (ap (slice_get h.entries) e ∙ x.1)) ∙ is_now) in
          let next : next_offset d ≡ Some x.0.offset = ap (λ l. offset_in (slice_get l d.place)) (entries_d ∙ at.entries_are) ∙ ap offset_in x.1 in
          true_false (sym (eq-eqb x.0.offset offset same) ∙ sym (ap (λ o. is_offset o offset) next) ∙ all.all)

      not_after : h.place + k < d.place → ⊥
      not_after high =
          let p = at.place_is in let w = all.moved.within in
          let x = get_inside c.entries (h.place + k) (omega (arith, high, w)) in
          let same = all.each (h.place + k) x.0 (omega (arith, p)) high x.1 in
          true_false (sym (is_due_by time h x.0 begun same) ∙ ap (is_entry_due time h) (sym (entry_at (h.place + k) x.0 x.1)) ∙ due.last)

      pub place_d : d.place ≡ h.place + k
      place_d = elim (cases_lt d.place (h.place + k)) [
        | inl low ↦ absurd (not_before low)
        | inr high ↦ elim (cases_lt (h.place + k) d.place) [ inl more ↦ absurd (not_after more) | inr less ↦ omega (arith, high, less) ]
      ]

      period_d : IsPeriodOf d h.from h.now
      period_d = record {
        started = (let s = at.period.started in let u = all.moved.up in omega (arith, s, u));
        counts = λ m. at.period.counts m ∙ ap (λ l. turns_from l h.from (length l) m) (sym entries_d);
        reads = at.period.reads ∙ sym (ap (λ (z : ClusterOf). z.reads) all.moved.rest);
        writes = at.period.writes ∙ sym (ap (λ (z : ClusterOf). z.writes) all.moved.rest);
        table = at.period.table ∙ sym (ap (λ (z : ClusterOf). z.table) all.moved.rest);
      }

      -- how often each actor was activated
      module _ (of : IsClusterOf flat d) (m : ℕ) (below : m < length d.positions) where
        turns_are : turns_from c.entries c.place d.place m ≡ turns_from h.entries h.place (h.place + k) m
        turns_are = ap (λ l. turns_from l c.place d.place m) at.entries_are ∙ ap (λ p. turns_from h.entries p d.place m) at.place_is ∙ ap (λ p. turns_from h.entries h.place p m) place_d

        pub position_d : slice_index d.positions m ≡ counted (sum_by (count m) h.old + (done h.entries (h.place + k) m - done h.entries h.from m))
        position_d =
            let long = of.positions in let as_long = at.of.positions in
            let inside : m < length c.positions = omega (arith, below, long, as_long) in
            let was = at.positions m inside in let more = all.moved.positions m inside in let t = turns_are in
            let u = done_up h.entries m h.place k due.within in let f = from_done m in omega (arith, was, more, t, u, f)

    -- what samplers have read
    abbrev reads : ℕ → List Raw
    reads m = slice_index_or (reads_after flat.tables values h k) m []

    module _ (m : ℕ) (is : IsActorOf flat.tables number m actor.Sampler) where
      has_list : m < length h.reads
      has_list = let l = at.have_read.same in let i = kind_inside flat.tables.actors m actor.Sampler is.kind_is in omega (arith, l, i)

      reads_are : reads m ≡ slice_index_or h.reads m [] ++ replicate (turns_from h.entries h.place (h.place + k) m) (value_for flat.tables values m)
      reads_are = sampler_reads flat.tables values h m is.kind_is has_list k due.within

      pub reads_count : length (reads m) ≡ sum_by (count m) h.old + (done h.entries (h.place + k) m - done h.entries h.from m)
      reads_count =
          let l = ap length reads_are ∙ length-append (slice_index_or h.reads m []) (replicate (turns_from h.entries h.place (h.place + k) m) (value_for flat.tables values m)) in
          let r = length-replicate (turns_from h.entries h.place (h.place + k) m) (value_for flat.tables values m) in
          let o = at.have_read.samplers m is in let u = done_up h.entries m h.place k due.within in let f = from_done m in omega (arith, l, r, o, u, f)

      given : (i : ℕ) (x : Entry) (v : Raw) → x.actor ≡ m → c.place ≤ i → slice_get c.entries i ≡ Some x → x.offset ≡ offset → v ≡ value_for flat.tables values m
          → slice_get (reads m) (sum_by (count m) h.old + turns_from c.entries h.from i m) ≡ Some v
      given i x v own low there same value =
          let there_h = entry_at i x there in let p = at.place_is in
          let e : h.place + (i - h.place) ≡ i = omega (arith, low, p) in
          let below : i < h.place + k = elim (cases_lt (i - h.place) k) [
            | inl less ↦ omega (arith, less, low, p)
            | inr over ↦ absurd (none_after time h sorted late k (i - h.place) x due over (ap (slice_get h.entries) e ∙ there_h) same)
          ] in
          let w = due.within in
          let one = ap {B = ℕ} (λ (b : Bool). if b then 1 else 0) (eq-eqb x.actor m own) in
          let next = done_next h.entries i m x there_h in
          let up = done_up h.entries m (i + 1) (h.place + k - (i + 1)) (omega (arith, w, below)) in
          let e2 : i + 1 + (h.place + k - (i + 1)) ≡ h.place + k = omega (arith, below) in
          let top = ap (λ j. done h.entries j m) e2 in
          let first = done_up h.entries m h.place (i - h.place) (omega (arith, w, below, low, p)) in
          let at_i = ap (λ j. done h.entries j m) e in
          let same_done = ap (λ l. done l i m) at.entries_are in
          let from_same = ap (λ l. done l h.from m) at.entries_are in
          let before = from_done m in
          let long = at.have_read.samplers m is in
          ap (λ l. slice_get l (sum_by (count m) h.old + turns_from c.entries h.from i m)) reads_are
          ∙ copied (slice_index_or h.reads m []) (turns_from h.entries h.place (h.place + k) m) (sum_by (count m) h.old + turns_from c.entries h.from i m) (value_for flat.tables values m)
          (omega (arith, long, from_same, before, same_done, at_i, first)) (omega (arith, long, from_same, before, same_done, at_i, first, top, up, next, one))
          ∙ ap Some (sym value)

    pub all_given : AreSettled flat.tables values offset c inputs → AreAllGiven offset c inputs reads h.old h.from
    all_given settled i x low there same = record {
      is = λ s v runner_is input. (
          let sampler = at.of.runners x.actor (runner.Sampler s) runner_is in
          given x.actor (record { kind_is = sampler.actor_is.kind_is; inside = sampler.actor_is.inside ∙ at.number_is }) i x v refl low there same
          (settled.are i x s v low there same runner_is input));
    }

    pub arrives : IsCheckedOf model flat.checked → AreSettled flat.tables values offset c inputs → IsClusterOf flat d → AreDone offset c d → KeepsStanding flat offset inputs c d
        → IsAt model flat number (after_firings flat.tables values h k) d
    arrives checked settled of all keeps = record {
      number_is = ap (λ (z : ClusterOf). z.number) all.moved.rest ∙ at.number_is;
      entries_are = entries_d all ∙ at.entries_are;
      bounds_are = ap (λ (z : ClusterOf). z.bounds) all.moved.rest ∙ at.bounds_are;
      place_is = place_d all;
      table_is = ap (λ (z : ClusterOf). z.table) all.moved.rest ∙ at.table_is;
      time_is = ap (λ (z : ClusterOf). z.period) all.moved.rest ∙ at.time_is;
      not_crossed = ap (λ (z : ClusterOf). z.crossed) all.moved.rest ∙ at.not_crossed;
      none_ahead = at.none_ahead;
      of = of;
      period = period_d all;
      counts = at.counts;
      records = at.records;
      have_read = record { same = reads_long flat.tables values h k ∙ at.have_read.same; samplers = λ m is. reads_count m is };
      positions = λ m below. position_d all of m below;
      steps = d.place - c.place + at.steps;
      few = (let e = place_d all in let p = at.place_is in let up = all.moved.up in let f = at.few in omega (arith, e, p, up, f));
      stands = subst (λ j. Stands (cluster_net model flat j h.begun) h.old h.now reads (d.place - c.place + at.steps) (play_of h.from d)) at.number_is
          (keeps model h.begun h.old h.now reads h.from at.steps checked at.period (all_given settled)
          (subst (λ j. Stands (cluster_net model flat j h.begun) h.old h.now reads at.steps (play_of h.from c)) (sym at.number_is)
          (reads_keep (cluster_net model flat number h.begun) h.old h.now (λ m. slice_index_or h.reads m []) reads at.steps (play_of h.from c) (reads_kept flat.tables values h k) at.stands)));
    }

pub firings_keep_at : FiringsKeepAt
firings_keep_at model flat number time values h c d inputs checked at sorted begun next settled of all keeps =
    let sorted_h = subst AreByOffset at.entries_are sorted in
    let late = not_late model flat number time values h c d inputs at begun next in
    let due = due_counted time h sorted_h (in_plan model flat number time values h c d inputs at begun) late in
    let same = ap (λ p. due_from p (time - h.since) h.entries) (sym at.place_is) ∙ ap (λ l. due_from c.place (time - h.since) l) (sym at.entries_are) in
    arrives model flat number time values h c d inputs at begun (due_from c.place (time - h.since) c.entries) (subst (λ k. AreDueNext time k h) same due) sorted_h late checked settled of all keeps
