-- A cluster in progress at its start is what the history begins with.
use Rattle.std.proofs.Common.{◌≡◌, ◌∙◌, ℕ, zero, suc, ◌+◌, true, List, [], length, replicate, nat_eq, refl, sym, ap, subst, arith}
use Rattle.std.proofs.lemmas.List.{ext_get_or, length-map, length-replicate}
use Rattle.std.proofs.lemmas.List.FromFn.{length-map-range_with_len}
use Rattle.std.proofs.lemmas.List.Elements.{All-nil}
use Rattle.std.proofs.lemmas.Option.{get_or_from_slice_get}
use Rattle.std.specs.List.{count_by}
use Rattle.std.specs.Prelude.{slice_index, slice_index_or}
use Rattle.tdf_bind_tables.specs.Actors.{cluster_of}
use Rattle.tdf_dynamic_plans.specs.Attributes.{AttrsOf, clusters_of}
use Rattle.tdf_dynamic_plans.specs.Rates.{net_of}
use Rattle.tdf_exec.specs.Below.{First}
use Rattle.tdf_exec.proofs.Api.{plan_counts}
use Rattle.tdf_exec.specs.Cluster.{ClusterOf}
use Rattle.tdf_exec.specs.Played.{IsPeriodOf, play_of}
use Rattle.tdf_expr.specs.Checked.{IsCheckedOf}
use Rattle.tdf_fixed.specs.declared.raw.Raw.{Raw}
use Rattle.tdf_bind.specs.Flat.{IsFlatOf}
use Rattle.tdf_bind.specs.declared.model.Flat.{Flat}
use Rattle.tdf_streams.proofs.Api.{get_made_at, first_record, text_has_lists}
use Rattle.tdf_streams.specs.Stands.{Stands}
use Rattle.tdf_sim_history.specs.Start.{counts_in, first_cluster}
use Rattle.tdf_bind_invariants.specs.Limits.{AreWithinLimits}
use Rattle.tdf_sim_refinement.proofs.Arriving.{done_none}
use Rattle.tdf_sim_refinement.proofs.Writing.{done_all}
use Rattle.tdf_sim_refinement.specs.At.{HaveRead, IsAt}
use Rattle.tdf_sim_refinement.specs.Begun.{HasBegun, StartsAreAt}
use Rattle.tdf_schedule.specs.Plan.{done}
use Rattle.tdf_schedule.specs.declared.entry.Entry.{Entry}
use Rattle.tdf_streams.specs.Cluster.{cluster_net, text_start}
use Rattle.tdf_streams.specs.Periods.{IsWholeRecord, PeriodRecord, period_record, read_rates, write_rates}
use Rattle.tdf_lang_tree.specs.Pure.{PureTree}

-- the entries of each actor are counted
pub counted_in : (flat : Flat) (entries : List Entry) (counts : List ℕ) → length counts ≡ length (clusters_of flat.tables) → ((m : ℕ) → count_by (λ (x : Entry). nat_eq x.actor m) entries ≡ slice_index counts m) → counts_in flat.tables entries ≡ counts
counted_in flat entries counts long each =
    let l = length-map-range_with_len (λ m. count_by (λ (x : Entry). nat_eq x.actor m) entries) 0 (length flat.tables.actors) in
    let k = length-map flat.tables.actors cluster_of in
    ext_get_or 0 (counts_in flat.tables entries) counts (omega (arith, l, k, long)) (λ i inside.
    get_or_from_slice_get (counts_in flat.tables entries) i (count_by (λ (x : Entry). nat_eq x.actor (0 + i)) entries) 0
    (get_made_at (λ m. count_by (λ (x : Entry). nat_eq x.actor m) entries) 0 (length flat.tables.actors) i (omega (arith, inside, l)))
    ∙ (let z : 0 + i ≡ i = omega arith in ap (λ j. count_by (λ (x : Entry). nat_eq x.actor j) entries) z) ∙ each i)

none_read : (n m : ℕ) → slice_index_or (replicate {A = List Raw} n []) m [] ≡ []
none_read zero m = refl
none_read (suc n) zero = refl
none_read (suc n) (suc m) = none_read n m

module _ (model : PureTree) (flat : Flat) (number : ℕ) (first : First) (c : ClusterOf) (is : IsFlatOf model flat) (checked : IsCheckedOf model flat.checked) (limits : AreWithinLimits flat) (begun : HasBegun flat number first c) where
  abbrev entries : List Entry
  entries = first.plan.entries.items

  abbrev now : PeriodRecord
  now = period_record flat.tables first.attrs.rows (counts_in flat.tables entries) first.plan.period true

  first_whole : IsWholeRecord flat number now
  first_whole = let r = first_record flat number first limits begun.first_is in
      subst (λ l. IsWholeRecord flat number (period_record flat.tables first.attrs.rows l first.plan.period true))
      (sym (counted_in flat entries r.counts r.record_is.is.timed.counts_are.long (plan_counts (net_of flat.tables first.attrs.rows).edges _ r.counts entries r.plan_is.planned))) r.record_is

  first_counts : (m : ℕ) → slice_index (counts_in flat.tables entries) m ≡ count_by (λ (x : Entry). nat_eq x.actor m) entries
  first_counts m = let r = first_record flat number first limits begun.first_is in
      let p = plan_counts (net_of flat.tables first.attrs.rows).edges _ r.counts entries r.plan_is.planned in
      ap (λ l. slice_index l m) (counted_in flat entries r.counts r.record_is.is.timed.counts_are.long p) ∙ sym (p m)

  first_period : IsPeriodOf c 0 now
  first_period = record {
    started = omega arith;
    counts = λ m. (
        let f = first_counts m in let a = done_all entries m in let n = done_none c.entries m in
        let e = ap (λ es. done es (length es) m) begun.start.entries_are in omega (arith, f, a, n, e));
    reads = sym (begun.of.reads_are ∙ ap (λ (t : List AttrsOf). read_rates (net_of flat.tables t)) begun.start.table_is);
    writes = sym (begun.of.writes_are ∙ ap (λ (t : List AttrsOf). write_rates (net_of flat.tables t)) begun.start.table_is);
    table = sym begun.start.table_is;
  }

  first_read : HaveRead flat.tables number (first_cluster model flat number first [])
  first_read = record {
    same = length-replicate (length flat.tables.actors) [];
    samplers = λ m sampler. (let r = ap length (none_read (length flat.tables.actors) m) in let n = done_none entries m in omega (arith, r, n));
  }

  first_stands : (reads : ℕ → List Raw) → Stands (cluster_net model flat number (text_start model flat number first.attrs.rows)) [] now reads 0 (play_of 0 c)
  first_stands reads =
      let here = begun.stands model now reads checked in
      let at_number = subst (λ j. Stands (cluster_net model flat j (text_start model flat j c.table)) [] now reads 0 (play_of 0 c)) begun.start.number_is here in
      subst (λ t. Stands (cluster_net model flat number (text_start model flat number t)) [] now reads 0 (play_of 0 c)) begun.start.table_is at_number

  pub start_at : IsAt model flat number (first_cluster model flat number first []) c
  start_at = record {
    number_is = begun.start.number_is;
    entries_are = begun.start.entries_are;
    bounds_are = begun.start.bounds_are;
    place_is = begun.start.place_is;
    table_is = begun.start.table_is;
    time_is = begun.start.period_is;
    not_crossed = begun.start.not_crossed;
    none_ahead = refl;
    of = begun.of;
    period = first_period;
    counts = λ m. first_counts m ∙ done_all entries m;
    records = record { lists = text_has_lists model flat number first.attrs.rows now is refl; head = first_whole.is; rest = All-nil (IsWholeRecord flat number) };
    have_read = first_read;
    positions = λ m below. (let z = begun.start.none_done m in let n = done_none entries m in omega (arith, z, n));
    steps = 0;
    few = omega arith;
    stands = first_stands (λ m. slice_index_or (replicate (length flat.tables.actors) []) m []);
  }

pub starts_are_at : StartsAreAt
starts_are_at model flat number first c is checked limits begun = start_at model flat number first c is checked limits begun
