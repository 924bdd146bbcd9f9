-- A run from its text begins with sound clusters.
use Rattle.std.proofs.Common.{true, false, None, option_map, ◌≡◌, ◌∙◌, ◌+◌, ℕ, zero, suc, List, [], ◌∷◌, Some, length, map, replicate, slice_get, slice_index_or, nat_eq, refl, sym, ap, subst, arith}
use Rattle.std.proofs.lemmas.List.{length-replicate}
use Rattle.std.proofs.lemmas.Option.{slice_get-map}
use Rattle.std.proofs.lemmas.List.Elements.{All-nil}
use Rattle.std.specs.List.{All, count_by, enumerate_from}
use Rattle.std.specs.Prelude.{slice_index}
use Rattle.tdf_bind.specs.Flat.{IsFlatOf}
use Rattle.tdf_bind.specs.declared.model.Flat.{Flat}
use Rattle.tdf_bind_connections.specs.ProcessBlocks.{BlockRowOf}
use Rattle.tdf_bind_invariants.specs.Limits.{AreWithinLimits}
use Rattle.tdf_dynamic_first.specs.First.{IsFirstPlan}
use Rattle.tdf_dynamic_first.specs.declared.first.First.{First}
use Rattle.tdf_dynamic_plans.specs.Attributes.{IsOfCluster}
use Rattle.tdf_dynamic_plans.specs.Faults.{IsTablePlan}
use Rattle.tdf_dynamic_plans.specs.Rates.{net_of}
use Rattle.tdf_events.proofs.Api.{none_at_start}
use Rattle.tdf_exec.proofs.Api.{plan_counts}
use Rattle.tdf_expr.specs.Made.{CellsFit, start_cells, start_rates}
use Rattle.tdf_expr_laws.specs.Cells.{BodiesKeepCells, StartsFit}
use Rattle.tdf_expr_state.specs.State.{FrameState}
use Rattle.tdf_lang_tree.specs.Pure.{PureTree}
use Rattle.tdf_schedule.specs.Plan.{done}
use Rattle.tdf_schedule.specs.declared.entry.Entry.{Entry}
use Rattle.tdf_sim_history.specs.Continuing.{HasToldCounts}
use Rattle.tdf_sim_history.specs.Start.{counts_in, first_cluster}
use Rattle.tdf_sim_history.specs.World.{Change, ClusterAt}
use Rattle.tdf_sim_refinement.proofs.Api.{all_at, counted_in}
use Rattle.tdf_sim_refinement.proofs.Api.{done_all}
use Rattle.tdf_sim_split.proofs.Fits.{text_fits}
use Rattle.tdf_sim_split.proofs.Others.{text_others}
use Rattle.tdf_sim_split.proofs.Sound.{none_before, number_of}
use Rattle.tdf_sim_split.specs.Following.{IsSoundCluster}
use Rattle.tdf_fixed.specs.declared.raw.Raw.{Raw}
use Rattle.tdf_sim_split.specs.Laws.{TextsBeginSound}
use Rattle.tdf_sim_split.specs.Snapshots.{HasFitCells, SaysOthers, TextsAreSoundStarts}
use Rattle.tdf_streams.proofs.Api.{first_record, some_same, text_attributes, text_has_lists}
use Rattle.tdf_streams.specs.Laws.{HasRecord}
use Rattle.tdf_streams.specs.Periods.{HasAllowedRates, IsWholeRecord, PeriodRecord, period_record}

-- a cluster of many, one after the other
pub first_at : (f : ℕ × First → ClusterAt) (k : ℕ) (firsts : List First) (n : ℕ) (c : ClusterAt) → slice_get (map f (enumerate_from k firsts)) n ≡ Some c → (first : First) × (slice_get firsts n ≡ Some first) × (c ≡ f (k + n, first))
first_at f k [] n c at = absurd cc
first_at f k (x ∷ firsts) zero c at =
    let z : k ≡ k + 0 = omega arith in
    (x, refl, sym (some_same (f (k, x)) c at) ∙ ap (λ j. f (j, x)) z)
first_at f k (x ∷ firsts) (suc n) c at =
    let rest = first_at f (k + 1) firsts n c at in
    let z : k + 1 + n ≡ k + suc n = omega arith in
    (rest.0, rest.1, rest.2 ∙ ap (λ j. f (j, rest.0)) z)

pub none_read : (n m : ℕ) → slice_index_or (replicate {A = List Raw} n []) m [] ≡ []
none_read zero m = refl
none_read (suc n) zero = refl
none_read (suc n) (suc m) = none_read n m

told_at : (ahead : List (List Change)) (n : ℕ) → All (All HasToldCounts) ahead → All HasToldCounts (slice_index_or ahead n [])
told_at [] n all = All-nil HasToldCounts
told_at (a ∷ ahead) zero all = all 0 [] (omega arith)
told_at (a ∷ ahead) (suc n) all = told_at ahead n (λ j d below. all (suc j) d (omega (arith, below)))

module _ (model : PureTree) (flat : Flat) (is : IsFlatOf model flat) (limits : AreWithinLimits flat) (number : ℕ) (first : First) (plan : IsFirstPlan flat number first) (ahead : List Change) (told : All HasToldCounts ahead) where
  abbrev entries : List Entry
  entries = first.plan.entries.items

  r : HasRecord flat number first.attrs.rows first.plan true
  r = first_record flat number first limits plan

  counted : (m : ℕ) → count_by (λ (x : Entry). nat_eq x.actor m) entries ≡ slice_index r.counts m
  counted m = plan_counts (net_of flat.tables first.attrs.rows).edges _ r.counts entries r.plan_is.planned m

  counts_are : counts_in flat.tables entries ≡ r.counts
  counts_are = counted_in flat entries r.counts r.record_is.is.timed.counts_are.long counted

  abbrev now : PeriodRecord
  now = period_record flat.tables first.attrs.rows (counts_in flat.tables entries) first.plan.period true

  whole : IsWholeRecord flat number now
  whole = subst (λ l. IsWholeRecord flat number (period_record flat.tables first.attrs.rows l first.plan.period true)) (sym counts_are) r.record_is

  all_counted : (m : ℕ) → slice_index (counts_in flat.tables entries) m ≡ done entries (length entries) m
  all_counted m = ap (λ l. slice_index l m) counts_are ∙ sym (counted m) ∙ done_all entries m

  cluster_sound : IsSoundCluster flat number (first_cluster model flat number first ahead)
  cluster_sound = record {
    records = record { lists = text_has_lists model flat number first.attrs.rows now is refl; head = whole.is; rest = All-nil (IsWholeRecord flat number) };
    members = ap (map number_of) plan.attrs_are;
    planned = record {
      plan = first.plan;
      is = subst (λ t. IsTablePlan flat.tables number t first.plan) (sym plan.attrs_are) plan.plan_is;
      entries = refl;
      bounds = refl;
      period = refl;
    };
    plan = record {
      counts = λ m. (let a = all_counted m in let z = none_before entries m in omega (arith, a, z));
      whole = all_counted;
      ahead = told;
    };
    counts = refl;
    from = omega arith;
    place = omega arith;
    many = length-replicate (length flat.tables.actors) [];
    samplers = λ m sampler. (let z = none_before entries m in let l = ap length (none_read (length flat.tables.actors) m) in omega (arith, z, l));
    none = λ m other. none_read (length flat.tables.actors) m;
  }

-- how an instance of a block of processes starts
abbrev starting : Flat → BlockRowOf → FrameState
starting flat row = record { cells = start_cells flat.checked row.block; rates = start_rates flat.checked row.block }

pub texts_begin_sound : TextsBeginSound
texts_begin_sound model flat firsts ahead turns is limits plans told = record {
  each = λ n c at. (
      let x = first_at (λ f. first_cluster model flat (f.0 + 1) f.1 (slice_index_or ahead f.0 [])) 0 firsts n c at in
      let z : 0 + n ≡ n = omega arith in
      let made : c ≡ first_cluster model flat (n + 1) x.0 (slice_index_or ahead n []) = x.2 ∙ ap (λ k. first_cluster model flat (k + 1) x.0 (slice_index_or ahead k [])) z in
      subst (IsSoundCluster flat (n + 1)) (sym made) (cluster_sound model flat is limits (n + 1) x.0 (plans n x.0 x.1) (slice_index_or ahead n []) (told_at ahead n told)));
}

-- and so in all

pub texts_are_sound : BodiesKeepCells → StartsFit → TextsAreSoundStarts
texts_are_sound keep starts model flat firsts ahead turns is checked limits plans told = record {
  sound = texts_begin_sound model flat firsts ahead turns is limits plans told;
  others = λ n c at. (
      let x = first_at (λ f. first_cluster model flat (f.0 + 1) f.1 (slice_index_or ahead f.0 [])) 0 firsts n c at in
      let z : 0 + n ≡ n = omega arith in
      let made : c ≡ first_cluster model flat (n + 1) x.0 (slice_index_or ahead n []) = x.2 ∙ ap (λ k. first_cluster model flat (k + 1) x.0 (slice_index_or ahead k [])) z in
      let own = subst (All (IsOfCluster flat.tables (n + 1))) (sym (plans n x.0 x.1).attrs_are) (text_attributes flat (n + 1) limits).own in
      subst (λ (d : ClusterAt). SaysOthers model flat (n + 1) d.begun) (sym made)
      (text_others model flat limits (n + 1) x.0.attrs.rows (λ i a there. all_at (IsOfCluster flat.tables (n + 1)) x.0.attrs.rows i a own there)));
  cells = λ n c at. (
      let x = first_at (λ f. first_cluster model flat (f.0 + 1) f.1 (slice_index_or ahead f.0 [])) 0 firsts n c at in
      let z : 0 + n ≡ n = omega arith in
      let made : c ≡ first_cluster model flat (n + 1) x.0 (slice_index_or ahead n []) = x.2 ∙ ap (λ k. first_cluster model flat (k + 1) x.0 (slice_index_or ahead k [])) z in
      let allowed = subst (All (HasAllowedRates flat)) (sym (plans n x.0 x.1).attrs_are) (text_attributes flat (n + 1) limits).allowed in
      subst (λ (d : ClusterAt). HasFitCells flat d.begun.cells) (sym made) (text_fits keep starts model flat checked (n + 1) x.0.attrs.rows allowed));
  side = record {
    waiting = (none_at_start flat).1;
    delta = length-replicate (length flat.tables.events) false;
    rates = λ n row f row_at f_at. ap (λ (x : FrameState). x.rates) (sym (some_same _ f
        (sym (slice_get-map (starting flat) flat.tables.blocks n ∙ ap (option_map (starting flat)) row_at) ∙ f_at)));
    cells = λ n row f row_at f_at. subst (λ (x : FrameState). CellsFit flat.checked row.block x.cells) (some_same _ f
        (sym (slice_get-map (starting flat) flat.tables.blocks n ∙ ap (option_map (starting flat)) row_at) ∙ f_at)) (starts model flat.checked row.block checked);
    until = λ event time at. absurd (let no : None ≡ Some time = sym ((none_at_start flat).0.none event) ∙ at in absurd cc);
    none = λ zero_time. (none_at_start flat).0;
    first = λ zero_time. refl;
  };
  left = omega arith;
}
