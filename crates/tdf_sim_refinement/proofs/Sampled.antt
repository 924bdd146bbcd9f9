-- The samples of a port's signal at the start, after a boundary and as cells.
use Rattle.std.proofs.Common.{◌≡◌, ◌∙◌, ℕ, ◌+◌, ◌-◌, ◌*◌, Bool, true, List, [], ◌∷◌, Option, Some, None, length, if◌then◌else◌, option_map, refl, sym, ap, subst, inl, inr, arith}
use Rattle.std.proofs.lemmas.Bool.{cases_lt, le-ltb, lt-ltb}
use Rattle.std.proofs.lemmas.List.Sums.{sum_by-append, sum_by-cons}
use Rattle.std.proofs.lemmas.Option.{slice_get_past, slice_get_within}
use Rattle.std.specs.List.{sum_by}
use Rattle.std.specs.Prelude.{drop, slice_get, slice_index, sum}
use Rattle.tdf_exec.specs.Cluster.{ClusterOf}
use Rattle.tdf_fixed.specs.declared.raw.Raw.{Raw}
use Rattle.tdf_bind.specs.declared.model.Flat.{Flat}
use Rattle.tdf_streams.proofs.Api.{get_inside, known_more}
use Rattle.tdf_streams.specs.Grounds.{firings}
use Rattle.tdf_streams.specs.Stands.{Less}
use Rattle.tdf_streams.specs.Streams.{known}
use Rattle.tdf_sim_history.specs.Cells.{column_spans, sample_at, samples_done}
use Rattle.tdf_sim_history.specs.Columns.{ColumnStart, held_by}
use Rattle.tdf_sim_history.specs.Instant.{periods_of, run_in, same_period}
use Rattle.tdf_sim_history.specs.Start.{first_cluster}
use Rattle.tdf_sim_history.specs.World.{ClusterAt}
use Rattle.tdf_trace_rows.specs.Positions.{position_at}
use Rattle.tdf_sim_refinement.proofs.Arriving.{done_none}
use Rattle.tdf_sim_refinement.specs.At.{IsAt}
use Rattle.tdf_schedule.specs.Plan.{done}
use Rattle.tdf_schedule.specs.declared.entry.Entry.{Entry}
use Rattle.tdf_streams.specs.Cluster.{cluster_net}
use Rattle.tdf_streams.specs.Periods.{PeriodRecord, period_record}
use Rattle.tdf_streams.specs.Signals.{outputs_in, port_output, rate_in}
use Rattle.tdf_sim_refinement.proofs.Knowing.{column_more, done_known}
use Rattle.tdf_sim_refinement.specs.SampleLaws.{BoundariesAddNone, CellsAreOfSamples, StartsHaveSamples}
use Rattle.tdf_sim_refinement.specs.Samples.{AreSamplesOf, sample_known}
use Rattle.tdf_lang_tree.specs.Pure.{PureTree}
use Rattle.tdf_bind_connections.specs.declared.modules.PortRow.{PortRow}

-- at the start
pub starts_have_samples : StartsHaveSamples
starts_have_samples model flat cluster number port s first = record {
  many = (
      let n = ap (λ d. (d - d) * rate_in port begun.now) (done_none begun.entries port.«module») in
      let z : (0 - 0) * rate_in port begun.now ≡ 0 = omega arith in
      let o : sum_by (outputs_in port) [] ≡ 0 = refl in omega (arith, n, z, o));
  are = λ j v there. ap (λ (b : Bool). if b then slice_get (held_by s) j else port_output (periods_of begun) port number
      (known (cluster_net model flat cluster begun.begun) (run_in begun) (firings (periods_of begun))) (j - length (held_by s))) (lt-ltb j (length (held_by s)) (slice_get_within (held_by s) j v there)) ∙ there;
}
  where
    begun : ClusterAt
    begun = first_cluster model flat cluster first []

-- after a boundary: a further period began, with some plan
module _ (model : PureTree) (flat : Flat) (cluster number time : ℕ) (port : PortRow) (s : ColumnStart) (h : ClusterAt) (c : ClusterOf) (samples : List Raw) (at : IsAt model flat cluster h c) (end : h.place ≡ length h.entries)
    (are : AreSamplesOf model flat cluster number port s h samples) (next : PeriodRecord) (entries : List Entry) (bounds : List ℕ) where
  abbrev after : ClusterAt
  after = record h { entries = entries; bounds = bounds; since = time; from = 0; place = 0; old = periods_of h; now = next; ahead = drop 1 h.ahead }

  less : Less (known (cluster_net model flat cluster h.begun) (run_in h) (firings (periods_of h))) (known (cluster_net model flat cluster h.begun) (run_in after) (firings (periods_of after)))
  less =
      let s = sum_by-append (λ (p : PeriodRecord). sum p.counts) (periods_of h) (next ∷ []) in
      let e : firings (periods_of after) - firings (periods_of h) + firings (periods_of h) ≡ firings (periods_of after) = omega (arith, s) in
      subst (λ n. Less (known (cluster_net model flat cluster h.begun) (run_in h) (firings (periods_of h))) (known (cluster_net model flat cluster h.begun) (run_in after) n)) e
      (known_more (cluster_net model flat cluster h.begun) (run_in h) (run_in after) (record { rest = next ∷ []; periods = refl; reads = λ m n x there. there }) (firings (periods_of h))
      (firings (periods_of after) - firings (periods_of h)))

  as_many : samples_done s port h ≡ samples_done s port after
  as_many =
      let t = sum_by-append (outputs_in port) h.old (h.now ∷ []) in
      let o = sum_by-cons (outputs_in port) h.now [] in
      let n : sum_by (outputs_in port) [] ≡ 0 = refl in
      let k = (done_known model flat cluster h c at).counts port.«module» in
      let p = ap (λ i. done h.entries i port.«module») end in
      let e : done h.entries h.place port.«module» - done h.entries h.from port.«module» ≡ slice_index h.now.counts port.«module» = omega (arith, k, p) in
      let d = ap (λ k. k * rate_in port h.now) e in
      let a = ap (λ k. (k - k) * rate_in port next) (done_none entries port.«module») in
      let z : (0 - 0) * rate_in port next ≡ 0 = omega arith in
      omega (arith, t, o, n, d, a, z)

  pub boundary_adds_none : AreSamplesOf model flat cluster number port s after samples
  boundary_adds_none = record {
    many = are.many ∙ as_many;
    are = λ j v there. column_more s (periods_of h) (next ∷ []) port number (known (cluster_net model flat cluster h.begun) (run_in h) (firings (periods_of h)))
        (known (cluster_net model flat cluster h.begun) (run_in after) (firings (periods_of after))) less j v (are.are j v there);
  }

pub boundaries_add_none : BoundariesAddNone
boundaries_add_none = record {
  same = λ model flat cluster number time port s h c samples table at end are.
      boundary_adds_none model flat cluster number time port s h c samples at end are (same_period table h.now) h.entries h.bounds;
  new = λ model flat cluster number time port s h c samples table counts period entries bounds at end are.
      boundary_adds_none model flat cluster number time port s h c samples at end are (period_record flat.tables table counts period true) entries bounds;
}

-- as cells
module _ (model : PureTree) (flat : Flat) (cluster number time : ℕ) (port : PortRow) (s : ColumnStart) (c : ClusterAt) (samples : List Raw) (are : AreSamplesOf model flat cluster number port s c samples) where
  sample_is : (j : ℕ) → sample_at model flat cluster c s port number j ≡ slice_get samples j
  sample_is j = elim (cases_lt j (samples_done s port c)) [
    | inl low ↦ (let m = are.many in let v = get_inside samples j (omega (arith, m, low)) in
        ap (λ (b : Bool). if b then sample_known model flat cluster number port s c j else None) (lt-ltb j (samples_done s port c) low) ∙ are.are j v.0 v.1 ∙ sym v.1)
    | inr past ↦ (let m = are.many in
        ap (λ (b : Bool). if b then sample_known model flat cluster number port s c j else None) (le-ltb j (samples_done s port c) past) ∙ sym (slice_get_past samples j (omega (arith, m, past))))
  ]

  at_position : (o : Option ℕ) → option_map (sample_at model flat cluster c s port number) o ≡ option_map (slice_get samples) o
  at_position None = refl
  at_position (Some j) = ap Some (sample_is j)

pub cell_of_samples : CellsAreOfSamples
cell_of_samples model flat cluster number time port s c samples are = at_position model flat cluster number time port s c samples are (position_at 0 (column_spans port s c.origin (periods_of c)) time)
