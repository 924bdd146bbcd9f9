-- What modules ask for leads to what the answer tells; and a cluster with a whole period is there.
use Rattle.std.proofs.Common.{◌≡◌, ◌∙◌, ℕ, ◌<◌, List, [], ◌∷◌, Some, length, refl, sym, arith}
use Rattle.std.proofs.lemmas.List.{length-map}
use Rattle.std.proofs.lemmas.Option.{get_or_from_slice_get}
use Rattle.std.specs.Prelude.{Contains, slice_get}
use Rattle.tdf_dynamic_plans.specs.Assignments.{assignments}
use Rattle.tdf_bind_tables.specs.Actors.{cluster_of}
use Rattle.tdf_exec.specs.Next as next
use Rattle.tdf_dynamic_plans.specs.Attributes.{AttrsOf, IsOfCluster, clusters_of}
use Rattle.tdf_bind.specs.declared.model.Flat.{Flat}
use Rattle.tdf_bind_invariants.specs.Limits.{AreWithinLimits}
use Rattle.tdf_streams.proofs.Api.{get_inside, is_wired}
use Rattle.tdf_dynamic_plans.proofs.Api.{modules_few}
use Rattle.tdf_sim_refinement.proofs.Crossing.{all_at}
use Rattle.tdf_sim_refinement.specs.Boundary.{AnswersLead}
use Rattle.tdf_streams.specs.Periods.{PeriodRecord, IsPeriodRecord}

pub answers_lead : AnswersLead
answers_lead tables number asks old new next.Same is = is
answers_lead tables number asks old new (next.Changed attrs plan) is = record {
  table_is = is.1;
  plan = plan;
  plan_is = is.2;
  counts_are = refl;
  period_is = refl;
  entries_are = refl;
  bounds_are = refl;
}

-- a table that assigns a timestep has a row
has_row : (table : List AttrsOf) → 0 < length (assignments table) → (a : AttrsOf) × (slice_get table 0 ≡ Some a)
unfolding assignments
has_row [] some = absurd (omega (arith, some))
has_row (a ∷ table) some = (a, refl)

pub cluster_there : (flat : Flat) (number : ℕ) (p : PeriodRecord) → AreWithinLimits flat → IsPeriodRecord flat number p → Contains (clusters_of flat.tables) number
cluster_there flat number p limits is =
    let a = has_row p.info.table is.timed.period_is.agreed.some in
    let own = all_at (IsOfCluster flat.tables number) p.info.table 0 a.0 is.timed.attributes.own a.1 in
    let few = modules_few flat.tables (is_wired flat limits) in
    let long = length-map flat.tables.actors cluster_of in
    let below : a.0.number < length (clusters_of flat.tables) = (let b = own.is_module in omega (arith, few, b, long)) in
    let x = get_inside (clusters_of flat.tables) a.0.number below in
    let same : x.0 ≡ number = sym (get_or_from_slice_get (clusters_of flat.tables) a.0.number x.0 0 x.1) ∙ own.inside in
    (a.0.number, below, get_or_from_slice_get (clusters_of flat.tables) a.0.number x.0 number x.1 ∙ same)
