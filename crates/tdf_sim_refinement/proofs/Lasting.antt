-- A period takes some time.
use Rattle.std.proofs.Common.{◌≡◌, ◌∙◌, ℕ, ◌*◌, ◌<◌, ◌≤◌, Option, Some, None, option_map, List, slice_get, refl, sym, subst, arith}
use Rattle.std.proofs.Math.Nat.{mul-le-mul_right}
use Rattle.std.proofs.lemmas.Option.{get_or_from_slice_get, slice_get-map, slice_get_within}
use Rattle.std.specs.Prelude.{All}
use Rattle.tdf_dynamic_plans.proofs.Api.{assigned_fit, modules_few}
use Rattle.tdf_dynamic_plans.specs.Assignments.{assignments}
use Rattle.tdf_dynamic_plans.specs.Rates.{net_of, net_ports, port_rate, rated_port}
use Rattle.tdf_exec.specs.Cluster.{ClusterOf}
use Rattle.tdf_exec.specs.Made.{IsClusterOf}
use Rattle.tdf_bind.specs.declared.model.Flat.{Flat}
use Rattle.tdf_streams.proofs.Api.{get_inside, are_rates, is_wired}
use Rattle.tdf_graph.specs.Ranges.{IsRate}
use Rattle.tdf_bind_invariants.specs.Limits.{AreWithinLimits}
use Rattle.tdf_sim_refinement.specs.Inside.{PeriodsTakeTime}
use Rattle.tdf_timestep.specs.Period.{HasSteps, IsAssigned, port_rate_or_one, rate_at_port}
use Rattle.tdf_timestep.specs.declared.assign.Assign.{Assign}
use Rattle.tdf_bind_connections.specs.declared.modules.PortRow.{PortRow}

pub all_at : {X : Type 0} (P : X → Type 0) (xs : List X) (j : ℕ) (x : X) → All P xs → slice_get xs j ≡ Some x → P x
all_at P xs j x all is = subst P (get_or_from_slice_get xs j x x is) (all j x (slice_get_within xs j x is))

both_some : (a b : ℕ) → 0 < a → 0 < b → 0 < a * b
both_some a b some other = let m : 1 * b ≤ a * b = mul-le-mul_right b (omega (arith, some)) in omega (arith, m, other)

module _ (flat : Flat) (c : ClusterOf) (limits : AreWithinLimits flat) (of : IsClusterOf flat c) where
  -- a port has some rate
  rates_some : (o : Option ℕ) → 0 < rate_at_port (net_of flat.tables c.table).ports o
  unfolding net_of net_ports
  rates_some None = omega arith
  rates_some (Some number) = subst (λ r. 0 < port_rate_or_one r) (sym (slice_get-map (rated_port c.table) flat.tables.ports number)) (by_row (slice_get flat.tables.ports number) refl)
    where
      by_row : (o : Option PortRow) → slice_get flat.tables.ports number ≡ o → 0 < port_rate_or_one (option_map (rated_port c.table) o)
      by_row None at = omega arith
      by_row (Some row) at = let r = (all_at (λ (x : PortRow). IsRate (port_rate c.table x)) flat.tables.ports number row (are_rates flat limits c.table of.attributes.allowed) at).some in omega (arith, r)

  abbrev assigned : List Assign
  assigned = assignments c.table

  abbrev counts : List ℕ
  counts = of.planned.plan_is.counts

  abbrev timed : HasSteps (net_of flat.tables c.table).ports counts assigned of.planned.plan_is.steps
  timed = of.planned.plan_is.timing.steps_are

  first : (a : Assign) × (slice_get assigned 0 ≡ Some a)
  first = get_inside assigned 0 timed.is.agreed.some

  given : IsAssigned (net_of flat.tables c.table).ports counts first.0
  unfolding net_of
  given = all_at (IsAssigned (net_ports flat.tables c.table) counts) assigned 0 first.0
      (assigned_fit flat.tables c.number c.table (net_of flat.tables c.table).edges counts of.planned.plan_is.timing.counts_are.counts_are (modules_few flat.tables (is_wired flat limits)) of.attributes.own)
      first.1

  -- a first timestep is assigned, and the period is what it says
  lasts : 0 < c.period
  lasts = subst (λ n. 0 < n)
      (timed.is.agreed.all first.0 (0, slice_get_within assigned 0 first.0 first.1, get_or_from_slice_get assigned 0 first.0 first.0 first.1) ∙ sym of.planned.plan_is.plan_is.planned.same ∙ of.planned.period_is)
      (both_some _ first.0.step (both_some _ _ given.spot.fires (rates_some first.0.port)) (let s = given.some in omega (arith, s)))

pub takes_time : PeriodsTakeTime
takes_time flat c limits of = lasts flat c limits of
