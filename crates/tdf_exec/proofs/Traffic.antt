-- What the plan of a cluster says of a period: how often each actor fires, and how much goes through the ports.
use Rattle.std.proofs.Common.{◌≡◌, ◌∙◌, ℕ, ◌+◌, ◌*◌, ◌≤◌, List, nat_eq, if◌then◌else◌, sym, ap, inl, inr, arith}
use Rattle.std.proofs.lemmas.Bool.{cases_lt}
use Rattle.std.specs.List.{count_by}
use Rattle.std.specs.Prelude.{slice_index, sum_by}
use Rattle.tdf_exec.proofs.Entries.{plan_counts}
use Rattle.tdf_exec.proofs.Sums.{over_map}
use Rattle.tdf_exec.specs.Cluster.{ClusterOf}
use Rattle.tdf_exec.specs.Made.{IsClusterOf}
use Rattle.tdf_dynamic_plans.specs.Faults.{pace_in, samples_in}
use Rattle.tdf_dynamic_plans.specs.Rates.{NetOf, net_of, net_ports, port_rate, rated_port}
use Rattle.tdf_bind.specs.declared.model.Flat.{Flat}
use Rattle.tdf_graph.specs.declared.actors.Edge.{Edge}
use Rattle.tdf_graph.specs.declared.actors.Port.{Port}
use Rattle.tdf_schedule.specs.declared.entry.Entry.{Entry}
use Rattle.tdf_schedule.specs.declared.err.PlanErr.TheVariants.{TooLarge}
use Rattle.tdf_bind_connections.specs.declared.modules.PortRow.{PortRow}

module _ (flat : Flat) (c : ClusterOf) (of : IsClusterOf flat c) where
  -- its actors, edges and ports with their rates
  abbrev net : NetOf
  net = net_of flat.tables c.table

  -- how often each actor fires
  abbrev pub counts_in : List ℕ
  counts_in = of.planned.plan_is.counts

  -- how many samples go through a port
  abbrev pub moved_in : PortRow → ℕ
  moved_in port = slice_index counts_in port.«module» * port_rate c.table port

  -- the plan has as many entries of an actor
  pub entries_of : (m : ℕ) → count_by (λ (x : Entry). nat_eq x.actor m) c.entries ≡ slice_index counts_in m
  entries_of m = ap (count_by (λ (x : Entry). nat_eq x.actor m)) (sym of.planned.entries_are)
      ∙ plan_counts net.edges (pace_in net of.planned.plan_is.steps) counts_in of.planned.plan.entries.items of.planned.plan_is.plan_is.planned.planned m

  -- the ports of the net are those of the tables
  ports_sum : sum_by (λ (p : Port). slice_index counts_in p.actor * p.rate) net.ports ≡ sum_by moved_in flat.tables.ports
  unfolding net_of net_ports
  ports_sum = over_map (rated_port c.table) (λ (p : Port). slice_index counts_in p.actor * p.rate) flat.tables.ports

  -- the plan would not be there, were the samples at first and these too many
  pub within : sum_by (λ (x : Edge). if nat_eq (slice_index counts_in x.writer) 0 then 0 else x.initial) net.edges + sum_by moved_in flat.tables.ports ≤ 1048576
  within = elim (cases_lt 1048576 (samples_in net counts_in)) [
    | inl many ↦ absurd (of.planned.plan_is.plan_is.none TooLarge many)
    | inr few ↦ omega (arith, few, ports_sum)
  ]
