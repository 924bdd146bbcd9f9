-- Tables that differ in their flags alone: nets, plans and rates are the same.
use Rattle.std.proofs.Common.{◌≡◌, ◌∙◌, ℕ, suc, Bool, true, false, if◌then◌else◌, nat_eq, List, [], ◌∷◌, ◌++◌, Option, Some, None, length, map, refl, sym, ap, subst, arith}
use Rattle.std.specs.List.{flat_map}
use Rattle.std.specs.Prelude.{slice_get}
use Rattle.tdf_bind_tables.specs.FlatTables.{FlatTablesOf}
use Rattle.tdf_dynamic_plans.specs.Assignments.{assigned_by, assignments}
use Rattle.tdf_dynamic_plans.specs.Attributes.{AttrsOf, attrs_at, rates_in}
use Rattle.tdf_dynamic_plans.specs.Faults.{HasCountsOf, IsPlanOf, IsTablePlan}
use Rattle.tdf_dynamic_plans.specs.Rates.{NetOf, net_of, net_ports, port_rate, rate_by, rated_edge, rated_port}
use Rattle.tdf_exec.specs.Cluster.{ClusterOf}
use Rattle.tdf_exec.specs.Made.{HasRows, IsClusterWith, IsRunnerWith}
use Rattle.tdf_exec.specs.Traced.{rate_of_row, traced_port}
use Rattle.tdf_exec.specs.declared.runners.Runner.{Runner}
use Rattle.tdf_exec.specs.declared.runners.Runner.TheVariants as runner
use Rattle.tdf_bind.specs.declared.model.Flat.{Flat}
use Rattle.tdf_graph.specs.declared.actors.Port.{Port}
use Rattle.tdf_exec_layout.specs.Traced.{traced_ports}
use Rattle.tdf_schedule.specs.declared.entry.Plan.{Plan}
use Rattle.tdf_streams.specs.Periods.{AreAttributes, read_rates, write_rates}
use Rattle.tdf_timestep.specs.Period.{HasSteps}
use Rattle.tdf_timestep.specs.declared.assign.Assign.{Assign}
use Rattle.tdf_bind_connections.specs.declared.modules.PortRow.{PortRow}

-- a row with another flag
abbrev pub with_flag : Bool → AttrsOf → AttrsOf
with_flag flag a = record a { accepts = flag }

-- row for row
abbrev pub DifferInFlags : (old new : List AttrsOf) → Type 0
DifferInFlags [] [] = Unit {0}
DifferInFlags [] (b ∷ new) = ⊥
DifferInFlags (a ∷ old) [] = ⊥
DifferInFlags (a ∷ old) (b ∷ new) = (b ≡ with_flag b.accepts a) × DifferInFlags old new

pub in_flags : (old new : List AttrsOf) → length new ≡ length old → ((i : ℕ) (a b : AttrsOf) → slice_get old i ≡ Some a → slice_get new i ≡ Some b → b ≡ with_flag b.accepts a) → DifferInFlags old new
in_flags [] [] long each = tt
in_flags [] (b ∷ new) long each = absurd (omega (arith, long))
in_flags (a ∷ old) [] long each = absurd (omega (arith, long))
in_flags (a ∷ old) (b ∷ new) long each = (each 0 a b refl refl, in_flags old new (omega (arith, long)) (λ i x y at there. each (suc i) x y at there))

map_same : {A B : Type 0} (f g : A → B) → ((x : A) → f x ≡ g x) → (xs : List A) → map f xs ≡ map g xs
map_same f g same [] = refl
map_same f g same (x ∷ xs) = ap (λ y. y ∷ map f xs) (same x) ∙ ap (λ l. g x ∷ l) (map_same f g same xs)

-- what is told of a module does not see the flag
found_same : {A : Type 0} (f : Option AttrsOf → A) → ((a : AttrsOf) (flag : Bool) → f (Some (with_flag flag a)) ≡ f (Some a)) → (old new : List AttrsOf) → DifferInFlags old new → (m : ℕ)
    → f (attrs_at new m) ≡ f (attrs_at old m)
found_same f blind [] [] differ m = refl
found_same f blind [] (b ∷ new) differ m = absurd differ
found_same f blind (a ∷ old) [] differ m = absurd differ
found_same f blind (a ∷ old) (b ∷ new) differ m =
    ap (λ (x : AttrsOf). f (if nat_eq x.number m then Some x else attrs_at new m)) differ.0
    ∙ go (nat_eq a.number m) (found_same f blind old new differ.1 m)
  where
    go : (c : Bool) → f (attrs_at new m) ≡ f (attrs_at old m) → f (if c then Some (with_flag b.accepts a) else attrs_at new m) ≡ f (if c then Some a else attrs_at old m)
    go true rest = blind a b.accepts
    go false rest = rest

module _ (tables : FlatTablesOf) (old new : List AttrsOf) (differ : DifferInFlags old new) where
  pub rate_same : (port : PortRow) → port_rate new port ≡ port_rate old port
  rate_same port = found_same (rate_by port) (λ a flag. refl) old new differ port.«module»

  pub rates_same : (m : ℕ) → rates_in (attrs_at new m) ≡ rates_in (attrs_at old m)
  rates_same m = found_same rates_in (λ a flag. refl) old new differ m

  ports_same : net_ports tables new ≡ net_ports tables old
  unfolding net_ports
  ports_same = map_same (rated_port new) (rated_port old) (λ port. ap (λ r. record { actor = port.«module»; rate = r }) (rate_same port)) tables.ports

  pub net_same : net_of tables new ≡ net_of tables old
  unfolding net_of
  net_same = ap (λ (l : List Port). record { actors = map (λ row. row.kind) tables.actors; edges = map (rated_edge tables.ports l) tables.edges; ports = l }) ports_same

  traced_at : (o : Option PortRow) → rate_of_row new o ≡ rate_of_row old o
  traced_at None = refl
  traced_at (Some port) = rate_same port

  pub traced_same : (list : List ℕ) → map (traced_port tables new) list ≡ map (traced_port tables old) list
  traced_same list = map_same (traced_port tables new) (traced_port tables old) (λ n. ap (λ r. record (traced_port tables old n) { rate = r }) (traced_at (slice_get tables.ports n))) list

assigned_same : (old new : List AttrsOf) → DifferInFlags old new → assignments new ≡ assignments old
unfolding assignments
assigned_same [] [] differ = refl
assigned_same [] (b ∷ new) differ = absurd differ
assigned_same (a ∷ old) [] differ = absurd differ
assigned_same (a ∷ old) (b ∷ new) differ =
    ap (λ (x : AttrsOf). assigned_by x ++ flat_map assigned_by new) differ.0 ∙ ap (λ l. assigned_by a ++ l) (assigned_same old new differ.1)

-- the plan is one of the other table too
pub plan_same : (tables : FlatTablesOf) (cluster : ℕ) (old new : List AttrsOf) (plan : Plan) → DifferInFlags old new → IsTablePlan tables cluster old plan → IsTablePlan tables cluster new plan
plan_same tables cluster old new plan differ is = record {
  counts = is.counts;
  steps = is.steps;
  timing = record {
    counts_are = subst (λ (n : NetOf). HasCountsOf tables n cluster is.counts) (sym (net_same tables old new differ)) is.timing.counts_are;
    steps_are = subst (λ (n : NetOf). HasSteps n.ports is.counts (assignments new) is.steps) (sym (net_same tables old new differ))
        (subst (λ (l : List Assign). HasSteps (net_of tables old).ports is.counts l is.steps) (sym (assigned_same old new differ)) is.timing.steps_are);
  };
  plan_is = subst (λ (n : NetOf). IsPlanOf n is.counts is.steps plan) (sym (net_same tables old new differ)) is.plan_is;
}

abbrev pub with_table : ClusterOf → List AttrsOf → ClusterOf
with_table c table = record c { table = table }

-- a cluster may have the other table
module _ (flat : Flat) (rated : List AttrsOf) (c : ClusterOf) (of : IsClusterWith flat rated c) (table : List AttrsOf) (differ : DifferInFlags c.table table) where
  runner_same : (m : ℕ) (r : Runner) → IsRunnerWith flat rated c m r → IsRunnerWith flat rated (with_table c table) m r
  runner_same m (runner.Module x) is = record {
    actor_is = is.actor_is;
    block_is = is.block_is;
    made = is.made;
    rates = is.rates;
    wires_are = is.wires_are;
    wired = is.wired;
    read_rate = is.read_rate;
    write_rate = is.write_rate;
    read_format = is.read_format;
    write_format = is.write_format;
    zeros = is.zeros;
    traced = is.traced ∙ sym (traced_same flat.tables c.table table differ (traced_ports flat.tables m));
    traced_rate = is.traced_rate;
  }
  runner_same m (runner.Sampler s) is = record { actor_is = is.actor_is; edges_are = is.edges_are; place_is = is.place_is; rate = is.rate; none = is.none }
  runner_same m (runner.Sink k) is = record { actor_is = is.actor_is; edge_is = is.edge_is; rate = is.rate; none = is.none }
  runner_same m runner.Outside is = is

  pub other_flags : AreAttributes flat c.number table → HasRows flat.tables c.number table → IsClusterWith flat rated (with_table c table)
  other_flags attributes rows = record {
    attributes = attributes;
    rows = rows;
    planned = record {
      plan = of.planned.plan;
      plan_is = plan_same flat.tables c.number c.table table of.planned.plan differ of.planned.plan_is;
      entries_are = of.planned.entries_are;
      bounds_are = of.planned.bounds_are;
      period_is = of.planned.period_is;
    };
    reads_are = of.reads_are ∙ ap read_rates (sym (net_same flat.tables c.table table differ));
    writes_are = of.writes_are ∙ ap write_rates (sym (net_same flat.tables c.table table differ));
    safe = record { inside = of.safe.inside; own = of.safe.own; present = of.safe.present; bounded = of.safe.bounded };
    within = of.within;
    over = of.over;
    held = record { same = of.held.same; held = of.held.held; room = of.held.room; formats = of.held.formats };
    actors = of.actors;
    positions = of.positions;
    counted = of.counted;
    runners = λ m r at. runner_same m r (of.runners m r at);
    keep = of.keep;
    known = of.known;
  }
