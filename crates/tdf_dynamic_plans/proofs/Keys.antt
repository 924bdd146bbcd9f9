-- The net and the assigned timesteps of a table do not depend on its flags.
use Rattle.std.proofs.Common.{◌≡◌, ◌∙◌, ◌+◌, ◌-◌, ◌^◌, ℕ, List, [], ◌∷◌, ◌++◌, All, Bool, true, false, nat_eq, if◌then◌else◌, Option, Some, None, drop, length, map, refl, sym, ap, subst, arith}
use Rattle.std.proofs.lemmas.List.Elements.{All-drop, All-push, recursion_from_All}
use Rattle.std.proofs.lemmas.Option.{get_or_from_slice_get}
use Rattle.std.specs.List.{AllByRecursion}
use Rattle.std.specs.Prelude.{Err, IfOk, Ok, OnOk, Result, min, slice_get}
use Rattle.std.specs.Option.{option_map}
use Rattle.tdf_bind_tables.specs.FlatTables.{FlatTablesOf}
use Rattle.tdf_bind_connections.specs.declared.modules.PortRow.{PortRow}
use Rattle.tdf_dynamic_plans.specs.Assignments.{assigned_by, assignments}
use Rattle.tdf_dynamic_plans.proofs.Keeping.{plan_same, within}
use Rattle.tdf_dynamic_plans.specs.Attributes.{AttrsOf, IsOfCluster, attrs_at, ports_of_module}
use Rattle.tdf_dynamic_plans.specs.Faults.{HasTiming, IsPlanOf, IsTablePlan}
use Rattle.tdf_dynamic_plans.specs.declared.err.ChangeErr.{ChangeErr}
use Rattle.tdf_schedule.specs.declared.entry.Plan.{Plan}
use Rattle.tdf_dynamic_plans.specs.Known.{HasSameItems, HasTablePlanned, IsKnown, IsKnownAt, IsTrueFor, AreTrueFor, HasKept, HasPlanned, Kept, KeyOf, Known, KnownOf, Left, Made, PlansOf, table_key, row_key}
use Rattle.tdf_dynamic_plans.specs.Rates.{NetOf, net_of, net_ports, port_rate, rate_by, rated_edge, rated_port}
use Rattle.tdf_graph.specs.declared.actors.Port.{Port}
use Rattle.tdf_timestep.specs.Period.{HasSteps}
use Rattle.tdf_timestep.specs.declared.assign.Steps.{Steps}

-- the attributes without the flag
abbrev keyed : AttrsOf → AttrsOf
keyed attrs = record { number = attrs.number; ports = attrs.ports; accepts = false; rates = attrs.rates; steps = attrs.steps }

abbrev HaveSameKey : (one other : List AttrsOf) → Type 0
HaveSameKey one other = map keyed one ≡ map keyed other

one_keyed : (attrs : AttrsOf) (b : Bool) (rest other : Option AttrsOf) → rest ≡ option_map keyed other
    → (if b then Some (keyed attrs) else rest) ≡ option_map keyed (if b then Some attrs else other)
one_keyed attrs true rest other same = refl
one_keyed attrs false rest other same = same

at_keyed : (table : List AttrsOf) (number : ℕ) → attrs_at (map keyed table) number ≡ option_map keyed (attrs_at table number)
at_keyed [] number = refl
at_keyed (attrs ∷ table) number = one_keyed attrs (nat_eq attrs.number number) (attrs_at (map keyed table) number) (attrs_at table number) (at_keyed table number)

rate_keyed : (port : PortRow) (attrs : Option AttrsOf) → rate_by port (option_map keyed attrs) ≡ rate_by port attrs
rate_keyed port None = refl
rate_keyed port (Some attrs) = refl

map_same : {A B : Type 0} (f g : A → B) (xs : List A) → ((x : A) → f x ≡ g x) → map f xs ≡ map g xs
map_same f g [] each = refl
map_same f g (x ∷ xs) each = ap (λ y. y ∷ map f xs) (each x) ∙ ap (λ ys. g x ∷ ys) (map_same f g xs each)

port_keyed : (table : List AttrsOf) (port : PortRow) → rated_port (map keyed table) port ≡ rated_port table port
port_keyed table port =
    let rate : port_rate (map keyed table) port ≡ port_rate table port = ap (rate_by port) (at_keyed table port.«module») ∙ rate_keyed port (attrs_at table port.«module») in
    ap (λ (r : ℕ). record { actor = port.«module»; rate = r }) rate

ports_keyed : (tables : FlatTablesOf) (table : List AttrsOf) → net_ports tables (map keyed table) ≡ net_ports tables table
unfolding net_ports
ports_keyed tables table = map_same (rated_port (map keyed table)) (rated_port table) tables.ports (port_keyed table)

net_keyed : (tables : FlatTablesOf) (table : List AttrsOf) → net_of tables (map keyed table) ≡ net_of tables table
unfolding net_of
net_keyed tables table =
    ap (λ (ports : List Port). record { actors = map (λ row. row.kind) tables.actors; edges = map (rated_edge tables.ports ports) tables.edges; ports = ports }) (ports_keyed tables table)

assigned_keyed : (table : List AttrsOf) → assignments (map keyed table) ≡ assignments table
unfolding assignments
assigned_keyed [] = refl
assigned_keyed (attrs ∷ table) = ap (λ rest. assigned_by attrs ++ rest) (assigned_keyed table)

pub same_net : (tables : FlatTablesOf) (one other : List AttrsOf) → HaveSameKey one other → net_of tables one ≡ net_of tables other
same_net tables one other same = sym (net_keyed tables one) ∙ ap (net_of tables) same ∙ net_keyed tables other

pub same_assigned : (one other : List AttrsOf) → HaveSameKey one other → assignments one ≡ assignments other
same_assigned one other same = sym (assigned_keyed one) ∙ ap assignments same ∙ assigned_keyed other

-- counts and steps under a table are those under each table of the same key
pub timing_by_key : (tables : FlatTablesOf) (net : NetOf) (cluster : ℕ) (one other : List AttrsOf) (counts : List ℕ) (steps : Steps)
    → HaveSameKey one other → HasTiming tables net cluster one counts steps → HasTiming tables net cluster other counts steps
timing_by_key tables net cluster one other counts steps same timing = record {
  counts_are = timing.counts_are;
  steps_are = subst (λ assigned. HasSteps net.ports counts assigned steps) (same_assigned one other same) timing.steps_are;
}

-- tables of a cluster that have the same key are the same but for their flags
head_key : KeyOf → List KeyOf → KeyOf
head_key k [] = k
head_key k (x ∷ xs) = x

rest_keys : List KeyOf → List KeyOf
rest_keys [] = []
rest_keys (x ∷ xs) = xs

module _ (tables : FlatTablesOf) (cluster : ℕ) where
  keyed_same : (a b : AttrsOf) → IsOfCluster tables cluster a → IsOfCluster tables cluster b → row_key a ≡ row_key b → keyed a ≡ keyed b
  keyed_same a b is are same =
      let number : a.number ≡ b.number = ap (λ (k : KeyOf). k.number) same in
      let ports : a.ports ≡ b.ports = is.own ∙ ap (ports_of_module tables.ports) number ∙ sym are.own in
      let rates : a.rates ≡ b.rates = ap (λ (k : KeyOf). k.rates) same in
      let steps : a.steps ≡ b.steps = ap (λ (k : KeyOf). k.steps) same in
      λ i. record { number = number i; ports = ports i; accepts = false; rates = rates i; steps = steps i }

  rows_keyed : (one other : List AttrsOf) → AllByRecursion (IsOfCluster tables cluster) one → AllByRecursion (IsOfCluster tables cluster) other → table_key one ≡ table_key other → HaveSameKey one other
  unfolding head_key rest_keys
  rows_keyed [] [] is are same = refl
  rows_keyed [] (b ∷ other) is are same = absurd (let l = ap length same in omega (arith, l))
  rows_keyed (a ∷ one) [] is are same = absurd (let l = ap length same in omega (arith, l))
  rows_keyed (a ∷ one) (b ∷ other) is are same =
      let first : keyed a ≡ keyed b = keyed_same a b is.0 are.0 (ap (head_key (row_key a)) same) in
      let rest : map keyed one ≡ map keyed other = rows_keyed one other is.1 are.1 (ap rest_keys same) in
      λ i. first i ∷ rest i

  same_key : (one other : List AttrsOf) → All (IsOfCluster tables cluster) one → All (IsOfCluster tables cluster) other → table_key one ≡ table_key other → HaveSameKey one other
  same_key one other is are same =
      rows_keyed one other (recursion_from_All (IsOfCluster tables cluster) one is) (recursion_from_All (IsOfCluster tables cluster) other are) same

  -- a plan that was made under a table is that of each table with its key
  true_made : (table : List AttrsOf) (counts : List ℕ) (steps : Steps) (plan copy : Plan) → All (IsOfCluster tables cluster) table → HasTiming tables (net_of tables table) cluster table counts steps
      → IsPlanOf (net_of tables table) counts steps plan → HasSameItems plan copy → IsTrueFor tables cluster (record { key = table_key table; counts = counts; steps = steps; plan = copy })
  true_made table counts steps plan copy own timing is items = record {
    timing = λ other of same.
        let keys = same_key table other own of (sym same) in
        subst (λ (net : NetOf). HasTiming tables net cluster other counts steps) (same_net tables table other keys)
        (timing_by_key tables (net_of tables table) cluster table other counts steps keys timing);
    plan_is = λ other of same.
        let keys = same_key table other own of (sym same) in
        subst (λ (net : NetOf). IsPlanOf net counts steps copy) (same_net tables table other keys)
        (plan_same (net_of tables table) counts steps steps refl plan copy refl items is);
  }

  -- the plans that are known stay those of the cluster
  pub planned_true : (table : List AttrsOf) (plan : Plan) (old new : PlansOf) → All (IsOfCluster tables cluster) table → AreTrueFor tables cluster old.plans
      → HasTablePlanned tables cluster table plan old new → AreTrueFor tables cluster new.plans
  planned_true table plan old new own are is = go is.planned
    where
      kept : HasKept (table_key table) is.counts is.steps plan old new → AreTrueFor tables cluster new.plans
      kept (Kept copy items some short new_is) = subst (AreTrueFor tables cluster) (sym new_is)
          (All-push (IsTrueFor tables cluster) (drop (length old.plans + 1 - old.most) old.plans) (record { key = table_key table; counts = is.counts; steps = is.steps; plan = copy })
          (All-drop (IsTrueFor tables cluster) (length old.plans + 1 - old.most) old.plans are)
          (true_made table is.counts is.steps plan copy own is.timing is.plan_is items))
      kept (Left not same) = subst (AreTrueFor tables cluster) (sym same) are

      go : HasPlanned (table_key table) is.counts is.steps plan old new → AreTrueFor tables cluster new.plans
      go (Known here same) = subst (λ (s : PlansOf). AreTrueFor tables cluster s.plans) (sym same) are
      go (Made none has most made) = kept has

  -- the plan at a place is one of the cluster
  pub true_at : (plans : List KnownOf) (i : ℕ) (known : KnownOf) → AreTrueFor tables cluster plans → slice_get plans i ≡ Some known → IsTrueFor tables cluster known
  true_at plans i known are at = subst (IsTrueFor tables cluster) (get_or_from_slice_get plans i known known at) (are i known (within plans i known at))

  -- a plan that is known is found under each table with its key
  pub known_planned : (table : List AttrsOf) (known : PlansOf) (place : ℕ) (here : IsKnownAt known.plans (table_key table) place) → AreTrueFor tables cluster known.plans → All (IsOfCluster tables cluster) table
      → (plan : Plan) → HasSameItems here.0.plan plan → HasTablePlanned tables cluster table plan known known
  known_planned table known place here are own plan items =
      let entry : IsTrueFor tables cluster here.0 = true_at known.plans place here.0 are here.1 in
      record {
        counts = here.0.counts;
        steps = here.0.steps;
        timing = entry.timing table own (sym here.2);
        plan_is = plan_same (net_of tables table) here.0.counts here.0.steps here.0.steps refl here.0.plan plan refl items (entry.plan_is table own (sym here.2));
        planned = Known (place, here) refl;
      }

  pub planned_is : (table : List AttrsOf) (plan : Plan) (old new : PlansOf) → HasTablePlanned tables cluster table plan old new → IsTablePlan tables cluster table plan
  planned_is table plan old new is = record { counts = is.counts; steps = is.steps; timing = is.timing; plan_is = is.plan_is }

  pub all_planned : (table : List AttrsOf) (old new : PlansOf) (r : Result Plan ChangeErr) → IfOk r (λ plan. HasTablePlanned tables cluster table plan old new) → IfOk r (IsTablePlan tables cluster table)
  all_planned table old new (Ok plan) is = planned_is table plan old new is
  all_planned table old new (Err e) is = tt

  -- the plan was made where none is known
  pub made_planned : (table : List AttrsOf) (net : NetOf) (counts : List ℕ) (steps : Steps) (old new : PlansOf) (r : Result Plan ChangeErr) → net ≡ net_of tables table → HasTiming tables net cluster table counts steps
      → (IsKnown old.plans (table_key table) → ⊥) → IfOk r (IsPlanOf net counts steps) → IfOk r (λ plan. HasKept (table_key table) counts steps plan old new)
      → OnOk r (new.made ≡ min (old.made + 1) (2 ^ 64 - 1)) → new.most ≡ old.most → IfOk r (λ plan. HasTablePlanned tables cluster table plan old new)
  made_planned table net counts steps old new (Ok plan) net_is timing none is kept made most = record {
    counts = counts;
    steps = steps;
    timing = subst (λ (n : NetOf). HasTiming tables n cluster table counts steps) net_is timing;
    plan_is = subst (λ (n : NetOf). IsPlanOf n counts steps plan) net_is is;
    planned = Made none kept most made;
  }
  made_planned table net counts steps old new (Err e) net_is timing none is kept made most = tt
