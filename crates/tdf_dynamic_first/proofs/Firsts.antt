-- A cluster of a flat model has one fault or one plan, and which answer comes.
use Rattle.std.proofs.Common.{◌≡◌, ◌∙◌, ℕ, List, length, refl, sym, ap, map, subst, inl, inr, ◌⊎◌}
use Rattle.std.proofs.lemmas.List.{length-map}
use Rattle.std.proofs.lemmas.List.Elements.{All-nil}
use Rattle.std.specs.Prelude.{All, Result, Ok, Err, IsOk, IfOk, IfErr}
use Rattle.tdf_balance.specs.Laws.{CountsAreUnique, AnswersExclude}
use Rattle.tdf_base.specs.declared.faults.Fault.{Fault}
use Rattle.tdf_bind_tables.specs.Actors.{cluster_of}
use Rattle.tdf_bind_tables.specs.FlatTables.{FlatTablesOf}
use Rattle.tdf_dynamic_plans.proofs.Api.{fault_once, fault_apart, plan_once, planned_true}
use Rattle.tdf_dynamic_plans.proofs.Api.{edges_are_fit, rated_clusters}
use Rattle.tdf_dynamic_first.proofs.Tables.{rates_are, table_is}
use Rattle.tdf_dynamic_plans.specs.Attributes.{AttrsOf, IsOfCluster, clusters_of}
use Rattle.tdf_dynamic_plans.specs.Faults.{IsRefusal, IsTablePlan}
use Rattle.tdf_dynamic_plans.specs.Known.{AreTrueFor, HasTablePlanned, IsTrueFor, PlansOf}
use Rattle.tdf_dynamic_first.specs.Text.{first_table, none_known}
use Rattle.tdf_dynamic_first.specs.First.{IsFirstPlan, IsClusterFault, IsPlannable}
use Rattle.tdf_dynamic_first.specs.Laws.{ClustersHaveOne, IsPlannableCluster}
use Rattle.tdf_dynamic_plans.specs.Rates.{net_of, rated_edge, net_ports, AreRates, IsWired}
use Rattle.tdf_dynamic_plans.specs.declared.err.ChangeErr.{ChangeErr}
use Rattle.tdf_dynamic_plans.specs.declared.err.ChangeErr.TheVariants.{Refused, Memory}
use Rattle.tdf_dynamic_first.specs.declared.first.First.{First}
use Rattle.tdf_bind.specs.declared.model.Flat.{Flat}
use Rattle.tdf_graph.specs.Clusters.{AreClusters}
use Rattle.tdf_graph.specs.Ranges.{IsEdge}
use Rattle.tdf_schedule.specs.Laws.{PlansAreUnique, BoundsAreUnique}
use Rattle.tdf_schedule.specs.declared.entry.Plan.{Plan}

module _ (tables : FlatTablesOf) (table : List AttrsOf) (wired : IsWired tables) (rates : AreRates tables table) where
  counted : length tables.actors ≡ length (clusters_of tables)
  counted = sym (length-map tables.actors cluster_of)

  pub net_fit : All (IsEdge (length (clusters_of tables))) (net_of tables table).edges
  unfolding net_of
  net_fit = subst (λ n. All (IsEdge n) (map (rated_edge tables.ports (net_ports tables table)) tables.edges)) counted (edges_are_fit tables table wired.in_range wired.delays rates)

  pub net_clusters : AreClusters (length (clusters_of tables)) (net_of tables table).edges (clusters_of tables)
  unfolding net_of
  net_clusters = subst (λ n. AreClusters n (map (rated_edge tables.ports (net_ports tables table)) tables.edges) (clusters_of tables)) counted (rated_clusters tables table wired)

module _ (answers : AnswersExclude) (unique : CountsAreUnique) (plans : PlansAreUnique) (bounds : BoundsAreUnique) where
  pub clusters_have_one : ClustersHaveOne
  clusters_have_one = record {
    one_fault = λ flat cluster one other of p q.
        fault_once flat.tables (net_of flat.tables (first_table flat cluster)) cluster (first_table flat cluster) answers unique
        (net_fit flat.tables (first_table flat cluster) of.plannable.wired (rates_are flat cluster of.plannable.rates))
        (net_clusters flat.tables (first_table flat cluster) of.plannable.wired (rates_are flat cluster of.plannable.rates)) of.has one other p q;
    fault_or_plan = λ flat cluster fault first of p q.
        fault_apart flat.tables (net_of flat.tables (first_table flat cluster)) cluster (first_table flat cluster) answers unique
        (net_fit flat.tables (first_table flat cluster) of.plannable.wired (rates_are flat cluster of.plannable.rates))
        (net_clusters flat.tables (first_table flat cluster) of.plannable.wired (rates_are flat cluster of.plannable.rates)) of.has fault first.plan p q.plan_is;
    one_plan = λ flat cluster one other of p q. record {
      attrs_are = p.attrs_are ∙ sym q.attrs_are;
      plans_are = plan_once flat.tables (net_of flat.tables (first_table flat cluster)) cluster (first_table flat cluster) answers unique
          (net_fit flat.tables (first_table flat cluster) of.plannable.wired (rates_are flat cluster of.plannable.rates))
          (net_clusters flat.tables (first_table flat cluster) of.plannable.wired (rates_are flat cluster of.plannable.rates)) of.has plans bounds one.plan other.plan p.plan_is q.plan_is;
    };
  }

module _ (law : ClustersHaveOne) (flat : Flat) (cluster : ℕ) (of : IsPlannableCluster flat cluster) where
  pub refused_always : (r : Result First ChangeErr) → IfOk r (IsFirstPlan flat cluster) → IfErr r (IsRefusal (IsClusterFault flat cluster))
      → (fault : Fault) → IsClusterFault flat cluster fault → (r ≡ Err (Refused fault)) ⊎ (r ≡ Err Memory)
  refused_always (Ok first) good bad fault is = absurd (law.fault_or_plan flat cluster fault first of is good)
  refused_always (Err (Refused other)) good bad fault is = inl (ap (λ (f : Fault). Err (Refused f)) (law.one_fault flat cluster other fault of bad is))
  refused_always (Err Memory) good bad fault is = inr refl

  pub first_always : (r : Result First ChangeErr) → IfErr r (IsRefusal (IsClusterFault flat cluster)) → (first : First) → IsFirstPlan flat cluster first → IsOk r ⊎ (r ≡ Err Memory)
  first_always (Ok other) bad first is = inl refl
  first_always (Err (Refused fault)) bad first is = absurd (law.fault_or_plan flat cluster fault first of bad is)
  first_always (Err Memory) bad first is = inr refl

-- the first plan is found where none is known yet
module _ (flat : Flat) (cluster : ℕ) (plannable : IsPlannable flat) (rows : List AttrsOf) (old : PlansOf) (rows_are : rows ≡ first_table flat cluster) (known_is : old ≡ none_known flat.tables (first_table flat cluster)) where
  pub none_true : AreTrueFor flat.tables cluster old.plans
  none_true = subst (λ (s : PlansOf). AreTrueFor flat.tables cluster s.plans) (sym known_is) (All-nil (IsTrueFor flat.tables cluster))

  own : All (IsOfCluster flat.tables cluster) rows
  own = subst (All (IsOfCluster flat.tables cluster)) (sym rows_are) (table_is flat cluster plannable)

  pub first_is : (plan : Plan) (new : PlansOf) → IsTablePlan flat.tables cluster rows plan → HasTablePlanned flat.tables cluster rows plan old new
      → IsFirstPlan flat cluster (record { attrs = record { rows = rows; known = new }; plan = plan })
  first_is plan new is planned = record {
    attrs_are = rows_are;
    plan_is = subst (λ (t : List AttrsOf). IsTablePlan flat.tables cluster t plan) rows_are is;
    known = planned_true flat.tables cluster rows plan old new own none_true planned;
  }
