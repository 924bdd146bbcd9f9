-- The record of a new period that the answer of a boundary tells.
use Rattle.std.proofs.Common.{◌≡◌, ◌∙◌, ℕ, true, List, length, nat_eq, sym, ap, subst}
use Rattle.std.specs.List.{count_by}
use Rattle.std.specs.Prelude.{slice_index}
use Rattle.tdf_exec.specs.Below.{Asks}
use Rattle.tdf_dynamic_plans.specs.Attributes.{AttrsOf}
use Rattle.tdf_dynamic_plans.specs.Faults.{IsTablePlan}
use Rattle.tdf_dynamic_plans.specs.Rates.{net_of}
use Rattle.tdf_bind.specs.declared.model.Flat.{Flat}
use Rattle.tdf_sim_history.specs.Answers.{IsNewPeriod}
use Rattle.tdf_sim_history.specs.Start.{counts_in}
use Rattle.tdf_exec.proofs.Api.{plan_counts}
use Rattle.tdf_sim_refinement.proofs.Beginning.{counted_in}
use Rattle.tdf_sim_refinement.proofs.Writing.{done_all}
use Rattle.tdf_sim_refinement.specs.Boundary.{IsNewRecord, NewPeriodsAreWhole}
use Rattle.tdf_schedule.specs.Plan.{done}
use Rattle.tdf_schedule.specs.declared.entry.Entry.{Entry}
use Rattle.tdf_streams.proofs.Api.{table_record}
use Rattle.tdf_streams.specs.Laws.{HasRecord}
use Rattle.tdf_streams.specs.Periods.{AreAttributes, IsWholeRecord, period_record}

module _ (flat : Flat) (number : ℕ) (asks : Asks) (table new : List AttrsOf) (counts : List ℕ) (period : ℕ) (entries : List Entry) (bounds : List ℕ) (attributes : AreAttributes flat number new)
    (is : IsNewPeriod flat.tables number asks table new counts period entries bounds) where
  abbrev listed : List Entry
  listed = is.plan.entries.items

  plan_is : IsTablePlan flat.tables number new is.plan
  plan_is = subst (λ t. IsTablePlan flat.tables number t is.plan) (sym is.table_is)
      (record { counts = is.plan_is.times.after.counts; steps = is.plan_is.times.after.steps; timing = is.plan_is.times.after.timing; plan_is = is.plan_is.plan_is })

  of_plan : HasRecord flat number new is.plan true
  of_plan = table_record flat number new is.plan true attributes plan_is

  counted : (m : ℕ) → count_by (λ (x : Entry). nat_eq x.actor m) listed ≡ slice_index of_plan.counts m
  counted = plan_counts (net_of flat.tables new).edges _ of_plan.counts listed of_plan.plan_is.planned

  counts_are : counts ≡ of_plan.counts
  counts_are = is.counts_are ∙ ap (counts_in flat.tables) is.entries_are ∙ counted_in flat listed of_plan.counts of_plan.record_is.is.timed.counts_are.long counted

  pub new_record : IsNewRecord flat number new counts period entries
  new_record = record {
    whole = subst (λ l. IsWholeRecord flat number (period_record flat.tables new l period true)) (sym counts_are)
        (subst (λ t. IsWholeRecord flat number (period_record flat.tables new of_plan.counts t true)) (sym is.period_is) of_plan.record_is);
    counts_are = λ m. ap (λ l. slice_index l m) counts_are ∙ sym (counted m) ∙ done_all listed m ∙ sym (ap (λ es. done es (length es) m) is.entries_are);
  }

pub new_periods_are_whole : NewPeriodsAreWhole
new_periods_are_whole flat number asks table new counts period entries bounds attributes is = new_record flat number asks table new counts period entries bounds attributes is
