-- The lemmas that the crates above use.
pub use Rattle.tdf_dynamic_plans.proofs.Assigned.{assigned_fit, each_few, is_paced}
pub use Rattle.tdf_dynamic_plans.proofs.Excludes.{fault_apart, fault_once, here_err, no_counts, no_steps, one_counts, plan_once, same_steps}
pub use Rattle.tdf_dynamic_plans.proofs.Keeping.{known_same, plan_same, rows_same, timing_same, within}
pub use Rattle.tdf_dynamic_plans.proofs.Keys.{all_planned, known_planned, made_planned, planned_is, planned_true, true_at}
pub use Rattle.tdf_dynamic_plans.proofs.Nets.{modules_few, ports_are_fit, edges_are_fit, rated_clusters}
pub use Rattle.tdf_dynamic_plans.proofs.Phases.{Counted, Planned, Stepped, all_from_plan, few, from_period, from_timing, none_some, plan_good}
