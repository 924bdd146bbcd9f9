-- What is told of the net of a cluster, with the numbers of the whole net.
-- Source: own.
use Rattle.std.specs.Prelude.{ℕ, ◌≡◌, map, slice_index}
use Rattle.tdf_balance.specs.declared.err.BalanceErr.{BalanceErr}
use Rattle.tdf_balance.specs.declared.err.BalanceErr.TheVariants as balance
use Rattle.tdf_cluster_net.specs.Numbers.{AreSpread}
use Rattle.tdf_cluster_net.specs.Own.{OwnOf, whole_entry, with_number}
use Rattle.tdf_schedule.specs.declared.entry.Plan.{Plan}
use Rattle.tdf_schedule.specs.declared.err.PlanErr.{PlanErr}
use Rattle.tdf_schedule.specs.declared.err.PlanErr.TheVariants as planning
use Rattle.tdf_timestep.specs.declared.err.StepErr.{StepErr}
use Rattle.tdf_timestep.specs.declared.err.StepErr.TheVariants as timing

-- a plan with the numbers of the whole net
pub record IsWholePlan (own : OwnOf) (count : ℕ) (plan whole : Plan) : Type 0 where
  pub entries : whole.entries.items ≡ map (whole_entry own.actor_numbers) plan.entries.items
  pub bounds : AreSpread own.edge_numbers count plan.bounds.items whole.bounds.items
  pub period : whole.period ≡ plan.period

-- why there are no counts, no steps and no plan
abbrev pub whole_balance : OwnOf → BalanceErr → BalanceErr
whole_balance own (balance.Rates k) = balance.Rates (slice_index own.edge_numbers k)
whole_balance own balance.TooLarge = balance.TooLarge
whole_balance own balance.Memory = balance.Memory

abbrev pub whole_timing : OwnOf → StepErr → StepErr
whole_timing own timing.NoTimestep = timing.NoTimestep
whole_timing own (timing.Disagree a b) = timing.Disagree a b
whole_timing own timing.TooLong = timing.TooLong
whole_timing own (timing.Inexact actor port) =
    timing.Inexact (slice_index own.actor_numbers actor) (with_number own.port_numbers port)
whole_timing own timing.Memory = timing.Memory

abbrev pub whole_planning : OwnOf → PlanErr → PlanErr
whole_planning own planning.TooLarge = planning.TooLarge
whole_planning own (planning.Deadlock m) =
    planning.Deadlock (slice_index own.actor_numbers m)
whole_planning own (planning.Noncausal m a) =
    planning.Noncausal (slice_index own.actor_numbers m) a
whole_planning own planning.Memory = planning.Memory
