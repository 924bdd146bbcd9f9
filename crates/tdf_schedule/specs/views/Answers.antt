-- What the parts of a plan answer.
use Rattle.std.specs.Prelude.{ℕ, ◌<◌, ◌≡◌, nat_eq, if◌then◌else◌, Some, List, length, slice_get, slice_index, Result, Ok, Err}
use Rattle.tdf_graph.specs.declared.actors.Actor.{Actor}
use Rattle.tdf_graph.specs.declared.actors.Edge.{Edge}
use Rattle.tdf_schedule.specs.Plan.{HasPlan, IsCausal, IsDeadlock, IsNoncausal}
use Rattle.tdf_schedule.specs.declared.err.PlanErr.{PlanErr}
use Rattle.tdf_schedule.specs.declared.err.PlanErr.TheVariants.{TooLarge, Deadlock, Noncausal, Memory}
use Rattle.tdf_schedule.specs.declared.entry.Plan.{Plan}

-- the first n bounds, 0 for edges of other clusters
pub record AreNarrowUpTo (n : ℕ) (edges : List Edge) (counts bounds narrow : List ℕ) : Type 0 where
  pub long : length narrow ≡ n
  pub each : (k : ℕ) (e : Edge) → k < n → slice_get edges k ≡ Some e
      → slice_index narrow k
      ≡ (if nat_eq (slice_index counts e.writer) 0 then 0 else slice_index bounds k)

-- the plan of a cluster whose buffers are small enough, or its fault
abbrev pub IsAnswer : List Actor → List Edge → (pace : ℕ → ℕ) → (counts : List ℕ) (period : ℕ)
    → Result Plan PlanErr → Type 0
IsAnswer actors edges pace counts period (Ok plan) =
    HasPlan edges pace counts period plan × IsCausal edges actors pace counts
IsAnswer actors edges pace counts period (Err TooLarge) = ⊥
IsAnswer actors edges pace counts period (Err (Deadlock m)) = IsDeadlock edges pace counts m
IsAnswer actors edges pace counts period (Err (Noncausal m a)) =
    IsNoncausal edges actors pace counts m a
IsAnswer actors edges pace counts period (Err Memory) = Unit {0}
