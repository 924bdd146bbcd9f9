-- What the parts of the whole answer.
use Rattle.std.specs.Prelude.{ℕ, ◌≡◌, ◌<◌, ◌/◌, List, [], Result, Ok, Err, length, nat_eq, if◌then◌else◌, slice_index}
use Rattle.tdf_base.specs.Limits.{time_end}
use Rattle.tdf_graph.specs.declared.actors.Port.{Port}
use Rattle.tdf_timestep.specs.Period.{AreAgreed, IsDisagreed, IsTooLong, IsInexact, IsPeriod, HasSteps}
use Rattle.tdf_timestep.specs.declared.assign.Assign.{Assign}
use Rattle.tdf_timestep.specs.declared.assign.Steps.{Steps}
use Rattle.tdf_timestep.specs.declared.err.StepErr.{StepErr}
use Rattle.tdf_timestep.specs.declared.err.StepErr.TheVariants.{NoTimestep, Disagree, TooLong, Inexact, Memory}

-- the period before its steps are looked at
abbrev pub IsAgreed : List Port → List ℕ → List Assign → Result ℕ StepErr → Type 0
IsAgreed ports counts assigned (Ok period) =
    AreAgreed ports counts assigned period × (period < time_end)
IsAgreed ports counts assigned (Err NoTimestep) = assigned ≡ []
IsAgreed ports counts assigned (Err (Disagree a b)) = IsDisagreed ports counts assigned a b
IsAgreed ports counts assigned (Err TooLong) = IsTooLong ports counts assigned
IsAgreed ports counts assigned (Err (Inexact actor port)) = ⊥
IsAgreed ports counts assigned (Err Memory) = ⊥

-- the step of an actor
abbrev pub step_of : (period count : ℕ) → ℕ
step_of period count = if nat_eq count 0 then 0 else period / count

pub record AreStepsUpTo (n : ℕ) (counts : List ℕ) (period : ℕ) (steps : List ℕ) : Type 0 where
  pub long : length steps ≡ n
  pub each : (a : ℕ) → a < n → slice_index steps a ≡ step_of period (slice_index counts a)

-- the whole answer
abbrev pub IsAnswer : List Port → List ℕ → List Assign → Result Steps StepErr → Type 0
IsAnswer ports counts assigned (Ok steps) = HasSteps ports counts assigned steps
IsAnswer ports counts assigned (Err NoTimestep) = assigned ≡ []
IsAnswer ports counts assigned (Err (Disagree a b)) = IsDisagreed ports counts assigned a b
IsAnswer ports counts assigned (Err TooLong) = IsTooLong ports counts assigned
IsAnswer ports counts assigned (Err (Inexact actor port)) =
    IsInexact ports counts assigned (record { actor = actor; port = port })
IsAnswer ports counts assigned (Err Memory) =
    (period : ℕ) × IsPeriod ports counts assigned period
