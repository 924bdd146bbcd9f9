-- What the answer says, both ways.
use Rattle.std.proofs.Common.{◌≡◌, ◌≢◌, ◌∙◌, ℕ, ◌<◌, ◌≤◌, arith, List, [], refl, sym, ap, subst, inl, inr, ◌⊎◌}
use Rattle.std.specs.Int.{◌∣◌}
use Rattle.std.specs.Prelude.{◌↔◌, slice_get, Result, Ok, Err, IsOk}
use Rattle.tdf_base.specs.Limits.{time_end}
use Rattle.tdf_graph.specs.declared.actors.Port.{Port}
use Rattle.tdf_timestep.proofs.Agreed.{agreed_once, none_agreed, none_first, disagreed_apart, first_once, same_spot}
use Rattle.tdf_timestep.proofs.Firsts.{some_same}
use Rattle.tdf_timestep.specs.Order.{IsFirstAssigned}
use Rattle.tdf_timestep.specs.Period.{share_of, period_of, IsBroken, AreAgreed, IsDisagreed, IsTooLong, IsInexact, IsPeriod, HasSteps}
use Rattle.tdf_timestep.specs.declared.assign.Assign.{Assign}
use Rattle.tdf_timestep.specs.declared.assign.Spot.{Spot}
use Rattle.tdf_timestep.specs.declared.assign.Steps.{Steps}
use Rattle.tdf_timestep.specs.declared.err.StepErr.{StepErr}
use Rattle.tdf_timestep.specs.declared.err.StepErr.TheVariants.{NoTimestep, Disagree, TooLong, Inexact, Memory}
use Rattle.tdf_timestep.specs.views.Answers.{IsAnswer}

module _ (ports : List Port) (counts : List ℕ) (assigned : List Assign) where
  -- the second place of a disagreement is one
  other_once : (a b c d : ℕ) → (one : IsDisagreed ports counts assigned a b) → (other : IsDisagreed ports counts assigned c d) → (a ≡ c) × (b ≡ d)
  other_once a b c d one other = (
    a_is,
    first_once assigned (λ x. period_of ports counts x ≢ period_of ports counts other.first.chosen) b d
        (subst (λ (y : Assign). IsFirstAssigned assigned (λ x. period_of ports counts x ≢ period_of ports counts y) b) chosen_is one.other) other.other,
  )
    where
      a_is : a ≡ c
      a_is = first_once assigned (λ _. Unit {0}) a c one.first other.first

      chosen_is : one.first.chosen ≡ other.first.chosen
      chosen_is = some_same (sym one.first.there ∙ ap (slice_get assigned) a_is ∙ other.first.there)

  long_short : (one other : ℕ) → AreAgreed ports counts assigned one → AreAgreed ports counts assigned other → time_end ≤ one → other < time_end → ⊥
  long_short one other first second long short = let e = agreed_once ports counts assigned one other first second in omega (arith, e, long, short)

  broken_whole : (s : Spot) (period : ℕ) → IsInexact ports counts assigned s → IsPeriod ports counts assigned period → ⊥
  broken_whole s period is whole = is.broken (subst (λ n. share_of ports counts s ∣ n) (agreed_once ports counts assigned period is.period whole.agreed is.agreed) (whole.whole s is.spot))

  inexact_once : (s t : Spot) → IsInexact ports counts assigned s → IsInexact ports counts assigned t → s ≡ t
  inexact_once s t one other = same_spot s t
      (other.first s one.spot (subst (λ n. IsBroken ports counts n s) (agreed_once ports counts assigned one.period other.period one.agreed other.agreed) one.broken))
      (one.first t other.spot (subst (λ n. IsBroken ports counts n t) (agreed_once ports counts assigned other.period one.period other.agreed one.agreed) other.broken))

  abbrev Answer : Type 0
  Answer = Result Steps StepErr

  from_none : (r : Answer) → IsAnswer ports counts assigned r → assigned ≡ [] → r ≡ Err NoTimestep
  from_none (Ok s) is none = absurd (none_agreed ports counts assigned s.period none is.is.agreed)
  from_none (Err NoTimestep) is none = refl
  from_none (Err (Disagree a b)) is none = absurd (none_first ports counts assigned (λ _. Unit {0}) a none is.first)
  from_none (Err TooLong) is none = absurd (none_agreed ports counts assigned is.period none is.agreed)
  from_none (Err (Inexact actor port)) is none = absurd (none_agreed ports counts assigned is.period none is.agreed)
  from_none (Err Memory) is none = absurd (none_agreed ports counts assigned is.0 none is.1.agreed)

  from_disagreed : (a b : ℕ) (r : Answer) → IsAnswer ports counts assigned r → IsDisagreed ports counts assigned a b → r ≡ Err (Disagree a b)
  from_disagreed a b (Ok s) is dis = absurd (disagreed_apart ports counts assigned a b s.period dis is.is.agreed)
  from_disagreed a b (Err NoTimestep) is dis = absurd (none_first ports counts assigned (λ _. Unit {0}) a is dis.first)
  from_disagreed a b (Err (Disagree c d)) is dis =
      let same = other_once c d a b is dis in ap (λ n. Err (Disagree n d)) same.0 ∙ ap (λ n. Err (Disagree a n)) same.1
  from_disagreed a b (Err TooLong) is dis = absurd (disagreed_apart ports counts assigned a b is.period dis is.agreed)
  from_disagreed a b (Err (Inexact actor port)) is dis = absurd (disagreed_apart ports counts assigned a b is.period dis is.agreed)
  from_disagreed a b (Err Memory) is dis = absurd (disagreed_apart ports counts assigned a b is.0 dis is.1.agreed)

  from_long : (r : Answer) → IsAnswer ports counts assigned r → IsTooLong ports counts assigned → r ≡ Err TooLong
  from_long (Ok s) is long = absurd (long_short long.period s.period long.agreed is.is.agreed long.long is.is.short)
  from_long (Err NoTimestep) is long = absurd (none_agreed ports counts assigned long.period is long.agreed)
  from_long (Err (Disagree a b)) is long = absurd (disagreed_apart ports counts assigned a b long.period is long.agreed)
  from_long (Err TooLong) is long = refl
  from_long (Err (Inexact actor port)) is long = absurd (long_short long.period is.period long.agreed is.agreed long.long is.short)
  from_long (Err Memory) is long = absurd (long_short long.period is.0 long.agreed is.1.agreed long.long is.1.short)

  from_inexact : (s : Spot) (r : Answer) → IsAnswer ports counts assigned r → IsInexact ports counts assigned s → r ≡ Err (Inexact s.actor s.port)
  from_inexact s (Ok steps) is broken = absurd (broken_whole s steps.period broken is.is)
  from_inexact s (Err NoTimestep) is broken = absurd (none_agreed ports counts assigned broken.period is broken.agreed)
  from_inexact s (Err (Disagree a b)) is broken = absurd (disagreed_apart ports counts assigned a b broken.period is broken.agreed)
  from_inexact s (Err TooLong) is broken = absurd (long_short is.period broken.period is.agreed broken.agreed is.long broken.short)
  from_inexact s (Err (Inexact actor port)) is broken = ap (λ (t : Spot). Err (Inexact t.actor t.port)) (inexact_once (record { actor = actor; port = port }) s is broken)
  from_inexact s (Err Memory) is broken = absurd (broken_whole s is.0 broken is.1)

  pub no_timestep : (r : Answer) → IsAnswer ports counts assigned r → (r ≡ Err NoTimestep) ↔ (assigned ≡ [])
  no_timestep r is = ((λ same. subst (IsAnswer ports counts assigned) same is), from_none r is)

  pub disagree : (r : Answer) → IsAnswer ports counts assigned r → (a b : ℕ) → (r ≡ Err (Disagree a b)) ↔ IsDisagreed ports counts assigned a b
  disagree r is a b = ((λ same. subst (IsAnswer ports counts assigned) same is), from_disagreed a b r is)

  pub too_long : (r : Answer) → IsAnswer ports counts assigned r → (r ≡ Err TooLong) ↔ IsTooLong ports counts assigned
  too_long r is = ((λ same. subst (IsAnswer ports counts assigned) same is), from_long r is)

  pub inexact_both : (r : Answer) → IsAnswer ports counts assigned r → (s : Spot) → (r ≡ Err (Inexact s.actor s.port)) ↔ IsInexact ports counts assigned s
  inexact_both r is s = ((λ same. subst (IsAnswer ports counts assigned) same is), from_inexact s r is)

  pub steps_always : (r : Answer) → IsAnswer ports counts assigned r → (s : Steps) → HasSteps ports counts assigned s → IsOk r ⊎ (r ≡ Err Memory)
  steps_always (Ok t) is s has = inl refl
  steps_always (Err NoTimestep) is s has = absurd (none_agreed ports counts assigned s.period is has.is.agreed)
  steps_always (Err (Disagree a b)) is s has = absurd (disagreed_apart ports counts assigned a b s.period is has.is.agreed)
  steps_always (Err TooLong) is s has = absurd (long_short is.period s.period is.agreed has.is.agreed is.long has.is.short)
  steps_always (Err (Inexact actor port)) is s has = absurd (broken_whole (record { actor = actor; port = port }) s.period is has.is)
  steps_always (Err Memory) is s has = inr refl
