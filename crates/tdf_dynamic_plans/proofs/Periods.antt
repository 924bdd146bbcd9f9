-- A cluster has one period, or one reason why it has none.
use Rattle.std.proofs.Common.{◌≡◌, ◌≢◌, ◌∙◌, ℕ, ◌<◌, ◌≤◌, Bool, true, false, List, [], ◌∷◌, Option, Some, None, length, refl, sym, ap, subst, arith, inl, inr, ◌⊎◌}
use Rattle.std.proofs.lemmas.Bool.{cases_lt}
use Rattle.std.proofs.lemmas.Bool.Decides.{nat_tests}
use Rattle.std.proofs.lemmas.Option.{slice_get_within, get_or_from_slice_get}
use Rattle.std.specs.Int.{◌∣◌}
use Rattle.std.specs.Prelude.{slice_get}
use Rattle.tdf_base.specs.Limits.{time_end}
use Rattle.tdf_dynamic_plans.specs.Assignments.{assignments}
use Rattle.tdf_dynamic_plans.specs.Attributes.{AttrsOf}
use Rattle.tdf_dynamic_plans.specs.Faults.{IsStepErr, HasStepsOf}
use Rattle.tdf_dynamic_plans.specs.Rates.{NetOf}
use Rattle.tdf_graph.specs.declared.actors.Port.{Port}
use Rattle.tdf_timestep.specs.Order.{spot_comes_before, port_rank, IsFirstAssigned}
use Rattle.tdf_timestep.specs.Period.{share_of, period_of, IsBroken, AreAgreed, IsDisagreed, IsInexact, IsPeriod}
use Rattle.tdf_timestep.specs.declared.assign.Assign.{Assign}
use Rattle.tdf_timestep.specs.declared.assign.Spot.{Spot}
use Rattle.tdf_timestep.specs.declared.assign.Steps.{Steps}
use Rattle.tdf_timestep.specs.declared.err.StepErr.{StepErr}
use Rattle.tdf_timestep.specs.declared.err.StepErr.TheVariants as timing

clash : {x : Bool} → x ≡ true → x ≡ false → ⊥
clash e f = subst only_true (sym e ∙ f) tt
  where
    only_true : Bool → Type 0
    only_true true = Unit {0}
    only_true false = ⊥

-- the first assignment with a property is one
first_once : (assigned : List Assign) (P : Assign → Type 0) (a b : ℕ) → IsFirstAssigned assigned P a → IsFirstAssigned assigned P b → a ≡ b
first_once assigned P a b one other = go (cases_lt a b) (cases_lt b a)
  where
    go : (a < b) ⊎ (b ≤ a) → (b < a) ⊎ (a ≤ b) → a ≡ b
    go (inl less) second = absurd (clash (other.earliest a one.chosen less one.there one.holds) (one.least b other.chosen other.there other.holds))
    go (inr more) (inl less) = absurd (clash (one.earliest b other.chosen less other.there other.holds) (other.least a one.chosen one.there one.holds))
    go (inr more) (inr most) = omega (arith, more, most)

some_same : {A : Type 0} {x y : A} → Some x ≡ Some y → x ≡ y
some_same {A} {x} {y} e = ap or_x e
  where
    or_x : Option A → A
    or_x None = x
    or_x (Some z) = z

-- neither of two spots comes before the other
same_spot : (s t : Spot) → spot_comes_before s t ≡ false → spot_comes_before t s ≡ false → s ≡ t
same_spot s t one other = ap (λ n. record { actor = n; port = s.port }) actors ∙ ap (λ p. record { actor = t.actor; port = p }) (same_port s.port t.port ranks)
  where
    actors : s.actor ≡ t.actor
    actors = grind (arith, nat_tests, one, other)

    ranks : port_rank s.port ≡ port_rank t.port
    ranks = grind (arith, nat_tests, one, other)

    same_port : (p q : Option ℕ) → port_rank p ≡ port_rank q → p ≡ q
    same_port None None e = refl
    same_port None (Some n) e = absurd (omega (arith, e))
    same_port (Some m) None e = absurd (omega (arith, e))
    same_port (Some m) (Some n) e = ap Some (omega (arith, e))

module _ (ports : List Port) (counts : List ℕ) (assigned : List Assign) where
  pub agreed_once : (one other : ℕ) → AreAgreed ports counts assigned one → AreAgreed ports counts assigned other → one ≡ other
  agreed_once one other first second = go assigned first second
    where
      go : (list : List Assign) → AreAgreed ports counts list one → AreAgreed ports counts list other → one ≡ other
      go [] p q = absurd (let s = p.some in omega (arith, s))
      go (x ∷ xs) p q = sym (p.all x (0, omega arith, refl)) ∙ q.all x (0, omega arith, refl)

  none_agreed : (period : ℕ) → assigned ≡ [] → AreAgreed ports counts assigned period → ⊥
  none_agreed period none agreed = let s = agreed.some in let e = ap length none in omega (arith, s, e)

  none_disagreed : (a b : ℕ) → assigned ≡ [] → IsDisagreed ports counts assigned a b → ⊥
  none_disagreed a b none dis = let w = slice_get_within assigned a dis.first.chosen dis.first.there in let e = ap length none in omega (arith, w, e)

  agreed_at : (period j : ℕ) (x : Assign) → AreAgreed ports counts assigned period → slice_get assigned j ≡ Some x → period_of ports counts x ≡ period
  agreed_at period j x agreed is = agreed.all x (j, slice_get_within assigned j x is, get_or_from_slice_get assigned j x x is)

  disagreed_apart : (a b period : ℕ) → IsDisagreed ports counts assigned a b → AreAgreed ports counts assigned period → ⊥
  disagreed_apart a b period dis agreed = dis.other.holds
      (agreed_at period b dis.other.chosen agreed dis.other.there ∙ sym (agreed_at period a dis.first.chosen agreed dis.first.there))

  disagreed_once : (a b c d : ℕ) → IsDisagreed ports counts assigned a b → IsDisagreed ports counts assigned c d → (a ≡ c) × (b ≡ d)
  disagreed_once a b c d one other = (
    first_same,
    first_once assigned (λ x. period_of ports counts x ≢ period_of ports counts other.first.chosen) b d
        (subst (λ (y : Assign). IsFirstAssigned assigned (λ x. period_of ports counts x ≢ period_of ports counts y) b) chosen_same one.other) other.other,
  )
    where
      first_same : a ≡ c
      first_same = first_once assigned (λ _. Unit {0}) a c one.first other.first

      chosen_same : one.first.chosen ≡ other.first.chosen
      chosen_same = some_same (sym one.first.there ∙ ap (slice_get assigned) first_same ∙ other.first.there)

  long_short : (one other : ℕ) → AreAgreed ports counts assigned one → AreAgreed ports counts assigned other → time_end ≤ one → other < time_end → ⊥
  long_short one other first second long short = let e = agreed_once one other first second in omega (arith, e, long, short)

  broken_whole : (s : Spot) (period : ℕ) → IsInexact ports counts assigned s → IsPeriod ports counts assigned period → ⊥
  broken_whole s period is whole = is.broken (subst (λ n. share_of ports counts s ∣ n) (agreed_once period is.period whole.agreed is.agreed) (whole.whole s is.spot))

  inexact_once : (s t : Spot) → IsInexact ports counts assigned s → IsInexact ports counts assigned t → s ≡ t
  inexact_once s t one other = same_spot s t
      (other.first s one.spot (subst (λ n. IsBroken ports counts n s) (agreed_once one.period other.period one.agreed other.agreed) one.broken))
      (one.first t other.spot (subst (λ n. IsBroken ports counts n t) (agreed_once other.period one.period other.agreed one.agreed) other.broken))

module _ (net : NetOf) (table : List AttrsOf) (counts : List ℕ) where
  abbrev spot : ℕ → Option ℕ → Spot
  spot actor port = record { actor = actor; port = port }

  pub steps_err : (one other : StepErr) → IsStepErr net table counts one → IsStepErr net table counts other → one ≡ other
  steps_err timing.NoTimestep timing.NoTimestep p q = refl
  steps_err timing.NoTimestep (timing.Disagree a b) p q = absurd (none_disagreed net.ports counts (assignments table) a b p q)
  steps_err timing.NoTimestep timing.TooLong p q = absurd (none_agreed net.ports counts (assignments table) q.period p q.agreed)
  steps_err timing.NoTimestep (timing.Inexact actor port) p q = absurd (none_agreed net.ports counts (assignments table) q.period p q.agreed)
  steps_err timing.NoTimestep timing.Memory p q = absurd q
  steps_err (timing.Disagree a b) timing.NoTimestep p q = absurd (none_disagreed net.ports counts (assignments table) a b q p)
  steps_err (timing.Disagree a b) (timing.Disagree c d) p q =
      let same = disagreed_once net.ports counts (assignments table) a b c d p q in ap (λ n. timing.Disagree n b) same.0 ∙ ap (timing.Disagree c) same.1
  steps_err (timing.Disagree a b) timing.TooLong p q = absurd (disagreed_apart net.ports counts (assignments table) a b q.period p q.agreed)
  steps_err (timing.Disagree a b) (timing.Inexact actor port) p q = absurd (disagreed_apart net.ports counts (assignments table) a b q.period p q.agreed)
  steps_err (timing.Disagree a b) timing.Memory p q = absurd q
  steps_err timing.TooLong timing.NoTimestep p q = absurd (none_agreed net.ports counts (assignments table) p.period q p.agreed)
  steps_err timing.TooLong (timing.Disagree a b) p q = absurd (disagreed_apart net.ports counts (assignments table) a b p.period q p.agreed)
  steps_err timing.TooLong timing.TooLong p q = refl
  steps_err timing.TooLong (timing.Inexact actor port) p q = absurd (long_short net.ports counts (assignments table) p.period q.period p.agreed q.agreed p.long q.short)
  steps_err timing.TooLong timing.Memory p q = absurd q
  steps_err (timing.Inexact actor port) timing.NoTimestep p q = absurd (none_agreed net.ports counts (assignments table) p.period q p.agreed)
  steps_err (timing.Inexact actor port) (timing.Disagree a b) p q = absurd (disagreed_apart net.ports counts (assignments table) a b p.period q p.agreed)
  steps_err (timing.Inexact actor port) timing.TooLong p q = absurd (long_short net.ports counts (assignments table) q.period p.period q.agreed p.agreed q.long p.short)
  steps_err (timing.Inexact actor port) (timing.Inexact n o) p q = ap (λ (s : Spot). timing.Inexact s.actor s.port) (inexact_once net.ports counts (assignments table) (spot actor port) (spot n o) p q)
  steps_err (timing.Inexact actor port) timing.Memory p q = absurd q
  steps_err timing.Memory other p q = absurd p

  pub steps_apart : (why : StepErr) (steps : Steps) → IsStepErr net table counts why → HasStepsOf net table counts steps → ⊥
  steps_apart timing.NoTimestep steps p has = none_agreed net.ports counts (assignments table) steps.period p has.is.agreed
  steps_apart (timing.Disagree a b) steps p has = disagreed_apart net.ports counts (assignments table) a b steps.period p has.is.agreed
  steps_apart timing.TooLong steps p has = long_short net.ports counts (assignments table) p.period steps.period p.agreed has.is.agreed p.long has.is.short
  steps_apart (timing.Inexact actor port) steps p has = broken_whole net.ports counts (assignments table) (spot actor port) steps.period p has.is
  steps_apart timing.Memory steps p has = p
