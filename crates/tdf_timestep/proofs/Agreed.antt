-- From the first assignments to the period, and which answers exclude each other.
use Rattle.std.proofs.Common.{◌≡◌, ◌≢◌, ◌∙◌, ℕ, ◌*◌, ◌/◌, ◌%◌, ◌<◌, ◌≤◌, Bool, true, false, List, [], ◌∷◌, Option, Some, None, length, refl, sym, ap, subst, arith, inl, inr, ◌⊎◌}
use Rattle.std.proofs.Math.ListN.{get_or}
use Rattle.std.proofs.Math.Nat.{div-mul_cancel}
use Rattle.std.proofs.lemmas.Bool.{cases_eq, cases_lt, eq-eqb, ne_eqb}
use Rattle.std.proofs.lemmas.Bool.Decides.{nat_tests}
use Rattle.std.proofs.lemmas.List.{get_or_past}
use Rattle.std.proofs.lemmas.List.Elements.{All-get_or}
use Rattle.std.proofs.lemmas.Nat.Gcd.{dvd_of_mod-eq-zero, mod-eq-zero_of_dvd}
use Rattle.std.proofs.lemmas.Option.{slice_get_within, slice_get_read, get_or_from_slice_get}
use Rattle.std.specs.Int.{◌∣◌}
use Rattle.std.specs.Prelude.{All, Contains, slice_get}
use Rattle.tdf_base.specs.Limits.{time_end}
use Rattle.tdf_graph.specs.Ranges.{IsGraphPort}
use Rattle.tdf_graph.specs.declared.actors.Port.{Port}
use Rattle.tdf_timestep.specs.Order.{spot_comes_before, port_rank, IsFirstAssigned}
use Rattle.tdf_timestep.specs.Period.{share_of, rate_at_port, port_rate_or_one, period_of, IsPortOf, IsFiringSpot, AreAgreed, IsDisagreed, IsInexact, HasSteps}
use Rattle.tdf_timestep.specs.declared.assign.Assign.{Assign}
use Rattle.tdf_timestep.specs.declared.assign.Spot.{Spot}
use Rattle.tdf_timestep.specs.declared.assign.Steps.{Steps}
use Rattle.tdf_timestep.specs.views.Answers.{step_of, AreStepsUpTo}
use Rattle.tdf_timestep.specs.views.Broken.{IsUnwhole, IsSeen, IsPortSeen, IsFirstAmong}
use Rattle.tdf_timestep.specs.views.Found.{IsFound, IsOther}

pub no_first : (assigned : List Assign) → IsFound assigned (λ _. Unit {0}) None → assigned ≡ []
no_first [] none = refl
no_first (a ∷ as') none = absurd (none 0 a refl tt)

pub first_within : (assigned : List Assign) (P : Assign → Type 0) (a : ℕ) → IsFirstAssigned assigned P a → a < length assigned
first_within assigned P a first = slice_get_within assigned a first.chosen first.there

contains_at : (assigned : List Assign) (x : Assign) → Contains assigned x → (j : ℕ) × (slice_get assigned j ≡ Some x)
contains_at assigned x found = (found.0, slice_get_read assigned (length assigned) found.0 x refl found.1 (sym found.2))

at_contains : (assigned : List Assign) (j : ℕ) (x : Assign) → slice_get assigned j ≡ Some x → Contains assigned x
at_contains assigned j x is = (j, slice_get_within assigned j x is, get_or_from_slice_get assigned j x x is)

module _ (ports : List Port) (counts : List ℕ) (assigned : List Assign) where
  module _ (a : ℕ) (d : Assign) (period : ℕ) (first : IsFirstAssigned assigned (λ _. Unit {0}) a) (is : period ≡ period_of ports counts (get_or assigned a d)) where
    chosen_is : period ≡ period_of ports counts first.chosen
    chosen_is = is ∙ ap (λ (x : Assign). period_of ports counts x) (get_or_from_slice_get assigned a first.chosen d first.there)

    pub disagreed : (b : ℕ) → IsFirstAssigned assigned (IsOther ports counts period) b → IsDisagreed ports counts assigned a b
    disagreed b other = record { first = first; other = subst (λ n. IsFirstAssigned assigned (λ x. period_of ports counts x ≢ n) b) chosen_is other }

    pub agreed_all : IsFound assigned (IsOther ports counts period) None → AreAgreed ports counts assigned period
    agreed_all none = record {
      some = let w = first_within assigned (λ _. Unit {0}) a first in omega (arith, w);
      all = λ x found. go x (contains_at assigned x found) (cases_eq (period_of ports counts x) period);
    }
      where
        go : (x : Assign) → (j : ℕ) × (slice_get assigned j ≡ Some x) → (period_of ports counts x ≡ period) ⊎ (period_of ports counts x ≡ period → ⊥) → period_of ports counts x ≡ period
        go x at (inl same) = same
        go x at (inr other) = absurd (none at.0 x at.1 other)

  -- an assignment of the list has the period that all have
  agreed_at : (period j : ℕ) (x : Assign) → AreAgreed ports counts assigned period → slice_get assigned j ≡ Some x → period_of ports counts x ≡ period
  agreed_at period j x agreed is = agreed.all x (at_contains assigned j x is)

  pub agreed_once : (one other : ℕ) → AreAgreed ports counts assigned one → AreAgreed ports counts assigned other → one ≡ other
  agreed_once one other first second = go assigned first second
    where
      go : (list : List Assign) → AreAgreed ports counts list one → AreAgreed ports counts list other → one ≡ other
      go [] p q = absurd (let s = p.some in omega (arith, s))
      go (x ∷ xs) p q = sym (p.all x (0, omega arith, refl)) ∙ q.all x (0, omega arith, refl)

  pub none_agreed : (period : ℕ) → assigned ≡ [] → AreAgreed ports counts assigned period → ⊥
  none_agreed period none agreed = let s = agreed.some in let e = ap length none in omega (arith, s, e)

  pub none_first : (P : Assign → Type 0) (a : ℕ) → assigned ≡ [] → IsFirstAssigned assigned P a → ⊥
  none_first P a none first = let w = first_within assigned P a first in let e = ap length none in omega (arith, w, e)

  pub disagreed_apart : (a b period : ℕ) → IsDisagreed ports counts assigned a b → AreAgreed ports counts assigned period → ⊥
  disagreed_apart a b period dis agreed = dis.other.holds
      (agreed_at period b dis.other.chosen agreed dis.other.there ∙ sym (agreed_at period a dis.first.chosen agreed dis.first.there))

pub first_once : (assigned : List Assign) (P : Assign → Type 0) (a b : ℕ) → IsFirstAssigned assigned P a → IsFirstAssigned assigned P b → a ≡ b
first_once assigned P a b one other = go (cases_lt a b) (cases_lt b a)
  where
    clash : {x : Bool} → x ≡ true → x ≡ false → ⊥
    clash e f = true_false (sym e ∙ f)
      where
        only_true : Bool → Type 0
        only_true true = Unit {0}
        only_true false = ⊥

        true_false : true ≡ false → ⊥
        true_false g = subst only_true g tt

    go : (a < b) ⊎ (b ≤ a) → (b < a) ⊎ (a ≤ b) → a ≡ b
    go (inl less) second = absurd (clash (other.earliest a one.chosen less one.there one.holds) (one.least b other.chosen other.there other.holds))
    go (inr more) (inl less) = absurd (clash (one.earliest b other.chosen less other.there other.holds) (other.least a one.chosen one.there one.holds))
    go (inr more) (inr most) = omega (arith, more, most)

-- neither comes before the other: they are the same
pub same_spot : (s t : Spot) → spot_comes_before s t ≡ false → spot_comes_before t s ≡ false → s ≡ t
same_spot s t one other = ap (λ n. record { actor = n; port = s.port }) actors ∙ ap (λ p. record { actor = t.actor; port = p }) (same_port s.port t.port ranks)
  where
    actors : s.actor ≡ t.actor
    actors = grind (arith, nat_tests, one, other)

    ranks : port_rank s.port ≡ port_rank t.port
    ranks = grind (arith, nat_tests, one, other)

    same_port : (p q : Option ℕ) → port_rank p ≡ port_rank q → p ≡ q
    same_port None None e = refl
    same_port None (Some n) e = absurd (omega (arith, e))
    same_port (Some m) None e = absurd (omega (arith, e))
    same_port (Some m) (Some n) e = ap Some (omega (arith, e))

pub divides_by : (share period : ℕ) → 0 < share → (IsUnwhole share period → ⊥) → share ∣ period
divides_by share period some whole = go (cases_eq (period % share) 0)
  where
    go : (period % share ≡ 0) ⊎ (period % share ≡ 0 → ⊥) → share ∣ period
    go (inl none) = dvd_of_mod-eq-zero share none
    go (inr rest) = absurd (whole (record { some = some; broken = λ divides. rest (mod-eq-zero_of_dvd share divides) }))

module _ (count : ℕ) (ports : List Port) (counts : List ℕ) (fit : All (IsGraphPort count) ports) where
  positive : (s : Spot) → IsFiringSpot ports counts s → 0 < share_of ports counts s
  positive s spot = product (get_or counts s.actor 0) (rate_at_port ports s.port) spot.fires (rate_some s.port spot.own)
    where
      product : (m n : ℕ) → 0 < m → 0 < n → 0 < m * n
      product m n m_some n_some = grind (arith, m_some, n_some)

      rate_some : (port : Option ℕ) → IsPortOf ports s.actor port → 0 < rate_at_port ports port
      rate_some None own = omega arith
      rate_some (Some p) own = subst (λ x. 0 < port_rate_or_one x) (sym own.1)
          (subst (λ (x : Port). 1 ≤ x.rate) (get_or_from_slice_get ports p own.0 own.0 own.1)
          (All-get_or (IsGraphPort count) ports p own.0 (slice_get_within ports p own.0 own.1) fit).rate.some)

  seen : (s : Spot) → IsFiringSpot ports counts s → IsSeen ports (length counts) (length ports) s
  seen s spot = go s.port spot.own
    where
      inside : s.actor < length counts
      inside = by_order (cases_lt s.actor (length counts))
        where
          by_order : (s.actor < length counts) ⊎ (length counts ≤ s.actor) → s.actor < length counts
          by_order (inl here) = here
          by_order (inr past) = absurd (let f = spot.fires in let e = get_or_past counts s.actor 0 past in omega (arith, f, e))

      go : (port : Option ℕ) → IsPortOf ports s.actor port → IsPortSeen ports (length counts) (length ports) s.actor port
      go None own = inside
      go (Some p) own = (slice_get_within ports p own.0 own.1, own)

  pub all_whole : (period : ℕ) → IsFirstAmong ports counts period (IsSeen ports (length counts) (length ports)) None → (s : Spot) → IsFiringSpot ports counts s → share_of ports counts s ∣ period
  all_whole period none s spot = divides_by (share_of ports counts s) period (positive s spot) (none s (seen s spot))

  factor_some : (m n : ℕ) → 0 < m * n → 0 < m
  factor_some m n some = go (cases_eq m 0)
    where
      go : (m ≡ 0) ⊎ (m ≡ 0 → ⊥) → 0 < m
      go (inl none) = absurd (let e = ap (λ k. k * n) none in omega (arith, e, some))
      go (inr other) = omega (arith, other)

  own_of : (actors last actor : ℕ) (port : Option ℕ) → IsPortSeen ports actors last actor port → IsPortOf ports actor port
  own_of actors last actor None is = tt
  own_of actors last actor (Some p) is = is.1

  pub inexact : (assigned : List Assign) (period : ℕ) (s : Spot) → AreAgreed ports counts assigned period → period < time_end
      → IsFirstAmong ports counts period (IsSeen ports (length counts) (length ports)) (Some s) → IsInexact ports counts assigned s
  inexact assigned period s agreed short found = record {
    period = period;
    agreed = agreed;
    short = short;
    spot = record { fires = factor_some (get_or counts s.actor 0) (rate_at_port ports s.port) found.unwhole.some; own = own_of (length counts) (length ports) s.actor s.port found.seen };
    broken = found.unwhole.broken;
    first = λ t spot broken. found.first t (seen t spot) (record { some = positive t spot; broken = broken });
  }

  pub has_steps : (assigned : List Assign) (steps : Steps) → AreAgreed ports counts assigned steps.period → steps.period < time_end
      → IsFirstAmong ports counts steps.period (IsSeen ports (length counts) (length ports)) None
      → AreStepsUpTo (length counts) counts steps.period steps.actor_steps.items → HasSteps ports counts assigned steps
  has_steps assigned steps agreed short none are = record {
    is = record { agreed = agreed; short = short; whole = all_whole steps.period none };
    long = are.long;
    firing = λ a some. firing a some (cases_lt a (length counts));
    none = λ a zero. no_step a zero (cases_lt a (length counts));
  }
    where
      none_of : (q : ℕ) → q ≡ 0 → step_of steps.period q ≡ 0
      none_of q zero = rw (eq-eqb q 0 zero) refl

      some_of : (q : ℕ) → (q ≡ 0 → ⊥) → step_of steps.period q ≡ steps.period / q
      some_of q other = rw (ne_eqb q 0 other) refl

      firing : (a : ℕ) → 0 < get_or counts a 0 → (a < length counts) ⊎ (length counts ≤ a) → get_or steps.actor_steps.items a 0 * get_or counts a 0 ≡ steps.period
      firing a some (inl here) =
          let divides : get_or counts a 0 ∣ steps.period = subst (λ n. n ∣ steps.period) (one (get_or counts a 0)) (all_whole steps.period none (record { actor = a; port = None }) (record { fires = some; own = tt })) in
          ap (λ n. n * get_or counts a 0) (are.each a here ∙ some_of (get_or counts a 0) (λ zero. omega (arith, some, zero))) ∙ div-mul_cancel (get_or counts a 0) divides
        where
          one : (n : ℕ) → n * 1 ≡ n
          one n = omega arith
      firing a some (inr past) = absurd (let e = get_or_past counts a 0 past in omega (arith, some, e))

      no_step : (a : ℕ) → get_or counts a 0 ≡ 0 → (a < length counts) ⊎ (length counts ≤ a) → get_or steps.actor_steps.items a 0 ≡ 0
      no_step a zero (inl here) = are.each a here ∙ none_of (get_or counts a 0) zero
      no_step a zero (inr past) = get_or_past steps.actor_steps.items a 0 (subst (λ n. n ≤ a) (sym are.long) past)
