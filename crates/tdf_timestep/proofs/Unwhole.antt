-- The first spot whose step isn't whole, one more looked at.
use Rattle.std.proofs.Common.{◌≡◌, ◌∙◌, ℕ, ◌+◌, ◌*◌, ◌<◌, ◌%◌, Bool, true, false, not, nat_eq, List, Option, Some, None, sym, ap, subst, arith, inl, inr, ◌⊎◌}
use Rattle.std.proofs.Math.ListN.{get_or}
use Rattle.std.proofs.lemmas.Bool.{cases_eq, eq-eqb, ne_eqb}
use Rattle.std.proofs.lemmas.Nat.Gcd.{dvd_of_mod-eq-zero, mod-eq-zero_of_dvd}
use Rattle.std.specs.Prelude.{slice_get}
use Rattle.tdf_graph.specs.declared.actors.Port.{Port}
use Rattle.tdf_timestep.proofs.Firsts.{never, after_first, some_same}
use Rattle.tdf_timestep.specs.Order.{spot_comes_before, port_rank}
use Rattle.tdf_timestep.specs.Period.{rate_at_port, share_of, IsPortOf}
use Rattle.tdf_timestep.specs.declared.assign.Spot.{Spot}
use Rattle.tdf_timestep.specs.views.Broken.{IsUnwhole, IsLesser, IsConsidered, IsPortSeen, IsSeen, IsFirstAmong}

abbrev spot_at : ℕ → Option ℕ → Spot
spot_at actor port = record { actor = actor; port = port }

pub is_rest : (m : ℕ) → not (nat_eq m 0) ≡ true → m ≡ 0 → ⊥
is_rest m some none = true_false (sym some ∙ ap not (eq-eqb m 0 none))
  where
    only_true : Bool → Type 0
    only_true true = Unit {0}
    only_true false = ⊥

    true_false : true ≡ false → ⊥
    true_false e = subst only_true e tt

pub rest_is : (m : ℕ) → (m ≡ 0 → ⊥) → not (nat_eq m 0) ≡ true
rest_is m some = ap not (ne_eqb m 0 some)

pub unwhole_both : (share period : ℕ) → (share ≡ 0 → ⊥) → (not (nat_eq (period % share) 0) ≡ true → IsUnwhole share period) × (IsUnwhole share period → not (nat_eq (period % share) 0) ≡ true)
unwhole_both share period some = (
  (λ rest. record { some = omega (arith, some); broken = λ divides. is_rest (period % share) rest (mod-eq-zero_of_dvd share divides) }),
  (λ is. rest_is (period % share) (λ none. is.broken (dvd_of_mod-eq-zero share none))),
)

unwhole_cases : (share period : ℕ) → IsUnwhole share period ⊎ (IsUnwhole share period → ⊥)
unwhole_cases share period = go (cases_eq share 0) (cases_eq (period % share) 0)
  where
    go : (share ≡ 0) ⊎ (share ≡ 0 → ⊥) → (period % share ≡ 0) ⊎ (period % share ≡ 0 → ⊥) → IsUnwhole share period ⊎ (IsUnwhole share period → ⊥)
    go (inl none) other = inr (λ is. let s = is.some in omega (arith, s, none))
    go (inr some) (inl whole) = inr (λ is. is.broken (dvd_of_mod-eq-zero share whole))
    go (inr some) (inr rest) = inl (record { some = omega (arith, some); broken = λ divides. rest (mod-eq-zero_of_dvd share divides) })

module _ (ports : List Port) (counts : List ℕ) (period : ℕ) where
  pub among_none : (Seen : Spot → Type 0) → ((t : Spot) → Seen t → ⊥) → IsFirstAmong ports counts period Seen None
  among_none Seen none t seen unwhole = none t seen

  module _ (Seen Next : Spot → Type 0) (spot : Spot) (here : Next spot) (more : (t : Spot) → Seen t → Next t) (only : (t : Spot) → Next t → Seen t ⊎ (t ≡ spot)) where
    taken : IsUnwhole (share_of ports counts spot) period → (best result : Option Spot) → IsLesser best spot result → IsFirstAmong ports counts period Seen best → IsFirstAmong ports counts period Next result
    taken unwhole None result is none = subst (IsFirstAmong ports counts period Next) (sym is)
        (record { seen = here; unwhole = unwhole; first = λ t seen broken. go t seen broken (only t seen) })
      where
        go : (t : Spot) → Next t → IsUnwhole (share_of ports counts t) period → Seen t ⊎ (t ≡ spot) → spot_comes_before t spot ≡ false
        go t seen broken (inl before) = absurd (none t before broken)
        go t seen broken (inr same) = subst (λ (u : Spot). spot_comes_before u spot ≡ false) (sym same) (never spot.actor (port_rank spot.port))
    taken unwhole (Some best) result (inl p) found = subst (IsFirstAmong ports counts period Next) (sym p.0)
        (record { seen = here; unwhole = unwhole; first = λ t seen broken. go t seen broken (only t seen) })
      where
        go : (t : Spot) → Next t → IsUnwhole (share_of ports counts t) period → Seen t ⊎ (t ≡ spot) → spot_comes_before t spot ≡ false
        go t seen broken (inl before) = after_first t.actor (port_rank t.port) spot.actor (port_rank spot.port) best.actor (port_rank best.port) (found.first t before broken) p.1
        go t seen broken (inr same) = subst (λ (u : Spot). spot_comes_before u spot ≡ false) (sym same) (never spot.actor (port_rank spot.port))
    taken unwhole (Some best) result (inr p) found = subst (IsFirstAmong ports counts period Next) (sym p.0)
        (record { seen = more best found.seen; unwhole = found.unwhole; first = λ t seen broken. go t seen broken (only t seen) })
      where
        go : (t : Spot) → Next t → IsUnwhole (share_of ports counts t) period → Seen t ⊎ (t ≡ spot) → spot_comes_before t best ≡ false
        go t seen broken (inl before) = found.first t before broken
        go t seen broken (inr same) = subst (λ (u : Spot). spot_comes_before u best ≡ false) (sym same) p.1

    left : (IsUnwhole (share_of ports counts spot) period → ⊥) → (best : Option Spot) → IsFirstAmong ports counts period Seen best → IsFirstAmong ports counts period Next best
    left whole None none = λ t seen broken. go t seen broken (only t seen)
      where
        go : (t : Spot) → Next t → IsUnwhole (share_of ports counts t) period → Seen t ⊎ (t ≡ spot) → ⊥
        go t seen broken (inl before) = none t before broken
        go t seen broken (inr same) = whole (subst (λ (u : Spot). IsUnwhole (share_of ports counts u) period) same broken)
    left whole (Some best) found = record { seen = more best found.seen; unwhole = found.unwhole; first = λ t seen broken. go t seen broken (only t seen) }
      where
        go : (t : Spot) → Next t → IsUnwhole (share_of ports counts t) period → Seen t ⊎ (t ≡ spot) → spot_comes_before t best ≡ false
        go t seen broken (inl before) = found.first t before broken
        go t seen broken (inr same) = absurd (whole (subst (λ (u : Spot). IsUnwhole (share_of ports counts u) period) same broken))

    pub considered : (best result : Option Spot) → IsConsidered ports counts period best spot result → IsFirstAmong ports counts period Seen best → IsFirstAmong ports counts period Next result
    considered best result is found = go (unwhole_cases (share_of ports counts spot) period)
      where
        go : IsUnwhole (share_of ports counts spot) period ⊎ (IsUnwhole (share_of ports counts spot) period → ⊥) → IsFirstAmong ports counts period Next result
        go (inl unwhole) = taken unwhole best result (is.taken unwhole) found
        go (inr whole) = subst (IsFirstAmong ports counts period Next) (sym (is.left whole)) (left whole best found)

  -- an actor more
  pub actor_more : (n : ℕ) (best result : Option Spot) → IsConsidered ports counts period best (spot_at n None) result
      → IsFirstAmong ports counts period (IsSeen ports n 0) best → IsFirstAmong ports counts period (IsSeen ports (n + 1) 0) result
  actor_more n best result is found = considered (IsSeen ports n 0) (IsSeen ports (n + 1) 0) (spot_at n None) (omega arith)
      (λ t seen. more t.actor t.port seen) (λ t seen. only t.actor t.port seen) best result is found
    where
      more : (a : ℕ) (port : Option ℕ) → IsPortSeen ports n 0 a port → IsPortSeen ports (n + 1) 0 a port
      more a None seen = omega (arith, seen)
      more a (Some p) seen = seen

      only : (a : ℕ) (port : Option ℕ) → IsPortSeen ports (n + 1) 0 a port → IsPortSeen ports n 0 a port ⊎ (spot_at a port ≡ spot_at n None)
      only a None seen = go (cases_eq a n)
        where
          go : (a ≡ n) ⊎ (a ≡ n → ⊥) → (a < n) ⊎ (spot_at a None ≡ spot_at n None)
          go (inl same) = inr (ap (λ m. spot_at m None) same)
          go (inr other) = inl (omega (arith, seen, other))
      only a (Some p) seen = inl seen

  -- a port more
  pub port_more : (count n : ℕ) (best result : Option Spot) (spot : Spot) → spot.port ≡ Some n → IsPortOf ports spot.actor spot.port
      → IsConsidered ports counts period best spot result
      → IsFirstAmong ports counts period (IsSeen ports count n) best → IsFirstAmong ports counts period (IsSeen ports count (n + 1)) result
  port_more count n best result spot port_is own is found = considered (IsSeen ports count n) (IsSeen ports count (n + 1)) spot
      (subst (IsPortSeen ports count (n + 1) spot.actor) (sym port_is) (omega arith, subst (IsPortOf ports spot.actor) port_is own))
      (λ t seen. more t.actor t.port seen) (λ t seen. only t.actor t.port seen) best result is found
    where
      more : (a : ℕ) (port : Option ℕ) → IsPortSeen ports count n a port → IsPortSeen ports count (n + 1) a port
      more a None seen = seen
      more a (Some p) seen = (let h = seen.0 in omega (arith, h), seen.1)

      only : (a : ℕ) (port : Option ℕ) → IsPortSeen ports count (n + 1) a port → IsPortSeen ports count n a port ⊎ (spot_at a port ≡ spot)
      only a None seen = inl seen
      only a (Some p) seen = go (cases_eq p n)
        where
          spot_own : IsPortOf ports spot.actor (Some n)
          spot_own = subst (IsPortOf ports spot.actor) port_is own

          go : (p ≡ n) ⊎ (p ≡ n → ⊥) → IsPortSeen ports count n a (Some p) ⊎ (spot_at a (Some p) ≡ spot)
          go (inl same) =
              let port_same : seen.1.0 ≡ spot_own.0 = some_same (sym seen.1.1 ∙ ap (slice_get ports) same ∙ spot_own.1) in
              let actor_same : a ≡ spot.actor = sym seen.1.2 ∙ ap (λ (x : Port). x.actor) port_same ∙ spot_own.2 in
              inr (ap (λ m. spot_at m (Some p)) actor_same ∙ ap (λ q. spot_at spot.actor q) (ap Some same ∙ sym port_is))
          go (inr other) = inl ((let h = seen.0 in omega (arith, h, other)), seen.1)

  pub no_actor : IsFirstAmong ports counts period (IsSeen ports 0 0) None
  no_actor t seen unwhole = none t.actor t.port seen
    where
      none : (a : ℕ) (port : Option ℕ) → IsPortSeen ports 0 0 a port → ⊥
      none a None seen = omega (arith, seen)
      none a (Some p) seen = let h = seen.0 in omega (arith, h)

-- an actor that doesn't fire has no share
pub idle : (ports : List Port) (counts : List ℕ) (period : ℕ) (spot : Spot) → get_or counts spot.actor 0 ≡ 0 → IsUnwhole (share_of ports counts spot) period → ⊥
idle ports counts period spot none is = let z = ap (λ n. n * rate_at_port ports spot.port) none in let some = is.some in omega (arith, z, some)
