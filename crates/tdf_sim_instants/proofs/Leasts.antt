-- The least time at which something is next due.
use Rattle.std.proofs.Common.{◌≡◌, ◌∙◌, ℕ, ◌+◌, ◌<◌, ◌≤◌, true, List, Some, None, length, slice_get, inl, inr, refl, sym, ap, arith}
use Rattle.tdf_events_queue.specs.Sets.{count_on}
use Rattle.tdf_sim_instants.proofs.Calm.{due_next}
use Rattle.tdf_sim_instants.specs.Settling.{IsBefore}
use Rattle.tdf_sim_instants.specs.Times.{IsLeastDue, IsNextDue, IsClusterRunning, due_time}
use Rattle.tdf_events.specs.Delta.{is_idle}
use Rattle.tdf_events.specs.Kernel.{IsNextOf}
use Rattle.tdf_events.specs.Side.{SideOf}
use Rattle.tdf_sim_refinement.specs.Below.{ClusterOf}
use Rattle.std.proofs.lemmas.Bool.{eq-eqb}
use Rattle.std.proofs.lemmas.Option.{slice_get_within}
use Rattle.tdf_streams.proofs.Api.{none_some, some_same}
use Rattle.tdf_sim_refinement.proofs.Api.{same_or_not}

idle_none : (side : SideOf) → count_on side.triggered ≡ 0 → is_idle side ≡ true
idle_none side none = eq-eqb (count_on side.triggered) 0 none

pub least_none : (cs : List ClusterOf) (since : List ℕ) (limit : ℕ) → IsLeastDue cs since 0 limit limit
least_none cs since limit = record {
  within = omega arith;
  least = λ m s c below running. absurd (omega (arith, below));
  due = λ less. absurd (omega (arith, less));
}

module _ (cs : List ClusterOf) (since : List ℕ) (n limit least : ℕ) (before : IsLeastDue cs since n limit least) (c : ClusterOf) (s : ℕ) (c_at : slice_get cs n ≡ Some c) (s_at : slice_get since n ≡ Some s) where
  here : (m r : ℕ) (d : ClusterOf) → m ≡ n → IsClusterRunning cs since m r d → due_time r d ≡ due_time s c
  here m r d same running =
      ap (λ k. due_time k d) (some_same r s (sym running.begun ∙ ap (slice_get since) same ∙ s_at))
      ∙ ap (due_time s) (some_same d c (sym running.cluster ∙ ap (slice_get cs) same ∙ c_at))

  pub least_kept : least ≤ due_time s c → IsLeastDue cs since (n + 1) limit least
  least_kept low = record {
    within = before.within;
    least = λ m r d below running. elim (same_or_not m n) [
      | inl same ↦ (let e = here m r d same running in omega (arith, e, low))
      | inr apart ↦ before.least m r d (omega (arith, below, apart)) running
    ];
    due = before.due;
  }

  pub least_taken : due_time s c < least → IsLeastDue cs since (n + 1) limit (due_time s c)
  least_taken less = record {
    within = let w = before.within in omega (arith, w, less);
    least = λ m r d below running. elim (same_or_not m n) [
      | inl same ↦ (let e = here m r d same running in omega (arith, e))
      | inr apart ↦ (let l = before.least m r d (omega (arith, below, apart)) running in omega (arith, l, less))
    ];
    due = λ small. record { number = n; start = s; cluster = c; running = record { cluster = c_at; begun = s_at }; due = refl };
  }

module _ (cs : List ClusterOf) (since : List ℕ) (side : SideOf) (stop least : ℕ) (is : IsLeastDue cs since (length cs) stop least) where
  inside : (m s : ℕ) (c : ClusterOf) → IsClusterRunning cs since m s c → m < length cs
  inside m s c running = slice_get_within cs m c running.cluster

  -- the event side is before a time that its next one doesn't come before
  before_next : (time next : ℕ) → IsNextOf side (Some next) → time ≤ next → IsBefore time side
  before_next time next (inl some) low = record {
    none = record { none = λ event pending at. (let z = some_same next 0 some.1 in omega (arith, low, z)) };
    idle = λ late. (let z = some_same next 0 some.1 in absurd (omega (arith, low, z, late)));
  }
  before_next time next (inr none) low = record {
    none = record { none = λ event pending at. (let l = none.1.1.least event pending at in omega (arith, l, low)) };
    idle = λ late. idle_none side none.0;
  }

  before_never : (time : ℕ) → IsNextOf side None → IsBefore time side
  before_never time (inl some) = absurd cc
  before_never time (inr none) = record {
    none = record { none = λ event pending at. none_some pending (sym (none.1.none event) ∙ at) };
    idle = λ late. idle_none side none.0;
  }

  pub next_kept : (next : ℕ) → IsNextOf side (Some next) → least ≤ next → IsNextDue cs since side stop least
  next_kept next event low = record {
    within = is.within;
    each = λ m s c running. is.least m s c (inside m s c running) running;
    before = before_next least next event low;
    due = λ less. inl (is.due less);
  }

  pub next_taken : (next : ℕ) → IsNextOf side (Some next) → next < least → IsNextDue cs since side stop next
  next_taken next event less = record {
    within = let w = is.within in omega (arith, w, less);
    each = λ m s c running. (let l = is.least m s c (inside m s c running) running in omega (arith, l, less));
    before = before_next next next event (omega arith);
    due = λ small. inr (sym (due_next next side (before_next next next event (omega arith)) next event) ∙ eq-eqb next next refl);
  }

  pub next_never : IsNextOf side None → IsNextDue cs since side stop least
  next_never none = record {
    within = is.within;
    each = λ m s c running. is.least m s c (inside m s c running) running;
    before = before_never least none;
    due = λ less. inl (is.due less);
  }
