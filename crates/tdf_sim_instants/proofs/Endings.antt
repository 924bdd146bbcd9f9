-- One turn of the boundaries, by what a cluster did in it.
use Rattle.std.proofs.Common.{◌≡◌, ◌∙◌, ℕ, suc, ◌+◌, ◌-◌, ◌<◌, ◌≤◌, Bool, true, false, List, Some, length, slice_get, inl, inr, refl, sym, ap, subst, arith, add-one}
use Rattle.std.proofs.lemmas.List.{append-nil}
use Rattle.std.proofs.lemmas.Option.{slice_get-get_or, slice_get_within}
use Rattle.std.specs.Prelude.{slice_index_or, slice_set}
use Rattle.tdf_sim_instants.proofs.Boundaries.{still_to_come}
use Rattle.tdf_sim_instants.specs.Crossing.{CanCross, CrossingOf, EndingAt, HasCrossedBoundary, HasEnding, HasGoneOn, HasNoTurn, HasStopped, HaveCrossed, IsEndingOf, IsRefusedAt, NoneChanges, crossing_of, ending_at, is_ending}
use Rattle.tdf_sim_instants.specs.declared.crossing.Turn.{Turn}
use Rattle.tdf_sim_instants.specs.declared.crossing.Turn.TheVariants.{Kept, Planned}
use Rattle.tdf_sim_instants.specs.machine.Crossing.{GoesOnBy}
use Rattle.tdf_base.specs.declared.faults.Fault.{Fault}
use Rattle.tdf_sim_refinement.specs.Below.{ClusterOf, HasNoChanges, IsClusterOf}
use Rattle.tdf_bind.specs.declared.model.Flat.{Flat}
use Rattle.tdf_streams.proofs.Api.{get_inside}
use Rattle.tdf_sim_refinement.proofs.Api.{set_own}

pub nothing_crossed : (flat : Flat) (time : ℕ) (x : CrossingOf) → HaveCrossed flat time 0 x x
unfolding HaveCrossed
nothing_crossed flat time x = refl

one_more : (flat : Flat) (time n : ℕ) (x y z : CrossingOf) → HaveCrossed flat time n x y → HasEnding flat time n y z → HaveCrossed flat time (suc n) x z
unfolding HaveCrossed
one_more flat time n x y z crossed ending = (y, crossed, ending)

module _ (flat : Flat) (time : ℕ) (x : CrossingOf) (can : CanCross flat time x) (n : ℕ) (y : CrossingOf) (crossed : HaveCrossed flat time n x y) (inside : n < length x.clusters)
    (s : ℕ) (c : ClusterOf) (s_is : s ≡ slice_index_or y.since n s) (c_is : c ≡ slice_index_or y.clusters n c) where
  same : (slice_get y.clusters n ≡ slice_get x.clusters n) × (slice_get y.since n ≡ slice_get x.since n)
  same = still_to_come flat time x n y crossed n (omega arith)

  c_at : slice_get y.clusters n ≡ Some c
  c_at =
      let z = get_inside x.clusters n inside in
      let i = slice_get_within y.clusters n z.0 (same.0 ∙ z.1) in slice_get-get_or y.clusters n c i ∙ ap Some (sym c_is)

  s_at : slice_get y.since n ≡ Some s
  s_at =
      let l = can.same in
      let z = get_inside x.since n (omega (arith, inside, l)) in
      let i = slice_get_within y.since n z.0 (same.1 ∙ z.1) in slice_get-get_or y.since n s i ∙ ap Some (sym s_is)

  pub begun_now : s ≤ time
  begun_now = can.begun n s (sym same.1 ∙ s_at)

  pub of_now : IsClusterOf flat c
  of_now = can.of n c (sym same.0 ∙ c_at)

  pub going_now : c.crossed ≡ false
  going_now = can.going n c (sym same.0 ∙ c_at)

  -- it has no changes where none has
  pub still_now : NoneChanges flat x.clusters → HasNoChanges flat.tables c.number
  still_now none = none n c (sym same.0 ∙ c_at)

  module _ (t : ℕ) (d : ClusterOf) (rest : ℕ) (planned : List ℕ) where
    abbrev turn : EndingAt
    turn = ending_at s t c d

    abbrev z : CrossingOf
    z = crossing_of (slice_set y.clusters n d) (slice_set y.since n t) rest planned

    is : IsEndingOf n y z turn
    is = record { before = c_at; since = s_at; after = refl; begun = refl }

    one : HasEnding flat time n y z → HaveCrossed flat time (n + 1) x z
    one ending = subst (λ k. HaveCrossed flat time k x z) (sym (add-one n)) (one_more flat time n x y z crossed ending)

    pub crossed_more : (did : Turn) → GoesOnBy did n y.planned planned → (is_ending time s c ≡ false → HasGoneOn time turn y.left rest)
        → (is_ending time s c ≡ true → did ≡ Kept → HasCrossedBoundary flat time false turn y.left rest) → (did ≡ Planned → HasCrossedBoundary flat time true turn y.left rest) → HaveCrossed flat time (n + 1) x z
    crossed_more did (inl same) stays kept new = ended (is_ending time s c) refl
      where
        ended : (b : Bool) → is_ending time s c ≡ b → HaveCrossed flat time (n + 1) x z
        ended true ending = one (HasEnding.Over turn false is (kept ending same.0) (same.1 ∙ sym (append-nil y.planned)))
        ended false ending = one (HasEnding.Open turn is (stays ending) same.1)
    crossed_more did (inr more) stays kept new = one (HasEnding.Over turn true is (new more.0) more.1)

    pub no_turn : is_ending time s c ≡ true → y.left ≡ 0 → (d ≡ c) × (t ≡ s) × (rest ≡ y.left) → planned ≡ y.planned → HasNoTurn flat time x z
    no_turn ending none kept same = record {
      number = n;
      passed = subst (HaveCrossed flat time n x) (sym z_is) crossed;
      cluster = c;
      since = s;
      here = ap (λ (k : CrossingOf). slice_get k.clusters n) z_is ∙ c_at;
      begun = ap (λ (k : CrossingOf). slice_get k.since n) z_is ∙ s_at;
      over = ending;
      none = kept.2 ∙ none;
    }
      where
        z_is : z ≡ y
        z_is = λ i. crossing_of ((ap (slice_set y.clusters n) kept.0 ∙ set_own y.clusters n c c_at) i) ((ap (slice_set y.since n) kept.1 ∙ set_own y.since n s s_at) i) (kept.2 i) (same i)

    pub has_stopped : (number : ℕ) (fault : Fault) → number ≡ n + 1 → IsRefusedAt flat time fault s c d y.left → (t ≡ time) × (rest ≡ y.left - 1) → planned ≡ y.planned → HasStopped flat time number fault x z
    has_stopped number fault is_number refused taken same = record {
      place = n;
      number_is = is_number;
      mid = y;
      passed = crossed;
      since = s;
      cluster = c;
      after = d;
      here = c_at;
      begun = s_at;
      refused = refused;
      clusters = refl;
      starts = ap (slice_set y.since n) taken.0;
      turns = taken.1;
      planned = same;
    }
