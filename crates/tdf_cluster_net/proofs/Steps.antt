-- What the timesteps of the own net give is what they give in the whole net.
use Rattle.std.proofs.Common.{◌≡◌, ◌≢◌, ◌∙◌, ℕ, ◌+◌, ◌*◌, ◌<◌, ◌≤◌, ◌⊎◌, inl, inr, true, false, ◌&&◌, ◌||◌, nat_eq, nat_lt, List, Option, Some, None, length, map, refl, sym, ap, subst, arith}
use Rattle.std.proofs.Math.ListN.{get_or}
use Rattle.std.proofs.lemmas.Bool.{cases_lt, lt-ltb, le-ltb}
use Rattle.std.proofs.lemmas.List.{get_or_past, length-map}
use Rattle.std.proofs.lemmas.List.Elements.{All-contains}
use Rattle.std.proofs.lemmas.Option.{same_Some, none-some, slice_get-map, slice_get-get_or, slice_get_within}
use Rattle.std.specs.Int.{◌∣◌}
use Rattle.std.specs.Option.{option_map}
use Rattle.std.specs.Prelude.{slice_get, All}
use Rattle.tdf_cluster_net.proofs.Edges.{contains_at, at_contains, number_once}
use Rattle.tdf_cluster_net.proofs.Ranks.{number_lt, number_eq, spread_at}
use Rattle.tdf_cluster_net.specs.Laws.{IsClusterNet}
use Rattle.tdf_cluster_net.specs.Numbers.{AreSpread}
use Rattle.tdf_cluster_net.specs.Own.{IsActorInCluster, IsOwnSpot, IsPortWithin, OwnOf, whole_assign, whole_port, whole_spot, with_number}
use Rattle.tdf_graph.proofs.Api.{stands_below}
use Rattle.tdf_graph.specs.declared.actors.Actor.{Actor}
use Rattle.tdf_graph.specs.declared.actors.Edge.{Edge}
use Rattle.tdf_graph.specs.declared.actors.Port.{Port}
use Rattle.tdf_timestep.specs.Order.{port_rank, spot_comes_before, spot_of, IsFirstAssigned}
use Rattle.tdf_timestep.specs.Period.{AreAgreed, HasSteps, IsAssigned, IsBroken, IsDisagreed, IsFiringSpot, IsInexact, IsPeriod, IsPortOf, IsTooLong, period_of, port_rate_or_one, rate_at_port, share_of}
use Rattle.tdf_timestep.specs.declared.assign.Assign.{Assign}
use Rattle.tdf_timestep.specs.declared.assign.Spot.{Spot}
use Rattle.tdf_timestep.specs.declared.assign.Steps.{Steps}

-- an element of a mapped list
map_at : {X Y : Type 0} (f : X → Y) (xs : List X) (j : ℕ) (y : Y) → slice_get (map f xs) j ≡ Some y → (x : X) × (slice_get xs j ≡ Some x) × (f x ≡ y)
map_at {X} {Y} f xs j y is = go (slice_get xs j) refl (sym (slice_get-map f xs j) ∙ is)
  where
    go : (o : Option X) → slice_get xs j ≡ o → option_map f o ≡ Some y → (x : X) × (slice_get xs j ≡ Some x) × (f x ≡ y)
    go None at e = absurd (none-some y e)
    go (Some x) at e = (x, at, same_Some (f x) y e)

module _ (actors : List Actor) (edges : List Edge) (ports : List Port) (clusters : List ℕ) (cluster : ℕ) (own : OwnOf)
    (net : IsClusterNet actors edges ports clusters cluster own) where
  actor_once : (i j : ℕ) → i < length own.actor_numbers → j < length own.actor_numbers → get_or own.actor_numbers i 0 ≡ get_or own.actor_numbers j 0 → i ≡ j
  actor_once = number_once own.actor_numbers (length actors) (IsActorInCluster clusters cluster) net.own_is.actor_numbers

  -- the own port with a number
  own_port : (p : ℕ) → p < length own.port_numbers → (x : Port) × (slice_get own.ports p ≡ Some x) × (slice_get ports (get_or own.port_numbers p 0) ≡ Some (whole_port own.actor_numbers x))
  own_port p within = (own_x, is, net.own_is.ports_are p own_x is)
    where
      nothing : Port
      nothing = record { actor = 0; rate = 0 }

      own_x : Port
      own_x = get_or own.ports p nothing

      is : slice_get own.ports p ≡ Some own_x
      is = slice_get-get_or own.ports p nothing (subst (λ n. p < n) (sym net.own_is.ports_long) within)

  port_up : (actor : ℕ) (port : Option ℕ) → IsPortOf own.ports actor port
      → IsPortWithin (length own.port_numbers) port × IsPortOf ports (get_or own.actor_numbers actor 0) (with_number own.port_numbers port)
  port_up actor None is = (tt, tt)
  port_up actor (Some p) is = (
    subst (λ n. p < n) net.own_is.ports_long (slice_get_within own.ports p is.0 is.1),
    (whole_port own.actor_numbers is.0, net.own_is.ports_are p is.0 is.1, ap (λ n. get_or own.actor_numbers n 0) is.2),
  )

  port_down : (actor : ℕ) (port : Option ℕ) → actor < length own.actor_numbers → IsPortWithin (length own.port_numbers) port
      → IsPortOf ports (get_or own.actor_numbers actor 0) (with_number own.port_numbers port) → IsPortOf own.ports actor port
  port_down actor None actor_in within is = tt
  port_down actor (Some p) actor_in within is = go (own_port p within)
    where
      go : (x : Port) × (slice_get own.ports p ≡ Some x) × (slice_get ports (get_or own.port_numbers p 0) ≡ Some (whole_port own.actor_numbers x)) → IsPortOf own.ports actor (Some p)
      go x = (
        x.0,
        x.1,
        actor_once x.0.actor actor (net.own_is.port_actors p x.0 x.1) actor_in
            (ap (λ (y : Port). y.actor) (same_Some (whole_port own.actor_numbers x.0) is.0 (sym x.2 ∙ is.1)) ∙ is.2),
      )

  -- a port of an own actor is an own port
  port_found : (i : ℕ) → i < length own.actor_numbers → (actor : ℕ) → get_or own.actor_numbers i 0 ≡ actor → (port : Option ℕ) → IsPortOf ports actor port
      → (q : Option ℕ) × IsPortWithin (length own.port_numbers) q × (with_number own.port_numbers q ≡ port)
  port_found i i_in actor at None is = (None, tt, refl)
  port_found i i_in actor at (Some n) is = go (net.own_is.port_numbers.all n (slice_get_within ports n is.0 is.1) (is.0, is.1, inside))
    where
      inside : get_or clusters is.0.actor 0 ≡ cluster
      inside = ap (λ m. get_or clusters m 0) (is.2 ∙ sym at) ∙ net.own_is.actor_numbers.meant i i_in

      go : (p : ℕ) × (p < length own.port_numbers) × (get_or own.port_numbers p 0 ≡ n) → (q : Option ℕ) × IsPortWithin (length own.port_numbers) q × (with_number own.port_numbers q ≡ Some n)
      go p = (Some p.0, p.1, ap Some p.2)

  rate_same : (port : Option ℕ) → IsPortWithin (length own.port_numbers) port → rate_at_port ports (with_number own.port_numbers port) ≡ rate_at_port own.ports port
  rate_same None within = refl
  rate_same (Some p) within = go (own_port p within)
    where
      go : (x : Port) × (slice_get own.ports p ≡ Some x) × (slice_get ports (get_or own.port_numbers p 0) ≡ Some (whole_port own.actor_numbers x))
          → port_rate_or_one (slice_get ports (get_or own.port_numbers p 0)) ≡ port_rate_or_one (slice_get own.ports p)
      go x = ap (λ (o : Option Port). port_rate_or_one o) x.2 ∙ ap (λ (o : Option Port). port_rate_or_one o) (sym x.1)

  -- spots go in one order
  rank_same : (p q : Option ℕ) → IsPortWithin (length own.port_numbers) p → IsPortWithin (length own.port_numbers) q
      → nat_lt (port_rank (with_number own.port_numbers p)) (port_rank (with_number own.port_numbers q)) ≡ nat_lt (port_rank p) (port_rank q)
  rank_same None None p_in q_in = refl
  rank_same None (Some q) p_in q_in = lt-ltb 0 (get_or own.port_numbers q 0 + 1) (omega arith) ∙ sym (lt-ltb 0 (q + 1) (omega arith))
  rank_same (Some p) None p_in q_in = le-ltb (get_or own.port_numbers p 0 + 1) 0 (omega arith) ∙ sym (le-ltb (p + 1) 0 (omega arith))
  rank_same (Some p) (Some q) p_in q_in = more (get_or own.port_numbers p 0) (get_or own.port_numbers q 0)
      ∙ number_lt own.port_numbers (length ports) _ net.own_is.port_numbers p q p_in q_in ∙ sym (more p q)
    where
      more : (m n : ℕ) → nat_lt (m + 1) (n + 1) ≡ nat_lt m n
      more m n = go (cases_lt m n)
        where
          go : (m < n) ⊎ (n ≤ m) → nat_lt (m + 1) (n + 1) ≡ nat_lt m n
          go (inl less) = lt-ltb (m + 1) (n + 1) (omega (arith, less)) ∙ sym (lt-ltb m n less)
          go (inr most) = le-ltb (m + 1) (n + 1) (omega (arith, most)) ∙ sym (le-ltb m n most)

  order_same : (s t : Spot) → IsOwnSpot own s → IsOwnSpot own t → spot_comes_before (whole_spot own s) (whole_spot own t) ≡ spot_comes_before s t
  order_same s t s_in t_in =
      ap (λ b. b || (nat_eq (get_or own.actor_numbers s.actor 0) (get_or own.actor_numbers t.actor 0)
      && nat_lt (port_rank (with_number own.port_numbers s.port)) (port_rank (with_number own.port_numbers t.port))))
      (number_lt own.actor_numbers (length actors) (IsActorInCluster clusters cluster) net.own_is.actor_numbers s.actor t.actor s_in.actor t_in.actor)
      ∙ ap (λ b. nat_lt s.actor t.actor || (b && nat_lt (port_rank (with_number own.port_numbers s.port)) (port_rank (with_number own.port_numbers t.port))))
      (number_eq own.actor_numbers (length actors) (IsActorInCluster clusters cluster) net.own_is.actor_numbers s.actor t.actor s_in.actor t_in.actor)
      ∙ ap (λ b. nat_lt s.actor t.actor || (nat_eq s.actor t.actor && b)) (rank_same s.port t.port s_in.port t_in.port)

  -- the first assignment with a property
  module _ (assigned : List Assign) (within : All (λ (a : Assign). IsOwnSpot own (spot_of a)) assigned) where
    own_at : (j : ℕ) (a : Assign) → slice_get assigned j ≡ Some a → IsOwnSpot own (spot_of a)
    own_at j a is = All-contains (λ (x : Assign). IsOwnSpot own (spot_of x)) assigned a within (at_contains assigned j a is)

    first_up : (P Q : Assign → Type 0) → ((a : Assign) → IsOwnSpot own (spot_of a) → P a → Q (whole_assign own a)) → ((a : Assign) → IsOwnSpot own (spot_of a) → Q (whole_assign own a) → P a)
        → (place : ℕ) → IsFirstAssigned assigned P place → IsFirstAssigned (map (whole_assign own) assigned) Q place
    first_up P Q up down place is = record {
      chosen = whole_assign own is.chosen;
      there = slice_get-map (whole_assign own) assigned place ∙ ap (option_map (whole_assign own)) is.there;
      holds = up is.chosen chosen_in is.holds;
      least = λ j b b_is holds. least j b holds (map_at (whole_assign own) assigned j b b_is);
      earliest = λ j b less b_is holds. earliest j b less holds (map_at (whole_assign own) assigned j b b_is);
    }
      where
        chosen_in : IsOwnSpot own (spot_of is.chosen)
        chosen_in = own_at place is.chosen is.there

        least : (j : ℕ) (b : Assign) → Q b → (a : Assign) × (slice_get assigned j ≡ Some a) × (whole_assign own a ≡ b) → spot_comes_before (spot_of b) (whole_spot own (spot_of is.chosen)) ≡ false
        least j b holds a =
            let a_in = own_at j a.0 a.1 in
            subst (λ (x : Assign). spot_comes_before (spot_of x) (whole_spot own (spot_of is.chosen)) ≡ false) a.2
            (order_same (spot_of a.0) (spot_of is.chosen) a_in chosen_in ∙ is.least j a.0 a.1 (down a.0 a_in (subst Q (sym a.2) holds)))

        earliest : (j : ℕ) (b : Assign) → j < place → Q b → (a : Assign) × (slice_get assigned j ≡ Some a) × (whole_assign own a ≡ b) → spot_comes_before (whole_spot own (spot_of is.chosen)) (spot_of b) ≡ true
        earliest j b less holds a =
            let a_in = own_at j a.0 a.1 in
            subst (λ (x : Assign). spot_comes_before (whole_spot own (spot_of is.chosen)) (spot_of x) ≡ true) a.2
            (order_same (spot_of is.chosen) (spot_of a.0) chosen_in a_in ∙ is.earliest j a.0 less a.1 (down a.0 a_in (subst Q (sym a.2) holds)))

  -- counts of the own net and of the whole net
  module _ (counts all : List ℕ) (spread : AreSpread own.actor_numbers (length actors) counts all) (long : length counts ≡ length own.actor_numbers) where
    firing_down : (s : Spot) → IsOwnSpot own s → IsFiringSpot ports all (whole_spot own s) → IsFiringSpot own.ports counts s
    firing_down s s_in is = record {
      fires = subst (λ n. 0 < n) (spread.at s.actor s_in.actor) is.fires;
      own = port_down s.actor s.port s_in.actor s_in.port is.own;
    }

    -- the spot of an own actor or port that fires
    pub firing_within : (s : Spot) → IsFiringSpot own.ports counts s → IsOwnSpot own s
    firing_within s is = record { actor = inside (cases_lt s.actor (length counts)); port = (port_up s.actor s.port is.own).0 }
      where
        inside : (s.actor < length counts) ⊎ (length counts ≤ s.actor) → s.actor < length own.actor_numbers
        inside (inl here) = subst (λ n. s.actor < n) long here
        inside (inr past) = absurd (let f = is.fires in let e = get_or_past counts s.actor 0 past in omega (arith, f, e))

    firing_up : (s : Spot) → IsFiringSpot own.ports counts s → IsFiringSpot ports all (whole_spot own s)
    firing_up s is = record {
      fires = subst (λ n. 0 < n) (sym (spread.at s.actor (firing_within s is).actor)) is.fires;
      own = (port_up s.actor s.port is.own).1;
    }

    -- each spot of the whole net that fires is one of the own net
    firing_found : (t : Spot) → IsFiringSpot ports all t → (s : Spot) × IsOwnSpot own s × (whole_spot own s ≡ t)
    firing_found t is = by_actor (spread_at own.actor_numbers (length actors) counts all spread t.actor is.fires)
      where
        by_actor : (i : ℕ) × (i < length own.actor_numbers) × (get_or own.actor_numbers i 0 ≡ t.actor) → (s : Spot) × IsOwnSpot own s × (whole_spot own s ≡ t)
        by_actor i = by_port (port_found i.0 i.1 t.actor i.2 t.port is.own)
          where
            by_port : (q : Option ℕ) × IsPortWithin (length own.port_numbers) q × (with_number own.port_numbers q ≡ t.port) → (s : Spot) × IsOwnSpot own s × (whole_spot own s ≡ t)
            by_port q = (
              record { actor = i.0; port = q.0 },
              record { actor = i.1; port = q.1 },
              ap (λ (n : ℕ). record { actor = n; port = with_number own.port_numbers q.0 }) i.2 ∙ ap (λ (p : Option ℕ). record { actor = t.actor; port = p }) q.2,
            )

    -- what holds of each own spot that fires holds of each spot of the whole net
    each_spot : (P : Spot → Type 0) → ((s : Spot) → IsOwnSpot own s → IsFiringSpot own.ports counts s → P (whole_spot own s)) → (t : Spot) → IsFiringSpot ports all t → P t
    each_spot P own_has t is = go (firing_found t is)
      where
        go : (s : Spot) × IsOwnSpot own s × (whole_spot own s ≡ t) → P t
        go s = subst P s.2 (own_has s.0 s.1 (firing_down s.0 s.1 (subst (IsFiringSpot ports all) (sym s.2) is)))

    share_same : (s : Spot) → IsOwnSpot own s → share_of ports all (whole_spot own s) ≡ share_of own.ports counts s
    share_same s s_in = ap (λ n. n * rate_at_port ports (with_number own.port_numbers s.port)) (spread.at s.actor s_in.actor) ∙ ap (λ n. get_or counts s.actor 0 * n) (rate_same s.port s_in.port)

    period_same : (a : Assign) → IsOwnSpot own (spot_of a) → period_of ports all (whole_assign own a) ≡ period_of own.ports counts a
    period_same a a_in = ap (λ n. n * a.step) (share_same (spot_of a) a_in)

    pub assigned_down : (a : Assign) → IsOwnSpot own (spot_of a) → IsAssigned ports all (whole_assign own a) → IsAssigned own.ports counts a
    assigned_down a a_in is = record { spot = firing_down (spot_of a) a_in is.spot; some = is.some; short = is.short }

    pub assigned_within : (a : Assign) → IsAssigned own.ports counts a → IsOwnSpot own (spot_of a)
    assigned_within a is = firing_within (spot_of a) is.spot

    module _ (assigned : List Assign) (within : All (λ (a : Assign). IsOwnSpot own (spot_of a)) assigned) where
      agreed_up : (period : ℕ) → AreAgreed own.ports counts assigned period → AreAgreed ports all (map (whole_assign own) assigned) period
      agreed_up period is = record {
        some = subst (λ n. 0 < n) (sym (length-map assigned (whole_assign own))) is.some;
        all = λ b found. go b (contains_at (map (whole_assign own) assigned) b found);
      }
        where
          same : (j : ℕ) (b : Assign) → (a : Assign) × (slice_get assigned j ≡ Some a) × (whole_assign own a ≡ b) → period_of ports all b ≡ period
          same j b a = subst (λ (x : Assign). period_of ports all x ≡ period) a.2
              (period_same a.0 (own_at assigned within j a.0 a.1) ∙ is.all a.0 (at_contains assigned j a.0 a.1))

          go : (b : Assign) → (j : ℕ) × (slice_get (map (whole_assign own) assigned) j ≡ Some b) → period_of ports all b ≡ period
          go b j = same j.0 b (map_at (whole_assign own) assigned j.0 b j.1)

      pub disagreed_up : (a b : ℕ) → IsDisagreed own.ports counts assigned a b → IsDisagreed ports all (map (whole_assign own) assigned) a b
      unfolding first_up
      disagreed_up a b is = record {
        first = first_up assigned within (λ _. Unit {0}) (λ _. Unit {0}) (λ x x_in holds. tt) (λ x x_in holds. tt) a is.first;
        other = first_up assigned within (λ x. period_of own.ports counts x ≢ period_of own.ports counts is.first.chosen)
            (λ x. period_of ports all x ≢ period_of ports all (whole_assign own is.first.chosen))
            (λ x x_in apart e. apart (sym (period_same x x_in) ∙ e ∙ chosen_same))
            (λ x x_in apart e. apart (period_same x x_in ∙ e ∙ sym chosen_same)) b is.other;
      }
        where
          chosen_same : period_of ports all (whole_assign own is.first.chosen) ≡ period_of own.ports counts is.first.chosen
          chosen_same = period_same is.first.chosen (own_at assigned within a is.first.chosen is.first.there)

      pub too_long_up : IsTooLong own.ports counts assigned → IsTooLong ports all (map (whole_assign own) assigned)
      too_long_up is = record { period = is.period; agreed = agreed_up is.period is.agreed; long = is.long }

      pub inexact_up : (s : Spot) → IsInexact own.ports counts assigned s → IsInexact ports all (map (whole_assign own) assigned) (whole_spot own s)
      inexact_up s is = record {
        period = is.period;
        agreed = agreed_up is.period is.agreed;
        short = is.short;
        spot = firing_up s is.spot;
        broken = λ divides. is.broken (subst (λ n. n ∣ is.period) (share_same s s_in) divides);
        first = each_spot (λ t. IsBroken ports all is.period t → spot_comes_before t (whole_spot own s) ≡ false) first;
      }
        where
          s_in : IsOwnSpot own s
          s_in = firing_within s is.spot

          first : (t : Spot) → IsOwnSpot own t → IsFiringSpot own.ports counts t → IsBroken ports all is.period (whole_spot own t) → spot_comes_before (whole_spot own t) (whole_spot own s) ≡ false
          first t t_in t_is broken = order_same t s t_in s_in ∙ is.first t t_is (λ divides. broken (subst (λ n. n ∣ is.period) (sym (share_same t t_in)) divides))

      period_up : (period : ℕ) → IsPeriod own.ports counts assigned period → IsPeriod ports all (map (whole_assign own) assigned) period
      period_up period is = record {
        agreed = agreed_up period is.agreed;
        short = is.short;
        whole = each_spot (λ t. share_of ports all t ∣ period) (λ s s_in s_is. subst (λ n. n ∣ period) (sym (share_same s s_in)) (is.whole s s_is));
      }

      pub steps_up : (steps whole : Steps) → HasSteps own.ports counts assigned steps → AreSpread own.actor_numbers (length actors) steps.actor_steps.items whole.actor_steps.items
          → whole.period ≡ steps.period → HasSteps ports all (map (whole_assign own) assigned) whole
      steps_up steps whole is laid period_is = record {
        is = subst (IsPeriod ports all (map (whole_assign own) assigned)) (sym period_is) (period_up steps.period is.is);
        long = laid.long ∙ sym spread.long;
        firing = λ a some. firing a some (spread_at own.actor_numbers (length actors) counts all spread a some);
        none = λ a nothing. none a nothing (stands_below own.actor_numbers a (length own.actor_numbers));
      }
        where
          firing : (a : ℕ) → 0 < get_or all a 0 → (i : ℕ) × (i < length own.actor_numbers) × (get_or own.actor_numbers i 0 ≡ a)
              → get_or whole.actor_steps.items a 0 * get_or all a 0 ≡ whole.period
          firing a some i = subst (λ n. get_or whole.actor_steps.items n 0 * get_or all n 0 ≡ whole.period) i.2
              (ap (λ n. n * get_or all (get_or own.actor_numbers i.0 0) 0) (laid.at i.0 i.1)
              ∙ ap (λ n. get_or steps.actor_steps.items i.0 0 * n) (spread.at i.0 i.1)
              ∙ is.firing i.0 (subst (λ n. 0 < n) (spread.at i.0 i.1) (subst (λ n. 0 < get_or all n 0) (sym i.2) some))
              ∙ sym period_is)

          none : (a : ℕ) → get_or all a 0 ≡ 0 → ((i : ℕ) × (i < length own.actor_numbers) × (get_or own.actor_numbers i 0 ≡ a)) ⊎ ((i : ℕ) → i < length own.actor_numbers → get_or own.actor_numbers i 0 ≢ a)
              → get_or whole.actor_steps.items a 0 ≡ 0
          none a nothing (inl i) = subst (λ n. get_or whole.actor_steps.items n 0 ≡ 0) i.2
              (laid.at i.0 i.1 ∙ is.none i.0 (sym (spread.at i.0 i.1) ∙ ap (λ n. get_or all n 0) i.2 ∙ nothing))
          none a nothing (inr apart) = laid.elsewhere a apart
