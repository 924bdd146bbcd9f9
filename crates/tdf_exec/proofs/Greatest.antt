-- How much the entries of one offset give at most, entry after entry; and how much is left from a place on.
use Rattle.std.proofs.Common.{◌≡◌, ◌∙◌, ◌≢◌, ℕ, zero, suc, ◌+◌, ◌<◌, ◌≤◌, Bool, if◌then◌else◌, nat_eq, List, [], ◌∷◌, Option, Some, length, take, drop, refl, sym, ap, subst, inl, inr, ◌⊎◌, arith}
use Rattle.std.proofs.Math.Nat.{le-max_left, le-max_right, max-eq_left, max-eq_right}
use Rattle.std.proofs.lemmas.Bool.{cases_eq, cases_lt, eq-eqb, ne_eqb}
use Rattle.std.proofs.lemmas.List.{take_all}
use Rattle.std.proofs.lemmas.List.Sums.{sum_by-cons, sum_by-take-drop, sum_by-take-le, sum_by_more}
use Rattle.std.proofs.lemmas.Option.{get_or_from_slice_get, slice_get_within}
use Rattle.std.specs.List.{count_by, sum_by}
use Rattle.std.specs.Prelude.{max, slice_get}
use Rattle.tdf_convert.specs.Sampled.{AreByOffset}
use Rattle.tdf_exec.proofs.Playing.{due_alike, like_sent, like_traced, sizes_alike}
use Rattle.tdf_exec.specs.Cluster.{ClusterOf}
use Rattle.tdf_exec.specs.Gained.{sent_size, size_due, size_if, traced_size}
use Rattle.tdf_exec.specs.Played.{IsMoved, turns_from}
use Rattle.tdf_exec.specs.Telling.{GivesTooMany, IsMostOf}
use Rattle.tdf_exec.specs.declared.runners.Runner.{Runner}
use Rattle.tdf_exec.specs.declared.telling.Room.{Room}
use Rattle.tdf_exec.specs.declared.telling.Rooms.{Rooms}
use Rattle.tdf_exec.specs.machine.Telling.{AreCounted, AreRooms, IsOver, here_at, room_of, rooms_with, sent_with, traced_with}
use Rattle.tdf_schedule.specs.Plan.{done}
use Rattle.tdf_schedule.specs.declared.entry.Entry.{Entry}

-- what is left from a place on is no more than all
pub due_left : (size : Option Runner → ℕ) (runners : List Runner) (offset place : ℕ) (entries : List Entry)
    → size_due size runners offset (drop place entries) ≤ size_due size runners offset entries
unfolding size_due
due_left size runners offset place entries =
    let both = sum_by-take-drop (size_if size runners offset) entries place in
    omega (arith, both)

-- a cluster that has gone on gives by its entries what it gave by them
pub moved_sent : (c d : ClusterOf) → IsMoved c d → (offset : ℕ) (entries : List Entry) → size_due sent_size d.runners offset entries ≡ size_due sent_size c.runners offset entries
moved_sent c d moved offset entries = due_alike sent_size c.runners d.runners offset entries (sizes_alike sent_size like_sent c.runners d.runners moved.same moved.runners)

pub moved_traced : (c d : ClusterOf) → IsMoved c d → (offset : ℕ) (entries : List Entry) → size_due traced_size d.runners offset entries ≡ size_due traced_size c.runners offset entries
moved_traced c d moved offset entries = due_alike traced_size c.runners d.runners offset entries (sizes_alike traced_size like_traced c.runners d.runners moved.same moved.runners)

-- entries of other offsets give nothing at this one
none_due : (size : Option Runner → ℕ) (runners : List Runner) (o : ℕ) (entries : List Entry) (k : ℕ) → ((j : ℕ) (y : Entry) → j < k → slice_get entries j ≡ Some y → y.offset ≢ o)
    → size_due size runners o (take k entries) ≡ 0
unfolding size_due
none_due size runners o [] zero apart = refl
none_due size runners o [] (suc k) apart = refl
none_due size runners o (y ∷ ys) zero apart = refl
none_due size runners o (y ∷ ys) (suc k) apart =
    let a = sum_by-cons (size_if size runners o) y (take k ys) in
    let b : size_if size runners o y ≡ 0 = ap (λ (t : Bool). if t then size (slice_get runners y.actor) else 0) (ne_eqb _ _ (apart 0 y (omega arith) refl)) in
    let r : sum_by (size_if size runners o) (take k ys) ≡ 0 = none_due size runners o ys k (λ j z below at. apart (suc j) z (omega (arith, below)) at) in
    omega (arith, a, b, r)

module _ (size : Option Runner → ℕ) (runners : List Runner) (entries : List Entry) where
  none_at : (o : ℕ) → size_due size runners o (take 0 entries) ≡ 0
  none_at o = none_due size runners o entries 0 (λ j y below at. absurd (omega (arith, below)))

  pub none_yet : AreCounted size runners entries 0 0 0 0
  none_yet = record {
    here_is = sym (none_at 0);
    most_is = record {
      above = λ o. let n = none_at o in omega (arith, n);
      reached = λ some. absurd (omega (arith, some));
    };
  }

  module _ (i : ℕ) (x : Entry) (at : slice_get entries i ≡ Some x) where
    next_due : (o : ℕ) → size_due size runners o (take (i + 1) entries) ≡ size_due size runners o (take i entries) + size_if size runners o x
    unfolding size_due
    next_due o =
        sum_by_more (size_if size runners o) entries i x (slice_get_within entries i x at)
        ∙ ap (λ (y : Entry). sum_by (size_if size runners o) (take i entries) + size_if size runners o y) (get_or_from_slice_get entries i x x at)

    own_size : (o : ℕ) → x.offset ≡ o → size_if size runners o x ≡ size (slice_get runners x.actor)
    own_size o own = ap (λ (t : Bool). if t then size (slice_get runners x.actor) else 0) (eq-eqb _ _ own)

    other_size : (o : ℕ) → x.offset ≢ o → size_if size runners o x ≡ 0
    other_size o other = ap (λ (t : Bool). if t then size (slice_get runners x.actor) else 0) (ne_eqb _ _ other)

    module _ (pr : Room → ℕ) (empty : pr (room_of 0 0) ≡ 0) (rooms : Rooms) (most : ℕ)
        (upto : (j : ℕ) (y : Entry) → j < i → slice_get entries j ≡ Some y → y.offset ≤ rooms.offset)
        (from : (j : ℕ) (y : Entry) → i ≤ j → slice_get entries j ≡ Some y → rooms.offset ≤ y.offset)
        (are : AreCounted size runners entries i rooms.offset (pr rooms.here) most) where
      before_is : pr (here_at rooms x.offset) ≡ size_due size runners x.offset (take i entries)
      before_is = elim (cases_eq rooms.offset x.offset) [
        | inl same ↦ ap (λ (t : Bool). pr (if t then rooms.here else room_of 0 0)) (eq-eqb _ _ same) ∙ are.here_is ∙ ap (λ o. size_due size runners o (take i entries)) same
        | inr apart ↦ ap (λ (t : Bool). pr (if t then rooms.here else room_of 0 0)) (ne_eqb _ _ apart) ∙ empty
            ∙ sym (none_due size runners x.offset entries i (λ j y below there is.
            let u = upto j y below there in
            let f = from i x (omega arith) at in
            apart (let e : rooms.offset ≡ x.offset = omega (arith, u, f, is) in e)))
      ]

      pub here_next : pr (here_at rooms x.offset) + size (slice_get runners x.actor) ≡ size_due size runners x.offset (take (i + 1) entries)
      here_next =
          let b = before_is in
          let n = next_due x.offset in
          let o = own_size x.offset refl in
          omega (arith, b, n, o)

      abbrev now : ℕ
      now = pr (here_at rooms x.offset) + size (slice_get runners x.actor)

      next_above : (o : ℕ) → (x.offset ≡ o) ⊎ (x.offset ≢ o) → size_due size runners o (take (i + 1) entries) ≤ max most now
      next_above o (inl own) =
          let h : now ≡ size_due size runners o (take (i + 1) entries) = here_next ∙ ap (λ k. size_due size runners k (take (i + 1) entries)) own in
          let m = le-max_right most now in
          omega (arith, h, m)
      next_above o (inr other) =
          let n = next_due o in
          let z = other_size o other in
          let a = are.most_is.above o in
          let m = le-max_left most now in
          omega (arith, n, z, a, m)

      next_reached : 0 < max most now → (most ≤ now) ⊎ (now < most) → (o : ℕ) × (size_due size runners o (take (i + 1) entries) ≡ max most now)
      next_reached some (inl up) = (x.offset, sym here_next ∙ sym (max-eq_right up))
      next_reached some (inr down) =
          let old : max most now ≡ most = max-eq_left (let d : now ≤ most = omega (arith, down) in d) in
          let r = are.most_is.reached (let m : 0 < most = omega (arith, down) in m) in (
            r.0,
            elim (cases_eq x.offset r.0) [
              | inl own ↦ (let h : now ≡ size_due size runners r.0 (take (i + 1) entries) = here_next ∙ ap (λ k. size_due size runners k (take (i + 1) entries)) own in
                  let n = next_due r.0 in let e = r.1 in absurd (omega (arith, h, n, e, down)))
              | inr other ↦ (let n = next_due r.0 in let z = other_size r.0 other in let e = r.1 in omega (arith, n, z, e, old))
            ],
          )

      by_order : (most ≤ now) ⊎ (now < most)
      by_order = elim (cases_lt now most) [
        | inl down ↦ inr down
        | inr up ↦ inl up
      ]

      pub counted_next : AreCounted size runners entries (i + 1) x.offset now (max most now)
      counted_next = record {
        here_is = here_next;
        most_is = record {
          above = λ o. next_above o (cases_eq x.offset o);
          reached = λ some. next_reached some by_order;
        };
      }

      -- and no more than all entries of the offset give
      pub here_within : now ≤ size_due size runners x.offset entries
      unfolding size_due
      here_within =
          let h = here_next in
          let t = sum_by-take-le (size_if size runners x.offset) entries (i + 1) in
          omega (arith, h, t)

-- the entries of an actor, as it is activated along the plan
pub all_turns : (entries : List Entry) (m : ℕ) → count_by (λ (x : Entry). nat_eq x.actor m) entries ≡ turns_from entries 0 (length entries) m
unfolding done
all_turns entries m =
    let l = ap (count_by (λ (x : Entry). nat_eq x.actor m)) (take_all (length entries) entries (omega arith)) in
    let n : count_by (λ (x : Entry). nat_eq x.actor m) (take 0 entries) ≡ 0 = refl in
    omega (arith, l, n)

pub rooms_none : (runners : List Runner) (entries : List Entry) → AreRooms runners entries 0 (record { offset = 0; here = room_of 0 0; most = room_of 0 0 })
rooms_none runners entries = record {
  upto = λ j x below at. absurd (omega (arith, below));
  from = λ j x past at. omega arith;
  sent = none_yet sent_size runners entries;
  traced = none_yet traced_size runners entries;
}

module _ (runners : List Runner) (entries : List Entry) (sorted : AreByOffset entries) (i : ℕ) (x : Entry) (at : slice_get entries i ≡ Some x) (rooms : Rooms)
    (are : AreRooms runners entries i rooms) where
  in_order : (j k : ℕ) (y z : Entry) → j ≤ k → slice_get entries j ≡ Some y → slice_get entries k ≡ Some z → y.offset ≤ z.offset
  in_order j k y z up here there =
      let s = sorted j k x up (slice_get_within entries k z there) in
      let a = ap (λ (e : Entry). e.offset) (get_or_from_slice_get entries j y x here) in
      let b = ap (λ (e : Entry). e.offset) (get_or_from_slice_get entries k z x there) in
      omega (arith, s, a, b)

  pub rooms_next : AreRooms runners entries (i + 1) (rooms_with runners x rooms)
  rooms_next = record {
    upto = λ j y below there. in_order j i y x (omega (arith, below)) there at;
    from = λ j y past there. in_order i j x y (omega (arith, past)) at there;
    sent = counted_next sent_size runners entries i x at (λ (r : Room). r.sent) refl rooms rooms.most.sent are.upto are.from are.sent;
    traced = counted_next traced_size runners entries i x at (λ (r : Room). r.traced) refl rooms rooms.most.traced are.upto are.from are.traced;
  }

  pub too_many : IsOver (sent_with runners x rooms) (traced_with runners x rooms) → GivesTooMany runners entries
  too_many (IsOver.Sent over) =
      let h = here_within sent_size runners entries i x at (λ (r : Room). r.sent) refl rooms rooms.most.sent are.upto are.from are.sent in
      GivesTooMany.Sent x.offset (omega (arith, over, h))
  too_many (IsOver.Traced over) =
      let h = here_within traced_size runners entries i x at (λ (r : Room). r.traced) refl rooms rooms.most.traced are.upto are.from are.traced in
      GivesTooMany.Traced x.offset (omega (arith, over, h))

-- once all entries are looked at
pub all_most : (size : Option Runner → ℕ) (runners : List Runner) (entries : List Entry) (i most : ℕ) → length entries ≤ i → IsMostOf size runners (take i entries) most
    → IsMostOf size runners entries most
all_most size runners entries i most all is = subst (λ l. IsMostOf size runners l most) (take_all i entries all) is
