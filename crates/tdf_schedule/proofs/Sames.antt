-- A cluster has one plan.
use Rattle.std.proofs.Common.{◌≡◌, ◌∙◌, ℕ, zero, suc, ◌+◌, ◌<◌, ◌≤◌, ◌⊎◌, inl, inr, false, Some, List, [], ◌∷◌, length, nat_lt, refl, sym, ap, subst, arith}
use Rattle.std.proofs.Math.ListN.{get_or}
use Rattle.std.proofs.lemmas.Bool.{cases_eq, cases_lt, lt-ltb}
use Rattle.std.proofs.lemmas.Option.{slice_get_past, slice_get-get_or}
use Rattle.std.specs.Prelude.{slice_get}
use Rattle.tdf_graph.specs.declared.actors.Edge.{Edge}
use Rattle.tdf_schedule.proofs.Keys.{some_same, none_some}
use Rattle.tdf_schedule.proofs.Orders.{then_tie, less_index, less_actor, less_level}
use Rattle.tdf_schedule.proofs.Presents.{two_places, firing_yes, key_of, inside, few, found}
use Rattle.tdf_schedule.proofs.Works.{true_false}
use Rattle.tdf_schedule.specs.Laws.{StandsBefore}
use Rattle.tdf_schedule.specs.Needs.{HasKey}
use Rattle.tdf_schedule.specs.Plan.{IsPlan, IsBound, is_firing, is_earlier, key_in}
use Rattle.tdf_schedule.specs.declared.entry.Entry.{Entry}

entry_same : (x y : Entry) → x.offset ≡ y.offset → x.level ≡ y.level → x.actor ≡ y.actor → x.index ≡ y.index → x ≡ y
entry_same x y o l a i =
    ap (λ n. record { offset = n; level = x.level; actor = x.actor; index = x.index }) o
    ∙ ap (λ n. record { offset = y.offset; level = n; actor = x.actor; index = x.index }) l
    ∙ ap (λ n. record { offset = y.offset; level = y.level; actor = n; index = x.index }) a
    ∙ ap (λ n. record { offset = y.offset; level = y.level; actor = y.actor; index = n }) i

-- neither is earlier
neither : (x y : Entry) → is_earlier x y ≡ false → is_earlier y x ≡ false → x ≡ y
neither x y a b =
    let o = then_tie (λ (z : Entry). z.offset) less_level x y a b in
    let l = then_tie (λ (z : Entry). z.level) less_actor x y o.1 o.2 in
    let n = then_tie (λ (z : Entry). z.actor) less_index x y l.1 l.2 in
    entry_same x y o.0 l.0 n.0 (go n.1 n.2 (cases_lt x.index y.index) (cases_lt y.index x.index))
  where
    go : nat_lt x.index y.index ≡ false → nat_lt y.index x.index ≡ false → (x.index < y.index) ⊎ (y.index ≤ x.index) → (y.index < x.index) ⊎ (x.index ≤ y.index) → x.index ≡ y.index
    go p q (inl less) second = absurd (true_false (sym (lt-ltb x.index y.index less) ∙ p))
    go p q (inr high) (inl more) = absurd (true_false (sym (lt-ltb y.index x.index more) ∙ q))
    go p q (inr high) (inr low) = omega (arith, high, low)

from_places : {X : Type 0} (xs ys : List X) → ((k : ℕ) → slice_get xs k ≡ slice_get ys k) → xs ≡ ys
from_places [] [] same = refl
from_places [] (y ∷ ys) same = absurd (none_some (same 0))
from_places (x ∷ xs) [] same = absurd (none_some (sym (same 0)))
from_places (x ∷ xs) (y ∷ ys) same = ap (λ z. z ∷ xs) (some_same (same 0)) ∙ ap (λ zs. y ∷ zs) (from_places xs ys (λ k. same (suc k)))

module _ (edges : List Edge) (pace : ℕ → ℕ) (counts : List ℕ) where
  one_entry : (x y : Entry) → HasKey edges pace x.actor x.index (key_in x) → HasKey edges pace y.actor y.index (key_in y) → x.actor ≡ y.actor → x.index ≡ y.index → x ≡ y
  one_entry x y x_key y_key same too = entry_same x y (omega (arith, p1, q1)) (omega (arith, p0, q0)) same too
    where
      moved : HasKey edges pace y.actor y.index (key_in x)
      moved = subst (λ m. HasKey edges pace m y.index (key_in x)) same (subst (λ a. HasKey edges pace x.actor a (key_in x)) too x_key)

      p0 : x.level ≤ y.level
      p0 = (moved.least y.level y.offset y_key.within).0

      p1 : x.offset ≤ y.offset
      p1 = (moved.least y.level y.offset y_key.within).1

      q0 : y.level ≤ x.level
      q0 = (y_key.least x.level x.offset moved.within).0

      q1 : y.offset ≤ x.offset
      q1 = (y_key.least x.level x.offset moved.within).1

  -- an entry of one plan stands in the other one, and not among those that both begin with
  module _ (xs ys : List Entry) (one : IsPlan edges pace counts xs) (other : IsPlan edges pace counts ys) (i : ℕ) (x : Entry) (x_is : slice_get xs i ≡ Some x)
      (before : (k : ℕ) → k < i → slice_get xs k ≡ slice_get ys k) where
    twin : StandsBefore ys (length ys) x.actor x.index
    twin = found edges pace counts ys other x.actor x.index (inside edges pace counts xs one i x x_is)

    late : i ≤ twin.place
    late = go (cases_lt twin.place i)
      where
        go : (twin.place < i) ⊎ (i ≤ twin.place) → i ≤ twin.place
        go (inl less) =
            let two = two_places (is_firing x.actor x.index) xs twin.place i twin.entry x less (before twin.place less ∙ twin.there) x_is (firing_yes x.actor x.index twin.entry twin.actor twin.index) (firing_yes x.actor x.index x refl refl) in
            let most = few edges pace counts xs one x.actor x.index in
            absurd (omega (arith, two, most))
        go (inr high) = high

    pub here_too : i < length ys
    here_too = let l = late in let b = twin.before in omega (arith, l, b)

    twin_is : twin.entry ≡ x
    twin_is = one_entry twin.entry x (key_of edges pace counts ys other twin.place twin.entry twin.there) (key_of edges pace counts xs one i x x_is) twin.actor twin.index

    pub same_or_late : (y : Entry) → slice_get ys i ≡ Some y → (x ≡ y) ⊎ (is_earlier x y ≡ false)
    same_or_late y y_is = go (cases_eq i twin.place)
      where
        go : (i ≡ twin.place) ⊎ (i ≡ twin.place → ⊥) → (x ≡ y) ⊎ (is_earlier x y ≡ false)
        go (inl same) = inl (sym twin_is ∙ some_same (sym twin.there ∙ ap (slice_get ys) (sym same) ∙ y_is))
        go (inr not) = inr (subst (λ (z : Entry). is_earlier z y ≡ false) twin_is (other.sorted i twin.place y twin.entry (let l = late in omega (arith, l, not)) y_is twin.there))

  module _ (xs ys : List Entry) (one : IsPlan edges pace counts xs) (other : IsPlan edges pace counts ys) where
    abbrev none : Entry
    none = record { offset = 0; level = 0; actor = 0; index = 0 }

    same_at : (i : ℕ) → ((k : ℕ) → k < i → slice_get xs k ≡ slice_get ys k) → slice_get xs i ≡ slice_get ys i
    same_at i before = go (cases_lt i (length xs)) (cases_lt i (length ys))
      where
        back : (k : ℕ) → k < i → slice_get ys k ≡ slice_get xs k
        back k less = sym (before k less)

        x_is : i < length xs → slice_get xs i ≡ Some (get_or xs i none)
        x_is here = slice_get-get_or xs i none here

        y_is : i < length ys → slice_get ys i ≡ Some (get_or ys i none)
        y_is here = slice_get-get_or ys i none here

        both : (x y : Entry) → (x ≡ y) ⊎ (is_earlier x y ≡ false) → (y ≡ x) ⊎ (is_earlier y x ≡ false) → x ≡ y
        both x y (inl same) second = same
        both x y (inr a) (inl same) = sym same
        both x y (inr a) (inr b) = neither x y a b

        go : (i < length xs) ⊎ (length xs ≤ i) → (i < length ys) ⊎ (length ys ≤ i) → slice_get xs i ≡ slice_get ys i
        go (inl here) (inl there) =
            x_is here
            ∙ ap Some (both (get_or xs i none) (get_or ys i none)
            (same_or_late xs ys one other i (get_or xs i none) (x_is here) before (get_or ys i none) (y_is there))
            (same_or_late ys xs other one i (get_or ys i none) (y_is there) back (get_or xs i none) (x_is here)))
            ∙ sym (y_is there)
        go (inl here) (inr past) = let h = here_too xs ys one other i (get_or xs i none) (x_is here) before in absurd (omega (arith, h, past))
        go (inr past) (inl there) = let h = here_too ys xs other one i (get_or ys i none) (y_is there) back in absurd (omega (arith, h, past))
        go (inr past) (inr too) = slice_get_past xs i past ∙ sym (slice_get_past ys i too)

    same_to : (i k : ℕ) → k < i → slice_get xs k ≡ slice_get ys k
    same_to zero k less = absurd (omega (arith, less))
    same_to (suc i) k less = go (λ j before. same_to i j before) (cases_lt k i)
      where
        go : ((j : ℕ) → j < i → slice_get xs j ≡ slice_get ys j) → (k < i) ⊎ (i ≤ k) → slice_get xs k ≡ slice_get ys k
        go before (inl sooner) = before k sooner
        go before (inr last) = let e : i ≡ k = omega (arith, last, less) in subst (λ j. slice_get xs j ≡ slice_get ys j) e (same_at i before)

    pub one_plan : xs ≡ ys
    one_plan = from_places xs ys (λ k. same_to (k + 1) k (omega arith))

pub one_bound : (entries : List Entry) (e : Edge) (b c : ℕ) → IsBound entries e b → IsBound entries e c → b ≡ c
one_bound entries e b c one other =
    let p = one.reached in
    let q = other.reached in
    let m = other.most p.0 p.1 in
    let n = one.most q.0 q.1 in
    let x = p.2 in
    let y = q.2 in
    omega (arith, m, n, x, y)
