-- Entries in order.
use Rattle.std.proofs.Common.{◌≡◌, ◌∙◌, ℕ, ◌+◌, ◌<◌, ◌≤◌, ◌⊎◌, inl, inr, Bool, true, false, ◌&&◌, ◌||◌, Some, List, length, nat_lt, nat_eq, refl, sym, ap, subst, arith, is_lt, nat_cmp, IsPermutation}
use Rattle.std.proofs.Math.ListN.{get_or}
use Rattle.std.proofs.lemmas.Bool.{cases_lt, lt-ltb, le-ltb, eq-eqb, ne_eqb}
use Rattle.std.proofs.lemmas.Bool.Decides.{nat_tests}
use Rattle.std.proofs.lemmas.Grind.{common_steps}
use Rattle.std.proofs.lemmas.List.Sorted.{sorted_far, sum_by-IsPermutation, All-permutation}
use Rattle.std.proofs.lemmas.Option.{slice_get_within, get_or_from_slice_get}
use Rattle.std.specs.List.Sorted.{IsSortedBy}
use Rattle.std.specs.Cmp.{IsStrictWeakOrder}
use Rattle.std.proofs.lemmas.List.MinMax.{IsStrictWeakOrder-by_number}
use Rattle.std.specs.Ordering.{ordering_then}
use Rattle.std.specs.Prelude.{slice_get}
use Rattle.tdf_schedule.proofs.Works.{true_false}
use Rattle.tdf_schedule.specs.Plan.{is_earlier, key_in}
use Rattle.tdf_schedule.specs.declared.entry.Entry.{Entry}
use Rattle.tdf_schedule.specs.declared.key.Key.{Key}
use Rattle.tdf_schedule.specs.views.Entries.{AreSorted, IsCounted, IsComplete, HasOwnKeys, one_if}
use Rattle.tdf_schedule.specs.views.Table.{row_at}

-- by a number, and where that is the same by another order
module _ {X : Type 0} (f : X → ℕ) (lt : X → X → Bool) where
  abbrev pub first_then : X → X → Bool
  first_then x y = nat_lt (f x) (f y) || (nat_eq (f x) (f y) && lt x y)

  then_less : (x y : X) → f x < f y → first_then x y ≡ true
  then_less x y less = rw (lt-ltb (f x) (f y) less) refl

  then_more : (x y : X) → f y < f x → first_then x y ≡ false
  then_more x y more = rw (le-ltb (f x) (f y) (omega (arith, more)), ne_eqb (f x) (f y) (λ e. omega (arith, more, e))) refl

  then_same : (x y : X) → f x ≡ f y → first_then x y ≡ lt x y
  then_same x y same = rw (le-ltb (f x) (f y) (omega (arith, same)), eq-eqb (f x) (f y) same) refl

  data_order : (x y : X) → (f x < f y) ⊎ ((f x ≡ f y) ⊎ (f y < f x))
  data_order x y = go (cases_lt (f x) (f y)) (cases_lt (f y) (f x))
    where
      go : (f x < f y) ⊎ (f y ≤ f x) → (f y < f x) ⊎ (f x ≤ f y) → (f x < f y) ⊎ ((f x ≡ f y) ⊎ (f y < f x))
      go (inl less) other = inl less
      go (inr high) (inl more) = inr (inr more)
      go (inr high) (inr low) = inr (inl (omega (arith, high, low)))

  pub then_tie : (x y : X) → first_then x y ≡ false → first_then y x ≡ false → (f x ≡ f y) × (lt x y ≡ false) × (lt y x ≡ false)
  then_tie x y a b = go (data_order x y)
    where
      go : (f x < f y) ⊎ ((f x ≡ f y) ⊎ (f y < f x)) → (f x ≡ f y) × (lt x y ≡ false) × (lt y x ≡ false)
      go (inl less) = absurd (true_false (sym (then_less x y less) ∙ a))
      go (inr (inl same)) = (same, sym (then_same x y same) ∙ a, sym (then_same y x (sym same)) ∙ b)
      go (inr (inr more)) = absurd (true_false (sym (then_less y x more) ∙ b))

  pub then_order : IsStrictWeakOrder lt → IsStrictWeakOrder first_then
  then_order o = record { one_way = λ x y h. one_way x y h (data_order x y); chain = λ x y z a b. chain x y z a b (data_order x y) (data_order y z) }
    where
      one_way : (x y : X) → first_then x y ≡ true → (f x < f y) ⊎ ((f x ≡ f y) ⊎ (f y < f x)) → first_then y x ≡ false
      one_way x y h (inl less) = then_more y x less
      one_way x y h (inr (inl same)) = then_same y x (sym same) ∙ o.one_way x y (sym (then_same x y same) ∙ h)
      one_way x y h (inr (inr more)) = absurd (true_false (sym h ∙ then_more x y more))

      chain : (x y z : X) → first_then x y ≡ false → first_then y z ≡ false → (f x < f y) ⊎ ((f x ≡ f y) ⊎ (f y < f x)) → (f y < f z) ⊎ ((f y ≡ f z) ⊎ (f z < f y)) → first_then x z ≡ false
      chain x y z a b (inl less) q = absurd (true_false (sym (then_less x y less) ∙ a))
      chain x y z a b (inr p) (inl less) = absurd (true_false (sym (then_less y z less) ∙ b))
      chain x y z a b (inr (inl same)) (inr (inl same2)) =
          then_same x z (same ∙ same2) ∙ o.chain x y z (sym (then_same x y same) ∙ a) (sym (then_same y z same2) ∙ b)
      chain x y z a b (inr (inl same)) (inr (inr more)) = then_more x z (omega (arith, same, more))
      chain x y z a b (inr (inr more)) (inr (inl same)) = then_more x z (omega (arith, same, more))
      chain x y z a b (inr (inr more)) (inr (inr more2)) = then_more x z (omega (arith, more, more2))

abbrev pub less_index : Entry → Entry → Bool
less_index x y = nat_lt x.index y.index

abbrev pub less_actor : Entry → Entry → Bool
less_actor = first_then (λ (x : Entry). x.actor) less_index

abbrev pub less_level : Entry → Entry → Bool
less_level = first_then (λ (x : Entry). x.level) less_actor

by_index : IsStrictWeakOrder (λ (x y : Entry). nat_lt x.index y.index)
by_index = IsStrictWeakOrder-by_number (λ (x : Entry). x.index)

pub earlier_order : IsStrictWeakOrder is_earlier
earlier_order = then_order (λ (x : Entry). x.offset) _ (then_order (λ (x : Entry). x.level) _ (then_order (λ (x : Entry). x.actor) _ by_index))

abbrev pub compared : Entry → Entry → Bool
compared x y = is_lt (ordering_then (nat_cmp x.offset y.offset) (ordering_then (nat_cmp x.level y.level) (ordering_then (nat_cmp x.actor y.actor) (nat_cmp x.index y.index))))

compared_is : (x y : Entry) → compared x y ≡ is_earlier x y
compared_is x y = grind (arith, nat_tests, common_steps)

pub sorted_all : (entries : List Entry) → IsSortedBy compared entries → AreSorted entries
sorted_all entries up i j x y less x_is y_is =
    subst (λ (z : Entry). is_earlier y z ≡ false) (get_or_from_slice_get entries i x x x_is)
    (subst (λ (z : Entry). is_earlier z (get_or entries i x) ≡ false) (get_or_from_slice_get entries j y x y_is)
    (sorted_far is_earlier earlier_order entries (λ k d low high. sym (compared_is (get_or entries (k + 1) d) (get_or entries k d)) ∙ up k d low high) i j x (omega (arith, less)) (slice_get_within entries j y y_is)))

-- what is counted actor by actor, after the last one
pub counted_all : (table : List (List Key)) (m : ℕ) (xs : List Entry) → length table ≡ m → IsCounted table m 0 xs → IsComplete table xs
counted_all table m xs all counted k b = counted k b ∙ ap one_if (ap (λ t. nat_lt k m && nat_lt b (length (row_at table k)) || nat_eq k m && t) (le-ltb b 0 (omega arith)) ∙ tests (nat_lt k m && nat_lt b (length (row_at table k))) (nat_eq k m) ∙ ap (λ n. nat_lt k n && nat_lt b (length (row_at table k))) (sym all))
  where
    tests : (x y : Bool) → (x || y && false) ≡ x
    tests true y = refl
    tests false true = refl
    tests false false = refl

-- the same firings in another order
pub complete_all : (table : List (List Key)) (xs ys : List Entry) → IsComplete table xs → IsPermutation xs ys → IsComplete table ys
complete_all table xs ys complete moved k b = sum_by-IsPermutation _ xs ys moved ∙ complete k b

pub keys_all : (table : List (List Key)) (xs ys : List Entry) → HasOwnKeys table xs → IsPermutation xs ys → HasOwnKeys table ys
keys_all table xs ys keys moved = All-permutation (λ (x : Entry). slice_get (row_at table x.actor) x.index ≡ Some (key_in x)) xs ys moved keys
