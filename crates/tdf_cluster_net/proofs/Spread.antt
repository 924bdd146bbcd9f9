-- Values that stand at the numbers of some things, and those of the numbers that are below a bound.
use Rattle.std.proofs.Common.{◌≡◌, ◌≢◌, ◌∙◌, ℕ, zero, suc, ◌+◌, ◌<◌, ◌≤◌, List, length, map, take, refl, sym, ap, subst, arith, inl, inr, ◌⊎◌}
use Rattle.std.proofs.Math.ListN.{get_or}
use Rattle.std.proofs.Math.Seq.{take-suc}
use Rattle.std.proofs.lemmas.Bool.{cases_eq, cases_lt}
use Rattle.std.proofs.lemmas.List.{get_or_past, take_all}
use Rattle.std.proofs.lemmas.List.FromFn.{get_or-map-range_with_len, length-map-range_with_len}
use Rattle.std.proofs.lemmas.List.Sums.{sum_by_push}
use Rattle.std.specs.List.{range_with_len}
use Rattle.std.specs.Prelude.{slice_index, sum}
use Rattle.tdf_cluster_net.proofs.Edges.{number_once}
use Rattle.tdf_cluster_net.specs.Numbers.{AreNumbers, AreSpread}
use Rattle.tdf_graph.proofs.Api.{stands_below}

-- a number stands in the list, or not
abbrev pub StandsOrNot : List ℕ → ℕ → Type 0
StandsOrNot numbers m = ((i : ℕ) × (i < length numbers) × (slice_index numbers i ≡ m)) ⊎ ((i : ℕ) → i < length numbers → slice_index numbers i ≢ m)

pub stands_or_not : (numbers : List ℕ) (m : ℕ) → StandsOrNot numbers m
stands_or_not numbers m = stands_below numbers m (length numbers)

abbrev pub IsOnce : List ℕ → Type 0
IsOnce numbers = (i j : ℕ) → i < length numbers → j < length numbers → slice_index numbers i ≡ slice_index numbers j → i ≡ j

-- a function of places as a function of numbers, with another value at all other numbers
abbrev value_by : (f : ℕ → ℕ) (other : ℕ) (numbers : List ℕ) (m : ℕ) → StandsOrNot numbers m → ℕ
value_by f other numbers m (inl found) = f found.0
value_by f other numbers m (inr none) = other

pub extended : List ℕ → (ℕ → ℕ) → ℕ → ℕ → ℕ
extended numbers f other m = value_by f other numbers m (stands_or_not numbers m)

value_there : (numbers : List ℕ) (f : ℕ → ℕ) (other i m : ℕ) → IsOnce numbers → i < length numbers → slice_index numbers i ≡ m
    → (is : StandsOrNot numbers m) → value_by f other numbers m is ≡ f i
value_there numbers f other i m once i_in at (inl found) = ap f (once found.0 i found.1 i_in (found.2 ∙ sym at))
value_there numbers f other i m once i_in at (inr none) = absurd (none i i_in at)

value_elsewhere : (numbers : List ℕ) (f : ℕ → ℕ) (other m : ℕ) → ((i : ℕ) → i < length numbers → slice_index numbers i ≢ m)
    → (is : StandsOrNot numbers m) → value_by f other numbers m is ≡ other
value_elsewhere numbers f other m none (inl found) = absurd (none found.0 found.1 found.2)
value_elsewhere numbers f other m none (inr _) = refl

value_some : (numbers : List ℕ) (f : ℕ → ℕ) (other m : ℕ) → ((i : ℕ) → 0 < f i) → 0 < other → (is : StandsOrNot numbers m) → 0 < value_by f other numbers m is
value_some numbers f other m some other_some (inl found) = some found.0
value_some numbers f other m some other_some (inr none) = other_some

pub extended_at : (numbers : List ℕ) (f : ℕ → ℕ) (other i : ℕ) → IsOnce numbers → i < length numbers → extended numbers f other (slice_index numbers i) ≡ f i
unfolding extended
extended_at numbers f other i once i_in =
    value_there numbers f other i (slice_index numbers i) once i_in refl (stands_or_not numbers (slice_index numbers i))

pub extended_elsewhere : (numbers : List ℕ) (f : ℕ → ℕ) (other m : ℕ) → ((i : ℕ) → i < length numbers → slice_index numbers i ≢ m) → extended numbers f other m ≡ other
unfolding extended
extended_elsewhere numbers f other m none = value_elsewhere numbers f other m none (stands_or_not numbers m)

pub extended_some : (numbers : List ℕ) (f : ℕ → ℕ) (other m : ℕ) → ((i : ℕ) → 0 < f i) → 0 < other → 0 < extended numbers f other m
unfolding extended
extended_some numbers f other m some other_some = value_some numbers f other m some other_some (stands_or_not numbers m)

-- the list that has values at some places
abbrev pub spread : (numbers : List ℕ) (count : ℕ) (values : List ℕ) → List ℕ
spread numbers count values = map (extended numbers (slice_index values) 0) (range_with_len 0 count)

pub are_spread : (numbers : List ℕ) (count : ℕ) (IsMeant : ℕ → Type 0) (values : List ℕ) → AreNumbers count IsMeant numbers
    → AreSpread numbers count values (spread numbers count values)
are_spread numbers count IsMeant values are = record {
  long = length-map-range_with_len (extended numbers (slice_index values) 0) 0 count;
  at = λ i i_in. made (slice_index numbers i) (are.within i i_in) ∙ extended_at numbers (slice_index values) 0 i (number_once numbers count IsMeant are) i_in;
  elsewhere = λ m none. apart m none (cases_lt m count);
}
  where
    made : (m : ℕ) → m < count → slice_index (spread numbers count values) m ≡ extended numbers (slice_index values) 0 m
    made m less = get_or-map-range_with_len (extended numbers (slice_index values) 0) 0 count m m 0 less (omega arith)

    apart : (m : ℕ) → ((i : ℕ) → i < length numbers → slice_index numbers i ≢ m) → (m < count) ⊎ (count ≤ m) → slice_index (spread numbers count values) m ≡ 0
    apart m none (inl less) = made m less ∙ extended_elsewhere numbers (slice_index values) 0 m none
    apart m none (inr past) = get_or_past (spread numbers count values) m 0
        (subst (λ n. n ≤ m) (sym (length-map-range_with_len (extended numbers (slice_index values) 0) 0 count)) past)

-- the first j numbers are those below k
pub record AreBelow (numbers : List ℕ) (j k : ℕ) : Type 0 where
  pub few : j ≤ length numbers
  pub low : (i : ℕ) → i < j → slice_index numbers i < k
  pub high : (i : ℕ) → j ≤ i → i < length numbers → k ≤ slice_index numbers i

abbrev NextBelow : (numbers : List ℕ) (j k : ℕ) → Type 0
NextBelow numbers j k = (AreBelow numbers j (suc k) × ((i : ℕ) → i < length numbers → slice_index numbers i ≢ k))
    ⊎ (AreBelow numbers (suc j) (suc k) × (j < length numbers) × (slice_index numbers j ≡ k))

module _ (numbers : List ℕ) (count : ℕ) (IsMeant : ℕ → Type 0) (are : AreNumbers count IsMeant numbers) where
  none_below : AreBelow numbers 0 0
  none_below = record {
    few = omega arith;
    low = λ i less. absurd (omega (arith, less));
    high = λ i less i_in. omega arith;
  }

  next_past : (j k : ℕ) → AreBelow numbers j k → length numbers ≤ j → NextBelow numbers j k
  next_past j k below past = inl (
    record {
      few = below.few;
      low = λ i less. (let l = below.low i less in omega (arith, l));
      high = λ i less i_in. absurd (omega (arith, less, i_in, past));
    },
    (λ i i_in is. let l = below.low i (omega (arith, i_in, past)) in omega (arith, l, is)),
  )

  next_here : (j k : ℕ) → AreBelow numbers j k → j < length numbers → slice_index numbers j ≡ k → NextBelow numbers j k
  next_here j k below j_in is = inr (
    record {
      few = omega (arith, j_in);
      low = λ i less. low i less (cases_eq i j);
      high = λ i less i_in. (let r = are.rising j i (omega (arith, less)) i_in in omega (arith, r, is));
    },
    j_in,
    is,
  )
    where
      low : (i : ℕ) → i < suc j → (i ≡ j) ⊎ (i ≡ j → ⊥) → slice_index numbers i < suc k
      low i less (inl same) = let e = ap (slice_index numbers) same in omega (arith, e, is)
      low i less (inr apart) = let l = below.low i (omega (arith, less, apart)) in omega (arith, l)

  next_later : (j k : ℕ) → AreBelow numbers j k → j < length numbers → (slice_index numbers j ≡ k → ⊥) → NextBelow numbers j k
  next_later j k below j_in other = inl (
    record {
      few = below.few;
      low = λ i less. (let l = below.low i less in omega (arith, l));
      high = high;
    },
    none,
  )
    where
      at : suc k ≤ slice_index numbers j
      at = let h = below.high j (omega arith) j_in in omega (arith, h, other)

      high : (i : ℕ) → j ≤ i → i < length numbers → suc k ≤ slice_index numbers i
      high i less i_in = go (cases_eq i j)
        where
          go : (i ≡ j) ⊎ (i ≡ j → ⊥) → suc k ≤ slice_index numbers i
          go (inl same) = let e = ap (slice_index numbers) same in omega (arith, e, at)
          go (inr apart) = let r = are.rising j i (omega (arith, less, apart)) i_in in omega (arith, r, at)

      none : (i : ℕ) → i < length numbers → slice_index numbers i ≢ k
      none i i_in is = go (cases_lt i j)
        where
          go : (i < j) ⊎ (j ≤ i) → ⊥
          go (inl less) = let l = below.low i less in omega (arith, l, is)
          go (inr more) = let h = high i more i_in in omega (arith, h, is)

  next_below : (j k : ℕ) → AreBelow numbers j k → NextBelow numbers j k
  next_below j k below = go (cases_lt j (length numbers)) (cases_eq (slice_index numbers j) k)
    where
      go : (j < length numbers) ⊎ (length numbers ≤ j) → (slice_index numbers j ≡ k) ⊎ (slice_index numbers j ≡ k → ⊥) → NextBelow numbers j k
      go (inl j_in) (inl is) = next_here j k below j_in is
      go (inl j_in) (inr other) = next_later j k below j_in other
      go (inr past) other = next_past j k below past

  pub some_below : (k : ℕ) → (j : ℕ) × AreBelow numbers j k
  some_below zero = (0, none_below)
  some_below (suc k) = go (some_below k)
    where
      go : (j : ℕ) × AreBelow numbers j k → (j : ℕ) × AreBelow numbers j (suc k)
      go before = elim (next_below before.0 k before.1) [
        | inl same ↦ (before.0, same.0)
        | inr more ↦ (suc before.0, more.0)
      ]

  -- up to one of the numbers
  pub below_after : (j : ℕ) → j < length numbers → AreBelow numbers (j + 1) (slice_index numbers j + 1)
  below_after j j_in = record {
    few = omega (arith, j_in);
    low = λ i less. low i less (cases_eq i j);
    high = λ i less i_in. (let r = are.rising j i (omega (arith, less)) i_in in omega (arith, r));
  }
    where
      low : (i : ℕ) → i < j + 1 → (i ≡ j) ⊎ (i ≡ j → ⊥) → slice_index numbers i < slice_index numbers j + 1
      low i less (inl same) = let e = ap (slice_index numbers) same in omega (arith, e)
      low i less (inr apart) = let r = are.rising i j (omega (arith, less, apart)) j_in in omega (arith, r)

  -- what is spread has the sum of the values
  module _ (values all : List ℕ) (spread_is : AreSpread numbers count values all) (same : length values ≡ length numbers) where
    abbrev SumsTo : ℕ → Type 0
    SumsTo k = (j : ℕ) × AreBelow numbers j k × (sum (take k all) ≡ sum (take j values))

    sum_next : (xs : List ℕ) (k : ℕ) → k < length xs → sum (take (suc k) xs) ≡ sum (take k xs) + slice_index xs k
    sum_next xs k less = ap sum (take-suc xs k 0 less) ∙ sum_by_push (λ x. x) (take k xs) (get_or xs k 0)

    sums_next : (k : ℕ) → k < count → SumsTo k → SumsTo (suc k)
    sums_next k less before = go (next_below before.0 k before.1)
      where
        more : sum (take (suc k) all) ≡ sum (take before.0 values) + slice_index all k
        more = sum_next all k (subst (λ n. k < n) (sym spread_is.long) less) ∙ ap (λ n. n + slice_index all k) before.2

        both : before.0 < length numbers → slice_index numbers before.0 ≡ k → sum (take (suc k) all) ≡ sum (take (suc before.0) values)
        both j_in is =
            let z = ap (slice_index all) (sym is) ∙ spread_is.at before.0 j_in in
            let n = sum_next values before.0 (subst (λ n. before.0 < n) (sym same) j_in) in
            let m = more in omega (arith, z, n, m)

        go : NextBelow numbers before.0 k → SumsTo (suc k)
        go (inl here) = (before.0, here.0, (let z = spread_is.elsewhere k here.1 in let m = more in omega (arith, z, m)))
        go (inr here) = (suc before.0, here.0, both here.1 here.2)

    sums_to : (k : ℕ) → k ≤ count → SumsTo k
    sums_to zero few = (0, none_below, refl)
    sums_to (suc k) few = sums_next k (omega (arith, few)) (sums_to k (omega (arith, few)))

    pub spread_sum : sum all ≡ sum values
    spread_sum = ap sum (sym (take_all count all (omega (arith, long)))) ∙ last.2 ∙ ap sum (take_all last.0 values (omega (arith, every, same)))
      where
        long : length all ≡ count
        long = spread_is.long

        last : SumsTo count
        last = sums_to count (omega arith)

        every : length numbers ≤ last.0
        every = go (cases_lt last.0 (length numbers))
          where
            go : (last.0 < length numbers) ⊎ (length numbers ≤ last.0) → length numbers ≤ last.0
            go (inl less) = let h = last.1.high last.0 (omega arith) less in let w = are.within last.0 less in omega (arith, h, w)
            go (inr past) = past
