-- Numbers at rising times as those that a range of times finds.
use Rattle.std.proofs.Common.{◌≡◌, ◌∙◌, ◌<◌, ◌≤◌, ◌+◌, ℕ, zero, suc, Option, Some, None, List, [], ◌∷◌, ◌++◌, drop, length, map, slice_get, refl, ap, sym, subst, inl, inr, arith}
use Rattle.std.proofs.lemmas.Bool.{cases_eq, eq-eqb, ne_eqb}
use Rattle.std.specs.List.{flat_map, range_with_len}
use Rattle.std.specs.Prelude.{ℤ}
use Rattle.tdf_fixed.specs.declared.raw.Raw.{Raw}
use Rattle.tdf_saved.specs.declared.state.Stamp.{Stamp}
use Rattle.tdf_sim_resumed.specs.Snapshot.{number_of_sample}
use Rattle.tdf_streams.proofs.Api.{none_some, some_same}
use Rattle.tdf_trace.proofs.Api.{number_apart}
use Rattle.tdf_trace_states.specs.ColumnStates.{DoRise, number_at}

-- ---- lists over a range

pub flat_same : {A : Type 0} (f g : ℕ → List A) (from count : ℕ) → ((t : ℕ) → from ≤ t → t < from + count → f t ≡ g t) → flat_map f (range_with_len from count) ≡ flat_map g (range_with_len from count)
flat_same f g from zero same = refl
flat_same f g from (suc n) same =
    ap (λ l. l ++ flat_map f (range_with_len (from + 1) n)) (same from (omega arith) (omega arith))
    ∙ ap (λ l. g from ++ l) (flat_same f g (from + 1) n (λ t low high. same t (omega (arith, low)) (omega (arith, high))))

pub flat_none : {A : Type 0} (f : ℕ → List A) (from count : ℕ) → ((t : ℕ) → from ≤ t → f t ≡ []) → flat_map f (range_with_len from count) ≡ []
flat_none f from zero none = refl
flat_none f from (suc n) none =
    ap (λ l. l ++ flat_map f (range_with_len (from + 1) n)) (none from (omega arith))
    ∙ flat_none f (from + 1) n (λ t low. none t (omega (arith, low)))

-- the numbers of samples that a function gives from a place on
pub numbers_are : (xs : List Raw) (g : ℕ → Option Raw) (a : ℕ) → ((i : ℕ) (v : Raw) → slice_get xs i ≡ Some v → g (a + i) ≡ Some v)
    → map (λ (v : Raw). v.num) xs ≡ flat_map (λ j. number_of_sample (g j)) (range_with_len a (length xs))
numbers_are [] g a gives = refl
numbers_are (x ∷ xs) g a gives =
    let z : a + 0 ≡ a = omega arith in
    let first : g a ≡ Some x = sym (ap g z) ∙ gives 0 x refl in
    ap (λ l. x.num ∷ l) (numbers_are xs g (a + 1) (λ i v at. let e : a + 1 + i ≡ a + suc i = omega arith in ap g e ∙ gives (suc i) v at))
    ∙ ap (λ o. number_of_sample o ++ flat_map (λ j. number_of_sample (g j)) (range_with_len (a + 1) (length xs))) (sym first)

pub get_drop : {A : Type 0} (n : ℕ) (xs : List A) (j : ℕ) → slice_get (drop n xs) j ≡ slice_get xs (n + j)
get_drop zero xs j = let z : 0 + j ≡ j = omega arith in ap (slice_get xs) (sym z)
get_drop (suc n) [] j = refl
get_drop (suc n) (x ∷ xs) j = let z : suc n + j ≡ suc (n + j) = omega arith in get_drop n xs j ∙ ap (slice_get (x ∷ xs)) (sym z)

-- ---- numbers at rising times

abbrev pub found : (time : ℕ) → Option ℤ → List Stamp
found time None = []
found time (Some num) = record { time = time; num = num } ∷ []

pub tail : (x : Stamp) (xs : List Stamp) → DoRise (x ∷ xs) → DoRise xs
tail x xs rise i y z at next = let e : suc i + 1 ≡ suc (i + 1) = omega arith in rise (suc i) y z at (subst (λ n. slice_get (x ∷ xs) n ≡ Some z) (sym e) next)

-- each is later than the first
pub above : (xs : List Stamp) (x : Stamp) → DoRise (x ∷ xs) → (i : ℕ) (y : Stamp) → slice_get xs i ≡ Some y → x.time < y.time
above [] x rise i y at = absurd (none_some y at)
above (z ∷ zs) x rise zero y at = rise 0 x y refl at
above (z ∷ zs) x rise (suc i) y at = let a = rise 0 x z refl refl in let b = above zs z (tail x (z ∷ zs) rise) i y at in omega (arith, a, b)

pub number_there : (xs : List Stamp) → DoRise xs → (i : ℕ) (x : Stamp) → slice_get xs i ≡ Some x → number_at xs x.time ≡ Some x.num
unfolding number_at
number_there [] rise i x at = absurd (none_some x at)
number_there (y ∷ ys) rise zero x at = let e : y ≡ x = some_same y x at in rw (eq-eqb y.time x.time (ap (λ (z : Stamp). z.time) e)) (ap (λ (z : Stamp). Some z.num) e)
number_there (y ∷ ys) rise (suc i) x at = let l = above ys y rise i x at in
    rw (ne_eqb y.time x.time (λ e. absurd (omega (arith, e, l)))) (number_there ys (tail y ys rise) i x at)

-- the number of a time other than the first
other_time : (x : Stamp) (xs : List Stamp) (t : ℕ) → (x.time ≡ t → ⊥) → number_at (x ∷ xs) t ≡ number_at xs t
unfolding number_at
other_time x xs t apart = rw (ne_eqb x.time t apart) refl

first_time : (x : Stamp) (xs : List Stamp) (t : ℕ) → x.time ≡ t → number_at (x ∷ xs) t ≡ Some x.num
unfolding number_at
first_time x xs t same = rw (eq-eqb x.time t same) refl

none_at : (t : ℕ) → number_at [] t ≡ None
unfolding number_at
none_at t = refl

all_later : (from : ℕ) (x : Stamp) (xs : List Stamp) → DoRise (x ∷ xs) → from ≤ x.time → (x.time ≡ from → ⊥) → (i : ℕ) (y : Stamp) → slice_get (x ∷ xs) i ≡ Some y → from + 1 ≤ y.time
all_later from x xs rise low apart zero y at = let e : x.time ≡ y.time = ap (λ (z : Stamp). z.time) (some_same x y at) in omega (arith, e, low, apart)
all_later from x xs rise low apart (suc i) y at = let a = above xs x rise i y at in omega (arith, a, low)

pub rising_is : (count from : ℕ) (xs : List Stamp) → DoRise xs → ((i : ℕ) (x : Stamp) → slice_get xs i ≡ Some x → (from ≤ x.time) × (x.time < from + count))
    → xs ≡ flat_map (λ t. found t (number_at xs t)) (range_with_len from count)
rising_is zero from [] rise inside = refl
rising_is zero from (x ∷ xs) rise inside = absurd (let w = inside 0 x refl in let a = w.0 in let b = w.1 in omega (arith, a, b))
rising_is (suc n) from [] rise inside = sym (flat_none (λ t. found t (number_at [] t)) from (suc n) (λ t low. ap (found t) (none_at t)))
rising_is (suc n) from (x ∷ xs) rise inside = elim (cases_eq x.time from) [
  | inl here ↦ (
      let rest : xs ≡ flat_map (λ t. found t (number_at xs t)) (range_with_len (from + 1) n) = rising_is n (from + 1) xs (tail x xs rise)
      (λ i y at. (let a = above xs x rise i y at in omega (arith, a, here), let b = (inside (suc i) y at).1 in omega (arith, b))) in
      let same : flat_map (λ t. found t (number_at xs t)) (range_with_len (from + 1) n) ≡ flat_map (λ t. found t (number_at (x ∷ xs) t)) (range_with_len (from + 1) n) =
      flat_same (λ t. found t (number_at xs t)) (λ t. found t (number_at (x ∷ xs) t)) (from + 1) n (λ t low high. ap (found t) (sym (other_time x xs t (λ e. absurd (omega (arith, e, here, low)))))) in
      let first : x ∷ [] ≡ found from (number_at (x ∷ xs) from) = ap (λ t. record { time = t; num = x.num } ∷ []) here ∙ ap (found from) (sym (first_time x xs from here)) in
      ap (λ l. x ∷ l) (rest ∙ same) ∙ ap (λ l. l ++ flat_map (λ t. found t (number_at (x ∷ xs) t)) (range_with_len (from + 1) n)) first)
  | inr apart ↦ (
      let later : (i : ℕ) (y : Stamp) → slice_get (x ∷ xs) i ≡ Some y → from + 1 ≤ y.time = all_later from x xs rise (inside 0 x refl).0 apart in
      let none : [] ≡ found from (number_at (x ∷ xs) from) = ap (found from) (sym (number_apart from (x ∷ xs) (λ i y at e. absurd (let l = later i y at in omega (arith, e, l))))) in
      rising_is n (from + 1) (x ∷ xs) rise (λ i y at. (later i y at, let b = (inside i y at).1 in omega (arith, b)))
      ∙ ap (λ l. l ++ flat_map (λ t. found t (number_at (x ∷ xs) t)) (range_with_len (from + 1) n)) none)
]
