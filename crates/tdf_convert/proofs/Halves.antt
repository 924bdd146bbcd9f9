-- What halving finds in a sorted list, and what one of its elements tells.
use Rattle.std.proofs.Common.{◌≡◌, ℕ, ◌-◌, ◌<◌, ◌≤◌, Bool, true, false, List, Some, length, ap, get_or, subst, arith, leb, ltb}
use Rattle.std.proofs.lemmas.Bool.Decides.{nat_tests}
use Rattle.std.proofs.lemmas.Option.{get_or_from_slice_get, slice_get_within}
use Rattle.std.specs.List.Sorted.{IsPartitionPoint}
use Rattle.std.specs.Prelude.{slice_get}
use Rattle.tdf_convert.specs.Sampled.{AreByOffset}
use Rattle.tdf_schedule.specs.declared.entry.Entry.{Entry}

module _ {A : Type 0} (p : A → Bool) (xs : List A) (i : ℕ) (point : IsPartitionPoint (λ y. p y ≡ true) (λ y. p y ≡ false) xs i) where
  passed : (j : ℕ) (x : A) → j < i → slice_get xs j ≡ Some x → p x ≡ true
  passed j x below at = subst (λ y. p y ≡ true) (get_or_from_slice_get xs j x x at) (point.0 j x (omega arith) below)

  failed : (j : ℕ) (x : A) → i ≤ j → slice_get xs j ≡ Some x → p x ≡ false
  failed j x past at = subst (λ y. p y ≡ false) (get_or_from_slice_get xs j x x at) (point.1 j x past (slice_get_within xs j x at))

module _ {A : Type 0} (key : A → ℕ) (n : ℕ) (xs : List A) (i : ℕ) where
  pub below : IsPartitionPoint (λ y. ltb (key y) n ≡ true) (λ y. ltb (key y) n ≡ false) xs i → (j : ℕ) (x : A) → j < i → slice_get xs j ≡ Some x → key x < n
  below point j x small at = let h = passed (λ y. ltb (key y) n) xs i point j x small at in grind (arith, nat_tests, h)

  pub reached : IsPartitionPoint (λ y. ltb (key y) n ≡ true) (λ y. ltb (key y) n ≡ false) xs i → (j : ℕ) (x : A) → i ≤ j → slice_get xs j ≡ Some x → n ≤ key x
  reached point j x past at = let h = failed (λ y. ltb (key y) n) xs i point j x past at in grind (arith, nat_tests, h)

  pub upto : IsPartitionPoint (λ y. leb (key y) n ≡ true) (λ y. leb (key y) n ≡ false) xs i → (j : ℕ) (x : A) → j < i → slice_get xs j ≡ Some x → key x ≤ n
  upto point j x small at = let h = passed (λ y. leb (key y) n) xs i point j x small at in grind (arith, nat_tests, h)

  pub beyond : IsPartitionPoint (λ y. leb (key y) n ≡ true) (λ y. leb (key y) n ≡ false) xs i → (j : ℕ) (x : A) → i ≤ j → slice_get xs j ≡ Some x → n < key x
  beyond point j x past at = let h = failed (λ y. leb (key y) n) xs i point j x past at in grind (arith, nat_tests, h)

-- what goes by offset is below one where its last entry is, and not where its first is not
pub all_below : (entries : List Entry) (place offset : ℕ) (d : Entry) → AreByOffset entries → 0 < place → place ≤ length entries → (get_or entries (place - 1) d).offset < offset
    → (j : ℕ) (x : Entry) → j < place → slice_get entries j ≡ Some x → x.offset < offset
all_below entries place offset d sorted some within last j x small at =
    let most = sorted j (place - 1) d (omega (arith, small)) (omega (arith, some, within)) in
    let here : (get_or entries j d).offset ≡ x.offset = ap (λ (y : Entry). y.offset) (get_or_from_slice_get entries j x d at) in
    omega (arith, most, here, last)

pub all_from : (entries : List Entry) (place offset : ℕ) (d : Entry) → AreByOffset entries → offset ≤ (get_or entries place d).offset
    → (j : ℕ) (x : Entry) → place ≤ j → slice_get entries j ≡ Some x → offset ≤ x.offset
all_from entries place offset d sorted first j x past at =
    let least = sorted place j d past (slice_get_within entries j x at) in
    let here : (get_or entries j d).offset ≡ x.offset = ap (λ (y : Entry). y.offset) (get_or_from_slice_get entries j x d at) in
    omega (arith, least, here, first)
