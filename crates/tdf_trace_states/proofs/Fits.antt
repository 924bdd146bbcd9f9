-- What holds of the first items of a list.
use Rattle.std.proofs.Common.{◌≡◌, ◌≢◌, ◌∙◌, ◌<◌, ◌≤◌, ◌+◌, ◌-◌, ℕ, zero, suc, ℤ, pos, List, [], ◌∷◌, Some, IsSome, option_map, length, map, slice_get, slice_index_or, refl, sym, ap, subst, inl, inr, arith}
use Rattle.std.proofs.lemmas.Bool.{cases_lt}
use Rattle.std.proofs.lemmas.Option.{slice_get_within, same_Some}
use Rattle.tdf_fixed.specs.declared.format.Format.{Format}
use Rattle.tdf_fixed.specs.declared.raw.Raw.{Raw}
use Rattle.tdf_saved.specs.declared.state.Stamp.{Stamp}
use Rattle.tdf_saved.specs.State.{ColumnStateOf}
use Rattle.tdf_trace_states.specs.ColumnStates.{ShowsChanges, number_before, sample_in}
use Rattle.tdf_trace_states.specs.machine.{AreChanges, shown_before}

-- the first n items are so
abbrev pub AreSoTo : {A : Type 0} → (ℕ → A → Type 0) → List A → ℕ → Type 0
AreSoTo P xs n = (k : ℕ) (x : _) → k < n → slice_get xs k ≡ Some x → P k x

pub so_more : {A : Type 0} (P : ℕ → A → Type 0) (xs : List A) (n : ℕ) (x : A) → slice_get xs n ≡ Some x → AreSoTo P xs n → P n x → AreSoTo P xs (n + 1)
so_more P xs n x at before one k y less here = elim (cases_lt k n) [
  | inl below ↦ before k y below here
  | inr past ↦ (let same : n ≡ k = omega (arith, less, past) in
      subst (λ j. P j y) same (subst (P n) (same_Some x y (sym (subst (λ j. slice_get xs j ≡ Some x) same at) ∙ here)) one))
]

pub so_all : {A : Type 0} (P : ℕ → A → Type 0) (xs : List A) (n : ℕ) → length xs ≤ n → AreSoTo P xs n → (k : ℕ) (x : A) → slice_get xs k ≡ Some x → P k x
so_all P xs n past all k x at = all k x (let l = slice_get_within xs k x at in omega (arith, l, past)) at

-- the first n samples are changes, and this is what is shown before the next one
pub record HaveChangedTo (carry : ℤ) (samples : List Stamp) (time n : ℕ) (before : ℤ) : Type 0 where
  pub so : AreSoTo (λ k x. (x.time < time) × (shown_before carry samples k ≢ Some x.num)) samples n
  pub shown : n ≤ length samples → shown_before carry samples n ≡ Some before

pub changed_more : (carry : ℤ) (samples : List Stamp) (time n : ℕ) (before : ℤ) (x : Stamp) → slice_get samples n ≡ Some x → HaveChangedTo carry samples time n before → x.time < time
    → (x.num ≡ before → ⊥) → HaveChangedTo carry samples time (n + 1) x.num
changed_more carry samples time n before x at h low other = record {
  so = so_more _ samples n x at h.so (low, λ e. other (same_Some x.num before (sym e ∙ h.shown (let l = slice_get_within samples n x at in omega (arith, l)))));
  shown = λ more. ap (shown_before carry samples) (let e : n + 1 ≡ suc n = omega arith in e) ∙ ap (option_map (λ (y : Stamp). y.num)) at;
}

abbrev pub no_stamp : Stamp
no_stamp = record { time = 0; num = pos 0 }

-- what is shown before a sample, where there is something before all else
before_same : (s : ColumnStateOf) (carry : ℤ) → s.carry ≡ Some carry → (i : ℕ) → number_before s i ≡ shown_before carry s.samples i
before_same s carry is zero = is
before_same s carry is (suc i) = refl

pub changes_of : (s : ColumnStateOf) (carry : ℤ) (time : ℕ) → s.carry ≡ Some carry → s.later ≡ [] → AreChanges carry s.samples time → ShowsChanges time s
changes_of s carry time is none are = record {
  carry = subst IsSome (sym is) refl;
  later = none;
  below = λ i x at. (are i x at).0;
  other = λ i x at e. (are i x at).1 (sym (before_same s carry is i) ∙ e);
}

pub of_changes : (s : ColumnStateOf) (carry : ℤ) (time : ℕ) → s.carry ≡ Some carry → ShowsChanges time s → AreChanges carry s.samples time
of_changes s carry time is shows i x at = (shows.below i x at, λ e. shows.other i x at (before_same s carry is i ∙ e))

-- samples of a format have few places
pub few_in : (format : Format) (nums : List ℤ) (k : ℕ) (d : Raw) → k < length (map (sample_in format) nums) → (slice_index_or (map (sample_in format) nums) k d).frac ≤ 120
few_in format [] k d less = absurd (omega (arith, less))
few_in format (x ∷ xs) zero d less = let l : format.wl - format.iwl ≤ 63 = format.fraction_bits in omega (arith, l)
few_in format (x ∷ xs) (suc k) d less = few_in format xs k d (omega (arith, less))
