-- What the parts of the test look at.
-- Source: own.
use Rattle.std.specs.Prelude.{◌≡◌, ◌≢◌, ◌+◌, ◌<◌, ◌≤◌, ℕ, ℤ, zero, suc, Bool, true, false, Option, Some, option_map, List, [], ◌∷◌, min, nat_lt, slice_get}
use Rattle.tdf_fixed.specs.declared.format.Format.{Format}
use Rattle.tdf_saved.specs.declared.state.Stamp.{Stamp}
use Rattle.tdf_trace_states.specs.ColumnStates.{IsInFormat}
use Rattle.tdf_trace_states.specs.Windows.{position_in}
use Rattle.tdf_trace_states.specs.declared.windows.Window.{Window}

abbrev pub AreInFormat : Format → List ℤ → Type 0
AreInFormat format nums = (i : ℕ) (num : ℤ) → slice_get nums i ≡ Some num → IsInFormat format num

abbrev pub AreStampsInFormat : Format → List Stamp → Type 0
AreStampsInFormat format samples =
    (i : ℕ) (x : Stamp) → slice_get samples i ≡ Some x → IsInFormat format x.num

-- what is shown before sample i
abbrev pub shown_before : (carry : ℤ) → List Stamp → (i : ℕ) → Option ℤ
shown_before carry samples zero = Some carry
shown_before carry samples (suc i) = option_map (λ (x : Stamp). x.num) (slice_get samples i)

abbrev pub AreChanges : (carry : ℤ) → List Stamp → (time : ℕ) → Type 0
AreChanges carry samples time = (i : ℕ) (x : Stamp) → slice_get samples i ≡ Some x
    → (x.time < time) × (shown_before carry samples i ≢ Some x.num)

-- one of two, as a test says
abbrev pub Chosen : Bool → (One Other : Type 0) → Type 0
Chosen true One Other = One
Chosen false One Other = Other

-- each sample in the period stands at the next position that is known, from one on, up to the last
-- of them
unfoldable pub StandFrom : Window → (place : ℕ) → List Stamp → Type 0
StandFrom w place [] = min w.known w.count ≤ place
StandFrom w place (x ∷ xs) = Chosen (nat_lt x.time w.since) (StandFrom w place xs)
    ((place < min w.known w.count) × (x.time ≡ position_in w place) × StandFrom w (place + 1) xs)
