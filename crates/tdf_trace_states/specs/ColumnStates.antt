-- What the state of a column of a trace says, and whether it is one.
-- Source: own.
use Rattle.std.specs.Prelude.{◌≡◌, ◌≢◌, ◌<◌, ◌+◌, ℕ, ℤ, zero, suc, Bool, true, nat_eq, if◌then◌else◌, Option, None, Some, IfSome, IsSome, option_map, List, [], ◌∷◌, slice_get}
use Rattle.tdf_fixed.specs.Cast.{fraction_of}
use Rattle.tdf_fixed.specs.Overflow.{IsOfWidth}
use Rattle.tdf_fixed.specs.declared.format.Format.{Format}
use Rattle.tdf_fixed.specs.declared.raw.Raw.{Raw}
use Rattle.tdf_saved.specs.State.{ColumnStateOf}
use Rattle.tdf_saved.specs.declared.state.Stamp.{Stamp}

-- ---- the cells that it says

-- a number as a sample of a format
abbrev pub sample_in : Format → ℤ → Raw
sample_in format num = record { num = num; frac = fraction_of format }

-- the number of a time
unfoldable pub number_at : List Stamp → (time : ℕ) → Option ℤ
number_at [] time = None
number_at (x ∷ xs) time = if nat_eq x.time time then Some x.num else number_at xs time

-- what the column shows before all else
abbrev pub carry_in : Format → ColumnStateOf → Option Raw
carry_in format s = option_map (sample_in format) s.carry

-- its cell of a time
abbrev pub stamped_cell : Format → ColumnStateOf → (time : ℕ) → Option (Option Raw)
stamped_cell format s time =
    option_map (λ num. Some (sample_in format num)) (number_at s.samples time)

-- ---- whether it is one

abbrev pub IsInFormat : Format → ℤ → Type 0
IsInFormat format num = IsOfWidth format.signed format.wl num

-- each number lies in the range of a format
pub record HasNumbersIn (format : Format) (s : ColumnStateOf) : Type 0 where
  pub carry : IfSome s.carry (IsInFormat format)
  pub samples : (i : ℕ) (x : Stamp) → slice_get s.samples i ≡ Some x → IsInFormat format x.num
  pub later : (i : ℕ) (num : ℤ) → slice_get s.later i ≡ Some num → IsInFormat format num

-- samples at rising times
abbrev pub DoRise : List Stamp → Type 0
DoRise samples = (i : ℕ) (x y : Stamp) → slice_get samples i ≡ Some x
    → slice_get samples (i + 1) ≡ Some y → x.time < y.time

-- what a column shows before sample i
abbrev pub number_before : ColumnStateOf → (i : ℕ) → Option ℤ
number_before s zero = s.carry
number_before s (suc i) = option_map (λ (x : Stamp). x.num) (slice_get s.samples i)

-- an event signal shows a value before all else, and after it other ones, each below a time
pub record ShowsChanges (time : ℕ) (s : ColumnStateOf) : Type 0 where
  pub carry : IsSome s.carry
  pub later : s.later ≡ []
  pub below : (i : ℕ) (x : Stamp) → slice_get s.samples i ≡ Some x → x.time < time
  pub other : (i : ℕ) (x : Stamp) → slice_get s.samples i ≡ Some x
      → number_before s i ≢ Some x.num

-- the state of a column at a time
pub record IsColumnState (format : Format) (event : Bool) (time : ℕ) (s : ColumnStateOf)
    : Type 0 where
  pub numbers : HasNumbersIn format s
  pub rising : DoRise s.samples
  pub changes : event ≡ true → ShowsChanges time s
