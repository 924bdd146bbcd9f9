-- Traced signals as contracts see them, and the samples that they get.
-- Source: own.
use Rattle.std.specs.Prelude.{◌≡◌, ◌<◌, ◌≤◌, ℕ, nat_eq, if◌then◌else◌, Some, List, [], ◌∷◌, map, slice_get}
use Rattle.tdf_convert.specs.declared.outputs.Traced.{Traced}
use Rattle.tdf_fixed.specs.declared.raw.Raw.{Raw}
use Rattle.tdf_trace_rows.specs.declared.stamps.Stamps.{Stamps}

-- a signal that is traced: its number, the columns that show it, the start of the period that has
-- begun last, the stamps of its positions without a time, and its samples without a position
pub record TrackedOf : Type 0 where
  pub signal : ℕ
  pub columns : List ℕ
  pub since : ℕ
  pub stamps : Stamps
  pub waiting : List Raw

-- all of them, of a trace with so many columns, and the bound of their numbers
pub record TrackingOf : Type 0 where
  pub width : ℕ
  pub signals : ℕ
  pub list : List TrackedOf

-- the samples of a signal, in order
unfoldable pub samples_traced : (signal : ℕ) → List Traced → List Raw
samples_traced signal [] = []
samples_traced signal (x ∷ xs) =
    if nat_eq x.signal signal then x.value ∷ samples_traced signal xs else samples_traced signal xs

-- rows that are written up to a time have none of a position without a sample
abbrev pub AreSince : (upto : ℕ) → List TrackedOf → Type 0
AreSince upto list = (place : ℕ) (t : TrackedOf) → slice_get list place ≡ Some t
    → 0 < t.stamps.left → upto ≤ t.stamps.time

-- the next position of each signal has no earlier time, and no more positions are left
abbrev pub AreLater : (old new : List TrackedOf) → Type 0
AreLater old new = (place : ℕ) (t u : TrackedOf) → slice_get old place ≡ Some t
    → slice_get new place ≡ Some u
    → (t.stamps.time ≤ u.stamps.time) × (u.stamps.left ≤ t.stamps.left)

-- which signal it is, and its columns
pub record Label : Type 0 where
  pub signal : ℕ
  pub columns : List ℕ

abbrev pub label : TrackedOf → Label
label t = record { signal = t.signal; columns = t.columns }

abbrev pub labels : List TrackedOf → List Label
labels list = map label list

-- and the start of its period
abbrev pub sinces : List TrackedOf → List ℕ
sinces list = map (λ t. t.since) list
