-- When a run can go on from the state of a column, by the positions that its signal has in the
-- period in progress.
-- Source: own.
use Rattle.std.specs.List.{range_with_len}
use Rattle.std.specs.Prelude.{◌≡◌, ◌≢◌, ◌+◌, ◌-◌, ◌*◌, ◌<◌, ◌≤◌, ℕ, ℤ, List, [], ◌∷◌, All, None, Option, Some, IsSome, filter, length, map, min, nat_lt, not, slice_get}
use Rattle.tdf_saved.specs.State.{ColumnStateOf}
use Rattle.tdf_saved.specs.declared.state.Stamp.{Stamp}
use Rattle.tdf_trace_states.specs.ColumnStates.{DoRise}
use Rattle.tdf_trace_states.specs.declared.windows.Window.{Window}

-- the times of samples rise, from a time on
pub record AreRisingFrom (time : ℕ) (samples : List Stamp) : Type 0 where
  pub from : All (λ (x : Stamp). time ≤ x.time) samples
  pub rise : DoRise samples

-- the times of the samples from a time on
abbrev pub times_from : (time : ℕ) → List Stamp → List ℕ
times_from time samples =
    map (λ (x : Stamp). x.time) (filter (λ (x : Stamp). not (nat_lt x.time time)) samples)

-- the time of a position
abbrev pub position_in : Window → (i : ℕ) → ℕ
position_in w i = w.since + i * w.step

-- a number is carried exactly where rows begin after the time 0; where they begin there, and the
-- period doesn't, the first sample stands there
pub record CarriesFrom (rows since : ℕ) (s : ColumnStateOf) : Type 0 where
  pub none : rows ≡ 0 → s.carry ≡ None
  pub some : 0 < rows → IsSome s.carry
  pub first : rows ≡ 0 → 0 < since → (sample : Stamp) × (slice_get s.samples 0 ≡ Some sample)
      × (sample.time ≡ 0)

-- the column of a signal of samples, where rows are written from a time on: in the period it has a
-- sample at each position that is known and has no row yet, and the other known ones are for later
-- positions
pub record IsSamplesState (rows : ℕ) (w : Window) (s : ColumnStateOf) : Type 0 where
  pub rising : AreRisingFrom rows s.samples
  pub carries : CarriesFrom rows w.since s
  pub known : times_from w.since s.samples
      ≡ map (position_in w) (range_with_len w.first (min w.known w.count - w.first))
  pub later : length s.later ≡ w.known - w.count

-- ---- event signals

-- each number differs from the one before it, and so does the first of them from a value; the last
-- of all is another value
unfoldable pub AreChangesTo : (value : ℤ) → List ℤ → (last : ℤ) → Type 0
AreChangesTo value [] last = value ≡ last
AreChangesTo value (num ∷ nums) last = (value ≢ num) × AreChangesTo num nums last

-- the column of an event signal at a time: its changes below it, from the value that is carried to
-- that which the signal has; where rows begin at the time 0, its starting value is carried
pub record IsEventsState (rows time : ℕ) (start value : ℤ) (s : ColumnStateOf) : Type 0 where
  pub carry : ℤ
  pub carried : s.carry ≡ Some carry
  pub starts : rows ≡ 0 → carry ≡ start
  pub none_later : s.later ≡ []
  pub rising : AreRisingFrom rows s.samples
  pub before : All (λ (x : Stamp). x.time < time) s.samples
  pub changes : AreChangesTo carry (map (λ (x : Stamp). x.num) s.samples) value
