-- What a call of a device does to its count of faults. (own)
use Rattle.std.specs.Prelude.{◌≡◌, ◌⊎◌, ℕ, ◌+◌, ◌-◌, ◌^◌, ◌≤◌, min, Result, IsErrOf, OnOk, OnErr, IfErr, MatchResult, ◌≢◌}
use Rattle.tdf_io.specs.declared.writing.SinkErr.{SinkErr}
use Rattle.tdf_io.specs.declared.writing.SinkErr.TheVariants.{Failed}

-- the last value of a counter
abbrev pub last_count : ℕ
last_count = 2 ^ 64 - 1

-- the number after n of a counter that stays at its last value
abbrev pub next_count : ℕ → ℕ
next_count n = min (n + 1) last_count

-- a count of faults rose by one, or is at its last value
abbrev pub FaultsRose : ℕ → ℕ → Type 0
FaultsRose before now = now ≡ next_count before

-- one call of a source: an Ok leaves its count of faults as it was, and an Err raises it
pub record CountsFaults {T E : Type 0} (before now : ℕ) (result : Result T E) : Type 0 where
  pub later : before ≤ now
  pub kept : OnOk result (now ≡ before)
  pub rose : OnErr result (FaultsRose before now)

-- one call of a sink: `Failed` raises its count of faults, and every other answer leaves it as it was
pub record CountsSinkFaults {T : Type 0} (before now : ℕ) (result : Result T SinkErr) : Type 0 where
  pub later : before ≤ now
  pub kept : MatchResult result (λ _. now ≡ before) (λ error. error ≢ Failed → now ≡ before)
  pub rose : IfErr result (λ error. error ≡ Failed → FaultsRose before now)

-- a call that writes on two sinks, and answers with this error where a write failed: then a count of
-- faults of one of them rose, and with every other answer both are as they were
pub record CountsTwoSinks {T E : Type 0} (failed : E)
    (out_before out_now notes_before notes_now : ℕ) (result : Result T E) : Type 0 where
  pub rose : IsErrOf result failed
      → FaultsRose out_before out_now ⊎ FaultsRose notes_before notes_now
  pub out_kept : (IsErrOf result failed → ⊥) → out_now ≡ out_before
  pub notes_kept : (IsErrOf result failed → ⊥) → notes_now ≡ notes_before
