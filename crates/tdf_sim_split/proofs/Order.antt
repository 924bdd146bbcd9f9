-- Samples at rising times below an end.
use Rattle.std.proofs.Common.{◌≤◌, ◌+◌, ℕ, List, [], ◌∷◌, arith}
use Rattle.tdf_sim_history.proofs.Api.{AreRising}
use Rattle.tdf_sim_history.specs.Columns.{Stamp}

-- they rise below a later end too
pub rising_below : (low : ℕ) (xs : List Stamp) (end after : ℕ) → end ≤ after → AreRising low xs end → AreRising low xs after
unfolding AreRising
rising_below low [] end after more rising = omega (arith, rising, more)
rising_below low (x ∷ xs) end after more rising = (rising.0, rising_below (x.time + 1) xs end after more rising.1)
