-- How much the entries of one offset of a plan give at most.
-- Source: own.
use Rattle.std.specs.Prelude.{◌≡◌, ℕ, ◌^◌, ◌<◌, ◌≤◌, List, Option}
use Rattle.tdf_exec.specs.Gained.{sent_size, size_due, traced_size}
use Rattle.tdf_exec.specs.declared.runners.Runner.{Runner}
use Rattle.tdf_schedule.specs.declared.entry.Entry.{Entry}

-- no offset of these entries gives more samples, and one gives as many
pub record IsMostOf (size : Option Runner → ℕ) (runners : List Runner) (entries : List Entry)
    (most : ℕ) : Type 0 where
  pub above : (offset : ℕ) → size_due size runners offset entries ≤ most
  pub reached : 0 < most → (offset : ℕ) × (size_due size runners offset entries ≡ most)

-- one offset of them gives more samples than a number of 32 bits says
pub data GivesTooMany (runners : List Runner) (entries : List Entry) : Type 0 where
  Sent : (offset : ℕ) → 2 ^ 32 ≤ size_due sent_size runners offset entries
      → GivesTooMany runners entries
  Traced : (offset : ℕ) → 2 ^ 32 ≤ size_due traced_size runners offset entries
      → GivesTooMany runners entries
