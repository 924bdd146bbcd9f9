-- The evaluation phase: it looks at every process in the order of their numbers, and runs those
-- that are triggered.
-- Source: IEEE 1666-2011, 4.2.1.2 (evaluation phase), whose order is left open; by number is own.
use Rattle.std.specs.Prelude.{ℕ, zero, suc, ◌≡◌, Bool, if◌then◌else◌, List, length, slice_index}
use Rattle.tdf_events_queue.specs.Sets.{is_on, AreRisingFlags}

module _ {S : Type 0} (run : ℕ → S → S) where
  -- each process below a bound was looked at
  unfoldable pub evaluated : List Bool → ℕ → S → S
  evaluated flags zero s = s
  evaluated flags (suc n) s =
      if is_on flags n then run n (evaluated flags n s) else evaluated flags n s

  -- the first so many of a list ran, one after the other
  unfoldable pub ran_first : List ℕ → ℕ → S → S
  ran_first list zero s = s
  ran_first list (suc j) s = run (slice_index list j) (ran_first list j s)

-- a list that names the triggered processes in rising order does for looking at every process
abbrev pub EvaluatesByList : Type 0
EvaluatesByList = (run : ℕ → ℕ → ℕ) (flags : List Bool) (list : List ℕ) (s : ℕ)
    → AreRisingFlags flags list
    → evaluated run flags (length flags) s ≡ ran_first run list (length list) s
