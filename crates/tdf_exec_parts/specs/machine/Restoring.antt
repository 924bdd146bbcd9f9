-- How rings are filled and instances get their values.
-- Source: own.
use Rattle.std.specs.Prelude.{◌≡◌, ℕ, ℤ, List, length, take}
use Rattle.tdf_expr.specs.Frames.{FrameSeen}
use Rattle.tdf_fixed.specs.declared.raw.Raw.{Raw}

abbrev pub sample_of : (frac : ℕ) → ℤ → Raw
sample_of frac num = record { num = num; frac = frac }

-- the first n rates of an instance are set, and nothing but rates changed
pub record AreRatesSet (rates : List ℕ) (n : ℕ) (old new : FrameSeen) : Type 0 where
  pub rest : new ≡ record old { state = record old.state { rates = new.state.rates } }
  pub long : length new.state.rates ≡ length old.state.rates
  pub same : take n new.state.rates ≡ take n rates
