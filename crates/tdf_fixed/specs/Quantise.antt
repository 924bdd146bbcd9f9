-- Rounding a fraction n/d to a whole number: quantization modes (IEEE 1666-2011, 7.10).
use Rattle.std.specs.Prelude.{ℕ, ◌-◌, ◌*◌, ◌/◌, ◌%◌, ◌^◌, Bool, true, false, not, ◌&&◌, ◌||◌, nat_eq, nat_lt, nat_le, if◌then◌else◌, ℤ, pos, negsuc, ◌+ℤ◌, ◌*ℤ◌}
use Rattle.tdf_fixed.specs.declared.quant.Quant.{Quant}
use Rattle.tdf_fixed.specs.declared.quant.Quant.TheVariants.{Trn, TrnZero, Rnd, RndZero, RndMinInf, RndInf, RndConv}

-- the whole neighbour below n/d; the one above is 1 more
abbrev pub below : ℤ → ℕ → ℤ
below (pos n) d = pos (n / d)
below (negsuc n) d = negsuc (n / d)

-- the distance of n/d from the neighbour below, in parts of 1/d
abbrev pub above_by : ℤ → ℕ → ℕ
above_by (pos n) d = n % d
above_by (negsuc n) d = d - 1 - n % d

abbrev pub is_negative : ℤ → Bool
is_negative (pos n) = false
is_negative (negsuc n) = true

abbrev pub is_odd : ℤ → Bool
is_odd n = nat_eq (above_by n 2) 1

-- whether a fraction between two neighbours goes to the one above; `twice` is twice its distance
-- from the one below, in parts of 1/d, and `odd` says whether the one below is odd
abbrev pub goes_up : Quant → Bool → Bool → ℕ → ℕ → Bool
goes_up Trn negative odd twice d = false
goes_up TrnZero negative odd twice d = negative
goes_up Rnd negative odd twice d = nat_le d twice
goes_up RndZero negative odd twice d = nat_lt d twice || (nat_eq twice d && negative)
goes_up RndMinInf negative odd twice d = nat_lt d twice
goes_up RndInf negative odd twice d = nat_lt d twice || (nat_eq twice d && not negative)
goes_up RndConv negative odd twice d = nat_lt d twice || (nat_eq twice d && odd)

-- of a fraction by its sign, the neighbour below and the distance from it
unfoldable pub rounded_whole : Quant → Bool → ℤ → ℕ → ℕ → ℤ
rounded_whole quant negative whole rest d = if nat_eq rest 0 then whole
    else if goes_up quant negative (is_odd whole) (2 * rest) d then whole +ℤ pos 1
    else whole

-- the whole number to which a mode rounds n/d
abbrev pub quantised : Quant → ℤ → ℕ → ℤ
quantised quant n d = rounded_whole quant (is_negative n) (below n d) (above_by n d) d

-- the value num / 2 ^ from in units of the last place 1 / 2 ^ to
unfoldable pub requantised : Quant → ℤ → ℕ → ℕ → ℤ
requantised quant num from to = quantised quant (num *ℤ pos (2 ^ to)) (2 ^ from)
