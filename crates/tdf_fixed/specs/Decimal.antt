-- Decimal texts of values and times, exact to the last digit (own).
use Rattle.std.specs.Prelude.{ℕ, zero, suc, ◌+◌, ◌*◌, ◌/◌, ◌%◌, ◌^◌, nat_eq, if◌then◌else◌, List, [], ◌∷◌, ◌++◌, ℤ, pos, negsuc}
use Rattle.std.specs.Fmt.{decimal}
use Rattle.tdf_base.specs.declared.resolution.Resolution.{Resolution}
use Rattle.tdf_base.specs.declared.resolution.Resolution.TheVariants.{Ps, Fs}

-- the digits of rest/d after a point, up to the last that isn't 0; `room` is enough of them
unfoldable pub fraction_digits : ℕ → ℕ → ℕ → List ℕ
fraction_digits zero rest d = []
fraction_digits (suc room) rest d =
    if nat_eq rest 0 then [] else (48 + 10 * rest / d) ∷ fraction_digits room (10 * rest % d) d

-- the point and the fraction, where there is one
unfoldable pub fraction_text : ℕ → ℕ → ℕ → List ℕ
fraction_text room rest d = if nat_eq rest 0 then [] else 46 ∷ fraction_digits room rest d

-- the number n/d
unfoldable pub magnitude_text : ℕ → ℕ → ℕ → List ℕ
magnitude_text room n d = decimal (n / d) ++ fraction_text room (n % d) d

abbrev pub signed_text : ℕ → ℤ → ℕ → List ℕ
signed_text room (pos n) d = magnitude_text room n d
signed_text room (negsuc n) d = 45 ∷ magnitude_text room (suc n) d

-- the value num / 2 ^ frac, of which `frac` digits after the point are enough
unfoldable pub value_text : ℤ → ℕ → List ℕ
value_text num frac = signed_text frac num (2 ^ frac)

-- the digits after the point that a time in seconds has at most
abbrev pub places_of : Resolution → ℕ
places_of Ps = 12
places_of Fs = 15

-- a time of so many counts of a resolution, in seconds
unfoldable pub seconds_text_at : Resolution → ℕ → List ℕ
seconds_text_at resolution time =
    magnitude_text (places_of resolution) time (10 ^ places_of resolution)

-- a time of so many picoseconds, in seconds
unfoldable pub seconds_text : ℕ → List ℕ
seconds_text time = magnitude_text 12 time (10 ^ 12)
