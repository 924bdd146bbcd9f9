-- Times in a text: a number directly followed by its unit, as a count of the unit of time (own).
use Rattle.std.specs.Prelude.{ℕ, ◌*◌, ◌/◌, ◌%◌, ◌^◌, Bool, not, ◌&&◌, nat_eq, nat_lt, if◌then◌else◌, Option, Some, None, Result, Ok, Err, List, length, take, drop, position, codes}
use Rattle.std.specs.Cmp.Lexicographic.{pointwise}
use Rattle.tdf_base.specs.Digits.{is_digit}
use Rattle.tdf_base.specs.Limits.{time_end}
use Rattle.tdf_base.specs.Number.{Numeral, numeral_of, is_short, scaled_count}
use Rattle.tdf_base.specs.declared.resolution.Resolution.{Resolution}
use Rattle.tdf_base.specs.declared.resolution.Resolution.TheVariants.{Ps, Fs}
use Rattle.tdf_base.specs.declared.times.TimeErr.{TimeErr}
use Rattle.tdf_base.specs.declared.times.TimeErr.TheVariants.{NotTime, TimeTooLarge}

-- neither a digit nor a point: here the unit begins
abbrev pub starts_unit : ℕ → Bool
starts_unit c = not (is_digit c) && not (nat_eq c 46)

-- the picoseconds of a unit, of which there are five
abbrev pub picoseconds_of : List ℕ → Option ℕ
picoseconds_of text = if pointwise nat_eq text (codes "s") then Some (10 ^ 12)
    else if pointwise nat_eq text (codes "ms") then Some (10 ^ 9)
    else if pointwise nat_eq text (codes "us") then Some (10 ^ 6)
    else if pointwise nat_eq text (codes "ns") then Some (10 ^ 3)
    else if pointwise nat_eq text (codes "ps") then Some 1
    else None

-- the femtoseconds of a unit, of which there are six
abbrev pub femtoseconds_of : List ℕ → Option ℕ
femtoseconds_of text = if pointwise nat_eq text (codes "s") then Some (10 ^ 15)
    else if pointwise nat_eq text (codes "ms") then Some (10 ^ 12)
    else if pointwise nat_eq text (codes "us") then Some (10 ^ 9)
    else if pointwise nat_eq text (codes "ns") then Some (10 ^ 6)
    else if pointwise nat_eq text (codes "ps") then Some (10 ^ 3)
    else if pointwise nat_eq text (codes "fs") then Some 1
    else None

-- the femtoseconds of one count
abbrev pub femtoseconds_in : Resolution → ℕ
femtoseconds_in Ps = 1000
femtoseconds_in Fs = 1

-- n/d counts: they are to be whole, and below the end of time
abbrev pub whole_time : ℕ → ℕ → Result ℕ TimeErr
whole_time n d = if not (nat_eq (n % d) 0) then Err NotTime
    else if nat_lt (n / d) time_end then Ok (n / d)
    else Err TimeTooLarge

-- the counts of a numeral whose unit has `scale` parts, of which `per` make one count
unfoldable pub count_of : Numeral → ℕ → ℕ → Result ℕ TimeErr
count_of n scale per =
    if is_short n then whole_time (scaled_count n * scale) (10 ^ length n.fraction * per)
    else Err NotTime

abbrev pub time_with : Option Numeral → Option ℕ → ℕ → Result ℕ TimeErr
time_with None unit per = Err NotTime
time_with (Some n) None per = Err NotTime
time_with (Some n) (Some scale) per = count_of n scale per

abbrev pub time_split : (List ℕ → Option ℕ) → ℕ → List ℕ → Option ℕ → Result ℕ TimeErr
time_split unit_of per text None = Err NotTime
time_split unit_of per text (Some at) =
    time_with (numeral_of (take at text)) (unit_of (drop at text)) per

-- the counts that a text says, by a table of units: its numeral ends where its unit begins
abbrev pub time_by : (List ℕ → Option ℕ) → ℕ → List ℕ → Result ℕ TimeErr
time_by unit_of per text = time_split unit_of per text (position starts_unit text)

-- the picoseconds that a text says: five units
unfoldable pub time_of : List ℕ → Result ℕ TimeErr
time_of text = time_by picoseconds_of 1 text

-- the counts of a resolution that a text says: six units
unfoldable pub time_at : Resolution → List ℕ → Result ℕ TimeErr
time_at resolution text = time_by femtoseconds_of (femtoseconds_in resolution) text
