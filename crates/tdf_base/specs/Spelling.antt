-- How numerals and times are spelled, apart from how they are read (own).
use Rattle.std.specs.Prelude.{◌≡◌, ℕ, ◌*◌, ◌^◌, ◌<◌, ◌↔◌, true, Some, Ok, List, [], ◌∷◌, ◌++◌, length, codes, decimal}
use Rattle.std.specs.List.{list_all}
use Rattle.tdf_base.specs.Limits.{time_end}
use Rattle.tdf_base.specs.Digits.{is_digit, are_digits, int_of}
use Rattle.tdf_base.specs.Number.{Numeral, numeral_of, is_short, scaled_count}
use Rattle.tdf_base.specs.Time.{time_of, time_at, femtoseconds_in}
use Rattle.tdf_base.specs.declared.resolution.Resolution.{Resolution}
use Rattle.tdf_base.specs.declared.resolution.Resolution.TheVariants.{Ps, Fs}

-- a point and the digits after it; nothing where there are none
abbrev pub after_point : List ℕ → List ℕ
after_point [] = []
after_point (c ∷ cs) = 46 ∷ (c ∷ cs)

-- digits, or digits, a point and digits
pub record SpellsNumeral (text : List ℕ) (n : Numeral) : Type 0 where
  pub whole : are_digits n.whole ≡ true
  pub fraction : list_all is_digit n.fraction ≡ true
  pub is : text ≡ n.whole ++ after_point n.fraction

-- a numeral is read exactly where it is spelled so
abbrev pub ReadsNumerals : Type 0
ReadsNumerals = (text : List ℕ) (n : Numeral) → (numeral_of text ≡ Some n) ↔ SpellsNumeral text n

-- five units and their picoseconds
pub data IsPicoseconds : List ℕ → ℕ → Type 0 where
  Second : IsPicoseconds (codes "s") (10 ^ 12)
  Millisecond : IsPicoseconds (codes "ms") (10 ^ 9)
  Microsecond : IsPicoseconds (codes "us") (10 ^ 6)
  Nanosecond : IsPicoseconds (codes "ns") (10 ^ 3)
  Picosecond : IsPicoseconds (codes "ps") 1

-- six units and their femtoseconds: a thousand times as many, and the femtosecond itself
pub data IsFemtoseconds : List ℕ → ℕ → Type 0 where
  Longer : {unit : List ℕ} {scale : ℕ} → IsPicoseconds unit scale
      → IsFemtoseconds unit (scale * 1000)
  Femtosecond : IsFemtoseconds (codes "fs") 1

-- a short numeral directly followed by a unit, that make `time` counts of `per` parts each, below
-- the end of time
pub record SpellsTimeBy (IsUnit : List ℕ → ℕ → Type 0) (per : ℕ) (text : List ℕ) (time : ℕ) : Type 0
  where
    pub front : List ℕ
    pub unit : List ℕ
    pub numeral : Numeral
    pub scale : ℕ
    pub is : text ≡ front ++ unit
    pub number : SpellsNumeral front numeral
    pub short : is_short numeral ≡ true
    pub «of» : IsUnit unit scale
    pub count : scaled_count numeral * scale ≡ time * (10 ^ length numeral.fraction * per)
    pub below : time < time_end

-- a text that says so many picoseconds
abbrev pub SpellsTime : List ℕ → ℕ → Type 0
SpellsTime text time = SpellsTimeBy IsPicoseconds 1 text time

-- a text that says so many counts of a resolution
abbrev pub SpellsTimeAt : Resolution → List ℕ → ℕ → Type 0
SpellsTimeAt resolution text time =
    SpellsTimeBy IsFemtoseconds (femtoseconds_in resolution) text time

-- a time is read exactly where it is spelled so
abbrev pub ReadsTimes : Type 0
ReadsTimes = (text : List ℕ) (time : ℕ) → (time_of text ≡ Ok time) ↔ SpellsTime text time

abbrev pub ReadsTimesAt : Type 0
ReadsTimesAt = (resolution : Resolution) (text : List ℕ) (time : ℕ)
    → (time_at resolution text ≡ Ok time) ↔ SpellsTimeAt resolution text time

-- a time of the five units is the same count at a resolution of a picosecond
abbrev pub ReadsBoth : Type 0
ReadsBoth = (text : List ℕ) (time : ℕ) → time_of text ≡ Ok time → time_at Ps text ≡ Ok time

-- a whole number below 10 ^ 18 reads back from its digits, and a time from its count and its unit
pub record ReadsCounts (n : ℕ) : Type 0 where
  pub int : int_of (decimal n) ≡ Some n
  pub picoseconds : time_of (decimal n ++ codes "ps") ≡ Ok n
  pub at_picoseconds : time_at Ps (decimal n ++ codes "ps") ≡ Ok n
  pub at_femtoseconds : time_at Fs (decimal n ++ codes "fs") ≡ Ok n
