-- A time that is read is below 10 ^ 18.
use Rattle.std.proofs.Common.{◌≡◌, ℕ, ◌<◌, ◌^◌, Option, Some, None, Ok, List, take, drop, arith}
use Rattle.std.proofs.lemmas.Bool.Decides.{nat_tests}
use Rattle.std.specs.Prelude.{position}
use Rattle.tdf_base.specs.Number.{Numeral, numeral_of}
use Rattle.tdf_base.specs.Time.{time_of, time_at, time_split, time_with, count_of, whole_time, starts_unit, picoseconds_of, femtoseconds_of, femtoseconds_in}
use Rattle.tdf_base.specs.declared.resolution.Resolution.{Resolution}

whole_small : (n d t : ℕ) → whole_time n d ≡ Ok t → t < 10 ^ 18
whole_small n d t e = grind (arith, nat_tests)

count_small : (n : Numeral) (scale per t : ℕ) → count_of n scale per ≡ Ok t → t < 10 ^ 18
unfolding count_of
count_small n scale per t e = grind (arith, whole_small)

with_small : (n : Option Numeral) (unit : Option ℕ) (per t : ℕ) → time_with n unit per ≡ Ok t → t < 10 ^ 18
with_small None unit per t e = cc
with_small (Some n) None per t e = cc
with_small (Some n) (Some scale) per t e = count_small n scale per t e

split_small : (unit_of : List ℕ → Option ℕ) (per : ℕ) (text : List ℕ) (at : Option ℕ) (t : ℕ)
    → time_split unit_of per text at ≡ Ok t → t < 10 ^ 18
split_small unit_of per text None t e = cc
split_small unit_of per text (Some at) t e = with_small (numeral_of (take at text)) (unit_of (drop at text)) per t e

pub time_small : (text : List ℕ) (t : ℕ) → time_of text ≡ Ok t → t < 10 ^ 18
unfolding time_of
time_small text t e = split_small picoseconds_of 1 text (position starts_unit text) t e

pub time_at_small : (resolution : Resolution) (text : List ℕ) (t : ℕ) → time_at resolution text ≡ Ok t → t < 10 ^ 18
unfolding time_at
time_at_small resolution text t e =
    split_small femtoseconds_of (femtoseconds_in resolution) text (position starts_unit text) t e
