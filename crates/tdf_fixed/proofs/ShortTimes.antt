-- The digits of a part of a second that is so many thousandths or millionths of the count.
use Rattle.std.proofs.Common.{◌≡◌, ℕ, ◌+◌, ◌-◌, ◌*◌, ◌/◌, ◌%◌, ◌^◌, ◌<◌, ◌≤◌, refl, sym, ap, ◌∙◌, arith}
use Rattle.std.proofs.lemmas.Nat.{pow-add}
use Rattle.tdf_base.proofs.Api.{power_some}
use Rattle.tdf_fixed.proofs.FractionParts.{fraction_right, only_fraction}
use Rattle.tdf_fixed.proofs.Fractions.{digits_scaled}
use Rattle.tdf_fixed.specs.Decimal.{fraction_digits}

-- no more digits than there are places
fewer_room : (cut places rest : ℕ) → rest < 10 ^ places → fraction_digits (places + cut) rest (10 ^ places) ≡ fraction_digits places rest (10 ^ places)
fewer_room cut places rest less =
    let power : 10 ^ (places + cut) ≡ 10 ^ places * 10 ^ cut = pow-add 10 places cut in
    let turned : (rest * 10 ^ cut) * 10 ^ places ≡ rest * (10 ^ places * 10 ^ cut) = grind arith in
    only_fraction (fraction_digits (places + cut) rest (10 ^ places)) (fraction_digits places rest (10 ^ places)) rest (10 ^ places) (power_some places)
    (fraction_right (places + cut) rest (10 ^ places) (power_some places) less (rest * 10 ^ cut) (turned ∙ ap (λ p. rest * p) (sym power)))
    (fraction_right places rest (10 ^ places) (power_some places) less rest refl)

shorter : (cut places rest : ℕ) → rest < 10 ^ places → fraction_digits (places + cut) (rest * 10 ^ cut) (10 ^ places * 10 ^ cut) ≡ fraction_digits places rest (10 ^ places)
shorter cut places rest less = digits_scaled (places + cut) rest (10 ^ places) (10 ^ cut) (power_some places) (power_some cut) ∙ fewer_room cut places rest less

parted : (cut places second : ℕ) → cut ≤ places → second ≡ 10 ^ places → second ≡ 10 ^ (places - cut) * 10 ^ cut
parted cut places second within is = is ∙ ap (λ k. 10 ^ k) (omega (arith, within)) ∙ pow-add 10 (places - cut) cut

short : (cut places rest second part : ℕ) → cut ≤ places → second ≡ 10 ^ places → rest ≡ part * 10 ^ cut → part < 10 ^ (places - cut)
    → fraction_digits (places - cut) part (10 ^ (places - cut)) ≡ fraction_digits places rest second
short cut places rest second part within is parts less =
    sym (shorter cut (places - cut) part less)
    ∙ ap (λ room. fraction_digits room (part * 10 ^ cut) (10 ^ (places - cut) * 10 ^ cut)) (omega (arith, within))
    ∙ ap (λ n. fraction_digits places n (10 ^ (places - cut) * 10 ^ cut)) (sym parts)
    ∙ ap (λ d. fraction_digits places rest d) (sym (parted cut places second within is))

-- so many millionths, and so many thousandths
pub millionths : (places second : ℕ) → 6 ≤ places → second ≡ 10 ^ places → second / 1000000 ≡ 10 ^ (places - 6)
millionths places second within is = let e : second ≡ 10 ^ (places - 6) * 10 ^ 6 = parted 6 places second within is in omega (arith, e)

pub thousandths : (places second : ℕ) → 3 ≤ places → second ≡ 10 ^ places → second / 1000 ≡ 10 ^ (places - 3)
thousandths places second within is = let e : second ≡ 10 ^ (places - 3) * 10 ^ 3 = parted 3 places second within is in omega (arith, e)

pub fewer_millionths : (places second rest : ℕ) → 6 ≤ places → second ≡ 10 ^ places → rest < second → rest % 1000000 ≡ 0 → rest / 1000000 < second / 1000000
fewer_millionths places second rest within is less none = let e : second ≡ 10 ^ (places - 6) * 10 ^ 6 = parted 6 places second within is in omega (arith, e, less, none)

pub fewer_thousandths : (places second rest : ℕ) → 3 ≤ places → second ≡ 10 ^ places → rest < second → rest % 1000 ≡ 0 → rest / 1000 < second / 1000
fewer_thousandths places second rest within is less none = let e : second ≡ 10 ^ (places - 3) * 10 ^ 3 = parted 3 places second within is in omega (arith, e, less, none)

pub by_millionths : (places second rest : ℕ) → 6 ≤ places → second ≡ 10 ^ places → rest < second → rest % 1000000 ≡ 0
    → fraction_digits (places - 6) (rest / 1000000) (second / 1000000) ≡ fraction_digits places rest second
by_millionths places second rest within is less none =
    let m : second / 1000000 ≡ 10 ^ (places - 6) = millionths places second within is in
    let l : rest / 1000000 < second / 1000000 = fewer_millionths places second rest within is less none in
    let f : rest / 1000000 < 10 ^ (places - 6) = omega (arith, l, m) in
    let p : rest ≡ rest / 1000000 * 10 ^ 6 = omega (arith, none) in
    ap (λ d. fraction_digits (places - 6) (rest / 1000000) d) m ∙ short 6 places rest second (rest / 1000000) within is p f

pub by_thousandths : (places second rest : ℕ) → 3 ≤ places → second ≡ 10 ^ places → rest < second → rest % 1000 ≡ 0
    → fraction_digits (places - 3) (rest / 1000) (second / 1000) ≡ fraction_digits places rest second
by_thousandths places second rest within is less none =
    let m : second / 1000 ≡ 10 ^ (places - 3) = thousandths places second within is in
    let l : rest / 1000 < second / 1000 = fewer_thousandths places second rest within is less none in
    let f : rest / 1000 < 10 ^ (places - 3) = omega (arith, l, m) in
    let p : rest ≡ rest / 1000 * 10 ^ 3 = omega (arith, none) in
    ap (λ d. fraction_digits (places - 3) (rest / 1000) d) m ∙ short 3 places rest second (rest / 1000) within is p f

pub ruleset short_lemmas = (millionths, thousandths, fewer_millionths, fewer_thousandths, by_millionths, by_thousandths)
