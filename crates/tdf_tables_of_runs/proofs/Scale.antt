-- A time has one text at both resolutions, however late it is.
use Rattle.std.proofs.Common.{◌≡◌, ◌∙◌, ℕ, ◌+◌, ◌*◌, ◌/◌, ◌%◌, ◌^◌, ◌<◌, ◌++◌, sym, ap, refl, arith}
use Rattle.std.proofs.lemmas.List.{append_cancel_left}
use Rattle.std.proofs.lemmas.Nat.{div-add-mod', mod_below}
use Rattle.std.specs.Fmt.{decimal}
use Rattle.tdf_base.proofs.Api.{of_parts}
use Rattle.tdf_base.specs.Time.{femtoseconds_in}
use Rattle.tdf_base.specs.declared.resolution.Resolution.{Resolution}
use Rattle.tdf_base.specs.declared.resolution.Resolution.TheVariants.{Ps, Fs}
use Rattle.tdf_fixed.proofs.Api.{picoseconds_in_femtoseconds}
use Rattle.tdf_fixed.specs.Decimal.{fraction_text, magnitude_text, seconds_text_at}

abbrev second : ℕ
second = 10 ^ 12

abbrev second_in_femtoseconds : ℕ
second_in_femtoseconds = 10 ^ 15

femto_parts : (time : ℕ) → seconds_text_at Fs time ≡ decimal (time / second_in_femtoseconds) ++ fraction_text 15 (time % second_in_femtoseconds) second_in_femtoseconds
unfolding seconds_text_at magnitude_text
femto_parts time = refl

pico_parts : (time : ℕ) → seconds_text_at Ps time ≡ decimal (time / second) ++ fraction_text 12 (time % second) second
unfolding seconds_text_at magnitude_text
pico_parts time = refl

-- the part of a second has one text
part_same : (part : ℕ) → part < second → fraction_text 15 (1000 * part) second_in_femtoseconds ≡ fraction_text 12 part second
part_same part small =
    let f = of_parts (1000 * part) second_in_femtoseconds 0 (1000 * part) (omega arith) (omega (arith, small)) in
    let p = of_parts part second 0 part (omega arith) small in
    let e : seconds_text_at Fs (1000 * part) ≡ seconds_text_at Ps part = picoseconds_in_femtoseconds part (omega (arith, small)) in
    append_cancel_left (decimal 0) (fraction_text 15 (1000 * part) second_in_femtoseconds) (fraction_text 12 part second)
    (sym (femto_parts (1000 * part) ∙ ap (λ w. decimal w ++ fraction_text 15 (1000 * part % second_in_femtoseconds) second_in_femtoseconds) f.0
    ∙ ap (λ r. decimal 0 ++ fraction_text 15 r second_in_femtoseconds) f.1)
    ∙ e ∙ pico_parts part ∙ ap (λ w. decimal w ++ fraction_text 12 (part % second) second) p.0 ∙ ap (λ r. decimal 0 ++ fraction_text 12 r second) p.1)

picoseconds_same : (time : ℕ) → seconds_text_at Fs (1000 * time) ≡ seconds_text_at Ps time
picoseconds_same time =
    let all : time / second * second + time % second ≡ time = div-add-mod' time second in
    let small : time % second < second = mod_below time second (omega arith) in
    let f = of_parts (1000 * time) second_in_femtoseconds (time / second) (1000 * (time % second)) (omega (arith, all)) (omega (arith, small)) in
    femto_parts (1000 * time) ∙ ap (λ w. decimal w ++ fraction_text 15 (1000 * time % second_in_femtoseconds) second_in_femtoseconds) f.0
    ∙ ap (λ r. decimal (time / second) ++ fraction_text 15 r second_in_femtoseconds) f.1
    ∙ ap (λ t. decimal (time / second) ++ t) (part_same (time % second) small)
    ∙ sym (pico_parts time)

abbrev pub femtoseconds_at : Resolution → (time : ℕ) → ℕ
femtoseconds_at resolution time = time * femtoseconds_in resolution

-- a time in fs has the text of its counts
pub time_same : (resolution : Resolution) (time : ℕ) → seconds_text_at Fs (femtoseconds_at resolution time) ≡ seconds_text_at resolution time
time_same Ps time = ap (seconds_text_at Fs) (let turned : time * 1000 ≡ 1000 * time = omega arith in turned) ∙ picoseconds_same time
time_same Fs time = ap (seconds_text_at Fs) (let one : time * 1 ≡ time = omega arith in one)
