use Rattle.std.proofs.Common.{◌≡◌, ◌+◌, ◌*◌, ◌-◌, ◌^◌, sym, ◌∙◌, ap, length}
use Rattle.tdf_base.specs.Digits.{number}
use Rattle.std.specs.Option.{option_map}
use Rattle.tdf_base.specs.Sides.{spelt}
use Rattle.tdf_tables.proofs.TimeLaws.{not_read, never_read, read_is}
use Rattle.tdf_tables.proofs.times.read_seconds.Goals as goal

pub returns-in-Some-clause-is : goal.returns-in-Some-clause-is
returns-in-Some-clause-is c =
    let a = c.value.ensures.value in
    let b = c.value-in-Some.ensures.value in
    let is : c.femtoseconds.result ≡ number c.in-Some.numeral.whole.now * 10 ^ 15 + number c.in-Some.numeral.fraction.now * 10 ^ (15 - length c.in-Some.numeral.fraction.now) =
    c.femtoseconds.ensures.value ∙ (cc) in
    read_is c.args.text.now (spelt c.in-Some.numeral) c.femtoseconds.result (sym c.in-Some.ensures.sides) (sym c.may_be_time.ensures ∙ c.if-may_be_time.true) is c.femtoseconds.ensures.early

pub returns-in_default-clause-none : goal.returns-in_default-clause-none
returns-in_default-clause-none c = λ _ t small e. not_read c.args.text.now (spelt c.in-Some.numeral) t small (sym c.in-Some.ensures.sides) (sym c.may_be_time.ensures ∙ c.if-may_be_time.false) e

pub returns-in_default-2-clause-none : goal.returns-in_default-2-clause-none
returns-in_default-2-clause-none c = λ _ t small e. never_read c.args.text.now t small (sym c.split.ensures.sides ∙ ap (option_map spelt) c.in_default.is) e
