use Rattle.std.proofs.Common.{ℕ, Vec, Global, map, refl}
use Rattle.tdf_save_reading.proofs.EventSteps.{no_place, notice_large, notice_piece}
use Rattle.tdf_save_reading.proofs.events.read_notice.Goals as goal

pub returns-in_default-clause-none : goal.returns-in_default-clause-none
returns-in_default-clause-none c = λ _. no_place (map (λ (z : Vec ℕ Global). z.items) c.args.names.now) c.args.text.now (c.in_default.ensures.none refl)

pub returns-then-place-gt4294967295-clause-none : goal.returns-then-place-gt4294967295-clause-none
returns-then-place-gt4294967295-clause-none c = λ _. notice_large (map (λ (z : Vec ℕ Global). z.items) c.args.names.now) c.args.text.now c.in-Some.place c.in-Some.time c.in-Some.rest.now
    c.requires.apart c.in-Some.ensures.is c.if-place-gt4294967295.true

pub returns-clause-is : goal.returns-clause-is
returns-clause-is c = notice_piece (map (λ (z : Vec ℕ Global). z.items) c.args.names.now) c.args.text.now c.in-Some.place c.in-Some.time c.in-Some.rest.now c.in-Some.ensures.is c.if-place-gt4294967295.false
