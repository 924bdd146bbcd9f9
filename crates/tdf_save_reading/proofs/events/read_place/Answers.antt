use Rattle.std.proofs.Common.{ℕ, Vec, Global, map, refl}
use Rattle.tdf_save_reading.proofs.EventSteps.{no_name, no_pending, no_time, place_piece}
use Rattle.tdf_save_reading.proofs.events.read_place.Goals as goal

pub returns-in_default-clause-none : goal.returns-in_default-clause-none
returns-in_default-clause-none c = λ _. no_pending (map (λ (z : Vec ℕ Global). z.items) c.args.names.now) c.args.text.now c.in_default.ensures

pub returns-in_default-read_event-clause-none : goal.returns-in_default-read_event-clause-none
returns-in_default-read_event-clause-none c = λ _. no_name (map (λ (z : Vec ℕ Global). z.items) c.args.names.now) c.args.text.now c.in-Some.word.now c.in-Some.ensures (c.in_default-read_event.ensures.none refl)

pub returns-in-Some-last_count-clause-is : goal.returns-in-Some-last_count-clause-is
returns-in-Some-last_count-clause-is c = place_piece (map (λ (z : Vec ℕ Global). z.items) c.args.names.now) c.args.text.now c.in-Some.word.now c.in-Some-read_event.last.now c.in-Some-last_count.rest.now
    c.in-Some-read_event.place c.in-Some-last_count.time c.in-Some.ensures c.in-Some-read_event.ensures.is c.in-Some-last_count.ensures.is

pub returns-in-None-clause-none : goal.returns-in-None-clause-none
returns-in-None-clause-none c = λ _. no_time (map (λ (z : Vec ℕ Global). z.items) c.args.names.now) c.args.text.now c.in-Some.word.now c.in-Some-read_event.last.now
    c.in-Some-read_event.place c.requires.apart c.in-Some.ensures c.in-Some-read_event.ensures.is (c.in-None.ensures.none refl)
