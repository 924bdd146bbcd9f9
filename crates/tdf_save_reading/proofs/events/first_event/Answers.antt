use Rattle.std.proofs.Common.{ℕ, List, Vec, Global, map, length, ◌<◌, ◌≤◌, ◌≡◌, ◌++◌, ◌∙◌, ap, refl, subst}
use Rattle.std.proofs.lemmas.List.{length-map}
use Rattle.tdf_save.proofs.Api.{at_map}
use Rattle.tdf_save_reading.proofs.EventSteps.{event_piece, none_at_all, none_at_first, none_yet}
use Rattle.tdf_save_reading.specs.machine.Events.{Blank}
use Rattle.tdf_save_reading.proofs.events.first_event.Goals as goal

pub loop-k-init : goal.loop-k-init
loop-k-init c = none_at_first (map (λ (z : Vec ℕ Global). z.items) c.args.names.now) c.args.text.now

pub loop-k-preserved : goal.loop-k-preserved
loop-k-preserved c =
    let less : c.loop-k.k < length (map (λ (z : Vec ℕ Global). z.items) c.args.names.now) = rw (length-map c.args.names.now (λ (z : Vec ℕ Global). z.items)) c.loop-k-test.true in
    none_yet (map (λ (z : Vec ℕ Global). z.items) c.args.names.now) c.loop-k.k c.args.text.now c.index-names-k.result.items
    less (at_map (λ (z : Vec ℕ Global). z.items) c.args.names.now c.loop-k.k c.index-names-k.result c.index-names-k.is)
    (subst (λ (x : List ℕ). (r : List ℕ) → Blank r → c.args.text.now ≡ x ++ r → ⊥) c.deref.ensures.value (c.in_default.ensures.none refl)) c.loop-k.invariant

pub returns-in-Some-clause-is : goal.returns-in-Some-clause-is
returns-in-Some-clause-is c =
    let less : c.loop-k.k < length (map (λ (z : Vec ℕ Global). z.items) c.args.names.now) = rw (length-map c.args.names.now (λ (z : Vec ℕ Global). z.items)) c.loop-k-test.true in
    event_piece (map (λ (z : Vec ℕ Global). z.items) c.args.names.now) c.loop-k.k c.args.text.now c.index-names-k.result.items c.in-Some.rest.now
    less (at_map (λ (z : Vec ℕ Global). z.items) c.args.names.now c.loop-k.k c.index-names-k.result c.index-names-k.is)
    (c.in-Some.ensures.is ∙ ap (λ (x : List ℕ). x ++ c.in-Some.rest.now) c.deref.ensures.value) c.in-Some.ensures.blank

pub returns-clause-none : goal.returns-clause-none
returns-clause-none c = λ _.
    let all : length (map (λ (z : Vec ℕ Global). z.items) c.args.names.now) ≤ c.loop-k.k = rw (length-map c.args.names.now (λ (z : Vec ℕ Global). z.items)) c.loop-k-test.false in
    none_at_all (map (λ (z : Vec ℕ Global). z.items) c.args.names.now) c.loop-k.k c.args.text.now all c.loop-k.invariant
