use Rattle.std.proofs.Common.{ℕ, List, Vec, Global, map, length, ◌<◌, ◌++◌, ◌∙◌, ap}
use Rattle.std.proofs.lemmas.List.{length-map}
use Rattle.tdf_save.proofs.Api.{at_map}
use Rattle.tdf_save_reading.proofs.EventSteps.{event_piece}
use Rattle.tdf_save_reading.proofs.events.event_at.Goals as goal

pub returns-in-Some : goal.returns-in-Some
returns-in-Some c =
    let less : c.args.place < length (map (λ (z : Vec ℕ Global). z.items) c.args.names.now) = rw (length-map c.args.names.now (λ (z : Vec ℕ Global). z.items)) c.if-place-names.false in
    record {
      is = event_piece (map (λ (z : Vec ℕ Global). z.items) c.args.names.now) c.args.place c.args.text.now c.index-names-place.result.items c.in-Some.rest.now
          less (at_map (λ (z : Vec ℕ Global). z.items) c.args.names.now c.args.place c.index-names-place.result c.index-names-place.is)
          (c.in-Some.ensures.is ∙ ap (λ (x : List ℕ). x ++ c.in-Some.rest.now) c.deref.ensures.value) c.in-Some.ensures.blank;
    }
