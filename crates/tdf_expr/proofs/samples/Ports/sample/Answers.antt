use mir.Syntax.{w128}
use Rattle.std.proofs.Common.{◌≡◌, ◌∙◌, ◌<◌, ◌+◌, Some, length, refl, sym, ap, subst, rules}
use Rattle.std.proofs.lemmas.Option.{slice_get_read}
use Rattle.std.specs.Vec.{vec_len}
use Rattle.std.specs.Prelude.{slice_get}
use Rattle.std.proofs.lemmas.Int.{to_z-of_z}
use Rattle.tdf_expr.proofs.Framed.{found_at, one_span, places_long, sample_there}
use Rattle.tdf_expr.specs.Frames.{PortsSeen}
use Rattle.tdf_expr.specs.declared.samples.SamplePlace.{SamplePlace}
use Rattle.tdf_expr.specs.declared.spans.PortSpan.{PortSpan}
use Rattle.tdf_expr_state.specs.State.{cell_at}
use Rattle.tdf_expr.proofs.samples.Ports.sample.Goals as goal
use Rattle.tdf_fixed.specs.Cast.{fraction_of}

pub index-place-requires : goal.index-place-requires
index-place-requires c =
    let q : PortsSeen = record { spans = c.self.inside.spans.items; state = c.self.inside.signals } in
    let places = c.self.inside.places.items in
    let within : c.args.port < length q.spans = subst (λ (y : PortsSeen). c.args.port < length y.spans) (sym c.self.view_is) c.requires.port in
    let count : vec_len c.self.inside.places ≡ length places = search rules in
    subst (λ n. c.args.port < n) (sym (count ∙ places_long q.spans places c.self.invariant.places)) within

pub sample-requires : goal.sample-requires
sample-requires c =
    let q : PortsSeen = record { spans = c.self.inside.spans.items; state = c.self.inside.signals } in
    let places = c.self.inside.places.items in
    let x = c.index-place.result.now in
    let within : c.args.port < length q.spans = subst (λ (y : PortsSeen). c.args.port < length y.spans) (sym c.self.view_is) c.requires.port in
    let inside : c.args.port < length places = subst (λ n. c.args.port < n) (sym (places_long q.spans places c.self.invariant.places)) within in
    let f = found_at q.spans places c.args.port x c.self.invariant.places within (slice_get_read places (length places) c.args.port x refl inside c.index-place.ensures) in
    let seen : slice_get c.args.self.now.spans c.args.port ≡ Some f.span = subst (λ (y : PortsSeen). slice_get y.spans c.args.port ≡ Some f.span) c.self.view_is f.at in
    subst (λ (y : SamplePlace). y.first + c.args.i < length q.state.samples) (sym f.is)
    (sample_there q c.args.port c.args.i f.span c.self.invariant.fit f.at (c.requires.sample f.span seen))

pub returns-clause-num : goal.returns-clause-num
returns-clause-num c = λ given is.
    let q : PortsSeen = record { spans = c.self.inside.spans.items; state = c.self.inside.signals } in
    let places = c.self.inside.places.items in
    let x = c.index-place.result.now in
    let within : c.args.port < length q.spans = subst (λ (y : PortsSeen). c.args.port < length y.spans) (sym c.self.view_is) c.requires.port in
    let inside : c.args.port < length places = subst (λ n. c.args.port < n) (sym (places_long q.spans places c.self.invariant.places)) within in
    let f = found_at q.spans places c.args.port x c.self.invariant.places within (slice_get_read places (length places) c.args.port x refl inside c.index-place.ensures) in
    let seen : slice_get c.args.self.now.spans c.args.port ≡ Some f.span = subst (λ (y : PortsSeen). slice_get y.spans c.args.port ≡ Some f.span) c.self.view_is f.at in
    let same : f.span ≡ given = one_span c.args.self.now.spans c.args.port f.span given seen is in
    let read : c.sample.result ≡ cell_at c.args.self.now.state.samples (given.first + c.args.i) =
    c.sample.ensures ∙ ap (λ (y : PortsSeen). cell_at y.state.samples (x.first + c.args.i)) c.self.view_is
    ∙ ap (λ (y : SamplePlace). cell_at c.args.self.now.state.samples (y.first + c.args.i)) f.is
    ∙ ap (λ (y : PortSpan). cell_at c.args.self.now.state.samples (y.first + c.args.i)) same in
    to_z-of_z w128 c.sample.result (search rules) ∙ read

pub returns-clause-frac : goal.returns-clause-frac
returns-clause-frac c = λ given is.
    let q : PortsSeen = record { spans = c.self.inside.spans.items; state = c.self.inside.signals } in
    let places = c.self.inside.places.items in
    let x = c.index-place.result.now in
    let within : c.args.port < length q.spans = subst (λ (y : PortsSeen). c.args.port < length y.spans) (sym c.self.view_is) c.requires.port in
    let inside : c.args.port < length places = subst (λ n. c.args.port < n) (sym (places_long q.spans places c.self.invariant.places)) within in
    let f = found_at q.spans places c.args.port x c.self.invariant.places within (slice_get_read places (length places) c.args.port x refl inside c.index-place.ensures) in
    let seen : slice_get c.args.self.now.spans c.args.port ≡ Some f.span = subst (λ (y : PortsSeen). slice_get y.spans c.args.port ≡ Some f.span) c.self.view_is f.at in
    ap (λ (y : SamplePlace). y.frac) f.is ∙ ap (λ (y : PortSpan). fraction_of y.format) (one_span c.args.self.now.spans c.args.port f.span given seen is)
