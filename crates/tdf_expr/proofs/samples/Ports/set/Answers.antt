use mir.Syntax.{w128}
use Rattle.std.proofs.Common.{◌≡◌, ◌∙◌, ◌<◌, ◌+◌, Some, length, refl, sym, ap, subst, rules}
use Rattle.std.proofs.lemmas.Option.{slice_get_read}
use Rattle.std.specs.Vec.{vec_len}
use Rattle.std.specs.Prelude.{slice_get, slice_set}
use Rattle.std.proofs.lemmas.Int.{to_z-of_z}
use Rattle.tdf_expr.proofs.Framed.{found_at, one_span, places_long, sample_set, sample_there}
use Rattle.tdf_expr.specs.Frames.{ArePortsFit, PortsSeen}
use Rattle.tdf_expr.specs.declared.samples.SamplePlace.{SamplePlace}
use Rattle.tdf_expr.specs.declared.spans.PortSpan.{PortSpan}
use Rattle.tdf_expr_state.specs.State.{PortsState}
use Rattle.tdf_expr.proofs.samples.Ports.set.Goals as goal

pub index-place-requires : goal.index-place-requires
index-place-requires c =
    let q : PortsSeen = record { spans = c.self.inside.spans.items; state = c.self.inside.signals } in
    let places = c.self.inside.places.items in
    let within : c.args.port < length q.spans = subst (λ (y : PortsSeen). c.args.port < length y.spans) (sym c.self.view_is) c.requires.port in
    let count : vec_len c.self.inside.places ≡ length places = search rules in
    subst (λ n. c.args.port < n) (sym (count ∙ places_long q.spans places c.self.invariant.places)) within

pub put_sample-requires : goal.put_sample-requires
put_sample-requires c =
    let q : PortsSeen = record { spans = c.self.inside.spans.items; state = c.self.inside.signals } in
    let places = c.self.inside.places.items in
    let x = c.index-place.result.now in
    let within : c.args.port < length q.spans = subst (λ (y : PortsSeen). c.args.port < length y.spans) (sym c.self.view_is) c.requires.port in
    let inside : c.args.port < length places = subst (λ n. c.args.port < n) (sym (places_long q.spans places c.self.invariant.places)) within in
    let f = found_at q.spans places c.args.port x c.self.invariant.places within (slice_get_read places (length places) c.args.port x refl inside c.index-place.ensures) in
    let seen : slice_get c.args.self.now.spans c.args.port ≡ Some f.span = subst (λ (y : PortsSeen). slice_get y.spans c.args.port ≡ Some f.span) c.self.view_is f.at in
    subst (λ (y : SamplePlace). y.first + c.args.i < length q.state.samples) (sym f.is)
    (sample_there q c.args.port c.args.i f.span c.self.invariant.fit f.at (c.requires.sample f.span seen))

pub invariant_of-self : goal.invariant_of-self
invariant_of-self c =
    let q : PortsSeen = record { spans = c.self.inside.spans.items; state = c.self.inside.signals } in
    let places = c.self.inside.places.items in
    let x = c.index-place.result.now in
    let within : c.args.port < length q.spans = subst (λ (y : PortsSeen). c.args.port < length y.spans) (sym c.self.view_is) c.requires.port in
    let inside : c.args.port < length places = subst (λ n. c.args.port < n) (sym (places_long q.spans places c.self.invariant.places)) within in
    let f = found_at q.spans places c.args.port x c.self.invariant.places within (slice_get_read places (length places) c.args.port x refl inside c.index-place.ensures) in
    let seen : slice_get c.args.self.now.spans c.args.port ≡ Some f.span = subst (λ (y : PortsSeen). slice_get y.spans c.args.port ≡ Some f.span) c.self.view_is f.at in
    record {
      fit = subst (λ (s : PortsState). ArePortsFit (record q { state = s }))
          (sym (c.put_sample.ensures ∙ ap (λ z. record q.state { samples = slice_set q.state.samples (x.first + c.args.i) z }) (to_z-of_z w128 c.args.value.num (search rules))
          ∙ ap (λ (y : SamplePlace). record q.state { samples = slice_set q.state.samples (y.first + c.args.i) c.args.value.num }) f.is))
          (sample_set q c.args.port c.args.i f.span c.args.value.num c.self.invariant.fit f.at (c.requires.sample f.span seen) (c.requires.format f.span seen).num);
      places = c.self.invariant.places;
      written = c.self.invariant.written;
    }

pub returns : goal.returns
returns c = λ given is.
    let q : PortsSeen = record { spans = c.self.inside.spans.items; state = c.self.inside.signals } in
    let places = c.self.inside.places.items in
    let x = c.index-place.result.now in
    let within : c.args.port < length q.spans = subst (λ (y : PortsSeen). c.args.port < length y.spans) (sym c.self.view_is) c.requires.port in
    let inside : c.args.port < length places = subst (λ n. c.args.port < n) (sym (places_long q.spans places c.self.invariant.places)) within in
    let f = found_at q.spans places c.args.port x c.self.invariant.places within (slice_get_read places (length places) c.args.port x refl inside c.index-place.ensures) in
    let seen : slice_get c.args.self.now.spans c.args.port ≡ Some f.span = subst (λ (y : PortsSeen). slice_get y.spans c.args.port ≡ Some f.span) c.self.view_is f.at in
    let same : f.span ≡ given = one_span c.args.self.now.spans c.args.port f.span given seen is in
    ap (λ (s : PortsState). record q { state = s })
    (c.put_sample.ensures ∙ ap (λ z. record q.state { samples = slice_set q.state.samples (x.first + c.args.i) z }) (to_z-of_z w128 c.args.value.num (search rules)))
    ∙ ap (λ (y : SamplePlace). record q { state = record q.state { samples = slice_set q.state.samples (y.first + c.args.i) c.args.value.num } }) f.is
    ∙ ap (λ (y : PortSpan). record q { state = record q.state { samples = slice_set q.state.samples (y.first + c.args.i) c.args.value.num } }) same
    ∙ ap (λ (y : PortsSeen). record y { state = record y.state { samples = slice_set y.state.samples (given.first + c.args.i) c.args.value.num } }) c.self.view_is
