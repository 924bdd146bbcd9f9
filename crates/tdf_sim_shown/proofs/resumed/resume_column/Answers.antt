use Rattle.std.proofs.Common.{rules, ◌≡◌, ◌∙◌, ◌<◌, ◌≤◌, IfSome, Some, ap, length, option_map, refl, slice_get, slice_index_or, subst, sym}
use Rattle.std.proofs.lemmas.Option.{slice_get-get_or, slice_get_past, slice_get_read}
use Rattle.std.proofs.lemmas.Result.{on_ok_weaker}
use Rattle.tdf_sim_shown.proofs.Going.{signal_inside}
use Rattle.tdf_sim_shown.proofs.resumed.resume_column.Goals as goal
use Rattle.tdf_sim_shown.specs.machine.Resuming.{Lost, Took}
use Rattle.tdf_sim_traces.specs.Signals.{IsListed}
use Rattle.tdf_sim_traces.specs.declared.signals.TracedSignal.{TracedSignal}

pub resume_signal-requires-clause-can : goal.resume_signal-requires-clause-can
resume_signal-requires-clause-can c =
    let listed : IsListed c.args.flat.now c.in-Some.traced = subst (λ o. IfSome o (IsListed c.args.flat.now)) c.in-Some.is c.traced_at.ensures.listed in
    let inside : c.in-Some.traced.cluster < length c.args.clock.now.clusters.now = c.requires.can.clusters c.in-Some.traced listed in
    c.requires.can.can c.in-Some.traced (slice_index_or c.args.clock.now.clusters.now c.in-Some.traced.cluster c.index-clock-place.result) listed
    (slice_get-get_or c.args.clock.now.clusters.now c.in-Some.traced.cluster c.index-clock-place.result inside)

pub resume_signal-requires-clause-signal : goal.resume_signal-requires-clause-signal
resume_signal-requires-clause-signal c =
    signal_inside c.args.flat.now c.in-Some.traced (subst (λ o. IfSome o (IsListed c.args.flat.now)) c.in-Some.is c.traced_at.ensures.listed)

pub returns-in-None-get-clause-took : goal.returns-in-None-get-clause-took
returns-in-None-get-clause-took c = λ row at.
    let past : length c.args.states.now ≤ c.args.column = search rules in Lost (slice_get_past c.args.states.now c.args.column past) refl

pub returns-in-Some-get-clause-took : goal.returns-in-Some-get-clause-took
returns-in-Some-get-clause-took c =
    let listed : IsListed c.args.flat.now c.in-Some.traced = subst (λ o. IfSome o (IsListed c.args.flat.now)) c.in-Some.is c.traced_at.ensures.listed in
    let inside : c.in-Some.traced.cluster < length c.args.clock.now.clusters.now = c.requires.can.clusters c.in-Some.traced listed in
    let low : c.args.column < length c.args.states.now = search rules in
    let there : slice_get c.args.states.now c.args.column ≡ Some c.in-Some-get.state.now =
    slice_get_read c.args.states.now (length c.args.states.now) c.args.column c.in-Some-get.state.now refl low (search rules) in
    on_ok_weaker c.resume_signal.result (λ takes. λ row at. Took (record {
      it = c.in-Some.traced;
      listed = listed;
      same = sym (c.traced_at.ensures.signal row at) ∙ ap (option_map (λ (t : TracedSignal). t.signal)) c.in-Some.is;
      cluster = slice_index_or c.args.clock.now.clusters.now c.in-Some.traced.cluster c.index-clock-place.result;
      there = slice_get-get_or c.args.clock.now.clusters.now c.in-Some.traced.cluster c.index-clock-place.result inside;
      state = c.in-Some-get.state.now;
      at = there;
      takes = takes;
    })) c.resume_signal.ensures.took
