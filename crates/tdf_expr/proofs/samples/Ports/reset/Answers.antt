use Rattle.std.proofs.Common.{◌≡◌, ◌∙◌, None, false, sym, ap, subst, arith}
use Rattle.std.specs.Prelude.{slice_get}
use Rattle.tdf_expr.proofs.Framed.{written_inside, zeroed_all, reset_fit}
use Rattle.tdf_expr.proofs.samples.Ports.reset.Goals as goal
use Rattle.tdf_expr.specs.Frames.{PortsSeen, ArePortsFit, reset_samples, reset_state}
use Rattle.tdf_expr.specs.machine.Zeroed.{zeroed}
use Rattle.tdf_expr_state.specs.Resets.{none_set, no_times}
use Rattle.tdf_expr_state.specs.State.{PortsState}

pub zero_all-requires : goal.zero_all-requires
zero_all-requires c = λ n p at.
    let inside = written_inside 0 c.self.inside.spans.items n p c.self.invariant.fit.placed
    (ap (λ l. slice_get l n) (sym (c.deref.ensures.value ∙ c.self.invariant.written)) ∙ at) in
    omega (arith, inside, c.self.invariant.fit.samples.long)

pub invariant_of-self : goal.invariant_of-self
invariant_of-self c =
    let q : PortsSeen = record { spans = c.self.inside.spans.items; state = c.self.inside.signals } in
    let zero : c.zero_all.new.signals ≡ record q.state { samples = reset_samples q.spans q.state.samples } =
    c.zero_all.ensures ∙ ap (λ l. zeroed l q.state) (c.deref.ensures.value ∙ c.self.invariant.written) ∙ zeroed_all q.spans q.state c.self.invariant.fit.placed c.self.invariant.fit.samples in
    let whole : c.clear_answers.new.self ≡ reset_state q.spans q.state =
    c.clear_answers.ensures ∙ ap (λ (s : PortsState). record s { accepts = None; out_of_range = false })
    (c.clear_steps.ensures ∙ ap (λ (s : PortsState). record s { steps = no_times s.steps })
    (c.clear_notified.ensures ∙ ap (λ (s : PortsState). record s { notified = no_times s.notified })
    (c.clear_assigned.ensures ∙ ap (λ (s : PortsState). record s { assigned = none_set s.assigned }) zero))) in
    record { fit = subst (λ (s : PortsState). ArePortsFit (record q { state = s })) (sym whole) (reset_fit q c.self.invariant.fit); places = c.self.invariant.places; written = c.self.invariant.written }

pub returns : goal.returns
returns c =
    let q : PortsSeen = record { spans = c.self.inside.spans.items; state = c.self.inside.signals } in
    let zero : c.zero_all.new.signals ≡ record q.state { samples = reset_samples q.spans q.state.samples } =
    c.zero_all.ensures ∙ ap (λ l. zeroed l q.state) (c.deref.ensures.value ∙ c.self.invariant.written) ∙ zeroed_all q.spans q.state c.self.invariant.fit.placed c.self.invariant.fit.samples in
    let whole : c.clear_answers.new.self ≡ reset_state q.spans q.state =
    c.clear_answers.ensures ∙ ap (λ (s : PortsState). record s { accepts = None; out_of_range = false })
    (c.clear_steps.ensures ∙ ap (λ (s : PortsState). record s { steps = no_times s.steps })
    (c.clear_notified.ensures ∙ ap (λ (s : PortsState). record s { notified = no_times s.notified })
    (c.clear_assigned.ensures ∙ ap (λ (s : PortsState). record s { assigned = none_set s.assigned }) zero))) in
    ap (λ (s : PortsState). record q { state = s }) whole ∙ ap (λ (x : PortsSeen). record x { state = reset_state x.spans x.state }) c.self.view_is
