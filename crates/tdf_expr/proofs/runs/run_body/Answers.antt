use Rattle.std.proofs.Common.{◌≡◌, ◌∙◌, Some, length, refl, sym, ap, subst}
use Rattle.std.proofs.lemmas.Option.{slice_get_read}
use Rattle.std.specs.Prelude.{slice_get}
use Rattle.tdf_expr.proofs.Ran.{made_safe, made_frame, made_ports, made_ran, made_still, made_left}
use Rattle.tdf_expr.proofs.runs.run_body.Goals as goal
use Rattle.tdf_expr.specs.Compiled.{act_of}
use Rattle.tdf_expr.specs.Frames.{FrameSeen, PortsSeen, IsFrameFit, ArePortsFit, KeepsRead}
use Rattle.tdf_expr.specs.Made.{AreMadeFor}
use Rattle.tdf_expr.specs.Runs.{Ran}
use Rattle.tdf_expr.specs.machine.Parts.{part_done}
use Rattle.tdf_expr_state.specs.State.{FrameState, PortsState, State, state_of}

pub run_part-requires : goal.run_part-requires
run_part-requires c =
    let f : FrameSeen = record { formats = c.frame.inside.formats.items; rates = c.frame.inside.rates.items; state = c.frame.inside.cells } in
    let q : PortsSeen = record { spans = c.ports.inside.spans.items; state = c.ports.inside.signals } in
    let n = c.args.number in
    let b = c.index-block.result.now in
    let made : AreMadeFor c.args.checked.now n f q =
    subst (λ (x : FrameSeen). AreMadeFor c.args.checked.now n x q) (sym c.frame.view_is)
    (subst (λ (y : PortsSeen). AreMadeFor c.args.checked.now n c.args.frame.now y) (sym c.ports.view_is) c.requires.made) in
    let held : slice_get c.args.checked.now.blocks.items n ≡ Some b =
    slice_get_read c.args.checked.now.blocks.items (length c.args.checked.now.blocks.items) n b refl c.requires.made.block c.index-block.ensures in
    made_safe c.args.checked.now n b f q made held c.frame.invariant c.ports.invariant.fit c.args.body

pub invariant_of-frame : goal.invariant_of-frame
invariant_of-frame c =
    let f : FrameSeen = record { formats = c.frame.inside.formats.items; rates = c.frame.inside.rates.items; state = c.frame.inside.cells } in
    let q : PortsSeen = record { spans = c.ports.inside.spans.items; state = c.ports.inside.signals } in
    let n = c.args.number in
    let b = c.index-block.result.now in
    let made : AreMadeFor c.args.checked.now n f q =
    subst (λ (x : FrameSeen). AreMadeFor c.args.checked.now n x q) (sym c.frame.view_is)
    (subst (λ (y : PortsSeen). AreMadeFor c.args.checked.now n c.args.frame.now y) (sym c.ports.view_is) c.requires.made) in
    let held : slice_get c.args.checked.now.blocks.items n ≡ Some b =
    slice_get_read c.args.checked.now.blocks.items (length c.args.checked.now.blocks.items) n b refl c.requires.made.block c.index-block.ensures in
    subst (λ (s : FrameState). IsFrameFit (record f { state = s })) (sym c.run_part.ensures.frame)
    (made_frame c.args.checked.now n b f q made held c.frame.invariant c.ports.invariant.fit c.args.body)

pub invariant_of-ports : goal.invariant_of-ports
invariant_of-ports c =
    let f : FrameSeen = record { formats = c.frame.inside.formats.items; rates = c.frame.inside.rates.items; state = c.frame.inside.cells } in
    let q : PortsSeen = record { spans = c.ports.inside.spans.items; state = c.ports.inside.signals } in
    let n = c.args.number in
    let b = c.index-block.result.now in
    let made : AreMadeFor c.args.checked.now n f q =
    subst (λ (x : FrameSeen). AreMadeFor c.args.checked.now n x q) (sym c.frame.view_is)
    (subst (λ (y : PortsSeen). AreMadeFor c.args.checked.now n c.args.frame.now y) (sym c.ports.view_is) c.requires.made) in
    let held : slice_get c.args.checked.now.blocks.items n ≡ Some b =
    slice_get_read c.args.checked.now.blocks.items (length c.args.checked.now.blocks.items) n b refl c.requires.made.block c.index-block.ensures in
    record {
      fit = subst (λ (s : PortsState). ArePortsFit (record q { state = s })) (sym c.run_part.ensures.ports)
          (made_ports c.args.checked.now n b f q made held c.frame.invariant c.ports.invariant.fit c.args.body);
      places = c.ports.invariant.places;
      written = c.ports.invariant.written;
    }

pub returns-clause-after : goal.returns-clause-after
returns-clause-after c =
    let f : FrameSeen = record { formats = c.frame.inside.formats.items; rates = c.frame.inside.rates.items; state = c.frame.inside.cells } in
    let q : PortsSeen = record { spans = c.ports.inside.spans.items; state = c.ports.inside.signals } in
    let n = c.args.number in
    let b = c.index-block.result.now in
    let made : AreMadeFor c.args.checked.now n f q =
    subst (λ (x : FrameSeen). AreMadeFor c.args.checked.now n x q) (sym c.frame.view_is)
    (subst (λ (y : PortsSeen). AreMadeFor c.args.checked.now n c.args.frame.now y) (sym c.ports.view_is) c.requires.made) in
    let held : slice_get c.args.checked.now.blocks.items n ≡ Some b =
    slice_get_read c.args.checked.now.blocks.items (length c.args.checked.now.blocks.items) n b refl c.requires.made.block c.index-block.ensures in
    let d = part_done (act_of b.acts c.args.body) (state_of f.state q.state) in
    let same : d ≡ state_of c.run_part.new.cells c.run_part.new.signals =
    ap (λ x. state_of x d.ports) (sym c.run_part.ensures.frame) ∙ ap (λ y. state_of c.run_part.new.cells y) (sym c.run_part.ensures.ports) in
    let first : state_of f.state q.state ≡ state_of c.args.frame.now.state c.args.ports.now.state =
    ap (λ (x : FrameSeen). state_of x.state q.state) c.frame.view_is ∙ ap (λ (y : PortsSeen). state_of c.args.frame.now.state y.state) c.ports.view_is in
    subst (λ (x : State). Ran c.args.checked.now n c.args.body x (state_of c.run_part.new.cells c.run_part.new.signals)) first
    (subst (λ (x : State). Ran c.args.checked.now n c.args.body (state_of f.state q.state) x) same
    (made_ran c.args.checked.now n b f q made held c.frame.invariant c.ports.invariant.fit c.args.body))

pub returns-clause-frame : goal.returns-clause-frame
returns-clause-frame c =
    let f : FrameSeen = record { formats = c.frame.inside.formats.items; rates = c.frame.inside.rates.items; state = c.frame.inside.cells } in
    let q : PortsSeen = record { spans = c.ports.inside.spans.items; state = c.ports.inside.signals } in
    let n = c.args.number in
    let b = c.index-block.result.now in
    let made : AreMadeFor c.args.checked.now n f q =
    subst (λ (x : FrameSeen). AreMadeFor c.args.checked.now n x q) (sym c.frame.view_is)
    (subst (λ (y : PortsSeen). AreMadeFor c.args.checked.now n c.args.frame.now y) (sym c.ports.view_is) c.requires.made) in
    let held : slice_get c.args.checked.now.blocks.items n ≡ Some b =
    slice_get_read c.args.checked.now.blocks.items (length c.args.checked.now.blocks.items) n b refl c.requires.made.block c.index-block.ensures in
    let still = made_still c.args.checked.now n b f q made held c.frame.invariant c.ports.invariant.fit c.args.body in
    let d = part_done (act_of b.acts c.args.body) (state_of f.state q.state) in
    subst (λ (s : PortsState). AreMadeFor c.args.checked.now n (record f { state = c.run_part.new.cells }) (record q { state = s })) (sym c.run_part.ensures.ports)
    (subst (λ (s : FrameState). AreMadeFor c.args.checked.now n (record f { state = s }) (record q { state = d.ports })) (sym c.run_part.ensures.frame) still)

pub returns-clause-inputs : goal.returns-clause-inputs
returns-clause-inputs c =
    let f : FrameSeen = record { formats = c.frame.inside.formats.items; rates = c.frame.inside.rates.items; state = c.frame.inside.cells } in
    let q : PortsSeen = record { spans = c.ports.inside.spans.items; state = c.ports.inside.signals } in
    let n = c.args.number in
    let b = c.index-block.result.now in
    let made : AreMadeFor c.args.checked.now n f q =
    subst (λ (x : FrameSeen). AreMadeFor c.args.checked.now n x q) (sym c.frame.view_is)
    (subst (λ (y : PortsSeen). AreMadeFor c.args.checked.now n c.args.frame.now y) (sym c.ports.view_is) c.requires.made) in
    let held : slice_get c.args.checked.now.blocks.items n ≡ Some b =
    slice_get_read c.args.checked.now.blocks.items (length c.args.checked.now.blocks.items) n b refl c.requires.made.block c.index-block.ensures in
    let left = made_left c.args.checked.now n b f q made held c.frame.invariant c.ports.invariant.fit c.args.body in
    subst (λ (y : PortsSeen). KeepsRead y (record q { state = c.run_part.new.signals })) c.ports.view_is
    (subst (λ (s : PortsState). KeepsRead q (record q { state = s })) (sym c.run_part.ensures.ports) left)
