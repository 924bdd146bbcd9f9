use Rattle.std.proofs.Common.{rules, ◌≡◌, List, Some, length, slice_get, refl, sym, subst}
use Rattle.std.proofs.lemmas.Option.{slice_get_read}
use Rattle.tdf_events.specs.machine.Reading.{CanRead, HasRun}
use Rattle.tdf_expr.specs.Made.{AreMadeFor}
use Rattle.tdf_expr.specs.declared.spans.PortSpan.{PortSpan}
use Rattle.tdf_fixed.specs.declared.raw.Raw.{Raw}
use Rattle.tdf_events.proofs.evaluating.act_in.Goals as goal

pub act-requires-clause-made : goal.act-requires-clause-made
act-requires-clause-made c =
    let fat : slice_get c.args.parts.now.frames.items c.args.owner ≡ Some c.index_mut.result.now = slice_get_read c.args.parts.now.frames.items (length c.args.parts.now.frames.items) c.args.owner c.index_mut.result.now refl c.requires.frame (search rules) in
    let pat : slice_get c.args.parts.now.ports.items c.args.owner ≡ Some c.index_mut-2.result.now = slice_get_read c.args.parts.now.ports.items (length c.args.parts.now.ports.items) c.args.owner c.index_mut-2.result.now refl c.requires.ports (search rules) in
    c.requires.made c.index_mut.result.now c.index_mut-2.result.now fat pat

pub act-requires-clause-can : goal.act-requires-clause-can
act-requires-clause-can c =
    let fat : slice_get c.args.parts.now.frames.items c.args.owner ≡ Some c.index_mut.result.now = slice_get_read c.args.parts.now.frames.items (length c.args.parts.now.frames.items) c.args.owner c.index_mut.result.now refl c.requires.frame (search rules) in
    let pat : slice_get c.args.parts.now.ports.items c.args.owner ≡ Some c.index_mut-2.result.now = slice_get_read c.args.parts.now.ports.items (length c.args.parts.now.ports.items) c.args.owner c.index_mut-2.result.now refl c.requires.ports (search rules) in
    let made : AreMadeFor c.args.checked.now c.args.block.now.block c.index_mut.result.now c.index_mut-2.result.now = c.requires.made c.index_mut.result.now c.index_mut-2.result.now fat pat in
    subst (λ (v : List Raw). CanRead v c.index_mut-2.result.now.spans c.args.block.now.signals) (sym c.deref.ensures.value)
    (subst (λ (p : List PortSpan). CanRead c.args.parts.now.values.items p c.args.block.now.signals) (sym made.ports_are) c.requires.read)

pub returns : goal.returns
returns c =
    let fat : slice_get c.args.parts.now.frames.items c.args.owner ≡ Some c.index_mut.result.now = slice_get_read c.args.parts.now.frames.items (length c.args.parts.now.frames.items) c.args.owner c.index_mut.result.now refl c.requires.frame (search rules) in
    record {
      before = c.index_mut.result.now;
      after = c.act.new.frame;
      left = c.act.new.ports;
      was = fat;
      frames = refl;
      ports = refl;
      run = subst (λ (v : List Raw). HasRun c.args.checked.now c.args.block.now.block c.args.number v c.args.block.now.signals c.index_mut.result.now.state c.act.new.frame.state c.act.new.ports.state)
          c.deref.ensures.value c.act.ensures.run;
      made = c.act.ensures.made;
      fit = c.act.ensures.fit;
      rest = refl;
    }
