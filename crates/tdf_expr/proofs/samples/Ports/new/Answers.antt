use Rattle.std.proofs.Common.{◌≡◌, ◌∙◌, ◌<◌, Some, None, false, ◌+◌, List, length, map, refl, sym, ap, pos, replicate, rules}
use Rattle.std.specs.Vec.{vec_len}
use Rattle.std.proofs.lemmas.Option.{slice_get_read}
use Rattle.std.specs.Prelude.{slice_get}
use Rattle.tdf_expr.proofs.Ran.{block_ports}
use Rattle.tdf_expr.proofs.samples.Ports.new.Goals as goal
use Rattle.tdf_expr.specs.declared.spans.PortSpan.{PortSpan}
use Rattle.tdf_expr.specs.Made.{spans_in, block_samples, events_in}
use Rattle.tdf_expr.specs.machine.Zeroed.{sample_place, written_in}

pub invariant_of-result : goal.invariant_of-result
invariant_of-result c =
    let within : c.args.number < length c.args.checked.now.blocks.items = c.requires.block in
    let held : slice_get c.args.checked.now.blocks.items c.args.number ≡ Some c.index-block.result.now =
    slice_get_read c.args.checked.now.blocks.items (length c.args.checked.now.blocks.items) c.args.number c.index-block.result.now refl within c.index-block.ensures in
    let b = c.index-block.result.now in
    let spans : c.in_ok-spans.spans.items ≡ b.ports.spans.items = c.in_ok-spans.ensures.items ∙ c.deref.ensures.value in
    let count : vec_len c.in_ok-spans.spans ≡ length c.in_ok-spans.spans.items = search rules in
    record {
      fit = block_ports c.args.checked.now c.args.number b c.requires.made held (record { spans = c.in_ok-spans.spans.items; state = c.in_ok-signals.signals })
          spans c.in_ok-signals.ensures.samples (c.in_ok-signals.ensures.assigned ∙ ap (λ n. replicate n false) (c.len.ensures ∙ count))
          (c.in_ok-signals.ensures.steps ∙ ap (λ n. replicate (n + 1) None) (c.len.ensures ∙ count));
      places = c.in_ok-places.ensures ∙ ap (λ (l : List PortSpan). map sample_place l) c.deref-2.ensures.value;
      written = c.in_ok-written.ensures ∙ ap written_in c.deref-3.ensures.value;
    }

pub returns-clause-spans : goal.returns-clause-spans
returns-clause-spans c =
    let within : c.args.number < length c.args.checked.now.blocks.items = c.requires.block in
    let held : slice_get c.args.checked.now.blocks.items c.args.number ≡ Some c.index-block.result.now =
    slice_get_read c.args.checked.now.blocks.items (length c.args.checked.now.blocks.items) c.args.number c.index-block.result.now refl within c.index-block.ensures in
    c.in_ok-spans.ensures.items ∙ c.deref.ensures.value ∙ sym (ap spans_in held)

pub returns-clause-samples : goal.returns-clause-samples
returns-clause-samples c =
    let within : c.args.number < length c.args.checked.now.blocks.items = c.requires.block in
    let held : slice_get c.args.checked.now.blocks.items c.args.number ≡ Some c.index-block.result.now =
    slice_get_read c.args.checked.now.blocks.items (length c.args.checked.now.blocks.items) c.args.number c.index-block.result.now refl within c.index-block.ensures in
    c.in_ok-signals.ensures.samples ∙ ap (λ n. replicate n (pos 0)) (sym (ap block_samples held))

pub returns-clause-notified : goal.returns-clause-notified
returns-clause-notified c =
    let within : c.args.number < length c.args.checked.now.blocks.items = c.requires.block in
    let held : slice_get c.args.checked.now.blocks.items c.args.number ≡ Some c.index-block.result.now =
    slice_get_read c.args.checked.now.blocks.items (length c.args.checked.now.blocks.items) c.args.number c.index-block.result.now refl within c.index-block.ensures in
    c.in_ok-signals.ensures.notified ∙ ap (λ n. replicate n None) (sym (ap events_in held))
