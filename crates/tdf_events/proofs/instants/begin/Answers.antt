use Rattle.std.proofs.Common.{◌≡◌, length, ap, ◌∙◌, arith}
use Rattle.std.proofs.lemmas.List.{length-map}
use Rattle.std.proofs.lemmas.Option.{slice_get_within}
use Rattle.tdf_events.proofs.Begun.{begun_kernel, begun_side, due_flags, is_begun}
use Rattle.tdf_events.proofs.Steps.{flags_long}
use Rattle.tdf_events.specs.Delta.{flags_from}
use Rattle.tdf_events.specs.Runnable.{signal_formats}
use Rattle.tdf_events.specs.views.Parts.{kernel_of}
use Rattle.tdf_bind_connections.specs.declared.drivers.SignalRow.{SignalRow}
use Rattle.tdf_events.proofs.instants.begin.Goals as goal

pub write_sinks-requires : goal.write_sinks-requires
write_sinks-requires c = λ i w at. (let one = c.requires.writes.each i w at in let less = slice_get_within (signal_formats c.args.flat.now) w.signal one.0 one.1 in
    let long = length-map c.args.flat.now.tables.de_signals (λ (r : SignalRow). r.format) in omega (arith, less, long, c.requires.kernel.waiting))

pub returns-clause-kernel : goal.returns-clause-kernel
returns-clause-kernel c =
    let flags : c.come.new.set.flags ≡ flags_from (is_begun c.args.time (kernel_of c.args.parts.now)) 0 c.args.flat.now.tables.processes =
    due_flags c.args.flat.now c.args.time (kernel_of c.args.parts.now) c.come.new.set.flags c.requires.kernel c.come.ensures.reached in
    begun_kernel c.args.flat.now c.args.time (kernel_of c.args.parts.now) c.args.writes.now c.come.new.self c.come.new.set c.write_sinks.new.waiting c.requires.kernel c.requires.writes c.come.ensures.gone
    (ap length flags ∙ flags_long (is_begun c.args.time (kernel_of c.args.parts.now)) 0 c.args.flat.now.tables.processes) c.write_sinks.ensures

pub returns-clause-side : goal.returns-clause-side
returns-clause-side c =
    let flags : c.come.new.set.flags ≡ flags_from (is_begun c.args.time (kernel_of c.args.parts.now)) 0 c.args.flat.now.tables.processes =
    due_flags c.args.flat.now c.args.time (kernel_of c.args.parts.now) c.come.new.set.flags c.requires.kernel c.come.ensures.reached in
    begun_side c.args.flat.now c.args.time (kernel_of c.args.parts.now) c.args.writes.now c.come.new.self c.come.new.set.flags c.write_sinks.new.waiting c.come.ensures.gone flags c.write_sinks.ensures
