use Rattle.std.proofs.Common.{◌<◌, List, length, ap, subst, sym}
use Rattle.tdf_expr.specs.Frames.{PortsSeen}
use Rattle.tdf_expr.specs.declared.spans.PortSpan.{PortSpan}
use Rattle.tdf_events.proofs.Reading.{prepared, reads_inside, reset_long}
use Rattle.tdf_events.proofs.running.prepare.Goals as goal

pub read_signals-requires-clause-long : goal.read_signals-requires-clause-long
read_signals-requires-clause-long c = reset_long c.args.ports.now c.reset.new.self c.reset.ensures c.law_fit-2.ensures c.requires.can.one

pub read_signals-requires-clause-inside : goal.read_signals-requires-clause-inside
read_signals-requires-clause-inside c = λ j k at. subst (λ (xs : List PortSpan). k < length xs) (sym (ap (λ (x : PortsSeen). x.spans) c.reset.ensures)) (reads_inside c.args.ports.now.spans c.args.reads.now c.requires.reads j k at)

pub returns-clause-state : goal.returns-clause-state
returns-clause-state c = prepared c.args.values.now c.args.signals.now c.args.reads.now c.args.ports.now c.reset.new.self c.read_signals.new.ports c.requires.can c.requires.reads c.law_fit.ensures c.reset.ensures c.law_fit-2.ensures c.read_signals.ensures
