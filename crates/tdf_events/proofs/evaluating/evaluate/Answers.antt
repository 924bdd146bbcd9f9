use Rattle.std.proofs.Common.{List, Bool, length, ap, sym, ◌∙◌}
use Rattle.tdf_events_queue.proofs.Api.{by_list}
use Rattle.tdf_events_queue.specs.Evaluation.{evaluated}
use Rattle.tdf_events.specs.Kernel.{side_of}
use Rattle.tdf_events.specs.Processes.{ran}
use Rattle.tdf_events.specs.views.Parts.{kernel_of}
use Rattle.tdf_events.proofs.evaluating.evaluate.Goals as goal

pub returns-clause-evaluated : goal.returns-clause-evaluated
returns-clause-evaluated c = λ model checked. c.run_all.ensures.ran model checked
    ∙ sym (by_list (ran model c.args.flat.now c.args.time) c.sort.new.self.flags c.sort.new.self.members c.sort.ensures.rising (record (side_of (kernel_of c.args.parts.now)) { triggered = c.sort.new.self.flags }))
    ∙ ap (λ (flags : List Bool). evaluated (ran model c.args.flat.now c.args.time) flags (length flags) (record (side_of (kernel_of c.args.parts.now)) { triggered = flags })) c.sort.ensures.flags
