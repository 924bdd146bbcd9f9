use Rattle.std.proofs.Common.{◌≡◌, ◌≤◌, ◌-◌, Ok}
use Rattle.std.specs.Prelude.{⊤}
use Rattle.tdf_io.specs.Faults.{CountsSinkFaults}
use Rattle.tdf_sim_runs.proofs.running.Running.go.Given as goal
use Rattle.tdf_sim_runs.specs.Handing.{GoesHanding}
use Rattle.tdf_sim_runs.specs.Running.{CanGoOn}
use Rattle.tdf_trace.specs.declared.stage.Stage.TheVariants.{Open}

abbrev pub invariant-loop-ended : goal.invariant-loop-ended
invariant-loop-ended g l = record {
  can : CanGoOn l.flat l.self;
  goes : GoesHanding l.flat l.initial.self l.self (g.K.Sink.taken l.initial.out) (g.K.Sink.taken l.out) (g.N.Sink.taken l.initial.notes) (g.N.Sink.taken l.notes);
  within : l.self.from ≤ l.stop;
  opened : l.self.shown.trace.stage ≡ Open;
  counted : CountsSinkFaults {T = ⊤} (g.K.Sink.faults l.initial.out) (g.K.Sink.faults l.out) (Ok tt);
  noted : CountsSinkFaults {T = ⊤} (g.N.Sink.faults l.initial.notes) (g.N.Sink.faults l.notes) (Ok tt);
}

abbrev pub decreases-loop-ended : goal.decreases-loop-ended
decreases-loop-ended g l = l.stop - l.self.from
