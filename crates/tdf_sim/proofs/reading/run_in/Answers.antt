use Rattle.std.proofs.Common.{Err, ap, subst}
use Rattle.std.proofs.lemmas.Result.{IfOk-weaker}
use Rattle.tdf_saved.specs.State.{SnapshotOf}
use Rattle.tdf_saved.specs.declared.err.StateErr.TheVariants.{Bad}
use Rattle.tdf_sim.proofs.FromBytes.{one_read, same_err}
use Rattle.tdf_sim.proofs.reading.run_in.Goals as goal
use Rattle.tdf_sim.specs.machine.Reading.{IsNoStart, IsRestored, IsRunIn}

pub returns-in-Ok-clause-run : goal.returns-in-Ok-clause-run
returns-in-Ok-clause-run c = IfOk-weaker c.restored.result (IsRestored c.args.flat c.in-Ok.snapshot) (IsRunIn c.args.flat c.args.bytes.now)
    (λ p is. record { snapshot = c.in-Ok.snapshot; read = c.in-Ok.ensures.read; restored = is }) c.restored.ensures.restored

pub returns-in-Ok-clause-bad : goal.returns-in-Ok-clause-bad
returns-in-Ok-clause-bad c = λ bad s read. subst (λ (x : SnapshotOf). IsNoStart c.args.flat x)
    (one_read c.law_text.ensures.one c.law_members.ensures.apart c.args.flat c.args.bytes.now c.in-Ok.snapshot s c.requires.model c.in-Ok.ensures.read read) (c.restored.ensures.bad bad)

pub returns-in-Err-clause-bad : goal.returns-in-Err-clause-bad
returns-in-Err-clause-bad c = λ bad s read. absurd (c.in-Err.ensures.bad (ap Err (same_err c.in-Err.error Bad bad)) s read)
