use Rattle.std.proofs.Common.{[], subst}
use Rattle.tdf_events.specs.Side.{SideOf}
use Rattle.tdf_sim_history.specs.Rules.{start_world}
use Rattle.tdf_sim_history.specs.World.{World}
use Rattle.tdf_sim_runs.proofs.paused.Paused.snapshot.Goals as goal
use Rattle.tdf_sim_runs.specs.Saving.{is_vcd}
use Rattle.tdf_sim_shown.specs.Below.{AreInFormatsTo, IsSnapshot}
use Rattle.tdf_sim_runs.proofs.Answering.{if_ok}
use Rattle.tdf_sim_runs.proofs.WholeRun.{have_to, told_is}

pub returns-clause-is : goal.returns-clause-is
returns-clause-is c = λ model start handed m at.
    if_ok c.snapshot_of.result c.snapshot_of.ensures (λ s is. is model start handed m at.goes_on at.rows)

pub returns-clause-of_run : goal.returns-clause-of_run
returns-clause-of_run c = λ model firsts handed m at.
    let p = c.args.self.now in
    if_ok c.snapshot_of.result c.snapshot_of.ensures (λ s is. record {
      ahead = at.goes_on.going.ahead;
      answers = have_to p.kind model p.flat firsts at.goes_on.going.ahead p.run.from p.turns at.goes_on.going.told;
      world = at.goes_on.going.world;
      is = subst (λ (w : World SideOf). IsSnapshot model p.flat w at.goes_on.going.world p.run.from p.turns (is_vcd p.kind) s)
          (told_is p.kind model p.flat firsts at.goes_on.going.ahead p.run.from p.turns) (is model (start_world model p.flat firsts [] p.turns) handed m at.goes_on at.rows);
      fits = subst (λ (w : World SideOf). AreInFormatsTo model p.flat w p.run.from) (told_is p.kind model p.flat firsts at.goes_on.going.ahead p.run.from p.turns) at.goes_on.fits;
    })
