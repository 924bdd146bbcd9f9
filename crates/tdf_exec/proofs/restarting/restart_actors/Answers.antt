use Rattle.std.proofs.Common.{ap, subst}
use Rattle.tdf_exec.proofs.Others.{all_restarted, at_places}
use Rattle.tdf_exec.specs.declared.runners.Runner.TheVariants as runner
use Rattle.tdf_exec.specs.machine.Restarting.{AreRestarted, CanRestart}
use Rattle.tdf_exec.specs.views.Actors.{ActorsOf, with_runners}
use Rattle.tdf_places.specs.Spread.{spread}
use Rattle.tdf_exec.proofs.restarting.restart_actors.Goals as goal

pub restart_all-requires-clause-can : goal.restart_all-requires-clause-can
restart_all-requires-clause-can c =
    at_places c.actors.inside.places c.law_apart.ensures c.actors.inside.runners.items c.actors.invariant.runners_long {P = CanRestart c.args.flat.now} c.args.actors.now.runners
    (ap (λ (a : ActorsOf). a.runners) c.actors.view_is) c.requires.can

pub returns-clause-restarted : goal.returns-clause-restarted
returns-clause-restarted c =
    subst (λ (a : ActorsOf). AreRestarted c.args.flat.now c.args.attrs.now.rows a.runners (spread runner.Outside c.actors.inside.places c.restart_all.new.runners.items)) c.actors.view_is
    (all_restarted c.args.flat.now c.args.attrs.now.rows c.actors.inside.places c.law_apart.ensures c.actors.inside.runners.items c.restart_all.new.runners.items c.actors.invariant.runners_long c.restart_all.ensures)

pub returns-clause-rest : goal.returns-clause-rest
returns-clause-rest c = ap (λ (a : ActorsOf). with_runners (spread runner.Outside c.actors.inside.places c.restart_all.new.runners.items) a) c.actors.view_is
