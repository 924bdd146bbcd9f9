use Rattle.std.proofs.Common.{sym}
use Rattle.tdf_cli.proofs.Outcomes.{late_all, late_part}
use Rattle.tdf_cli.proofs.run.run.Goals as goal

pub returns-in-Some-clause-all : goal.returns-in-Some-clause-all
returns-in-Some-clause-all g c = λ tree accepted. c.run_to.ensures.all tree accepted (sym c.in-Some.ensures.value)

pub returns-in-Some-clause-part : goal.returns-in-Some-clause-part
returns-in-Some-clause-part g c = λ tree accepted. c.run_to.ensures.part tree accepted (sym c.in-Some.ensures.value)

pub returns-in-None-clause-all : goal.returns-in-None-clause-all
returns-in-None-clause-all g c = λ tree accepted.
    late_all c.args.asked tree c.args.sim accepted.kept c.law_one_model.ensures accepted.accepted (sym c.in-None.ensures.value) c.noted.result _ c.noted.ensures.status c.noted.ensures.writes

pub returns-in-None-clause-part : goal.returns-in-None-clause-part
returns-in-None-clause-part g c = λ tree accepted.
    late_part c.args.asked tree c.args.sim accepted.kept c.law_one_model.ensures accepted.accepted (sym c.in-None.ensures.value) c.noted.result _ c.noted.ensures.writes
