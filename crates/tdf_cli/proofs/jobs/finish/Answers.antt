use Rattle.std.proofs.Common.{ap, codes, sym, subst}
use Rattle.tdf_cli.proofs.Outcomes.{noted_all, noted_part}
use Rattle.tdf_cli.specs.Input.{Reading, reading}
use Rattle.tdf_cli.specs.Outcome.{HasOutcome, usage, read_fault, too_long}
use Rattle.tdf_cli.specs.Runs.{note}
use Rattle.tdf_cli.specs.declared.status.Status.TheVariants.{Usage, ReadFault, TooLong}
use Rattle.tdf_cli.proofs.jobs.finish.Goals as goal

pub returns-in-BadWords-clause-all : goal.returns-in-BadWords-clause-all
returns-in-BadWords-clause-all g c = noted_all c.noted.result (reading c.args.input.now) Usage _
    (subst (λ (r : Reading). HasOutcome r (note Usage (codes "usage\n"))) (sym (ap reading c.in-BadWords.is)) usage) c.noted.ensures.status c.noted.ensures.writes

pub returns-in-BadWords-clause-part : goal.returns-in-BadWords-clause-part
returns-in-BadWords-clause-part g c = noted_part c.law_one_outcome.ensures c.noted.result (reading c.args.input.now) Usage _
    (subst (λ (r : Reading). HasOutcome r (note Usage (codes "usage\n"))) (sym (ap reading c.in-BadWords.is)) usage) c.noted.ensures.writes

pub returns-in-TooLong-clause-all : goal.returns-in-TooLong-clause-all
returns-in-TooLong-clause-all g c = noted_all c.noted-in-TooLong.result (reading c.args.input.now) TooLong _
    (subst (λ (r : Reading). HasOutcome r (note TooLong (codes "too long\n"))) (sym (ap reading c.in-TooLong.is)) too_long) c.noted-in-TooLong.ensures.status c.noted-in-TooLong.ensures.writes

pub returns-in-TooLong-clause-part : goal.returns-in-TooLong-clause-part
returns-in-TooLong-clause-part g c = noted_part c.law_one_outcome.ensures c.noted-in-TooLong.result (reading c.args.input.now) TooLong _
    (subst (λ (r : Reading). HasOutcome r (note TooLong (codes "too long\n"))) (sym (ap reading c.in-TooLong.is)) too_long) c.noted-in-TooLong.ensures.writes

pub returns-in-ReadFault-clause-all : goal.returns-in-ReadFault-clause-all
returns-in-ReadFault-clause-all g c = noted_all c.noted-in-ReadFault.result (reading c.args.input.now) ReadFault _
    (subst (λ (r : Reading). HasOutcome r (note ReadFault (codes "read fault\n"))) (sym (ap reading c.in-ReadFault.is)) read_fault) c.noted-in-ReadFault.ensures.status c.noted-in-ReadFault.ensures.writes

pub returns-in-ReadFault-clause-part : goal.returns-in-ReadFault-clause-part
returns-in-ReadFault-clause-part g c = noted_part c.law_one_outcome.ensures c.noted-in-ReadFault.result (reading c.args.input.now) ReadFault _
    (subst (λ (r : Reading). HasOutcome r (note ReadFault (codes "read fault\n"))) (sym (ap reading c.in-ReadFault.is)) read_fault) c.noted-in-ReadFault.ensures.writes
