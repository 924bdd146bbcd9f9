use Rattle.std.proofs.Common.{subst}
use Rattle.tdf_lang_parser.specs.Refused.{IsWhy}
use Rattle.tdf_cli.proofs.Outcomes.{noted_all, noted_part}
use Rattle.tdf_cli.specs.Input.{Text}
use Rattle.tdf_cli.specs.Outcome.{faulty}
use Rattle.tdf_cli.specs.declared.status.Status.TheVariants.{Refused}
use Rattle.tdf_sim.specs.FirstFault.{of_text}
use Rattle.tdf_cli.proofs.jobs.do_text.Goals as goal

pub returns-in-Some-clause-all : goal.returns-in-Some-clause-all
returns-in-Some-clause-all g c = noted_all c.refuse.result (Text c.args.job c.args.text.now.items) Refused _ (faulty c.requires.model (of_text (c.in-Some.ensures c.args.text.now.items (subst (λ t. IsWhy c.in-Err.refused t) c.deref.ensures.value c.in-Err.ensures.refused)))) c.refuse.ensures.status c.refuse.ensures.writes

pub returns-in-Some-clause-part : goal.returns-in-Some-clause-part
returns-in-Some-clause-part g c = noted_part c.law_one_outcome.ensures c.refuse.result (Text c.args.job c.args.text.now.items) Refused _ (faulty c.requires.model (of_text (c.in-Some.ensures c.args.text.now.items (subst (λ t. IsWhy c.in-Err.refused t) c.deref.ensures.value c.in-Err.ensures.refused)))) c.refuse.ensures.writes
