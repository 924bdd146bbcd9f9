use Rattle.tdf_cli.proofs.Outcomes.{each_ok, each_err, plan_all, plan_part}
use Rattle.tdf_cli.proofs.jobs.plan.Goals as goal
use Rattle.tdf_lang_tree.specs.Views.{pure_tree}

pub returns-in-Ok-clause-all : goal.returns-in-Ok-clause-all
returns-in-Ok-clause-all g c = each_ok c.put_texts.result (pure_tree c.args.tree.now) _
    (λ text spells. plan_all c.put_texts.result text (pure_tree c.args.tree.now) c.args.sim.now c.in-Ok.texts _ _ _ _ spells c.requires.accepted c.in-Ok.ensures
    c.put_texts.ensures.status c.put_texts.ensures.out c.put_texts.ensures.notes)

pub returns-in-Ok-clause-part : goal.returns-in-Ok-clause-part
returns-in-Ok-clause-part g c = each_err c.put_texts.result (pure_tree c.args.tree.now) _
    (λ text spells. plan_part c.put_texts.result text (pure_tree c.args.tree.now) c.args.sim.now c.in-Ok.texts _ _ _ _ spells c.requires.accepted c.law_one_outcome.ensures c.in-Ok.ensures
    c.put_texts.ensures.out_part c.put_texts.ensures.notes_part)
