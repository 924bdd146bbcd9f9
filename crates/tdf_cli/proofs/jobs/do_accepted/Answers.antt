use Rattle.std.proofs.Common.{IfOk, OnErr, subst, sym}
use Rattle.tdf_cli.proofs.Outcomes.{each_err, each_ok, run_all, run_part}
use Rattle.tdf_cli.specs.Input.{Text}
use Rattle.tdf_cli.specs.Outcome.{WritesNothingOrFront, WritesOutcome}
use Rattle.tdf_lang_tree.specs.Views.{pure_tree}
use Rattle.tdf_cli_words.specs.declared.asked.Settings.{Settings}
use Rattle.tdf_cli.proofs.jobs.do_accepted.Goals as goal

pub returns-in-Load-clause-all : goal.returns-in-Load-clause-all
returns-in-Load-clause-all g c = each_ok c.measure.result (pure_tree c.args.tree)
    (λ text s. WritesOutcome (Text c.args.job text) s (g.O.Sink.taken c.args.out.now) (g.O.Sink.taken c.measure.new.out) (g.N.Sink.taken c.args.notes.now) (g.N.Sink.taken c.args.notes.now))
    (λ text spells. subst (λ (job : Settings). IfOk c.measure.result (λ s. WritesOutcome (Text job text) s (g.O.Sink.taken c.args.out.now) (g.O.Sink.taken c.measure.new.out)
    (g.N.Sink.taken c.args.notes.now) (g.N.Sink.taken c.args.notes.now))) (sym c.in-Load.is)
    (c.measure.ensures.all (pure_tree c.args.tree) text c.in-Load.seed (g.N.Sink.taken c.args.notes.now) spells c.requires.accepted))

pub returns-in-Load-clause-part : goal.returns-in-Load-clause-part
returns-in-Load-clause-part g c = each_err c.measure.result (pure_tree c.args.tree)
    (λ text. WritesNothingOrFront (Text c.args.job text) (g.O.Sink.taken c.args.out.now) (g.O.Sink.taken c.measure.new.out) (g.N.Sink.taken c.args.notes.now) (g.N.Sink.taken c.args.notes.now))
    (λ text spells. subst (λ (job : Settings). OnErr c.measure.result (WritesNothingOrFront (Text job text) (g.O.Sink.taken c.args.out.now) (g.O.Sink.taken c.measure.new.out)
    (g.N.Sink.taken c.args.notes.now) (g.N.Sink.taken c.args.notes.now))) (sym c.in-Load.is)
    (c.measure.ensures.part (pure_tree c.args.tree) text c.in-Load.seed (g.N.Sink.taken c.args.notes.now) spells c.requires.accepted))

pub returns-in-Run-clause-all : goal.returns-in-Run-clause-all
returns-in-Run-clause-all g c = each_ok c.run.result (pure_tree c.args.tree)
    (λ text s. WritesOutcome (Text c.args.job text) s (g.O.Sink.taken c.args.out.now) (g.O.Sink.taken c.run.new.out) (g.N.Sink.taken c.args.notes.now) (g.N.Sink.taken c.run.new.notes))
    (λ text spells. subst (λ (job : Settings). IfOk c.run.result (λ s. WritesOutcome (Text job text) s (g.O.Sink.taken c.args.out.now) (g.O.Sink.taken c.run.new.out)
    (g.N.Sink.taken c.args.notes.now) (g.N.Sink.taken c.run.new.notes))) (sym c.in-Run.is)
    (run_all c.run.result c.in-Run.asked text (pure_tree c.args.tree) _ _ _ _ spells (c.run.ensures.all (pure_tree c.args.tree) c.requires.accepted)))

pub returns-in-Run-clause-part : goal.returns-in-Run-clause-part
returns-in-Run-clause-part g c = each_err c.run.result (pure_tree c.args.tree)
    (λ text. WritesNothingOrFront (Text c.args.job text) (g.O.Sink.taken c.args.out.now) (g.O.Sink.taken c.run.new.out) (g.N.Sink.taken c.args.notes.now) (g.N.Sink.taken c.run.new.notes))
    (λ text spells. subst (λ (job : Settings). OnErr c.run.result (WritesNothingOrFront (Text job text) (g.O.Sink.taken c.args.out.now) (g.O.Sink.taken c.run.new.out)
    (g.N.Sink.taken c.args.notes.now) (g.N.Sink.taken c.run.new.notes))) (sym c.in-Run.is)
    (run_part c.run.result c.in-Run.asked text (pure_tree c.args.tree) c.args.sim _ _ _ _ c.law_first_fault.ensures.apart spells c.requires.accepted.accepted
    (c.run.ensures.part (pure_tree c.args.tree) c.requires.accepted)))
