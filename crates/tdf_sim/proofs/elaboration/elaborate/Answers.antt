use Rattle.std.proofs.lemmas.Result.{IfOk-weaker}
use Rattle.tdf_sim.proofs.Refusing.{always, err_always, parser_refused, text_accepted, text_refused}
use Rattle.tdf_sim.specs.Runs.{IsAcceptedTree, IsSomeAccepted}
use Rattle.tdf_sim.proofs.elaboration.elaborate.Goals as goal
use Rattle.tdf_lang_tree.specs.Views.{pure_tree}

pub returns-in-Ok-clause-runs : goal.returns-in-Ok-clause-runs
returns-in-Ok-clause-runs c = IfOk-weaker c.elaborate_tree.result (IsAcceptedTree (pure_tree c.in-Ok.tree)) IsSomeAccepted (λ sim is. record { tree = pure_tree c.in-Ok.tree; of = is }) c.elaborate_tree.ensures.of

pub returns-in-Ok-clause-refused : goal.returns-in-Ok-clause-refused
returns-in-Ok-clause-refused c = text_refused c.args.text.now (pure_tree c.in-Ok.tree) c.elaborate_tree.result c.in-Ok.ensures.tree c.elaborate_tree.ensures.refused

pub returns-in-Err-clause-refused : goal.returns-in-Err-clause-refused
returns-in-Err-clause-refused c = parser_refused c.args.text.now c.in-Err.error c.by_parser.result c.by_parser.ensures c.in-Err.ensures.refused

pub returns-in-Err-clause-always : goal.returns-in-Err-clause-always
returns-in-Err-clause-always c = err_always c.args.text.now c.by_parser.result c.law_first_fault.ensures.one
    (parser_refused c.args.text.now c.in-Err.error c.by_parser.result c.by_parser.ensures c.in-Err.ensures.refused)

pub returns-in-Ok-clause-always : goal.returns-in-Ok-clause-always
returns-in-Ok-clause-always c = always c.args.text.now c.elaborate_tree.result c.law_first_fault.ensures.one c.law_first_fault.ensures.apart
    (text_accepted c.args.text.now (pure_tree c.in-Ok.tree) c.elaborate_tree.result c.in-Ok.ensures.tree c.elaborate_tree.ensures.accepted)
    (text_refused c.args.text.now (pure_tree c.in-Ok.tree) c.elaborate_tree.result c.in-Ok.ensures.tree c.elaborate_tree.ensures.refused)
