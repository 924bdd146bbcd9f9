use Rattle.tdf_dynamic_texts.proofs.Texts.{accepted_joins}
use Rattle.tdf_dynamic_texts.proofs.plans.push_accepted_line.Goals as goal

pub returns-clause-ok : goal.returns-clause-ok
returns-clause-ok c = accepted_joins c.push_word-3.result c.args.out.now.items c.push_word.new.out.items c.push_word-2.new.out.items c.push_number.new.out.items c.push_word-3.new.out.items
    c.from.result c.args.clusters c.from.ensures c.in_ok-push_word.ensures.ok c.in_ok-push_word-2.ensures.ok c.in_ok-push_number.ensures.ok c.push_word-3.ensures.ok
