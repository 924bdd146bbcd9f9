use Rattle.tdf_schedule.proofs.Gains.{laid_next}
use Rattle.tdf_schedule.proofs.turns.lay_next.Goals as goal

pub returns-clause-laid : goal.returns-clause-laid
returns-clause-laid c = laid_next c.args.table.now.items c.args.laid.now.done.items c.args.laid.now.entries.items c.push.new.self.items c.args.actor c.index-index.result.now c.index.result.now c.key-key.result
    c.requires.laid c.requires.more c.index-index.ensures c.index.ensures c.key-key.ensures c.in_ok-push.ensures.items
