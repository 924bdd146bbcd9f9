use Rattle.std.proofs.Common.{arith}
use Rattle.tdf_graph.proofs.Numbers.{old_next, new_next}
use Rattle.tdf_graph.proofs.numbering.put_number.Goals as goal

pub returns-then-number-ne0 : goal.returns-then-number-ne0
returns-then-number-ne0 c = old_next c.args.actor c.args.last c.label-label.result c.index-number.result.now c.args.parts.now c.args.table.now.items
    c.args.numbers.now.items c.push.new.self.items c.requires.numbered c.label-label.ensures.value c.label-label.ensures.within
    c.index-number.ensures c.if-number-ne0.true c.in_ok-push.ensures.items

pub overflow_add-last : goal.overflow_add-last
overflow_add-last c = let f = c.requires.numbered.few in omega (arith, f, c.requires.few, c.requires.more)

pub overflow_add-last-2 : goal.overflow_add-last-2
overflow_add-last-2 c = let f = c.requires.numbered.few in omega (arith, f, c.requires.few, c.requires.more)

pub overflow_add-result : goal.overflow_add-result
overflow_add-result c = let f = c.requires.numbered.few in omega (arith, f, c.requires.few, c.requires.more)

pub returns : goal.returns
returns c = new_next c.args.actor c.args.last c.label-label.result c.index-number.result.now c.args.parts.now c.args.table.now.items
    c.args.numbers.now.items c.push-2.new.self.items c.requires.numbered c.label-label.ensures.value c.label-label.ensures.within
    c.index-number.ensures c.if-number-ne0.false c.in_ok-push-2.ensures.items
