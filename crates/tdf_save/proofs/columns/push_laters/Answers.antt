use Rattle.std.proofs.Common.{pos, get_or}
use Rattle.tdf_save.specs.Text.{saved_later}
use Rattle.tdf_save.proofs.Each.{items_begin, items_one_more, items_done, same_there}
use Rattle.tdf_save.proofs.columns.push_laters.Goals as goal

pub loop-k-init : goal.loop-k-init
loop-k-init c = items_begin saved_later c.args.out.now.items c.args.nums.now

pub loop-k-preserved : goal.loop-k-preserved
loop-k-preserved c =
    items_one_more saved_later c.args.out.now.items c.loop-k.out.items c.push_later.new.out.items c.args.nums.now c.loop-k.k (get_or c.args.nums.now c.loop-k.k (pos 0))
    c.loop-k-test.true (same_there c.args.nums.now c.loop-k.k (pos 0) c.loop-k-test.true) c.loop-k.invariant c.in_ok-push_later.ensures.ok

pub returns-clause-ok : goal.returns-clause-ok
returns-clause-ok c = items_done saved_later c.args.out.now.items c.loop-k.out.items c.args.nums.now c.loop-k.k c.loop-k-test.false c.loop-k.invariant
