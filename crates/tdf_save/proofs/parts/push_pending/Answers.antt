use Rattle.std.proofs.Common.{map, ℕ, Vec, Global, get_or}
use Rattle.tdf_save.specs.Text.{saved_pending}
use Rattle.tdf_save.proofs.Each.{items_begin, items_one_more, items_done, same_there}
use Rattle.tdf_save.proofs.parts.push_pending.Goals as goal

pub loop-k-init : goal.loop-k-init
loop-k-init c = items_begin (saved_pending (map (λ (z : Vec ℕ Global). z.items) c.args.events.now)) c.args.out.now.items c.args.pending.now

pub loop-k-preserved : goal.loop-k-preserved
loop-k-preserved c =
    items_one_more (saved_pending (map (λ (z : Vec ℕ Global). z.items) c.args.events.now)) c.args.out.now.items c.loop-k.out.items c.push_notice.new.out.items c.args.pending.now c.loop-k.k (get_or c.args.pending.now c.loop-k.k (record { event = 0; time = 0 }))
    c.loop-k-test.true (same_there c.args.pending.now c.loop-k.k (record { event = 0; time = 0 }) c.loop-k-test.true) c.loop-k.invariant c.in_ok-push_notice.ensures.ok

pub returns-clause-ok : goal.returns-clause-ok
returns-clause-ok c = items_done (saved_pending (map (λ (z : Vec ℕ Global). z.items) c.args.events.now)) c.args.out.now.items c.loop-k.out.items c.args.pending.now c.loop-k.k c.loop-k-test.false c.loop-k.invariant
