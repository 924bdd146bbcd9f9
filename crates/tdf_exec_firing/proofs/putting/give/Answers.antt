use Rattle.tdf_exec_firing.proofs.Gives.{give_more, give_one, give_room}
use Rattle.tdf_exec_firing.proofs.putting.give.Goals as goal

pub returns-then-n-eq1 : goal.returns-then-n-eq1
returns-then-n-eq1 c =
    give_one c.args.port c.args.n c.args.ports.now c.args.ring.now c.put.new.self c.sample.result c.requires.can c.if-n-eq1.true c.sample.ensures.num c.sample.ensures.frac c.put.ensures

pub put-requires-in-loop-i : goal.put-requires-in-loop-i
put-requires-in-loop-i c = give_room c.args.port c.loop-i.i c.args.n c.args.ports.now c.args.ring.now c.loop-i.ring c.requires.can c.loop-i-test.true c.loop-i.invariant

pub loop-i-preserved : goal.loop-i-preserved
loop-i-preserved c =
    give_more c.args.port c.loop-i.i c.args.n c.args.ports.now c.args.ring.now c.loop-i.ring c.put-in-loop-i.new.self c.sample-in-loop-i.result c.requires.can c.loop-i-test.true
    c.loop-i.invariant c.sample-in-loop-i.ensures.num c.sample-in-loop-i.ensures.frac c.put-in-loop-i.ensures
