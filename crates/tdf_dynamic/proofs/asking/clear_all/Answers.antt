use Rattle.std.proofs.Common.{◌≡◌, ◌<◌, arith, length}
use Rattle.tdf_dynamic.proofs.Spans.{all_done, all_inside, all_next, all_start, first_at}
use Rattle.tdf_dynamic.proofs.asking.clear_all.Goals as goal

pub loop-port-init : goal.loop-port-init
loop-port-init c = record { fit = c.requires.fit; zero = all_start c.args.ports.now }

pub clear_port-requires-clause-port : goal.clear_port-requires-clause-port
clear_port-requires-clause-port c =
    let below : c.loop-port.port < length c.args.ports.now.spans = (let a = c.loop-port-test.true in let b = c.requires.count in omega (arith, a, b)) in
    all_inside c.loop-port.port c.args.ports.now c.loop-port.ports (first_at c.args.ports.now.spans c.loop-port.port) c.loop-port.invariant.zero below

pub loop-port-preserved : goal.loop-port-preserved
loop-port-preserved c = record {
  fit = c.law_fit.ensures;
  zero =
      let below : c.loop-port.port < length c.args.ports.now.spans = (let a = c.loop-port-test.true in let b = c.requires.count in omega (arith, a, b)) in
      all_next c.loop-port.port c.args.ports.now c.loop-port.ports c.clear_port.new.ports c.requires.fit below c.loop-port.invariant.zero c.clear_port.ensures;
}

pub returns : goal.returns
returns c =
    let end : c.loop-port.port ≡ length c.args.ports.now.spans = (let a = c.loop-port-test.false in let b = c.loop-port.auto.port-end in let n = c.requires.count in omega (arith, a, b, n)) in
    all_done c.loop-port.port c.args.ports.now c.loop-port.ports c.requires.fit end c.loop-port.invariant.zero
