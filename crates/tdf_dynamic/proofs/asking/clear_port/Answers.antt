use Rattle.std.proofs.Common.{◌≡◌, ◌∙◌, ◌+◌, ◌<◌, List, length, ap, arith, pos, refl, subst, sym}
use Rattle.std.proofs.lemmas.Option.{same_Some}
use Rattle.std.specs.Prelude.{slice_get}
use Rattle.tdf_dynamic.proofs.Spans.{next_long, next_same, next_zero, zero_format}
use Rattle.tdf_dynamic.specs.machine.Asking.{AreZeroBelow}
use Rattle.tdf_expr.specs.Frames.{IsOfFormat}
use Rattle.tdf_expr.specs.declared.spans.PortSpan.{PortSpan}
use Rattle.tdf_fixed.specs.Cast.{fraction_of}
use Rattle.tdf_dynamic.proofs.asking.clear_port.Goals as goal

pub loop-i-init : goal.loop-i-init
loop-i-init c = record {
  same = refl;
  long = refl;
  zero = λ p before at zeros. let e : p.first ≡ p.first + 0 = omega arith in subst (λ n. AreZeroBelow n before c.args.ports.now) e zeros;
}

pub set-requires-clause-port : goal.set-requires-clause-port
set-requires-clause-port c = subst (λ (l : List PortSpan). c.args.port < length l) (sym c.loop-i.invariant.same) c.requires.port

pub set-requires-clause-sample : goal.set-requires-clause-sample
set-requires-clause-sample c = λ p at.
    let one : c.port-span.result ≡ p = same_Some c.port-span.result p (sym c.port-span.ensures ∙ ap (λ (l : List PortSpan). slice_get l c.args.port) (sym c.loop-i.invariant.same) ∙ at) in
    subst (λ (x : PortSpan). c.loop-i.i < x.count) one c.loop-i-test.true

pub set-requires-clause-format : goal.set-requires-clause-format
set-requires-clause-format c = λ p at.
    let one : c.port-span.result ≡ p = same_Some c.port-span.result p (sym c.port-span.ensures ∙ ap (λ (l : List PortSpan). slice_get l c.args.port) (sym c.loop-i.invariant.same) ∙ at) in
    subst (λ (x : PortSpan). IsOfFormat x.format (record { num = pos 0; frac = fraction_of c.port-span.result.format })) one (zero_format c.port-span.result)

pub loop-i-preserved : goal.loop-i-preserved
loop-i-preserved c = record {
  same = next_same c.args.port c.loop-i.i c.port-span.result (pos 0) c.args.ports.now c.loop-i.ports c.set.new.self c.requires.fit c.port-span.ensures c.loop-i-test.true refl
      c.loop-i.invariant.same c.loop-i.invariant.long c.set.ensures;
  long = next_long c.args.port c.loop-i.i c.port-span.result (pos 0) c.args.ports.now c.loop-i.ports c.set.new.self c.requires.fit c.port-span.ensures c.loop-i-test.true refl
      c.loop-i.invariant.same c.loop-i.invariant.long c.set.ensures;
  zero = next_zero c.args.port c.loop-i.i c.port-span.result (pos 0) c.args.ports.now c.loop-i.ports c.set.new.self c.requires.fit c.port-span.ensures c.loop-i-test.true refl
      c.loop-i.invariant.same c.loop-i.invariant.long c.set.ensures c.loop-i.invariant.zero;
}

pub returns : goal.returns
returns c = λ p before at zeros.
    let one : c.port-span.result ≡ p = same_Some c.port-span.result p (sym c.port-span.ensures ∙ at) in
    let end : c.loop-i.i ≡ c.port-span.result.count = (let a = c.loop-i-test.false in let b = c.loop-i.auto.i-end in omega (arith, a, b)) in
    let all : c.loop-i.i ≡ p.count = end ∙ ap (λ (x : PortSpan). x.count) one in
    subst (λ n. AreZeroBelow (p.first + n) before c.loop-i.ports) all (c.loop-i.invariant.zero p before at zeros)
