use Rattle.std.proofs.lemmas.Result.{IfOk-weaker}
use Rattle.std.proofs.Common.{arith, ◌∙◌, ap, sym}
use Rattle.tdf_stim.proofs.FreeNames.{try_first, try_here, try_last, try_more}
use Rattle.tdf_stim.specs.Driven.{free_from, stim_name}
use Rattle.tdf_stim.specs.machine.Maps.{holds}
use Rattle.tdf_stim.proofs.names.Names.free.Goals as goal

pub loop-k-init : goal.loop-k-init
loop-k-init c = try_first (holds c.args.self.now) c.args.tries

pub loop-k-preserved : goal.loop-k-preserved
loop-k-preserved c = try_more (holds c.args.self.now) c.args.tries c.loop-k.k (free_from (holds c.args.self.now) c.args.tries 0) c.loop-k-test.true
    (ap (holds c.args.self.now) (sym c.in_ok-name.ensures) ∙ ap (holds c.args.self.now) (sym c.as_bytes.ensures) ∙ sym c.has.ensures ∙ c.if-not-has.false) c.loop-k.invariant

pub returns-then-not-has : goal.returns-then-not-has
returns-then-not-has c = c.in_ok-name.ensures ∙ ap stim_name (try_here (holds c.args.self.now) c.args.tries c.loop-k.k (free_from (holds c.args.self.now) c.args.tries 0) c.loop-k-test.true
    (ap (holds c.args.self.now) (sym c.in_ok-name.ensures) ∙ ap (holds c.args.self.now) (sym c.as_bytes.ensures) ∙ sym c.has.ensures ∙ c.if-not-has.true) c.loop-k.invariant)

pub returns : goal.returns
returns c = IfOk-weaker c.name_with-2.result _ _ (λ name h. h ∙ ap stim_name (try_last (holds c.args.self.now) c.args.tries c.loop-k.k (free_from (holds c.args.self.now) c.args.tries 0) (omega arith) c.loop-k.invariant)) c.name_with-2.ensures
