use Rattle.std.proofs.Common.{[], ◌≡◌, ◌∙◌, ◌++◌, ℕ, ◌<◌, ◌≤◌, Ok, ap, sym, subst, inl, inr, arith}
use Rattle.std.proofs.lemmas.Bool.{cases_lt}
use Rattle.tdf_base.specs.declared.faults.Fault.{Fault}
use Rattle.tdf_sim_instants.specs.Engine.{HasBeenSpent, HasBeenStopped}
use Rattle.tdf_sim_instants.specs.declared.crossing.Pass.TheVariants as pass
use Rattle.tdf_sim_runs.specs.News.{news_text}
use Rattle.tdf_sim_runs.proofs.Answering.{always_err}
use Rattle.tdf_sim_runs.proofs.Onward.{goes_then, waits, waits_goes, waits_later}
use Rattle.tdf_sim_runs.proofs.Reaching.{is_spent, is_stopped, part_none, part_then, part_to, reaches}
use Rattle.tdf_sim_runs.proofs.running.Running.turn.Goals as goal
use Rattle.tdf_sim_runs.specs.Ending.{GoesToEnd}
use Rattle.tdf_sim_runs.specs.Running.{CanGoOn, RunGoesOn}
use Rattle.tdf_sim_runs.specs.declared.going.Ended.TheVariants as ended
use Rattle.tdf_sim_runs.specs.declared.running.Running.{Running}

less_than : (t stop : ℕ) → t ≤ stop → (t ≡ stop → ⊥) → t < stop
less_than t stop within other = elim (cases_lt t stop) [
  | inl less ↦ less
  | inr over ↦ absurd (other (omega (arith, within, over)))
]

pub returns-then-self-stop-clause-ends : goal.returns-then-self-stop-clause-ends
returns-then-self-stop-clause-ends g c =
    let taken = g.K.Sink.taken c.args.out.now in
    subst (λ (x : Running). GoesToEnd c.args.flat.now c.args.stop c.args.self.now x [] taken taken ended.Reached) (sym c.wait.ensures.rest)
    (reaches c.args.flat.now c.args.self.now c.args.stop c.wait.new.self.from c.requires.can c.requires.within c.wait.ensures.next c.if-self-stop.true taken)

pub returns-then-self-stop-clause-comes : goal.returns-then-self-stop-clause-comes
returns-then-self-stop-clause-comes g c = λ _.
    let flat = c.args.flat.now in
    let taken = g.K.Sink.taken c.args.out.now in
    let next = c.wait.ensures.next in
    record {
      can = subst (CanGoOn flat) (sym c.wait.ensures.rest) (waits flat c.args.self.now c.args.stop c.wait.new.self.from c.requires.can c.requires.within next);
      at = c.if-self-stop.true;
      goes = subst (λ (x : Running). RunGoesOn flat c.args.self.now x [] taken taken) (sym c.wait.ensures.rest) (waits_goes flat c.args.self.now c.args.stop c.wait.new.self.from c.requires.can c.requires.within next taken);
    }

pub wait-requires-clause-going : goal.wait-requires-clause-going
wait-requires-clause-going g c = c.requires.can.engine.kernel.going

pub step-requires-clause-can : goal.step-requires-clause-can
step-requires-clause-can g c = subst (CanGoOn c.args.flat.now) (sym c.wait.ensures.rest)
    (waits c.args.flat.now c.args.self.now c.args.stop c.wait.new.self.from c.requires.can c.requires.within c.wait.ensures.next)

pub returns-in-Err-clause-part : goal.returns-in-Err-clause-part
returns-in-Err-clause-part g c = part_none c.law_one_answer.ensures c.args.flat.now c.args.self.now c.args.stop (g.K.Sink.taken c.args.out.now)

pub returns-in_err-write-clause-part : goal.returns-in_err-write-clause-part
returns-in_err-write-clause-part g c =
    let flat = c.args.flat.now in
    let r = c.args.self.now in
    let taken = g.K.Sink.taken c.args.out.now in
    let can = c.requires.can in
    let next = c.wait.ensures.next in
    let waited = subst (CanGoOn flat) (sym c.wait.ensures.rest) (waits flat r c.args.stop c.wait.new.self.from can c.requires.within next) in
    let first : RunGoesOn flat r c.wait.new.self [] taken taken =
    subst (λ (x : Running). RunGoesOn flat r x [] taken taken) (sym c.wait.ensures.rest) (waits_goes flat r c.args.stop c.wait.new.self.from can c.requires.within next taken) in
    let is = ap Ok c.in-Ok-Done.field-0-is in
    let mid = c.in-Ok-Done.ensures.can is in
    let one = goes_then c.law_one_answer.ensures flat r c.wait.new.self c.step.new.self [] [] taken taken taken waited first (c.in-Ok-Done.ensures.goes is taken) in
    let low : c.step.new.self.from ≤ c.args.stop =
    (let a = c.in-Ok-Done.ensures.after is in let l = less_than c.wait.new.self.from c.args.stop next.within c.if-self-stop.false in omega (arith, a, l)) in
    always_err c.from_residual.result
    (part_then c.law_one_answer.ensures flat r c.step.new.self c.args.stop [] taken taken (g.K.Sink.taken c.write.new.out) mid low one
    (part_to c.law_one_answer.ensures flat c.step.new.self c.args.stop taken (g.K.Sink.taken c.write.new.out) mid low c.in_err-write.ensures.part))

pub returns-clause-goes : goal.returns-clause-goes
returns-clause-goes g c = λ _.
    let flat = c.args.flat.now in
    let r = c.args.self.now in
    let taken = g.K.Sink.taken c.args.out.now in
    let can = c.requires.can in
    let next = c.wait.ensures.next in
    let waited = subst (CanGoOn flat) (sym c.wait.ensures.rest) (waits flat r c.args.stop c.wait.new.self.from can c.requires.within next) in
    let first : RunGoesOn flat r c.wait.new.self [] taken taken =
    subst (λ (x : Running). RunGoesOn flat r x [] taken taken) (sym c.wait.ensures.rest) (waits_goes flat r c.args.stop c.wait.new.self.from can c.requires.within next taken) in
    let is = ap Ok c.in-Ok-Done.field-0-is in
    let one = goes_then c.law_one_answer.ensures flat r c.wait.new.self c.step.new.self [] [] taken taken taken waited first (c.in-Ok-Done.ensures.goes is taken) in
    goes_then c.law_one_answer.ensures flat r c.step.new.self c.write.new.self [] [] taken taken (g.K.Sink.taken c.write.new.out) (c.in-Ok-Done.ensures.can is) one c.in_ok-write.ensures.goes

pub returns-clause-on : goal.returns-clause-on
returns-clause-on g c = λ _.
    let l = waits_later c.args.flat.now c.args.self.now c.args.stop c.wait.new.self.from c.requires.can c.requires.within c.wait.ensures.next in
    let a = c.in-Ok-Done.ensures.after (ap Ok c.in-Ok-Done.field-0-is) in
    let s = c.write.ensures.same in
    omega (arith, l, a, s)

pub returns-in-Ok-Spent-clause-ends : goal.returns-in-Ok-Spent-clause-ends
returns-in-Ok-Spent-clause-ends g c =
    let rest = c.wait.ensures.rest in
    let came = pass.Spent in
    let same = c.in-Ok-Spent.ensures.still came (ap Ok c.in-Ok-Spent.field-0-is) (λ done. absurd cc) in
    let news = c.in-Ok-Spent.ensures.news came (ap Ok c.in-Ok-Spent.field-0-is) (λ done. absurd cc) in
    is_spent c.args.flat.now c.args.self.now c.args.stop c.wait.new.self.from c.requires.can c.requires.within c.wait.ensures.next c.law_instant.ensures.along
    (less_than c.wait.new.self.from c.args.stop c.wait.ensures.next.within c.if-self-stop.false) c.step.new.self.engine c.step.new.self.left c.step.new.self
    (same ∙ ap (λ (x : Running). record x { engine = c.step.new.self.engine; left = c.step.new.self.left; news = c.step.new.self.news }) rest)
    (subst (λ (x : Running). c.step.new.self.news.items ≡ x.news.items ++ news_text c.args.flat.now x.from c.step.new.self.engine.clusters.items c.step.new.self.engine.planned.items) rest news)
    (g.K.Sink.taken c.args.out.now) c.law_instant.ensures.spent (subst (λ (x : Running). HasBeenSpent c.args.flat.now x.from x.engine c.step.new.self.engine x.left) rest (c.in-Ok-Spent.ensures.spent (ap Ok c.in-Ok-Spent.field-0-is)))

pub returns-in-Ok-Stopped-clause-ends : goal.returns-in-Ok-Stopped-clause-ends
returns-in-Ok-Stopped-clause-ends g c =
    let rest = c.wait.ensures.rest in
    let came = pass.Stopped c.in-Ok-Stopped.cluster c.in-Ok-Stopped.fault in
    let same = c.in-Ok-Stopped.ensures.still came (ap Ok c.in-Ok-Stopped.field-0-is) (λ done. absurd cc) in
    let news = c.in-Ok-Stopped.ensures.news came (ap Ok c.in-Ok-Stopped.field-0-is) (λ done. absurd cc) in
    is_stopped c.args.flat.now c.args.self.now c.args.stop c.wait.new.self.from c.requires.can c.requires.within c.wait.ensures.next c.law_instant.ensures.along
    (less_than c.wait.new.self.from c.args.stop c.wait.ensures.next.within c.if-self-stop.false) c.step.new.self.engine c.step.new.self.left c.step.new.self
    (same ∙ ap (λ (x : Running). record x { engine = c.step.new.self.engine; left = c.step.new.self.left; news = c.step.new.self.news }) rest)
    (subst (λ (x : Running). c.step.new.self.news.items ≡ x.news.items ++ news_text c.args.flat.now x.from c.step.new.self.engine.clusters.items c.step.new.self.engine.planned.items) rest news)
    (g.K.Sink.taken c.args.out.now) c.law_instant.ensures.stopped c.in-Ok-Stopped.cluster c.into_inner-fault.result
    (subst (λ (f : Fault). HasBeenStopped c.args.flat.now c.wait.new.self.from c.in-Ok-Stopped.cluster f c.args.self.now.engine c.step.new.self.engine c.args.self.now.left) (sym c.into_inner-fault.ensures)
    (subst (λ (x : Running). HasBeenStopped c.args.flat.now x.from c.in-Ok-Stopped.cluster c.in-Ok-Stopped.fault.value x.engine c.step.new.self.engine x.left) rest
    (c.in-Ok-Stopped.ensures.stopped c.in-Ok-Stopped.cluster c.in-Ok-Stopped.fault (ap Ok c.in-Ok-Stopped.field-0-is))))
