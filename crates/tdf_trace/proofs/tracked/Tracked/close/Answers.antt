use Rattle.std.proofs.Common.{◌≡◌, ◌<◌, ◌≤◌, ◌+◌, ◌*◌, ◌^◌, None, refl, ap, sym, ◌∙◌, subst, arith}
use Rattle.tdf_trace.proofs.Singles.{closed_all, closed_more, closing, still_small}
use Rattle.tdf_trace.proofs.tracked.Tracked.close.Goals as goal
use Rattle.tdf_trace.specs.Tracked.{TrackedOf}
use Rattle.tdf_trace.specs.machine.Showing.{ClosedTo, TakesCells}
use Rattle.tdf_trace_rows.specs.declared.stamps.Stamps.{Stamps}

pub loop-stamps-init : goal.loop-stamps-init
loop-stamps-init c = record {
  closes = λ spans samples cells h. subst (λ (s : Stamps). ClosedTo spans samples cells c.args.self.now.columns s c.args.trace.now.rows)
      (sym (ap (λ (v : TrackedOf). v.stamps) c.self.view_is)) (closing spans samples cells c.args.self.now c.args.trace.now.rows h);
  later = (let e = ap (λ (v : TrackedOf). v.stamps.time) c.self.view_is in omega (arith, e));
  fewer = (let e = ap (λ (v : TrackedOf). v.stamps.left) c.self.view_is in omega (arith, e));
  small = c.self.invariant.small;
  upto = refl;
  stage = refl;
  about = refl;
}

pub loop-stamps-preserved : goal.loop-stamps-preserved
loop-stamps-preserved c = record {
  closes = λ spans samples cells h. subst (λ (s : Stamps). ClosedTo spans samples cells c.args.self.now.columns s c.note_all.new.trace.rows) (sym c.next-time.ensures.next)
      (closed_more spans samples cells c.args.self.now.columns c.loop-stamps.stamps c.loop-stamps.trace.rows c.note_all.new.trace.rows c.loop-stamps-test.true
      (subst (λ (v : TrackedOf). TakesCells v.columns c.loop-stamps.stamps.time None c.loop-stamps.trace.rows c.note_all.new.trace.rows) c.self.view_is
      (subst (λ n. TakesCells c.self.inside.columns.items n None c.loop-stamps.trace.rows c.note_all.new.trace.rows) c.next-time.ensures.result c.in_ok-note_all.ensures.took))
      (c.loop-stamps.invariant.closes spans samples cells h));
  later = subst (λ (s : Stamps). c.args.self.now.stamps.time ≤ s.time) (sym c.next-time.ensures.next)
      (let l : c.args.self.now.stamps.time ≤ c.loop-stamps.stamps.time = c.loop-stamps.invariant.later in omega (arith, l));
  fewer = subst (λ (s : Stamps). s.left ≤ c.args.self.now.stamps.left) (sym c.next-time.ensures.next)
      (let f : c.loop-stamps.stamps.left ≤ c.args.self.now.stamps.left = c.loop-stamps.invariant.fewer in omega (arith, f));
  small = subst (λ (s : Stamps). s.time + s.left * s.step < 2 ^ 64) (sym c.next-time.ensures.next)
      (still_small c.loop-stamps.stamps.time c.loop-stamps.stamps.step c.loop-stamps.stamps.left (2 ^ 64) c.loop-stamps-test.true c.loop-stamps.invariant.small);
  upto = c.note_all.ensures.upto ∙ c.loop-stamps.invariant.upto;
  stage = c.note_all.ensures.stage ∙ c.loop-stamps.invariant.stage;
  about = c.note_all.ensures.about ∙ c.loop-stamps.invariant.about;
}

pub returns-else-stamps-end-clause-noted : goal.returns-else-stamps-end-clause-noted
returns-else-stamps-end-clause-noted c = λ spans samples cells h.
    closed_all spans samples cells c.args.self.now.columns c.loop-stamps.stamps c.loop-stamps.trace.rows c.args.end (λ more. c.if-stamps-end.false) (c.loop-stamps.invariant.closes spans samples cells h)

pub returns-after-loop-stamps-clause-noted : goal.returns-after-loop-stamps-clause-noted
returns-after-loop-stamps-clause-noted c = λ spans samples cells h.
    let past : c.loop-stamps.stamps.left ≤ 0 = c.loop-stamps-test.false in
    closed_all spans samples cells c.args.self.now.columns c.loop-stamps.stamps c.loop-stamps.trace.rows c.args.end (λ more. absurd (omega (arith, more, past))) (c.loop-stamps.invariant.closes spans samples cells h)

pub note_all-requires-clause-time : goal.note_all-requires-clause-time
note_all-requires-clause-time c =
    let f : c.loop-stamps.stamps.left ≤ c.args.self.now.stamps.left = c.loop-stamps.invariant.fewer in
    let t : 0 < c.loop-stamps.stamps.left = c.loop-stamps-test.true in
    let u : c.args.trace.now.rows.upto ≤ c.args.self.now.stamps.time = c.requires.upto (omega (arith, f, t)) in
    let l : c.args.self.now.stamps.time ≤ c.loop-stamps.stamps.time = c.loop-stamps.invariant.later in
    let e : c.next-time.result ≡ c.loop-stamps.stamps.time = c.next-time.ensures.result in
    let k : c.loop-stamps.trace.rows.upto ≡ c.args.trace.now.rows.upto = c.loop-stamps.invariant.upto in
    omega (arith, u, l, e, k)
