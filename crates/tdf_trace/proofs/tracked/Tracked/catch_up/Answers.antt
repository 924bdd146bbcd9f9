use Rattle.std.proofs.Common.{◌≡◌, ◌≤◌, ◌+◌, ◌∷◌, length, refl, ap, sym, ◌∙◌, subst, arith, rules}
use Rattle.std.proofs.lemmas.List.Elements.{All-drop}
use Rattle.tdf_trace.proofs.Singles.{at_same, caught_one, caught_up}
use Rattle.tdf_trace.proofs.tracked.Tracked.catch_up.Goals as goal
use Rattle.tdf_trace.specs.Tracked.{TrackedOf, label}
use Rattle.tdf_trace.specs.machine.Showing.{HaveFewPlaces, IsAt}
use Rattle.tdf_fixed.specs.declared.raw.Raw.{Raw}

pub returns-in-None-clause-took : goal.returns-in-None-clause-took
returns-in-None-clause-took c = λ spans samples n cells at.
    let f = c.loop-self.invariant.further spans samples n cells at in
    let none : length c.pop_front.new.self.items ≡ 0 = search (rules, c.in-None.ensures.cases.1) in
    caught_up spans samples f.n cells _ c.loop-self.trace.rows (λ some. absurd (omega (arith, some, none)))
    (at_same spans samples f.n cells _ _ c.loop-self.trace.rows refl refl (sym c.in-None.ensures.items)
    (subst (λ (v : TrackedOf). IsAt spans samples f.n cells v c.loop-self.trace.rows) (sym c.self.view_is) f.at))

pub invariant_of-self-in-Some : goal.invariant_of-self-in-Some
invariant_of-self-in-Some c = record {
  later = c.self.invariant.later;
  small = c.self.invariant.small;
  few = subst HaveFewPlaces (sym c.pop_front.ensures.rest) (All-drop (λ (v : Raw). v.frac ≤ 120) 1 c.self.inside.waiting.items c.self.invariant.few);
}

pub loop-self-preserved : goal.loop-self-preserved
loop-self-preserved c = record {
  further = λ spans samples n cells at.
      let f = c.loop-self.invariant.further spans samples n cells at in
      record {
        n = f.n + 1;
        at = caught_one spans samples f.n cells c.in-Some.value _ c.stamp.new.self c.loop-self.trace.rows c.stamp.new.trace.rows c.loop-self-test.true
            (ap (λ (v : TrackedOf). v.columns) c.stamp.ensures.on) (ap (λ (v : TrackedOf). v.stamps) c.stamp.ensures.on)
            (c.in-Some.ensures.items ∙ ap (λ ws. c.in-Some.value ∷ ws) (sym (ap (λ (v : TrackedOf). v.waiting) c.stamp.ensures.on)))
            c.in_ok-stamp-in-Some.ensures.took
            (subst (λ (v : TrackedOf). IsAt spans samples f.n cells v c.loop-self.trace.rows) (sym c.self.view_is) f.at);
      };
  label = ap label c.stamp.ensures.on ∙ ap label c.self.view_is ∙ c.loop-self.invariant.label;
  time = (let a = ap (λ (v : TrackedOf). v.stamps.time) c.stamp.ensures.on in let b = ap (λ (v : TrackedOf). v.stamps.time) c.self.view_is in let d = c.loop-self.invariant.time in omega (arith, a, b, d));
  since = ap (λ (v : TrackedOf). v.since) c.stamp.ensures.on ∙ ap (λ (v : TrackedOf). v.since) c.self.view_is ∙ c.loop-self.invariant.since;
  upto = c.stamp.ensures.upto ∙ c.loop-self.invariant.upto;
  stage = c.stamp.ensures.stage ∙ c.loop-self.invariant.stage;
  about = c.stamp.ensures.about ∙ c.loop-self.invariant.about;
}

pub returns-clause-took : goal.returns-clause-took
returns-clause-took c = λ spans samples n cells at.
    let f = c.loop-self.invariant.further spans samples n cells at in
    let past : c.self.inside.stamps.left ≤ 0 = c.loop-self-test.false in
    let none : c.self.inside.stamps.left ≡ 0 = omega (arith, past) in
    caught_up spans samples f.n cells c.loop-self.self c.loop-self.trace.rows (λ some. sym (ap (λ (v : TrackedOf). v.stamps.left) c.self.view_is) ∙ none) f.at
