use Rattle.std.proofs.Common.{◌≡◌, Err, Ok, OnOk, Result, false, subst, sym, true}
use Rattle.tdf_dynamic.specs.declared.next.Next.{Next}
use Rattle.tdf_exec.proofs.Crosses.{head_held, of_next, stands_next}
use Rattle.tdf_exec.proofs.Installing.{new_cluster, new_heads, new_plan, stands_new}
use Rattle.tdf_exec.specs.Cluster.{ClusterOf}
use Rattle.tdf_exec.specs.Crossing.{CanInstall, HasBegunPeriod, IsReadyFor, StandsAfter, StandsAtNext, at_place}
use Rattle.tdf_exec.specs.Made.{IsClusterOf}
use Rattle.tdf_exec.specs.contracts.cluster.Cluster.{the_view}
use Rattle.tdf_exec.proofs.cluster.Cluster.install.Goals as goal

on_ok : {T E P Q : Type 0} (r : Result T E) → OnOk r P → (P → Q) → OnOk r Q
on_ok (Ok x) p then = then p
on_ok (Err e) p then = tt

pub returns-in-Same-clause-of : goal.returns-in-Same-clause-of
returns-in-Same-clause-of c =
    let of : IsClusterOf c.args.flat.now (the_view c.self.inside) = subst (IsClusterOf c.args.flat.now) (sym c.self.view_is) (subst (λ (n : Next). CanInstall c.args.flat.now c.args.self.now n) c.in-Same.is c.requires.can) in
    of_next c.args.flat.now (the_view c.self.inside).table (the_view c.self.inside) of (of.over (subst (λ (s : ClusterOf). s.crossed ≡ true) (sym c.self.view_is) c.requires.crossed)) c.requires.sound
    (c.law_laid.ensures.laid c.args.flat.now c.requires.sound).limits c.law_laid.ensures.present

pub returns-in-Same-clause-stands : goal.returns-in-Same-clause-stands
returns-in-Same-clause-stands c =
    let of : IsClusterOf c.args.flat.now (the_view c.self.inside) = subst (IsClusterOf c.args.flat.now) (sym c.self.view_is) (subst (λ (n : Next). CanInstall c.args.flat.now c.args.self.now n) c.in-Same.is c.requires.can) in
    subst (λ (n : Next). StandsAfter c.args.flat.now n c.args.self.now (at_place (the_view c.self.inside) 0 false)) (sym c.in-Same.is)
    (subst (λ (s : ClusterOf). StandsAtNext c.args.flat.now s (at_place (the_view c.self.inside) 0 false)) c.self.view_is
    (stands_next c.args.flat.now (the_view c.self.inside).table (the_view c.self.inside) of))

pub returns-in-Changed-clause-begun : goal.returns-in-Changed-clause-begun
returns-in-Changed-clause-begun c =
    let ready : IsReadyFor c.args.flat.now c.args.self.now c.in-Changed.attrs c.in-Changed.plan = subst (λ (n : Next). CanInstall c.args.flat.now c.args.self.now n) c.in-Changed.is c.requires.can in
    on_ok c.begin_new.result c.begin_new.ensures.ok (λ re.
    subst (λ (n : Next). HasBegunPeriod c.args.self.now n c.begin_new.new.self) (sym c.in-Changed.is)
    (new_plan c.args.flat.now c.args.self.now c.in-Changed.attrs c.in-Changed.plan ready (c.law_laid.ensures.laid c.args.flat.now c.requires.sound) c.law_laid.ensures.present c.requires.sound
    (ready.of.over c.requires.crossed) c.begin_new.new.self re))

pub returns-in-Changed-clause-of : goal.returns-in-Changed-clause-of
returns-in-Changed-clause-of c =
    let ready : IsReadyFor c.args.flat.now c.args.self.now c.in-Changed.attrs c.in-Changed.plan = subst (λ (n : Next). CanInstall c.args.flat.now c.args.self.now n) c.in-Changed.is c.requires.can in
    on_ok c.begin_new.result c.begin_new.ensures.ok (λ re.
    new_cluster c.args.flat.now c.args.self.now c.in-Changed.attrs c.in-Changed.plan ready (c.law_laid.ensures.laid c.args.flat.now c.requires.sound) c.law_laid.ensures.present c.requires.sound
    (ready.of.over c.requires.crossed) c.begin_new.new.self re)

pub returns-in-Changed-clause-stands : goal.returns-in-Changed-clause-stands
returns-in-Changed-clause-stands c =
    let ready : IsReadyFor c.args.flat.now c.args.self.now c.in-Changed.attrs c.in-Changed.plan = subst (λ (n : Next). CanInstall c.args.flat.now c.args.self.now n) c.in-Changed.is c.requires.can in
    on_ok c.begin_new.result c.begin_new.ensures.ok (λ re.
    subst (λ (n : Next). StandsAfter c.args.flat.now n c.args.self.now c.begin_new.new.self) (sym c.in-Changed.is)
    (stands_new c.args.flat.now c.args.self.now c.in-Changed.attrs c.in-Changed.plan ready (c.law_laid.ensures.laid c.args.flat.now c.requires.sound) c.law_laid.ensures.present c.requires.sound
    (ready.of.over c.requires.crossed) c.begin_new.new.self re))

pub returns-in-Same-clause-heads : goal.returns-in-Same-clause-heads
returns-in-Same-clause-heads c =
    let of : IsClusterOf c.args.flat.now (the_view c.self.inside) = subst (IsClusterOf c.args.flat.now) (sym c.self.view_is) (subst (λ (n : Next). CanInstall c.args.flat.now c.args.self.now n) c.in-Same.is c.requires.can) in
    head_held c.args.flat.now (the_view c.self.inside).table (the_view c.self.inside) of (of.over (subst (λ (s : ClusterOf). s.crossed ≡ true) (sym c.self.view_is) c.requires.crossed)) c.requires.sound
    (c.law_laid.ensures.laid c.args.flat.now c.requires.sound).limits c.law_laid.ensures.present

pub returns-in-Changed-clause-heads : goal.returns-in-Changed-clause-heads
returns-in-Changed-clause-heads c =
    let ready : IsReadyFor c.args.flat.now c.args.self.now c.in-Changed.attrs c.in-Changed.plan = subst (λ (n : Next). CanInstall c.args.flat.now c.args.self.now n) c.in-Changed.is c.requires.can in
    on_ok c.begin_new.result c.begin_new.ensures.ok (λ re.
    new_heads c.args.flat.now c.args.self.now c.in-Changed.attrs c.in-Changed.plan ready (c.law_laid.ensures.laid c.args.flat.now c.requires.sound) c.law_laid.ensures.present c.requires.sound
    (ready.of.over c.requires.crossed) c.begin_new.new.self re)
