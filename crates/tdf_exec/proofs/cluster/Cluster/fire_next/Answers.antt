use Rattle.std.proofs.Common.{◌≡◌, ◌<◌, ◌≤◌, ◌+◌, ◌-◌, ◌^◌, ℕ, Some, arith, length, sym, subst}
use Rattle.std.specs.Prelude.{slice_get}
use Rattle.tdf_exec.proofs.Fires.{entry_own, entry_runner, fired_view}
use Rattle.tdf_exec.proofs.Keeping.{of_next}
use Rattle.tdf_exec.proofs.Nexts.{get_read, stepped}
use Rattle.tdf_exec.proofs.Runs.{can_give, can_run}
use Rattle.tdf_exec.specs.Cluster.{ClusterOf}
use Rattle.tdf_exec.specs.Made.{IsClusterOf}
use Rattle.tdf_exec.specs.contracts.cluster.Cluster.{the_view}
use Rattle.tdf_exec.specs.machine.Steps.{AreInputsNext, HasRoomNext, HasStepped}
use Rattle.tdf_exec.specs.views.Actors.{ActorsOf}
use Rattle.tdf_exec_firing.specs.Edges.{EdgesOf, with_rings}
use Rattle.tdf_exec.proofs.cluster.Cluster.fire_next.Goals as goal

pub fire-requires-clause-own : goal.fire-requires-clause-own
fire-requires-clause-own c =
    let of : IsClusterOf c.args.flat.now (the_view c.self.inside) = subst (IsClusterOf c.args.flat.now) (sym c.self.view_is) c.requires.of in
    let below : c.self.inside.place < length c.self.inside.plan.entries.items = subst (λ (s : ClusterOf). s.place < length s.entries) (sym c.self.view_is) c.requires.within in
    let at : slice_get c.self.inside.plan.entries.items c.self.inside.place ≡ Some c.index.result.now = get_read _ _ c.index.result.now below c.index.ensures in
    let r = entry_runner c.args.flat.now (the_view c.self.inside) of c.index.result.now at in
    (r.0, r.1, entry_own c.args.flat.now (the_view c.self.inside) of c.index.result.now at r.0 r.1)

pub fire-requires-clause-can : goal.fire-requires-clause-can
fire-requires-clause-can c r there =
    let of : IsClusterOf c.args.flat.now (the_view c.self.inside) = subst (IsClusterOf c.args.flat.now) (sym c.self.view_is) c.requires.of in
    let ins : AreInputsNext c.args.flat.now (the_view c.self.inside) c.args.inputs.now = subst (λ (s : ClusterOf). AreInputsNext c.args.flat.now s c.args.inputs.now) (sym c.self.view_is) c.requires.inputs in
    let below : c.self.inside.place < length c.self.inside.plan.entries.items = subst (λ (s : ClusterOf). s.place < length s.entries) (sym c.self.view_is) c.requires.within in
    let at : slice_get c.self.inside.plan.entries.items c.self.inside.place ≡ Some c.index.result.now = get_read _ _ c.index.result.now below c.index.ensures in
    can_run c.args.flat.now (the_view c.self.inside) c.args.inputs.now c.index.result.now of at r there ins.many

pub fire-requires-clause-gives : goal.fire-requires-clause-gives
fire-requires-clause-gives c r there =
    let of : IsClusterOf c.args.flat.now (the_view c.self.inside) = subst (IsClusterOf c.args.flat.now) (sym c.self.view_is) c.requires.of in
    let room : HasRoomNext (the_view c.self.inside) c.args.outputs.now = subst (λ (s : ClusterOf). HasRoomNext s c.args.outputs.now) (sym c.self.view_is) c.requires.room in
    let below : c.self.inside.place < length c.self.inside.plan.entries.items = subst (λ (s : ClusterOf). s.place < length s.entries) (sym c.self.view_is) c.requires.within in
    let at : slice_get c.self.inside.plan.entries.items c.self.inside.place ≡ Some c.index.result.now = get_read _ _ c.index.result.now below c.index.ensures in
    can_give c.args.flat.now (the_view c.self.inside) c.args.inputs.now c.index.result.now of at r there c.args.outputs.now room

pub returns-clause-of : goal.returns-clause-of
returns-clause-of c =
    let of : IsClusterOf c.args.flat.now (the_view c.self.inside) = subst (IsClusterOf c.args.flat.now) (sym c.self.view_is) c.requires.of in
    let ins : AreInputsNext c.args.flat.now (the_view c.self.inside) c.args.inputs.now = subst (λ (s : ClusterOf). AreInputsNext c.args.flat.now s c.args.inputs.now) (sym c.self.view_is) c.requires.inputs in
    let below : c.self.inside.place < length c.self.inside.plan.entries.items = subst (λ (s : ClusterOf). s.place < length s.entries) (sym c.self.view_is) c.requires.within in
    let at : slice_get c.self.inside.plan.entries.items c.self.inside.place ≡ Some c.index.result.now = get_read _ _ c.index.result.now below c.index.ensures in
    let fired = c.fire.ensures.fired in
    let small : fired.position ≤ 2 ^ 64 - 1 = let e = fired.counted in omega (arith, e) in
    subst (λ (e : EdgesOf). IsClusterOf c.args.flat.now (fired_view (the_view c.self.inside) e c.fire.new.self)) (sym c.fire.ensures.rest)
    (subst (λ (a : ActorsOf). IsClusterOf c.args.flat.now (fired_view (the_view c.self.inside) (with_rings c.fire.new.edges.rings c.self.inside.edges) a)) (sym fired.new_is)
    (of_next c.args.flat.now (the_view c.self.inside) c.args.inputs.now c.index.result.now of ins at c.fire.new.edges.rings fired.was fired.now fired.at fired.ran fired.position small))

pub returns-clause-stepped : goal.returns-clause-stepped
returns-clause-stepped c =
    let of : IsClusterOf c.args.flat.now (the_view c.self.inside) = subst (IsClusterOf c.args.flat.now) (sym c.self.view_is) c.requires.of in
    let ins : AreInputsNext c.args.flat.now (the_view c.self.inside) c.args.inputs.now = subst (λ (s : ClusterOf). AreInputsNext c.args.flat.now s c.args.inputs.now) (sym c.self.view_is) c.requires.inputs in
    let below : c.self.inside.place < length c.self.inside.plan.entries.items = subst (λ (s : ClusterOf). s.place < length s.entries) (sym c.self.view_is) c.requires.within in
    let at : slice_get c.self.inside.plan.entries.items c.self.inside.place ≡ Some c.index.result.now = get_read _ _ c.index.result.now below c.index.ensures in
    let fired = c.fire.ensures.fired in
    subst (λ (s : ClusterOf). HasStepped c.args.flat.now c.args.inputs.now s (fired_view (the_view c.self.inside) c.fire.new.edges c.fire.new.self) c.args.outputs.now c.fire.new.outputs) c.self.view_is
    (subst (λ (e : EdgesOf). HasStepped c.args.flat.now c.args.inputs.now (the_view c.self.inside) (fired_view (the_view c.self.inside) e c.fire.new.self) c.args.outputs.now c.fire.new.outputs) (sym c.fire.ensures.rest)
    (subst (λ (a : ActorsOf). HasStepped c.args.flat.now c.args.inputs.now (the_view c.self.inside) (fired_view (the_view c.self.inside) (with_rings c.fire.new.edges.rings c.self.inside.edges) a) c.args.outputs.now c.fire.new.outputs)
    (sym fired.new_is)
    (stepped c.args.flat.now (the_view c.self.inside) c.args.inputs.now c.index.result.now of ins at c.fire.new.edges.rings fired.was fired.now fired.at fired.ran fired.position fired.counted
    c.args.outputs.now c.fire.new.outputs fired.given)))
