use Rattle.std.proofs.Common.{rules, ◌≡◌, ℕ, ◌<◌, List, Some, [], ◌∷◌, ap, length, refl, subst, sym}
use Rattle.std.proofs.lemmas.Option.{slice_get_read}
use Rattle.std.specs.Prelude.{slice_get, slice_set}
use Rattle.tdf_exec_firing.proofs.Moves.{edges_apart, one_changed, still}
use Rattle.tdf_exec_firing.proofs.Placed.{rest_more}
use Rattle.tdf_exec_firing.specs.Edges.{EdgesOf}
use Rattle.tdf_exec_firing.specs.machine.Moving.{with_more}
use Rattle.tdf_rings.specs.Carried.{ring_at}
use Rattle.tdf_rings.specs.Rings.{RingOf}
use Rattle.tdf_exec_firing.proofs.putting.put_on_all.Goals as goal

pub put_one-requires-clause-room : goal.put_one-requires-clause-room
put_one-requires-clause-room c =
    let at : slice_get c.args.list.now.items c.loop-i.i ≡ Some c.index.result.now =
    slice_get_read c.args.list.now.items (length c.args.list.now.items) c.loop-i.i c.index.result.now refl (search rules) c.index.ensures in
    subst (λ (r : RingOf). length r.samples < r.capacity)
    (sym (still (λ (d : ℕ). d) (λ (d : ℕ). with_more (c.args.value ∷ [])) c.args.list.now.items c.loop-i.i c.index.result.now c.args.edges.now.rings c.loop-i.edges.rings
    (edges_apart c.args.list.now.items c.args.edges.now.rings c.requires.can) c.loop-i.invariant.put at))
    (c.requires.can.room c.loop-i.i c.index.result.now at)

pub loop-i-preserved : goal.loop-i-preserved
loop-i-preserved c =
    let at : slice_get c.args.list.now.items c.loop-i.i ≡ Some c.index.result.now =
    slice_get_read c.args.list.now.items (length c.args.list.now.items) c.loop-i.i c.index.result.now refl (search rules) c.index.ensures in
    let rings : List RingOf = slice_set c.loop-i.edges.rings c.index.result.now (with_more (c.args.value ∷ []) (ring_at c.loop-i.edges.rings c.index.result.now)) in
    record {
      put = one_changed (λ (d : ℕ). d) (λ (d : ℕ). with_more (c.args.value ∷ [])) c.args.list.now.items c.loop-i.i c.index.result.now c.args.edges.now.rings c.loop-i.edges.rings
          (edges_apart c.args.list.now.items c.args.edges.now.rings c.requires.can) c.loop-i.invariant.put at c.put_one.new.edges.rings (ap (λ (e : EdgesOf). e.rings) c.put_one.ensures);
      rest = rest_more c.args.edges.now c.loop-i.edges c.put_one.new.edges rings c.loop-i.invariant.rest c.put_one.ensures;
    }
