use Rattle.std.proofs.Common.{rules, ◌≡◌, ◌∙◌, ◌+◌, ◌≤◌, ap, arith, length, subst, sym}
use Rattle.std.specs.Prelude.{slice_index}
use Rattle.std.specs.Vec.{vec_len}
use Rattle.tdf_bind_tables.specs.FlatTables.{FlatTablesOf}
use Rattle.tdf_exec_parts.proofs.FirstRings.{edge_there, own_next}
use Rattle.tdf_exec_parts.specs.Rings.{AreOwnFirstRings}
use Rattle.tdf_rings.specs.Rings.{ring_of}
use Rattle.tdf_exec_layout.specs.Below.{initial_list}
use Rattle.tdf_exec_parts.proofs.filling.first_rings.Goals as goal

pub index-requires : goal.index-requires
index-requires c =
    let inside = c.requires.inside c.loop-i.i c.loop-i-test.true in
    let seen : length c.tables.inside.edges.items ≡ length c.args.tables.now.edges = ap (λ (x : FlatTablesOf). length x.edges) c.tables.view_is in
    let count : vec_len c.tables.inside.edges ≡ length c.tables.inside.edges.items = search rules in
    omega (arith, inside, seen, count)

pub first_ring-requires : goal.first_ring-requires
first_ring-requires c =
    let e = slice_index c.args.numbers.now c.loop-i.i in
    let inside = c.requires.inside c.loop-i.i c.loop-i-test.true in
    let bound : c.in_ok-bound.bound ≡ slice_index c.args.bounds.now.items e = c.in_ok-bound.ensures.number ∙ c.get_near.ensures in
    record {
      room = subst (λ n. length (initial_list c.args.tables.now c.index.result.now) ≤ n) (sym bound)
          (c.requires.fits c.loop-i.i c.index.result.now c.loop-i-test.true (edge_there _ c.args.tables.now c.tables.view_is e c.index.result.now inside c.index.ensures));
    }

pub loop-i-preserved : goal.loop-i-preserved
loop-i-preserved c =
    let tables = c.args.tables.now in
    let e = slice_index c.args.numbers.now c.loop-i.i in
    let inside = c.requires.inside c.loop-i.i c.loop-i-test.true in
    let bound : c.in_ok-bound.bound ≡ slice_index c.args.bounds.now.items e = c.in_ok-bound.ensures.number ∙ c.get_near.ensures in
    subst (AreOwnFirstRings tables c.args.bounds.now.items c.args.numbers.now (c.loop-i.i + 1)) (sym c.in_ok-push.ensures.items)
    (own_next tables c.args.bounds.now.items c.args.numbers.now c.loop-i.i c.loop-i.rings.items c.loop-i.invariant c.index.result.now
    (edge_there _ tables c.tables.view_is e c.index.result.now inside c.index.ensures) c.in_ok-first_ring.field-0
    (c.in_ok-first_ring.ensures ∙ ap (ring_of (initial_list tables c.index.result.now)) bound))
