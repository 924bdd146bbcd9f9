use Rattle.std.proofs.Common.{◌≡◌, ◌∙◌, ℕ, ℤ, [], Global, List, Some, Vec, arith, length, map, refl, subst, sym}
use Rattle.std.proofs.lemmas.List.{length-map}
use Rattle.std.proofs.lemmas.Option.{slice_get_read}
use Rattle.std.specs.Prelude.{slice_get, slice_index, slice_index_or}
use Rattle.tdf_exec_parts.proofs.FirstRings.{edge_there}
use Rattle.tdf_exec_parts.proofs.Left.{items_at, left_next}
use Rattle.tdf_exec_parts.proofs.judging.are_left.Goals as goal
use Rattle.tdf_exec_parts.specs.machine.Traffic.{AreLeftUpTo, IsLeftOn}

abbrev items : Vec ℤ Global → List ℤ
items nums = nums.items

pub loop-i-preserved : goal.loop-i-preserved
loop-i-preserved c =
    let t = c.args.tables.now in
    let i = c.loop-i.i in
    let e = slice_index c.args.numbers.now i in
    let edge = c.index-edge.result.now in
    let v = c.index-edges-i.result in
    let there : slice_get c.args.edges.now i ≡ Some v =
    slice_get_read c.args.edges.now (length c.args.edges.now) i v refl (omega (arith, c.if-edges-numbers.false, c.loop-i-test.true)) c.index-edges-i.is in
    let nums : slice_index_or (map items c.args.edges.now) i [] ≡ c.deref.result.now = items_at items c.args.edges.now i v there ∙ sym c.deref.ensures.value in
    left_next t c.args.fired.now.entries.now c.args.reads.now c.args.writes.now c.args.numbers.now (map items c.args.edges.now) i c.loop-i.invariant edge
    (edge_there _ t c.tables.view_is e edge (c.requires.inside i c.loop-i-test.true) c.index-edge.ensures)
    (subst (λ (l : List ℤ). IsLeftOn t c.args.fired.now.entries.now edge (slice_index c.args.reads.now i) (slice_index c.args.writes.now i) l) (sym nums)
    (c.is_left_on.ensures.0 c.if-not-is_left_on.false))

pub returns : goal.returns
returns c =
    let all : c.loop-i.i ≡ length c.args.numbers.now = omega (arith, c.loop-i-test.false, c.loop-i.auto.i-end) in (
      λ same. record {
        long = length-map c.args.edges.now items ∙ c.if-edges-numbers.false;
        each = subst (λ (n : ℕ). AreLeftUpTo c.args.tables.now c.args.fired.now.entries.now c.args.reads.now c.args.writes.now c.args.numbers.now (map items c.args.edges.now) n) all c.loop-i.invariant;
      },
      λ left. refl,
    )
