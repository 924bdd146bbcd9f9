use Rattle.std.proofs.Common.{◌<◌, ◌+◌, ℕ, List, arith, inl, inr, length, refl, slice_set, subst, sym}
use Rattle.std.proofs.lemmas.Grind.{get_or-set_at}
use Rattle.std.specs.Prelude.{slice_index}
use Rattle.tdf_schedule.proofs.Parts.{nothing_known, part_read, part_set, parts_next}
use Rattle.tdf_schedule.proofs.Works.{grown_none, grown_more, row_longer, rows_next, total_few}
use Rattle.tdf_schedule.specs.views.Parts.{AreParts, IsPart, no_part}
use Rattle.tdf_schedule.proofs.Linked.{inputs_at}
use Rattle.tdf_schedule.specs.views.Table.{AreInputs, IsJoined, key_of, row_at}
use Rattle.tdf_schedule.specs.views.Work.{AreRows, links_at}
use Rattle.tdf_schedule.proofs.work.fire.Goals as goal

pub loop-firing-init : goal.loop-firing-init
loop-firing-init c = record { long = sym c.row_len-firing.ensures; rows = c.requires.rows; parts = c.requires.parts; grown = grown_none c.args.actor c.args.table.now.items }

pub loop-firing-preserved : goal.loop-firing-preserved
loop-firing-preserved c =
    let edges = c.args.given.now.edges.now in
    let pace = slice_index c.args.given.now.paces.now in
    let counts = c.args.given.now.counts.now in
    let lists = c.args.given.now.inputs.now in
    let table = c.loop-firing.table.items in
    let m = c.args.actor in
    let parts = slice_set c.loop-firing.parts.items m no_part in
    let key = key_of (c.in-Whole.need.level + 1) c.in-Whole.need.offset in
    let m_row : m < length table = (let s = c.loop-firing.invariant.rows.same in let a = c.requires.actor in omega (arith, s, a)) in
    let long = c.loop-firing.invariant.long in
    let below = c.loop-firing-test.true in
    record {
      long = (let e = row_longer table c.give.new.table.items m key m_row c.in_ok-give-in-Whole.ensures in omega (arith, e, long));
      rows = subst (AreRows edges pace counts) (sym c.in_ok-give-in-Whole.ensures)
          (rows_next edges counts c.args.given.now.paces.now lists c.args.given.now.outputs.now c.requires.given table c.loop-firing.invariant.rows m c.requires.actor c.in-Whole.need (λ full. omega (arith, long, below, full))
          (subst (λ (l : List ℕ). IsJoined edges pace table m (length (row_at table m)) l (length l) c.in-Whole.need) c.list-inputs.ensures c.in-Whole.ensures));
      parts = subst (λ t. AreParts edges pace counts t lists parts) (sym c.in_ok-give-in-Whole.ensures)
          (parts_next edges pace counts lists table m key m_row parts
          (get_or-set_at c.loop-firing.parts.items m m no_part no_part refl (let l = c.loop-firing.invariant.parts.long in let a = c.requires.actor in omega (arith, l, a)))
          (part_set edges pace counts lists table c.loop-firing.parts.items m no_part c.requires.actor c.loop-firing.invariant.parts (nothing_known edges pace table m (links_at lists m) no_part refl)));
      grown = grown_more m c.args.table.now.items table c.give.new.table.items key m_row c.in_ok-give-in-Whole.ensures c.loop-firing.invariant.grown;
    }

pub greatest_need-requires-clause-part : goal.greatest_need-requires-clause-part
greatest_need-requires-clause-part c = part_read c.args.given.now.edges.now (slice_index c.args.given.now.paces.now) c.args.given.now.counts.now c.args.given.now.inputs.now c.loop-firing.table.items c.loop-firing.parts.items c.args.actor
    c.list-inputs.result.now c.index.result.now c.requires.actor c.loop-firing.invariant.parts c.list-inputs.ensures c.index.ensures

pub greatest_need-requires-clause-inputs : goal.greatest_need-requires-clause-inputs
greatest_need-requires-clause-inputs c = subst (AreInputs c.args.given.now.edges.now c.args.actor) (sym c.list-inputs.ensures)
    (inputs_at c.args.given.now.counts.now c.args.given.now.edges.now c.args.given.now.inputs.now c.args.actor (let below = c.loop-firing-test.true in omega (arith, below)) c.requires.given.into)

pub give-requires-clause-level : goal.give-requires-clause-level
give-requires-clause-level c = let f = c.in-Whole.ensures.few in
    let t = total_few c.loop-firing.table.items c.args.given.now.counts.now c.loop-firing.invariant.rows.same c.loop-firing.invariant.rows.within in let s = c.requires.given.few in omega (arith, f, t, s)

pub returns-in-Part-clause-parts : goal.returns-in-Part-clause-parts
returns-in-Part-clause-parts c =
    part_set c.args.given.now.edges.now (slice_index c.args.given.now.paces.now) c.args.given.now.counts.now c.args.given.now.inputs.now c.loop-firing.table.items c.loop-firing.parts.items c.args.actor c.in-Part.part
    c.requires.actor c.loop-firing.invariant.parts
    (subst (λ l. IsPart c.args.given.now.edges.now (slice_index c.args.given.now.paces.now) c.loop-firing.table.items c.args.actor l c.in-Part.part) c.list-inputs.ensures c.in-Part.ensures.1)

pub returns-in-Part-clause-settled : goal.returns-in-Part-clause-settled
returns-in-Part-clause-settled c = inr c.in-Part.ensures.0

pub returns-clause-settled : goal.returns-clause-settled
returns-clause-settled c = inl (let l = c.loop-firing.invariant.long in let f = c.loop-firing-test.false in let w = c.loop-firing.invariant.rows.within c.args.actor in omega (arith, l, f, w))
