use Rattle.std.proofs.Common.{refl, rules, SFits, sym, ◌∙◌}
use Rattle.std.proofs.lemmas.Int.{to_z-of_z}
use Rattle.std.specs.Int.{w128}
use Rattle.tdf_save.proofs.Api.{later_begins}
use Rattle.tdf_save.specs.Members.{IsNum}
use Rattle.tdf_save.specs.Text.{saved_later}
use Rattle.tdf_save.specs.machine.Pieces.{Any, IsNext}
use Rattle.tdf_save_reading.proofs.ColumnSteps.{laters_items}
use Rattle.tdf_save_reading.proofs.ItemReads.{item_shorter, items_no_tail, items_piece}
use Rattle.tdf_save_reading.proofs.ReadSteps.{none_read, one_read, stuck}
use Rattle.tdf_save_reading.proofs.columns.read_laters.Goals as goal

pub loop-rest-init : goal.loop-rest-init
loop-rest-init c = rw c.new-list.ensures.items (none_read saved_later IsNum IsNext c.args.text.now)

pub loop-rest-preserved : goal.loop-rest-preserved
loop-rest-preserved c =
    let f : SFits w128 c.in-Some.num = search rules in
    rw (c.in_ok-put-in-Some.ensures.put, to_z-of_z w128 c.in-Some.num f)
    (one_read saved_later IsNum Any IsNext 108 laters_items c.args.text.now c.loop-rest.list.items c.in-Some.num c.loop-rest.rest.now c.in-Some.left.now
    c.loop-rest.invariant c.in-Some.ensures.is)

pub loop-rest-smaller : goal.loop-rest-smaller
loop-rest-smaller c = item_shorter saved_later IsNum Any 108 later_begins c.loop-rest.rest.now c.in-Some.num c.in-Some.left.now c.in-Some.ensures.is

pub returns-in-None-clause-refused : goal.returns-in-None-clause-refused
returns-in-None-clause-refused c =
    stuck saved_later IsNum Any IsNext 108 laters_items c.args.text.now c.loop-rest.list.items c.loop-rest.rest.now c.loop-rest.invariant
    (sym c.begins_with.ensures ∙ c.loop-rest-test.true) (c.in-None.ensures.none refl)

pub returns-then-is_next-clause-is : goal.returns-then-is_next-clause-is
returns-then-is_next-clause-is c =
    items_piece saved_later IsNum IsNext c.args.text.now c.loop-rest.list.items c.loop-rest.rest.now c.loop-rest.invariant
    (c.is_next.ensures.yes c.if-is_next.true)

pub returns-clause-refused : goal.returns-clause-refused
returns-clause-refused c =
    items_no_tail saved_later IsNum Any IsNext 108 laters_items c.args.text.now c.loop-rest.list.items c.loop-rest.rest.now c.loop-rest.invariant
    (sym c.begins_with.ensures ∙ c.loop-rest-test.false) (c.is_next.ensures.no c.if-is_next.false)
