use Rattle.std.proofs.Common.{refl, sym, ◌∙◌}
use Rattle.tdf_save.proofs.Api.{sample_begins}
use Rattle.tdf_save.specs.Members.{IsStampInRange}
use Rattle.tdf_save.specs.Text.{saved_sample}
use Rattle.tdf_save.specs.machine.Pieces.{Any}
use Rattle.tdf_save_reading.proofs.ColumnSteps.{samples_items}
use Rattle.tdf_save_reading.proofs.ItemReads.{item_shorter, items_piece}
use Rattle.tdf_save_reading.proofs.ReadSteps.{none_read, one_read, stuck}
use Rattle.tdf_save_reading.specs.machine.Pieces.{NoSample}
use Rattle.tdf_save_reading.proofs.columns.read_samples.Goals as goal

pub loop-rest-init : goal.loop-rest-init
loop-rest-init c = rw c.new-list.ensures.items (none_read saved_sample IsStampInRange NoSample c.args.text.now)

pub loop-rest-preserved : goal.loop-rest-preserved
loop-rest-preserved c =
    rw c.in_ok-put-in-Some.ensures.put
    (one_read saved_sample IsStampInRange Any NoSample 115 samples_items c.args.text.now c.loop-rest.list.items c.in-Some.stamp c.loop-rest.rest.now c.in-Some.left.now
    c.loop-rest.invariant c.in-Some.ensures.is)

pub loop-rest-smaller : goal.loop-rest-smaller
loop-rest-smaller c = item_shorter saved_sample IsStampInRange Any 115 sample_begins c.loop-rest.rest.now c.in-Some.stamp c.in-Some.left.now c.in-Some.ensures.is

pub returns-in-None-clause-refused : goal.returns-in-None-clause-refused
returns-in-None-clause-refused c =
    stuck saved_sample IsStampInRange Any NoSample 115 samples_items c.args.text.now c.loop-rest.list.items c.loop-rest.rest.now c.loop-rest.invariant
    (sym c.begins_with.ensures ∙ c.loop-rest-test.true) (c.in-None.ensures.none refl)

pub returns-clause-is : goal.returns-clause-is
returns-clause-is c =
    items_piece saved_sample IsStampInRange NoSample c.args.text.now c.loop-rest.list.items c.loop-rest.rest.now c.loop-rest.invariant
    (tt, sym c.begins_with.ensures ∙ c.loop-rest-test.false)
