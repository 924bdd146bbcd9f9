use Rattle.std.proofs.Common.{decimal, ◌∷◌, ◌∙◌, refl, sym}
use Rattle.tdf_save_reading.proofs.ListReads.{AtEnd, list_items, list_no_end, list_piece, list_stuck}
use Rattle.tdf_save.proofs.Api.{count32_one}
use Rattle.tdf_save_reading.proofs.ReadSteps.{one_read}
use Rattle.tdf_save.specs.Members.{IsCount32}
use Rattle.tdf_save.specs.machine.Pieces.{Stops}
use Rattle.tdf_save_reading.proofs.lists.read_rates.Goals as goal

pub loop-rest-preserved : goal.loop-rest-preserved
loop-rest-preserved c =
    rw c.in_ok-put-in-Some.ensures.put
    (one_read (λ v. 32 ∷ decimal v) IsCount32 Stops AtEnd 32 (list_items decimal IsCount32 count32_one) c.args.text.now c.loop-rest.list.items c.in-Some.number c.loop-rest.rest.now c.in-Some.left.now
    c.loop-rest.invariant c.in-Some.ensures.is)

pub returns-in-None-clause-refused : goal.returns-in-None-clause-refused
returns-in-None-clause-refused c =
    list_stuck decimal IsCount32 count32_one c.args.text.now c.loop-rest.list.items c.loop-rest.rest.now c.loop-rest.invariant
    (sym c.begins_with.ensures ∙ c.loop-rest-test.true) (c.in-None.ensures.none refl)

pub returns-in-Some-cut-clause-is : goal.returns-in-Some-cut-clause-is
returns-in-Some-cut-clause-is c =
    list_piece decimal IsCount32 c.args.text.now c.loop-rest.list.items c.loop-rest.rest.now c.in-Some-cut.left.now c.loop-rest.invariant c.in-Some-cut.ensures

pub returns-clause-refused : goal.returns-clause-refused
returns-clause-refused c =
    list_no_end decimal IsCount32 count32_one c.args.text.now c.loop-rest.list.items c.loop-rest.rest.now c.loop-rest.invariant
    (sym c.begins_with.ensures ∙ c.loop-rest-test.false) c.in-None-cut.ensures
