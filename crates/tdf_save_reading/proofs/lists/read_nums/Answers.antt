use Rattle.std.proofs.Common.{rules, SFits, ◌∷◌, ◌∙◌, refl, sym}
use Rattle.std.proofs.lemmas.Int.{to_z-of_z}
use Rattle.std.specs.Int.{w128}
use Rattle.std.specs.Fmt.{signed_decimal}
use Rattle.tdf_save_reading.proofs.ListReads.{AtEnd, list_items, list_no_end, list_piece, list_stuck}
use Rattle.tdf_save.proofs.Api.{num_one}
use Rattle.tdf_save_reading.proofs.ReadSteps.{one_read}
use Rattle.tdf_save.specs.Members.{IsNum}
use Rattle.tdf_save.specs.machine.Pieces.{Stops}
use Rattle.tdf_save_reading.proofs.lists.read_nums.Goals as goal

pub loop-rest-preserved : goal.loop-rest-preserved
loop-rest-preserved c =
    let f : SFits w128 c.in-Some.number = search rules in
    rw (c.in_ok-put-in-Some.ensures.put, to_z-of_z w128 c.in-Some.number f)
    (one_read (λ v. 32 ∷ signed_decimal v) IsNum Stops AtEnd 32 (list_items signed_decimal IsNum num_one) c.args.text.now c.loop-rest.list.items c.in-Some.number c.loop-rest.rest.now c.in-Some.left.now
    c.loop-rest.invariant c.in-Some.ensures.is)

pub returns-in-None-clause-refused : goal.returns-in-None-clause-refused
returns-in-None-clause-refused c =
    list_stuck signed_decimal IsNum num_one c.args.text.now c.loop-rest.list.items c.loop-rest.rest.now c.loop-rest.invariant
    (sym c.begins_with.ensures ∙ c.loop-rest-test.true) (c.in-None.ensures.none refl)

pub returns-in-Some-cut-clause-is : goal.returns-in-Some-cut-clause-is
returns-in-Some-cut-clause-is c =
    list_piece signed_decimal IsNum c.args.text.now c.loop-rest.list.items c.loop-rest.rest.now c.in-Some-cut.left.now c.loop-rest.invariant c.in-Some-cut.ensures

pub returns-clause-refused : goal.returns-clause-refused
returns-clause-refused c =
    list_no_end signed_decimal IsNum num_one c.args.text.now c.loop-rest.list.items c.loop-rest.rest.now c.loop-rest.invariant
    (sym c.begins_with.ensures ∙ c.loop-rest-test.false) c.in-None-cut.ensures
