use Rattle.std.proofs.Common.{codes, refl, rules, SFits}
use Rattle.std.proofs.lemmas.Int.{to_z-of_z}
use Rattle.std.specs.Fmt.{signed_decimal}
use Rattle.std.specs.Int.{w128}
use Rattle.tdf_save.specs.Members.{IsNum}
use Rattle.tdf_save.specs.Text.{saved_later}
use Rattle.tdf_save.specs.machine.Pieces.{Any}
use Rattle.tdf_save_reading.proofs.ColumnSteps.{later_front}
use Rattle.tdf_save_reading.proofs.ModuleReads.{front_absent, front_none, front_piece, last_text}
use Rattle.tdf_save_reading.proofs.columns.read_later.Goals as goal

pub returns-in-Some-last_num-clause-is : goal.returns-in-Some-last_num-clause-is
returns-in-Some-last_num-clause-is c =
    let f : SFits w128 c.in-Some-last_num.num = search rules in
    rw (to_z-of_z w128 c.in-Some-last_num.num f)
    (front_piece (codes "later") saved_later (last_text signed_decimal) IsNum Any c.args.text.now c.in-Some.rest.now c.in-Some-last_num.num c.in-Some-last_num.left.now
    later_front c.in-Some.ensures c.in-Some-last_num.ensures.is)

pub returns-in-None-last_num-clause-none : goal.returns-in-None-last_num-clause-none
returns-in-None-last_num-clause-none c = λ _. front_none (codes "later") saved_later (last_text signed_decimal) IsNum Any c.args.text.now c.in-Some.rest.now later_front c.in-Some.ensures (c.in-None-last_num.ensures.none refl)

pub returns-in-None-clause-none : goal.returns-in-None-clause-none
returns-in-None-clause-none c = λ _. front_absent (codes "later") saved_later (last_text signed_decimal) IsNum Any c.args.text.now later_front c.in-None.ensures
