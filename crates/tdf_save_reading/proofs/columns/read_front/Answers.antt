use Rattle.std.proofs.Common.{codes, refl}
use Rattle.tdf_save.proofs.Api.{carry_line}
use Rattle.tdf_save.specs.Text.{carry_word}
use Rattle.tdf_save.specs.machine.Pieces.{Any}
use Rattle.tdf_save_reading.proofs.ColumnSteps.{carry_front}
use Rattle.tdf_save_reading.proofs.ModuleReads.{front_absent, front_none, front_piece, last_text, path_front}
use Rattle.tdf_save_reading.specs.machine.Pieces.{HasCarry}
use Rattle.tdf_save_reading.proofs.columns.read_front.Goals as goal

pub returns-in-Some-read_carry-clause-is : goal.returns-in-Some-read_carry-clause-is
returns-in-Some-read_carry-clause-is c = front_piece (path_front (codes "column") c.args.label.now) (carry_line c.args.label.now) (last_text carry_word) HasCarry Any c.args.text.now c.in-Some.rest.now c.in-Some-read_carry.carry c.in-Some-read_carry.left.now
    (carry_front c.args.label.now) c.in-Some.ensures c.in-Some-read_carry.ensures.is

pub returns-in-None-read_carry-clause-none : goal.returns-in-None-read_carry-clause-none
returns-in-None-read_carry-clause-none c = λ _. front_none (path_front (codes "column") c.args.label.now) (carry_line c.args.label.now) (last_text carry_word) HasCarry Any c.args.text.now c.in-Some.rest.now (carry_front c.args.label.now) c.in-Some.ensures (c.in-None-read_carry.ensures.none refl)

pub returns-in-None-clause-none : goal.returns-in-None-clause-none
returns-in-None-clause-none c = λ _. front_absent (path_front (codes "column") c.args.label.now) (carry_line c.args.label.now) (last_text carry_word) HasCarry Any c.args.text.now (carry_front c.args.label.now) c.in-None.ensures
