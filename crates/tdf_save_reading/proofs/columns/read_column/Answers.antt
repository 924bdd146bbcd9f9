use Rattle.std.proofs.Common.{refl}
use Rattle.tdf_save_reading.proofs.ColumnSteps.{all_parts, no_front, no_laters, no_samples}
use Rattle.tdf_save_reading.proofs.ModuleReads.{why_weaker}
use Rattle.tdf_save_reading.proofs.columns.read_column.Goals as goal

pub returns-in_default-clause-refused : goal.returns-in_default-clause-refused
returns-in_default-clause-refused c = no_front c.args.label.now c.args.text.now (c.in_default.ensures.none refl)

pub returns-in-Ok-read_laters-clause-is : goal.returns-in-Ok-read_laters-clause-is
returns-in-Ok-read_laters-clause-is c =
    all_parts c.args.label.now c.args.text.now c.in-Some.after.now c.in-Ok.after.now c.in-Ok-read_laters.rest.now c.in-Some.carry c.in-Ok.samples.items c.in-Ok-read_laters.later.items
    c.in-Some.ensures.is c.in-Ok.ensures.is c.in-Ok-read_laters.ensures.is

pub returns-in-Err-read_laters-clause-refused : goal.returns-in-Err-read_laters-clause-refused
returns-in-Err-read_laters-clause-refused c = why_weaker c.in-Err-read_laters.why
    (no_laters c.args.label.now c.args.text.now c.in-Some.after.now c.in-Ok.after.now c.in-Some.carry c.in-Ok.samples.items c.in-Some.ensures.is c.in-Ok.ensures.is) c.in-Err-read_laters.ensures.refused

pub returns-in-Err-clause-refused : goal.returns-in-Err-clause-refused
returns-in-Err-clause-refused c = why_weaker c.in-Err.why
    (no_samples c.args.label.now c.args.text.now c.in-Some.after.now c.in-Some.carry c.in-Some.ensures.is) c.in-Err.ensures.refused
