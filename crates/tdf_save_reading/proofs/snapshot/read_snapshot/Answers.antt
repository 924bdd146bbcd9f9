use Rattle.std.proofs.Common.{ap, inl, refl, Ok, Err}
use Rattle.tdf_save_reading.proofs.WholeSteps.{bad_front, memory_or_none, no_model_there, only_one, whole_is}
use Rattle.tdf_save_reading.proofs.snapshot.read_snapshot.Goals as goal

pub returns-then-is_model_part-clause-is : goal.returns-then-is_model_part-clause-is
returns-then-is_model_part-clause-is c = whole_is c.args.members.now c.args.bytes.now c.in-Ok.snapshot c.in-Ok.rest.now c.in-Ok.ensures.is (c.is_model_part.ensures.yes c.if-is_model_part.true)

pub returns-then-is_model_part-clause-always : goal.returns-then-is_model_part-clause-always
returns-then-is_model_part-clause-always c = λ t f h. inl (ap Ok (only_one c.args.members.now c.requires.apart c.args.bytes.now c.in-Ok.snapshot c.in-Ok.rest.now c.in-Ok.ensures.is t f h))

pub returns-else-is_model_part-clause-bad : goal.returns-else-is_model_part-clause-bad
returns-else-is_model_part-clause-bad c = λ _. no_model_there c.args.members.now c.requires.apart c.args.bytes.now c.in-Ok.snapshot c.in-Ok.rest.now c.in-Ok.ensures.is (c.is_model_part.ensures.no c.if-is_model_part.false)

pub returns-else-is_model_part-clause-always : goal.returns-else-is_model_part-clause-always
returns-else-is_model_part-clause-always c = λ t f h. absurd (no_model_there c.args.members.now c.requires.apart c.args.bytes.now c.in-Ok.snapshot c.in-Ok.rest.now c.in-Ok.ensures.is (c.is_model_part.ensures.no c.if-is_model_part.false) t f h)

pub returns-in-Err-clause-bad : goal.returns-in-Err-clause-bad
returns-in-Err-clause-bad c = λ e. bad_front c.args.members.now c.args.bytes.now c.in-Err.why c.in-Err.ensures.refused (Err c.in-Err.why) refl e

pub returns-in-Err-clause-always : goal.returns-in-Err-clause-always
returns-in-Err-clause-always c = memory_or_none c.args.members.now c.args.bytes.now c.in-Err.why c.in-Err.ensures.refused (Err c.in-Err.why) refl
