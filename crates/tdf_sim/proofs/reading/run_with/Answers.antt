use Rattle.std.proofs.Common.{subst}
use Rattle.std.proofs.lemmas.Result.{IfOk-weaker}
use Rattle.tdf_sim.specs.Accepted.{IsTextRefusal}
use Rattle.tdf_sim.specs.declared.err.SimErr.{SimErr}
use Rattle.tdf_sim.proofs.FromBytes.{has_model, is_faulty, none_at_all, run_of, too_long}
use Rattle.tdf_sim.proofs.reading.run_with.Goals as goal
use Rattle.tdf_sim.specs.States.{IsRunOf}
use Rattle.tdf_sim.specs.machine.Reading.{IsRunIn}

pub returns-then-text-gt-LONGEST_TEXT-clause-bad : goal.returns-then-text-gt-LONGEST_TEXT-clause-bad
returns-then-text-gt-LONGEST_TEXT-clause-bad c = λ bad. too_long c.law_text.ensures.found c.law_text.ensures.start c.law_members.ensures.lines c.args.bytes.now c.args.text.now c.requires.text c.if-text-gt-LONGEST_TEXT.true

pub run_in-requires : goal.run_in-requires
run_in-requires c = let t = c.in-Ok.ensures.accepted in record {
  model = has_model c.law_text.ensures.found c.law_text.ensures.start c.law_members.ensures.lines c.args.bytes.now c.args.text.now c.requires.text
      c.law_limits.ensures c.law_runnable.ensures t.tree c.in-Ok.sim t.spelled t.accepted;
}

pub returns-in-Ok-clause-run : goal.returns-in-Ok-clause-run
returns-in-Ok-clause-run c = let t = c.in-Ok.ensures.accepted in IfOk-weaker c.run_in.result (IsRunIn c.in-Ok.sim.flat c.args.bytes.now) (IsRunOf c.args.bytes.now)
    (run_of c.law_text.ensures.found c.law_text.ensures.start c.law_members.ensures.lines c.args.bytes.now c.args.text.now c.requires.text
    c.law_limits.ensures c.law_runnable.ensures t.tree c.in-Ok.sim t.spelled t.accepted c.if-text-gt-LONGEST_TEXT.false) c.run_in.ensures.run

pub returns-in-Ok-clause-bad : goal.returns-in-Ok-clause-bad
returns-in-Ok-clause-bad c = λ bad. let t = c.in-Ok.ensures.accepted in none_at_all c.law_text.ensures.found c.law_text.ensures.start c.law_members.ensures.lines c.args.bytes.now c.args.text.now c.requires.text
    c.law_limits.ensures c.law_runnable.ensures t.tree c.in-Ok.sim t.spelled t.accepted c.law_rests_alike.ensures.members c.law_rests_alike.ensures.valid (c.run_in.ensures.bad bad)

pub returns-in-Err-Refused-clause-bad : goal.returns-in-Err-Refused-clause-bad
returns-in-Err-Refused-clause-bad c = λ bad. is_faulty c.law_text.ensures.found c.law_text.ensures.start c.law_members.ensures.lines c.args.bytes.now c.args.text.now c.requires.text
    c.law_first_fault.ensures.apart c.in-Err-Refused.field-0-0 (subst (λ (e : SimErr). IsTextRefusal c.args.text.now e) c.in-Err-Refused.field-0-is c.in-Err-Refused.ensures.refused)
