use Rattle.tdf_sim.proofs.FromBytes.{always_bad, no_start}
use Rattle.tdf_sim.proofs.reading.read_state.Goals as goal

pub returns-in-Some-clause-bad_always : goal.returns-in-Some-clause-bad_always
returns-in-Some-clause-bad_always c = always_bad c.args.bytes.now c.run_with.result c.run_with.ensures.run

pub returns-in-None-clause-bad : goal.returns-in-None-clause-bad
returns-in-None-clause-bad c = λ bad. no_start c.law_text.ensures.found c.law_members.ensures.lines c.args.bytes.now (c.text_start.ensures.none c.in-None.is)
