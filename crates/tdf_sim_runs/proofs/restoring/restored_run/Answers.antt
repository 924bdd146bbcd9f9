use Rattle.std.proofs.Common.{◌≡◌, ◌∙◌}
use Rattle.tdf_saved.specs.declared.err.StateErr.TheVariants.{Bad}
use Rattle.tdf_sim_runs.proofs.Reopening.{plans, rows_are}
use Rattle.tdf_sim_runs.proofs.Refused.{if_made, not_made, on_off, one_of, same_error}
use Rattle.tdf_sim_runs.proofs.restoring.restored_run.Goals as goal
use Rattle.tdf_sim_shown.specs.Below.{rows_from_saved}
use Rattle.tdf_sim_runs.specs.declared.running.Running.{Running}

pub returns-then-not-has_both-clause-bad : goal.returns-then-not-has_both-clause-bad
returns-then-not-has_both-clause-bad c = λ bad model firsts m valid. on_off c.has_both.result (c.has_both.ensures.1 (valid.times, valid.members)) c.if-not-has_both.true

pub returns-in-Err-clause-bad : goal.returns-in-Err-clause-bad
returns-in-Err-clause-bad c = λ bad model firsts m valid. c.in-Err.ensures.bad (same_error c.in-Err.error Bad bad) model firsts m valid

pub returns-in-Err-clause-bad_always : goal.returns-in-Err-clause-bad_always
returns-in-Err-clause-bad_always c = λ model m none. one_of c.in-Err.error

pub returns-clause-upto : goal.returns-clause-upto
returns-clause-upto c = λ model firsts m are.
    if_made (λ (run : Running). run.shown.trace.rows.upto ≡ c.in-Ok.standing.rows) (λ (run : Running). run.shown.trace.rows.upto ≡ rows_from_saved model c.args.flat.now firsts c.args.snapshot) c.opened.result
    (λ run is. is ∙ rows_are c.args.flat.now c.args.snapshot c.in-Ok.standing c.requires.can ((c.has_both.ensures.0 c.if-not-has_both.false).0) ((c.has_both.ensures.0 c.if-not-has_both.false).1) c.in-Ok.ensures.stands
    c.law_restored.ensures.clusters c.law_restored.ensures.plans c.law_restored.ensures.theirs c.law_can.ensures.shown model firsts m are)
    c.opened.ensures.upto

pub returns-clause-bad_always : goal.returns-clause-bad_always
returns-clause-bad_always c = λ model m none. not_made c.opened.result (λ ok.
    (let p = plans c.args.flat.now c.args.snapshot c.in-Ok.standing c.requires.can ((c.has_both.ensures.0 c.if-not-has_both.false).0) ((c.has_both.ensures.0 c.if-not-has_both.false).1) c.in-Ok.ensures.stands
    c.law_restored.ensures.clusters c.law_restored.ensures.plans c.law_restored.ensures.theirs c.law_can.ensures.shown in
    none p.firsts (c.opened.ensures.valid model p.firsts m p.are ok)))
