use Rattle.std.proofs.lemmas.Result.{IfOk-weaker}
use Rattle.tdf_sim_traces.proofs.Ending.{shows_end}
use Rattle.tdf_sim_traces.proofs.shown.Shown.close.Goals as goal
use Rattle.tdf_sim_traces.specs.declared.shown.Shown.{Shown}

pub returns-clause-shown : goal.returns-clause-shown
returns-clause-shown c =
    let new : Shown = record c.args.self.now { trace = c.close.new.trace } in
    IfOk-weaker c.close.result _ _ (λ u notes. shows_end c.args.end c.args.self.now new notes) c.close.ensures.noted
