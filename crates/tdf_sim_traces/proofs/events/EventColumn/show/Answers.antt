use Rattle.std.proofs.Common.{rules, ◌≡◌, false}
use Rattle.std.proofs.lemmas.Result.{IfOk-weaker}
use Rattle.tdf_sim_history.specs.Cells.{is_same_value}
use Rattle.tdf_sim_traces.proofs.Noting.{other_taken}
use Rattle.tdf_sim_traces.proofs.events.EventColumn.show.Goals as goal
use Rattle.tdf_sim_traces.specs.Events.{value_of}

pub returns-clause-took : goal.returns-clause-took
returns-clause-took c =
    let apart : is_same_value c.args.self.now.shown (value_of c.args.values.now c.args.self.now.signal) ≡ false = search rules in
    IfOk-weaker c.note.result _ _ (λ u took. other_taken c.args.values.now c.args.time c.args.self.now c.args.trace.now.rows c.note.new.self.rows apart took) c.note.ensures.took
