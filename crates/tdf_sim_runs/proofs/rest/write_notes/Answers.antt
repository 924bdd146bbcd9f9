use Rattle.std.proofs.Common.{List, Ok, ℕ, subst}
use Rattle.tdf_io.proofs.Api.{writes_then}
use Rattle.tdf_sim_notes.specs.Ending.{end_text}
use Rattle.tdf_io.specs.Bytes.{WritesText}
use Rattle.tdf_sim_runs.proofs.rest.write_notes.Goals as goal

pub returns-in-Ok : goal.returns-in-Ok
returns-in-Ok g c = writes_then g.N.Sink.taken g.N.Sink.faults c.args.notes.now c.put_all.new.sink c.write_closing.new.notes c.args.whole.now.news.items
    (end_text c.args.flat.now.resolution c.args.turns c.args.whole.now.ran.end) tt c.write_closing.result
    (subst (λ (l : List ℕ). WritesText {T = Unit {0}} g.N.Sink.taken g.N.Sink.faults c.args.notes.now c.put_all.new.sink l (Ok tt)) c.deref.ensures.value c.in-Ok.ensures) c.write_closing.ensures
