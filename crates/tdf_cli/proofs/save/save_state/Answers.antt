use Rattle.std.proofs.Common.{◌≡◌, List, ℕ, None, subst}
use Rattle.tdf_cli.proofs.Driven.{writes_note, writes_nothing}
use Rattle.tdf_cli.proofs.Saved.{same_state}
use Rattle.tdf_cli.proofs.Saving.{closing_has, state_there, writes_only}
use Rattle.tdf_cli.proofs.save.save_state.Goals as goal
use Rattle.tdf_cli.specs.Runs.{Outcome, note, status_of}
use Rattle.tdf_cli.specs.Saving.{HasStateOutcome, saved_state, state_outcome}
use Rattle.tdf_cli.specs.machine.Stages.{WritesOf}
use Rattle.tdf_io.specs.declared.writing.SinkErr.TheVariants.{Memory}
use Rattle.tdf_sim.proofs.Api.{can_run, own_model, own_start}
use Rattle.tdf_sim.specs.Ends.{HasEndedBefore, IfEndedBefore, IfPaused, Part, PausesAt, end_text, notes_to, rules_of, start_world}

pub returns-in-Ok-clause-writes : goal.returns-in-Ok-clause-writes
returns-in-Ok-clause-writes g c = λ tree accepted is.
    let sim = c.args.sim in
    let told = c.in-Ok-Paused.ensures.answered tree accepted in
    let at = subst (λ (p : Part). IfPaused p (PausesAt c.args.asked.kind tree sim.flat sim.firsts.items told.0 c.args.end c.args.asked.turns None None None None)) c.in-Ok-Paused.field-0-is
    (c.in-Ok-Paused.ensures.parts tree accepted told.0 told.1).paused in
    let p = c.in-Ok-Paused.paused in
    let of = (can_run c.law_limits.ensures c.law_runnable.ensures tree sim accepted).of in
    let text = c.in-Ok.ensures tree sim.firsts.items
    (notes_to tree sim.flat (rules_of tree sim.flat) (start_world tree sim.flat sim.firsts.items told.0 c.args.asked.turns) c.args.end)
    (own_model c.args.asked.kind tree sim.flat sim.firsts.items told.0 c.args.end c.args.asked.turns None None None None p at of)
    (own_start c.args.asked.kind tree sim.flat sim.firsts.items told.0 c.args.end c.args.asked.turns None None None None p at) in
    let has = saved_state accepted.accepted is (state_there c.args.asked tree sim told.0 c.args.end None None None None p at c.args.text.now c.in-Ok.bytes.items text) in
    writes_only (HasStateOutcome c.args.asked tree c.args.text.now) (state_outcome c.in-Ok.bytes.items) has
    (λ x other. same_state c.law_one_model.ensures c.law_one_run.ensures.models c.law_one_run.ensures.answers c.law_parts_alike.ensures.parts c.args.asked tree accepted.kept
    c.law_rests_alike.ensures.members c.law_parts_alike.ensures.snapshots c.args.text.now x (state_outcome c.in-Ok.bytes.items) other has)
    c.put_state.result (g.O.Sink.taken c.args.out.now) (g.O.Sink.taken c.put_state.new.out) (g.N.Sink.taken c.args.notes.now) (g.N.Sink.taken c.put_state.new.notes)
    (subst (λ (bytes : List ℕ). WritesOf (λ (o : Outcome). o ≡ state_outcome bytes) c.put_state.result (g.O.Sink.taken c.args.out.now) (g.O.Sink.taken c.put_state.new.out)
    (g.N.Sink.taken c.args.notes.now) (g.N.Sink.taken c.put_state.new.notes)) c.deref.ensures.value c.put_state.ensures.writes)

pub returns-in-Ok-Ended-clause-writes : goal.returns-in-Ok-Ended-clause-writes
returns-in-Ok-Ended-clause-writes g c = λ tree accepted is.
    let sim = c.args.sim in
    let told = c.in-Ok-Ended.ensures.answered tree accepted in
    let ended = subst (λ (p : Part). IfEndedBefore p (HasEndedBefore c.args.asked.kind tree sim.flat sim.firsts.items told.0 c.args.end c.args.asked.turns None None None None)) c.in-Ok-Ended.field-0-is
    (c.in-Ok-Ended.ensures.parts tree accepted told.0 told.1).ended in
    let has = closing_has c.args.asked tree sim c.args.end accepted.accepted is c.args.text.now told.0 told.1 c.in-Ok-Ended.ran None None None None ended in
    writes_note (HasStateOutcome c.args.asked tree c.args.text.now) c.note_end-noted.result (status_of c.in-Ok-Ended.ran.end) (g.O.Sink.taken c.args.out.now) has
    (λ x other. same_state c.law_one_model.ensures c.law_one_run.ensures.models c.law_one_run.ensures.answers c.law_parts_alike.ensures.parts c.args.asked tree accepted.kept
    c.law_rests_alike.ensures.members c.law_parts_alike.ensures.snapshots c.args.text.now x (note (status_of c.in-Ok-Ended.ran.end) (end_text sim.flat.resolution c.args.asked.turns c.in-Ok-Ended.ran.end)) other has)
    c.note_end-noted.ensures.status c.note_end-noted.ensures.writes

pub returns-in-Err-state_text-clause-writes : goal.returns-in-Err-state_text-clause-writes
returns-in-Err-state_text-clause-writes g c = λ tree accepted is.
    writes_nothing (HasStateOutcome c.args.asked tree c.args.text.now) Memory (g.O.Sink.taken c.args.out.now) (g.N.Sink.taken c.args.notes.now)

pub returns-in-Err-clause-writes : goal.returns-in-Err-clause-writes
returns-in-Err-clause-writes g c = λ tree accepted is.
    writes_nothing (HasStateOutcome c.args.asked tree c.args.text.now) Memory (g.O.Sink.taken c.args.out.now) (g.N.Sink.taken c.args.notes.now)
