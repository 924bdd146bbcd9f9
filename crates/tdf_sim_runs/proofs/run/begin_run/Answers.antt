use Rattle.std.proofs.Common.{List, ℕ, subst}
use Rattle.std.specs.Io.KnownBytes.{Appends}
use Rattle.tdf_dynamic_first.specs.declared.first.First.{First}
use Rattle.tdf_io.proofs.Api.{front_none, front_whole}
use Rattle.tdf_io.specs.Bytes.{AppendsFront}
use Rattle.tdf_sim_notes.specs.Plans.{plans_of}
use Rattle.tdf_sim_runs.proofs.Answering.{always_err, always_ok}
use Rattle.tdf_sim_runs.proofs.run.begin_run.Goals as goal
use Rattle.tdf_sim_runs.specs.Runs.{model_about}
use Rattle.tdf_streams.proofs.Api.{is_wired}
use Rattle.tdf_trace.specs.Writings.{head_of}

pub write_plans-requires-clause-wired : goal.write_plans-requires-clause-wired
write_plans-requires-clause-wired g c = is_wired c.args.flat.now c.requires.can.of.limits

pub returns-in-Err-clause-head_part : goal.returns-in-Err-clause-head_part
returns-in-Err-clause-head_part g c = front_none (g.O.Sink.taken c.args.out.now) (head_of (model_about c.args.request.kind c.args.flat.now))

pub returns-in-Err-clause-plans_part : goal.returns-in-Err-clause-plans_part
returns-in-Err-clause-plans_part g c = subst (λ (l : List First). AppendsFront (g.N.Sink.taken c.args.notes.now) (g.N.Sink.taken c.write_plans.new.notes) (plans_of c.args.flat.now l)) c.deref.ensures.value c.in-Err.ensures.part

pub returns-clause-plans : goal.returns-clause-plans
returns-clause-plans g c = always_ok c.opened.result
    (subst (λ (l : List First). Appends (g.N.Sink.taken c.args.notes.now) (g.N.Sink.taken c.write_plans.new.notes) (plans_of c.args.flat.now l)) c.deref.ensures.value c.in_default.ensures.all)

pub returns-clause-plans_part : goal.returns-clause-plans_part
returns-clause-plans_part g c = always_err c.opened.result (front_whole (g.N.Sink.taken c.args.notes.now) (g.N.Sink.taken c.write_plans.new.notes) (plans_of c.args.flat.now c.args.firsts.items)
    (subst (λ (l : List First). Appends (g.N.Sink.taken c.args.notes.now) (g.N.Sink.taken c.write_plans.new.notes) (plans_of c.args.flat.now l)) c.deref.ensures.value c.in_default.ensures.all))

pub returns-clause-head : goal.returns-clause-head
returns-clause-head g c = c.opened.ensures.wrote.all

pub returns-clause-head_part : goal.returns-clause-head_part
returns-clause-head_part g c = c.opened.ensures.wrote.part
