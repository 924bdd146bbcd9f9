use Rattle.std.specs.Prelude.{Err, Ok, OnOk, Result}
use Rattle.tdf_base.specs.declared.codes.Code.TheVariants as code
use Rattle.tdf_dynamic.proofs.Judging.{IsToldFirst, all_weaker, none_rejects, old_fails, rejection_is, unrejected_is}
use Rattle.tdf_dynamic.specs.machine.Judging.{IsRejection}
use Rattle.tdf_dynamic.specs.machine.Rows.{IsRefusing}
use Rattle.tdf_dynamic_plans.specs.Rates.{net_ports}
use Rattle.tdf_dynamic.proofs.next.unrejected.Goals as goal

on_ok : {T E P Q : Type 0} (r : Result T E) → OnOk r P → (P → Q) → OnOk r Q
on_ok (Ok x) p then = then p
on_ok (Err e) p then = tt

pub returns-in-Err-clause-refused : goal.returns-in-Err-clause-refused
returns-in-Err-clause-refused c =
    old_fails c.law_counts.ensures.apart c.law_counts.ensures.unique c.args.at.now.flat.now.tables c.args.at.now.cluster c.args.at.now.table.now c.requires.wired c.requires.has c.requires.rates c.requires.planned
    (IsRejection c.args.at.now.flat.now.tables c.args.at.now.cluster c.args.at.now.table.now c.args.at.now.frames.now (net_ports c.args.at.now.flat.now.tables c.args.new.now) c.args.timing.now.steps) c.in-Err.refused c.in-Err.ensures.refused

pub returns-in-Ok-clause-none : goal.returns-in-Ok-clause-none
returns-in-Ok-clause-none c = on_ok c.accepted.result c.accepted.ensures.none
    (unrejected_is c.args.at.now.flat.now.tables c.args.at.now.cluster c.args.at.now.table.now c.args.at.now.frames.now c.in-Ok.old.counts.items c.in-Ok.old.steps c.in-Ok.ensures.timing (net_ports c.args.at.now.flat.now.tables c.args.new.now) c.args.timing.now.steps)

pub returns-in-Ok-clause-refused : goal.returns-in-Ok-clause-refused
returns-in-Ok-clause-refused c =
    all_weaker (IsToldFirst (IsRefusing (net_ports c.args.at.now.flat.now.tables c.args.at.now.table.now) (net_ports c.args.at.now.flat.now.tables c.args.new.now) c.in-Ok.old.steps c.args.timing.now.steps) c.args.at.now.flat.now.tables code.Rejected c.args.at.now.table.now c.args.at.now.frames.now)
    (IsRejection c.args.at.now.flat.now.tables c.args.at.now.cluster c.args.at.now.table.now c.args.at.now.frames.now (net_ports c.args.at.now.flat.now.tables c.args.new.now) c.args.timing.now.steps)
    (rejection_is c.args.at.now.flat.now.tables c.args.at.now.cluster c.args.at.now.table.now c.args.at.now.frames.now c.in-Ok.old.counts.items c.in-Ok.old.steps c.in-Ok.ensures.timing (net_ports c.args.at.now.flat.now.tables c.args.new.now) c.args.timing.now.steps)
    c.accepted.result c.accepted.ensures.refused

pub returns-then-take_all-clause-none : goal.returns-then-take_all-clause-none
returns-then-take_all-clause-none c = none_rejects c.args.at.now.flat.now.tables c.args.at.now.cluster c.args.at.now.table.now c.args.at.now.frames.now c.requires.planned (c.take_all.ensures c.if-take_all.true) (net_ports c.args.at.now.flat.now.tables c.args.new.now) c.args.timing.now.steps
