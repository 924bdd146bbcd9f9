use Rattle.std.proofs.Common.{◌≡◌, ◌∙◌, List, ap, length, subst}
use Rattle.std.proofs.lemmas.Result.{IfOk-weaker}
use Rattle.tdf_bind_tables.specs.FlatTables.{FlatTablesOf}
use Rattle.tdf_bind_tables.specs.declared.actors.ActorRow.{ActorRow}
use Rattle.tdf_exec_layout.proofs.Told.{all_are, sinks_have}
use Rattle.tdf_exec_layout.specs.machine.Ends.{ToldUpTo}
use Rattle.tdf_exec_layout.proofs.wiring.all_wires.Goals as goal

pub all_told-requires-clause-sinks : goal.all_told-requires-clause-sinks
all_told-requires-clause-sinks c =
    let same : c.deref-3.result.now ≡ c.args.tables.now.actors = c.deref-3.ensures.value ∙ ap (λ (x : FlatTablesOf). x.actors) c.tables.view_is in
    rw same (sinks_have c.args.tables.now c.in_ok-rows.rows.items c.in_ok-rows.ensures c.requires.sinks)

pub returns : goal.returns
returns c =
    let same : c.deref-3.result.now ≡ c.args.tables.now.actors = c.deref-3.ensures.value ∙ ap (λ (x : FlatTablesOf). x.actors) c.tables.view_is in
    IfOk-weaker c.all_told.result (λ wires. ToldUpTo c.deref-3.result.now (length c.deref-3.result.now) c.in_ok-rows.rows.items c.all_told.new.rows.items wires.items) _
    (λ wires h. all_are c.args.tables.now c.in_ok-rows.rows.items c.all_told.new.rows.items wires.items c.in_ok-rows.ensures c.requires.sinks
    (subst (λ (actors : List ActorRow). ToldUpTo actors (length actors) c.in_ok-rows.rows.items c.all_told.new.rows.items wires.items) same h)) c.all_told.ensures
