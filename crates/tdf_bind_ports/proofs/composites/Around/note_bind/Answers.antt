use Rattle.std.proofs.Common.{rules, ◌≡◌, ◌∙◌, OnOk, ap, Ok, Err, Result}
use Rattle.tdf_bind_ports.proofs.Bound.{bind_is}
use Rattle.tdf_bind_ports.proofs.composites.Around.note_bind.Goals as goal
use Rattle.tdf_bind_ports.specs.Faults.{least_link_with}
use Rattle.tdf_bind_ports.specs.Links.{port_around, port_link_faults}
use Rattle.tdf_bind_ports.specs.machine.Pairs.{has_pair}
use Rattle.tdf_expr_symbols.specs.Names.{thing_of}

on_ok : {T E : Type 0} (r : Result T E) (P : Type 0) → P → OnOk r P
on_ok (Ok x) P p = p
on_ok (Err e) P p = tt

pub returns-in-Bind-clause-first : goal.returns-in-Bind-clause-first
returns-in-Bind-clause-first c =
    let noted : c.note_port.new.first ≡ least_link_with c.args.first.now (port_link_faults c.args.self.now.globals c.in-Bind.line c.has-again.result
    (thing_of c.args.self.now.own c.as_bytes.result.now) (port_around c.args.self.now c.as_bytes-instance.result.now c.as_bytes-port.result.now)) = search rules in
    on_ok c.add.result _ (noted ∙ ap (least_link_with c.args.first.now) (bind_is c.args.self.now (has_pair c.args.pairs.now) c.args.member.now
    c.in-Bind.line c.in-Bind.instance c.in-Bind.port c.in-Bind.target c.as_bytes-instance.result.now c.as_bytes-port.result.now c.as_bytes.result.now c.has-again.result
    c.in-Bind.is c.as_bytes-instance.ensures c.as_bytes-port.ensures c.as_bytes.ensures c.has-again.ensures))
