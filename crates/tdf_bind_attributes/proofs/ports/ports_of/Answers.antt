use Rattle.std.proofs.Common.{◌∙◌, ◌+◌, ◌≤◌, ◌++◌, List, length, map, drop, sym, ap, arith}
use Rattle.tdf_bind_attributes.proofs.Listed.{ports_next, ports_none}
use Rattle.tdf_bind_attributes.proofs.ports.ports_of.Goals as goal
use Rattle.tdf_bind_attributes.specs.Roles.{port_data}
use Rattle.tdf_lang_tree.specs.Views.{pure_tdf}
use Rattle.tdf_bind_connections.specs.declared.roles.PortData.{PortData}

pub loop-line-preserved : goal.loop-line-preserved
loop-line-preserved c =
    let make = port_data c.args.scope.now (pure_tdf c.args.block.now) in
    let lines = c.lines-line-items.result.now in
    ap (λ (l : List PortData). l ++ map make (map (λ p. p.now) (drop (c.loop-line.line-index + 1) lines))) c.in_ok-push.ensures.items
    ∙ ports_next make lines c.loop-line.line-index c.line-item.result _ c.loop-line.ports.items c.loop-line-test.true
    (c.in_ok-port_data.ensures ∙ ap (λ p. make p.now) c.line-item.is)
    ∙ c.loop-line.invariant

pub returns : goal.returns
returns c =
    let make = port_data c.args.scope.now (pure_tdf c.args.block.now) in
    let lines = c.lines-line-items.result.now in
    let past : length lines ≤ c.loop-line.line-index = omega (arith, c.loop-line-test.false) in
    sym (ports_none make lines c.loop-line.line-index c.loop-line.ports.items past) ∙ c.loop-line.invariant
    ∙ ap (map make) (c.lines-line-items.ensures ∙ c.in_ok-lines.ensures)
