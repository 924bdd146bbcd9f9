use Rattle.std.proofs.Common.{◌≡◌, ◌∙◌, subst, sym}
use Rattle.std.specs.Prelude.{OnOk}
use Rattle.tdf_bind_hierarchy.proofs.Steps.{walk_step}
use Rattle.tdf_bind_hierarchy.specs.Tables.{TablesOf}
use Rattle.tdf_bind_hierarchy.proofs.walk.+blocks.Goals as goal

pub walk_block-returns : goal.walk_block-returns
walk_block-returns t c = subst (λ (u : TablesOf). OnOk c.walk_all.result (c.walk_all.new.tables ≡ u))
    (walk_step c.args.walk.now.model.now c.args.walk.now.depth c.args.block c.args.path.now c.args.outer.now c.args.tables.now c.index-walk-block.result
    (record { ports = c.inner.inside.ports; signals = c.inner.inside.signals.items; instances = c.inner.inside.instances.items }) c.in_ok-own.own.items c.deref.result.now c.put_signals.new.tables
    c.if-walk-eq0.false c.if-block-walk.false c.index-walk-block.is (c.inner.view_is ∙ sym c.index-walk-block.is) c.in_ok-own.ensures c.deref.ensures.value)
    c.walk_all.ensures
