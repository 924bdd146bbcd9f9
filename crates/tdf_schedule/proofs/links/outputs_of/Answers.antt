use Rattle.std.proofs.Common.{subst, sym, ◌+◌, List, ℕ}
use Rattle.tdf_schedule.proofs.Linked.{no_outputs, outputs_more, outputs_still}
use Rattle.tdf_schedule.specs.views.Work.{AreOutputsUpTo}
use Rattle.tdf_schedule.proofs.links.outputs_of.Goals as goal
use Rattle.tdf_schedule.proofs.links.outputs_of.Goals.{then-counts-writer-ne0+in_ok-add, else-counts-writer-ne0}

pub loop-k-init : goal.loop-k-init
loop-k-init c = no_outputs c.args.counts.now c.args.edges.now c.in_ok-lists.lists c.in_ok-lists.ensures

pub loop-k-preserved : goal.loop-k-preserved
loop-k-preserved c =
    elim c.if-counts-writer-ne0.branch [
      | then-counts-writer-ne0+in_ok-add w ↦ subst (λ (v : List (List ℕ)). AreOutputsUpTo (c.loop-k.k + 1) c.args.counts.now c.args.edges.now v) (sym w.lists-is)
          (subst (AreOutputsUpTo (c.loop-k.k + 1) c.args.counts.now c.args.edges.now) (sym w.in_ok-add.ensures)
          (outputs_more c.loop-k.k c.args.counts.now c.args.edges.now c.loop-k.lists _ c.requires.fit c.loop-k-test.true c.loop-k.invariant))
      | else-counts-writer-ne0 w ↦ subst (λ (v : List (List ℕ)). AreOutputsUpTo (c.loop-k.k + 1) c.args.counts.now c.args.edges.now v) (sym w.lists-is)
          (outputs_still c.loop-k.k c.args.counts.now c.args.edges.now c.loop-k.lists _ c.requires.fit c.loop-k-test.true w.if-counts-writer-ne0.false c.loop-k.invariant)
    ]
