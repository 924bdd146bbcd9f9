use Rattle.std.proofs.Common.{subst, sym, ◌+◌, List, ℕ}
use Rattle.tdf_schedule.proofs.Linked.{no_inputs, inputs_more, inputs_still}
use Rattle.tdf_schedule.specs.views.Work.{AreInputsUpTo}
use Rattle.tdf_schedule.proofs.links.inputs_of.Goals as goal
use Rattle.tdf_schedule.proofs.links.inputs_of.Goals.{then-counts-reader-ne0+in_ok-add, else-counts-reader-ne0}

pub loop-k-init : goal.loop-k-init
loop-k-init c = no_inputs c.args.counts.now c.args.edges.now c.in_ok-lists.lists c.in_ok-lists.ensures

pub loop-k-preserved : goal.loop-k-preserved
loop-k-preserved c =
    elim c.if-counts-reader-ne0.branch [
      | then-counts-reader-ne0+in_ok-add w ↦ subst (λ (v : List (List ℕ)). AreInputsUpTo (c.loop-k.k + 1) c.args.counts.now c.args.edges.now v) (sym w.lists-is)
          (subst (AreInputsUpTo (c.loop-k.k + 1) c.args.counts.now c.args.edges.now) (sym w.in_ok-add.ensures)
          (inputs_more c.loop-k.k c.args.counts.now c.args.edges.now c.loop-k.lists _ c.requires.fit c.loop-k-test.true c.loop-k.invariant))
      | else-counts-reader-ne0 w ↦ subst (λ (v : List (List ℕ)). AreInputsUpTo (c.loop-k.k + 1) c.args.counts.now c.args.edges.now v) (sym w.lists-is)
          (inputs_still c.loop-k.k c.args.counts.now c.args.edges.now c.loop-k.lists _ c.requires.fit c.loop-k-test.true w.if-counts-reader-ne0.false c.loop-k.invariant)
    ]
