use Rattle.std.proofs.Common.{refl, sym, ◌∙◌}
use Rattle.tdf_balance.proofs.Merges.{both_some, unsolvable_edge, balanced_edge}
use Rattle.tdf_balance.proofs.solution.add_edge.Goals as goal

pub merge-requires-clause-some : goal.merge-requires-clause-some
merge-requires-clause-some c = both_some _ c.requires.solved.0 c.args.solution.parts c.args.solution.counts.items c.args.edge.now c.requires.solved.1 c.requires.fits
    c.index.result.now c.index-2.result.now c.from.result c.from-2.result c.index.ensures c.index-2.ensures c.from.ensures c.from-2.ensures

pub returns-then-written-read : goal.returns-then-written-read
returns-then-written-read c edges are = balanced_edge _ edges c.args.solution.parts c.args.solution.counts.items c.args.edge.now are c.requires.fits
    c.index.result.now c.index-2.result.now c.from.result c.from-2.result c.index.ensures c.index-2.ensures c.from.ensures c.from-2.ensures
    (sym c.label.ensures.value ∙ c.if-label.false ∙ c.label-2.ensures.value) c.if-written-read.true

pub returns : goal.returns
returns c edges are = (
  refl,
  unsolvable_edge _ edges c.args.solution.parts c.args.solution.counts.items c.args.edge.now are c.requires.fits
      c.index.result.now c.index-2.result.now c.from.result c.from-2.result c.index.ensures c.index-2.ensures c.from.ensures c.from-2.ensures
      (sym c.label.ensures.value ∙ c.if-label.false ∙ c.label-2.ensures.value) c.if-written-read.false,
)
