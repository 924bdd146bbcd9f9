use Rattle.std.proofs.Common.{◌∙◌, sym}
use Rattle.std.proofs.lemmas.Result.{IfOk-weaker}
use Rattle.tdf_graph.proofs.Labels.{labels_same, labels_next}
use Rattle.tdf_graph.proofs.numbering.join.Goals as goal

pub returns-then-first-second : goal.returns-then-first-second
returns-then-first-second c edges all are = labels_same _ edges c.args.parts c.args.edge.now are
    (sym c.label-first.ensures.value ∙ c.if-first-second.true ∙ c.label-second.ensures.value)

pub returns : goal.returns
returns c edges all are = IfOk-weaker c.merge.result _ _
    (λ parts merged. labels_next _ edges c.args.parts parts c.args.edge.now c.label-first.result c.label-second.result all c.requires are
    c.label-first.ensures.value c.label-second.ensures.value merged)
    c.merge.ensures.merged
