use Rattle.std.proofs.Common.{codes, decimal, refl, ◌∙◌, ◌≡◌, ◌++◌, ap, sym}
use Rattle.tdf_save_reading.proofs.ClusterSteps.{start_is, start_text}
use Rattle.tdf_save_reading.proofs.ModuleReads.{front_absent, front_none, front_piece, last_text, path_front}
use Rattle.tdf_save.specs.Members.{IsCount64}
use Rattle.tdf_save.specs.machine.Pieces.{Any}
use Rattle.tdf_save_reading.proofs.clusters.read_start.Goals as goal

pub returns-in-Some-last_count-clause-is : goal.returns-in-Some-last_count-clause-is
returns-in-Some-last_count-clause-is c =
    let at : c.as_bytes.result.now ≡ decimal c.args.number = c.as_bytes.ensures.value ∙ c.format.ensures.text in
    front_piece (path_front (codes "cluster") (decimal c.args.number)) (start_text c.args.number) (last_text decimal) IsCount64 Any c.args.text.now c.in-Some.rest.now c.in-Some-last_count.start c.in-Some-last_count.left.now
    (start_is c.args.number) (c.in-Some.ensures ∙ ap (λ x. path_front (codes "cluster") x ++ c.in-Some.rest.now) at) c.in-Some-last_count.ensures.is

pub returns-in-None-last_count-clause-none : goal.returns-in-None-last_count-clause-none
returns-in-None-last_count-clause-none c = λ _.
    let at : c.as_bytes.result.now ≡ decimal c.args.number = c.as_bytes.ensures.value ∙ c.format.ensures.text in
    front_none (path_front (codes "cluster") (decimal c.args.number)) (start_text c.args.number) (last_text decimal) IsCount64 Any c.args.text.now c.in-Some.rest.now (start_is c.args.number)
    (c.in-Some.ensures ∙ ap (λ x. path_front (codes "cluster") x ++ c.in-Some.rest.now) at) (c.in-None-last_count.ensures.none refl)

pub returns-in-None-clause-none : goal.returns-in-None-clause-none
returns-in-None-clause-none c = λ _.
    let at : c.as_bytes.result.now ≡ decimal c.args.number = c.as_bytes.ensures.value ∙ c.format.ensures.text in
    front_absent (path_front (codes "cluster") (decimal c.args.number)) (start_text c.args.number) (last_text decimal) IsCount64 Any c.args.text.now (start_is c.args.number) (λ r e. c.in-None.ensures r (e ∙ ap (λ x. path_front (codes "cluster") x ++ r) (sym at)))
