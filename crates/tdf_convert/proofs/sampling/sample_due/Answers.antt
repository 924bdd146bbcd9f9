use Rattle.std.proofs.Common.{◌∙◌, ap, List, subst}
use Rattle.std.specs.Prelude.{slice_get}
use Rattle.tdf_convert.proofs.Samples.{all_sampled}
use Rattle.tdf_convert.specs.declared.links.Link.{Link}
use Rattle.tdf_convert.specs.machine.Sampling.{AreSampledUpTo}
use Rattle.tdf_schedule.specs.declared.entry.Entry.{Entry}
use Rattle.tdf_convert.proofs.sampling.sample_due.Goals as goal

pub returns-then-low-high : goal.returns-then-low-high
returns-then-low-high c =
    let low = c.first_from-low.result in
    let high = c.first_after-high.result in
    all_sampled c.args.plan.now.entries.items c.args.offset low high c.args.links.now.list.items c.args.values.now c.args.inputs.now c.sample_all.new.inputs
    (λ j x below at. c.first_from-low.ensures.before j x below (ap (λ (l : List Entry). slice_get l j) c.deref.ensures.value ∙ at))
    (λ j x past at. c.first_from-low.ensures.from j x past (ap (λ (l : List Entry). slice_get l j) c.deref.ensures.value ∙ at))
    (λ j x below at. c.first_after-high.ensures.upto j x below (ap (λ (l : List Entry). slice_get l j) c.deref-2.ensures.value ∙ at))
    (λ j x past at. c.first_after-high.ensures.after j x past (ap (λ (l : List Entry). slice_get l j) c.deref-2.ensures.value ∙ at))
    (subst (λ (e : List Entry). AreSampledUpTo e low high c.args.links.now.list.items c.args.values.now c.args.inputs.now c.sample_all.new.inputs) c.deref-then-low-high.ensures.value
    (subst (λ (l : List Link). AreSampledUpTo c.deref-then-low-high.result.now low high l c.args.values.now c.args.inputs.now c.sample_all.new.inputs) c.deref-then-low-high-2.ensures.value
    c.sample_all.ensures))
