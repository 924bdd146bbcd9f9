use Rattle.std.proofs.Common.{rules, ◌≡◌, ◌<◌, ℕ, List, Some, length, slice_index, refl, ap, sym, ◌∙◌, subst}
use Rattle.std.proofs.lemmas.Option.{slice_get-get_or}
use Rattle.tdf_events_queue.proofs.Api.{ran_more, ran_none}
use Rattle.tdf_events_queue.specs.Evaluation.{ran_first}
use Rattle.tdf_events_queue.specs.Sets.{SetOf}
use Rattle.tdf_events.proofs.Evaluated.{triggered_inside}
use Rattle.tdf_events.specs.Kernel.{side_of}
use Rattle.tdf_events.specs.Processes.{ran}
use Rattle.tdf_events.specs.views.Parts.{kernel_of}
use Rattle.tdf_events.proofs.evaluating.run_all.Goals as goal

pub loop-i-init : goal.loop-i-init
loop-i-init c = record {
  kernel = c.requires.kernel;
  triggered = refl;
  ran = λ model checked. sym (ran_none (ran model c.args.flat.now c.args.time) c.args.parts.now.triggered.members (side_of (kernel_of c.args.parts.now)));
}

pub run_process-requires-clause-process : goal.run_process-requires-clause-process
run_process-requires-clause-process c =
    let short : c.loop-i.i < length c.args.parts.now.triggered.members = search rules in
    let less : c.loop-i.i < length c.loop-i.parts.triggered.members = subst (λ (t : SetOf). c.loop-i.i < length t.members) (sym c.loop-i.invariant.triggered) short in
    let same : slice_index c.members.result.now c.loop-i.i ≡ slice_index c.loop-i.parts.triggered.members c.loop-i.i = ap (λ (xs : List ℕ). slice_index xs c.loop-i.i) c.members.ensures.value in
    triggered_inside c.args.flat.now (kernel_of c.loop-i.parts) c.loop-i.i (slice_index c.members.result.now c.loop-i.i) c.loop-i.invariant.kernel c.members.ensures.listed
    (slice_get-get_or c.loop-i.parts.triggered.members c.loop-i.i 0 less ∙ ap Some (sym same))

pub loop-i-preserved : goal.loop-i-preserved
loop-i-preserved c =
    let same : slice_index c.members.result.now c.loop-i.i ≡ slice_index c.args.parts.now.triggered.members c.loop-i.i = ap (λ (xs : List ℕ). slice_index xs c.loop-i.i) (c.members.ensures.value ∙ ap (λ (t : SetOf). t.members) c.loop-i.invariant.triggered) in
    record {
      kernel = c.run_process.ensures.kernel;
      triggered = c.run_process.ensures.triggered ∙ c.loop-i.invariant.triggered;
      ran = λ model checked. c.run_process.ensures.ran model checked
          ∙ ap (ran model c.args.flat.now c.args.time (slice_index c.members.result.now c.loop-i.i)) (c.loop-i.invariant.ran model checked)
          ∙ ap (λ (p : ℕ). ran model c.args.flat.now c.args.time p (ran_first (ran model c.args.flat.now c.args.time) c.args.parts.now.triggered.members c.loop-i.i (side_of (kernel_of c.args.parts.now)))) same
          ∙ sym (ran_more (ran model c.args.flat.now c.args.time) c.args.parts.now.triggered.members c.loop-i.i (side_of (kernel_of c.args.parts.now)));
    }
