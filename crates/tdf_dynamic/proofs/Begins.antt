-- Ports as a body finds them that reads nothing.
use Rattle.std.proofs.Common.{◌≡◌, ◌∙◌, ℕ, ◌+◌, ◌-◌, ◌<◌, ◌≤◌, ◌⊎◌, false, List, [], ◌∷◌, ◌++◌, None, pos, length, refl, sym, ap, subst, inl, inr, arith}
use Rattle.std.proofs.Math.Seq.{take-nil}
use Rattle.std.proofs.lemmas.Bool.{cases_lt}
use Rattle.std.proofs.lemmas.List.{ext_get_or, get_or-replicate, get_or_past, length-append, length-replicate, replicate-append-replicate}
use Rattle.std.specs.Prelude.{replicate, slice_get}
use Rattle.tdf_dynamic.specs.Ports.{AreBegun}
use Rattle.tdf_dynamic.specs.machine.Asking.{AreZeroBelow}
use Rattle.tdf_expr.specs.Frames.{ArePortsFit, KeepsRead, PortsSeen, reset_state, sample_formats}
use Rattle.tdf_expr.specs.Plans.{shape_written}
use Rattle.tdf_expr.specs.declared.spans.PortSpan.{PortSpan}
use Rattle.tdf_exec_firing.specs.Activation.{port_samples, samples_from}
use Rattle.tdf_exec_firing.specs.Firing.{AreZerosBehind}
use Rattle.tdf_exec_firing.specs.Wires.{WiresOf}
use Rattle.tdf_expr_state.specs.State.{PortsState, cell_at}
use Rattle.tdf_streams.specs.Bodies.{nothing_read}

-- ports that read nothing hold zeros
nothing_there : (k : ℕ) (spans : List PortSpan) → samples_from nothing_read k spans ≡ replicate (length (sample_formats spans)) (pos 0)
unfolding samples_from
nothing_there k [] = refl
nothing_there k (p ∷ ps) =
    let none : port_samples p [] ≡ replicate p.count (pos 0) = ap (λ l. l ++ replicate (p.count - 0) (pos 0)) (take-nil p.count) ∙ (let z : p.count - 0 ≡ p.count = omega arith in ap (λ n. replicate n (pos 0)) z) in
    ap (λ l. l ++ samples_from nothing_read (k + 1) ps) none
    ∙ ap (λ l. replicate p.count (pos 0) ++ l) (nothing_there (k + 1) ps)
    ∙ replicate-append-replicate p.count (length (sample_formats ps)) (pos 0)
    ∙ ap (λ n. replicate n (pos 0)) (sym (length-append (replicate p.count (shape_written p.format)) (sample_formats ps) ∙ ap (λ n. n + length (sample_formats ps)) (length-replicate p.count (shape_written p.format))))

-- ports that were set back, and whose samples are then 0
pub begun : (old mid new : PortsSeen) → ArePortsFit old → mid ≡ record old { state = reset_state old.spans old.state } → ArePortsFit mid
    → AreZeroBelow (length mid.state.samples) mid new → AreBegun old new
begun old mid new fit is mid_fit zeros = record {
  spans = ap (λ (q : PortsSeen). q.spans) zeros.rest ∙ spans;
  state = ap (λ (q : PortsSeen). q.state) zeros.rest
      ∙ ap (λ (s : PortsState). record s { samples = new.state.samples }) (ap (λ (q : PortsSeen). q.state) is)
      ∙ ap (λ l. record (reset_state old.spans old.state) { samples = l }) samples
      ∙ ap (λ n. record (reset_state old.spans old.state) { samples = samples_from nothing_read 0 old.spans; assigned = replicate n false }) fit.assigned
      ∙ ap (λ n. record (reset_state old.spans old.state) { samples = samples_from nothing_read 0 old.spans; assigned = replicate (length old.spans) false; steps = replicate n None }) fit.steps;
}
  where
    spans : mid.spans ≡ old.spans
    spans = ap (λ (q : PortsSeen). q.spans) is

    long : length new.state.samples ≡ length (sample_formats old.spans)
    long = zeros.long ∙ mid_fit.samples.long ∙ ap (λ (l : List PortSpan). length (sample_formats l)) spans

    zero_samples : new.state.samples ≡ replicate (length (sample_formats old.spans)) (pos 0)
    zero_samples = ext_get_or (pos 0) new.state.samples (replicate (length (sample_formats old.spans)) (pos 0)) (long ∙ sym (length-replicate (length (sample_formats old.spans)) (pos 0)))
        (λ i below. zeros.zero i (subst (λ n. i < n) zeros.long below)
        ∙ sym (get_or-replicate (length (sample_formats old.spans)) i (pos 0) (pos 0) (subst (λ n. i < n) long below)))

    samples : new.state.samples ≡ samples_from nothing_read 0 old.spans
    samples = zero_samples ∙ sym (nothing_there 0 old.spans)

-- what such ports read is 0, also when a body has run
zero_cell : (spans : List PortSpan) (i : ℕ) → cell_at (samples_from nothing_read 0 spans) i ≡ pos 0
zero_cell spans i = ap (λ l. cell_at l i) (nothing_there 0 spans) ∙ choose (cases_lt i (length (sample_formats spans)))
  where
    choose : (i < length (sample_formats spans)) ⊎ (length (sample_formats spans) ≤ i) → cell_at (replicate (length (sample_formats spans)) (pos 0)) i ≡ pos 0
    choose (inl below) = get_or-replicate (length (sample_formats spans)) i (pos 0) (pos 0) below
    choose (inr past) = get_or_past (replicate (length (sample_formats spans)) (pos 0)) i (pos 0) (omega (arith, past, length-replicate (length (sample_formats spans)) (pos 0)))

begun_cell : (old ports : PortsSeen) → AreBegun old ports → (i : ℕ) → cell_at ports.state.samples i ≡ pos 0
begun_cell old ports begun i = ap (λ (s : PortsState). cell_at s.samples i) begun.state ∙ zero_cell old.spans i

pub begun_zeros : (old ports : PortsSeen) → AreBegun old ports → (wires : WiresOf) (reads : List ℕ) → AreZerosBehind wires reads ports
begun_zeros old ports begun wires reads = record { zero = λ n k p at unwritten past below. begun_cell old ports begun (p.first + k) }

pub run_zeros : (old ports new : PortsSeen) → AreBegun old ports → new.spans ≡ ports.spans → KeepsRead ports new → (wires : WiresOf) (reads : List ℕ) → AreZerosBehind wires reads new
run_zeros old ports new begun same kept wires reads = record {
  zero = λ n k p at unwritten past below.
      kept.same n k p (ap (λ (l : List PortSpan). slice_get l n) (sym same) ∙ at) unwritten below ∙ begun_cell old ports begun (p.first + k);
}
