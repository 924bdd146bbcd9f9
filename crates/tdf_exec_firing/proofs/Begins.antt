-- The ports of a module before its processing body runs, and after.
use Rattle.std.proofs.Common.{◌≡◌, ◌∙◌, ◌≢◌, ℕ, zero, suc, ◌+◌, ◌<◌, ◌≤◌, Bool, true, false, List, [], ◌∷◌, Option, Some, None, ℤ, pos, length, take, refl, sym, ap, subst, inl, inr, ◌⊎◌, arith, if◌then◌else◌, nat_eq}
use Rattle.std.proofs.lemmas.Bool.{cases_eq, cases_lt}
use Rattle.std.proofs.lemmas.Bool.Decides.{nat_tests}
use Rattle.std.proofs.lemmas.List.{get_or-replicate, get_or_past, length-replicate, length-take}
use Rattle.std.proofs.lemmas.Option.{same_Some, slice_get_within}
use Rattle.std.specs.Prelude.{replicate, slice_get, slice_index}
use Rattle.tdf_expr.specs.Frames.{AreConsecutive, ArePortsFit, FrameSeen, KeepsRead, PortsSeen, is_written, reset_samples, reset_state, sample_formats}
use Rattle.tdf_expr.specs.Made.{AreMadeFor}
use Rattle.tdf_expr.specs.declared.checked.Checked.{Checked}
use Rattle.tdf_expr.specs.declared.spans.PortSpan.{PortSpan}
use Rattle.tdf_exec_firing.proofs.Cells.{read_cell, read_past, reset_at, samples_are, span_inside}
use Rattle.tdf_exec_firing.proofs.Moves.{left}
use Rattle.tdf_exec_firing.specs.Activation.{ports_before}
use Rattle.tdf_exec_firing.specs.Firing.{BeginReady, AreOfFormats, AreZerosBehind, CanFire, rate_on, read_on, samples_read, wire_of}
use Rattle.tdf_exec_firing.specs.Wires.{AreWired, WiresOf}
use Rattle.tdf_exec_firing.specs.declared.wires.InWire.{InWire}
use Rattle.tdf_exec_firing.specs.declared.wires.OutWire.{OutWire}
use Rattle.tdf_exec_firing.specs.machine.Filling.{AreFilledUpTo, CanFill, IsCleared, count_read, list_read, num_at}
use Rattle.tdf_exec_firing.specs.machine.Moving.{AreApart, AreChangedUpTo, CanGive, in_edge, out_edge, taken_by}
use Rattle.tdf_fixed.specs.declared.raw.Raw.{Raw}
use Rattle.tdf_rings.specs.Carried.{ring_at}
use Rattle.tdf_rings.specs.Rings.{RingOf}
use Rattle.tdf_expr_state.specs.State.{PortsState, cell_at}

-- how an activation begins
pub cleared : (old new : PortsSeen) → ArePortsFit old → new ≡ record old { state = reset_state old.spans old.state } → IsCleared old new
cleared old new fit is = record {
  spans = ap (λ (q : PortsSeen). q.spans) is;
  state = ap (λ (q : PortsSeen). q.state) is ∙ flags ∙ ap (λ l. flagged l) (sym (ap (λ (q : PortsSeen). q.state.samples) is));
  cells = λ n k p at below.
      ap (λ (q : PortsSeen). cell_at q.state.samples (p.first + k)) is
      ∙ reset_at 0 old.spans old.state.samples n k (p.first + k) p fit.placed fit.samples.long at below (omega arith);
}
  where
    flagged : List ℤ → PortsState
    flagged l = record {
      samples = l;
      assigned = replicate (length old.spans) false;
      notified = replicate (length old.state.notified) None;
      steps = replicate (1 + length old.spans) None;
      accepts = None;
      out_of_range = false;
    }

    flags : reset_state old.spans old.state ≡ flagged (reset_samples old.spans old.state.samples)
    flags =
        ap (λ n. record (reset_state old.spans old.state) { assigned = replicate n false }) fit.assigned
        ∙ ap (λ n. record (reset_state old.spans old.state) { assigned = replicate (length old.spans) false; steps = replicate n None }) fit.steps

-- the wire of a port, or it has none
pub wire_cases : (ins : List InWire) (m : ℕ)
    → ((j : ℕ) × (w : InWire) × (slice_get ins j ≡ Some w) × (w.port ≡ m) × (wire_of ins m ≡ Some w))
    ⊎ (((j : ℕ) (w : InWire) → slice_get ins j ≡ Some w → w.port ≡ m → ⊥) × (wire_of ins m ≡ None))
wire_cases [] m = inr ((λ j w at. absurd cc), refl)
wire_cases (v ∷ ins) m = choose (cases_eq v.port m) (wire_cases ins m)
  where
    choose : (v.port ≡ m) ⊎ (v.port ≢ m)
        → ((j : ℕ) × (w : InWire) × (slice_get ins j ≡ Some w) × (w.port ≡ m) × (wire_of ins m ≡ Some w))
        ⊎ (((j : ℕ) (w : InWire) → slice_get ins j ≡ Some w → w.port ≡ m → ⊥) × (wire_of ins m ≡ None))
        → ((j : ℕ) × (w : InWire) × (slice_get (v ∷ ins) j ≡ Some w) × (w.port ≡ m) × (wire_of (v ∷ ins) m ≡ Some w))
        ⊎ (((j : ℕ) (w : InWire) → slice_get (v ∷ ins) j ≡ Some w → w.port ≡ m → ⊥) × (wire_of (v ∷ ins) m ≡ None))
    choose (inl same) rest =
        let test : nat_eq v.port m ≡ true = grind (arith, nat_tests, same) in
        inl (0, v, refl, same, ap (λ (b : Bool). if b then Some v else wire_of ins m) test)
    choose (inr other) (inl rest) =
        let test : nat_eq v.port m ≡ false = grind (arith, nat_tests, other) in
        inl (suc rest.0, rest.1, rest.2, rest.3, ap (λ (b : Bool). if b then Some v else wire_of ins m) test ∙ rest.4)
    choose (inr other) (inr rest) =
        let test : nat_eq v.port m ≡ false = grind (arith, nat_tests, other) in
        inr (none rest.0, ap (λ (b : Bool). if b then Some v else wire_of ins m) test ∙ rest.1)
      where
        none : ((j : ℕ) (w : InWire) → slice_get ins j ≡ Some w → w.port ≡ m → ⊥) → (j : ℕ) (w : InWire) → slice_get (v ∷ ins) j ≡ Some w → w.port ≡ m → ⊥
        none others zero w at same = other (ap (λ (u : InWire). u.port) (same_Some v w at) ∙ same)
        none others (suc j) w at same = others j w at same

-- a module, its wires, the rates in force, its ports when it fires, and the rings then
module _ (wires : WiresOf) (reads writes : List ℕ) (old : PortsSeen) (rings : List RingOf) (wired : AreWired wires old.spans (length rings))
    (can : CanFire wires reads writes old.spans rings) where
  pub ins_apart : AreApart in_edge wires.ins (length rings)
  ins_apart = record { inside = wired.in_edge; once = wired.in_edge_once }

  pub outs_apart : (mid : List RingOf) → length mid ≡ length rings → AreApart out_edge wires.outs (length mid)
  outs_apart mid same = record { inside = λ j w at. subst (λ n. w.edge < n) (sym same) (wired.out_edge j w at); once = wired.out_edge_once }

  -- each port can be filled
  pub can_fill : AreOfFormats wires old.spans rings → (begun : PortsSeen) → IsCleared old begun → ArePortsFit begun → (j : ℕ) (w : InWire) → slice_get wires.ins j ≡ Some w
      → CanFill w.port (slice_index reads w.edge) (ring_at rings w.edge).samples begun
  can_fill formats begun clear fit j w at = record {
    there = subst (λ (l : List PortSpan). w.port < length l) (sym clear.spans) (wired.placed.in_port j w at);
    present = can.present j w at;
    rate = λ p is. can.in_rate j w p at (back p is);
    inside = λ p is. let fits = span_inside 0 begun.spans w.port p fit.placed is in omega (arith, fits, fit.samples.long);
    formats = λ p is. formats.each j w p at (back p is);
  }
    where
      back : (p : PortSpan) → slice_get begun.spans w.port ≡ Some p → slice_get old.spans w.port ≡ Some p
      back p is = ap (λ (l : List PortSpan). slice_get l w.port) (sym clear.spans) ∙ is

  -- each ring has room
  pub can_give : (mid : List RingOf) → AreChangedUpTo in_edge (taken_by reads) wires.ins (length wires.ins) rings mid → (ports : PortsSeen) → ports.spans ≡ old.spans
      → (j : ℕ) (w : OutWire) → slice_get wires.outs j ≡ Some w → CanGive w.port (slice_index writes w.edge) ports (ring_at mid w.edge)
  can_give mid took ports same j w at = record {
    there = subst (λ (l : List PortSpan). w.port < length l) (sym same) (wired.placed.out_port j w at);
    rate = λ p is. can.out_rate j w p at (ap (λ (l : List PortSpan). slice_get l w.port) (sym same) ∙ is);
    room = subst (λ (r : RingOf). length r.samples + slice_index writes w.edge ≤ r.capacity) (sym (left wires reads writes ports rings mid mid took w.edge)) (can.room j w at);
  }

  module _ (begun full : PortsSeen) (clear : IsCleared old begun) (fit : ArePortsFit begun) (zeros : AreZerosBehind wires reads old)
      (filled : AreFilledUpTo wires.ins (count_read reads) (list_read rings) (length wires.ins) begun full) where
    begun_span : (n : ℕ) (p : PortSpan) → slice_get old.spans n ≡ Some p → slice_get begun.spans n ≡ Some p
    begun_span n p at = ap (λ (l : List PortSpan). slice_get l n) clear.spans ∙ at

    -- each port has what it reads, and zeros
    pub cell : (n k : ℕ) (p : PortSpan) → slice_get old.spans n ≡ Some p → k < p.count → cell_at full.state.samples (p.first + k) ≡ num_at (samples_read wires reads rings n) k
    cell n k p at below = choose (wire_cases wires.ins n)
      where
        before : (b : Bool) → is_written p.word ≡ b → (b ≡ false → rate_on reads (wire_of wires.ins n) ≤ k) → cell_at begun.state.samples (p.first + k) ≡ pos 0
        before true is few = clear.cells n k p at below ∙ ap (λ (b : Bool). if b then pos 0 else cell_at old.state.samples (p.first + k)) is
        before false is few =
            clear.cells n k p at below ∙ ap (λ (b : Bool). if b then pos 0 else cell_at old.state.samples (p.first + k)) is
            ∙ zeros.zero n k p at is (few refl) below

        choose : ((j : ℕ) × (w : InWire) × (slice_get wires.ins j ≡ Some w) × (w.port ≡ n) × (wire_of wires.ins n ≡ Some w))
            ⊎ (((j : ℕ) (w : InWire) → slice_get wires.ins j ≡ Some w → w.port ≡ n → ⊥) × (wire_of wires.ins n ≡ None))
            → cell_at full.state.samples (p.first + k) ≡ num_at (samples_read wires reads rings n) k
        choose (inr (none, is)) =
            filled.others n k p (begun_span n p at) below (λ j w small here same. absurd (none j w here same))
            ∙ before (is_written p.word) refl (λ word. subst (λ o. rate_on reads o ≤ k) (sym is) (omega arith))
            ∙ sym (ap (λ o. num_at (read_on reads rings o) k) is)
        choose (inl (j, w, here, port, is)) = far (cases_lt k (slice_index reads w.edge)) ∙ sym (ap (λ o. num_at (read_on reads rings o) k) is)
          where
            list : List Raw
            list = (ring_at rings w.edge).samples

            long : length (take (slice_index reads w.edge) list) ≤ slice_index reads w.edge
            long = omega (arith, length-take (slice_index reads w.edge) list)

            far : (k < slice_index reads w.edge) ⊎ (slice_index reads w.edge ≤ k) → cell_at full.state.samples (p.first + k) ≡ num_at (take (slice_index reads w.edge) list) k
            far (inl small) =
                filled.filled j k w p (slice_get_within wires.ins j w here) here (ap (slice_get begun.spans) port ∙ begun_span n p at) small
                ∙ sym (read_cell list (slice_index reads w.edge) k small)
            far (inr past) =
                filled.others n k p (begun_span n p at) below (λ i v small there same. only i v there same)
                ∙ before (is_written p.word) refl (λ word. subst (λ o. rate_on reads o ≤ k) (sym is) past)
                ∙ sym (read_past (take (slice_index reads w.edge) list) k (omega (arith, long, past)))
              where
                only : (i : ℕ) (v : InWire) → slice_get wires.ins i ≡ Some v → v.port ≡ n → slice_index reads v.edge ≤ k
                only i v there same =
                    let one : j ≡ i = wired.placed.in_port_once j i w v here there (port ∙ sym same) in
                    let wire : w ≡ v = same_Some w v (sym here ∙ ap (slice_get wires.ins) one ∙ there) in
                    subst (λ (u : InWire). slice_index reads u.edge ≤ k) wire past

    pub full_spans : full.spans ≡ old.spans
    full_spans = ap (λ (q : PortsSeen). q.spans) filled.rest ∙ clear.spans

    -- the ports are as an activation finds them
    pub full_state : (events : ℕ) → length old.state.notified ≡ events → full.state ≡ ports_before old.spans events (samples_read wires reads rings)
    full_state events count =
        ap (λ (q : PortsSeen). q.state) filled.rest
        ∙ ap (λ (s : PortsState). record s { samples = full.state.samples }) clear.state
        ∙ ap (λ n. flagged n full.state.samples) count
        ∙ ap (λ l. flagged events l) (samples_are (samples_read wires reads rings) 0 0 old.spans full.state.samples placed long
        (λ n k p at below. cell n k p at below ∙ ap (λ m. num_at (samples_read wires reads rings m) k) (omega arith)))
      where
        flagged : ℕ → List ℤ → PortsState
        flagged n l = record {
          samples = l;
          assigned = replicate (length old.spans) false;
          notified = replicate n None;
          steps = replicate (1 + length old.spans) None;
          accepts = None;
          out_of_range = false;
        }

        placed : AreConsecutive 0 old.spans
        placed = subst (AreConsecutive 0) clear.spans fit.placed

        long : length full.state.samples ≡ 0 + length (sample_formats old.spans)
        long = filled.long ∙ fit.samples.long ∙ ap (λ l. length (sample_formats l)) clear.spans ∙ omega arith

    -- they are those of the same block
    pub full_made : (checked : Checked) (number : ℕ) (frame : FrameSeen) → AreMadeFor checked number frame old → AreMadeFor checked number frame full
    full_made checked number frame made = record {
      made = made.made;
      block = made.block;
      formats = made.formats;
      rates = made.rates;
      ports_are = full_spans ∙ made.ports_are;
      events = ap (λ (q : PortsSeen). length q.state.notified) filled.rest ∙ ap (λ (s : PortsState). length s.notified) clear.state
          ∙ length-replicate (length old.state.notified) None ∙ made.events;
    }

    -- the zeros are still there when the body has run
    pub zeros_after : (new : PortsSeen) → new.spans ≡ full.spans → KeepsRead full new → AreZerosBehind wires reads new
    zeros_after new same kept = record {
      zero = λ n k p at unwritten past below.
          let here : slice_get full.spans n ≡ Some p = ap (λ (l : List PortSpan). slice_get l n) (sym same) ∙ at in
          let first : slice_get old.spans n ≡ Some p = ap (λ (l : List PortSpan). slice_get l n) (sym full_spans) ∙ here in
          kept.same n k p here unwritten below ∙ cell n k p first below ∙ none (wire_of wires.ins n) k past;
    }
      where
        none : (o : Option InWire) (k : ℕ) → rate_on reads o ≤ k → num_at (read_on reads rings o) k ≡ pos 0
        none None k past = refl
        none (Some w) k past =
            read_past (take (slice_index reads w.edge) (ring_at rings w.edge).samples) k
            (omega (arith, length-take (slice_index reads w.edge) (ring_at rings w.edge).samples, past))

-- samples that are all 0
pub begin_ready : BeginReady
begin_ready wires reads ports count is = record {
  zero = λ n k p at unwritten past below. ap (λ l. cell_at l (p.first + k)) is ∙ choose (p.first + k) (cases_lt (p.first + k) count);
}
  where
    choose : (i : ℕ) → (i < count) ⊎ (count ≤ i) → cell_at (replicate count (pos 0)) i ≡ pos 0
    choose i (inl below) = get_or-replicate count i (pos 0) (pos 0) below
    choose i (inr past) = get_or_past (replicate count (pos 0)) i (pos 0) (omega (arith, past, length-replicate count (pos 0)))
