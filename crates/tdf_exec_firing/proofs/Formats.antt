-- A firing leaves samples of the formats of their edges.
use Rattle.std.proofs.Common.{◌≡◌, ◌∙◌, ℕ, ◌<◌, ◌≤◌, Bool, true, false, List, [], ◌∷◌, Some, None, ◌⊎◌, inl, inr, length, drop, sym, subst, arith, if◌then◌else◌, nat_eq}
use Rattle.std.proofs.lemmas.Bool.Decides.{nat_tests}
use Rattle.std.proofs.lemmas.List.Elements.{All-append, All-cons, All-drop, All-map, All-nil}
use Rattle.std.proofs.lemmas.List.FromFn.{get_or-range_with_len, length-range_with_len}
use Rattle.std.specs.List.{All, list_any, range_with_len}
use Rattle.std.specs.Prelude.{slice_get, slice_index, slice_index_or}
use Rattle.tdf_expr.specs.Frames.{IsOfFormat, PortsSeen}
use Rattle.tdf_expr.specs.declared.spans.PortSpan.{PortSpan}
use Rattle.tdf_exec_firing.proofs.Cells.{has_at}
use Rattle.tdf_exec_firing.proofs.Moves.{Passes, any_cases, writer_cases}
use Rattle.tdf_exec_firing.specs.Activation.{assigned_sample}
use Rattle.tdf_exec_firing.specs.Actors.{value_on}
use Rattle.tdf_exec_firing.specs.Firing.{CanFire, HoldFormats, front_of, left_on, writer_of}
use Rattle.tdf_exec_firing.specs.Formats.{ModulesKeepFormats, SamplersKeepFormats, SinksKeepFormats}
use Rattle.tdf_exec_firing.specs.Wires.{WiresOf}
use Rattle.tdf_exec_firing.specs.declared.wires.OutWire.{OutWire}
use Rattle.tdf_fixed.specs.declared.format.Format.{Format}
use Rattle.tdf_fixed.specs.declared.raw.Raw.{Raw}
use Rattle.tdf_rings.specs.Carried.{ring_at}
use Rattle.tdf_rings.specs.Rings.{RingOf}

-- the first samples of a port are of its format
front_formats : (ports : PortsSeen) (port n : ℕ) (p : PortSpan) → HoldFormats ports → slice_get ports.spans port ≡ Some p → n ≤ p.count
    → All (IsOfFormat p.format) (front_of ports (Some port) n)
front_formats ports port n p hold at few =
    All-map (IsOfFormat p.format) (assigned_sample ports.spans ports.state.samples port) (range_with_len 0 n)
    (λ k d below. subst (λ i. IsOfFormat p.format (assigned_sample ports.spans ports.state.samples port i)) (sym (place k d below)) (hold.each port k p at (small k below)))
  where
    small : (k : ℕ) → k < length (range_with_len 0 n) → k < p.count
    small k below = omega (arith, below, few, length-range_with_len 0 n)

    place : (k d : ℕ) → k < length (range_with_len 0 n) → slice_index_or (range_with_len 0 n) k d ≡ k
    place k d below = get_or-range_with_len 0 n k d (omega (arith, below, length-range_with_len 0 n)) ∙ omega arith

left_formats : (format : Format) (wires : WiresOf) (reads : List ℕ) (e : ℕ) (samples : List Raw) → All (IsOfFormat format) samples
    → All (IsOfFormat format) (left_on wires reads e samples)
left_formats format wires reads e samples all = choose (list_any (λ w. nat_eq w.edge e) wires.ins)
  where
    choose : (b : Bool) → All (IsOfFormat format) (if b then drop (slice_index reads e) samples else samples)
    choose true = All-drop (IsOfFormat format) (slice_index reads e) samples all
    choose false = all

pub modules_keep : ModulesKeepFormats
modules_keep format wires reads writes ports old are formatted = record {
  reads_them = λ inside. record {
    each = λ j w p at is. subst (λ f. All (IsOfFormat f) (ring_at old w.edge).samples) (are.ins j w p at is) (formatted.each w.edge (inside j w at));
  };
  leaves = λ new can there hold moved. record {
    each = λ e below.
        let inside : e < length old = subst (λ n. e < n) moved.same below in
        subst (λ (r : RingOf). All (IsOfFormat (format e)) r.samples) (sym (moved.moved e inside))
        (All-append (IsOfFormat (format e)) (left_on wires reads e (ring_at old e).samples) (front_of ports (writer_of wires.outs e) (slice_index writes e))
        (left_formats (format e) wires reads e (ring_at old e).samples (formatted.each e inside)) (written e can there hold (writer_cases wires.outs e)));
  };
}
  where
    written : (e : ℕ) → CanFire wires reads writes ports.spans old
        → ((j : ℕ) (w : OutWire) → slice_get wires.outs j ≡ Some w → w.port < length ports.spans) → HoldFormats ports
        → ((j : ℕ) × (w : OutWire) × (slice_get wires.outs j ≡ Some w) × (w.edge ≡ e) × (writer_of wires.outs e ≡ Some w.port))
        ⊎ (((j : ℕ) (w : OutWire) → slice_get wires.outs j ≡ Some w → w.edge ≡ e → ⊥) × (writer_of wires.outs e ≡ None))
        → All (IsOfFormat (format e)) (front_of ports (writer_of wires.outs e) (slice_index writes e))
    written e can there hold (inr (none, is)) =
        subst (λ o. All (IsOfFormat (format e)) (front_of ports o (slice_index writes e))) (sym is) (All-nil (IsOfFormat (format e)))
    written e can there hold (inl (j, w, at, same, is)) =
        let p = has_at ports.spans w.port (there j w at) in
        subst (λ o. All (IsOfFormat (format e)) (front_of ports o (slice_index writes e))) (sym is)
        (subst (λ d. All (IsOfFormat (format d)) (front_of ports (Some w.port) (slice_index writes d))) same
        (subst (λ f. All (IsOfFormat f) (front_of ports (Some w.port) (slice_index writes w.edge))) (sym (are.outs j w p.0 at p.1))
        (front_formats ports w.port (slice_index writes w.edge) p.0 hold p.1 (can.out_rate j w p.0 at p.1))))

pub samplers_keep : SamplersKeepFormats
samplers_keep format value edges old new fits formatted put = record {
  each = λ e below.
      let inside : e < length old = subst (λ n. e < n) put.same below in
      subst (λ (r : RingOf). All (IsOfFormat (format e)) r.samples) (sym (put.put e inside))
      (All-append (IsOfFormat (format e)) (ring_at old e).samples (value_on value edges e) (formatted.each e inside) (added e (any_cases (λ d. nat_eq d e) edges)));
}
  where
    added : (e : ℕ) → (Passes (λ d. nat_eq d e) edges × (list_any (λ d. nat_eq d e) edges ≡ true))
        ⊎ (((j d : ℕ) → slice_get edges j ≡ Some d → nat_eq d e ≡ false) × (list_any (λ d. nat_eq d e) edges ≡ false))
        → All (IsOfFormat (format e)) (value_on value edges e)
    added e (inl (found, named)) =
        let same : found.thing ≡ e = grind (arith, nat_tests, found.passed) in
        subst (λ (b : Bool). All (IsOfFormat (format e)) (if b then value ∷ [] else [])) (sym named)
        (All-cons (IsOfFormat (format e)) value [] (subst (λ d. IsOfFormat (format d) value) same (fits found.place found.thing found.at)) (All-nil (IsOfFormat (format e))))
    added e (inr (none, named)) =
        subst (λ (b : Bool). All (IsOfFormat (format e)) (if b then value ∷ [] else [])) (sym named) (All-nil (IsOfFormat (format e)))

pub sinks_keep : SinksKeepFormats
sinks_keep format edge old new formatted taken = record {
  each = λ e below.
      let inside : e < length old = subst (λ n. e < n) taken.same below in
      subst (λ (r : RingOf). All (IsOfFormat (format e)) r.samples) (sym (taken.taken e inside)) (choose e (nat_eq edge e) (formatted.each e inside));
}
  where
    choose : (e : ℕ) (b : Bool) → All (IsOfFormat (format e)) (ring_at old e).samples
        → All (IsOfFormat (format e)) (if b then drop 1 (ring_at old e).samples else (ring_at old e).samples)
    choose e true all = All-drop (IsOfFormat (format e)) 1 (ring_at old e).samples all
    choose e false all = all
