-- One port more of those that give their values to signals.
use Rattle.std.proofs.Common.{◌≡◌, ℕ, ◌+◌, Bool, true, false, if◌then◌else◌, List, [], ◌∷◌, ◌++◌, Option, Some, None, ℤ, ◌<◌, take, arith, length, length-set, slice_get, slice_index, slice_index_or, slice_set, refl, ap, sym, ◌∙◌, add-one}
use Rattle.std.proofs.lemmas.List.{take_more}
use Rattle.tdf_events.proofs.Reading.{has_at}
use Rattle.tdf_convert.specs.declared.writes.SignalWrite.{SignalWrite}
use Rattle.tdf_events.specs.Delta.{waiting_with}
use Rattle.tdf_events.specs.Processes.{value_of_port, written, written_first}
use Rattle.tdf_expr.specs.declared.spans.PortSpan.{PortSpan}
use Rattle.tdf_fixed.specs.Cast.{fraction_of}
use Rattle.tdf_fixed.specs.declared.raw.Raw.{Raw}
use Rattle.tdf_expr_state.specs.State.{PortsState, cell_at}

pub written_none : (signals : List ℕ) (spans : List PortSpan) (ports : PortsState) (waiting : List (Option Raw)) → written_first signals spans ports 0 waiting ≡ waiting
unfolding written_first
written_none signals spans ports waiting = refl

pub written_more : (signals : List ℕ) (spans : List PortSpan) (ports : PortsState) (n : ℕ) (waiting : List (Option Raw))
    → written_first signals spans ports (n + 1) waiting ≡ written (slice_index signals n) ports n (slice_get spans n) (written_first signals spans ports n waiting)
unfolding written_first
written_more signals spans ports n waiting = rw (add-one n) refl

pub written_same : (signal : ℕ) (ports : PortsState) (port : ℕ) (o : Option PortSpan) (waiting : List (Option Raw)) → length (written signal ports port o waiting) ≡ length waiting
written_same signal ports port None waiting = refl
written_same signal ports port (Some p) waiting = choose (slice_index_or ports.assigned port false)
  where
    choose : (b : Bool) → length (if b then slice_set waiting signal (Some (value_of_port ports p)) else waiting) ≡ length waiting
    choose true = length-set waiting signal (Some (value_of_port ports p))
    choose false = refl

pub ruleset writings = (written_none, written_more, written_same)

pub sinks_none : (waiting : List (Option Raw)) → waiting_with [] waiting ≡ waiting
unfolding waiting_with
sinks_none waiting = refl

pub sinks_more : (writes : List SignalWrite) (w : SignalWrite) (waiting : List (Option Raw)) → waiting_with (writes ++ w ∷ []) waiting ≡ slice_set (waiting_with writes waiting) w.signal (Some w.value)
unfolding waiting_with
sinks_more [] w waiting = refl
sinks_more (x ∷ writes) w waiting = sinks_more writes w (slice_set waiting x.signal (Some x.value))

pub sinks_same : (writes : List SignalWrite) (waiting : List (Option Raw)) → length (waiting_with writes waiting) ≡ length waiting
unfolding waiting_with
sinks_same [] waiting = refl
sinks_same (x ∷ writes) waiting = sinks_same writes (slice_set waiting x.signal (Some x.value)) ∙ length-set waiting x.signal (Some x.value)

pub sinks_next : (writes : List SignalWrite) (i : ℕ) (d : SignalWrite) (waiting : List (Option Raw)) → i < length writes
    → waiting_with (take (i + 1) writes) waiting ≡ slice_set (waiting_with (take i writes) waiting) (slice_index_or writes i d).signal (Some (slice_index_or writes i d).value)
sinks_next writes i d waiting less = ap (λ ws. waiting_with ws waiting) (take_more writes i d less) ∙ sinks_more (take i writes) (slice_index_or writes i d) waiting

pub ruleset sinks = (sinks_none, sinks_next, sinks_same)

-- a port that was assigned has given its value
pub wrote : (signal : ℕ) (ports : PortsState) (port : ℕ) (spans : List PortSpan) (waiting new : List (Option Raw)) (v : Raw) → port < length spans → slice_index_or ports.assigned port false ≡ true
    → ((p : PortSpan) → slice_get spans port ≡ Some p → v.num ≡ cell_at ports.samples (p.first + 0)) → ((p : PortSpan) → slice_get spans port ≡ Some p → v.frac ≡ fraction_of p.format)
    → new ≡ slice_set waiting signal (Some v) → new ≡ written signal ports port (slice_get spans port) waiting
wrote signal ports port spans waiting new v inside on num frac put = let p = has_at spans port inside in
    let value : v ≡ value_of_port ports p.0 = ap (λ (n : ℤ). record { num = n; frac = v.frac }) (num p.0 p.1 ∙ ap (cell_at ports.samples) (plus_zero p.0.first)) ∙ ap (λ (k : ℕ). record { num = cell_at ports.samples p.0.first; frac = k }) (frac p.0 p.1) in
    put ∙ ap (λ (x : Raw). slice_set waiting signal (Some x)) value ∙ sym (ap (λ (b : Bool). if b then slice_set waiting signal (Some (value_of_port ports p.0)) else waiting) on) ∙ sym (ap (λ (o : Option PortSpan). written signal ports port o waiting) p.1)
  where
    plus_zero : (n : ℕ) → n + 0 ≡ n
    plus_zero n = omega arith
