-- Samples of a port go on a ring.
use Rattle.std.proofs.Common.{◌≡◌, ◌∙◌, ℕ, ◌+◌, ◌<◌, [], ◌∷◌, ◌++◌, Some, length, sym, ap, subst, arith, append_assoc, append-nil}
use Rattle.std.proofs.lemmas.List.{length-append}
use Rattle.std.proofs.lemmas.List.FromFn.{length-map-range_with_len, map-range_with_len_more}
use Rattle.std.specs.Prelude.{slice_get}
use Rattle.tdf_expr.specs.Frames.{PortsSeen}
use Rattle.tdf_expr.specs.declared.spans.PortSpan.{PortSpan}
use Rattle.tdf_exec_firing.proofs.Cells.{has_at}
use Rattle.tdf_exec_firing.specs.Activation.{assigned_sample, sample_of_span}
use Rattle.tdf_exec_firing.specs.Firing.{front_of}
use Rattle.tdf_exec_firing.specs.machine.Moving.{CanGive, with_more}
use Rattle.tdf_fixed.specs.Cast.{fraction_of}
use Rattle.tdf_fixed.specs.declared.raw.Raw.{Raw}
use Rattle.tdf_rings.specs.Rings.{RingOf, ring_of}
use Rattle.tdf_expr_state.specs.State.{cell_at}

front_long : (ports : PortsSeen) (port n : ℕ) → length (front_of ports (Some port) n) ≡ n
front_long ports port n = length-map-range_with_len (assigned_sample ports.spans ports.state.samples port) 0 n

pub give_none : (ports : PortsSeen) (port : ℕ) (ring : RingOf) → ring ≡ with_more (front_of ports (Some port) 0) ring
give_none ports port ring = ap (λ l. ring_of l ring.capacity) (sym (append-nil ring.samples))

pub give_room : (port i n : ℕ) (ports : PortsSeen) (old cur : RingOf) → CanGive port n ports old → i < n → cur ≡ with_more (front_of ports (Some port) i) old
    → length cur.samples < cur.capacity
give_room port i n ports old cur can below is =
    subst (λ (r : RingOf). length r.samples < r.capacity) (sym is)
    (omega (arith, length-append old.samples (front_of ports (Some port) i), front_long ports port i, can.room, below))

pub give_more : (port i n : ℕ) (ports : PortsSeen) (old cur new : RingOf) (value : Raw) → CanGive port n ports old → i < n → cur ≡ with_more (front_of ports (Some port) i) old
    → ((p : PortSpan) → slice_get ports.spans port ≡ Some p → value.num ≡ cell_at ports.state.samples (p.first + i))
    → ((p : PortSpan) → slice_get ports.spans port ≡ Some p → value.frac ≡ fraction_of p.format)
    → new ≡ ring_of (cur.samples ++ value ∷ []) cur.capacity → new ≡ with_more (front_of ports (Some port) (i + 1)) old
give_more port i n ports old cur new value can below is num frac put =
    put ∙ ap (λ (r : RingOf). ring_of (r.samples ++ value ∷ []) r.capacity) is
    ∙ ap (λ l. ring_of l old.capacity) (append_assoc old.samples (front_of ports (Some port) i) (value ∷ [])
    ∙ ap (λ l. old.samples ++ l) (ap (λ v. front_of ports (Some port) i ++ v ∷ []) value_is
    ∙ sym (map-range_with_len_more (assigned_sample ports.spans ports.state.samples port) 0 i i (omega arith))))
  where
    found : (p : PortSpan) × (slice_get ports.spans port ≡ Some p)
    found = has_at ports.spans port can.there

    read : Raw
    read = record { num = cell_at ports.state.samples (found.0.first + i); frac = fraction_of found.0.format }

    value_is : value ≡ assigned_sample ports.spans ports.state.samples port i
    value_is =
        ap (λ z. record value { num = z }) (num found.0 found.1) ∙ ap (λ z. record read { frac = z }) (frac found.0 found.1)
        ∙ ap (sample_of_span ports.state.samples i) (sym found.1)

-- one sample alone
pub give_one : (port n : ℕ) (ports : PortsSeen) (old new : RingOf) (value : Raw) → CanGive port n ports old → n ≡ 1
    → ((p : PortSpan) → slice_get ports.spans port ≡ Some p → value.num ≡ cell_at ports.state.samples (p.first + 0))
    → ((p : PortSpan) → slice_get ports.spans port ≡ Some p → value.frac ≡ fraction_of p.format)
    → new ≡ ring_of (old.samples ++ value ∷ []) old.capacity → new ≡ with_more (front_of ports (Some port) n) old
give_one port n ports old new value can one num frac put =
    give_more port 0 n ports old old new value can (omega (arith, one)) (give_none ports port old) num frac put
    ∙ ap (λ k. with_more (front_of ports (Some port) k) old) (sym one)
