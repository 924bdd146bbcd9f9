-- What outputs gain.
use Rattle.std.proofs.Common.{◌≡◌, ◌∙◌, ℕ, ◌+◌, ◌<◌, ◌≤◌, List, [], ◌∷◌, ◌++◌, Option, Some, None, length, map, take, refl, sym, ap, subst, arith, add-one, append_assoc, append-nil, length-append, take-suc}
use Rattle.std.proofs.lemmas.List.Concat.{flat_map-append}
use Rattle.std.proofs.lemmas.List.Elements.{All-append, All-cons, All-nil}
use Rattle.std.proofs.lemmas.List.FromFn.{length-map-range_with_len, map-range_with_len_more}
use Rattle.std.proofs.lemmas.List.Sums.{sum_by-cons, sum_by-take-le, sum_by_more}
use Rattle.std.proofs.lemmas.Option.{get_or_from_slice_get, slice_get_within}
use Rattle.std.specs.List.{All, flat_map, range_with_len}
use Rattle.std.specs.Prelude.{ℤ, slice_get, slice_index_or}
use Rattle.tdf_convert.specs.Outputs.{OutputsOf}
use Rattle.tdf_convert.specs.declared.outputs.Sent.{Sent}
use Rattle.tdf_convert.specs.declared.outputs.Traced.{Traced}
use Rattle.tdf_exec.specs.Gained.{SampleHasFewPlaces, with_gains}
use Rattle.tdf_exec.specs.Made.{IsInSpans}
use Rattle.tdf_exec.specs.Traced.{first_samples, traced_port_samples, traced_count, traced_sample}
use Rattle.tdf_exec.specs.declared.runners.TracedPort.{TracedPort}
use Rattle.tdf_expr.specs.Frames.{PortsSeen}
use Rattle.tdf_expr.specs.declared.spans.PortSpan.{PortSpan}
use Rattle.tdf_exec_firing.specs.Activation.{assigned_sample, sample_of_span}
use Rattle.tdf_fixed.specs.Cast.{fraction_of}
use Rattle.tdf_fixed.specs.declared.raw.Raw.{Raw}
use Rattle.tdf_expr_state.specs.State.{cell_at}

pub gains_none : (o : OutputsOf) → o ≡ with_gains o [] []
gains_none o =
    ap (λ l. record o { sent = l }) (sym (append-nil o.sent))
    ∙ ap (λ l. record o { sent = o.sent ++ []; traced = l }) (sym (append-nil o.traced))

pub gains_then : (old cur new : OutputsOf) (s1 s2 : List Sent) (t1 t2 : List Traced) → cur ≡ with_gains old s1 t1 → new ≡ with_gains cur s2 t2
    → new ≡ with_gains old (s1 ++ s2) (t1 ++ t2)
gains_then old cur new s1 s2 t1 t2 one two =
    two ∙ ap (λ o. with_gains o s2 t2) one
    ∙ ap (λ l. record old { sent = l; traced = (old.traced ++ t1) ++ t2 }) (append_assoc old.sent s1 s2)
    ∙ ap (λ l. record old { sent = old.sent ++ (s1 ++ s2); traced = l }) (append_assoc old.traced t1 t2)

pub gain_sent : (old new : OutputsOf) (x : Sent) → new ≡ record old { sent = old.sent ++ x ∷ [] } → new ≡ with_gains old (x ∷ []) []
gain_sent old new x is = is ∙ ap (λ l. record old { sent = old.sent ++ x ∷ []; traced = l }) (sym (append-nil old.traced))

gain_traced : (old new : OutputsOf) (x : Traced) → new ≡ record old { traced = old.traced ++ x ∷ [] } → new ≡ with_gains old [] (x ∷ [])
gain_traced old new x is = is ∙ ap (λ l. record old { sent = l; traced = old.traced ++ x ∷ [] }) (sym (append-nil old.sent))

-- a value that was read is the sample of the port
pub value_is : (ports : PortsSeen) (t : TracedPort) (i : ℕ) (value : Raw) → IsInSpans ports.spans t
    → ((p : PortSpan) → slice_get ports.spans t.port ≡ Some p → value.num ≡ cell_at ports.state.samples (p.first + i))
    → ((p : PortSpan) → slice_get ports.spans t.port ≡ Some p → value.frac ≡ fraction_of p.format)
    → value ≡ assigned_sample ports.spans ports.state.samples t.port i
value_is ports t i value in' num frac =
    ap (λ n. record value { num = n }) (num in'.span in'.there)
    ∙ ap (λ f. record { num = cell_at ports.state.samples (in'.span.first + i); frac = f }) (frac in'.span in'.there)
    ∙ sym (ap (sample_of_span ports.state.samples i) in'.there)

pub trace_room : (ports : PortsSeen) (t : TracedPort) (i : ℕ) (old cur : OutputsOf) → length old.traced + t.rate ≤ old.traced_room → i < t.rate
    → cur ≡ with_gains old [] (first_samples ports t i) → length cur.traced < cur.traced_room
trace_room ports t i old cur room below is =
    let l = length-append old.traced (first_samples ports t i) in
    let n = length-map-range_with_len (λ k. traced_sample t.signal (assigned_sample ports.spans ports.state.samples t.port k)) 0 i in
    subst (λ (o : OutputsOf). length o.traced < o.traced_room) (sym is) (omega (arith, l, n, room, below))

pub trace_more : (ports : PortsSeen) (t : TracedPort) (i : ℕ) (old cur new : OutputsOf) (value : Raw) → IsInSpans ports.spans t
    → ((p : PortSpan) → slice_get ports.spans t.port ≡ Some p → value.num ≡ cell_at ports.state.samples (p.first + i))
    → ((p : PortSpan) → slice_get ports.spans t.port ≡ Some p → value.frac ≡ fraction_of p.format)
    → cur ≡ with_gains old [] (first_samples ports t i) → new ≡ record cur { traced = cur.traced ++ traced_sample t.signal value ∷ [] }
    → new ≡ with_gains old [] (first_samples ports t (i + 1))
trace_more ports t i old cur new value in' num frac is put =
    gains_then old cur new [] [] (first_samples ports t i) (traced_sample t.signal value ∷ []) is (gain_traced cur new (traced_sample t.signal value) put)
    ∙ ap (with_gains old []) (ap (λ v. first_samples ports t i ++ traced_sample t.signal v ∷ []) (value_is ports t i value in' num frac)
    ∙ sym (map-range_with_len_more (λ k. traced_sample t.signal (assigned_sample ports.spans ports.state.samples t.port k)) 0 i i (omega arith)))

pub traced_long : (ports : PortsSeen) (list : List TracedPort) → length (flat_map (traced_port_samples ports) list) ≡ traced_count list
traced_long ports [] = refl
traced_long ports (t ∷ list) =
    let rest = traced_long ports list in
    let a = sum_by-cons (λ (u : TracedPort). u.rate) t list in
    let n = length-map-range_with_len (λ k. traced_sample t.signal (assigned_sample ports.spans ports.state.samples t.port k)) 0 t.rate in
    length-append (traced_port_samples ports t) (flat_map (traced_port_samples ports) list) ∙ omega (arith, rest, a, n)

pub ports_room : (ports : PortsSeen) (list : List TracedPort) (j : ℕ) (t : TracedPort) (old cur : OutputsOf) → slice_get list j ≡ Some t
    → length old.traced + traced_count list ≤ old.traced_room → cur ≡ with_gains old [] (flat_map (traced_port_samples ports) (take j list))
    → length cur.traced + t.rate ≤ cur.traced_room
ports_room ports list j t old cur at room is =
    let l = length-append old.traced (flat_map (traced_port_samples ports) (take j list)) in
    let n = traced_long ports (take j list) in
    let m = sum_by_more (λ (u : TracedPort). u.rate) list j t (slice_get_within list j t at) in
    let r : (slice_index_or list j t).rate ≡ t.rate = ap (λ (u : TracedPort). u.rate) (get_or_from_slice_get list j t t at) in
    let w = sum_by-take-le (λ (u : TracedPort). u.rate) list (j + 1) in
    subst (λ (o : OutputsOf). length o.traced + t.rate ≤ o.traced_room) (sym is) (omega (arith, l, n, m, r, w, room))

pub ports_more : (ports : PortsSeen) (list : List TracedPort) (j : ℕ) (t : TracedPort) (old cur new : OutputsOf) → slice_get list j ≡ Some t
    → cur ≡ with_gains old [] (flat_map (traced_port_samples ports) (take j list)) → new ≡ with_gains cur [] (traced_port_samples ports t)
    → new ≡ with_gains old [] (flat_map (traced_port_samples ports) (take (j + 1) list))
ports_more ports list j t old cur new at is put =
    gains_then old cur new [] [] (flat_map (traced_port_samples ports) (take j list)) (traced_port_samples ports t) is put
    ∙ ap (with_gains old []) (sym whole)
  where
    whole : flat_map (traced_port_samples ports) (take (j + 1) list) ≡ flat_map (traced_port_samples ports) (take j list) ++ traced_port_samples ports t
    whole =
        ap (λ n. flat_map (traced_port_samples ports) (take n list)) (add-one j)
        ∙ ap (flat_map (traced_port_samples ports)) (take-suc list j t (slice_get_within list j t at) ∙ ap (λ u. take j list ++ u ∷ []) (get_or_from_slice_get list j t t at))
        ∙ flat_map-append (traced_port_samples ports) (take j list) (t ∷ [])
        ∙ ap (λ l. flat_map (traced_port_samples ports) (take j list) ++ l) (append-nil (traced_port_samples ports t))

-- traced samples have few places
sample_few : (samples : List ℤ) (k : ℕ) (o : Option PortSpan) → (sample_of_span samples k o).frac ≤ 63
sample_few samples k None = omega arith
sample_few samples k (Some p) = p.format.fraction_bits

made_few : (ports : PortsSeen) (t : TracedPort) (ks : List ℕ) → All SampleHasFewPlaces (map (λ k. traced_sample t.signal (assigned_sample ports.spans ports.state.samples t.port k)) ks)
made_few ports t [] = All-nil SampleHasFewPlaces
made_few ports t (k ∷ ks) = All-cons SampleHasFewPlaces (traced_sample t.signal (assigned_sample ports.spans ports.state.samples t.port k)) (map (λ j. traced_sample t.signal (assigned_sample ports.spans ports.state.samples t.port j)) ks)
    (sample_few ports.state.samples k (slice_get ports.spans t.port)) (made_few ports t ks)

pub ports_few : (ports : PortsSeen) (list : List TracedPort) → All SampleHasFewPlaces (flat_map (traced_port_samples ports) list)
ports_few ports [] = All-nil SampleHasFewPlaces
ports_few ports (t ∷ list) = All-append SampleHasFewPlaces (traced_port_samples ports t) (flat_map (traced_port_samples ports) list) (made_few ports t (range_with_len 0 t.rate)) (ports_few ports list)
