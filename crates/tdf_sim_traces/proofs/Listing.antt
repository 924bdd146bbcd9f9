-- Traced signals by their ports, and what is tracked of them.
use Rattle.std.proofs.Common.{◌≡◌, ◌∙◌, ℕ, ◌+◌, Bool, true, false, not, ◌&&◌, nat_eq, if◌then◌else◌, Some, None, List, [], ◌∷◌, slice_get, slice_index, refl, ap, sym, arith}
use Rattle.std.proofs.lemmas.Bool.{eqb-true}
use Rattle.std.specs.List.{cons_option}
use Rattle.tdf_trace.specs.Tracked.{Label, TrackedOf, label, labels, samples_traced, sinces}
use Rattle.tdf_convert.specs.declared.outputs.Traced.{Traced}
use Rattle.tdf_dynamic_plans.specs.Attributes.{clusters_of}
use Rattle.tdf_bind.specs.declared.model.Flat.{Flat}
use Rattle.tdf_streams.proofs.Api.{some_same}
use Rattle.tdf_sim_history.specs.Cells.{driver_of_row}
use Rattle.tdf_exec_layout.specs.Traced.{is_trace_of}
use Rattle.tdf_sim_traces.proofs.Items.{alike}
use Rattle.tdf_sim_traces.proofs.Pushing.{any_found}
use Rattle.tdf_sim_traces.specs.Signals.{AreTracedSignals, DrivesTraced, IsListed}
use Rattle.tdf_sim_traces.specs.declared.signals.TracedSignal.{TracedSignal}
use Rattle.tdf_sim_refinement.specs.Samples.{signal_samples as samples_in}
use Rattle.tdf_bind_connections.specs.declared.modules.PortRow.{PortRow}

-- what is listed of a port
pub record IsFound (list : List TracedSignal) (n number : ℕ) (port : PortRow) : Type 0 where
  pub place : ℕ
  pub it : TracedSignal
  pub there : slice_get list place ≡ Some it
  pub cluster : it.cluster ≡ n
  pub port_is : it.port ≡ number
  pub module_is : it.«module» ≡ port.«module»
  pub signal : it.signal ≡ port.signal

is_both : (p q : Bool) → (p && q) ≡ true → (p ≡ true) × (q ≡ true)
is_both true q h = (refl, h)
is_both false q h = absurd (grind (arith, h))

is_not : (p : Bool) → not p ≡ true → p ≡ false
is_not true h = absurd (grind (arith, h))
is_not false h = refl

pub found : (flat : Flat) (list : List TracedSignal) (n number : ℕ) (port : PortRow) → AreTracedSignals flat list → DrivesTraced flat n number port → IsFound list n number port
found flat list n number port are drives =
    let f = any_found (is_trace_of port.signal) flat.tables.traces drives.traced.traced in
    let b = is_both (not f.1.event) (nat_eq f.1.signal port.signal) f.3 in
    let same : f.1.signal ≡ port.signal = eqb-true f.1.signal port.signal b.1 in
    let w = are.all f.0 number f.1 f.2 (is_not f.1.event b.0) (ap (λ s. driver_of_row (slice_get flat.tables.signals s)) same ∙ drives.driver) in
    let l : IsListed flat w.it = are.are w.place w.it w.there in
    let s : w.it.signal ≡ port.signal = w.same ∙ same in
    let number_is : w.it.port ≡ number = some_same w.it.port number (sym l.drives.driver ∙ ap (λ k. driver_of_row (slice_get flat.tables.signals k)) (sym l.signal_is ∙ s) ∙ drives.driver) in
    let row : l.port ≡ port = some_same l.port port (sym l.drives.traced.there ∙ ap (slice_get flat.tables.ports) number_is ∙ drives.traced.there) in
    let m : w.it.«module» ≡ port.«module» = l.module_is ∙ ap (λ (p : PortRow). p.«module») row in
    record {
      place = w.place;
      it = w.it;
      there = w.there;
      cluster = (let c : w.it.cluster + 1 ≡ n + 1 = sym l.drives.traced.inside ∙ ap (λ (p : PortRow). slice_index (clusters_of flat.tables) p.«module») row ∙ drives.traced.inside in omega (arith, c));
      port_is = number_is;
      module_is = m;
      signal = s;
    }

-- what is tracked, after samples came
pub moved : (old new : List TrackedOf) (place : ℕ) (u : TrackedOf) → labels new ≡ labels old → sinces new ≡ sinces old → slice_get new place ≡ Some u → (t : TrackedOf) × (slice_get old place ≡ Some t) × (t.signal ≡ u.signal) × (t.since ≡ u.since)
moved old new place u same since at =
    let x = alike label new old place u same at in
    let y = alike (λ (t : TrackedOf). t.since) new old place u since at in
    let e : y.0 ≡ x.0 = some_same y.0 x.0 (sym y.1 ∙ x.1) in
    (x.0, x.1, ap (λ (l : Label). l.signal) x.2, ap (λ (t : TrackedOf). t.since) (sym e) ∙ y.2)

-- both ways to pick the samples of a signal are one
pub samples_same : (signal : ℕ) (list : List Traced) → samples_traced signal list ≡ samples_in signal list
unfolding samples_traced samples_in
samples_same signal [] = refl
samples_same signal (x ∷ xs) = go (nat_eq x.signal signal) (samples_same signal xs)
  where
    go : (b : Bool) → samples_traced signal xs ≡ samples_in signal xs → (if b then x.value ∷ samples_traced signal xs else samples_traced signal xs) ≡ cons_option (if b then Some x.value else None) (samples_in signal xs)
    go true same = ap (λ l. x.value ∷ l) same
    go false same = same
