-- What the next firing needs is there.
use Rattle.std.proofs.Common.{◌≡◌, ◌∙◌, ℕ, zero, suc, ◌+◌, ◌<◌, ◌≤◌, Bool, true, List, [], ◌∷◌, Some, if◌then◌else◌, length, drop, take, refl, sym, ap, subst, arith}
use Rattle.std.proofs.lemmas.Bool.{ne_eqb}
use Rattle.std.proofs.lemmas.List.{length-map}
use Rattle.std.proofs.lemmas.List.Sums.{sum_by-cons}
use Rattle.std.specs.List.{count_by}
use Rattle.std.specs.Prelude.{cond, slice_get, slice_index}
use Rattle.tdf_convert.specs.Outputs.{OutputsOf}
use Rattle.tdf_exec.proofs.Counting.{present_now, room_now}
use Rattle.tdf_exec.proofs.Moved.{reads_it}
use Rattle.tdf_exec.specs.Cluster.{ClusterOf}
use Rattle.tdf_exec.specs.machine.Fired.{CanFireModule, CanGive, CanRun, CanSample, CanSink}
use Rattle.tdf_exec.specs.Gained.{sent_size, traced_size}
use Rattle.tdf_exec.specs.Made.{IsClusterOf, IsModuleOf, IsSamplerOf, IsSinkOf, is_sampler_runner}
use Rattle.tdf_exec.specs.Runners.{ModuleOf, SamplerOf}
use Rattle.tdf_exec.specs.declared.runners.Runner.{Runner}
use Rattle.tdf_exec.specs.declared.runners.Runner.TheVariants as runner
use Rattle.tdf_exec.specs.machine.Steps.{HasRoomNext, kept}
use Rattle.tdf_dynamic_plans.specs.Rates.{net_of}
use Rattle.tdf_exec_firing.specs.Wires.{AreWired}
use Rattle.tdf_fixed.specs.declared.raw.Raw.{Raw}
use Rattle.tdf_bind.specs.declared.model.Flat.{Flat}
use Rattle.tdf_exec_layout.specs.Wiring.{Writes}
use Rattle.tdf_rings.specs.Carried.{ring_at}
use Rattle.tdf_schedule.specs.declared.entry.Entry.{Entry}

-- a longer front of a list has at least as many that pass
pub count_mono : {A : Type 0} (p : A → Bool) (xs : List A) (i j : ℕ) → i ≤ j → count_by p (take i xs) ≤ count_by p (take j xs)
count_mono p xs zero j le = omega arith
count_mono p xs (suc i) zero le = absurd (omega (arith, le))
count_mono p [] (suc i) (suc j) le = omega arith
count_mono p (x ∷ xs) (suc i) (suc j) le =
    let rest = count_mono p xs i j (omega (arith, le)) in
    let a = sum_by-cons (λ y. cond {A = ℕ} (p y) 1 0) x (take i xs) in
    let b = sum_by-cons (λ y. cond {A = ℕ} (p y) 1 0) x (take j xs) in
    omega (arith, rest, a, b)

-- fewer come before one that passes than there are
pub count_before : {A : Type 0} (p : A → Bool) (xs : List A) (i : ℕ) (x : A) → slice_get xs i ≡ Some x → p x ≡ true → count_by p (take i xs) < count_by p xs
count_before p [] i x at passes = absurd cc
count_before p (y ∷ xs) zero x at passes =
    let a = sum_by-cons (λ z. cond {A = ℕ} (p z) 1 0) y xs in
    let b : cond {A = ℕ} (p y) 1 0 ≡ 1 = ap (λ (o : Bool). cond {A = ℕ} o 1 0) (one at ∙ passes) in
    omega (arith, a, b)
  where
    one : Some y ≡ Some x → p y ≡ p x
    one e = cc
count_before p (y ∷ xs) (suc i) x at passes =
    let rest = count_before p xs i x at passes in
    let a = sum_by-cons (λ z. cond {A = ℕ} (p z) 1 0) y xs in
    let b = sum_by-cons (λ z. cond {A = ℕ} (p z) 1 0) y (take i xs) in
    omega (arith, rest, a, b)

module _ (flat : Flat) (c : ClusterOf) (inputs : List Raw) (x : Entry) (of : IsClusterOf flat c) (at : slice_get c.entries c.place ≡ Some x) where
  reads_long : length c.reads ≡ length c.rings
  unfolding net_of
  reads_long = ap length of.reads_are ∙ length-map _ _ ∙ length-map _ _ ∙ sym of.held.same

  writes_long : length c.writes ≡ length c.rings
  unfolding net_of
  writes_long = ap length of.writes_are ∙ length-map _ _ ∙ length-map _ _ ∙ sym of.held.same

  module_can : (y : ModuleOf) → IsModuleOf flat c x.actor y → CanFireModule flat.checked c.reads c.writes c.rings y
  module_can y is = record {
    made = is.made;
    wired = subst (λ n. AreWired y.wires y.ports.spans n) (sym of.held.same) is.wired;
    rates = record { to_read = reads_long; to_write = writes_long };
    can = record {
      in_rate = is.read_rate;
      present = λ j w here. present_now flat.tables c of.safe x at of.held w.edge (is.wired.in_edge j w here) (is.wires_are.in_edge j w here).reader;
      out_rate = is.write_rate;
      room = λ j w here.
          let inside : w.edge < length flat.tables.edges = is.wired.out_edge j w here in
          subst (λ b. length (if b then drop (slice_index c.reads w.edge) (ring_at c.rings w.edge).samples else (ring_at c.rings w.edge).samples)
          + slice_index c.writes w.edge ≤ (ring_at c.rings w.edge).capacity) (sym (reads_it flat.tables x.actor y.wires is.wires_are w.edge inside))
          (room_now flat.tables c of.safe x at of.held w.edge inside (is.wires_are.out_edge j w here).writer);
    };
    formats = record { each = λ j w p here there. of.held.formats w.edge p.format (is.wired.in_edge j w here) (is.read_format j w p here there) };
    zeros = is.zeros;
  }

  sampler_can : (s : SamplerOf) → IsSamplerOf flat c x.actor s → slice_get c.runners x.actor ≡ Some (runner.Sampler s) → length inputs ≡ count_by is_sampler_runner c.runners
      → CanSample inputs c.rings s
  sampler_can s is there many = record {
    given =
        let less : count_by is_sampler_runner (take x.actor c.runners) < count_by is_sampler_runner c.runners = count_before is_sampler_runner c.runners x.actor (runner.Sampler s) there refl in
        let place = is.place_is in
        omega (arith, less, place, many);
    can = record {
      inside = λ j e here. subst (λ n. e < n) (sym of.held.same) (is.edges_are.each j e here).inside;
      once = is.edges_are.once;
      room = λ j e here. room e (is.edges_are.each j e here).inside (is.edges_are.each j e here);
    };
  }
    where
      room : (e : ℕ) → e < length flat.tables.edges → Writes flat.tables x.actor e → length (ring_at c.rings e).samples < (ring_at c.rings e).capacity
      room e inside writes =
          let r = room_now flat.tables c of.safe x at of.held e inside writes.writer in
          let k : length (kept flat.tables c.reads x.actor e (ring_at c.rings e).samples) ≡ length (ring_at c.rings e).samples =
          ap (λ b. length (if b then drop (slice_index c.reads e) (ring_at c.rings e).samples else (ring_at c.rings e).samples))
          (ne_eqb _ x.actor (λ reads. is.none e (record { inside = inside; reader = reads }))) in
          let one = is.rate e writes in
          omega (arith, r, k, one)

  sink_can : (edge : ℕ) → IsSinkOf flat c x.actor edge → CanSink c.rings edge
  sink_can edge is = record {
    edge_is = subst (λ n. edge < n) (sym of.held.same) is.edge_is.is.inside;
    present =
        let p = present_now flat.tables c of.safe x at of.held edge is.edge_is.is.inside is.edge_is.is.reader in
        let one = is.rate in
        omega (arith, p, one);
  }

  pub can_run : (r : Runner) → slice_get c.runners x.actor ≡ Some r → length inputs ≡ count_by is_sampler_runner c.runners
      → CanRun flat.checked inputs c.reads c.writes c.rings r
  can_run (runner.Module y) there many = module_can y (of.runners x.actor (runner.Module y) there)
  can_run (runner.Sampler s) there many = sampler_can s (of.runners x.actor (runner.Sampler s) there) there many
  can_run (runner.Sink k) there many = sink_can k.edge (of.runners x.actor (runner.Sink k) there)
  can_run runner.Outside there many = tt

  pub can_give : (r : Runner) → slice_get c.runners x.actor ≡ Some r → (outputs : OutputsOf) → HasRoomNext c outputs → CanGive r outputs
  can_give r there outputs room = record {
    ports = λ y j t is here. (of.runners x.actor (runner.Module y) (there ∙ ap (λ q. Some q) is)).traced_rate j t here;
    sent = subst (λ o. length outputs.sent + sent_size o ≤ outputs.sent_room) there (room.sent x at);
    traced = subst (λ o. length outputs.traced + traced_size o ≤ outputs.traced_room) there (room.traced x at);
  }
