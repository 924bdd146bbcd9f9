-- What a plan gives to the next firing, and the samples held after it.
use Rattle.std.proofs.Common.{◌≡◌, ◌∙◌, ◌≢◌, ℕ, ◌+◌, ◌-◌, ◌*◌, ◌<◌, ◌≤◌, Bool, true, false, List, [], ◌++◌, Some, if◌then◌else◌, nat_eq, length, drop, sym, ap, subst, inl, inr, arith, length-append, length-drop}
use Rattle.std.proofs.lemmas.Bool.{cases_eq, eq-eqb, ne_eqb}
use Rattle.std.proofs.lemmas.List.Elements.{All-append, All-drop, All-nil}
use Rattle.std.proofs.lemmas.List.Sums.{count_by_more_yes, count_by_more_no}
use Rattle.std.proofs.lemmas.Option.{get_or_from_slice_get, slice_get_within}
use Rattle.std.specs.List.{All}
use Rattle.std.specs.Prelude.{slice_get, slice_index}
use Rattle.tdf_bind_tables.specs.FlatTables.{FlatTablesOf}
use Rattle.tdf_exec.specs.Cluster.{ClusterOf}
use Rattle.tdf_exec.specs.Made.{AreHeld, IsClusterSafe}
use Rattle.tdf_exec_layout.specs.Samples.{edge_format}
use Rattle.tdf_exec.specs.declared.runners.Runner.{Runner}
use Rattle.tdf_exec.specs.machine.Steps.{AreMovedBy, kept, with_parts}
use Rattle.tdf_expr.specs.Frames.{IsOfFormat}
use Rattle.tdf_fixed.specs.declared.format.Format.{Format}
use Rattle.tdf_fixed.specs.declared.raw.Raw.{Raw}
use Rattle.tdf_rings.specs.Carried.{ring_at}
use Rattle.tdf_rings.specs.Rings.{RingOf}
use Rattle.tdf_schedule.specs.Plan.{done}
use Rattle.tdf_schedule.specs.declared.entry.Entry.{Entry}
use Rattle.tdf_streams.specs.Places.{reader_at, writer_at}
use Rattle.tdf_streams.specs.Starts.{held_at_head}

more : (a b : ℕ) → (a + 1) * b ≡ a * b + b
more a b = grind arith

-- one entry more
module _ (entries : List Entry) (i : ℕ) (x : Entry) (at : slice_get entries i ≡ Some x) where
  pub done_own : (m : ℕ) → x.actor ≡ m → done entries (i + 1) m ≡ done entries i m + 1
  unfolding done
  done_own m own = count_by_more_yes (λ (y : Entry). nat_eq y.actor m) entries i x (slice_get_within entries i x at)
      (eq-eqb _ m (ap (λ (y : Entry). y.actor) (get_or_from_slice_get entries i x x at) ∙ own))

  pub done_other : (m : ℕ) → x.actor ≢ m → done entries (i + 1) m ≡ done entries i m
  unfolding done
  done_other m other = count_by_more_no (λ (y : Entry). nat_eq y.actor m) entries i x (slice_get_within entries i x at)
      (ne_eqb _ m (λ e. other (sym (ap (λ (y : Entry). y.actor) (get_or_from_slice_get entries i x x at)) ∙ e)))

module _ (tables : FlatTablesOf) (c : ClusterOf) (safe : IsClusterSafe tables c) (x : Entry) (at : slice_get c.entries c.place ≡ Some x) (held : AreHeld tables c)
    (e : ℕ) (inside : e < length tables.edges) where
  pub present_now : reader_at tables.edges e ≡ x.actor → slice_index c.reads e ≤ length (ring_at c.rings e).samples
  present_now reads =
      let h = held.held e inside in
      let p = safe.present c.place e x at inside reads in
      omega (arith, h, p)

  read_more : reader_at tables.edges e ≡ x.actor
      → done c.entries (c.place + 1) (reader_at tables.edges e) * slice_index c.reads e ≡ done c.entries c.place (reader_at tables.edges e) * slice_index c.reads e + slice_index c.reads e
  read_more reads = ap (λ n. n * slice_index c.reads e) (done_own c.entries c.place x at _ (sym reads)) ∙ more (done c.entries c.place (reader_at tables.edges e)) _

  read_same : reader_at tables.edges e ≢ x.actor
      → done c.entries (c.place + 1) (reader_at tables.edges e) * slice_index c.reads e ≡ done c.entries c.place (reader_at tables.edges e) * slice_index c.reads e
  read_same apart = ap (λ n. n * slice_index c.reads e) (done_other c.entries c.place x at _ (λ q. apart (sym q)))

  write_more : writer_at tables.edges e ≡ x.actor
      → done c.entries (c.place + 1) (writer_at tables.edges e) * slice_index c.writes e ≡ done c.entries c.place (writer_at tables.edges e) * slice_index c.writes e + slice_index c.writes e
  write_more writes = ap (λ n. n * slice_index c.writes e) (done_own c.entries c.place x at _ (sym writes)) ∙ more (done c.entries c.place (writer_at tables.edges e)) _

  write_same : writer_at tables.edges e ≢ x.actor
      → done c.entries (c.place + 1) (writer_at tables.edges e) * slice_index c.writes e ≡ done c.entries c.place (writer_at tables.edges e) * slice_index c.writes e
  write_same apart = ap (λ n. n * slice_index c.writes e) (done_other c.entries c.place x at _ (λ q. apart (sym q)))

  kept_less : reader_at tables.edges e ≡ x.actor → length (kept tables c.reads x.actor e (ring_at c.rings e).samples) ≡ length (ring_at c.rings e).samples - slice_index c.reads e
  kept_less reads =
      ap (λ b. length (if b then drop (slice_index c.reads e) (ring_at c.rings e).samples else (ring_at c.rings e).samples)) (eq-eqb _ _ reads)
      ∙ length-drop (slice_index c.reads e) (ring_at c.rings e).samples

  kept_same : reader_at tables.edges e ≢ x.actor → length (kept tables c.reads x.actor e (ring_at c.rings e).samples) ≡ length (ring_at c.rings e).samples
  kept_same apart = ap (λ b. length (if b then drop (slice_index c.reads e) (ring_at c.rings e).samples else (ring_at c.rings e).samples)) (ne_eqb _ _ apart)

  -- room for what is written, once the samples that are read are gone
  pub room_now : writer_at tables.edges e ≡ x.actor → length (kept tables c.reads x.actor e (ring_at c.rings e).samples) + slice_index c.writes e ≤ (ring_at c.rings e).capacity
  room_now writes =
      let h = held.held e inside in
      let r = held.room e inside in
      let b = safe.bounded (c.place + 1) e (omega (arith, slice_get_within c.entries c.place x at)) inside in
      let w = write_more writes in
      elim (cases_eq (reader_at tables.edges e) x.actor) [
        | inl reads ↦ (let d = read_more reads in let k = kept_less reads in let p = safe.present c.place e x at inside reads in omega (arith, h, r, b, w, d, k, p))
        | inr apart ↦ (let d = read_same apart in let k = kept_same apart in omega (arith, h, r, b, w, d, k))
      ]

  -- the samples after a firing
  pub after : (ℕ → List Raw) → List Raw
  after given = kept tables c.reads x.actor e (ring_at c.rings e).samples ++ (if nat_eq (writer_at tables.edges e) x.actor then given e else [])

  held_now : (given : ℕ → List Raw) → (writer_at tables.edges e ≡ x.actor → length (given e) ≡ slice_index c.writes e)
      → length (after given) + done c.entries (c.place + 1) (reader_at tables.edges e) * slice_index c.reads e
      ≡ held_at_head tables c.number e + done c.entries (c.place + 1) (writer_at tables.edges e) * slice_index c.writes e
  unfolding after
  held_now given long =
      let h = held.held e inside in
      let l = length-append (kept tables c.reads x.actor e (ring_at c.rings e).samples) (if nat_eq (writer_at tables.edges e) x.actor then given e else []) in
      elim (cases_eq (reader_at tables.edges e) x.actor) [
        | inl reads ↦ (let d = read_more reads in let k = kept_less reads in let p = safe.present c.place e x at inside reads in
            elim (cases_eq (writer_at tables.edges e) x.actor) [
              | inl writes ↦ (let w = write_more writes in let z = if_yes writes in omega (arith, h, l, d, k, p, w, z))
              | inr apart ↦ (let w = write_same apart in let z = if_no apart in omega (arith, h, l, d, k, p, w, z))
            ])
        | inr away ↦ (let d = read_same away in let k = kept_same away in
            elim (cases_eq (writer_at tables.edges e) x.actor) [
              | inl writes ↦ (let w = write_more writes in let z = if_yes writes in omega (arith, h, l, d, k, w, z))
              | inr apart ↦ (let w = write_same apart in let z = if_no apart in omega (arith, h, l, d, k, w, z))
            ])
      ]
    where
      if_yes : writer_at tables.edges e ≡ x.actor → length (if nat_eq (writer_at tables.edges e) x.actor then given e else []) ≡ slice_index c.writes e
      if_yes writes = ap (λ b. length (if b then given e else [])) (eq-eqb _ _ writes) ∙ long writes

      if_no : writer_at tables.edges e ≢ x.actor → length (if nat_eq (writer_at tables.edges e) x.actor then given e else []) ≡ 0
      if_no apart = ap (λ b. length (if b then given e else [])) (ne_eqb _ _ apart)

  -- they are of the format of the edge
  formats_now : (given : ℕ → List Raw) (f : Format) → edge_format tables e ≡ Some f
      → (writer_at tables.edges e ≡ x.actor → All (IsOfFormat f) (given e)) → All (IsOfFormat f) (after given)
  unfolding after
  formats_now given f is fits = All-append (IsOfFormat f) _ _ (front (nat_eq (reader_at tables.edges e) x.actor)) back
    where
      front : (b : Bool) → All (IsOfFormat f) (if b then drop (slice_index c.reads e) (ring_at c.rings e).samples else (ring_at c.rings e).samples)
      front true = All-drop (IsOfFormat f) (slice_index c.reads e) (ring_at c.rings e).samples (held.formats e f inside is)
      front false = held.formats e f inside is

      back : All (IsOfFormat f) (if nat_eq (writer_at tables.edges e) x.actor then given e else [])
      back = elim (cases_eq (writer_at tables.edges e) x.actor) [
        | inl writes ↦ subst (λ b. All (IsOfFormat f) (if b then given e else [])) (sym (eq-eqb _ _ writes)) (fits writes)
        | inr apart ↦ subst (λ b. All (IsOfFormat f) (if b then given e else [])) (sym (ne_eqb _ _ apart)) (All-nil (IsOfFormat f))
      ]

pub held_after : (tables : FlatTablesOf) (c : ClusterOf) (x : Entry) (given : ℕ → List Raw) (new : List RingOf) (runners : List Runner) (positions : List ℕ)
    → IsClusterSafe tables c → slice_get c.entries c.place ≡ Some x → AreHeld tables c → AreMovedBy tables c x.actor given new
    → AreHeld tables (with_parts c (c.place + 1) new runners positions)
unfolding after
held_after tables c x given new runners positions safe at held are = record {
  same = are.same ∙ held.same;
  held = λ e inside.
      subst (λ (r : RingOf). length r.samples + done c.entries (c.place + 1) (reader_at tables.edges e) * slice_index c.reads e
      ≡ held_at_head tables c.number e + done c.entries (c.place + 1) (writer_at tables.edges e) * slice_index c.writes e)
      (sym (are.moved e inside)) (held_now tables c safe x at held e inside given (are.long e inside));
  room = λ e inside. ap (λ (r : RingOf). r.capacity) (are.moved e inside) ∙ held.room e inside;
  formats = λ e f inside is.
      subst (λ (r : RingOf). All (IsOfFormat f) r.samples) (sym (are.moved e inside))
      (formats_now tables c safe x at held e inside given f is (are.formats e f inside is));
}
