-- What is known of activations that are done, and of samples, stays known.
use Rattle.std.proofs.Common.{◌≡◌, ◌≢◌, ◌∙◌, ℕ, zero, suc, ◌+◌, ◌-◌, ◌/◌, ◌%◌, ◌<◌, ◌≤◌, Bool, true, false, List, [], ◌∷◌, ◌++◌, Option, Some, None, length, take, nat_eq, if◌then◌else◌, option_map, refl, sym, ap, subst, inl, inr, arith, append-nil, ◌*◌}
use Rattle.std.proofs.lemmas.Bool.{cases_lt, ne_eqb, le-ltb}
use Rattle.std.proofs.lemmas.List.{length-map}
use Rattle.std.proofs.lemmas.List.Sums.{sum_by-cons}
use Rattle.std.proofs.lemmas.Option.{slice_get_within}
use Rattle.std.specs.List.{count_by, sum_by}
use Rattle.std.specs.Option.{option_and_then}
use Rattle.std.specs.Prelude.{cond, nat_lt, slice_get, slice_index, ℤ}
use Rattle.tdf_bind_tables.specs.FlatTables.{FlatTablesOf}
use Rattle.tdf_exec.specs.Cluster.{ClusterOf}
use Rattle.tdf_exec.specs.Played.{runner_cells, play_of}
use Rattle.tdf_fixed.specs.declared.raw.Raw.{Raw}
use Rattle.tdf_bind.specs.declared.model.Flat.{Flat}
use Rattle.tdf_streams.proofs.Api.{find_more, known_more, none_some, state_more, outputs_are}
use Rattle.tdf_streams.specs.Grounds.{firings}
use Rattle.tdf_streams.specs.Net.{Net, Past, Period, Turn, count}
use Rattle.tdf_streams.specs.Stands.{KeepsReads, Less, run_of}
use Rattle.tdf_streams.specs.Streams.{Spot, find, known, spot, state_before}
use Rattle.tdf_sim_history.specs.Answers.{last_cells}
use Rattle.tdf_sim_history.specs.Instant.{activations, periods_of, run_in}
use Rattle.tdf_sim_history.specs.World.{ClusterAt}
use Rattle.tdf_sim_refinement.proofs.Arriving.{in_plan}
use Rattle.tdf_sim_refinement.proofs.Writing.{enough, entry_in, turns_here, started}
use Rattle.tdf_sim_refinement.specs.At.{IsAt}
use Rattle.tdf_schedule.specs.Plan.{done}
use Rattle.tdf_schedule.specs.declared.entry.Entry.{Entry}
use Rattle.tdf_streams.specs.Cluster.{cluster_net, initial_sample, is_outside_cluster}
use Rattle.tdf_streams.specs.Laws.{HasValue}
use Rattle.tdf_streams.specs.Periods.{PeriodInfo, PeriodRecord}
use Rattle.tdf_streams.specs.Signals.{output_at_spot, outputs_in, port_output, rate_in, signal_sample}
use Rattle.tdf_sim_refinement.specs.SampleLaws.{DoneIsKnown, HeldIsKnown}
use Rattle.tdf_sim_refinement.specs.Samples.{IsDoneKnown}
use Rattle.tdf_lang_tree.specs.Pure.{PureTree}
use Rattle.tdf_bind_connections.specs.declared.modules.PortRow.{PortRow}
use Rattle.tdf_sim_history.specs.Cells.{sample_of}
use Rattle.tdf_sim_history.specs.Columns.{ColumnStart, held_by}
use Rattle.tdf_sim_refinement.proofs.Sampling.{done_to}

-- more values of samplers and more steps keep what is known
pub known_to : {S V I : Type 0} (net : Net S V I) (old : List (Period I)) (p : Period I) (short long : ℕ → List V) → KeepsReads short long → (f g : ℕ) → f ≤ g
    → Less (known net (run_of old p short) f) (known net (run_of old p long) g)
known_to net old p short long keeps f g low = let e : g - f + f ≡ g = omega (arith, low) in
    subst (λ n. Less (known net (run_of old p short) f) (known net (run_of old p long) n)) e
    (known_more net (run_of old p short) (run_of old p long) (record { rest = []; periods = sym (append-nil (old ++ p ∷ [])); reads = keeps }) f (g - f))

-- so do more periods, for the samples of a signal
module _ (s : ColumnStart) (ps qs : List PeriodRecord) (port : PortRow) (number : ℕ) (past more : Past (List ℤ) Raw) (less : Less past more) where
  spot_more : (s : Spot PeriodInfo) (v : Raw) → output_at_spot port number past s ≡ Some v → output_at_spot port number more s ≡ Some v
  spot_more s v is = go (past port.«module» (sum_by (λ (p : PeriodRecord). slice_index p.counts port.«module») s.before + s.rest / rate_in port s.period)) refl is
    where
      go : (o : Option (Turn (List ℤ) Raw)) → past port.«module» (sum_by (λ (p : PeriodRecord). slice_index p.counts port.«module») s.before + s.rest / rate_in port s.period) ≡ o
          → option_map (λ (t : Turn (List ℤ) Raw). t.outputs number (s.rest % rate_in port s.period)) o ≡ Some v → output_at_spot port number more s ≡ Some v
      go None at h = none_some v h
      go (Some t) at h = ap (option_map (λ (u : Turn (List ℤ) Raw). u.outputs number (s.rest % rate_in port s.period)))
          (less.keeps port.«module» (sum_by (λ (p : PeriodRecord). slice_index p.counts port.«module») s.before + s.rest / rate_in port s.period) t at) ∙ h

  output_more : (j : ℕ) (v : Raw) → port_output ps port number past j ≡ Some v → port_output (ps ++ qs) port number more j ≡ Some v
  unfolding port_output
  output_more j v is = go (find (outputs_in port) [] ps j) refl is
    where
      go : (o : Option (Spot PeriodInfo)) → find (outputs_in port) [] ps j ≡ o → option_and_then (output_at_spot port number past) o ≡ Some v
          → option_and_then (output_at_spot port number more) (find (outputs_in port) [] (ps ++ qs) j) ≡ Some v
      go None at h = none_some v h
      go (Some s) at h = ap (option_and_then (output_at_spot port number more)) (find_more (outputs_in port) [] ps qs j s at) ∙ spot_more s v h

  pub column_more : (j : ℕ) (v : Raw) → sample_of s ps port number past j ≡ Some v → sample_of s (ps ++ qs) port number more j ≡ Some v
  column_more j v is = go (nat_lt j (length (held_by s))) is
    where
      go : (b : Bool) → (if b then slice_get (held_by s) j else port_output ps port number past (j - length (held_by s))) ≡ Some v
          → (if b then slice_get (held_by s) j else port_output (ps ++ qs) port number more (j - length (held_by s))) ≡ Some v
      go true h = h
      go false h = output_more (j - length (held_by s)) v h

-- an output of an activation that is known, among the samples of a column
pub outputs_known : (tables : FlatTablesOf) (s : ColumnStart) (old : List PeriodRecord) (p : PeriodRecord) (later : List PeriodRecord) (port : PortRow) (number a k : ℕ) (past : Past (List ℤ) Raw) (t : Turn (List ℤ) Raw)
    → a < count port.«module» p → k < rate_in port p → past port.«module» (sum_by (count port.«module») old + a) ≡ Some t
    → sample_of s (old ++ p ∷ later) port number past (length (held_by s) + (sum_by (outputs_in port) old + (a * rate_in port p + k))) ≡ Some (t.outputs number k)
outputs_known tables s old p later port number a k past t inside below at = column ∙ sym signal ∙ outputs_are tables old p later port number a k past t inside below at
  where
    n : ℕ
    n = sum_by (outputs_in port) old + (a * rate_in port p + k)

    column : sample_of s (old ++ p ∷ later) port number past (length (held_by s) + n) ≡ port_output (old ++ p ∷ later) port number past n
    column =
        let late : nat_lt (length (held_by s) + n) (length (held_by s)) ≡ false = le-ltb (length (held_by s) + n) (length (held_by s)) (omega arith) in
        let rest : length (held_by s) + n - length (held_by s) ≡ n = omega arith in
        ap (λ b. if b then slice_get (held_by s) (length (held_by s) + n) else port_output (old ++ p ∷ later) port number past (length (held_by s) + n - length (held_by s))) late
        ∙ ap (port_output (old ++ p ∷ later) port number past) rest

    signal : signal_sample tables (old ++ p ∷ later) port number past (port.delay + n) ≡ port_output (old ++ p ∷ later) port number past n
    signal =
        let late : nat_lt (port.delay + n) port.delay ≡ false = le-ltb (port.delay + n) port.delay (omega arith) in
        let rest : port.delay + n - port.delay ≡ n = omega arith in
        ap (λ b. if b then Some (initial_sample tables port (port.delay + n)) else port_output (old ++ p ∷ later) port number past (port.delay + n - port.delay)) late
        ∙ ap (port_output (old ++ p ∷ later) port number past) rest

-- an actor of no entry is never activated
pub none_done : (es : List Entry) (i m : ℕ) → ((k : ℕ) (x : Entry) → slice_get es k ≡ Some x → x.actor ≢ m) → done es i m ≡ 0
unfolding done
none_done [] zero m apart = refl
none_done [] (suc i) m apart = refl
none_done (x ∷ es) zero m apart = refl
none_done (x ∷ es) (suc i) m apart =
    let s = sum_by-cons (λ (z : Entry). cond {A = ℕ} (nat_eq z.actor m) 1 0) x (take i es) in
    let w : cond {A = ℕ} (nat_eq x.actor m) 1 0 ≡ 0 = ap (λ (o : Bool). cond {A = ℕ} o 1 0) (ne_eqb x.actor m (apart 0 x refl)) in
    let r : count_by (λ (z : Entry). nat_eq z.actor m) (take i es) ≡ 0 = none_done es i m (λ k y at. apart (suc k) y at) in omega (arith, s, w, r)

module _ (model : PureTree) (flat : Flat) (number : ℕ) (h : ClusterAt) (c : ClusterOf) (at : IsAt model flat number h c) where
  begun : h.since ≤ h.since
  begun = omega arith

  within : h.place ≤ length h.entries
  within = in_plan model flat number h.since [] h c c [] at begun

  turns_are : (m : ℕ) → done h.entries h.place m - done h.entries h.from m ≤ slice_index (play_of h.from c).turns m
  turns_are m = elim (cases_lt m (length flat.tables.actors)) [
    | inl inside ↦ (let t = turns_here model flat number h.since [] h c c [] at begun m inside in let z : h.place + 0 ≡ h.place = omega arith in let e = ap (λ i. done h.entries i m) z in omega (arith, t, e))
    | inr past ↦ (let n = none_done h.entries h.place m (λ k x there same.
        (let i = at.of.safe.inside k x (entry_in model flat number h.since [] h c c [] at begun k x there) in absurd (omega (arith, i, same, past)))) in omega (arith, n))
  ]

  value : (m n : ℕ) → n < activations h m → HasValue (cluster_net model flat number h.begun) (run_in h) m n
  value m n low =
      let t = turns_are m in
      let v = at.stands.has_values m n (omega (arith, low, t)) in
      let e = enough model flat number h.since [] h c c [] at begun 0 (let w = within in omega (arith, w)) in
      let less = known_to (cluster_net model flat number h.begun) h.old h.now (run_in h).reads (run_in h).reads (λ i k x there. there) at.steps (firings (periods_of h)) (omega (arith, e)) in
      (v.0, less.keeps m n v.0 v.1)

  counts_are : (m : ℕ) → slice_index h.now.counts m + done h.entries h.from m ≡ done h.entries (length h.entries) m
  counts_are m =
      let z = at.period.counts m in
      let l = ap (λ es. done es (length es) m - done es h.from m) at.entries_are in
      let w = within in let t = started model flat number h.since [] h c c [] at begun in
      let u = done_to h.entries m h.from (length h.entries) (omega (arith, w, t)) (omega arith) in omega (arith, z, l, u)

  -- what a module holds when the period is done
  pub held : h.place ≡ length h.entries → (m : ℕ) (cells : List ℤ) → slice_get (play_of h.from c).states m ≡ Some cells → is_outside_cluster flat.tables number m ≡ false → last_cells model flat number h m ≡ Some cells
  held end m cells there own =
      let inside : m < length flat.tables.actors = (let i = slice_get_within (play_of h.from c).states m cells there in let l = length-map c.runners runner_cells in let a = at.of.actors in omega (arith, i, l, a)) in
      let turns : slice_index (play_of h.from c).turns m ≡ count m h.now = (
      let z : h.place + 0 ≡ length h.entries = omega (arith, end) in
      let t = turns_here model flat number h.since [] h c c [] at begun m inside in
      let p = ap (λ i. done h.entries i m) z in let k = counts_are m in omega (arith, t, p, k)) in
      let e = enough model flat number h.since [] h c c [] at begun 0 (let w = within in omega (arith, w)) in
      let less = known_to (cluster_net model flat number h.begun) h.old h.now (run_in h).reads (run_in h).reads (λ i k x there. there) at.steps (firings (periods_of h)) (omega (arith, e)) in
      state_more (cluster_net model flat number h.begun) (periods_of h) [] (known (cluster_net model flat number h.begun) (run_of h.old h.now (run_in h).reads) at.steps)
      (known (cluster_net model flat number h.begun) (run_in h) (firings (periods_of h))) less m (spot h.old h.now (count m h.now)) (sum_by (count m) h.old + count m h.now) cells
      (subst (λ k. state_before (cluster_net model flat number h.begun) (known (cluster_net model flat number h.begun) (run_of h.old h.now (run_in h).reads) at.steps) m (spot h.old h.now k) (sum_by (count m) h.old + k) ≡ Some cells)
      turns (at.stands.states m cells there own))

  pub done_known : IsDoneKnown model flat number h
  done_known = record { values = value; within = within; counts = counts_are }

pub held_is_known : HeldIsKnown
held_is_known model flat number h c m cells at end there own = held model flat number h c at end m cells there own

pub done_is_known : DoneIsKnown
done_is_known model flat number h c at = done_known model flat number h c at
