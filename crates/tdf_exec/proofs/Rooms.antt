-- No offset of a plan gives more samples than `room` has numbers for.
use Rattle.std.proofs.Common.{◌≡◌, ◌∙◌, ℕ, suc, ◌+◌, ◌*◌, ◌≤◌, Bool, true, false, List, [], ◌∷◌, Option, Some, None, nat_eq, if◌then◌else◌, refl, sym, ap, inl, inr, arith}
use Rattle.std.proofs.lemmas.Bool.{cases_eq, eq-eqb, ne_eqb}
use Rattle.std.proofs.lemmas.List.Sums.{sum_by-cons, sum_by-le-sum_by}
use Rattle.std.specs.List.{cons_option, count_by, enumerate_from, list_any}
use Rattle.std.specs.Prelude.{◌&&◌, cond, filter_map, slice_get, sum_by}
use Rattle.tdf_exec.proofs.Sums.{all_keys, by_key, other, over_map, own}
use Rattle.tdf_exec.proofs.Traffic.{counts_in, entries_of, moved_in, within}
use Rattle.tdf_exec.specs.Cluster.{ClusterOf}
use Rattle.tdf_exec.specs.Gained.{sent_size, size_due, size_if, traced_size}
use Rattle.tdf_exec.specs.Laws.{RoomIsThere}
use Rattle.tdf_exec.specs.Made.{IsClusterOf, IsModuleWith}
use Rattle.tdf_exec.specs.Telling.{GivesTooMany}
use Rattle.tdf_exec.specs.Traced.{rate_of_row, traced_port}
use Rattle.tdf_exec.specs.declared.runners.Runner.{Runner}
use Rattle.tdf_exec.specs.declared.runners.Runner.TheVariants as runner
use Rattle.tdf_exec.specs.declared.runners.TracedPort.{TracedPort}
use Rattle.tdf_exec_layout.specs.Traced.{is_out, is_trace_of, number_if_traced, traced_ports}
use Rattle.tdf_dynamic_plans.specs.Rates.{port_rate}
use Rattle.tdf_bind.specs.declared.model.Flat.{Flat}
use Rattle.tdf_schedule.specs.declared.entry.Entry.{Entry}
use Rattle.tdf_bind_connections.specs.declared.modules.PortRow.{PortRow}

-- what an entry gives, at whatever offset
abbrev given : (Option Runner → ℕ) → List Runner → Entry → ℕ
given size runners x = size (slice_get runners x.actor)

-- a weight that may be left out
at_most : (b : Bool) (n : ℕ) → (if b then n else 0) ≤ n
at_most true n = omega arith
at_most false n = omega arith

-- the entries of one offset give no more than all
due_few : (size : Option Runner → ℕ) (runners : List Runner) (offset : ℕ) (entries : List Entry) → size_due size runners offset entries ≤ sum_by (given size runners) entries
unfolding size_due
due_few size runners offset entries =
    sum_by-le-sum_by (size_if size runners offset) (given size runners) entries (λ x. at_most (nat_eq x.offset offset) (given size runners x))

-- a firing gives one sample of a sink at most
sent_once : (r : Option Runner) → sent_size r ≤ 1
sent_once None = omega arith
sent_once (Some (runner.Module x)) = omega arith
sent_once (Some (runner.Sampler s)) = omega arith
sent_once (Some (runner.Sink k)) = omega arith
sent_once (Some runner.Outside) = omega arith

-- what ports give at these rates, port by port and entry by entry
module _ (rate : PortRow → ℕ) where
  -- what the ports of a module give in a firing
  abbrev of_ports : ℕ → List PortRow → ℕ
  of_ports m ports = by_key (λ (p : PortRow). p.«module») rate m ports

  -- what a port gives in all these entries
  abbrev of_entries : List Entry → PortRow → ℕ
  of_entries entries p = count_by (λ (x : Entry). nat_eq x.actor p.«module») entries * rate p

  -- with no entry nothing is given
  no_entries : (ports : List PortRow) → sum_by (of_entries []) ports ≡ 0
  no_entries [] = refl
  no_entries (p ∷ ports) = omega (arith, sum_by-cons (of_entries []) p ports, no_entries ports)

  -- one entry more gives what the ports of its module give
  entry_more : (x : Entry) (entries : List Entry) (ports : List PortRow) → sum_by (of_entries (x ∷ entries)) ports ≡ of_ports x.actor ports + sum_by (of_entries entries) ports
  entry_more x entries [] = refl
  entry_more x entries (p ∷ ports) =
      let n = sum_by-cons (λ (y : Entry). cond {A = ℕ} (nat_eq y.actor p.«module») 1 0) x entries in
      let a = sum_by-cons (of_entries (x ∷ entries)) p ports in
      let b = sum_by-cons (of_entries entries) p ports in
      let r = entry_more x entries ports in
      elim (cases_eq x.actor p.«module») [
        | inl same ↦ (
            let w : cond {A = ℕ} (nat_eq x.actor p.«module») 1 0 ≡ 1 = ap (λ (b : Bool). cond {A = ℕ} b 1 0) (eq-eqb x.actor p.«module» same) in
            let t : of_entries (x ∷ entries) p ≡ (1 + count_by (λ (x : Entry). nat_eq x.actor p.«module») entries) * rate p = ap (λ k. k * rate p) (omega (arith, n, w)) in
            let o = own (λ (p : PortRow). p.«module») rate x.actor p ports (sym same) in
            omega (arith, a, b, r, t, o))
        | inr apart ↦ (
            let w : cond {A = ℕ} (nat_eq x.actor p.«module») 1 0 ≡ 0 = ap (λ (b : Bool). cond {A = ℕ} b 1 0) (ne_eqb x.actor p.«module» apart) in
            let t : of_entries (x ∷ entries) p ≡ of_entries entries p = ap (λ k. k * rate p) (omega (arith, n, w)) in
            let o = other (λ (p : PortRow). p.«module») rate x.actor p ports (λ e. apart (sym e)) in
            omega (arith, a, b, r, t, o))
      ]

  -- all entries give what all ports give
  both_ways : (entries : List Entry) (ports : List PortRow) → sum_by (λ (x : Entry). of_ports x.actor ports) entries ≡ sum_by (of_entries entries) ports
  both_ways [] ports = sym (no_entries ports)
  both_ways (x ∷ entries) ports =
      omega (arith, sum_by-cons (λ (y : Entry). of_ports y.actor ports) x entries, both_ways entries ports, entry_more x entries ports)

module _ (flat : Flat) (c : ClusterOf) (of : IsClusterOf flat c) where
  -- the rate of a port, and that of the port of a number
  abbrev rate : PortRow → ℕ
  rate port = port_rate c.table port

  abbrev row_rate : ℕ → ℕ
  row_rate n = rate_of_row c.table (slice_get flat.tables.ports n)

  -- the numbers of the traced ports of a module, from number k on
  abbrev numbers : ℕ → ℕ → List PortRow → List ℕ
  numbers m k ports = filter_map (λ port. number_if_traced flat.tables m port.0 port.1) (enumerate_from k ports)

  -- a port of the module gives its rate where it is traced, another port nothing
  head_few : (mine traced : Bool) (k : ℕ) (port : PortRow) (rest : List ℕ) → slice_get flat.tables.ports k ≡ Some port
      → sum_by row_rate (cons_option (if mine && traced then Some k else None) rest) ≤ (if mine then rate port else 0) + sum_by row_rate rest
  head_few true true k port rest at = let r : row_rate k ≡ rate port = ap (rate_of_row c.table) at in omega (arith, sum_by-cons row_rate k rest, r)
  head_few true false k port rest at = omega arith
  head_few false traced k port rest at = omega arith

  -- so the traced ports of a module give no more than all its ports
  numbers_few : (m k : ℕ) (ports : List PortRow) → ((j : ℕ) → slice_get flat.tables.ports (k + j) ≡ slice_get ports j)
      → sum_by row_rate (numbers m k ports) ≤ of_ports rate m ports
  numbers_few m k [] same = omega arith
  numbers_few m k (port ∷ ports) same =
      let z : k ≡ k + 0 = omega arith in
      let h = head_few (nat_eq port.«module» m) (is_out port.kind && list_any (is_trace_of port.signal) flat.tables.traces) k port (numbers m (k + 1) ports) (ap (slice_get flat.tables.ports) z ∙ same 0) in
      let r = numbers_few m (k + 1) ports (λ j. let e : k + 1 + j ≡ k + suc j = omega arith in ap (slice_get flat.tables.ports) e ∙ same (suc j)) in
      let s = sum_by-cons (λ (p : PortRow). if nat_eq p.«module» m then rate p else 0) port ports in
      omega (arith, h, r, s)

  -- what is kept for an actor has no other traced ports
  traced_few : (m : ℕ) (r : Option Runner) → slice_get c.runners m ≡ r → traced_size r ≤ of_ports rate m flat.tables.ports
  traced_few m None at = omega arith
  traced_few m (Some (runner.Module x)) at =
      let is : IsModuleWith flat c.table c m x = of.runners m (runner.Module x) at in
      let t : traced_size (Some (runner.Module x)) ≡ sum_by row_rate (traced_ports flat.tables m) = ap (sum_by (λ (t : TracedPort). t.rate)) is.traced
      ∙ over_map (traced_port flat.tables c.table) (λ (t : TracedPort). t.rate) (traced_ports flat.tables m) in
      let n = numbers_few m 0 flat.tables.ports (λ j. let z : 0 + j ≡ j = omega arith in ap (slice_get flat.tables.ports) z) in
      omega (arith, t, n)
  traced_few m (Some (runner.Sampler s)) at = omega arith
  traced_few m (Some (runner.Sink k)) at = omega arith
  traced_few m (Some runner.Outside) at = omega arith

  -- all entries give no more traced samples than go through all ports in a period
  all_traced : sum_by (given traced_size c.runners) c.entries ≤ 1048576
  all_traced =
      let e = sum_by-le-sum_by (given traced_size c.runners) (λ (x : Entry). of_ports rate x.actor flat.tables.ports) c.entries
      (λ x. traced_few x.actor (slice_get c.runners x.actor) refl) in
      let p = sum_by-le-sum_by (of_entries rate c.entries) (moved_in flat c of) flat.tables.ports
      (λ p. let n : of_entries rate c.entries p ≡ moved_in flat c of p = ap (λ k. k * rate p) (entries_of flat c of p.«module») in omega (arith, n)) in
      omega (arith, e, both_ways rate c.entries flat.tables.ports, p, within flat c of)

  -- and no more samples of sinks than there are entries
  all_sent : sum_by (given sent_size c.runners) c.entries ≤ 262144
  all_sent =
      let e = sum_by-le-sum_by (given sent_size c.runners) (λ (x : Entry). 1) c.entries (λ x. sent_once (slice_get c.runners x.actor)) in
      let k = all_keys (λ (x : Entry). x.actor) (λ (x : Entry). 1) c.entries (counts_in flat c of) (λ m. omega (arith, entries_of flat c of m)) in
      omega (arith, e, k, of.planned.plan_is.timing.counts_are.few)

-- both are below 2 ^ 32
pub room_is_there : RoomIsThere
room_is_there flat c of (GivesTooMany.Sent offset many) = omega (arith, due_few sent_size c.runners offset c.entries, all_sent flat c of, many)
room_is_there flat c of (GivesTooMany.Traced offset many) = omega (arith, due_few traced_size c.runners offset c.entries, all_traced flat c of, many)
