-- The event side of the flat model of a sound model can run.
use Rattle.std.proofs.Common.{◌≡◌, ◌∙◌, ℕ, zero, suc, ◌+◌, ◌<◌, Bool, true, false, List, [], ◌∷◌, ◌++◌, Option, Some, None, length, map, refl, sym, ap, subst, arith}
use Rattle.std.proofs.lemmas.List.Elements.{All-from_recursion, recursion_from_All}
use Rattle.std.proofs.lemmas.Option.{same_Some, none-some, slice_get_within}
use Rattle.std.specs.List.{AllByRecursion, cons_option, enumerate_from}
use Rattle.std.specs.Prelude.{All, cond, filter, if◌then◌else◌, nat_eq, slice_get}
use Rattle.tdf_events.specs.Processes.{owned_from}
use Rattle.tdf_events.specs.Runnable.{IsInstance, IsProcess, IsRunnable}
use Rattle.tdf_expr.specs.Frames.{IsOfFormat}
use Rattle.tdf_fixed.specs.declared.format.Format.{Format}
use Rattle.tdf_fixed.specs.declared.raw.Raw.{Raw}
use Rattle.tdf_bind.specs.Flat.{IsFlatOf}
use Rattle.tdf_bind.specs.declared.model.Flat.{Flat}
use Rattle.tdf_bind_invariants.proofs.Api.{found_at}
use Rattle.tdf_bind_invariants.specs.Formats.{IsSoundModel}
use Rattle.tdf_bind_ports.specs.Ports.{ports_of_de}
use Rattle.tdf_expr_names.specs.Law.{KeepsNamesOnce}
use Rattle.tdf_bind_names.specs.Resolved.{whole}
use Rattle.tdf_bind_attributes.specs.Roles.{places_among, process_role, processes_role, roles_of}
use Rattle.tdf_events_invariants.proofs.Counts.{event_rows_are_few, mapped_long}
use Rattle.tdf_events_invariants.proofs.Instances.{HasLines, all_push, has_block, has_lines, row_placed}
use Rattle.tdf_events_invariants.proofs.Owned.{event_rows_have_owners}
use Rattle.tdf_events_invariants.proofs.Ports.{ports_are, reached}
use Rattle.tdf_events_invariants.proofs.Starts.{signals_start_in_format}
use Rattle.tdf_events_invariants.specs.Runnable.{DeclareEventPorts, HasBlock, HasEventPorts, HasFewRows, HasOwners, SoundIsRunnable, StartsInFormat}
use Rattle.tdf_expr_symbols.specs.Names.{place_in}
use Rattle.tdf_lang_tree.specs.Pure.{PureDe, PureProcess, GNet, PureTree}
use Rattle.tdf_lang_tree.specs.declared.blocks.PortLine.{PortLine}
use Rattle.tdf_lang_tree.specs.declared.blocks.Sense.{Sense}
use Rattle.tdf_bind_hierarchy.specs.declared.tables.SignalNumber.{SignalNumber}
use Rattle.tdf_bind_connections.specs.Modules.{signal_at}
use Rattle.tdf_bind_connections.specs.ProcessBlocks.{PlacedBlock, ProcessRowOf, block_processes, block_row, placed_blocks, process_row, processes_from}
use Rattle.tdf_bind_connections.specs.Roles.{ProcessOf, ProcessesOf}
use Rattle.tdf_bind_connections.specs.declared.blocks.EventRow.{EventRow}
use Rattle.tdf_bind_connections.specs.declared.drivers.SignalRow.{SignalRow}

-- lists
both_all : {A : Type 0} (P : A → Type 0) (xs ys : List A) → AllByRecursion P xs → AllByRecursion P ys → AllByRecursion P (xs ++ ys)
both_all P [] ys one other = other
both_all P (x ∷ xs) ys one other = (one.0, both_all P xs ys one.1 other)

all_from : {A : Type 0} (P : A → Type 0) (xs : List A) → ((n : ℕ) (x : A) → slice_get xs n ≡ Some x → P x) → AllByRecursion P xs
all_from P [] each = tt
all_from P (x ∷ xs) each = (each 0 x refl, all_from P xs (λ n y at. each (suc n) y at))

item_at : {A : Type 0} (P : A → Type 0) (xs : List A) → AllByRecursion P xs → (n : ℕ) (x : A) → slice_get xs n ≡ Some x → P x
item_at P [] all n x at = absurd (none-some x at)
item_at P (y ∷ ys) all zero x at = subst P (same_Some y x at) all.0
item_at P (y ∷ ys) all (suc n) x at = item_at P ys all.1 n x at

-- the events of an instance, by their number
owned_long : (owner first : ℕ) (rows : List EventRow) → length (owned_from owner first rows) ≡ length (filter (λ (event : EventRow). nat_eq event.owner owner) rows)
unfolding owned_from
owned_long owner first [] = refl
owned_long owner first (row ∷ rows) = go (nat_eq row.owner owner) (owned_long owner (first + 1) rows)
  where
    later : List EventRow
    later = filter (λ (event : EventRow). nat_eq event.owner owner) rows

    go : (b : Bool) → length (owned_from owner (first + 1) rows) ≡ length later
        → length (if b then first ∷ owned_from owner (first + 1) rows else owned_from owner (first + 1) rows) ≡ length (cond b (row ∷ later) later)
    go true same = ap suc same
    go false same = same

-- the first values of the event signals
starts_of : (rows : List SignalRow) → AllByRecursion StartsInFormat rows → (n : ℕ) (f : Format) (value : Raw) → slice_get (map (λ (row : SignalRow). row.format) rows) n ≡ Some f
    → slice_get (map (λ (row : SignalRow). row.start) rows) n ≡ Some value → IsOfFormat f value
starts_of [] all n f value format start = absurd (none-some f format)
starts_of (row ∷ rows) all zero f value format start = subst (λ (g : Format). IsOfFormat g value) (same_Some row.format f format) (subst (IsOfFormat row.format) (same_Some row.start value start) all.0)
starts_of (row ∷ rows) all (suc n) f value format start = starts_of rows all.1 n f value format start

-- a process is sensitive to ports of its block
abbrev SensesPorts : ProcessesOf → Type 0
SensesPorts role = AllByRecursion (λ (p : ProcessOf). AllByRecursion (λ place. place < length role.ports) p.ports) role.processes

among : (names : List (List ℕ)) (lines : List Sense) → AllByRecursion (λ place. place < length names) (places_among names lines)
among names [] = tt
among names (s ∷ lines) = go (place_in names s.name) refl (among names lines)
  where
    go : (o : Option ℕ) → place_in names s.name ≡ o → AllByRecursion (λ place. place < length names) (places_among names lines) → AllByRecursion (λ place. place < length names) (cons_option o (places_among names lines))
    go None at later = later
    go (Some n) at later = (slice_get_within names n s.name (found_at names s.name n at), later)

senses_ports : (number : ℕ) (block : PureDe) → SensesPorts (processes_role number block)
senses_ports number block = go block.processes
  where
    same : length (map (λ (p : PortLine). p.name) (ports_of_de block)) ≡ length (map (λ (p : PortLine). p.kind) (ports_of_de block))
    same = mapped_long (λ (p : PortLine). p.name) (ports_of_de block) ∙ sym (mapped_long (λ (p : PortLine). p.kind) (ports_of_de block))

    go : (ps : List PureProcess) → AllByRecursion (λ (p : ProcessOf). AllByRecursion (λ place. place < length (map (λ (p : PortLine). p.kind) (ports_of_de block))) p.ports) (map (process_role block) ps)
    go [] = tt
    go (p ∷ ps) = (subst (λ k. AllByRecursion (λ place. place < k) (process_role block p).ports) same (among (map (λ (p : PortLine). p.name) (ports_of_de block)) p.sensitive), go ps)

-- so it is sensitive to signals that there are
abbrev Reaches : ℕ → PlacedBlock → Type 0
Reaches most p = AllByRecursion (λ (q : ProcessOf). AllByRecursion (λ signal. signal < most) (map (signal_at p.instance.signals) q.ports)) p.role.processes

reaching : (most count : ℕ) (signals : List SignalNumber) → ((k : ℕ) → k < count → signal_at signals k < most) → (places : List ℕ) → AllByRecursion (λ place. place < count) places
    → AllByRecursion (λ signal. signal < most) (map (signal_at signals) places)
reaching most count signals each [] all = tt
reaching most count signals each (k ∷ places) all = (each k all.0, reaching most count signals each places all.1)

reaching_all : (most count : ℕ) (signals : List SignalNumber) → ((k : ℕ) → k < count → signal_at signals k < most) → (ps : List ProcessOf) → AllByRecursion (λ (p : ProcessOf). AllByRecursion (λ place. place < count) p.ports) ps
    → AllByRecursion (λ (p : ProcessOf). AllByRecursion (λ signal. signal < most) (map (signal_at signals) p.ports)) ps
reaching_all most count signals each [] all = tt
reaching_all most count signals each (p ∷ ps) all = (reaching most count signals each p.ports all.0, reaching_all most count signals each ps all.1)

abbrev ReachesSignals : ℕ → ProcessRowOf → Type 0
ReachesSignals most row = AllByRecursion (λ signal. signal < most) row.signals

block_reaches : (most owner first : ℕ) (signals : List SignalNumber) (from : ℕ) (ps : List ProcessOf) → AllByRecursion (λ (p : ProcessOf). AllByRecursion (λ signal. signal < most) (map (signal_at signals) p.ports)) ps
    → AllByRecursion (ReachesSignals most) (map (λ process. process_row owner first signals process.0 process.1) (enumerate_from from ps))
block_reaches most owner first signals from [] all = tt
block_reaches most owner first signals from (p ∷ ps) all = (all.0, block_reaches most owner first signals (from + 1) ps all.1)

rows_reach : (most owner first : ℕ) (ps : List PlacedBlock) → AllByRecursion (Reaches most) ps → AllByRecursion (ReachesSignals most) (processes_from owner first ps)
rows_reach most owner first [] all = tt
rows_reach most owner first (p ∷ ps) all =
    both_all (ReachesSignals most) (block_processes owner first p) (processes_from (owner + 1) (first + length p.role.events) ps)
    (block_reaches most owner first p.instance.signals 0 p.role.processes all.0) (rows_reach most (owner + 1) (first + length p.role.events) ps all.1)

processes_are : (flat : Flat) → HasOwners flat → AllByRecursion (ReachesSignals (length flat.tables.de_signals)) flat.tables.processes → All (IsProcess flat) flat.tables.processes
processes_are flat owners signals = All-from_recursion (IsProcess flat) flat.tables.processes (go flat.tables.processes
    (recursion_from_All (λ (row : ProcessRowOf). row.owner < length flat.tables.blocks) flat.tables.processes owners.owners) signals
    (recursion_from_All (λ (row : ProcessRowOf). All (λ event. event < length flat.tables.events) row.events) flat.tables.processes owners.sensitive))
  where
    go : (rows : List ProcessRowOf) → AllByRecursion (λ (row : ProcessRowOf). row.owner < length flat.tables.blocks) rows → AllByRecursion (ReachesSignals (length flat.tables.de_signals)) rows
        → AllByRecursion (λ (row : ProcessRowOf). All (λ event. event < length flat.tables.events) row.events) rows → AllByRecursion (IsProcess flat) rows
    go [] owned reach sensitive = tt
    go (row ∷ rows) owned reach sensitive = (
      record { owner = owned.0; signals = All-from_recursion (λ signal. signal < length flat.tables.de_signals) row.signals reach.0; events = sensitive.0 },
      go rows owned.1 reach.1 sensitive.1,
    )

module _ (names_once : KeepsNamesOnce) (model : PureTree) (flat : Flat) (sound : IsSoundModel model) (declares : DeclareEventPorts model) (is : IsFlatOf model flat) where
  abbrev ps : List PlacedBlock
  ps = placed_blocks (roles_of model) is.tables.tables.instances

  all : AllByRecursion HasEventPorts (whole model)
  all = all_push HasEventPorts model.globals (GNet model.top) declares tt

  lines : (n : ℕ) (p : PlacedBlock) → slice_get ps n ≡ Some p → HasLines HasEventPorts model flat p
  lines n p at = has_lines HasEventPorts names_once model flat sound is all n p at

  instance_placed : (n : ℕ) (p : PlacedBlock) → slice_get ps n ≡ Some p → IsInstance flat n (block_row p)
  instance_placed n p at =
      let has : HasBlock flat n (block_row p) = has_block HasEventPorts names_once model flat sound is all n p at in record {
        block = has.block;
        ports = ports_are names_once model flat sound is n p at (lines n p at) has;
        events = owned_long n 0 flat.tables.events ∙ has.events;
      }

  reach : (n : ℕ) (p : PlacedBlock) → slice_get ps n ≡ Some p → Reaches (length flat.tables.de_signals) p
  reach n p at =
      let of_block = (lines n p at).of_block in
      let kinds = mapped_long (λ (l : PortLine). l.kind) (ports_of_de of_block.block) in
      let count : length p.role.ports ≡ length (ports_of_de of_block.block) = ap (λ (r : ProcessesOf). length r.ports) of_block.role_is ∙ kinds in
      reaching_all (length flat.tables.de_signals) (length p.role.ports) p.instance.signals
      (λ k low. reached names_once model flat sound is n p at (lines n p at) k (subst (λ c. k < c) count low))
      p.role.processes (subst SensesPorts (sym of_block.role_is) (senses_ports (0 + of_block.k) of_block.block))

  pub runnable : IsRunnable flat
  runnable =
      let few : HasFewRows flat = event_rows_are_few model flat is in
      let signals = few.signals in
      let events = few.events in
      let blocks = few.blocks in
      let processes = few.processes in
      let owners : HasOwners flat = event_rows_have_owners model flat is in record {
        checked_is = record { model = model; are = is.bodies };
        few_signals = omega (arith, signals);
        few_events = omega (arith, events);
        few_blocks = omega (arith, blocks);
        few_processes = omega (arith, processes);
        starts = record {
          long = mapped_long (λ (row : SignalRow). row.start) flat.tables.de_signals ∙ sym (mapped_long (λ (row : SignalRow). row.format) flat.tables.de_signals);
          each = starts_of flat.tables.de_signals (recursion_from_All StartsInFormat flat.tables.de_signals (signals_start_in_format model flat is).de_signals);
        };
        instances = λ n row at.
            let it = row_placed model flat is n row at in
            subst (IsInstance flat n) it.2 (instance_placed n it.0 it.1);
        processes = processes_are flat owners (subst (AllByRecursion (ReachesSignals (length flat.tables.de_signals))) (sym is.tables.follows.blocks.processes)
            (rows_reach (length flat.tables.de_signals) 0 0 ps (all_from (Reaches (length flat.tables.de_signals)) ps reach)));
        owners = owners.events;
      }

pub sound_is_runnable : KeepsNamesOnce → SoundIsRunnable
sound_is_runnable names_once model flat sound declares is = runnable names_once model flat sound declares is
