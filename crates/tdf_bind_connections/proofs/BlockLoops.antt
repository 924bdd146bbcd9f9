-- One block of processes more.
use Rattle.std.proofs.Common.{◌≡◌, ◌∙◌, ℕ, ◌+◌, ◌<◌, List, [], ◌∷◌, ◌++◌, Option, Some, None, length, take, sym, ap, subst, arith}
use Rattle.std.proofs.Math.ListN.{get_or}
use Rattle.std.proofs.lemmas.List.{take_more, map-append, length-map, length-append, append_assoc, append-nil}
use Rattle.std.proofs.lemmas.List.Elements.{filter_map-append}
use Rattle.std.specs.List.{cons_option}
use Rattle.std.specs.Prelude.{map, slice_get}
use Rattle.tdf_bind_hierarchy.specs.Tables.{RowOf}
use Rattle.tdf_bind_connections.specs.ProcessBlocks.{PlacedBlock, as_block, placed_blocks, block_row, event_row, block_processes, processes_from, events_from, ProcessBlocksOf, AreProcessBlocks}
use Rattle.tdf_bind_connections.specs.machine.BlockSteps.{processes_of, with_placed_block, with_block_at}
use Rattle.tdf_bind_connections.specs.declared.roles.Role.{Role}

events_then : (n : ℕ) (ms ns : List PlacedBlock) → events_from n (ms ++ ns) ≡ events_from n ms ++ events_from (n + length ms) ns
events_then n [] ns = ap (λ k. events_from k ns) (omega arith)
events_then n (m ∷ ms) ns = ap (λ l. map (event_row n) m.role.events ++ l) (events_then (n + 1) ms ns)
    ∙ sym (append_assoc (map (event_row n) m.role.events) (events_from (n + 1) ms) (events_from (n + 1 + length ms) ns))
    ∙ ap (λ k. (map (event_row n) m.role.events ++ events_from (n + 1) ms) ++ events_from k ns) (omega arith)

events_long : (n : ℕ) (m : PlacedBlock) (ms : List PlacedBlock) → length (events_from n (m ∷ ms)) ≡ length m.role.events + length (events_from (n + 1) ms)
events_long n m ms = length-append (map (event_row n) m.role.events) (events_from (n + 1) ms) ∙ ap (λ k. k + length (events_from (n + 1) ms)) (length-map m.role.events (event_row n))

processes_then : (n f : ℕ) (ms ns : List PlacedBlock) → processes_from n f (ms ++ ns) ≡ processes_from n f ms ++ processes_from (n + length ms) (f + length (events_from n ms)) ns
processes_then n f [] ns = ap (λ k. processes_from k f ns) (omega arith) ∙ ap (λ k. processes_from (n + 0) k ns) (omega arith)
processes_then n f (m ∷ ms) ns = ap (λ l. block_processes n f m ++ l) (processes_then (n + 1) (f + length m.role.events) ms ns)
    ∙ sym (append_assoc (block_processes n f m) (processes_from (n + 1) (f + length m.role.events) ms) (processes_from (n + 1 + length ms) (f + length m.role.events + length (events_from (n + 1) ms)) ns))
    ∙ ap (λ k. (block_processes n f m ++ processes_from (n + 1) (f + length m.role.events) ms) ++ processes_from k (f + length m.role.events + length (events_from (n + 1) ms)) ns) (omega arith)
    ∙ ap (λ k. (block_processes n f m ++ processes_from (n + 1) (f + length m.role.events) ms) ++ processes_from (n + length (m ∷ ms)) k ns) (let e = events_long n m ms in omega (arith, e))

-- the tables of some blocks
pub record OfPlaced (ms : List PlacedBlock) (t : ProcessBlocksOf) : Type 0 where
  pub blocks : t.blocks ≡ map block_row ms
  pub processes : t.processes ≡ processes_from 0 0 ms
  pub events : t.events ≡ events_from 0 ms

placed_then : (o : Option PlacedBlock) (ms : List PlacedBlock) (t : ProcessBlocksOf) → OfPlaced ms t → OfPlaced (ms ++ cons_option o []) (with_placed_block o t)
placed_then None ms t h = subst (λ l. OfPlaced l t) (sym (append-nil ms)) h
placed_then (Some m) ms t h = record {
  blocks = ap (λ l. l ++ block_row m ∷ []) h.blocks ∙ sym (map-append block_row ms (m ∷ []));
  processes = ap (λ l. l ++ processes_of (length t.blocks) (length t.events) m.instance.signals m.role.processes) h.processes
      ∙ ap (λ n. processes_from 0 0 ms ++ processes_of n (length t.events) m.instance.signals m.role.processes) owner
      ∙ ap (λ n. processes_from 0 0 ms ++ processes_of (length ms) n m.instance.signals m.role.processes) (ap length h.events)
      ∙ ap (λ l. processes_from 0 0 ms ++ l) (sym (append-nil (processes_of (length ms) (length (events_from 0 ms)) m.instance.signals m.role.processes)))
      ∙ ap (λ n. processes_from 0 0 ms ++ processes_from n (length (events_from 0 ms)) (m ∷ [])) (zero_plus (length ms))
      ∙ ap (λ n. processes_from 0 0 ms ++ processes_from (0 + length ms) n (m ∷ [])) (zero_plus (length (events_from 0 ms)))
      ∙ sym (processes_then 0 0 ms (m ∷ []));
  events = ap (λ l. l ++ map (event_row (length t.blocks)) m.role.events) h.events
      ∙ ap (λ n. events_from 0 ms ++ map (event_row n) m.role.events) owner
      ∙ ap (λ l. events_from 0 ms ++ l) (sym (append-nil (map (event_row (length ms)) m.role.events)))
      ∙ ap (λ n. events_from 0 ms ++ events_from n (m ∷ [])) (zero_plus (length ms))
      ∙ sym (events_then 0 ms (m ∷ []));
}
  where
    owner : length t.blocks ≡ length ms
    owner = ap length h.blocks ∙ length-map ms block_row

    zero_plus : (n : ℕ) → n ≡ 0 + n
    zero_plus n = omega arith

pub block_more : (roles : List Role) (instances : List RowOf) (i : ℕ) (instance : RowOf) (old new : ProcessBlocksOf) → i < length instances → AreProcessBlocks roles (take i instances) old
    → instance ≡ get_or instances i instance → new ≡ with_block_at roles instance old → AreProcessBlocks roles (take (i + 1) instances) new
block_more roles instances i instance old new within h instance_is new_is =
    let placed = placed_then (as_block instance (slice_get roles instance.block)) (placed_blocks roles (take i instances)) old (record { blocks = h.blocks; processes = h.processes; events = h.events }) in
    let all = ap (placed_blocks roles) (take_more instances i instance within ∙ ap (λ (x : RowOf). take i instances ++ x ∷ []) (sym instance_is))
    ∙ filter_map-append (λ instance. as_block instance (slice_get roles instance.block)) (take i instances) (instance ∷ []) in
    subst (AreProcessBlocks roles (take (i + 1) instances)) (sym new_is)
    (record { blocks = placed.blocks ∙ ap (map block_row) (sym all); processes = placed.processes ∙ ap (processes_from 0 0) (sym all); events = placed.events ∙ ap (events_from 0) (sym all) })
