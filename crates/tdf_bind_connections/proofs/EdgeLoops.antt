-- One edge more.
use Rattle.std.proofs.Common.{◌≡◌, ◌∙◌, ℕ, ◌+◌, ◌<◌, Bool, true, false, List, [], ◌∷◌, ◌++◌, Option, length, take, sym, ap, arith}
use Rattle.std.proofs.Math.ListN.{get_or}
use Rattle.std.proofs.lemmas.List.{take_more, length-append}
use Rattle.std.proofs.lemmas.List.Elements.{filter-append}
use Rattle.std.specs.List.{cons_option}
use Rattle.std.specs.Prelude.{filter, cond}
use Rattle.tdf_bind_connections.proofs.Lists.{filtered_next}
use Rattle.tdf_bind_connections.specs.Edges.{is_event_port, actor_at, edge_by}
use Rattle.tdf_bind_connections.specs.machine.EdgeSteps.{actor_after, EdgesUpTo}
use Rattle.tdf_bind_connections.specs.declared.drivers.SignalRow.{SignalRow}
use Rattle.tdf_bind_connections.specs.declared.edges.EdgeRow.{EdgeRow}
use Rattle.tdf_bind_connections.specs.declared.modules.PortRow.{PortRow}

actor_next : (modules : ℕ) (ports : List PortRow) (i : ℕ) (port : PortRow) → i < length ports → port ≡ get_or ports i port → actor_at modules ports (i + 1) ≡ actor_after (actor_at modules ports i) port.kind
actor_next modules ports i port within port_is =
    ap (λ l. modules + length (filter (λ p. is_event_port p.kind) l)) (take_more ports i port within ∙ ap (λ (x : PortRow). take i ports ++ x ∷ []) (sym port_is))
    ∙ ap (λ l. modules + length l) (filter-append (λ p. is_event_port p.kind) (take i ports) (port ∷ []))
    ∙ ap (λ n. modules + n) (length-append (filter (λ p. is_event_port p.kind) (take i ports)) (filter (λ p. is_event_port p.kind) (port ∷ [])))
    ∙ by_kind (is_event_port port.kind) (length (filter (λ p. is_event_port p.kind) (take i ports)))
  where
    by_kind : (b : Bool) (n : ℕ) → modules + (n + length (cond b (port ∷ []) [])) ≡ cond b (modules + n + 1) (modules + n)
    by_kind true n = omega arith
    by_kind false n = omega arith

pub edges_next : (modules : ℕ) (signals : List SignalRow) (ports : List PortRow) (i : ℕ) (port : PortRow) (actor next : ℕ) (edge : Option EdgeRow) (edges new : List EdgeRow) → i < length ports → EdgesUpTo modules signals ports i actor edges
    → port ≡ get_or ports i port → edge ≡ edge_by signals ports i actor port → new ≡ edges ++ cons_option edge [] → next ≡ actor_after actor port.kind → EdgesUpTo modules signals ports (i + 1) next new
edges_next modules signals ports i port actor next edge edges new within h port_is edge_is new_is next_is = record {
  edges_are = filtered_next (λ n p. edge_by signals ports n (actor_at modules ports n) p) ports i port [] edges new within h.edges_are port_is
      (new_is ∙ ap (λ o. edges ++ cons_option o []) (edge_is ∙ ap (λ a. edge_by signals ports i a port) h.actor_is));
  actor_is = next_is ∙ ap (λ a. actor_after a port.kind) h.actor_is ∙ sym (actor_next modules ports i port within port_is);
}
