-- The numbers of edges are those of actors.
use Rattle.std.proofs.Common.{◌≡◌, ◌∙◌, ℕ, ◌+◌, ◌<◌, ◌≤◌, zero, suc, Bool, true, false, List, [], ◌∷◌, ◌++◌, Option, Some, None, length, take, refl, sym, ap, map, subst, arith}
use Rattle.std.proofs.lemmas.List.{length-append, append_assoc}
use Rattle.std.proofs.lemmas.List.FromFn.{length-map-range_with_len}
use Rattle.std.proofs.lemmas.List.Elements.{filter-append, All-from_recursion, recursion_from_All}
use Rattle.std.specs.List.{enumerate_from, cons_option, AllByRecursion}
use Rattle.std.specs.Prelude.{slice_get, filter, filter_map, cond, All}
use Rattle.tdf_bind_tables.specs.Actors.{port_actor, actor_of_kind, actor_places, net_edge, AreActorEdges}
use Rattle.tdf_bind_tables.specs.declared.actors.ActorPlace.{ActorPlace}
use Rattle.tdf_graph.specs.Ranges.{IsRate, IsEdge}
use Rattle.tdf_lang_tree.specs.declared.blocks.PortKind.{PortKind}
use Rattle.tdf_lang_tree.specs.declared.blocks.PortKind.TheVariants.{In, Out, DeIn, DeOut}
use Rattle.tdf_bind_connections.specs.Edges.{HasShortDelay, is_event_port, actor_at, driver_port, edge_from, driven_edge, edge_of_kind, edge_by, edges_of}
use Rattle.tdf_bind_connections.specs.declared.drivers.SignalRow.{SignalRow}
use Rattle.tdf_bind_connections.specs.declared.edges.EdgeRow.{EdgeRow}
use Rattle.tdf_bind_connections.specs.declared.modules.PortRow.{PortRow}

rate_one : IsRate 1
rate_one = record { some = omega arith; few = omega arith }

abbrev events : List PortRow → ℕ
events ports = length (filter (λ p. is_event_port p.kind) ports)

-- as many samplers and sinks as there are such ports
kinds_long : (kind : PortKind) (n : ℕ) (p : PortRow) (more : List ActorPlace) (k : ℕ) → length more ≡ k
    → length (cons_option (actor_of_kind kind n p) more) ≡ length (cond (is_event_port kind) (p ∷ []) []) + k
kinds_long In n p more k e = let d = e in omega (arith, d)
kinds_long Out n p more k e = let d = e in omega (arith, d)
kinds_long DeIn n p more k e = let d = e in omega (arith, d)
kinds_long DeOut n p more k e = let d = e in omega (arith, d)

cond_long : (b : Bool) (p : PortRow) (ps : List PortRow) → length (cond b (p ∷ ps) ps) ≡ length (cond b (p ∷ []) []) + length ps
cond_long true p ps = omega arith
cond_long false p ps = omega arith

actors_long : (n : ℕ) (ports : List PortRow) → length (filter_map (λ p. port_actor p.0 p.1) (enumerate_from n ports)) ≡ events ports
actors_long n [] = refl
actors_long n (p ∷ ports) = kinds_long p.kind n p (filter_map (λ q. port_actor q.0 q.1) (enumerate_from (n + 1) ports)) (events ports) (actors_long (n + 1) ports)
    ∙ sym (cond_long (is_event_port p.kind) p (filter (λ q. is_event_port q.kind) ports))

places_long : (modules : ℕ) (ports : List PortRow) → length (actor_places modules ports) ≡ modules + events ports
places_long modules ports = length-append _ (filter_map (λ p. port_actor p.0 p.1) (enumerate_from 0 ports))
    ∙ ap (λ n. n + length (filter_map (λ p. port_actor p.0 p.1) (enumerate_from 0 ports))) (length-map-range_with_len _ 0 modules)
    ∙ ap (λ n. modules + n) (actors_long 0 ports)

take_front : {X : Type 0} (xs ys : List X) → take (length xs) (xs ++ ys) ≡ xs
take_front [] ys = refl
take_front (x ∷ xs) ys = ap (λ l. x ∷ l) (take_front xs ys)

all_get : {X : Type 0} (P : X → Type 0) (xs : List X) (k : ℕ) (x : X) → AllByRecursion P xs → slice_get xs k ≡ Some x → P x
all_get {X} P [] k x h is = absurd (subst none_only is tt)
  where
    none_only : Option X → Type 0
    none_only None = Unit {0}
    none_only (Some y) = ⊥
all_get {X} P (y ∷ xs) zero x h is = subst (IsThis) is h.0
  where
    IsThis : Option X → Type 0
    IsThis None = ⊥
    IsThis (Some z) = P z
all_get P (y ∷ xs) (suc k) x h is = all_get P xs k x h.1 is

module _ (modules count : ℕ) (signals : List SignalRow) (whole : List PortRow) (short : AllByRecursion HasShortDelay whole) (own : AllByRecursion (λ p. p.«module» < modules) whole) (more : modules ≤ count) where
  abbrev Fits : Option EdgeRow → Type 0
  Fits None = Unit {0}
  Fits (Some e) = IsEdge count (net_edge e)

  from_fits : (n : ℕ) (p : PortRow) → p.«module» < modules → HasShortDelay p → (out : ℕ) (o : Option PortRow) → o ≡ slice_get whole out → Fits (edge_from n p out o)
  from_fits n p mine brief out None is = tt
  from_fits n p mine brief out (Some d) is =
      let theirs = all_get (λ q. q.«module» < modules) whole out d own (sym is) in
      let narrow = all_get HasShortDelay whole out d short (sym is) in
      record { writer = omega (arith, theirs, more); reader = omega (arith, mine, more); writes = rate_one; reads = rate_one; starts = omega (arith, brief, narrow) }

  driven_fits : (n : ℕ) (p : PortRow) → p.«module» < modules → HasShortDelay p → (o : Option ℕ) → Fits (driven_edge whole n p o)
  driven_fits n p mine brief None = tt
  driven_fits n p mine brief (Some out) = from_fits n p mine brief out (slice_get whole out) refl

  kind_fits : (kind : PortKind) (n actor : ℕ) (p : PortRow) → p.«module» < modules → HasShortDelay p → (is_event_port kind ≡ true → actor < count) → Fits (edge_of_kind kind signals whole n actor p)
  kind_fits In n actor p mine brief within = driven_fits n p mine brief (driver_port signals p.signal)
  kind_fits Out n actor p mine brief within = tt
  kind_fits DeIn n actor p mine brief within = record { writer = within refl; reader = omega (arith, mine, more); writes = rate_one; reads = rate_one; starts = omega (arith, brief) }
  kind_fits DeOut n actor p mine brief within = record { writer = omega (arith, mine, more); reader = within refl; writes = rate_one; reads = rate_one; starts = omega (arith, brief) }

  cons_fits : (o : Option EdgeRow) (es : List EdgeRow) → Fits o → AllByRecursion (λ e. IsEdge count (net_edge e)) es → AllByRecursion (λ e. IsEdge count (net_edge e)) (cons_option o es)
  cons_fits None es h k = k
  cons_fits (Some e) es h k = (h, k)

event_one : (b : Bool) (p : PortRow) → b ≡ true → 1 ≤ length (cond b (p ∷ []) [])
event_one true p e = omega arith
event_one false p e = absurd (subst T (sym e) tt)
  where
    T : Bool → Type 0
    T true = Unit {0}
    T false = ⊥

edges_within : (modules : ℕ) (signals : List SignalRow) (whole : List PortRow) → AllByRecursion HasShortDelay whole → AllByRecursion (λ p. p.«module» < modules) whole
    → (before ports : List PortRow) → whole ≡ before ++ ports → AllByRecursion HasShortDelay ports → AllByRecursion (λ p. p.«module» < modules) ports
    → AllByRecursion (λ e. IsEdge (modules + events whole) (net_edge e)) (filter_map (λ p. edge_by signals whole p.0 (actor_at modules whole p.0) p.1) (enumerate_from (length before) ports))
edges_within modules signals whole short own before [] is shorts owns = tt
edges_within modules signals whole short own before (p ∷ ports) is shorts owns =
    cons_fits modules (modules + events whole) signals whole short own (omega arith) (edge_by signals whole (length before) (actor_at modules whole (length before)) p) _
    (kind_fits modules (modules + events whole) signals whole short own (omega arith) p.kind (length before) (actor_at modules whole (length before)) p owns.0 shorts.0 within)
    (subst (λ n. AllByRecursion (λ e. IsEdge (modules + events whole) (net_edge e)) (filter_map (λ p. edge_by signals whole p.0 (actor_at modules whole p.0) p.1) (enumerate_from n ports))) long
    (edges_within modules signals whole short own (before ++ p ∷ []) ports (is ∙ sym (append_assoc before (p ∷ []) ports)) shorts.1 owns.1))
  where
    long : length (before ++ p ∷ []) ≡ length before + 1
    long = length-append before (p ∷ [])

    at : actor_at modules whole (length before) ≡ modules + events before
    at = ap (λ l. modules + events l) (ap (take (length before)) is ∙ take_front before (p ∷ ports))

    all : events whole ≡ events before + (length (cond (is_event_port p.kind) (p ∷ []) []) + events ports)
    all = ap events is ∙ ap length (filter-append (λ q. is_event_port q.kind) before (p ∷ ports))
        ∙ length-append (filter (λ q. is_event_port q.kind) before) (filter (λ q. is_event_port q.kind) (p ∷ ports))
        ∙ ap (λ n. events before + n) (cond_long (is_event_port p.kind) p (filter (λ q. is_event_port q.kind) ports))

    within : is_event_port p.kind ≡ true → actor_at modules whole (length before) < modules + events whole
    within e = let one = event_one (is_event_port p.kind) p e in let a = all in let b = at in omega (arith, one, a, b)

mapped : (count : ℕ) (es : List EdgeRow) → AllByRecursion (λ e. IsEdge count (net_edge e)) es → AllByRecursion (IsEdge count) (map net_edge es)
mapped count [] h = tt
mapped count (e ∷ es) h = (h.0, mapped count es h.1)

pub edges_are_actors : (modules : ℕ) (signals : List SignalRow) (ports : List PortRow) → All HasShortDelay ports → All (λ p. p.«module» < modules) ports → AreActorEdges modules ports (edges_of modules signals ports)
edges_are_actors modules signals ports short own =
    let shorts = recursion_from_All HasShortDelay ports short in
    let owns = recursion_from_All (λ p. p.«module» < modules) ports own in
    All-from_recursion (IsEdge (length (actor_places modules ports))) (map net_edge (edges_of modules signals ports))
    (subst (λ n. AllByRecursion (IsEdge n) (map net_edge (edges_of modules signals ports))) (sym (places_long modules ports))
    (mapped (modules + events ports) (edges_of modules signals ports) (edges_within modules signals ports shorts owns [] ports refl shorts owns)))
