-- Tables of what was met have one flat model.
use Rattle.std.proofs.Common.{◌≡◌, ◌∙◌, ℕ, true, false, List, [], ◌∷◌, length, map, refl, sym, ap, subst}
use Rattle.std.proofs.lemmas.List.{length-map}
use Rattle.std.proofs.lemmas.Option.{same_Some}
use Rattle.std.specs.List.{AllZip}
use Rattle.tdf_bind_tables.specs.Actors.{AreActors, cluster_of, net_edge, actor_place}
use Rattle.tdf_bind_tables.specs.FlatTables.{FlatTablesOf, FollowsFrom}
use Rattle.tdf_bind_tables.specs.declared.actors.ActorRow.{ActorRow}
use Rattle.tdf_bind.proofs.Lists.{head_same, none_there, tail_same}
use Rattle.tdf_graph.proofs.Api.{same_clusters}
use Rattle.tdf_graph.specs.Clusters.{AreClusters}
use Rattle.tdf_bind_hierarchy.specs.Tables.{TablesOf}
use Rattle.tdf_bind_hierarchy.specs.declared.tables.SignalNumber.{SignalNumber}
use Rattle.tdf_bind_connections.specs.Drivers.{signal_rows, writers_in}
use Rattle.tdf_bind_connections.specs.Edges.{edges_of}
use Rattle.tdf_bind_connections.specs.Traces.{IsTraceOf}
use Rattle.tdf_bind_connections.specs.declared.drivers.SignalRow.{SignalRow}
use Rattle.tdf_bind_connections.specs.declared.edges.EdgeRow.{EdgeRow}
use Rattle.tdf_bind_connections.specs.declared.modules.PortRow.{PortRow}
use Rattle.tdf_bind_connections.specs.declared.roles.Role.{Role}
use Rattle.tdf_bind_connections.specs.declared.traces.TraceLine.{TraceLine}
use Rattle.tdf_bind_connections.specs.declared.traces.TraceRow.{TraceRow}

-- actors are their places and their clusters
same_actor : (x y : ActorRow) → actor_place x ≡ actor_place y → x.cluster ≡ y.cluster → x ≡ y
same_actor x y place cluster = λ i. record { kind = (place i).kind; «module» = (place i).«module»; port = (place i).port; cluster = cluster i }

same_actors : (xs ys : List ActorRow) → map actor_place xs ≡ map actor_place ys → map cluster_of xs ≡ map cluster_of ys → xs ≡ ys
same_actors [] [] places clusters = refl
same_actors [] (y ∷ ys) places clusters = absurd (none_there (actor_place y) (map actor_place ys) places)
same_actors (x ∷ xs) [] places clusters = absurd (none_there (actor_place x) (map actor_place xs) (sym places))
same_actors (x ∷ xs) (y ∷ ys) places clusters =
    ap (λ h. h ∷ xs) (same_actor x y (head_same (actor_place x) (actor_place y) (map actor_place xs) (map actor_place ys) places) (head_same x.cluster y.cluster (map cluster_of xs) (map cluster_of ys) clusters))
    ∙ ap (λ l. y ∷ l) (same_actors xs ys (tail_same (actor_place x) (actor_place y) (map actor_place xs) (map actor_place ys) places) (tail_same x.cluster y.cluster (map cluster_of xs) (map cluster_of ys) clusters))

pub one_actors : (modules : ℕ) (ports : List PortRow) (edges : List EdgeRow) (xs ys : List ActorRow) → AreActors modules ports edges xs → AreActors modules ports edges ys → xs ≡ ys
one_actors modules ports edges xs ys is are =
    same_actors xs ys places (same_clusters (length ys) (map net_edge edges) (map cluster_of xs) (map cluster_of ys) (subst (λ n. AreClusters n (map net_edge edges) (map cluster_of xs)) long is.clusters) are.clusters)
  where
    places : map actor_place xs ≡ map actor_place ys
    places = is.places ∙ sym are.places

    long : length xs ≡ length ys
    long = sym (length-map xs actor_place) ∙ ap length places ∙ length-map ys actor_place

-- a path leads to one signal
same_trace : (x y : TraceRow) → x.label ≡ y.label → x.event ≡ y.event → x.signal ≡ y.signal → x ≡ y
same_trace x y label event signal = λ i. record { label = label i; event = event i; signal = signal i }

abbrev number_of : TraceRow → SignalNumber
number_of x = record { event = x.event; number = x.signal }

one_trace : (tables : TablesOf) (x y : TraceRow) (line : TraceLine) → IsTraceOf tables x line → IsTraceOf tables y line → x ≡ y
one_trace tables x y line is are = same_trace x y (is.label ∙ sym are.label) (ap (λ (n : SignalNumber). n.event) same) (ap (λ (n : SignalNumber). n.number) same)
  where
    same : number_of x ≡ number_of y
    same = same_Some (number_of x) (number_of y) (sym is.signal ∙ are.signal)

one_traces : (tables : TablesOf) (xs ys : List TraceRow) (lines : List TraceLine) → AllZip (IsTraceOf tables) xs lines → AllZip (IsTraceOf tables) ys lines → xs ≡ ys
one_traces tables [] [] [] is are = refl
one_traces tables (x ∷ xs) ys [] is are = absurd is
one_traces tables [] (y ∷ ys) [] is are = absurd are
one_traces tables [] ys (line ∷ lines) is are = absurd is
one_traces tables (x ∷ xs) [] (line ∷ lines) is are = absurd are
one_traces tables (x ∷ xs) (y ∷ ys) (line ∷ lines) is are = ap (λ h. h ∷ xs) (one_trace tables x y line is.0 are.0) ∙ ap (λ l. y ∷ l) (one_traces tables xs ys lines is.1 are.1)

pub same_edges : (m n : ℕ) (ss ts : List SignalRow) (ps qs : List PortRow) → m ≡ n → ss ≡ ts → ps ≡ qs → edges_of m ss ps ≡ edges_of n ts qs
same_edges m n ss ts ps qs modules signals ports = λ i. edges_of (modules i) (signals i) (ports i)

pub same_graph : (m n : ℕ) (ps qs : List PortRow) (es fs : List EdgeRow) (actors : List ActorRow) → m ≡ n → ps ≡ qs → es ≡ fs → AreActors m ps es actors → AreActors n qs fs actors
same_graph m n ps qs es fs actors modules ports edges are =
    subst (λ e. AreActors n qs e actors) edges (subst (λ p. AreActors n p es actors) ports (subst (λ k. AreActors k ps es actors) modules are))

module _ (tables : TablesOf) (roles : List Role) (lines : List TraceLine) (a b : FlatTablesOf) (is : FollowsFrom tables roles lines a) (are : FollowsFrom tables roles lines b) where
  ports : a.ports ≡ b.ports
  ports = is.modules.ports ∙ sym are.modules.ports

  modules : a.modules ≡ b.modules
  modules = is.modules.modules ∙ sym are.modules.modules

  count : length a.modules ≡ length b.modules
  count = ap length modules

  signals : a.signals ≡ b.signals
  signals = is.signals.signals ∙ ap (λ p. signal_rows (writers_in roles tables p false) tables.signals) ports ∙ sym are.signals.signals

  de_signals : a.de_signals ≡ b.de_signals
  de_signals = is.signals.de_signals ∙ ap (λ p. signal_rows (writers_in roles tables p true) tables.event_signals) ports ∙ sym are.signals.de_signals

  edges : a.edges ≡ b.edges
  edges = is.edges ∙ same_edges (length a.modules) (length b.modules) a.signals b.signals a.ports b.ports count signals ports ∙ sym are.edges

  actors : a.actors ≡ b.actors
  actors =
      one_actors (length b.modules) b.ports b.edges a.actors b.actors
      (same_graph (length a.modules) (length b.modules) a.ports b.ports a.edges b.edges a.actors count ports edges is.actors) are.actors

  blocks : a.blocks ≡ b.blocks
  blocks = is.blocks.blocks ∙ sym are.blocks.blocks

  processes : a.processes ≡ b.processes
  processes = is.blocks.processes ∙ sym are.blocks.processes

  events : a.events ≡ b.events
  events = is.blocks.events ∙ sym are.blocks.events

  traces : a.traces ≡ b.traces
  traces = one_traces tables a.traces b.traces lines is.traces are.traces

  pub one_follows : a ≡ b
  one_follows = λ i. record {
    modules = modules i;
    ports = ports i;
    actors = actors i;
    edges = edges i;
    signals = signals i;
    de_signals = de_signals i;
    blocks = blocks i;
    processes = processes i;
    events = events i;
    traces = traces i;
  }
