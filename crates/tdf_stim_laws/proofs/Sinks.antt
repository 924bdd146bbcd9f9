-- A sink stands at a port of a module that gives its signal values.
use Rattle.std.proofs.Common.{◌≡◌, ◌∙◌, ℕ, zero, suc, ◌+◌, List, [], ◌∷◌, ◌++◌, map, Option, Some, None, slice_get, refl, sym, ap, arith}
use Rattle.std.proofs.lemmas.Option.{same_Some, slice_get-map}
use Rattle.std.specs.List.{cons_option, enumerate_from, range_with_len}
use Rattle.std.specs.Prelude.{filter_map, option_map}
use Rattle.tdf_bind_connections.specs.declared.modules.PortRow.{PortRow}
use Rattle.tdf_bind_tables.specs.Actors.{actor_of_kind, actor_place, actor_places, module_actor, port_actor}
use Rattle.tdf_bind_tables.specs.declared.actors.ActorPlace.{ActorPlace}
use Rattle.tdf_bind_tables.specs.declared.actors.ActorRow.{ActorRow}
use Rattle.tdf_graph.specs.declared.actors.Actor.TheVariants as actor
use Rattle.tdf_lang_tree.specs.declared.blocks.PortKind.{PortKind}
use Rattle.tdf_lang_tree.specs.declared.blocks.PortKind.TheVariants.{DeIn, DeOut, In, Out}

pub record IsSinkPort (ports : List PortRow) (number : ℕ) : Type 0 where
  pub port : PortRow
  pub at : slice_get ports number ≡ Some port
  pub kind : port.kind ≡ DeOut

abbrev SinkHasPort : List PortRow → ActorPlace → Type 0
SinkHasPort ports a = a.kind ≡ actor.Sink → IsSinkPort ports a.port

in_either : {A : Type 0} (P : A → Type 0) (xs ys : List A) → ((n : ℕ) (x : A) → slice_get xs n ≡ Some x → P x) → ((n : ℕ) (x : A) → slice_get ys n ≡ Some x → P x)
    → (n : ℕ) (x : A) → slice_get (xs ++ ys) n ≡ Some x → P x
in_either P [] ys first second n x at = second n x at
in_either P (z ∷ xs) ys first second zero x at = first 0 x at
in_either P (z ∷ xs) ys first second (suc n) x at = in_either P xs ys (λ k y there. first (suc k) y there) second n x at

modules_no_sink : (ports : List PortRow) (first count n : ℕ) (a : ActorPlace) → slice_get (map module_actor (range_with_len first count)) n ≡ Some a → SinkHasPort ports a
modules_no_sink ports first zero n a at = absurd (cc)
modules_no_sink ports first (suc count) zero a at = λ sink. absurd (let same = same_Some (module_actor first) a at in let clash : actor.Module ≡ actor.Sink = ap (λ (x : ActorPlace). x.kind) same ∙ sink in cc)
modules_no_sink ports first (suc count) (suc n) a at = modules_no_sink ports (first + 1) count n a at

-- the actor of a port
one_port : (all : List PortRow) (number : ℕ) (port : PortRow) (kind : PortKind) (a : ActorPlace) → port.kind ≡ kind → slice_get all number ≡ Some port → actor_of_kind kind number port ≡ Some a → SinkHasPort all a
one_port all number port In a is at found = absurd (cc)
one_port all number port Out a is at found = absurd (cc)
one_port all number port DeIn a is at found = λ sink. absurd (let same = same_Some (record { kind = actor.Sampler; «module» = port.«module»; port = number }) a found in let clash : actor.Sampler ≡ actor.Sink = ap (λ (x : ActorPlace). x.kind) same ∙ sink in cc)
one_port all number port DeOut a is at found = λ sink. record {
  port = port;
  at = (let same = same_Some (record { kind = actor.Sink; «module» = port.«module»; port = number }) a found in ap (λ (x : ActorPlace). slice_get all x.port) (sym same) ∙ at);
  kind = is;
}

ports_sinks : (all : List PortRow) (from : ℕ) (ports : List PortRow) → ((k : ℕ) (p : PortRow) → slice_get ports k ≡ Some p → slice_get all (from + k) ≡ Some p)
    → (n : ℕ) (a : ActorPlace) → slice_get (filter_map (λ (p : ℕ × PortRow). port_actor p.0 p.1) (enumerate_from from ports)) n ≡ Some a → SinkHasPort all a
ports_sinks all from [] there n a at = absurd (cc)
ports_sinks all from (p ∷ ps) there n a at = go (port_actor from p) refl n at (ports_sinks all (from + 1) ps (λ k q here. (let f : from + 1 + k ≡ from + suc k = omega arith in ap (slice_get all) f ∙ there (suc k) q here)))
  where
    go : (o : Option ActorPlace) → port_actor from p ≡ o → (k : ℕ) → slice_get (cons_option o (filter_map (λ (q : ℕ × PortRow). port_actor q.0 q.1) (enumerate_from (from + 1) ps))) k ≡ Some a
        → ((m : ℕ) (b : ActorPlace) → slice_get (filter_map (λ (q : ℕ × PortRow). port_actor q.0 q.1) (enumerate_from (from + 1) ps)) m ≡ Some b → SinkHasPort all b) → SinkHasPort all a
    go None is k here rest = rest k a here
    go (Some b) is zero here rest = (let f : from ≡ from + 0 = omega arith in
        one_port all from p p.kind a refl (ap (slice_get all) f ∙ there 0 p refl) (is ∙ here))
    go (Some b) is (suc k) here rest = rest k a here

-- the port of a sink
pub sink_port : (modules : ℕ) (ports : List PortRow) (rows : List ActorRow) → map actor_place rows ≡ actor_places modules ports → (m : ℕ) (row : ActorRow) → slice_get rows m ≡ Some row → row.kind ≡ actor.Sink → IsSinkPort ports row.port
sink_port modules ports rows places m row at sink =
    in_either (SinkHasPort ports) (map module_actor (range_with_len 0 modules)) (filter_map (λ (p : ℕ × PortRow). port_actor p.0 p.1) (enumerate_from 0 ports))
    (λ n a there. modules_no_sink ports 0 modules n a there)
    (λ n a there. ports_sinks ports 0 ports (λ k p here. (let f : 0 + k ≡ k = omega arith in ap (slice_get ports) f ∙ here)) n a there)
    m (actor_place row) (ap (λ (l : List ActorPlace). slice_get l m) (sym places) ∙ slice_get-map actor_place rows m ∙ ap (option_map actor_place) at) sink
