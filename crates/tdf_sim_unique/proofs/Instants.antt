-- An instant does the same by compiled bodies of one text.
use Rattle.std.proofs.Common.{◌≡◌, ℕ, ◌+◌, Option, Some, None, if◌then◌else◌, length, nat_eq, slice_get, unwrap_or, refl, ap}
use Rattle.std.specs.Prelude.{◌++◌, ◌∷◌, []}
use Rattle.tdf_sim_unique.proofs.Bodies.{net_same, with_bodies}
use Rattle.tdf_sim_unique.proofs.Checks.{AreSame}
use Rattle.tdf_bind_tables.specs.declared.actors.ActorRow.{ActorRow}
use Rattle.tdf_expr.specs.declared.checked.Checked.{Checked}
use Rattle.tdf_fixed.specs.declared.raw.Raw.{Raw}
use Rattle.tdf_bind.specs.declared.model.Flat.{Flat}
use Rattle.tdf_streams.specs.Grounds.{firings}
use Rattle.tdf_streams.specs.Streams.{known, place}
use Rattle.tdf_graph.specs.declared.actors.Actor.{Actor}
use Rattle.tdf_graph.specs.declared.actors.Actor.TheVariants as actor
use Rattle.tdf_sim_history.specs.Instant.{activations, actor_of_entry, at_begin, boundary, edge_read_from, engine, events_of, fired, fired_as, firing_of, instant, is_due, is_entry_due, next_entry, periods_of, plan_length, run_in, sample_taken, signal_of, stepped, with_cluster}
use Rattle.tdf_sim_history.specs.World.{ClusterAt, Rules, World}
use Rattle.tdf_sim_history.specs.History.{Going, Past, and_then, history, turns_to}
use Rattle.tdf_streams.specs.Cluster.{zero_sample}
use Rattle.tdf_lang_tree.specs.Pure.{PureTree}

module _ (model : PureTree) (a : Flat) (y : Checked) (same : AreSame a.checked y) where
  taken_same : (cluster : ℕ) (c : ClusterAt) (m : ℕ) → sample_taken model a cluster c m ≡ sample_taken model (with_bodies a y) cluster c m
  taken_same cluster c m = λ i. unwrap_or (place (net_same model a y same cluster c.begun i) (periods_of c)
      (known (net_same model a y same cluster c.begun i) (run_in c) (firings (periods_of c)))
      (edge_read_from a.tables m 0 (length a.tables.edges)) (activations c m)) zero_sample

  module _ {K : Type 0} (rules : Rules K) where
    fired_as_same : (n m : ℕ) (kind : Actor) (c : ClusterAt) (w : World K) → fired_as model a rules n m kind c w ≡ fired_as model (with_bodies a y) rules n m kind c w
    fired_as_same n m actor.Module c w = refl
    fired_as_same n m actor.Sampler c w = refl
    fired_as_same n m actor.Sink c w = ap (λ (value : Raw). record (with_cluster n (stepped c) w) {
      written = w.written ++ record { signal = signal_of a.tables m; value = value } ∷ [];
    }) (taken_same (n + 1) c m)

    fired_same : (n m : ℕ) (o : Option ActorRow) (c : ClusterAt) (w : World K) → fired model a rules n m o c w ≡ fired model (with_bodies a y) rules n m o c w
    fired_same n m None c w = refl
    fired_same n m (Some row) c w = fired_as_same n m row.kind c w

    firing_same : (time n : ℕ) (o : Option ClusterAt) (w : World K) → firing_of model a rules time n o w ≡ firing_of model (with_bodies a y) rules time n o w
    firing_same time n None w = refl
    firing_same time n (Some c) w = ap (λ (after : World K). if is_entry_due time c (next_entry c) then (if nat_eq w.left 0 then Past w else Going after) else Going w)
        (fired_same n (actor_of_entry (next_entry c)) (slice_get a.tables.actors (actor_of_entry (next_entry c))) c w)

    pub instant_same : (time : ℕ) (w : World K) → instant model a rules time w ≡ instant model (with_bodies a y) rules time w
    instant_same time w = λ i. and_then
        (and_then (turns_to (boundary a.tables time) (length w.clusters) (at_begin w))
        (λ v. turns_to (λ n u. turns_to (λ k x. firing_same time n (slice_get x.clusters n) x i) (plan_length (slice_get u.clusters n)) u) (length w.clusters) v))
        (events_of rules time)

    pub history_same : (start : World K) (time : ℕ) → history (engine model a rules) 0 start time ≡ history (engine model (with_bodies a y) rules) 0 start time
    history_same start time = λ i. history (record { is_due = is_due rules; instant = λ at w. instant_same at w i }) 0 start time
