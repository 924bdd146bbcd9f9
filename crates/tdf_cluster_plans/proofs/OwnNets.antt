-- What is found in the net of a cluster is what the whole net has.
use Rattle.std.proofs.Common.{◌≡◌, ◌≢◌, ◌∙◌, ℕ, ◌<◌, ◌≤◌, ◌⊎◌, inl, inr, List, Option, Some, None, length, refl, sym, ap, subst, arith}
use Rattle.std.proofs.Math.ListN.{get_or}
use Rattle.std.proofs.lemmas.Bool.{cases_eq, cases_lt}
use Rattle.std.proofs.lemmas.List.{get_or_past, length-map}
use Rattle.std.proofs.lemmas.List.Elements.{All-from_get_or, All-get_or}
use Rattle.std.proofs.lemmas.Option.{slice_get_within}
use Rattle.std.specs.Prelude.{All, Err, slice_index}
use Rattle.tdf_balance.specs.Balance.{HasCounts, IsRatesFault, IsSizeFault}
use Rattle.tdf_balance.specs.declared.err.BalanceErr.{BalanceErr}
use Rattle.tdf_balance.specs.declared.err.BalanceErr.TheVariants as balance
use Rattle.tdf_base.specs.Limits.{most_firings}
use Rattle.tdf_bind_tables.specs.FlatTables.{FlatTablesOf}
use Rattle.tdf_bind_tables.specs.declared.actors.ActorRow.{ActorRow}
use Rattle.tdf_cluster_net.proofs.Api.{own_counts, own_rates_fault, own_size_fault}
use Rattle.tdf_cluster_net.specs.Laws.{own_clusters}
use Rattle.tdf_cluster_net.specs.Numbers.{AreSpread, IsAmong}
use Rattle.tdf_cluster_net.specs.Own.{IsAssignThere, OwnOf}
use Rattle.tdf_cluster_net.specs.Whole.{whole_balance}
use Rattle.tdf_dynamic_plans.proofs.Api.{Counted, each_few, none_some}
use Rattle.tdf_dynamic_plans.specs.Attributes.{AttrsOf, clusters_of}
use Rattle.tdf_dynamic_plans.specs.Faults.{HasCountsOf, HasStepsOf, IsCountsFault, IsRefusal, IsToldFault, balance_fault}
use Rattle.tdf_cluster_plans.specs.Own.{IsNetOfCluster}
use Rattle.tdf_dynamic_plans.specs.Rates.{NetOf, net_of, rated_edge, net_ports}
use Rattle.tdf_dynamic_plans.specs.declared.err.ChangeErr.{ChangeErr}
use Rattle.tdf_dynamic_plans.specs.declared.err.ChangeErr.TheVariants.{Refused, Memory}
use Rattle.tdf_timestep.specs.Period.{IsAssigned, IsPortOf}
use Rattle.tdf_timestep.specs.declared.assign.Assign.{Assign}
use Rattle.tdf_timestep.specs.declared.assign.Steps.{Steps}

pub actors_long : (tables : FlatTablesOf) (table : List AttrsOf) → length (net_of tables table).actors ≡ length tables.actors
unfolding net_of
actors_long tables table = length-map tables.actors (λ (row : ActorRow). row.kind)

pub edges_long : (tables : FlatTablesOf) (table : List AttrsOf) → length (net_of tables table).edges ≡ length tables.edges
unfolding net_of
edges_long tables table = length-map tables.edges (rated_edge tables.ports (net_ports tables table))

pub net_ports_are : (tables : FlatTablesOf) (table : List AttrsOf) → (net_of tables table).ports ≡ net_ports tables table
unfolding net_of
net_ports_are tables table = refl

module _ (tables : FlatTablesOf) (cluster : ℕ) (table : List AttrsOf) (own : OwnOf) (net : IsNetOfCluster tables cluster table own) where
  abbrev whole : NetOf
  whole = net_of tables table

  -- counts
  pub counts_up : (counts all : List ℕ) → AreSpread own.actor_numbers (length tables.actors) counts all → HasCounts own.edges (own_clusters own) 1 counts → HasCountsOf tables whole cluster all
  counts_up counts all spread has = own_counts whole.actors whole.edges whole.ports (clusters_of tables) cluster own net counts all
      (subst (λ n. AreSpread own.actor_numbers n counts all) (sym (actors_long tables table)) spread) has

  module _ (e : Counted) (rates : (k : ℕ) → e ≡ Err (balance.Rates k) → IsRatesFault own.edges (own_clusters own) 1 k) (size : e ≡ Err balance.TooLarge → IsSizeFault own.edges (own_clusters own) 1) where
    pub own_counts_refused : (why : BalanceErr) (told : ChangeErr) → e ≡ Err why → IsToldFault (balance_fault tables table (whole_balance own why)) told → IsRefusal (IsCountsFault tables whole cluster table) told
    own_counts_refused why Memory is told = tt
    own_counts_refused (balance.Rates k) (Refused fault) is told =
        record { why = balance.Rates (slice_index own.edge_numbers k); is = own_rates_fault whole.actors whole.edges whole.ports (clusters_of tables) cluster own net k (rates k is); told = told }
    own_counts_refused balance.TooLarge (Refused fault) is told =
        record { why = balance.TooLarge; is = own_size_fault whole.actors whole.edges whole.ports (clusters_of tables) cluster own net (size is); told = told }
    own_counts_refused balance.Memory (Refused fault) is told = absurd (none_some told)

  -- values that are picked from a list of the whole net that is 0 elsewhere
  picked_from : (all values : List ℕ) → length all ≡ length whole.actors → ((m : ℕ) → slice_index (clusters_of tables) m ≢ cluster → slice_index all m ≡ 0)
      → ((i : ℕ) → i < length own.actor_numbers → slice_index values i ≡ slice_index all (slice_index own.actor_numbers i)) → AreSpread own.actor_numbers (length whole.actors) values all
  picked_from all values long outside each = record {
    long = long;
    at = λ i less. sym (each i less);
    elsewhere = λ m other. go m other (cases_eq (slice_index (clusters_of tables) m) cluster) (cases_lt m (length whole.actors));
  }
    where
      go : (m : ℕ) → ((i : ℕ) → i < length own.actor_numbers → slice_index own.actor_numbers i ≢ m) → (slice_index (clusters_of tables) m ≡ cluster) ⊎ (slice_index (clusters_of tables) m ≡ cluster → ⊥)
          → (m < length whole.actors) ⊎ (length whole.actors ≤ m) → slice_index all m ≡ 0
      go m other (inr apart) h = outside m apart
      go m other (inl same) (inl less) = let t = net.own_is.actor_numbers.all m less same in absurd (other t.0 t.1 t.2)
      go m other (inl same) (inr past) = get_or_past all m 0 (subst (λ n. n ≤ m) (sym long) past)

  counts_long : (all : List ℕ) → HasCountsOf tables whole cluster all → length all ≡ length whole.actors
  counts_long all has = has.counts_are.long ∙ net.clusters_are.long

  pub counts_picked : (all values : List ℕ) → HasCountsOf tables whole cluster all
      → ((i : ℕ) → i < length own.actor_numbers → slice_index values i ≡ slice_index all (slice_index own.actor_numbers i)) → AreSpread own.actor_numbers (length whole.actors) values all
  counts_picked all values has each = picked_from all values (counts_long all has) has.counts_are.outside each

  pub steps_picked : (counts : List ℕ) (steps : Steps) (values : List ℕ) → HasCountsOf tables whole cluster counts → HasStepsOf whole table counts steps
      → ((i : ℕ) → i < length own.actor_numbers → slice_index values i ≡ slice_index steps.actor_steps.items (slice_index own.actor_numbers i))
      → AreSpread own.actor_numbers (length whole.actors) values steps.actor_steps.items
  steps_picked counts steps values has are each = picked_from steps.actor_steps.items values (are.long ∙ counts_long counts has) (λ m apart. are.none m (has.counts_are.outside m apart)) each

  pub below_actors : (n : ℕ) → n ≡ length tables.actors → (i : ℕ) → i < length own.actor_numbers → slice_index own.actor_numbers i < n
  below_actors n same i less = let w = net.own_is.actor_numbers.within i less in let l = actors_long tables table in omega (arith, w, l, same)

  pub below_counts : (all : List ℕ) → HasCountsOf tables whole cluster all → (i : ℕ) → i < length own.actor_numbers → slice_index own.actor_numbers i < length all
  below_counts all has i less = let w = net.own_is.actor_numbers.within i less in let l = counts_long all has in omega (arith, w, l)

  pub few_picked : (all values : List ℕ) → HasCountsOf tables whole cluster all → length values ≡ length own.actor_numbers
      → ((i : ℕ) → i < length own.actor_numbers → slice_index values i ≡ slice_index all (slice_index own.actor_numbers i)) → All (λ q. q ≤ most_firings) values
  few_picked all values has long each = All-from_get_or (λ q. q ≤ most_firings) values 0 (λ i less.
      let inside : i < length own.actor_numbers = omega (arith, less, long) in
      subst (λ q. q ≤ most_firings) (sym (each i inside)) (All-get_or (λ q. q ≤ most_firings) all (slice_index own.actor_numbers i) 0 (below_counts all has i inside) (each_few all has.few)))

  -- assignments
  module _ (all : List ℕ) (has : HasCountsOf tables whole cluster all) where
    actor_there : (m : ℕ) → 0 < slice_index all m → IsAmong own.actor_numbers m
    actor_there m some = go (cases_eq (slice_index (clusters_of tables) m) cluster) (cases_lt m (length whole.actors))
      where
        go : (slice_index (clusters_of tables) m ≡ cluster) ⊎ (slice_index (clusters_of tables) m ≡ cluster → ⊥) → (m < length whole.actors) ⊎ (length whole.actors ≤ m) → IsAmong own.actor_numbers m
        go (inr apart) h = absurd (let z = has.counts_are.outside m apart in omega (arith, some, z))
        go (inl same) (inl less) = net.own_is.actor_numbers.all m less same
        go (inl same) (inr past) = absurd (let z = get_or_past all m 0 (subst (λ n. n ≤ m) (sym (counts_long all has)) past) in omega (arith, some, z))

    in_cluster : (m : ℕ) → 0 < slice_index all m → slice_index (clusters_of tables) m ≡ cluster
    in_cluster m some = let t = actor_there m some in subst (λ k. slice_index (clusters_of tables) k ≡ cluster) t.2 (net.own_is.actor_numbers.meant t.0 t.1)

    port_there : (actor : ℕ) (port : Option ℕ) → 0 < slice_index all actor → IsPortOf whole.ports actor port → (n : ℕ) → port ≡ Some n → IsAmong own.port_numbers n
    port_there actor None some is n same = absurd (none_some same)
    port_there actor (Some p) some is n same =
        subst (IsAmong own.port_numbers) (some_is same)
        (net.own_is.port_numbers.all p (slice_get_within whole.ports p is.0 is.1) (is.0, is.1, ap (slice_index (clusters_of tables)) is.2 ∙ in_cluster actor some))
      where
        some_is : {x y : ℕ} → Some x ≡ Some y → x ≡ y
        some_is e = grind (arith, e)

    pub assign_there : (assigned : List Assign) → All (IsAssigned whole.ports all) assigned → All (IsAssignThere own) assigned
    assign_there assigned are = All-from_get_or (IsAssignThere own) assigned no_assign (λ i less. there (get_or assigned i no_assign) (All-get_or (IsAssigned whole.ports all) assigned i no_assign less are))
      where
        no_assign : Assign
        no_assign = record { actor = 0; port = None; step = 0 }

        there : (a : Assign) → IsAssigned whole.ports all a → IsAssignThere own a
        there a is = record { actor = actor_there a.actor is.spot.fires; port = port_there a.actor a.port is.spot.fires is.spot.own }
