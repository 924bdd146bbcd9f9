-- The net of a cluster as it is made, and its counts, as they are told.
use Rattle.std.proofs.Common.{◌≡◌, ◌∙◌, ℕ, List, length, replicate, sym, ap, subst}
use Rattle.std.specs.Prelude.{Contains, Err}
use Rattle.tdf_balance.specs.Balance.{HasCounts, IsRatesFault, IsSizeFault}
use Rattle.tdf_balance.specs.declared.err.BalanceErr.{BalanceErr}
use Rattle.tdf_balance.specs.declared.err.BalanceErr.TheVariants as balance
use Rattle.tdf_bind_tables.specs.FlatTables.{FlatTablesOf}
use Rattle.tdf_cluster_net.proofs.Api.{own_clusters_are}
use Rattle.tdf_cluster_net.specs.Laws.{IsClusterNet, own_clusters}
use Rattle.tdf_cluster_net.specs.Numbers.{AreSpread}
use Rattle.tdf_cluster_net.specs.Own.{IsOwnNet, OwnOf}
use Rattle.tdf_cluster_net.specs.Whole.{whole_balance}
use Rattle.tdf_cluster_plans.proofs.OwnNets.{counts_up, own_counts_refused}
use Rattle.tdf_dynamic_plans.proofs.Api.{Counted}
use Rattle.tdf_dynamic_plans.specs.Attributes.{AttrsOf, clusters_of}
use Rattle.tdf_dynamic_plans.specs.Faults.{HasCountsOf, IsCountsFault, IsRefusal, IsToldFault, balance_fault}
use Rattle.tdf_cluster_plans.specs.Own.{IsNetOfCluster}
use Rattle.tdf_dynamic_plans.specs.Rates.{NetOf, net_of, net_seen}
use Rattle.tdf_dynamic_plans.specs.declared.err.ChangeErr.{ChangeErr}
use Rattle.tdf_graph.specs.Clusters.{AreClusters}
use Rattle.tdf_graph.specs.Ranges.{IsGraphInRange}
use Rattle.tdf_graph.specs.declared.actors.Edge.{Edge}
use Rattle.tdf_graph.specs.declared.net.Net.{Net}

pub made_net : (tables : FlatTablesOf) (cluster : ℕ) (table : List AttrsOf) (net : Net) (count : ℕ) (numbers : List ℕ) (own : OwnOf) → net_seen net ≡ net_of tables table → numbers ≡ clusters_of tables
    → count ≡ length net.actors.items → AreClusters count net.edges.items numbers → Contains (clusters_of tables) cluster → IsGraphInRange count net.edges.items net.ports.items
    → IsOwnNet net.actors.items net.edges.items net.ports.items numbers cluster own → IsNetOfCluster tables cluster table own
made_net tables cluster table net count numbers own seen same long are has fit is =
    subst (λ (n : NetOf). IsClusterNet n.actors n.edges n.ports (clusters_of tables) cluster own) seen (record {
      own_is = subst (λ cs. IsOwnNet net.actors.items net.edges.items net.ports.items cs cluster own) same is;
      clusters_are = subst (λ cs. AreClusters (length net.actors.items) net.edges.items cs) same (subst (λ n. AreClusters n net.edges.items numbers) long are);
      has = has;
      edges_fit = (subst (λ n. IsGraphInRange n net.edges.items net.ports.items) long fit).edges_fit;
      ports_fit = (subst (λ n. IsGraphInRange n net.edges.items net.ports.items) long fit).ports_fit;
    })

module _ (tables : FlatTablesOf) (cluster : ℕ) (table : List AttrsOf) (own : OwnOf) (net : IsNetOfCluster tables cluster table own)
    (edges : List Edge) (same_edges : edges ≡ own.edges) (numbers : List ℕ) (count : ℕ) (are_ones : numbers ≡ replicate count 1) (long : count ≡ length own.actors) where
  ones_are : numbers ≡ own_clusters own
  ones_are = are_ones ∙ ap (λ n. replicate n 1) (long ∙ net.own_is.actors_long)

  pub clusters_told : (all : ℕ) → all ≡ length own.actors → AreClusters all edges numbers
  clusters_told all is = subst (λ n. AreClusters n edges numbers) (sym (is ∙ net.own_is.actors_long))
      (subst (λ (xs : List Edge). AreClusters (length own.actor_numbers) xs numbers) (sym same_edges)
      (subst (AreClusters (length own.actor_numbers) own.edges) (sym ones_are) (own_clusters_are net)))

  pub counts_told : (there counts all : List ℕ) (actors : ℕ) → actors ≡ length tables.actors → there ≡ counts → AreSpread own.actor_numbers actors there all → HasCounts edges numbers 1 counts
      → HasCountsOf tables (net_of tables table) cluster all
  counts_told there counts all actors is same spread has = counts_up tables cluster table own net counts all
      (subst (λ l. AreSpread own.actor_numbers (length tables.actors) l all) same (subst (λ n. AreSpread own.actor_numbers n there all) is spread))
      (subst (λ (xs : List Edge). HasCounts xs (own_clusters own) 1 counts) same_edges (subst (λ cs. HasCounts edges cs 1 counts) ones_are has))

  module _ (e : Counted) (rates : (k : ℕ) → e ≡ Err (balance.Rates k) → IsRatesFault edges numbers 1 k) (size : e ≡ Err balance.TooLarge → IsSizeFault edges numbers 1) where
    pub refused_told : (why found : BalanceErr) (told : ChangeErr) → e ≡ Err why → found ≡ whole_balance own why → IsToldFault (balance_fault tables table found) told → IsRefusal (IsCountsFault tables (net_of tables table) cluster table) told
    refused_told why found told is same h = own_counts_refused tables cluster table own net e
        (λ k at. subst (λ (xs : List Edge). IsRatesFault xs (own_clusters own) 1 k) same_edges (subst (λ cs. IsRatesFault edges cs 1 k) ones_are (rates k at)))
        (λ at. subst (λ (xs : List Edge). IsSizeFault xs (own_clusters own) 1) same_edges (subst (λ cs. IsSizeFault edges cs 1) ones_are (size at)))
        why told is (subst (λ w. IsToldFault (balance_fault tables table w) told) same h)
