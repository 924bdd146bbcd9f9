-- Actors and edges of a cluster, by its own numbers and by those of the whole net.
use Rattle.std.proofs.Common.{◌≡◌, ◌∙◌, ℕ, ◌<◌, ◌⊎◌, inl, inr, List, Some, length, refl, sym, ap, subst, arith}
use Rattle.std.proofs.Math.ListN.{get_or}
use Rattle.std.proofs.lemmas.Bool.{cases_order}
use Rattle.std.proofs.lemmas.List.Elements.{All-contains}
use Rattle.std.proofs.lemmas.Option.{same_Some, slice_get-get_or, slice_get_within, slice_get_read, get_or_from_slice_get}
use Rattle.std.specs.Prelude.{slice_get, slice_index, Contains}
use Rattle.tdf_cluster_net.specs.Laws.{IsClusterNet}
use Rattle.tdf_cluster_net.specs.Numbers.{AreNumbers}
use Rattle.tdf_cluster_net.specs.Own.{OwnOf, whole_edge}
use Rattle.tdf_graph.specs.Clusters.{Joined}
use Rattle.tdf_graph.specs.Ranges.{IsEdge}
use Rattle.tdf_graph.specs.declared.actors.Actor.{Actor}
use Rattle.tdf_graph.specs.declared.actors.Edge.{Edge}
use Rattle.tdf_graph.specs.declared.actors.Port.{Port}

pub contains_at : {X : Type 0} (xs : List X) (x : X) → Contains xs x → (n : ℕ) × (slice_get xs n ≡ Some x)
contains_at xs x found = (found.0, slice_get_read xs (length xs) found.0 x refl found.1 (sym found.2))

pub at_contains : {X : Type 0} (xs : List X) (n : ℕ) (x : X) → slice_get xs n ≡ Some x → Contains xs x
at_contains xs n x is = (n, slice_get_within xs n x is, get_or_from_slice_get xs n x x is)

-- a number stands once, and larger numbers stand later
module _ (numbers : List ℕ) (count : ℕ) (IsMeant : ℕ → Type 0) (are : AreNumbers count IsMeant numbers) where
  pub number_once : (i j : ℕ) → i < length numbers → j < length numbers
      → slice_index numbers i ≡ slice_index numbers j → i ≡ j
  number_once i j i_in j_in same = go (cases_order i j)
    where
      go : (i ≡ j) ⊎ ((i < j) ⊎ (j < i)) → i ≡ j
      go (inl e) = e
      go (inr (inl less)) = absurd (let r = are.rising i j less j_in in omega (arith, r, same))
      go (inr (inr more)) = absurd (let r = are.rising j i more i_in in omega (arith, r, same))

  pub number_less : (i j : ℕ) → i < length numbers → j < length numbers
      → slice_index numbers i < slice_index numbers j → i < j
  number_less i j i_in j_in less = go (cases_order i j)
    where
      go : (i ≡ j) ⊎ ((i < j) ⊎ (j < i)) → i < j
      go (inl e) = absurd (let s = ap (slice_index numbers) e in omega (arith, s, less))
      go (inr (inl before)) = before
      go (inr (inr more)) = absurd (let r = are.rising j i more i_in in omega (arith, r, less))

-- the edge of the own net that has a number in the whole net
pub record HasOwnEdge (own : OwnOf) (k : ℕ) (e : Edge) : Type 0 where
  pub place : ℕ
  pub edge : Edge
  pub is : slice_get own.edges place ≡ Some edge
  pub number : slice_index own.edge_numbers place ≡ k
  pub same : whole_edge own.actor_numbers edge ≡ e

module _ {actors : List Actor} {edges : List Edge} {ports : List Port} {clusters : List ℕ} {cluster : ℕ} {own : OwnOf}
    (net : IsClusterNet actors edges ports clusters cluster own) where
  -- an edge joins actors of one cluster
  pub one_cluster : (e : Edge) → Contains edges e → slice_index clusters e.writer ≡ slice_index clusters e.reader
  one_cluster e there = net.clusters_are.joined e.writer e.reader fits.writer fits.reader (Joined.goes e there (Joined.stays e.reader))
    where
      fits : IsEdge (length actors) e
      fits = All-contains (IsEdge (length actors)) edges e net.edges_fit there

  pub edge_down : (k : ℕ) (e : Edge) → slice_get edges k ≡ Some e → slice_index clusters e.writer ≡ cluster → HasOwnEdge own k e
  edge_down k e is inside = record {
    place = place;
    edge = edge;
    is = edge_is;
    number = found.2;
    same = same_Some (whole_edge own.actor_numbers edge) e (sym (net.own_is.edges_are place edge edge_is) ∙ ap (slice_get edges) found.2 ∙ is);
  }
    where
      found : (j : ℕ) × (j < length own.edge_numbers) × (slice_index own.edge_numbers j ≡ k)
      found = net.own_is.edge_numbers.all k (slice_get_within edges k e is) (e, is, inside)

      place : ℕ
      place = found.0

      edge : Edge
      edge = get_or own.edges place e

      edge_is : slice_get own.edges place ≡ Some edge
      edge_is = slice_get-get_or own.edges place e (subst (λ n. place < n) (sym net.own_is.edges_long) found.1)

  pub edge_up : (e : Edge) → Contains own.edges e → Contains edges (whole_edge own.actor_numbers e)
  edge_up e there =
      let at = contains_at own.edges e there in
      at_contains edges (slice_index own.edge_numbers at.0) (whole_edge own.actor_numbers e) (net.own_is.edges_are at.0 e at.1)
