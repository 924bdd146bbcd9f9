-- The actors of a cluster by their numbers.
use Rattle.std.proofs.Common.{◌≡◌, ◌≢◌, ◌∙◌, ℕ, ◌<◌, ◌≤◌, List, [], ◌∷◌, Some, length, refl, sym, ap, subst, arith}
use Rattle.std.proofs.lemmas.List.{get_or_default, length-map}
use Rattle.std.proofs.lemmas.Option.{slice_get_within}
use Rattle.std.specs.Prelude.{All, Contains, slice_get, slice_index, slice_index_or}
use Rattle.tdf_bind.specs.declared.model.Flat.{Flat}
use Rattle.tdf_bind_tables.specs.Actors.{cluster_of}
use Rattle.tdf_bind_tables.specs.FlatTables.{FlatTablesOf}
use Rattle.tdf_bind_tables.specs.declared.actors.ActorRow.{ActorRow}
use Rattle.tdf_cluster_net.specs.Numbers.{AreNumbers}
use Rattle.tdf_cluster_plans.specs.Groups.{AreTableGroups, TableGroupsOf}
use Rattle.tdf_dynamic_first.specs.declared.first.First.{First}
use Rattle.tdf_dynamic_plans.proofs.Api.{modules_few}
use Rattle.tdf_dynamic_plans.specs.Assignments.{assignments}
use Rattle.tdf_dynamic_plans.specs.Attributes.{AttrsOf, IsOfCluster, clusters_of}
use Rattle.tdf_exec.proofs.Rows.{index_at}
use Rattle.tdf_exec.specs.machine.Laid.{IsLaid}
use Rattle.tdf_exec_parts.proofs.Api.{in_groups}
use Rattle.tdf_exec_parts.specs.Below.{IsTableFirst}
use Rattle.tdf_places.proofs.Api.{rising_apart}
use Rattle.tdf_places.specs.Places.{AreDistinct}
use Rattle.tdf_streams.proofs.Api.{get_inside, is_wired}

-- ---- a cluster that has a plan is one of the model: it has a module, to which a timestep is assigned

by_rows : (tables : FlatTablesOf) (cluster : ℕ) → length tables.modules ≤ length tables.actors → (table : List AttrsOf) → 0 < length (assignments table) → All (IsOfCluster tables cluster) table
    → Contains (clusters_of tables) cluster
unfolding assignments
by_rows tables cluster few [] some own = absurd (let none : length (assignments []) ≡ 0 = refl in omega (arith, some, none))
by_rows tables cluster few (a ∷ table) some own =
    let is : IsOfCluster tables cluster a = own 0 a (omega arith) in
    let below : a.number < length (clusters_of tables) = (let m = is.is_module in let l = length-map tables.actors cluster_of in omega (arith, m, l, few)) in
    (a.number, below, get_or_default (clusters_of tables) a.number cluster 0 below ∙ is.inside)

pub is_there : (flat : Flat) (cluster : ℕ) (first : First) → IsLaid flat → IsTableFirst flat cluster first.attrs.rows first → Contains (clusters_of flat.tables) cluster
is_there flat cluster first laid is =
    by_rows flat.tables cluster (modules_few flat.tables (is_wired flat laid.limits)) first.attrs.rows is.plan_is.timing.steps_are.is.agreed.some is.attributes.own

-- ---- the numbers of its actors

module _ (tables : FlatTablesOf) (groups : TableGroupsOf) (cluster : ℕ) (has : Contains (clusters_of tables) cluster) (are : AreTableGroups tables groups) where
  pub in_actors : cluster < length groups.actors
  in_actors = subst (λ n. cluster < n) (sym are.actors.long) (in_groups tables groups cluster has are)

  pub actors_here : (numbers : List ℕ) → numbers ≡ slice_index_or groups.actors cluster [] → AreNumbers (length (clusters_of tables)) (λ m. slice_index (clusters_of tables) m ≡ cluster) numbers
  actors_here numbers same =
      subst (AreNumbers (length (clusters_of tables)) (λ m. slice_index (clusters_of tables) m ≡ cluster)) (sym same) (are.actors.each cluster (in_groups tables groups cluster has are))

module _ (tables : FlatTablesOf) (cluster : ℕ) (numbers : List ℕ) (are : AreNumbers (length (clusters_of tables)) (λ m. slice_index (clusters_of tables) m ≡ cluster) numbers) where
  pub number_below : (i : ℕ) → i < length numbers → slice_index numbers i < length tables.actors
  number_below i less = subst (λ n. slice_index numbers i < n) (length-map tables.actors cluster_of) (are.within i less)

  -- they are different
  pub own_distinct : AreDistinct (length tables.actors) numbers
  own_distinct = rising_apart (length tables.actors) numbers number_below are.rising

  -- the row of such an actor
  pub own_row : (i : ℕ) → i < length numbers → (row : ActorRow) × (slice_get tables.actors (slice_index numbers i) ≡ Some row) × (row.cluster ≡ cluster)
  own_row i less =
      let row = get_inside tables.actors (slice_index numbers i) (number_below i less) in
      (row.0, row.1, sym (index_at cluster_of tables.actors (slice_index numbers i) row.0 row.1) ∙ are.meant i less)

  -- an actor of the cluster is among them
  pub own_among : (m : ℕ) (row : ActorRow) → slice_get tables.actors m ≡ Some row → row.cluster ≡ cluster → (i : ℕ) × (i < length numbers) × (slice_index numbers i ≡ m)
  own_among m row at own =
      are.all m (subst (λ n. m < n) (sym (length-map tables.actors cluster_of)) (slice_get_within tables.actors m row at)) (index_at cluster_of tables.actors m row at ∙ own)

  -- an actor of another cluster isn't
  pub none_other : (m : ℕ) (row : ActorRow) → slice_get tables.actors m ≡ Some row → row.cluster ≢ cluster → (i : ℕ) → i < length numbers → slice_index numbers i ≢ m
  none_other m row at apart i less same =
      apart (sym (index_at cluster_of tables.actors m row at) ∙ ap (slice_index (clusters_of tables)) (sym same) ∙ are.meant i less)
