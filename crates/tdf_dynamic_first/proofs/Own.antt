-- The table of a cluster by the numbers of its actors, and the ports of a module by their group.
use Rattle.std.proofs.Common.{◌≡◌, ◌∙◌, ℕ, zero, suc, ◌+◌, ◌<◌, ◌≤◌, ◌⊎◌, inl, inr, List, [], ◌∷◌, ◌++◌, Option, Some, None, length, map, take, refl, sym, ap, subst, arith}
use Rattle.std.proofs.Math.ListN.{get_or}
use Rattle.std.proofs.lemmas.Bool.{cases_eq, eq-eqb, ne_eqb}
use Rattle.std.proofs.lemmas.List.{get_or-map, length-map, take_more}
use Rattle.std.proofs.lemmas.List.Elements.{filter_map-append}
use Rattle.std.proofs.lemmas.Option.{get_or_from_slice_get, slice_get_within}
use Rattle.std.specs.List.{cons_option}
use Rattle.std.specs.Prelude.{Contains, filter_map, slice_get, slice_index, slice_index_or}
use Rattle.tdf_bind.specs.declared.model.Flat.{Flat}
use Rattle.tdf_bind_connections.specs.declared.modules.ModuleRow.{ModuleRow}
use Rattle.tdf_bind_connections.specs.declared.modules.PortRow.{PortRow}
use Rattle.tdf_bind_tables.specs.Actors.{cluster_of}
use Rattle.tdf_bind_tables.specs.FlatTables.{FlatTablesOf}
use Rattle.tdf_cluster_net.specs.Grouped.{AreGroups}
use Rattle.tdf_cluster_net.specs.Numbers.{AreNumbers, IsAmong, Rise}
use Rattle.tdf_cluster_net.specs.Own.{IsActorInCluster}
use Rattle.tdf_cluster_plans.proofs.Api.{in_count}
use Rattle.tdf_cluster_plans.specs.Groups.{AreTableGroups, TableGroupsOf}
use Rattle.tdf_dynamic_first.proofs.Picking.{filtered_all, filtered_same, made_all, made_by}
use Rattle.tdf_dynamic_first.specs.Text.{attrs_if, first_table}
use Rattle.tdf_dynamic_first.specs.machine.Placed.{ArePortsByModule, attrs_by, attrs_of, own_rows}
use Rattle.tdf_dynamic_plans.proofs.Api.{modules_few}
use Rattle.tdf_dynamic_plans.specs.Attributes.{clusters_of, number_if, ports_of_module}
use Rattle.tdf_dynamic_plans.specs.Rates.{IsWired}

-- the table of a cluster
module _ (flat : Flat) (cluster : ℕ) where
  in_cluster : (n : ℕ) → slice_index (clusters_of flat.tables) n ≡ cluster → (o : Option ModuleRow) → attrs_by flat n o ≡ made_by (attrs_if flat cluster) n o
  in_cluster n inside None = refl
  in_cluster n inside (Some row) = rw (eq-eqb _ _ inside)

  other : (n : ℕ) (row : ModuleRow) → (slice_index (clusters_of flat.tables) n ≡ cluster → ⊥) → attrs_if flat cluster n row ≡ None
  other n row apart = rw (ne_eqb _ _ apart)

  rows_own : (actors : List ℕ) → length flat.tables.modules ≤ length flat.tables.actors
      → AreNumbers (length flat.tables.actors) (IsActorInCluster (clusters_of flat.tables) cluster) actors → own_rows flat actors ≡ first_table flat cluster
  unfolding first_table
  rows_own actors few are =
      filtered_same (attrs_of flat) (λ n. made_by (attrs_if flat cluster) n (slice_get flat.tables.modules n)) actors
      (λ i inside. in_cluster (get_or actors i 0) (are.meant i inside) (slice_get flat.tables.modules (get_or actors i 0)))
      ∙ made_all (attrs_if flat cluster) flat.tables.modules actors are.rising (λ n row is. meant n row is (cases_eq (slice_index (clusters_of flat.tables) n) cluster))
    where
      meant : (n : ℕ) (row : ModuleRow) → slice_get flat.tables.modules n ≡ Some row
          → (slice_index (clusters_of flat.tables) n ≡ cluster) ⊎ (slice_index (clusters_of flat.tables) n ≡ cluster → ⊥) → (attrs_if flat cluster n row ≡ None) ⊎ IsAmong actors n
      meant n row is (inl inside) = inr (are.all n (let w = slice_get_within flat.tables.modules n row is in omega (arith, w, few)) inside)
      meant n row is (inr apart) = inl (other n row apart)

-- the actors of a cluster by the groups of the model
pub own_is : (flat : Flat) (cluster : ℕ) (groups : TableGroupsOf) (list : List ℕ) → IsWired flat.tables → Contains (clusters_of flat.tables) cluster → AreTableGroups flat.tables groups
    → list ≡ slice_index_or groups.actors cluster [] → own_rows flat list ≡ first_table flat cluster
own_is flat cluster groups list wired has are same =
    rows_own flat cluster list (modules_few flat.tables wired)
    (subst (AreNumbers (length flat.tables.actors) (IsActorInCluster (clusters_of flat.tables) cluster)) (sym same)
    (subst (λ n. AreNumbers n (IsActorInCluster (clusters_of flat.tables) cluster) (slice_index_or groups.actors cluster [])) (length-map flat.tables.actors cluster_of)
    (are.actors.each cluster (in_count (clusters_of flat.tables) cluster are.count has are.all))))

-- the ports of a module
module _ (ports : List PortRow) (m : ℕ) where
  not_its : (n : ℕ) (p : PortRow) → (p.«module» ≡ m → ⊥) → number_if m n p ≡ None
  not_its n p apart = rw (ne_eqb _ _ apart)

  ports_own : (numbers : List ℕ) → Rise numbers → ((i : ℕ) → i < length numbers → (p : PortRow) × (slice_get ports (get_or numbers i 0) ≡ Some p) × (p.«module» ≡ m))
      → ((n : ℕ) (p : PortRow) → slice_get ports n ≡ Some p → p.«module» ≡ m → IsAmong numbers n) → numbers ≡ ports_of_module ports m
  ports_own numbers rise each all =
      sym (filtered_all (λ n. made_by (number_if m) n (slice_get ports n)) numbers (λ i inside. itself (get_or numbers i 0) (each i inside)))
      ∙ made_all (number_if m) ports numbers rise (λ n p is. meant n p is (cases_eq p.«module» m))
    where
      itself : (n : ℕ) → (p : PortRow) × (slice_get ports n ≡ Some p) × (p.«module» ≡ m) → made_by (number_if m) n (slice_get ports n) ≡ Some n
      itself n found = ap (made_by (number_if m) n) found.1 ∙ its n found.0 found.2
        where
          its : (n : ℕ) (p : PortRow) → p.«module» ≡ m → number_if m n p ≡ Some n
          its n p same = rw (eq-eqb _ _ same)

      meant : (n : ℕ) (p : PortRow) → slice_get ports n ≡ Some p → (p.«module» ≡ m) ⊎ (p.«module» ≡ m → ⊥) → (number_if m n p ≡ None) ⊎ IsAmong numbers n
      meant n p is (inl same) = inr (all n p is same)
      meant n p is (inr apart) = inl (not_its n p apart)

-- what stands at a number of a group
group_at : (f : PortRow → ℕ) (m : ℕ) (ports : List PortRow) (n : ℕ) → n < length ports → slice_index (map f ports) n ≡ m → (p : PortRow) × (slice_get ports n ≡ Some p) × (f p ≡ m)
group_at f m [] n less is = absurd (omega (arith, less))
group_at f m (p ∷ ports) zero less is = (p, refl, is)
group_at f m (p ∷ ports) (suc n) less is = group_at f m ports n (omega (arith, less)) is

-- a group of ports by their module
module _ (ports : List PortRow) (m : ℕ) where
  group_is : (list : List ℕ) → AreNumbers (length (map (λ (port : PortRow). port.«module») ports)) (λ n. slice_index (map (λ (port : PortRow). port.«module») ports) n ≡ m) list
      → list ≡ ports_of_module ports m
  group_is list are = ports_own ports m list are.rising each all
    where
      long : length (map (λ (port : PortRow). port.«module») ports) ≡ length ports
      long = length-map ports (λ (port : PortRow). port.«module»)

      each : (i : ℕ) → i < length list → (p : PortRow) × (slice_get ports (get_or list i 0) ≡ Some p) × (p.«module» ≡ m)
      each i inside =
          let w = are.within i inside in
          let l = long in
          group_at (λ (port : PortRow). port.«module») m ports (get_or list i 0) (omega (arith, w, l)) (are.meant i inside)

      all : (n : ℕ) (p : PortRow) → slice_get ports n ≡ Some p → p.«module» ≡ m → IsAmong list n
      all n p is same =
          let w = slice_get_within ports n p is in
          let l = long in
          are.all n (omega (arith, w, l)) (get_or-map (λ (port : PortRow). port.«module») ports n p 0 w ∙ ap (λ (port : PortRow). port.«module») (get_or_from_slice_get ports n p p is) ∙ same)

-- by the groups of the model
pub by_groups : (tables : FlatTablesOf) (groups : List (List ℕ)) → length tables.modules ≤ length tables.actors
    → AreGroups (length tables.actors) (map (λ (port : PortRow). port.«module») tables.ports) groups → ArePortsByModule tables.ports (length tables.modules) groups
by_groups tables groups few are = record {
  long = let l = are.long in omega (arith, l, few);
  each = λ m less. group_is tables.ports m (slice_index_or groups m []) (are.each m (omega (arith, less, few)));
}

-- one actor more
pub rows_next : {B : Type 0} (f : ℕ → Option B) (xs : List ℕ) (i x : ℕ) (rows next : List B) → i < length xs → rows ≡ filter_map f (take i xs) → x ≡ get_or xs i 0
    → next ≡ rows ++ cons_option (f x) [] → next ≡ filter_map f (take (i + 1) xs)
rows_next f xs i x rows next within is x_is next_is =
    next_is ∙ ap (λ l. l ++ cons_option (f x) []) is ∙ ap (λ n. filter_map f (take i xs) ++ cons_option (f n) []) x_is
    ∙ sym (ap (filter_map f) (take_more xs i 0 within) ∙ filter_map-append f (take i xs) (get_or xs i 0 ∷ []))
