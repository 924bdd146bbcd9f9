-- Two flat models of one tree have the same clusters, with the same faults and plans.
use Rattle.std.proofs.Common.{◌≡◌, ◌∙◌, ℕ, zero, suc, List, [], ◌∷◌, Option, Some, None, map, nat_eq, if◌then◌else◌, refl, sym, ap, subst}
use Rattle.std.specs.List.{cons_option, enumerate_from}
use Rattle.std.specs.Prelude.{slice_get, slice_index, filter_map}
use Rattle.tdf_base.specs.declared.faults.Fault.{Fault}
use Rattle.tdf_bind_tables.specs.FlatTables.{FlatTablesOf}
use Rattle.tdf_dynamic_plans.specs.Attributes.{AttrsOf, clusters_of, ports_of_module}
use Rattle.tdf_dynamic_plans.specs.Faults.{IsTableFault, IsTablePlan}
use Rattle.tdf_dynamic_plans.specs.Known.{AreTrueFor}
use Rattle.tdf_dynamic_first.specs.First.{IsFirstPlan, IsClusterFault}
use Rattle.tdf_dynamic_first.specs.Text.{attrs_if, first_table, port_step}
use Rattle.tdf_dynamic_first.specs.declared.first.First.{First}
use Rattle.tdf_expr.specs.Blocks.{PureBlock, blocks_of}
use Rattle.tdf_expr.specs.Checked.{IsCheckedOf}
use Rattle.tdf_expr.specs.Compiled.{AreBlocksOf}
use Rattle.tdf_expr.specs.Made.{block_rates, start_rates}
use Rattle.tdf_expr.specs.declared.blocks.Block.{Block}
use Rattle.tdf_expr.specs.declared.checked.Checked.{Checked}
use Rattle.tdf_bind.proofs.Api.{tables_are_one}
use Rattle.tdf_bind.specs.Flat.{IsFlatOf}
use Rattle.tdf_bind.specs.Laws.{PassesChecks}
use Rattle.tdf_bind.specs.declared.model.Flat.{Flat}
use Rattle.tdf_expr_symbols.specs.Names.{Names, globals_of}
use Rattle.tdf_lang_tree.specs.Pure.{PureTree}
use Rattle.tdf_bind_connections.specs.declared.modules.ModuleRow.{ModuleRow}

-- what of a flat model its clusters depend on
pub record IsAlike (a b : Flat) : Type 0 where
  pub tables : a.tables ≡ b.tables
  pub unit : a.resolution ≡ b.resolution
  pub rates : (n : ℕ) → start_rates a.checked n ≡ start_rates b.checked n

same_rates : (globals : Names) (ps : List PureBlock) (bs cs : List Block) → AreBlocksOf globals ps bs → AreBlocksOf globals ps cs → (n : ℕ) → block_rates (slice_get bs n) ≡ block_rates (slice_get cs n)
same_rates globals [] [] [] h k n = refl
same_rates globals [] [] (c ∷ cs) h k n = absurd k
same_rates globals [] (b ∷ bs) cs h k n = absurd h
same_rates globals (p ∷ ps) [] cs h k n = absurd h
same_rates globals (p ∷ ps) (b ∷ bs) [] h k n = absurd k
same_rates globals (p ∷ ps) (b ∷ bs) (c ∷ cs) h k zero = h.0.rates ∙ sym k.0.rates
same_rates globals (p ∷ ps) (b ∷ bs) (c ∷ cs) h k (suc n) = same_rates globals ps bs cs h.1 k.1 n

same_starts : (tree : PureTree) (a b : Checked) → IsCheckedOf tree a → IsCheckedOf tree b → (n : ℕ) → start_rates a n ≡ start_rates b n
same_starts tree a b h k n = ap (map (λ r. r.start)) (same_rates (globals_of tree.globals) (blocks_of tree.globals) a.blocks.items b.blocks.items h k n)

pub alike : (tree : PureTree) (a b : Flat) → PassesChecks tree → IsFlatOf tree a → IsFlatOf tree b → IsAlike a b
alike tree a b passes h k = let same = tables_are_one tree a b passes h k in record {
  tables = same.tables;
  unit = same.resolution;
  rates = same_starts tree a.checked b.checked h.bodies k.bodies;
}

pub turned : (a b : Flat) → IsAlike a b → IsAlike b a
turned a b same = record { tables = sym same.tables; unit = sym same.unit; rates = λ n. sym (same.rates n) }

pub itself : (a : Flat) → IsAlike a a
itself a = record { tables = refl; unit = refl; rates = λ n. refl }

-- the attributes of a module, by the tables and the values that its rate variables start with
attrs_by : FlatTablesOf → List ℕ → ℕ → ℕ → ModuleRow → Option AttrsOf
attrs_by tables rates cluster number row =
    if nat_eq (slice_index (clusters_of tables) number) cluster
    then Some (record {
      number = number;
      ports = ports_of_module tables.ports number;
      accepts = row.accepts;
      rates = rates;
      steps = row.step ∷ map (port_step tables.ports) (ports_of_module tables.ports number);
    }) else None

same_attrs : (a b : Flat) (cluster number : ℕ) (row : ModuleRow) → IsAlike a b → attrs_if a cluster number row ≡ attrs_if b cluster number row
unfolding attrs_by
same_attrs a b cluster number row same =
    ap (λ (tables : FlatTablesOf). attrs_by tables (start_rates a.checked row.block) cluster number row) same.tables
    ∙ ap (λ (rates : List ℕ). attrs_by b.tables rates cluster number row) (same.rates row.block)

same_filter : {X Y : Type 0} (f g : X → Option Y) → ((x : X) → f x ≡ g x) → (xs : List X) → filter_map f xs ≡ filter_map g xs
same_filter f g same [] = refl
same_filter f g same (x ∷ xs) = ap (λ o. cons_option o (filter_map f xs)) (same x) ∙ ap (cons_option (g x)) (same_filter f g same xs)

pub same_table : (a b : Flat) (cluster : ℕ) → IsAlike a b → first_table a cluster ≡ first_table b cluster
unfolding first_table
same_table a b cluster same =
    same_filter (λ (row : ℕ × ModuleRow). attrs_if a cluster row.0 row.1) (λ (row : ℕ × ModuleRow). attrs_if b cluster row.0 row.1)
    (λ row. same_attrs a b cluster row.0 row.1 same) (enumerate_from 0 a.tables.modules)
    ∙ ap (λ (tables : FlatTablesOf). filter_map (λ (row : ℕ × ModuleRow). attrs_if b cluster row.0 row.1) (enumerate_from 0 tables.modules)) same.tables

pub move_fault : (a b : Flat) (cluster : ℕ) (fault : Fault) → IsAlike a b → IsClusterFault a cluster fault → IsClusterFault b cluster fault
move_fault a b cluster fault same is =
    subst (λ (table : List AttrsOf). IsTableFault b.tables cluster table fault) (same_table a b cluster same)
    (subst (λ (tables : FlatTablesOf). IsTableFault tables cluster (first_table a cluster) fault) same.tables is)

pub move_plan : (a b : Flat) (cluster : ℕ) (first : First) → IsAlike a b → IsFirstPlan a cluster first → IsFirstPlan b cluster first
move_plan a b cluster first same is = record {
  attrs_are = is.attrs_are ∙ same_table a b cluster same;
  plan_is = subst (λ (table : List AttrsOf). IsTablePlan b.tables cluster table first.plan) (same_table a b cluster same)
      (subst (λ (tables : FlatTablesOf). IsTablePlan tables cluster (first_table a cluster) first.plan) same.tables is.plan_is);
  known = subst (λ (tables : FlatTablesOf). AreTrueFor tables cluster first.attrs.known.plans) same.tables is.known;
}
