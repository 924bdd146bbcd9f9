-- A model that passes its checks has one answer: one fault, or one list of tables.
use Rattle.std.proofs.Common.{◌≡◌, ◌∙◌, ℕ, true, false, List, [], Some, refl, sym, ap, subst, true≢false}
use Rattle.std.proofs.lemmas.List.{map-id}
use Rattle.std.proofs.lemmas.Option.{none-some, same_Some}
use Rattle.tdf_base.specs.declared.faults.Fault.{Fault}
use Rattle.tdf_bind_tables.specs.FlatTables.{FlatTablesOf, FollowsFrom, HasBindingFault, IsFirstTableFault, IsFlat}
use Rattle.tdf_bind.proofs.FlatPaths.{flat_differ}
use Rattle.tdf_bind.proofs.Lists.{Differ, one_place}
use Rattle.tdf_bind.proofs.OneBlocks.{one_blocks}
use Rattle.tdf_bind.proofs.OneFault.{first_or_flat, one_first}
use Rattle.tdf_bind.proofs.OneFlat.{one_follows}
use Rattle.tdf_bind.proofs.OneTables.{one_tables}
use Rattle.tdf_bind.proofs.OwnNames.{own_names}
use Rattle.tdf_bind.proofs.OwnPaths.{signals_differ}
use Rattle.tdf_bind.specs.Flat.{OfLine, OfSize, OfTables, top_place, trace_lines}
use Rattle.tdf_bind.specs.Laws.{PassesChecks, StandOnce, paths_in, signal_paths, BlocksAreOne, PathsAreUnique, FlatPathsAreUnique, FaultIsOne, FaultOrFlat, TablesAreOne}
use Rattle.tdf_bind_ports.specs.Faults.{LinkFault, fault_of_link, first_link_fault, least_link_with}
use Rattle.tdf_bind_ports.specs.Links.{link_faults}
use Rattle.tdf_expr_names.proofs.Api.{names_once}
use Rattle.tdf_expr_names.specs.Names.{name_faults}
use Rattle.tdf_bind_names.specs.Counts.{is_too_many}
use Rattle.tdf_bind_names.specs.Resolved.{AreResolved}
use Rattle.tdf_bind_attributes.specs.Roles.{roles_of}
use Rattle.tdf_lang_tree.specs.Kept.{IsKept}
use Rattle.tdf_lang_tree.specs.Pure.{PureTree}
use Rattle.tdf_bind_hierarchy.specs.Blocks.{BlockOf}
use Rattle.tdf_bind_hierarchy.specs.Met.{met_in}
use Rattle.tdf_bind_hierarchy.specs.Tables.{TablesOf, IsTable}

pub once_at : (paths : List (List ℕ)) → Differ paths → StandOnce paths
once_at paths differ i j path at there = one_place (λ (p : List ℕ). p) paths (subst Differ (sym (map-id paths)) differ) i j path path at there refl

pub blocks_are_one : BlocksAreOne
blocks_are_one model one other none is are = one_blocks model one other none is are

-- a line at fault
no_line : (faults : List LinkFault) (f : LinkFault) → faults ≡ [] → first_link_fault faults ≡ Some f → ⊥
unfolding least_link_with
no_line faults f none first = none-some f (sym (ap first_link_fault none) ∙ first)

paths_differ : (model : PureTree) (blocks : List BlockOf) → IsKept model → name_faults model ≡ [] → AreResolved model blocks → Differ (paths_in blocks)
paths_differ model blocks kept none are = signals_differ blocks (own_names model blocks kept (names_once model none) are)

module _ (model : PureTree) (passes : PassesChecks model) where
  same_size : (bs cs : List BlockOf) → AreResolved model bs → AreResolved model cs → is_too_many model bs ≡ true → is_too_many model cs ≡ false → ⊥
  same_size bs cs is are many few = true≢false (sym many ∙ ap (is_too_many model) (one_blocks model bs cs passes.types is are) ∙ few)

  -- the tables of two lists of blocks of the model
  same_tables : (bs cs : List BlockOf) → AreResolved model bs → AreResolved model cs → (a b : TablesOf) → IsTable (met_in bs (top_place bs)) a → IsTable (met_in cs (top_place cs)) b → a ≡ b
  same_tables bs cs is are a b one other =
      one_tables (met_in cs (top_place cs)) a b (paths_differ model cs passes.kept passes.names are) (subst (λ (l : List BlockOf). IsTable (met_in l (top_place l)) a) (one_blocks model bs cs passes.types is are) one) other

  same_fault : (bs cs : List BlockOf) → AreResolved model bs → AreResolved model cs → (f g : Fault)
      → HasBindingFault bs (top_place bs) (roles_of model) (trace_lines model) f → HasBindingFault cs (top_place cs) (roles_of model) (trace_lines model) g → f ≡ g
  same_fault bs cs is are f g one other =
      one_first (roles_of model) other.tables (trace_lines model) f g
      (subst (λ (t : TablesOf). IsFirstTableFault (roles_of model) t (trace_lines model) f) (same_tables bs cs is are one.tables other.tables one.met other.met) one.first) other.first

  fault_or_flat_in : (bs cs : List BlockOf) → AreResolved model bs → AreResolved model cs → (f : Fault) (flat : FlatTablesOf)
      → HasBindingFault bs (top_place bs) (roles_of model) (trace_lines model) f → IsFlat cs (top_place cs) (roles_of model) (trace_lines model) flat → ⊥
  fault_or_flat_in bs cs is are f flat one other =
      first_or_flat (roles_of model) other.tables (trace_lines model) flat other.follows f
      (subst (λ (t : TablesOf). IsFirstTableFault (roles_of model) t (trace_lines model) f) (same_tables bs cs is are one.tables other.tables one.met other.met) one.first)

  same_flat : (bs cs : List BlockOf) → AreResolved model bs → AreResolved model cs → (a b : FlatTablesOf)
      → IsFlat bs (top_place bs) (roles_of model) (trace_lines model) a → IsFlat cs (top_place cs) (roles_of model) (trace_lines model) b → a ≡ b
  same_flat bs cs is are a b one other =
      one_follows other.tables (roles_of model) (trace_lines model) a b
      (subst (λ (t : TablesOf). FollowsFrom t (roles_of model) (trace_lines model) a) (same_tables bs cs is are one.tables other.tables one.met other.met) one.follows) other.follows

pub paths_are_unique : PathsAreUnique
paths_are_unique model blocks kept none are = once_at (paths_in blocks) (paths_differ model blocks kept none are)

pub flat_paths_are_unique : FlatPathsAreUnique
flat_paths_are_unique model flat kept none is =
    once_at (signal_paths flat.tables)
    (flat_differ is.blocks (top_place is.blocks) (roles_of model) (trace_lines model) flat.tables is.tables (paths_differ model is.blocks kept none is.linked.resolved))

pub fault_is_one : FaultIsOne
fault_is_one model one other passes (OfLine f first is) (OfLine g again are) = is ∙ ap fault_of_link (same_Some f g (sym first ∙ again)) ∙ sym are
fault_is_one model one other passes (OfLine f first is) (OfSize cs none resolved many are) = absurd (no_line (link_faults model) f none first)
fault_is_one model one other passes (OfLine f first is) (OfTables cs linked has) = absurd (no_line (link_faults model) f linked.links first)
fault_is_one model one other passes (OfSize bs none resolved many is) (OfLine g again are) = absurd (no_line (link_faults model) g none again)
fault_is_one model one other passes (OfSize bs none resolved many is) (OfSize cs none' resolved' many' are) = is ∙ sym are
fault_is_one model one other passes (OfSize bs none resolved many is) (OfTables cs linked has) = absurd (same_size model passes bs cs resolved linked.resolved many linked.few)
fault_is_one model one other passes (OfTables bs linked has) (OfLine g again are) = absurd (no_line (link_faults model) g linked.links again)
fault_is_one model one other passes (OfTables bs linked has) (OfSize cs none resolved many are) = absurd (same_size model passes cs bs resolved linked.resolved many linked.few)
fault_is_one model one other passes (OfTables bs linked has) (OfTables cs linked' has') = same_fault model passes bs cs linked.resolved linked'.resolved one other has has'

pub fault_or_flat : FaultOrFlat
fault_or_flat model fault flat passes (OfLine f first is) are = no_line (link_faults model) f are.linked.links first
fault_or_flat model fault flat passes (OfSize bs none resolved many is) are = same_size model passes bs are.blocks resolved are.linked.resolved many are.linked.few
fault_or_flat model fault flat passes (OfTables bs linked has) are = fault_or_flat_in model passes bs are.blocks linked.resolved are.linked.resolved fault flat.tables has are.tables

pub tables_are_one : TablesAreOne
tables_are_one model one other passes is are = record {
  tables = same_flat model passes is.blocks are.blocks is.linked.resolved are.linked.resolved one.tables other.tables is.tables are.tables;
  resolution = is.unit ∙ sym are.unit;
}
