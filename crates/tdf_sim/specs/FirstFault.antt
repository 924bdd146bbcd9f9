-- The first fault of a text: of its bytes and line lengths, else of its syntax, else of its names,
-- else of its types and bodies, else of binding, else of its clusters in order.
-- Source: own.
use Rattle.std.specs.Prelude.{◌≡◌, ◌<◌, ◌≤◌, ℕ, List, [], map, Some}
use Rattle.tdf_base.specs.declared.codes.Code.{Code}
use Rattle.tdf_base.specs.declared.codes.Code.TheVariants as code
use Rattle.tdf_base.specs.declared.faults.Fault.{Fault}
use Rattle.tdf_base.specs.declared.faults.Place.TheVariants as place
use Rattle.tdf_bind_tables.specs.Actors.{cluster_of}
use Rattle.tdf_bind_tables.specs.FlatTables.{FlatTablesOf}
use Rattle.tdf_lang_parser.specs.Refused.{HasSyntaxFault, SpellsText}
use Rattle.tdf_expr_blocks.specs.Types.{type_faults}
use Rattle.tdf_dynamic_first.specs.First.{IsClusterFault, IsFirstPlan}
use Rattle.tdf_dynamic_first.specs.declared.first.First.{First}
use Rattle.tdf_base.specs.First.{first_of}
use Rattle.tdf_base.specs.declared.first.LineFault.{LineFault}
use Rattle.tdf_bind.specs.Flat.{IsBindFault, IsFlatOf}
use Rattle.tdf_bind.specs.declared.model.Flat.{Flat}
use Rattle.tdf_graph.specs.Clusters.{greatest}
use Rattle.tdf_expr_names.specs.Names.{name_faults}
use Rattle.tdf_lang_lexer.specs.Text.{fault_of}
use Rattle.tdf_lang_lexer.specs.declared.text.TextFault.TheVariants as bytes
use Rattle.tdf_lang_tree.specs.Pure.{PureTree}

-- a fault of a line
abbrev pub on_line : Code → ℕ → Fault
on_line word line = record { code = word; place = place.Line line }

abbrev pub at_line : LineFault → Fault
at_line f = on_line f.code f.line

-- no fault of names, types and bodies
pub record HasSoundLines (tree : PureTree) : Type 0 where
  pub names : name_faults tree ≡ []
  pub types : type_faults tree ≡ []

-- the clusters are numbered from 1 to their count
abbrev pub cluster_count : FlatTablesOf → ℕ
cluster_count tables = greatest (map cluster_of tables.actors)

-- the clusters before this one have a plan
abbrev pub HavePlansBefore : Flat → ℕ → Type 0
HavePlansBefore flat cluster =
    (c : ℕ) → 1 ≤ c → c < cluster → (first : First) × IsFirstPlan flat c first

-- the fault of the first cluster that has one
pub record IsPlansFault (flat : Flat) (fault : Fault) : Type 0 where
  pub cluster : ℕ
  pub some : 1 ≤ cluster
  pub within : cluster ≤ cluster_count flat.tables
  pub before : HavePlansBefore flat cluster
  pub is : IsClusterFault flat cluster fault

-- the first fault of a tree before it is planned: of its names, else of its types and bodies, else
-- of binding
pub data IsEarlyFault (tree : PureTree) (fault : Fault) : Type 0 where
  of_names : (f : LineFault) → first_of (name_faults tree) ≡ Some f → fault ≡ at_line f
      → IsEarlyFault tree fault
  of_types : (f : LineFault) → name_faults tree ≡ [] → first_of (type_faults tree) ≡ Some f
      → fault ≡ at_line f → IsEarlyFault tree fault
  of_binding : HasSoundLines tree → IsBindFault tree fault → IsEarlyFault tree fault

-- a tree without such a fault has a flat model
pub record HasFlat (tree : PureTree) : Type 0 where
  pub flat : Flat
  pub lines : HasSoundLines tree
  pub is : IsFlatOf tree flat

-- the first fault of a tree: an early one, else of its clusters
pub data IsTreeFault (tree : PureTree) (fault : Fault) : Type 0 where
  of_early : IsEarlyFault tree fault → IsTreeFault tree fault
  of_clusters : (flat : Flat) → HasSoundLines tree → IsFlatOf tree flat → IsPlansFault flat fault
      → IsTreeFault tree fault

-- the first fault of a text that spells no tree
pub data IsTextFault (text : List ℕ) (fault : Fault) : Type 0 where
  of_bytes : (line : ℕ) → fault_of text ≡ Some (bytes.Byte line) → fault ≡ on_line code.Byte line
      → IsTextFault text fault
  of_length : (line : ℕ) → fault_of text ≡ Some (bytes.LongLine line)
      → fault ≡ on_line code.LongLine line → IsTextFault text fault
  of_syntax : (line : ℕ) → HasSyntaxFault text line → fault ≡ on_line code.Syntax line
      → IsTextFault text fault

-- the first fault of a text
pub data IsFirstFault (text : List ℕ) (fault : Fault) : Type 0 where
  of_text : IsTextFault text fault → IsFirstFault text fault
  of_tree : (tree : PureTree) → SpellsText text tree → IsTreeFault tree fault
      → IsFirstFault text fault

-- the first fault of a text before its clusters are planned
pub data IsEarlyTextFault (text : List ℕ) (fault : Fault) : Type 0 where
  of_no_tree : IsTextFault text fault → IsEarlyTextFault text fault
  of_early_tree : (tree : PureTree) → SpellsText text tree → IsEarlyFault tree fault
      → IsEarlyTextFault text fault
