-- What holds of a flat model whose last instance is one of a block with one process.
-- Source: own.
use Rattle.std.specs.Prelude.{◌≡◌, ℕ, true, false, List, [], Some, map, slice_get, slice_index_or}
use Rattle.tdf_bind_connections.specs.declared.roles.Role.{Role}
use Rattle.tdf_bind_connections.specs.declared.traces.TraceLine.{TraceLine}
use Rattle.tdf_bind_hierarchy.specs.Met.{Met}
use Rattle.tdf_bind_hierarchy.specs.Tables.{IsTable, TablesOf}
use Rattle.tdf_bind_tables.specs.FlatTables.{FlatTablesOf, FollowsFrom}
use Rattle.tdf_expr.specs.Blocks.{Events, body_of}
use Rattle.tdf_expr.specs.Frames.{is_written}
use Rattle.tdf_expr.specs.declared.bodies.Body.TheVariants.{Process}
use Rattle.tdf_expr_blocks.specs.Blocks.{de_faults}
use Rattle.tdf_expr_names.specs.Names.{de_lines_faults}
use Rattle.tdf_expr_semantics.specs.Bodies.{after_body}
use Rattle.tdf_expr_state.specs.State.{State}
use Rattle.tdf_expr_symbols.specs.Names.{Names}
use Rattle.tdf_expr_symbols.specs.Scope.{de_scope}
use Rattle.tdf_lang_tree.specs.Pure.{PureDe}
use Rattle.tdf_lang_tree.specs.declared.blocks.PortKind.{PortKind}
use Rattle.tdf_bind_ports.specs.Ports.{ports_of_de}
use Rattle.tdf_stim_flat.specs.Ends.{EndsWithBlock, GivesAlone, IsLastBlock}

pub record StandsLast (tables : TablesOf) (roles : List Role) (flat : FlatTablesOf)
    (e : EndsWithBlock tables roles) : Type 0 where
  pub owner : ℕ
  pub process : ℕ
  pub first : ℕ
  pub is : IsLastBlock tables roles flat e owner process first

abbrev pub LastIsLast : Type 0
LastIsLast = (tables : TablesOf) (roles : List Role) (lines : List TraceLine) (flat : FlatTablesOf)
    → (e : EndsWithBlock tables roles) → FollowsFrom tables roles lines flat
    → StandsLast tables roles flat e

abbrev pub LastGivesAlone : Type 0
LastGivesAlone = (met : List Met) (tables : TablesOf) (roles : List Role) (lines : List TraceLine)
    → (flat : FlatTablesOf) (e : EndsWithBlock tables roles) → IsTable met tables
    → FollowsFrom tables roles lines flat → GivesAlone tables roles flat e

-- the kind of a port that bodies write stands at a place of a block
pub record IsWrittenPort (de : PureDe) (j : ℕ) : Type 0 where
  pub kind : PortKind
  pub at : slice_get (map (λ port. port.kind) (ports_of_de de)) j ≡ Some kind
  pub written : is_written kind ≡ true

-- a process of a block without faults marks no port but those that bodies write
abbrev pub MarksAreWritten : Type 0
MarksAreWritten = (globals : Names) (names : List (List ℕ)) (de : PureDe) (number : ℕ) (s : State)
    → de_lines_faults names [] de.decls ≡ [] → de_faults globals de ≡ []
    → ((j : ℕ) → slice_index_or s.ports.assigned j false ≡ false)
    → (j : ℕ) → slice_index_or (after_body (de_scope globals de)
    (body_of (Events de) (Process number)) s).ports.assigned j false ≡ true → IsWrittenPort de j
