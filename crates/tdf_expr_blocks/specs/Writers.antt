-- WRITERS (own): a line assigns a `de_out` port that an earlier process of the same block assigns.
use Rattle.std.specs.Prelude.{ℕ, Bool, true, false, ◌&&◌, nat_eq, List, [], ◌∷◌, ◌++◌, Option, Some}
use Rattle.std.specs.Cmp.Lexicographic.{pointwise}
use Rattle.std.specs.List.{flat_map, list_any}
use Rattle.tdf_base.specs.declared.codes.Code.TheVariants as code
use Rattle.tdf_base.specs.First.{fault_if}
use Rattle.tdf_base.specs.declared.first.LineFault.{LineFault}
use Rattle.tdf_expr_symbols.specs.Names.{Names, Thing, Port, thing_of}
use Rattle.tdf_lang_tree.specs.Pure.{PureStmt, SAssign, SIf, SFor, SNotify, SSetRate, SSetStep, SAccept, SReject, PureStmts, Done, More, PureProcess}
use Rattle.tdf_lang_tree.specs.declared.blocks.PortKind.TheVariants.{DeOut}

-- an assignment, reachable or not
pub record Assigned : Type 0 where
  pub line : ℕ
  pub name : List ℕ

abbrev mutual
  pub assigned : PureStmt → List Assigned
  assigned (SAssign line name i e) = record { line = line; name = name } ∷ []
  assigned (SIf line test a b) = assigned_all a ++ assigned_all b
  assigned (SFor line name from end body) = assigned_all body
  assigned (SNotify line event after) = []
  assigned (SSetRate line name e) = []
  assigned (SSetStep line port step) = []
  assigned (SAccept line) = []
  assigned (SReject line) = []

  pub assigned_all : PureStmts → List Assigned
  assigned_all Done = []
  assigned_all (More s ss) = assigned s ++ assigned_all ss

abbrev pub is_output : Option Thing → Bool
is_output (Some (Port DeOut shape rate delay)) = true
is_output _ = false

-- whether a process assigns a name
unfoldable pub assigns : List ℕ → PureProcess → Bool
assigns name p = list_any (λ a. pointwise nat_eq name a.name) (assigned_all p.body.list)

-- an assignment, where some processes stand before its own
abbrev pub again_faults : Names → (earlier : List PureProcess) → Assigned → List LineFault
again_faults own earlier a =
    fault_if (is_output (thing_of own a.name) && list_any (assigns a.name) earlier)
    code.Writers a.line

-- the processes of a block, where some stand before these
unfoldable pub writer_faults : Names → (earlier list : List PureProcess) → List LineFault
writer_faults own earlier [] = []
writer_faults own earlier (p ∷ ps) =
    flat_map (again_faults own earlier) (assigned_all p.body.list)
    ++ writer_faults own (earlier ++ p ∷ []) ps
