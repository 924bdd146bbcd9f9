-- The pure tree: a model text's tree without pointers and spare room, of which the laws of the language speak (own).
-- A type of `src/` that holds neither a box nor a vector stands in it as it is; names and numbers are seen as their bytes.
use Rattle.std.specs.Prelude.{ℕ, Bool, List, Option}
use Rattle.tdf_fixed.specs.Below.{Resolution, Version}
use Rattle.tdf_lang_tree.specs.declared.blocks.Attr.{Attr}
use Rattle.tdf_lang_tree.specs.declared.blocks.Initial.{Initial}
use Rattle.tdf_lang_tree.specs.declared.blocks.Member.{Member}
use Rattle.tdf_lang_tree.specs.declared.blocks.PortLine.{PortLine}
use Rattle.tdf_lang_tree.specs.declared.blocks.Sense.{Sense}
use Rattle.tdf_lang_tree.specs.declared.expr.Index.{Index}
use Rattle.tdf_lang_tree.specs.declared.expr.Op.{Op}
use Rattle.tdf_lang_tree.specs.declared.names.Lit.{Lit}
use Rattle.tdf_lang_tree.specs.declared.shapes.FormatRef.{FormatRef}
use Rattle.tdf_lang_tree.specs.declared.shapes.TypeDecl.{TypeDecl}
use Rattle.tdf_lang_tree.specs.declared.stmt.Limit.{Limit}

pub data PureExpr : Type 0 where
  ENumber : (digits : List ℕ) → PureExpr
  EName : (name : List ℕ) → PureExpr
  EAt : (name : List ℕ) → Index → PureExpr
  ECast : (name : List ℕ) → PureExpr → PureExpr
  ESelect : (test first second : PureExpr) → PureExpr
  ENot : PureExpr → PureExpr
  ENeg : PureExpr → PureExpr
  EShift : PureExpr → (left : Bool) → (bits : ℕ) → PureExpr
  EBinary : Op → (left right : PureExpr) → PureExpr

mutual
  pub data PureStmt : Type 0 where
    SAssign : (line : ℕ) → (name : List ℕ) → Option Index → PureExpr → PureStmt
    SIf : (line : ℕ) → (test : PureExpr) → (first second : PureStmts) → PureStmt
    SFor : (line : ℕ) → (name : List ℕ) → (from : ℕ) → Limit → (body : PureStmts) → PureStmt
    SNotify : (line : ℕ) → (event : List ℕ) → (after : ℕ) → PureStmt
    SSetRate : (line : ℕ) → (name : List ℕ) → PureExpr → PureStmt
    SSetStep : (line : ℕ) → (port : Option (List ℕ)) → (step : ℕ) → PureStmt
    SAccept : (line : ℕ) → PureStmt
    SReject : (line : ℕ) → PureStmt

  pub data PureStmts : Type 0 where
    Done : PureStmts
    More : PureStmt → PureStmts → PureStmts

pub record PureBody : Type 0 where
  pub list : PureStmts
  pub end : ℕ

pub data PureStore : Type 0 where
  SConst : (line : ℕ) → (name : List ℕ) → FormatRef → Lit → PureStore
  SVar : (line : ℕ) → (name : List ℕ) → FormatRef → Lit → PureStore
  SArray : (line : ℕ) → (name : List ℕ) → FormatRef → (size : ℕ) → List Lit → PureStore

pub data PureTdfLine : Type 0 where
  TPort : PortLine → PureTdfLine
  TStore : PureStore → PureTdfLine
  TRate : (line : ℕ) → (name : List ℕ) → (least greatest start : ℕ) → PureTdfLine

pub record PureTdf : Type 0 where
  pub line : ℕ
  pub name : List ℕ
  pub decls : List PureTdfLine
  pub attrs : List Attr
  pub initials : List Initial
  pub initialize : PureBody
  pub processing : PureBody
  pub change : PureBody
  pub reinitialize : PureBody

pub data PureDeLine : Type 0 where
  DPort : PortLine → PureDeLine
  DStore : PureStore → PureDeLine
  DEvent : (line : ℕ) → (name : List ℕ) → PureDeLine

pub record PureProcess : Type 0 where
  pub line : ℕ
  pub sensitive : List Sense
  pub starts : Bool
  pub body : PureBody

pub record PureDe : Type 0 where
  pub line : ℕ
  pub name : List ℕ
  pub decls : List PureDeLine
  pub processes : List PureProcess

pub record PureComposite : Type 0 where
  pub line : ℕ
  pub name : List ℕ
  pub members : List Member

pub data PureGlobal : Type 0 where
  GShape : TypeDecl → PureGlobal
  GTdf : PureTdf → PureGlobal
  GDe : PureDe → PureGlobal
  GNet : PureComposite → PureGlobal

pub record PureTrace : Type 0 where
  pub line : ℕ
  pub path : List (List ℕ)
  pub label : List ℕ

pub record PureTree : Type 0 where
  pub version : Version
  pub resolution : Resolution
  pub globals : List PureGlobal
  pub top : PureComposite
  pub traces : List PureTrace
