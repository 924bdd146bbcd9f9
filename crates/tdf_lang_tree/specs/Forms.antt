-- What one line of a model text says (own): one case a line form of the grammar. The lines that open a text, `language` and
-- `resolution`, are none of them: they say how the others are read.
use Rattle.std.specs.Prelude.{ℕ, List, Option}
use Rattle.tdf_lang_tree.specs.Pure.{PureExpr}
use Rattle.tdf_lang_tree.specs.declared.blocks.PortKind.{PortKind}
use Rattle.tdf_lang_tree.specs.declared.expr.Index.{Index}
use Rattle.tdf_lang_tree.specs.declared.names.Lit.{Lit}
use Rattle.tdf_lang_tree.specs.declared.shapes.FormatRef.{FormatRef}
use Rattle.tdf_lang_tree.specs.declared.shapes.Shape.{Shape}
use Rattle.tdf_lang_tree.specs.declared.stmt.Limit.{Limit}

pub data Form : Type 0 where
  FType : (name : List ℕ) → Shape → Form
  FTdf : (name : List ℕ) → Form
  FDe : (name : List ℕ) → Form
  FComposite : (name : List ℕ) → Form
  FTop : Form
  FEnd : Form
  FPort : PortKind → (name : List ℕ) → FormatRef → Form
  FConst : (name : List ℕ) → FormatRef → Lit → Form
  FVar : (name : List ℕ) → FormatRef → Lit → Form
  FArray : (name : List ℕ) → FormatRef → (size : ℕ) → List Lit → Form
  FRateVar : (name : List ℕ) → (least greatest start : ℕ) → Form
  FSetAttributes : Form
  FInitialize : Form
  FProcessing : Form
  FChangeAttributes : Form
  FReinitialize : Form
  FStep : (port : Option (List ℕ)) → (step : ℕ) → Form
  FRate : (port : List ℕ) → Limit → Form
  FDelay : (port : List ℕ) → (count : ℕ) → Form
  FDoes : Form
  FAccept : Form
  FReject : Form
  FInitial : (port : List ℕ) → (place : ℕ) → Lit → Form
  FEvent : (name : List ℕ) → Form
  FProcess : Form
  FSensitive : (name : List ℕ) → Form
  FDontInitialize : Form
  FNotify : (event : List ℕ) → (after : ℕ) → Form
  FSignal : (name : List ℕ) → FormatRef → Form
  FDeSignal : (name : List ℕ) → FormatRef → Lit → Form
  FInstance : (name block : List ℕ) → Form
  FBind : (instance port target : List ℕ) → Form
  FTrace : (path : List (List ℕ)) → (label : List ℕ) → Form
  FAssign : (name : List ℕ) → Option Index → PureExpr → Form
  FIf : (test : PureExpr) → Form
  FElse : Form
  FFor : (name : List ℕ) → (from : ℕ) → Limit → Form
  FSetRate : (name : List ℕ) → PureExpr → Form
