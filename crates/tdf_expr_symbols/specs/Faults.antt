-- The faults of expressions and statements (own): all of them, in no order that matters.
use Rattle.std.specs.Prelude.{ℕ, ◌+◌, Bool, true, false, not, ◌&&◌, ◌||◌, nat_lt, nat_eq, max, List, [], ◌∷◌, ◌++◌, Option, Some, None, Result, Ok, Err}
use Rattle.tdf_base.specs.Limits.{greatest_rate as most_rate}
use Rattle.tdf_base.specs.declared.codes.Code.TheVariants as code
use Rattle.tdf_base.specs.First.{fault_if}
use Rattle.tdf_base.specs.declared.first.LineFault.{LineFault}
use Rattle.tdf_lang_tree.specs.Below.{NumErr, Raw, exact_of}
use Rattle.tdf_expr_symbols.specs.Index.{kind_faults, index_faults}
use Rattle.tdf_expr_symbols.specs.Names.{Thing, shape_of, thing_of, type_shape}
use Rattle.tdf_expr_symbols.specs.Scope.{Scope, OpenLoop, named, least_of, greatest_of}
use Rattle.tdf_expr_symbols.specs.Width.{Width, width, joint, fraction_bits}
use Rattle.tdf_expr_symbols.specs.declared.kinds.Part.{Part}
use Rattle.tdf_expr_symbols.specs.declared.kinds.Part.TheVariants as part
use Rattle.tdf_expr_symbols.specs.declared.kinds.Place.TheVariants as place
use Rattle.tdf_lang_tree.specs.Pure.{PureExpr, ENumber, EName, EAt, ECast, ESelect, ENot, ENeg, EShift, EBinary, PureStmt, SAssign, SIf, SFor, SNotify, SSetRate, SSetStep, SAccept, SReject, PureStmts, Done, More}
use Rattle.tdf_lang_tree.specs.declared.expr.Index.{Index}
use Rattle.tdf_lang_tree.specs.declared.expr.Op.{Op}
use Rattle.tdf_lang_tree.specs.declared.expr.Op.TheVariants as op
use Rattle.tdf_lang_tree.specs.declared.shapes.Shape.{Shape}
use Rattle.tdf_lang_tree.specs.declared.stmt.Limit.{Limit}
use Rattle.tdf_lang_tree.specs.declared.stmt.Limit.TheVariants as limit

-- more bits than a value may have
unfoldable pub is_wide : Width → Bool
is_wide w = nat_lt 120 (w.whole + w.part)

-- more bits than a value may have that is cast to a format
abbrev pub is_wide_cast : Option Shape → Width → Bool
is_wide_cast (Some s) w = nat_lt 120 (w.whole + max w.part (fraction_bits s))
is_wide_cast None w = false

abbrev pub is_err : Result Raw NumErr → Bool
is_err (Ok raw) = false
is_err (Err fault) = true

abbrev pub is_comparison : Op → Bool
is_comparison op.Lt = true
is_comparison op.Le = true
is_comparison op.Eq = true
is_comparison op.Ne = true
is_comparison op.Gt = true
is_comparison op.Ge = true
is_comparison _ = false

abbrev pub wide_faults : Width → ℕ → List LineFault
wide_faults w line = fault_if (is_wide w) code.Wide line

-- what stands for a cast's format
abbrev pub cast_shape : Scope → List ℕ → Option Shape
cast_shape scope name = type_shape (thing_of scope.globals name)

-- the faults of an expression on a line, without those of its parts
abbrev pub own_faults : Scope → List OpenLoop → Part → ℕ → PureExpr → List LineFault
own_faults scope loops body line (ENumber digits) =
    fault_if (is_err (exact_of digits)) code.InexactLiteral line
own_faults scope loops body line (EName name) =
    kind_faults (place.Value body) (named scope loops name) line
own_faults scope loops body line (EAt name i) =
    kind_faults (place.Element body) (named scope loops name) line
    ++ index_faults scope loops line (named scope loops name) i
own_faults scope loops body line (ECast name e) =
    kind_faults place.Format (thing_of scope.globals name) line
    ++ fault_if (is_wide_cast (cast_shape scope name) (width scope loops e)) code.WideCast line
own_faults scope loops body line (ESelect test a b) = []
own_faults scope loops body line (ENot e) = []
own_faults scope loops body line (ENeg e) = []
own_faults scope loops body line (EShift e left n) = fault_if (nat_lt 63 n) code.Limit line
own_faults scope loops body line (EBinary o a b) =
    fault_if (is_comparison o && is_wide (joint (width scope loops a) (width scope loops b)))
    code.Wide line

-- the faults of an expression on a line
unfoldable pub expr_faults : Scope → List OpenLoop → Part → ℕ → PureExpr → List LineFault
expr_faults scope loops body line (ENumber digits) =
    own_faults scope loops body line (ENumber digits)
    ++ wide_faults (width scope loops (ENumber digits)) line
expr_faults scope loops body line (EName name) =
    own_faults scope loops body line (EName name)
    ++ wide_faults (width scope loops (EName name)) line
expr_faults scope loops body line (EAt name i) =
    own_faults scope loops body line (EAt name i)
    ++ wide_faults (width scope loops (EAt name i)) line
expr_faults scope loops body line (ECast name e) =
    expr_faults scope loops body line e
    ++ (own_faults scope loops body line (ECast name e)
    ++ wide_faults (width scope loops (ECast name e)) line)
expr_faults scope loops body line (ESelect test a b) =
    expr_faults scope loops body line test
    ++ (expr_faults scope loops body line a
    ++ (expr_faults scope loops body line b
    ++ wide_faults (width scope loops (ESelect test a b)) line))
expr_faults scope loops body line (ENot e) =
    expr_faults scope loops body line e ++ wide_faults (width scope loops (ENot e)) line
expr_faults scope loops body line (ENeg e) =
    expr_faults scope loops body line e ++ wide_faults (width scope loops (ENeg e)) line
expr_faults scope loops body line (EShift e left n) =
    expr_faults scope loops body line e
    ++ (own_faults scope loops body line (EShift e left n)
    ++ wide_faults (width scope loops (EShift e left n)) line)
expr_faults scope loops body line (EBinary o a b) =
    expr_faults scope loops body line a
    ++ (expr_faults scope loops body line b
    ++ (own_faults scope loops body line (EBinary o a b)
    ++ wide_faults (width scope loops (EBinary o a b)) line))

-- the statements that each body allows: `notify` in a process; what changes attributes in a change
-- body of a block with `does_attribute_changes`
abbrev pub notifies : Part → Bool
notifies part.Process = true
notifies _ = false

abbrev pub changes : Scope → Part → Bool
changes scope part.Change = scope.does
changes scope _ = false

-- `c * r` as a limit or rate: c is 1 to 4,096, and so is the greatest value
abbrev pub multiple_faults : Scope → ℕ → ℕ → Limit → List LineFault
multiple_faults scope line c l =
    fault_if (nat_lt c 1 || (nat_lt most_rate c || nat_lt most_rate (greatest_of scope.own l)))
    code.Limit line

abbrev pub limit_faults : Scope → List OpenLoop → ℕ → Limit → List LineFault
limit_faults scope loops line (limit.Int n) = fault_if (nat_lt most_rate n) code.Limit line
limit_faults scope loops line (limit.Var r) = kind_faults place.Limit (named scope loops r) line
limit_faults scope loops line (limit.Times c r) =
    kind_faults place.Limit (named scope loops r) line
    ++ multiple_faults scope line c (limit.Times c r)

-- `timestep` needs a port, where it names one, and a time above 0
abbrev pub step_faults : Scope → List OpenLoop → ℕ → Option (List ℕ) → ℕ → List LineFault
step_faults scope loops line None step = fault_if (nat_eq step 0) code.Limit line
step_faults scope loops line (Some port) step =
    kind_faults place.Port (named scope loops port) line ++ fault_if (nat_eq step 0) code.Limit line

abbrev pub shape_in : Option Thing → Option Shape
shape_in (Some thing) = shape_of thing
shape_in None = None

-- the faults of a value that is assigned to what a name stands for
abbrev pub value_faults : Scope → List OpenLoop → Part → ℕ → Option Thing → PureExpr
    → List LineFault
value_faults scope loops body line thing e =
    expr_faults scope loops body line e
    ++ fault_if (is_wide_cast (shape_in thing) (width scope loops e)) code.WideCast line

abbrev pub target_faults : Scope → List OpenLoop → Part → ℕ → Option Thing → Option Index
    → List LineFault
target_faults scope loops body line thing None = kind_faults (place.Target body) thing line
target_faults scope loops body line thing (Some i) =
    kind_faults (place.TargetElement body) thing line ++ index_faults scope loops line thing i

abbrev pub opened : List ℕ → ℕ → Limit → OpenLoop
opened name from end = record { name = name; from = from; end = end }

abbrev mutual
  pub stmt_faults : Scope → Part → List OpenLoop → PureStmt → List LineFault
  stmt_faults scope body loops (SAssign line name i e) =
      target_faults scope loops body line (named scope loops name) i
      ++ value_faults scope loops body line (named scope loops name) e
  stmt_faults scope body loops (SIf line test a b) =
      expr_faults scope loops body line test
      ++ (stmts_faults scope body loops a ++ stmts_faults scope body loops b)
  stmt_faults scope body loops (SFor line name from end inner) =
      limit_faults scope loops line end
      ++ (fault_if (not (nat_lt from (least_of scope.own end))) code.Index line
      ++ stmts_faults scope body (loops ++ opened name from end ∷ []) inner)
  stmt_faults scope body loops (SNotify line event after) =
      fault_if (not (notifies body)) code.Kind line
      ++ kind_faults place.Notified (named scope loops event) line
  stmt_faults scope body loops (SSetRate line name e) =
      fault_if (not (changes scope body)) code.Kind line
      ++ (kind_faults place.Rate (named scope loops name) line
      ++ expr_faults scope loops body line e)
  stmt_faults scope body loops (SSetStep line port step) =
      fault_if (not (changes scope body)) code.Kind line ++ step_faults scope loops line port step
  stmt_faults scope body loops (SAccept line) = fault_if (not (changes scope body)) code.Kind line
  stmt_faults scope body loops (SReject line) = fault_if (not (changes scope body)) code.Kind line

  pub stmts_faults : Scope → Part → List OpenLoop → PureStmts → List LineFault
  stmts_faults scope body loops Done = []
  stmts_faults scope body loops (More s ss) =
      stmt_faults scope body loops s ++ stmts_faults scope body loops ss
