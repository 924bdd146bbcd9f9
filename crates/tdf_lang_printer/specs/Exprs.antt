-- The canonical text of an expression: single spaces round operators with two operands and shifts,
-- `-` directly before its operand, `not` with a space, and parentheses round each operand that isn't
-- a number, a name, an indexed name, a cast or `select`. (own)
use Rattle.std.specs.Prelude.{ℕ, Bool, true, false, if◌then◌else◌, List, ◌++◌, codes}
use Rattle.std.specs.Fmt.{decimal}
use Rattle.tdf_lang_tree.specs.Pure.{PureExpr, ENumber, EName, EAt, ECast, ESelect, ENot, ENeg, EShift, EBinary}
use Rattle.tdf_lang_tree.specs.declared.expr.Index.{Index}
use Rattle.tdf_lang_tree.specs.declared.expr.Index.TheVariants as index
use Rattle.tdf_lang_tree.specs.declared.expr.Op.{Op}
use Rattle.tdf_lang_tree.specs.declared.expr.Op.TheVariants.{Or, And, Lt, Le, Eq, Ne, Gt, Ge, Add, Sub, Mul}

-- an operator between its single spaces
abbrev pub op_text : Op → List ℕ
op_text Or = codes " or "
op_text And = codes " and "
op_text Lt = codes " < "
op_text Le = codes " <= "
op_text Eq = codes " == "
op_text Ne = codes " != "
op_text Gt = codes " > "
op_text Ge = codes " >= "
op_text Add = codes " + "
op_text Sub = codes " - "
op_text Mul = codes " * "

abbrev pub shift_text : Bool → List ℕ
shift_text true = codes " << "
shift_text false = codes " >> "

abbrev pub index_text : Index → List ℕ
index_text (index.Int n) = decimal n
index_text (index.Var name) = name
index_text (index.Plus name n) = name ++ (codes " + " ++ decimal n)
index_text (index.Minus name n) = name ++ (codes " - " ++ decimal n)
index_text (index.From n name) = decimal n ++ (codes " - " ++ name)
index_text (index.Times n name) = decimal n ++ (codes " * " ++ name)
index_text (index.TimesPlus n name m) = decimal n ++ (codes " * " ++ (name ++ (codes " + " ++ decimal m)))

-- an operand that needs no parentheses
abbrev pub is_single : PureExpr → Bool
is_single (ENumber digits) = true
is_single (EName name) = true
is_single (EAt name i) = true
is_single (ECast name x) = true
is_single (ESelect x y z) = true
is_single _ = false

-- the text of an operand, from its text alone
abbrev pub operand_text : PureExpr → List ℕ → List ℕ
operand_text x text = if is_single x then text else codes "(" ++ (text ++ codes ")")

abbrev pub expr_text : PureExpr → List ℕ
expr_text (ENumber digits) = digits
expr_text (EName name) = name
expr_text (EAt name i) = name ++ (codes "[" ++ (index_text i ++ codes "]"))
expr_text (ECast name x) = name ++ (codes "(" ++ (expr_text x ++ codes ")"))
expr_text (ESelect x y z) = codes "select("
    ++ (expr_text x ++ (codes ", " ++ (expr_text y ++ (codes ", " ++ (expr_text z ++ codes ")")))))
expr_text (ENot x) = codes "not " ++ operand_text x (expr_text x)
expr_text (ENeg x) = codes "-" ++ operand_text x (expr_text x)
expr_text (EShift x left n) = operand_text x (expr_text x) ++ (shift_text left ++ decimal n)
expr_text (EBinary op x y) = operand_text x (expr_text x) ++ (op_text op ++ operand_text y (expr_text y))
