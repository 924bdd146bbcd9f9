-- The canonical text of a line: one space between words; none in paths, in what `bind` names, and in
-- times; each default is written. (own)
use Rattle.std.specs.Prelude.{ℕ, Bool, true, false, List, [], ◌∷◌, ◌++◌, Option, Some, None, codes}
use Rattle.std.specs.Fmt.{decimal}
use Rattle.tdf_base.specs.declared.resolution.Resolution.{Resolution}
use Rattle.tdf_base.specs.declared.resolution.Resolution.TheVariants.{Ps, Fs}
use Rattle.tdf_fixed.specs.declared.over.Over.{Over}
use Rattle.tdf_fixed.specs.declared.over.Over.TheVariants.{Wrap, Sat, SatZero, SatSym}
use Rattle.tdf_fixed.specs.declared.quant.Quant.{Quant}
use Rattle.tdf_fixed.specs.declared.quant.Quant.TheVariants.{Trn, TrnZero, Rnd, RndZero, RndMinInf, RndInf, RndConv}
use Rattle.tdf_lang_tree.specs.Forms.{Form, FType, FTdf, FDe, FComposite, FTop, FEnd, FPort, FConst, FVar, FArray, FRateVar, FSetAttributes, FInitialize, FProcessing, FChangeAttributes, FReinitialize, FStep, FRate, FDelay, FDoes, FAccept, FReject, FInitial, FEvent, FProcess, FSensitive, FDontInitialize, FNotify, FSignal, FDeSignal, FInstance, FBind, FTrace, FAssign, FIf, FElse, FFor, FSetRate}
use Rattle.tdf_lang_tree.specs.declared.blocks.PortKind.{PortKind}
use Rattle.tdf_lang_tree.specs.declared.blocks.PortKind.TheVariants as port_kind
use Rattle.tdf_lang_tree.specs.declared.expr.Index.{Index}
use Rattle.tdf_lang_tree.specs.declared.names.Lit.{Lit}
use Rattle.tdf_lang_tree.specs.declared.shapes.FormatRef.{FormatRef}
use Rattle.tdf_lang_tree.specs.declared.shapes.FormatRef.TheVariants.{Own, Named}
use Rattle.tdf_lang_tree.specs.declared.shapes.Shape.{Shape}
use Rattle.tdf_lang_tree.specs.declared.stmt.Limit.{Limit}
use Rattle.tdf_lang_tree.specs.declared.stmt.Limit.TheVariants as limit
use Rattle.tdf_lang_printer.specs.Exprs.{expr_text, index_text}

abbrev pub sign_text : Bool → List ℕ
sign_text true = codes "fixed "
sign_text false = codes "ufixed "

abbrev pub quant_text : Quant → List ℕ
quant_text Trn = codes " trn"
quant_text TrnZero = codes " trn_zero"
quant_text Rnd = codes " rnd"
quant_text RndZero = codes " rnd_zero"
quant_text RndMinInf = codes " rnd_min_inf"
quant_text RndInf = codes " rnd_inf"
quant_text RndConv = codes " rnd_conv"

abbrev pub over_text : Over → List ℕ
over_text Wrap = codes " wrap"
over_text Sat = codes " sat"
over_text SatZero = codes " sat_zero"
over_text SatSym = codes " sat_sym"

abbrev pub shape_text : Shape → List ℕ
shape_text s = sign_text s.signed
    ++ (decimal s.wl ++ (codes " " ++ (decimal s.iwl ++ (quant_text s.quant ++ over_text s.over))))

abbrev pub format_text : FormatRef → List ℕ
format_text (Own s) = shape_text s
format_text (Named name) = name

abbrev pub minus_text : Bool → List ℕ
minus_text true = codes "-"
minus_text false = []

abbrev pub lit_text : Lit → List ℕ
lit_text x = minus_text x.minus ++ x.digits

-- the values of an array, each after a space
abbrev pub lits_text : List Lit → List ℕ
lits_text [] = []
lits_text (x ∷ xs) = (codes " " ++ lit_text x) ++ lits_text xs

-- the unit of one count
abbrev pub unit_text : Resolution → List ℕ
unit_text Ps = codes "ps"
unit_text Fs = codes "fs"

-- a time is its count and the unit of one count
abbrev pub time_text : Resolution → ℕ → List ℕ
time_text unit count = decimal count ++ unit_text unit

abbrev pub limit_text : Limit → List ℕ
limit_text (limit.Int n) = decimal n
limit_text (limit.Var name) = name
limit_text (limit.Times n name) = decimal n ++ (codes " * " ++ name)

-- names joined by points
abbrev pub points_text : List (List ℕ) → List ℕ
points_text [] = []
points_text (name ∷ names) = (codes "." ++ name) ++ points_text names

abbrev pub path_text : List (List ℕ) → List ℕ
path_text [] = []
path_text (name ∷ names) = name ++ points_text names

abbrev pub port_text : PortKind → List ℕ
port_text port_kind.In = codes "in "
port_text port_kind.Out = codes "out "
port_text port_kind.DeIn = codes "de_in "
port_text port_kind.DeOut = codes "de_out "

abbrev pub step_text : Resolution → Option (List ℕ) → ℕ → List ℕ
step_text unit None count = codes "timestep " ++ time_text unit count
step_text unit (Some port) count = codes "timestep " ++ (port ++ (codes " " ++ time_text unit count))

abbrev pub target_text : List ℕ → Option Index → List ℕ
target_text name None = name
target_text name (Some i) = name ++ (codes "[" ++ (index_text i ++ codes "]"))

-- the text of a line, without its LF, where times are counts of `unit`
abbrev pub line_text : Resolution → Form → List ℕ
line_text unit (FType name s) = codes "type " ++ (name ++ (codes " " ++ shape_text s))
line_text unit (FTdf name) = codes "tdf " ++ name
line_text unit (FDe name) = codes "de " ++ name
line_text unit (FComposite name) = codes "composite " ++ name
line_text unit FTop = codes "top"
line_text unit FEnd = codes "end"
line_text unit (FPort kind name x) = port_text kind ++ (name ++ (codes " " ++ format_text x))
line_text unit (FConst name x v) =
    codes "const " ++ (name ++ (codes " " ++ (format_text x ++ (codes " " ++ lit_text v))))
line_text unit (FVar name x v) =
    codes "var " ++ (name ++ (codes " " ++ (format_text x ++ (codes " " ++ lit_text v))))
line_text unit (FArray name x size vs) =
    codes "array " ++ (name ++ (codes " " ++ (format_text x ++ (codes " " ++ (decimal size ++ lits_text vs)))))
line_text unit (FRateVar name least greatest start) =
    codes "rate " ++ (name ++ (codes " " ++ (decimal least ++ (codes " " ++ (decimal greatest ++ (codes " " ++ decimal start))))))
line_text unit FSetAttributes = codes "set_attributes"
line_text unit FInitialize = codes "initialize"
line_text unit FProcessing = codes "processing"
line_text unit FChangeAttributes = codes "change_attributes"
line_text unit FReinitialize = codes "reinitialize"
line_text unit (FStep port count) = step_text unit port count
line_text unit (FRate port l) = codes "rate " ++ (port ++ (codes " " ++ limit_text l))
line_text unit (FDelay port count) = codes "delay " ++ (port ++ (codes " " ++ decimal count))
line_text unit FDoes = codes "does_attribute_changes"
line_text unit FAccept = codes "accept_attribute_changes"
line_text unit FReject = codes "reject_attribute_changes"
line_text unit (FInitial port place v) =
    codes "initial " ++ (port ++ (codes " " ++ (decimal place ++ (codes " " ++ lit_text v))))
line_text unit (FEvent name) = codes "event " ++ name
line_text unit FProcess = codes "process"
line_text unit (FSensitive name) = codes "sensitive " ++ name
line_text unit FDontInitialize = codes "dont_initialize"
line_text unit (FNotify event after) =
    codes "notify " ++ (event ++ (codes " after " ++ time_text unit after))
line_text unit (FSignal name x) = codes "signal " ++ (name ++ (codes " " ++ format_text x))
line_text unit (FDeSignal name x v) =
    codes "de_signal " ++ (name ++ (codes " " ++ (format_text x ++ (codes " " ++ lit_text v))))
line_text unit (FInstance name block) = codes "instance " ++ (name ++ (codes " " ++ block))
line_text unit (FBind instance port target) =
    codes "bind " ++ (instance ++ (codes "." ++ (port ++ (codes " " ++ target))))
line_text unit (FTrace path label) = codes "trace " ++ (path_text path ++ (codes " " ++ label))
line_text unit (FAssign name i e) = target_text name i ++ (codes " = " ++ expr_text e)
line_text unit (FIf e) = codes "if " ++ expr_text e
line_text unit FElse = codes "else"
line_text unit (FFor name from l) =
    codes "for " ++ (name ++ (codes " " ++ (decimal from ++ (codes " " ++ limit_text l))))
line_text unit (FSetRate name e) = codes "rate " ++ (name ++ (codes " = " ++ expr_text e))

-- a line with its LF
abbrev pub full_line : Resolution → Form → List ℕ
full_line unit f = line_text unit f ++ 10 ∷ []

abbrev pub lines_text : Resolution → List Form → List ℕ
lines_text unit [] = []
lines_text unit (f ∷ fs) = full_line unit f ++ lines_text unit fs
