-- Which line form a value of the code stands for (own).
use Rattle.tdf_lang_tree.specs.Views.{pure_expr}
use Rattle.tdf_lang_tree.specs.Forms.{Form, FType, FTdf, FDe, FComposite, FTop, FEnd, FPort, FConst, FVar, FArray, FRateVar, FSetAttributes, FInitialize, FProcessing, FChangeAttributes, FReinitialize, FStep, FRate, FDelay, FDoes, FAccept, FReject, FInitial, FEvent, FProcess, FSensitive, FDontInitialize, FNotify, FSignal, FDeSignal, FInstance, FBind, FTrace, FAssign, FIf, FElse, FFor, FSetRate}
use Rattle.tdf_lang_lines.specs.declared.form.LineForm.{LineForm}
use Rattle.tdf_lang_lines.specs.declared.form.LineForm.TheVariants as line

abbrev pub pure_form : LineForm → Form
pure_form (line.Type name s) = FType name s
pure_form (line.Tdf name) = FTdf name
pure_form (line.De name) = FDe name
pure_form (line.Composite name) = FComposite name
pure_form line.Top = FTop
pure_form line.End = FEnd
pure_form (line.Port kind name x) = FPort kind name x
pure_form (line.Const name x v) = FConst name x v
pure_form (line.Var name x v) = FVar name x v
pure_form (line.Array name x n vs) = FArray name x n vs.items
pure_form (line.RateVar name least greatest start) = FRateVar name least greatest start
pure_form line.SetAttributes = FSetAttributes
pure_form line.Initialize = FInitialize
pure_form line.Processing = FProcessing
pure_form line.ChangeAttributes = FChangeAttributes
pure_form line.Reinitialize = FReinitialize
pure_form (line.Step port step) = FStep port step
pure_form (line.Rate port rate) = FRate port rate
pure_form (line.Delay port count) = FDelay port count
pure_form line.Does = FDoes
pure_form line.Accept = FAccept
pure_form line.Reject = FReject
pure_form (line.Initial port place v) = FInitial port place v
pure_form (line.Event name) = FEvent name
pure_form line.Process = FProcess
pure_form (line.Sensitive name) = FSensitive name
pure_form line.DontInitialize = FDontInitialize
pure_form (line.Notify event after) = FNotify event after
pure_form (line.Signal name x) = FSignal name x
pure_form (line.DeSignal name x v) = FDeSignal name x v
pure_form (line.Instance name block) = FInstance name block
pure_form (line.Bind instance port target) = FBind instance port target
pure_form (line.Trace path label) = FTrace path.items label
pure_form (line.Assign name i e) = FAssign name i (pure_expr e)
pure_form (line.If test) = FIf (pure_expr test)
pure_form line.Else = FElse
pure_form (line.For name from l) = FFor name from l
pure_form (line.SetRate name e) = FSetRate name (pure_expr e)
