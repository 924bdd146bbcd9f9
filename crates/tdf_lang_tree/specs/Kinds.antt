-- The kinds of lines of a model text, without what a line says (own).
use Rattle.tdf_lang_tree.specs.Forms.{Form, FType, FTdf, FDe, FComposite, FTop, FEnd, FPort, FConst, FVar, FArray, FRateVar, FSetAttributes, FInitialize, FProcessing, FChangeAttributes, FReinitialize, FStep, FRate, FDelay, FDoes, FAccept, FReject, FInitial, FEvent, FProcess, FSensitive, FDontInitialize, FNotify, FSignal, FDeSignal, FInstance, FBind, FTrace, FAssign, FIf, FElse, FFor, FSetRate}
use Rattle.tdf_lang_tree.specs.declared.blocks.PortKind.{PortKind}

pub data Kind : Type 0 where
  KType : Kind
  KTdf : Kind
  KDe : Kind
  KComposite : Kind
  KTop : Kind
  KEnd : Kind
  KPort : PortKind → Kind
  KConst : Kind
  KVar : Kind
  KArray : Kind
  KRateVar : Kind
  KSetAttributes : Kind
  KInitialize : Kind
  KProcessing : Kind
  KChangeAttributes : Kind
  KReinitialize : Kind
  KStep : Kind
  KRate : Kind
  KDelay : Kind
  KDoes : Kind
  KAccept : Kind
  KReject : Kind
  KInitial : Kind
  KEvent : Kind
  KProcess : Kind
  KSensitive : Kind
  KDontInitialize : Kind
  KNotify : Kind
  KSignal : Kind
  KDeSignal : Kind
  KInstance : Kind
  KBind : Kind
  KTrace : Kind
  KAssign : Kind
  KIf : Kind
  KElse : Kind
  KFor : Kind
  KSetRate : Kind

-- the kind of a line form
abbrev pub kind_of_form : Form → Kind
kind_of_form (FType name s) = KType
kind_of_form (FTdf name) = KTdf
kind_of_form (FDe name) = KDe
kind_of_form (FComposite name) = KComposite
kind_of_form FTop = KTop
kind_of_form FEnd = KEnd
kind_of_form (FPort kind name x) = KPort kind
kind_of_form (FConst name x v) = KConst
kind_of_form (FVar name x v) = KVar
kind_of_form (FArray name x size vs) = KArray
kind_of_form (FRateVar name least greatest start) = KRateVar
kind_of_form FSetAttributes = KSetAttributes
kind_of_form FInitialize = KInitialize
kind_of_form FProcessing = KProcessing
kind_of_form FChangeAttributes = KChangeAttributes
kind_of_form FReinitialize = KReinitialize
kind_of_form (FStep port step) = KStep
kind_of_form (FRate port l) = KRate
kind_of_form (FDelay port count) = KDelay
kind_of_form FDoes = KDoes
kind_of_form FAccept = KAccept
kind_of_form FReject = KReject
kind_of_form (FInitial port place v) = KInitial
kind_of_form (FEvent name) = KEvent
kind_of_form FProcess = KProcess
kind_of_form (FSensitive name) = KSensitive
kind_of_form FDontInitialize = KDontInitialize
kind_of_form (FNotify event after) = KNotify
kind_of_form (FSignal name x) = KSignal
kind_of_form (FDeSignal name x v) = KDeSignal
kind_of_form (FInstance name block) = KInstance
kind_of_form (FBind instance port target) = KBind
kind_of_form (FTrace path label) = KTrace
kind_of_form (FAssign name i e) = KAssign
kind_of_form (FIf test) = KIf
kind_of_form FElse = KElse
kind_of_form (FFor name from l) = KFor
kind_of_form (FSetRate name e) = KSetRate
