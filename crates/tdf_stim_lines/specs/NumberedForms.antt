-- The line numbers of a tree, each with the form of the line on which its part stands.
-- Source: own.
use Rattle.std.specs.List.{flat_map, AllByRecursion}
use Rattle.std.specs.Prelude.{◌≡◌, ◌≤◌, ◌-◌, ℕ, Some, List, [], ◌∷◌, ◌++◌, map, slice_get}
use Rattle.tdf_lang_printer.specs.Canon.{tdf_line, attr_line, initial_line, de_line, sense_line, member_line, form_of_trace}
use Rattle.tdf_lang_tree.specs.Forms.{Form, FType, FTdf, FDe, FComposite, FTop, FEnd, FProcess, FAssign, FIf, FFor, FNotify, FSetRate, FStep, FAccept, FReject}
use Rattle.tdf_lang_tree.specs.LinesIn.{line_of_tdf_line, line_of_attr, line_of_initial, line_of_sense, line_of_de_line, line_of_member, line_of_trace}
use Rattle.tdf_lang_tree.specs.Pure.{PureStmt, SAssign, SIf, SFor, SNotify, SSetRate, SSetStep, SAccept, SReject, PureStmts, Done, More, PureBody, PureTdf, PureProcess, PureDe, PureComposite, PureGlobal, GShape, GTdf, GDe, GNet, PureTree}

-- the number of a part, and what the line of the part says
pub record NumberedForm : Type 0 where
  pub number : ℕ
  pub form : Form

abbrev pub numbered_form : ℕ → Form → NumberedForm
numbered_form number form = record { number = number; form = form }

-- parts of one line each
abbrev pub forms_by : {A : Type 0} → (A → ℕ) → (A → Form) → List A → List NumberedForm
forms_by number form list = map (λ x. numbered_form (number x) (form x)) list

abbrev mutual
  pub stmt_forms : PureStmt → List NumberedForm
  stmt_forms (SAssign line name i x) = numbered_form line (FAssign name i x) ∷ []
  stmt_forms (SIf line x first second) =
      numbered_form line (FIf x) ∷ (stmts_forms first ++ stmts_forms second)
  stmt_forms (SFor line name from l body) = numbered_form line (FFor name from l) ∷ stmts_forms body
  stmt_forms (SNotify line event after) = numbered_form line (FNotify event after) ∷ []
  stmt_forms (SSetRate line name x) = numbered_form line (FSetRate name x) ∷ []
  stmt_forms (SSetStep line port step) = numbered_form line (FStep port step) ∷ []
  stmt_forms (SAccept line) = numbered_form line FAccept ∷ []
  stmt_forms (SReject line) = numbered_form line FReject ∷ []

  pub stmts_forms : PureStmts → List NumberedForm
  stmts_forms Done = []
  stmts_forms (More s ss) = stmt_forms s ++ stmts_forms ss

-- a body's statements and its `end`; a body without a statement has no line
abbrev pub forms_to_end : PureStmts → ℕ → List NumberedForm
forms_to_end Done end = []
forms_to_end (More s ss) end = stmts_forms (More s ss) ++ numbered_form end FEnd ∷ []

abbrev pub body_forms : PureBody → List NumberedForm
body_forms body = forms_to_end body.list body.end

abbrev pub tdf_forms : PureTdf → List NumberedForm
tdf_forms b = numbered_form b.line (FTdf b.name) ∷ (forms_by line_of_tdf_line tdf_line b.decls
    ++ (forms_by line_of_attr attr_line b.attrs
    ++ (forms_by line_of_initial initial_line b.initials
    ++ (body_forms b.initialize ++ (body_forms b.processing
    ++ (body_forms b.change ++ body_forms b.reinitialize))))))

abbrev pub process_forms : PureProcess → List NumberedForm
process_forms p = numbered_form p.line FProcess
    ∷ (forms_by line_of_sense sense_line p.sensitive ++ body_forms p.body)

abbrev pub de_forms : PureDe → List NumberedForm
de_forms b = numbered_form b.line (FDe b.name)
    ∷ (forms_by line_of_de_line de_line b.decls ++ flat_map process_forms b.processes)

abbrev pub members_forms : PureComposite → List NumberedForm
members_forms b = forms_by line_of_member member_line b.members

abbrev pub global_forms : PureGlobal → List NumberedForm
global_forms (GShape t) = numbered_form t.line (FType t.name t.shape) ∷ []
global_forms (GTdf block) = tdf_forms block
global_forms (GDe block) = de_forms block
global_forms (GNet block) = numbered_form block.line (FComposite block.name) ∷ members_forms block

abbrev pub tree_forms : PureTree → List NumberedForm
tree_forms tree = flat_map global_forms tree.globals ++ (numbered_form tree.top.line FTop
    ∷ (members_forms tree.top ++ forms_by line_of_trace form_of_trace tree.traces))

-- of lines that are numbered from `first` on, the one with this number says this
pub record IsInPlace (first : ℕ) (lines : List Form) (part : NumberedForm) : Type 0 where
  pub from : first ≤ part.number
  pub there : slice_get lines (part.number - first) ≡ Some part.form

abbrev pub AreInPlace : (first : ℕ) → List Form → List NumberedForm → Type 0
AreInPlace first lines forms = AllByRecursion (IsInPlace first lines) forms
