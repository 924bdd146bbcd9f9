-- The forms that a table doesn't have.
use Rattle.std.proofs.Common.{◌≡◌, ℕ, zero, suc, ◌≤◌, Bool, true, false, cond, List, [], map, Option, None, Vec, refl, ap, ◌∙◌, arith}
use Rattle.std.specs.declared.alloc.Global.{Global}
use Rattle.tdf_lang_lines.specs.FormViews.{pure_form}
use Rattle.tdf_lang_parser.specs.Faults.{kind_of_body}
use Rattle.tdf_lang_parser.specs.Items.{stmt_of, attr_of, tdf_line_of, de_line_of, member_of, net_line_of, plain_of}
use Rattle.tdf_lang_tree.specs.Forms.{Form}
use Rattle.tdf_lang_parser.specs.views.PlaceViews.{begun_de, shown_frames}
use Rattle.tdf_lang_parser.specs.machine.Places.{PLost, Outer, Owner, OwnInitialize, OwnProcess, Frame, goes_attributes, goes_initialize, goes_net, goes_process, goes_body, goes_de, goes_top, more_attributes, more_body, more_de, more_net, more_top, goes_tdf, more_tdf, part_of}
use Rattle.tdf_lang_parser.specs.declared.places.Frame as open_frame
use Rattle.tdf_lang_parser.specs.declared.places.InDe.TheVariants as de
use Rattle.tdf_lang_parser.proofs.StmtLaws.{frames_none}
use Rattle.tdf_lang_tree.specs.Pure.{PureComposite, PureStmt, PureTdf, PureDe}
use Rattle.tdf_lang_tree.specs.Views.{pure_process, pure_stmt}
use Rattle.tdf_lang_tree.specs.declared.stmt.Stmt.{Stmt}
use Rattle.tdf_lang_lines.specs.declared.form.LineForm.{LineForm}
use Rattle.tdf_lang_lines.specs.declared.form.LineForm.TheVariants as lf
use Rattle.tdf_lang_tree.specs.declared.blocks.PortKind.{PortKind}
use Rattle.tdf_lang_tree.specs.declared.blocks.Process.{Process}
use Rattle.tdf_lang_tree.specs.declared.expr.Expr.{Expr}
use Rattle.tdf_lang_tree.specs.declared.expr.Index.{Index}
use Rattle.tdf_lang_tree.specs.declared.names.Lit.{Lit}
use Rattle.tdf_lang_tree.specs.declared.shapes.FormatRef.{FormatRef}
use Rattle.tdf_lang_tree.specs.declared.stmt.Limit.{Limit}

pub attr_other : (line : ℕ) (form : LineForm) → ((x0 : Option (List ℕ)) (x1 : ℕ) → form ≡ lf.Step x0 x1 → ⊥) → ((x0 : List ℕ) (x1 : Limit) → form ≡ lf.Rate x0 x1 → ⊥) → ((x0 : List ℕ) (x1 : ℕ) → form ≡ lf.Delay x0 x1 → ⊥) → (form ≡ lf.Does → ⊥) → (form ≡ lf.Accept → ⊥) → (form ≡ lf.Reject → ⊥) → None ≡ attr_of line (pure_form form)
attr_other line (lf.Step x0 x1) h0 h1 h2 h3 h4 h5 = absurd (h0 x0 x1 refl)
attr_other line (lf.Rate x0 x1) h0 h1 h2 h3 h4 h5 = absurd (h1 x0 x1 refl)
attr_other line (lf.Delay x0 x1) h0 h1 h2 h3 h4 h5 = absurd (h2 x0 x1 refl)
attr_other line lf.Does h0 h1 h2 h3 h4 h5 = absurd (h3 refl)
attr_other line lf.Accept h0 h1 h2 h3 h4 h5 = absurd (h4 refl)
attr_other line lf.Reject h0 h1 h2 h3 h4 h5 = absurd (h5 refl)
attr_other line _ h0 h1 h2 h3 h4 h5 = refl

pub tdf_line_other : (line : ℕ) (form : LineForm) → ((x0 : PortKind) (x1 : List ℕ) (x2 : FormatRef) → form ≡ lf.Port x0 x1 x2 → ⊥) → ((x0 : List ℕ) (x1 : FormatRef) (x2 : Lit) → form ≡ lf.Const x0 x1 x2 → ⊥) → ((x0 : List ℕ) (x1 : FormatRef) (x2 : Lit) → form ≡ lf.Var x0 x1 x2 → ⊥) → ((x0 : List ℕ) (x1 : FormatRef) (x2 : ℕ) (x3 : Vec Lit Global) → form ≡ lf.Array x0 x1 x2 x3 → ⊥) → ((x0 : List ℕ) (x1 : ℕ) (x2 : ℕ) (x3 : ℕ) → form ≡ lf.RateVar x0 x1 x2 x3 → ⊥) → None ≡ tdf_line_of line (pure_form form)
tdf_line_other line (lf.Port x0 x1 x2) h0 h1 h2 h3 h4 = absurd (h0 x0 x1 x2 refl)
tdf_line_other line (lf.Const x0 x1 x2) h0 h1 h2 h3 h4 = absurd (h1 x0 x1 x2 refl)
tdf_line_other line (lf.Var x0 x1 x2) h0 h1 h2 h3 h4 = absurd (h2 x0 x1 x2 refl)
tdf_line_other line (lf.Array x0 x1 x2 x3) h0 h1 h2 h3 h4 = absurd (h3 x0 x1 x2 x3 refl)
tdf_line_other line (lf.RateVar x0 x1 x2 x3) h0 h1 h2 h3 h4 = absurd (h4 x0 x1 x2 x3 refl)
tdf_line_other line _ h0 h1 h2 h3 h4 = refl

pub de_line_other : (line : ℕ) (form : LineForm) → ((x0 : PortKind) (x1 : List ℕ) (x2 : FormatRef) → form ≡ lf.Port x0 x1 x2 → ⊥) → ((x0 : List ℕ) (x1 : FormatRef) (x2 : Lit) → form ≡ lf.Const x0 x1 x2 → ⊥) → ((x0 : List ℕ) (x1 : FormatRef) (x2 : Lit) → form ≡ lf.Var x0 x1 x2 → ⊥) → ((x0 : List ℕ) (x1 : FormatRef) (x2 : ℕ) (x3 : Vec Lit Global) → form ≡ lf.Array x0 x1 x2 x3 → ⊥) → ((x0 : List ℕ) → form ≡ lf.Event x0 → ⊥) → None ≡ de_line_of line (pure_form form)
de_line_other line (lf.Port x0 x1 x2) h0 h1 h2 h3 h4 = absurd (h0 x0 x1 x2 refl)
de_line_other line (lf.Const x0 x1 x2) h0 h1 h2 h3 h4 = absurd (h1 x0 x1 x2 refl)
de_line_other line (lf.Var x0 x1 x2) h0 h1 h2 h3 h4 = absurd (h2 x0 x1 x2 refl)
de_line_other line (lf.Array x0 x1 x2 x3) h0 h1 h2 h3 h4 = absurd (h3 x0 x1 x2 x3 refl)
de_line_other line (lf.Event x0) h0 h1 h2 h3 h4 = absurd (h4 x0 refl)
de_line_other line _ h0 h1 h2 h3 h4 = refl

pub member_other : (line : ℕ) (form : LineForm) → ((x0 : List ℕ) (x1 : FormatRef) → form ≡ lf.Signal x0 x1 → ⊥) → ((x0 : List ℕ) (x1 : FormatRef) (x2 : Lit) → form ≡ lf.DeSignal x0 x1 x2 → ⊥) → ((x0 : List ℕ) (x1 : List ℕ) → form ≡ lf.Instance x0 x1 → ⊥) → ((x0 : List ℕ) (x1 : List ℕ) (x2 : List ℕ) → form ≡ lf.Bind x0 x1 x2 → ⊥) → None ≡ member_of line (pure_form form)
member_other line (lf.Signal x0 x1) h0 h1 h2 h3 = absurd (h0 x0 x1 refl)
member_other line (lf.DeSignal x0 x1 x2) h0 h1 h2 h3 = absurd (h1 x0 x1 x2 refl)
member_other line (lf.Instance x0 x1) h0 h1 h2 h3 = absurd (h2 x0 x1 refl)
member_other line (lf.Bind x0 x1 x2) h0 h1 h2 h3 = absurd (h3 x0 x1 x2 refl)
member_other line _ h0 h1 h2 h3 = refl

pub plain_other : (line : ℕ) (form : LineForm) → ((x0 : List ℕ) (x1 : Option Index) (x2 : Expr) → form ≡ lf.Assign x0 x1 x2 → ⊥) → None ≡ plain_of line (pure_form form)
plain_other line (lf.Assign x0 x1 x2) h0 = absurd (h0 x0 x1 x2 refl)
plain_other line _ h0 = refl

pub initialize_other : (o : Outer) (t : PureTdf) (n : ℕ) (form : LineForm) → ((x0 : List ℕ) (x1 : ℕ) (x2 : Lit) → form ≡ lf.Initial x0 x1 x2 → ⊥)
    → goes_initialize o t n (pure_form form) ≡ goes_body (OwnInitialize o t) [] [] n (pure_form form)
initialize_other o t n (lf.Initial x0 x1 x2) h = absurd (h x0 x1 x2 refl)
initialize_other o t n _ h = refl

pub de_other : (o : Outer) (declares : Bool) (d : PureDe) (n : ℕ) (form : LineForm) → (form ≡ lf.Process → ⊥) → (form ≡ lf.End → ⊥)
    → goes_de o declares d n (pure_form form) ≡ cond declares (more_de o d (de_line_of n (pure_form form))) PLost
de_other o true d n lf.Process h k = absurd (h refl)
de_other o true d n lf.End h k = absurd (k refl)
de_other o true d n _ h k = refl
de_other o false d n lf.Process h k = absurd (h refl)
de_other o false d n lf.End h k = absurd (k refl)
de_other o false d n _ h k = refl

pub tdf_first : (o : Outer) (parts : ℕ) (t : PureTdf) (n : ℕ) (form : LineForm) → parts ≤ 0 → (form ≡ lf.SetAttributes → ⊥) → (form ≡ lf.Initialize → ⊥) → (form ≡ lf.Processing → ⊥)
    → (form ≡ lf.ChangeAttributes → ⊥) → (form ≡ lf.Reinitialize → ⊥) → (form ≡ lf.End → ⊥) → goes_tdf o parts t n (pure_form form) ≡ more_tdf o t (tdf_line_of n (pure_form form))
tdf_first o (suc parts) t n form q h0 h1 h2 h3 h4 h5 = absurd (omega (arith, q))
tdf_first o zero t n lf.SetAttributes q h0 h1 h2 h3 h4 h5 = absurd (h0 refl)
tdf_first o zero t n lf.Initialize q h0 h1 h2 h3 h4 h5 = absurd (h1 refl)
tdf_first o zero t n lf.Processing q h0 h1 h2 h3 h4 h5 = absurd (h2 refl)
tdf_first o zero t n lf.ChangeAttributes q h0 h1 h2 h3 h4 h5 = absurd (h3 refl)
tdf_first o zero t n lf.Reinitialize q h0 h1 h2 h3 h4 h5 = absurd (h4 refl)
tdf_first o zero t n lf.End q h0 h1 h2 h3 h4 h5 = absurd (h5 refl)
tdf_first o zero t n _ q h0 h1 h2 h3 h4 h5 = refl

pub attributes_other : (o : Outer) (t : PureTdf) (n : ℕ) (form : LineForm) → (form ≡ lf.End → ⊥)
    → goes_attributes o t n (pure_form form) ≡ more_attributes o t (attr_of n (pure_form form))
attributes_other o t n lf.End h = absurd (h refl)
attributes_other o t n _ h = refl

pub net_other : (o : Outer) (c : PureComposite) (n : ℕ) (form : LineForm) → (form ≡ lf.End → ⊥)
    → goes_net o c n (pure_form form) ≡ more_net o c (net_line_of n (pure_form form))
net_other o c n lf.End h = absurd (h refl)
net_other o c n _ h = refl

pub top_other : (o : Outer) (c : PureComposite) (n : ℕ) (form : LineForm) → (form ≡ lf.End → ⊥)
    → goes_top o c n (pure_form form) ≡ more_top o c (member_of n (pure_form form))
top_other o c n lf.End h = absurd (h refl)
top_other o c n _ h = refl

pub begun_other : (o : Outer) (d : PureDe) (p : Process) (n : ℕ) (form : LineForm) → (form ≡ lf.DontInitialize → ⊥)
    → begun_de o d (de.Process p) n (pure_form form) ≡ goes_body (OwnProcess o d (pure_process p)) [] [] n (pure_form form)
begun_other o d p n lf.DontInitialize h = absurd (h refl)
begun_other o d p n _ h = refl

pub process_begins : (o : Outer) (d : PureDe) (p : Process) (n : ℕ) (form : LineForm) → ((x0 : List ℕ) → form ≡ lf.Sensitive x0 → ⊥)
    → goes_process o d (pure_process p) n (pure_form form) ≡ begun_de o d (de.Process p) n (pure_form form)
process_begins o d p n (lf.Sensitive x0) h = absurd (h x0 refl)
process_begins o d p n lf.DontInitialize h = refl
process_begins o d p n _ h = refl

pub body_other : (o : Owner) (fs : List Frame) (acc : List PureStmt) (n : ℕ) (form : LineForm) → ((x0 : Expr) → form ≡ lf.If x0 → ⊥)
    → ((x0 : List ℕ) (x1 : ℕ) (x2 : Limit) → form ≡ lf.For x0 x1 x2 → ⊥) → (form ≡ lf.Else → ⊥) → (form ≡ lf.End → ⊥)
    → goes_body o fs acc n (pure_form form) ≡ more_body o fs acc (stmt_of (kind_of_body (part_of o)) n (pure_form form))
body_other o fs acc n (lf.If x0) h0 h1 h2 h3 = absurd (h0 x0 refl)
body_other o fs acc n (lf.For x0 x1 x2) h0 h1 h2 h3 = absurd (h1 x0 x1 x2 refl)
body_other o fs acc n lf.Else h0 h1 h2 h3 = absurd (h2 refl)
body_other o fs acc n lf.End h0 h1 h2 h3 = absurd (h3 refl)
body_other o fs acc n _ h0 h1 h2 h3 = refl

-- an empty body begins
pub body_begins : (owner : Owner) (fs : List open_frame.Frame) (acc : List Stmt) (n : ℕ) (f : Form) → fs ≡ [] → acc ≡ []
    → goes_body owner (shown_frames fs) (map pure_stmt acc) n f ≡ goes_body owner [] [] n f
body_begins owner fs acc n f e g =
    ap (λ (u : List Frame). goes_body owner u (map pure_stmt acc) n f) (ap shown_frames e ∙ frames_none) ∙ ap (λ (u : List Stmt). goes_body owner [] (map pure_stmt u) n f) g
