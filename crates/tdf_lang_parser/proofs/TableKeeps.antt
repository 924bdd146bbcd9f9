-- What each table makes of the form of a line: it keeps what the form keeps, and has the number of the line.
use Rattle.std.proofs.Common.{◌≡◌, ℕ, List, [], ◌∷◌, Option, Some, None, refl}
use Rattle.tdf_lang_parser.specs.Items.{tdf_line_of, attr_of, initial_of, de_port_of, de_line_of, sense_of, member_of, net_line_of, trace_item, BodyKind, Plain, OfChange, OfProcess, plain_of, change_statement, process_of, stmt_of}
use Rattle.tdf_lang_lines.proofs.Api.{KeepsForm}
use Rattle.tdf_lang_tree.specs.Forms.{Form, FPort, FConst, FVar, FArray, FRateVar, FStep, FRate, FDelay, FDoes, FAccept, FReject, FInitial, FEvent, FSensitive, FNotify, FSignal, FDeSignal, FInstance, FBind, FTrace, FAssign, FSetRate}
use Rattle.tdf_lang_tree.specs.Kept.{IsName, KeepsFormat, KeepsTdfLine, KeepsAttr, KeepsInitial, KeepsDeLine, KeepsSense, KeepsMember, KeepsTrace, KeepsStmt}
use Rattle.tdf_lang_tree.specs.LinesIn.{line_of_tdf_line, line_of_attr, line_of_initial, line_of_de_line, line_of_sense, line_of_member, line_of_trace, lines_of_stmt}
use Rattle.tdf_lang_tree.specs.declared.blocks.PortKind.{PortKind}
use Rattle.tdf_lang_tree.specs.declared.blocks.PortKind.TheVariants as port_kind
use Rattle.tdf_lang_tree.specs.declared.shapes.FormatRef.{FormatRef}

-- what is made, if it is, keeps what it should, and has this number
abbrev pub KeepsMade : {X N : Type 0} → (X → Type 0) → (X → N) → N → Option X → Type 0
KeepsMade keeps at line None = Unit {0}
KeepsMade keeps at line (Some x) = keeps x × (at x ≡ line)

pub tdf_line_keeps : (line : ℕ) (f : Form) → KeepsForm f → KeepsMade KeepsTdfLine line_of_tdf_line line (tdf_line_of line f)
tdf_line_keeps line (FPort kind name x) h = (h, refl)
tdf_line_keeps line (FConst name x v) h = (h, refl)
tdf_line_keeps line (FVar name x v) h = (h, refl)
tdf_line_keeps line (FArray name x n vs) h = (h, refl)
tdf_line_keeps line (FRateVar name least greatest start) h = (h, refl)
tdf_line_keeps line _ h = tt

pub attr_keeps : (line : ℕ) (f : Form) → KeepsForm f → KeepsMade KeepsAttr line_of_attr line (attr_of line f)
attr_keeps line (FStep port step) h = (h, refl)
attr_keeps line (FRate port rate) h = (h, refl)
attr_keeps line (FDelay port count) h = (h, refl)
attr_keeps line FDoes h = (tt, refl)
attr_keeps line FAccept h = (tt, refl)
attr_keeps line FReject h = (tt, refl)
attr_keeps line _ h = tt

pub initial_keeps : (line : ℕ) (f : Form) → KeepsForm f → KeepsMade KeepsInitial line_of_initial line (initial_of line f)
initial_keeps line (FInitial port place v) h = (h, refl)
initial_keeps line _ h = tt

de_port_keeps : (line : ℕ) (kind : PortKind) (name : List ℕ) (x : FormatRef) → IsName name × KeepsFormat x
    → KeepsMade KeepsDeLine line_of_de_line line (de_port_of line kind name x)
de_port_keeps line port_kind.DeIn name x h = (h, refl)
de_port_keeps line port_kind.DeOut name x h = (h, refl)
de_port_keeps line _ name x h = tt

pub de_line_keeps : (line : ℕ) (f : Form) → KeepsForm f → KeepsMade KeepsDeLine line_of_de_line line (de_line_of line f)
de_line_keeps line (FPort kind name x) h = de_port_keeps line kind name x h
de_line_keeps line (FConst name x v) h = (h, refl)
de_line_keeps line (FVar name x v) h = (h, refl)
de_line_keeps line (FArray name x n vs) h = (h, refl)
de_line_keeps line (FEvent name) h = (h, refl)
de_line_keeps line _ h = tt

pub sense_keeps : (line : ℕ) (f : Form) → KeepsForm f → KeepsMade KeepsSense line_of_sense line (sense_of line f)
sense_keeps line (FSensitive name) h = (h, refl)
sense_keeps line _ h = tt

pub member_keeps : (line : ℕ) (f : Form) → KeepsForm f → KeepsMade KeepsMember line_of_member line (member_of line f)
member_keeps line (FSignal name x) h = (h, refl)
member_keeps line (FDeSignal name x v) h = (h, refl)
member_keeps line (FInstance name block) h = (h, refl)
member_keeps line (FBind instance port target) h = (h, refl)
member_keeps line _ h = tt

pub net_line_keeps : (line : ℕ) (f : Form) → KeepsForm f → KeepsMade KeepsMember line_of_member line (net_line_of line f)
net_line_keeps line (FPort kind name x) h = (h, refl)
net_line_keeps line (FSignal name x) h = (h, refl)
net_line_keeps line (FDeSignal name x v) h = (h, refl)
net_line_keeps line (FInstance name block) h = (h, refl)
net_line_keeps line (FBind instance port target) h = (h, refl)
net_line_keeps line _ h = tt

pub trace_keeps : (line : ℕ) (f : Form) → KeepsForm f → KeepsMade KeepsTrace line_of_trace line (trace_item line f)
trace_keeps line (FTrace path label) h = (h, refl)
trace_keeps line _ h = tt

plain_keeps : (d line : ℕ) (f : Form) → KeepsForm f → KeepsMade (KeepsStmt d) lines_of_stmt (line ∷ []) (plain_of line f)
plain_keeps d line (FAssign name i e) h = (h, refl)
plain_keeps d line _ h = tt

change_keeps : (d line : ℕ) (f : Form) → KeepsForm f → KeepsMade (KeepsStmt d) lines_of_stmt (line ∷ []) (change_statement line f)
change_keeps d line (FSetRate name e) h = (h, refl)
change_keeps d line (FStep port step) h = (h, refl)
change_keeps d line FAccept h = (tt, refl)
change_keeps d line FReject h = (tt, refl)
change_keeps d line (FAssign name i e) h = (h, refl)
change_keeps d line _ h = tt

process_keeps : (d line : ℕ) (f : Form) → KeepsForm f → KeepsMade (KeepsStmt d) lines_of_stmt (line ∷ []) (process_of line f)
process_keeps d line (FNotify event after) h = (h, refl)
process_keeps d line (FAssign name i e) h = (h, refl)
process_keeps d line _ h = tt

pub stmt_keeps : (k : BodyKind) (d line : ℕ) (f : Form) → KeepsForm f → KeepsMade (KeepsStmt d) lines_of_stmt (line ∷ []) (stmt_of k line f)
stmt_keeps Plain d line f h = plain_keeps d line f h
stmt_keeps OfChange d line f h = change_keeps d line f h
stmt_keeps OfProcess d line f h = process_keeps d line f h
