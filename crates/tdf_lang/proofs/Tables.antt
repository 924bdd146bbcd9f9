-- Token lines that have the canonical tokens of a tree spell a tree alike it.
use Rattle.std.proofs.Common.{◌≡◌, ℕ, List, [], ◌∷◌, Option, Some, refl, sym, ap, ◌∙◌}
use Rattle.tdf_lang_tree.specs.Forms.{Form, FPort, FConst, FVar, FArray, FRateVar, FStep, FRate, FDelay, FDoes, FAccept, FReject, FInitial, FEvent, FSensitive, FNotify, FSignal, FDeSignal, FInstance, FBind, FTrace, FAssign, FSetRate}
use Rattle.tdf_lang_parser.specs.Items.{tdf_line_of, attr_of, initial_of, de_port_of, de_line_of, sense_of, member_of, net_line_of, trace_item, BodyKind, Plain, OfChange, OfProcess, plain_of, change_statement, process_of, stmt_of}
use Rattle.tdf_lang_tree.specs.Alike.{bare_stmt, bare_tdf_line, bare_attr, bare_initial, bare_de_line, bare_sense, bare_member, bare_trace}
use Rattle.tdf_lang_tree.specs.Pure.{PureStmt, SAssign, SNotify, SSetRate, SSetStep, SAccept, SReject, SConst, SVar, SArray, PureTdfLine, TPort, TStore, TRate, PureDeLine, DPort, DStore, DEvent, PureTrace}
use Rattle.tdf_lang_tree.specs.declared.blocks.Attr.{Attr}
use Rattle.tdf_lang_tree.specs.declared.blocks.Attr.TheVariants as attr
use Rattle.tdf_lang_tree.specs.declared.blocks.Initial.{Initial}
use Rattle.tdf_lang_tree.specs.declared.blocks.Member.{Member}
use Rattle.tdf_lang_tree.specs.declared.blocks.Member.TheVariants as member
use Rattle.tdf_lang_tree.specs.declared.blocks.PortKind.{PortKind}
use Rattle.tdf_lang_tree.specs.declared.blocks.PortKind.TheVariants as port_kind
use Rattle.tdf_lang_tree.specs.declared.blocks.Sense.{Sense}
use Rattle.tdf_lang_tree.specs.declared.shapes.FormatRef.{FormatRef}
use Rattle.tdf_lang_printer.specs.Canon.{tdf_line, attr_line, initial_line, de_line, sense_line, member_line, form_of_trace, stmt_lines}

-- an item that a line gives, at the line of another number
pub record Moved {X L : Type 0} (of : ℕ → Form → Option X) (line : X → L) (bare_of : X → X) (m : ℕ) (f : Form) (want : L) (x : X) : Type 0 where
  pub form : line x ≡ want
  pub new : X
  pub reads : of m f ≡ Some new
  pub same : bare_of new ≡ bare_of x

made : {X L : Type 0} (of : ℕ → Form → Option X) (line : X → L) (bare_of : X → X) (m : ℕ) (f : Form) (want : L) (x old new : X)
    → old ≡ x → line old ≡ want → of m f ≡ Some new → bare_of new ≡ bare_of old → Moved of line bare_of m f want x
made of line bare_of m f want x old new e g r k = record { form = ap line (sym e) ∙ g; new = new; reads = r; same = k ∙ ap bare_of e }

pub tdf_table : (n m : ℕ) (f : Form) (y : PureTdfLine) → tdf_line_of n f ≡ Some y → Moved tdf_line_of tdf_line bare_tdf_line m f (f) y
tdf_table n m (FPort kind name x) y h = let e : (TPort (record { line = n; kind = kind; name = name; format = x })) ≡ y = cc in made tdf_line_of tdf_line bare_tdf_line m (FPort kind name x) ((FPort kind name x)) y (TPort (record { line = n; kind = kind; name = name; format = x })) (TPort (record { line = m; kind = kind; name = name; format = x })) e refl refl refl
tdf_table n m (FConst name x v) y h = let e : (TStore (SConst n name x v)) ≡ y = cc in made tdf_line_of tdf_line bare_tdf_line m (FConst name x v) ((FConst name x v)) y (TStore (SConst n name x v)) (TStore (SConst m name x v)) e refl refl refl
tdf_table n m (FVar name x v) y h = let e : (TStore (SVar n name x v)) ≡ y = cc in made tdf_line_of tdf_line bare_tdf_line m (FVar name x v) ((FVar name x v)) y (TStore (SVar n name x v)) (TStore (SVar m name x v)) e refl refl refl
tdf_table n m (FArray name x k vs) y h = let e : (TStore (SArray n name x k vs)) ≡ y = cc in made tdf_line_of tdf_line bare_tdf_line m (FArray name x k vs) ((FArray name x k vs)) y (TStore (SArray n name x k vs)) (TStore (SArray m name x k vs)) e refl refl refl
tdf_table n m (FRateVar name least greatest start) y h = let e : (TRate n name least greatest start) ≡ y = cc in made tdf_line_of tdf_line bare_tdf_line m (FRateVar name least greatest start) ((FRateVar name least greatest start)) y (TRate n name least greatest start) (TRate m name least greatest start) e refl refl refl
tdf_table n m _ y h = absurd (cc)

pub attr_table : (n m : ℕ) (f : Form) (y : Attr) → attr_of n f ≡ Some y → Moved attr_of attr_line bare_attr m f (f) y
attr_table n m (FStep port step) y h = let e : (attr.Step n port step) ≡ y = cc in made attr_of attr_line bare_attr m (FStep port step) ((FStep port step)) y (attr.Step n port step) (attr.Step m port step) e refl refl refl
attr_table n m (FRate port rate) y h = let e : (attr.Rate n port rate) ≡ y = cc in made attr_of attr_line bare_attr m (FRate port rate) ((FRate port rate)) y (attr.Rate n port rate) (attr.Rate m port rate) e refl refl refl
attr_table n m (FDelay port count) y h = let e : (attr.Delay n port count) ≡ y = cc in made attr_of attr_line bare_attr m (FDelay port count) ((FDelay port count)) y (attr.Delay n port count) (attr.Delay m port count) e refl refl refl
attr_table n m FDoes y h = let e : (attr.Does n) ≡ y = cc in made attr_of attr_line bare_attr m FDoes (FDoes) y (attr.Does n) (attr.Does m) e refl refl refl
attr_table n m FAccept y h = let e : (attr.Accept n) ≡ y = cc in made attr_of attr_line bare_attr m FAccept (FAccept) y (attr.Accept n) (attr.Accept m) e refl refl refl
attr_table n m FReject y h = let e : (attr.Reject n) ≡ y = cc in made attr_of attr_line bare_attr m FReject (FReject) y (attr.Reject n) (attr.Reject m) e refl refl refl
attr_table n m _ y h = absurd (cc)

pub initial_table : (n m : ℕ) (f : Form) (y : Initial) → initial_of n f ≡ Some y → Moved initial_of initial_line bare_initial m f (f) y
initial_table n m (FInitial port place v) y h = let e : (record { line = n; port = port; place = place; value = v }) ≡ y = cc in made initial_of initial_line bare_initial m (FInitial port place v) ((FInitial port place v)) y (record { line = n; port = port; place = place; value = v }) (record { line = m; port = port; place = place; value = v }) e refl refl refl
initial_table n m _ y h = absurd (cc)

de_port_table : (n m : ℕ) (kind : PortKind) (name : List ℕ) (x : FormatRef) (y : PureDeLine) → de_port_of n kind name x ≡ Some y
    → Moved de_line_of de_line bare_de_line m (FPort kind name x) (FPort kind name x) y
de_port_table n m port_kind.DeIn name x y h = let e : (DPort (record { line = n; kind = port_kind.DeIn; name = name; format = x })) ≡ y = cc in made de_line_of de_line bare_de_line m (FPort port_kind.DeIn name x) (FPort port_kind.DeIn name x) y (DPort (record { line = n; kind = port_kind.DeIn; name = name; format = x })) (DPort (record { line = m; kind = port_kind.DeIn; name = name; format = x })) e refl refl refl
de_port_table n m port_kind.DeOut name x y h = let e : (DPort (record { line = n; kind = port_kind.DeOut; name = name; format = x })) ≡ y = cc in made de_line_of de_line bare_de_line m (FPort port_kind.DeOut name x) (FPort port_kind.DeOut name x) y (DPort (record { line = n; kind = port_kind.DeOut; name = name; format = x })) (DPort (record { line = m; kind = port_kind.DeOut; name = name; format = x })) e refl refl refl
de_port_table n m _ name x y h = absurd (cc)

pub de_table : (n m : ℕ) (f : Form) (y : PureDeLine) → de_line_of n f ≡ Some y → Moved de_line_of de_line bare_de_line m f (f) y
de_table n m (FConst name x v) y h = let e : (DStore (SConst n name x v)) ≡ y = cc in made de_line_of de_line bare_de_line m (FConst name x v) ((FConst name x v)) y (DStore (SConst n name x v)) (DStore (SConst m name x v)) e refl refl refl
de_table n m (FVar name x v) y h = let e : (DStore (SVar n name x v)) ≡ y = cc in made de_line_of de_line bare_de_line m (FVar name x v) ((FVar name x v)) y (DStore (SVar n name x v)) (DStore (SVar m name x v)) e refl refl refl
de_table n m (FArray name x k vs) y h = let e : (DStore (SArray n name x k vs)) ≡ y = cc in made de_line_of de_line bare_de_line m (FArray name x k vs) ((FArray name x k vs)) y (DStore (SArray n name x k vs)) (DStore (SArray m name x k vs)) e refl refl refl
de_table n m (FEvent name) y h = let e : (DEvent n name) ≡ y = cc in made de_line_of de_line bare_de_line m (FEvent name) ((FEvent name)) y (DEvent n name) (DEvent m name) e refl refl refl
de_table n m (FPort kind name x) y h = de_port_table n m kind name x y h
de_table n m _ y h = absurd (cc)

pub sense_table : (n m : ℕ) (f : Form) (y : Sense) → sense_of n f ≡ Some y → Moved sense_of sense_line bare_sense m f (f) y
sense_table n m (FSensitive name) y h = let e : (record { line = n; name = name }) ≡ y = cc in made sense_of sense_line bare_sense m (FSensitive name) ((FSensitive name)) y (record { line = n; name = name }) (record { line = m; name = name }) e refl refl refl
sense_table n m _ y h = absurd (cc)

pub member_table : (n m : ℕ) (f : Form) (y : Member) → member_of n f ≡ Some y → Moved member_of member_line bare_member m f (f) y
member_table n m (FSignal name x) y h = let e : (member.Signal n name x) ≡ y = cc in made member_of member_line bare_member m (FSignal name x) ((FSignal name x)) y (member.Signal n name x) (member.Signal m name x) e refl refl refl
member_table n m (FDeSignal name x v) y h = let e : (member.DeSignal n name x v) ≡ y = cc in made member_of member_line bare_member m (FDeSignal name x v) ((FDeSignal name x v)) y (member.DeSignal n name x v) (member.DeSignal m name x v) e refl refl refl
member_table n m (FInstance name block) y h = let e : (member.Instance n name block) ≡ y = cc in made member_of member_line bare_member m (FInstance name block) ((FInstance name block)) y (member.Instance n name block) (member.Instance m name block) e refl refl refl
member_table n m (FBind instance port target) y h = let e : (member.Bind n instance port target) ≡ y = cc in made member_of member_line bare_member m (FBind instance port target) ((FBind instance port target)) y (member.Bind n instance port target) (member.Bind m instance port target) e refl refl refl
member_table n m _ y h = absurd (cc)

pub net_table : (n m : ℕ) (f : Form) (y : Member) → net_line_of n f ≡ Some y → Moved net_line_of member_line bare_member m f (f) y
net_table n m (FPort kind name x) y h = let e : (member.Port (record { line = n; kind = kind; name = name; format = x })) ≡ y = cc in made net_line_of member_line bare_member m (FPort kind name x) ((FPort kind name x)) y (member.Port (record { line = n; kind = kind; name = name; format = x })) (member.Port (record { line = m; kind = kind; name = name; format = x })) e refl refl refl
net_table n m (FSignal name x) y h = let e : (member.Signal n name x) ≡ y = cc in made net_line_of member_line bare_member m (FSignal name x) ((FSignal name x)) y (member.Signal n name x) (member.Signal m name x) e refl refl refl
net_table n m (FDeSignal name x v) y h = let e : (member.DeSignal n name x v) ≡ y = cc in made net_line_of member_line bare_member m (FDeSignal name x v) ((FDeSignal name x v)) y (member.DeSignal n name x v) (member.DeSignal m name x v) e refl refl refl
net_table n m (FInstance name block) y h = let e : (member.Instance n name block) ≡ y = cc in made net_line_of member_line bare_member m (FInstance name block) ((FInstance name block)) y (member.Instance n name block) (member.Instance m name block) e refl refl refl
net_table n m (FBind instance port target) y h = let e : (member.Bind n instance port target) ≡ y = cc in made net_line_of member_line bare_member m (FBind instance port target) ((FBind instance port target)) y (member.Bind n instance port target) (member.Bind m instance port target) e refl refl refl
net_table n m _ y h = absurd (cc)

pub trace_table : (n m : ℕ) (f : Form) (y : PureTrace) → trace_item n f ≡ Some y → Moved trace_item form_of_trace bare_trace m f (f) y
trace_table n m (FTrace path label) y h = let e : (record { line = n; path = path; label = label }) ≡ y = cc in made trace_item form_of_trace bare_trace m (FTrace path label) ((FTrace path label)) y (record { line = n; path = path; label = label }) (record { line = m; path = path; label = label }) e refl refl refl
trace_table n m _ y h = absurd (cc)

plain_table : (n m : ℕ) (f : Form) (y : PureStmt) → plain_of n f ≡ Some y → Moved plain_of stmt_lines bare_stmt m f (f ∷ []) y
plain_table n m (FAssign name i e) y h = let q : (SAssign n name i e) ≡ y = cc in made plain_of stmt_lines bare_stmt m (FAssign name i e) ((FAssign name i e) ∷ []) y (SAssign n name i e) (SAssign m name i e) q refl refl refl
plain_table n m _ y h = absurd (cc)

change_table : (n m : ℕ) (f : Form) (y : PureStmt) → change_statement n f ≡ Some y → Moved change_statement stmt_lines bare_stmt m f (f ∷ []) y
change_table n m (FAssign name i e) y h = let q : (SAssign n name i e) ≡ y = cc in made change_statement stmt_lines bare_stmt m (FAssign name i e) ((FAssign name i e) ∷ []) y (SAssign n name i e) (SAssign m name i e) q refl refl refl
change_table n m (FSetRate name e) y h = let q : (SSetRate n name e) ≡ y = cc in made change_statement stmt_lines bare_stmt m (FSetRate name e) ((FSetRate name e) ∷ []) y (SSetRate n name e) (SSetRate m name e) q refl refl refl
change_table n m (FStep port step) y h = let q : (SSetStep n port step) ≡ y = cc in made change_statement stmt_lines bare_stmt m (FStep port step) ((FStep port step) ∷ []) y (SSetStep n port step) (SSetStep m port step) q refl refl refl
change_table n m FAccept y h = let q : (SAccept n) ≡ y = cc in made change_statement stmt_lines bare_stmt m FAccept (FAccept ∷ []) y (SAccept n) (SAccept m) q refl refl refl
change_table n m FReject y h = let q : (SReject n) ≡ y = cc in made change_statement stmt_lines bare_stmt m FReject (FReject ∷ []) y (SReject n) (SReject m) q refl refl refl
change_table n m _ y h = absurd (cc)

process_table : (n m : ℕ) (f : Form) (y : PureStmt) → process_of n f ≡ Some y → Moved process_of stmt_lines bare_stmt m f (f ∷ []) y
process_table n m (FAssign name i e) y h = let q : (SAssign n name i e) ≡ y = cc in made process_of stmt_lines bare_stmt m (FAssign name i e) ((FAssign name i e) ∷ []) y (SAssign n name i e) (SAssign m name i e) q refl refl refl
process_table n m (FNotify event after) y h = let q : (SNotify n event after) ≡ y = cc in made process_of stmt_lines bare_stmt m (FNotify event after) ((FNotify event after) ∷ []) y (SNotify n event after) (SNotify m event after) q refl refl refl
process_table n m _ y h = absurd (cc)

pub stmt_table : (k : BodyKind) (n m : ℕ) (f : Form) (y : PureStmt) → stmt_of k n f ≡ Some y → Moved (stmt_of k) stmt_lines bare_stmt m f (f ∷ []) y
stmt_table Plain n m f y h = let r = plain_table n m f y h in record { form = r.form; new = r.new; reads = r.reads; same = r.same }
stmt_table OfChange n m f y h = let r = change_table n m f y h in record { form = r.form; new = r.new; reads = r.reads; same = r.same }
stmt_table OfProcess n m f y h = let r = process_table n m f y h in record { form = r.form; new = r.new; reads = r.reads; same = r.same }
