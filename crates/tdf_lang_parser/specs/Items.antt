-- What a line form is in its place (own): one table a place, of the lines that hold no others.
use Rattle.std.specs.Prelude.{ℕ, List, Option, Some, None}
use Rattle.tdf_lang_tree.specs.Pure.{PureStmt, SAssign, SNotify, SSetRate, SSetStep, SAccept, SReject, SConst, SVar, SArray, PureTdfLine, TPort, TStore, TRate, PureDeLine, DPort, DStore, DEvent, PureTrace}
use Rattle.tdf_lang_tree.specs.declared.blocks.Attr.{Attr}
use Rattle.tdf_lang_tree.specs.declared.blocks.Attr.TheVariants as attr
use Rattle.tdf_lang_tree.specs.declared.blocks.Initial.{Initial}
use Rattle.tdf_lang_tree.specs.declared.blocks.Member.{Member}
use Rattle.tdf_lang_tree.specs.declared.blocks.Member.TheVariants as member
use Rattle.tdf_lang_tree.specs.declared.blocks.PortKind.{PortKind}
use Rattle.tdf_lang_tree.specs.declared.blocks.PortKind.TheVariants as port_kind
use Rattle.tdf_lang_tree.specs.declared.blocks.Sense.{Sense}
use Rattle.tdf_lang_tree.specs.declared.shapes.FormatRef.{FormatRef}
use Rattle.tdf_lang_tree.specs.Forms.{Form, FPort, FConst, FVar, FArray, FRateVar, FStep, FRate, FDelay, FDoes, FAccept, FReject, FInitial, FEvent, FSensitive, FNotify, FSignal, FDeSignal, FInstance, FBind, FTrace, FAssign, FSetRate}

-- a line of a `tdf` block before its parts
abbrev pub tdf_line_of : ℕ → Form → Option PureTdfLine
tdf_line_of line (FPort kind name x) = Some (TPort (record { line = line; kind = kind; name = name; format = x }))
tdf_line_of line (FConst name x v) = Some (TStore (SConst line name x v))
tdf_line_of line (FVar name x v) = Some (TStore (SVar line name x v))
tdf_line_of line (FArray name x n vs) = Some (TStore (SArray line name x n vs))
tdf_line_of line (FRateVar name least greatest start) = Some (TRate line name least greatest start)
tdf_line_of line _ = None

-- a line of `set_attributes`
abbrev pub attr_of : ℕ → Form → Option Attr
attr_of line (FStep port step) = Some (attr.Step line port step)
attr_of line (FRate port rate) = Some (attr.Rate line port rate)
attr_of line (FDelay port count) = Some (attr.Delay line port count)
attr_of line FDoes = Some (attr.Does line)
attr_of line FAccept = Some (attr.Accept line)
attr_of line FReject = Some (attr.Reject line)
attr_of line _ = None

-- an `initial` line of `initialize`
abbrev pub initial_of : ℕ → Form → Option Initial
initial_of line (FInitial port place v) = Some (record { line = line; port = port; place = place; value = v })
initial_of line _ = None

-- a port of a `de` block is a `de_in` or a `de_out`
abbrev pub de_port_of : ℕ → PortKind → List ℕ → FormatRef → Option PureDeLine
de_port_of line port_kind.DeIn name x = Some (DPort (record { line = line; kind = port_kind.DeIn; name = name; format = x }))
de_port_of line port_kind.DeOut name x = Some (DPort (record { line = line; kind = port_kind.DeOut; name = name; format = x }))
de_port_of line _ name x = None

-- a line of a `de` block before its processes
abbrev pub de_line_of : ℕ → Form → Option PureDeLine
de_line_of line (FPort kind name x) = de_port_of line kind name x
de_line_of line (FConst name x v) = Some (DStore (SConst line name x v))
de_line_of line (FVar name x v) = Some (DStore (SVar line name x v))
de_line_of line (FArray name x n vs) = Some (DStore (SArray line name x n vs))
de_line_of line (FEvent name) = Some (DEvent line name)
de_line_of line _ = None

-- a `sensitive` line of a process
abbrev pub sense_of : ℕ → Form → Option Sense
sense_of line (FSensitive name) = Some (record { line = line; name = name })
sense_of line _ = None

-- a line of `top`
abbrev pub member_of : ℕ → Form → Option Member
member_of line (FSignal name x) = Some (member.Signal line name x)
member_of line (FDeSignal name x v) = Some (member.DeSignal line name x v)
member_of line (FInstance name block) = Some (member.Instance line name block)
member_of line (FBind instance port target) = Some (member.Bind line instance port target)
member_of line _ = None

-- a line of a `composite` block
abbrev pub net_line_of : ℕ → Form → Option Member
net_line_of line (FPort kind name x) = Some (member.Port (record { line = line; kind = kind; name = name; format = x }))
net_line_of line f = member_of line f

-- a line after `top`
abbrev pub trace_item : ℕ → Form → Option PureTrace
trace_item line (FTrace path label) = Some (record { line = line; path = path; label = label })
trace_item line _ = None

-- which statements a body may hold: those of every body; in a change body the assignments of attributes; in a process notifications
pub data BodyKind : Type 0 where
  Plain : BodyKind
  OfChange : BodyKind
  OfProcess : BodyKind

-- a statement of each body
abbrev pub plain_of : ℕ → Form → Option PureStmt
plain_of line (FAssign name i e) = Some (SAssign line name i e)
plain_of line _ = None

-- a statement of a change body
abbrev pub change_statement : ℕ → Form → Option PureStmt
change_statement line (FSetRate name e) = Some (SSetRate line name e)
change_statement line (FStep port step) = Some (SSetStep line port step)
change_statement line FAccept = Some (SAccept line)
change_statement line FReject = Some (SReject line)
change_statement line f = plain_of line f

-- a statement of a process
abbrev pub process_of : ℕ → Form → Option PureStmt
process_of line (FNotify event after) = Some (SNotify line event after)
process_of line f = plain_of line f

-- a statement that holds no other
abbrev pub stmt_of : BodyKind → ℕ → Form → Option PureStmt
stmt_of Plain line f = plain_of line f
stmt_of OfChange line f = change_statement line f
stmt_of OfProcess line f = process_of line f
