-- Numbering keeps what the tree of each text keeps.
use Rattle.std.proofs.Common.{ℕ, zero, suc, ◌+◌, List, [], ◌∷◌, length}
use Rattle.std.specs.List.{AllByRecursion}
use Rattle.tdf_lang_parser.specs.Formed.{IsNoPort, AssignsNone, AllAssignNone, HasOwnLabel, HasPlainBodies, IsPlainGlobal, IsEventLine, HasEventPorts, IsFormed}
use Rattle.tdf_lang_printer.specs.Canon.{stmt_lines, stmts_lines, process_lines, global_lines}
use Rattle.tdf_lang_tree.specs.Forms.{Form}
use Rattle.tdf_lang_tree.specs.Kept.{Each, KeepsStmt, KeepsStmts, KeepsBody, KeepsStore, KeepsTdfLine, KeepsAttr, KeepsInitial, KeepsTdf, KeepsDeLine, KeepsSense, KeepsProcess, KeepsDe, KeepsMember, KeepsComposite, KeepsGlobal, KeepsTrace, IsKept}
use Rattle.tdf_lang_tree.specs.Pure.{PureStmt, SAssign, SIf, SFor, SNotify, SSetRate, SSetStep, SAccept, SReject, PureStmts, Done, More, PureBody, PureStore, SConst, SVar, SArray, PureTdfLine, TPort, TStore, TRate, PureTdf, PureDeLine, DPort, DStore, DEvent, PureProcess, PureDe, PureComposite, PureGlobal, GShape, GTdf, GDe, GNet, PureTree}
use Rattle.tdf_lang_tree.specs.declared.blocks.Attr.{Attr}
use Rattle.tdf_lang_tree.specs.declared.blocks.Attr.TheVariants as attr
use Rattle.tdf_lang_tree.specs.declared.blocks.Member.{Member}
use Rattle.tdf_lang_tree.specs.declared.blocks.Member.TheVariants as member
use Rattle.tdf_stim_lines.specs.Numbered.{lines_at, parts_at, stmt_at, stmts_at, body_at, store_at, tdf_line_at, attr_at, initial_at, tdf_at, de_line_at, sense_at, process_at, de_at, member_at, composite_at, global_at, trace_at, numbered}

-- ---- lists

each_line : {A : Type 0} (K : A → Type 0) (put : ℕ → A → A) → ((at : ℕ) (x : A) → K x → K (put at x)) → (at : ℕ) (xs : List A) → Each K xs → Each K (lines_at put at xs)
each_line K put keeps at [] k = tt
each_line K put keeps at (x ∷ xs) k = (keeps at x k.0, each_line K put keeps (at + 1) xs k.1)

each_part : {A : Type 0} (K : A → Type 0) (lines : A → List Form) (put : ℕ → A → A) → ((at : ℕ) (x : A) → K x → K (put at x)) → (at : ℕ) (xs : List A)
    → Each K xs → Each K (parts_at lines put at xs)
each_part K lines put keeps at [] k = tt
each_part K lines put keeps at (x ∷ xs) k = (keeps at x k.0, each_part K lines put keeps (at + length (lines x)) xs k.1)

all_line : {A : Type 0} (K : A → Type 0) (put : ℕ → A → A) → ((at : ℕ) (x : A) → K x → K (put at x)) → (at : ℕ) (xs : List A)
    → AllByRecursion K xs → AllByRecursion K (lines_at put at xs)
all_line K put keeps at [] k = tt
all_line K put keeps at (x ∷ xs) k = (keeps at x k.0, all_line K put keeps (at + 1) xs k.1)

all_part : {A : Type 0} (K : A → Type 0) (lines : A → List Form) (put : ℕ → A → A) → ((at : ℕ) (x : A) → K x → K (put at x)) → (at : ℕ) (xs : List A)
    → AllByRecursion K xs → AllByRecursion K (parts_at lines put at xs)
all_part K lines put keeps at [] k = tt
all_part K lines put keeps at (x ∷ xs) k = (keeps at x k.0, all_part K lines put keeps (at + length (lines x)) xs k.1)

-- ---- forms of names and numbers, and nesting

mutual
  stmt_keeps : (d at : ℕ) (s : PureStmt) → KeepsStmt d s → KeepsStmt d (stmt_at at s)
  stmt_keeps d at (SAssign line name i x) k = k
  stmt_keeps zero at (SIf line x first second) k = absurd k
  stmt_keeps (suc d) at (SIf line x first second) k =
      (k.0, stmts_keep d (at + 1) first k.1, stmts_keep d (at + 1 + length (stmts_lines first) + 1) second k.2)
  stmt_keeps zero at (SFor line name from l body) k = absurd k
  stmt_keeps (suc d) at (SFor line name from l body) k = (k.0, k.1, k.2, stmts_keep d (at + 1) body k.3)
  stmt_keeps d at (SNotify line event after) k = k
  stmt_keeps d at (SSetRate line name x) k = k
  stmt_keeps d at (SSetStep line port step) k = k
  stmt_keeps d at (SAccept line) k = k
  stmt_keeps d at (SReject line) k = k

  stmts_keep : (d at : ℕ) (ss : PureStmts) → KeepsStmts d ss → KeepsStmts d (stmts_at at ss)
  stmts_keep d at Done k = tt
  stmts_keep d at (More s ss) k = (stmt_keeps d at s k.0, stmts_keep d (at + length (stmt_lines s)) ss k.1)

body_keeps : (at : ℕ) (b : PureBody) → KeepsBody b → KeepsBody (body_at at b)
body_keeps at b k = stmts_keep 8 at b.list k

store_keeps : (at : ℕ) (s : PureStore) → KeepsStore s → KeepsStore (store_at at s)
store_keeps at (SConst line name x v) k = k
store_keeps at (SVar line name x v) k = k
store_keeps at (SArray line name x size vs) k = k

tdf_line_keeps : (at : ℕ) (l : PureTdfLine) → KeepsTdfLine l → KeepsTdfLine (tdf_line_at at l)
tdf_line_keeps at (TPort port) k = k
tdf_line_keeps at (TStore store) k = store_keeps at store k
tdf_line_keeps at (TRate line name least greatest start) k = k

attr_keeps : (at : ℕ) (a : Attr) → KeepsAttr a → KeepsAttr (attr_at at a)
attr_keeps at (attr.Step line port step) k = k
attr_keeps at (attr.Rate line port rate) k = k
attr_keeps at (attr.Delay line port count) k = k
attr_keeps at (attr.Does line) k = k
attr_keeps at (attr.Accept line) k = k
attr_keeps at (attr.Reject line) k = k

tdf_keeps : (at : ℕ) (b : PureTdf) → KeepsTdf b → KeepsTdf (tdf_at at b)
tdf_keeps at b k = record {
  name = k.name;
  decls = each_line KeepsTdfLine tdf_line_at tdf_line_keeps _ b.decls k.decls;
  attrs = each_line KeepsAttr attr_at attr_keeps _ b.attrs k.attrs;
  initials = each_line KeepsInitial initial_at (λ at x kept. kept) _ b.initials k.initials;
  initialize = body_keeps _ b.initialize k.initialize;
  processing = body_keeps _ b.processing k.processing;
  change = body_keeps _ b.change k.change;
  reinitialize = body_keeps _ b.reinitialize k.reinitialize;
}

de_line_keeps : (at : ℕ) (l : PureDeLine) → KeepsDeLine l → KeepsDeLine (de_line_at at l)
de_line_keeps at (DPort port) k = k
de_line_keeps at (DStore store) k = store_keeps at store k
de_line_keeps at (DEvent line name) k = k

process_keeps : (at : ℕ) (p : PureProcess) → KeepsProcess p → KeepsProcess (process_at at p)
process_keeps at p k = (each_line KeepsSense sense_at (λ at x kept. kept) _ p.sensitive k.0, body_keeps _ p.body k.1)

de_keeps : (at : ℕ) (b : PureDe) → KeepsDe b → KeepsDe (de_at at b)
de_keeps at b k = record {
  name = k.name;
  decls = each_line KeepsDeLine de_line_at de_line_keeps _ b.decls k.decls;
  processes = each_part KeepsProcess process_lines process_at process_keeps _ b.processes k.processes;
}

member_keeps : (at : ℕ) (m : Member) → KeepsMember m → KeepsMember (member_at at m)
member_keeps at (member.Port port) k = k
member_keeps at (member.Signal line name x) k = k
member_keeps at (member.DeSignal line name x start) k = k
member_keeps at (member.Instance line name block) k = k
member_keeps at (member.Bind line instance port target) k = k

composite_keeps : (at : ℕ) (b : PureComposite) → KeepsComposite b → KeepsComposite (composite_at at b)
composite_keeps at b k = (k.0, each_line KeepsMember member_at member_keeps _ b.members k.1)

global_keeps : (at : ℕ) (g : PureGlobal) → KeepsGlobal g → KeepsGlobal (global_at at g)
global_keeps at (GShape shape) k = k
global_keeps at (GTdf block) k = tdf_keeps at block k
global_keeps at (GDe block) k = de_keeps at block k
global_keeps at (GNet block) k = composite_keeps at block k

pub numbered_kept : (tree : PureTree) → IsKept tree → IsKept (numbered tree)
unfolding numbered
numbered_kept tree k = record {
  resolution = k.resolution;
  globals = each_part KeepsGlobal global_lines global_at global_keeps _ tree.globals k.globals;
  top = composite_keeps _ tree.top k.top;
  traces = each_line KeepsTrace trace_at (λ at x kept. kept) _ tree.traces k.traces;
}

-- ---- what the grammar gives beside

mutual
  stmt_assigns : (at : ℕ) (s : PureStmt) → AssignsNone s → AssignsNone (stmt_at at s)
  stmt_assigns at (SAssign line name i x) h = tt
  stmt_assigns at (SIf line x first second) h =
      (stmts_assign (at + 1) first h.0, stmts_assign (at + 1 + length (stmts_lines first) + 1) second h.1)
  stmt_assigns at (SFor line name from l body) h = stmts_assign (at + 1) body h
  stmt_assigns at (SNotify line event after) h = tt
  stmt_assigns at (SSetRate line name x) h = absurd h
  stmt_assigns at (SSetStep line port step) h = absurd h
  stmt_assigns at (SAccept line) h = absurd h
  stmt_assigns at (SReject line) h = absurd h

  stmts_assign : (at : ℕ) (ss : PureStmts) → AllAssignNone ss → AllAssignNone (stmts_at at ss)
  stmts_assign at Done h = tt
  stmts_assign at (More s ss) h = (stmt_assigns at s h.0, stmts_assign (at + length (stmt_lines s)) ss h.1)

bodies_plain : (at : ℕ) (b : PureTdf) → HasPlainBodies b → HasPlainBodies (tdf_at at b)
bodies_plain at b h = record {
  initialize = stmts_assign _ b.initialize.list h.initialize;
  processing = stmts_assign _ b.processing.list h.processing;
  reinitialize = stmts_assign _ b.reinitialize.list h.reinitialize;
}

global_plain : (at : ℕ) (g : PureGlobal) → IsPlainGlobal g → IsPlainGlobal (global_at at g)
global_plain at (GShape shape) h = tt
global_plain at (GTdf block) h = bodies_plain at block h
global_plain at (GDe block) h = tt
global_plain at (GNet block) h = tt

line_event : (at : ℕ) (l : PureDeLine) → IsEventLine l → IsEventLine (de_line_at at l)
line_event at (DPort port) h = h
line_event at (DStore store) h = tt
line_event at (DEvent line name) h = tt

global_events : (at : ℕ) (g : PureGlobal) → HasEventPorts g → HasEventPorts (global_at at g)
global_events at (GShape shape) h = tt
global_events at (GTdf block) h = tt
global_events at (GDe block) h = all_line IsEventLine de_line_at line_event _ block.decls h
global_events at (GNet block) h = tt

member_closed : (at : ℕ) (m : Member) → IsNoPort m → IsNoPort (member_at at m)
member_closed at (member.Port port) h = absurd h
member_closed at (member.Signal line name x) h = tt
member_closed at (member.DeSignal line name x start) h = tt
member_closed at (member.Instance line name block) h = tt
member_closed at (member.Bind line instance port target) h = tt

pub numbered_formed : (tree : PureTree) → IsFormed tree → IsFormed (numbered tree)
unfolding numbered
numbered_formed tree h = record {
  closed = all_line IsNoPort member_at member_closed _ tree.top.members h.closed;
  plain = all_part IsPlainGlobal global_lines global_at global_plain _ tree.globals h.plain;
  events = all_part HasEventPorts global_lines global_at global_events _ tree.globals h.events;
  labels = all_line HasOwnLabel trace_at (λ at x own. own) _ tree.traces h.labels;
}
