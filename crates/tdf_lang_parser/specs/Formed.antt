-- What the grammar gives beside what a tree keeps (own): `top` is the outside of a model, so none
-- of its lines declares a port; only change bodies assign attributes; a block of processes
-- declares event ports alone; and the label of a trace is no reserved word.
use Rattle.std.specs.Prelude.{◌≡◌, None}
use Rattle.std.specs.List.{AllByRecursion}
use Rattle.tdf_lang_lexer.specs.Words.{key_of}
use Rattle.tdf_lang_tree.specs.Pure.{PureStmt, SAssign, SIf, SFor, SNotify, SSetRate, SSetStep, SAccept, SReject, PureStmts, Done, More, PureTdf, PureGlobal, GShape, GTdf, GDe, GNet, PureDeLine, DPort, PureTrace, PureTree}
use Rattle.tdf_lang_tree.specs.declared.blocks.Member.{Member}
use Rattle.tdf_lang_tree.specs.declared.blocks.Member.TheVariants as member
use Rattle.tdf_lang_tree.specs.declared.blocks.PortKind.{PortKind}
use Rattle.tdf_lang_tree.specs.declared.blocks.PortKind.TheVariants as port_kind

abbrev pub IsNoPort : Member → Type 0
IsNoPort (member.Port port) = ⊥
IsNoPort _ = Unit {0}

-- statements of which none assigns an attribute: a rate, a timestep or an answer
abbrev mutual
  pub AssignsNone : PureStmt → Type 0
  AssignsNone (SAssign line name i e) = Unit {0}
  AssignsNone (SIf line test first second) = AllAssignNone first × AllAssignNone second
  AssignsNone (SFor line name from end body) = AllAssignNone body
  AssignsNone (SNotify line event after) = Unit {0}
  AssignsNone (SSetRate line name e) = ⊥
  AssignsNone (SSetStep line port step) = ⊥
  AssignsNone (SAccept line) = ⊥
  AssignsNone (SReject line) = ⊥

  pub AllAssignNone : PureStmts → Type 0
  AllAssignNone Done = Unit {0}
  AllAssignNone (More s ss) = AssignsNone s × AllAssignNone ss

pub record HasPlainBodies (block : PureTdf) : Type 0 where
  pub initialize : AllAssignNone block.initialize.list
  pub processing : AllAssignNone block.processing.list
  pub reinitialize : AllAssignNone block.reinitialize.list

abbrev pub IsPlainGlobal : PureGlobal → Type 0
IsPlainGlobal (GShape t) = Unit {0}
IsPlainGlobal (GTdf block) = HasPlainBodies block
IsPlainGlobal (GDe block) = Unit {0}
IsPlainGlobal (GNet block) = Unit {0}

-- the port carries events: `de_in` or `de_out`
abbrev pub IsEventKind : PortKind → Type 0
IsEventKind port_kind.DeIn = Unit {0}
IsEventKind port_kind.DeOut = Unit {0}
IsEventKind _ = ⊥

abbrev pub IsEventLine : PureDeLine → Type 0
IsEventLine (DPort port) = IsEventKind port.kind
IsEventLine _ = Unit {0}

abbrev pub HasEventPorts : PureGlobal → Type 0
HasEventPorts (GDe block) = AllByRecursion IsEventLine block.decls
HasEventPorts _ = Unit {0}

abbrev pub HasOwnLabel : PureTrace → Type 0
HasOwnLabel trace = key_of trace.label ≡ None

pub record IsFormed (tree : PureTree) : Type 0 where
  pub closed : AllByRecursion IsNoPort tree.top.members
  pub plain : AllByRecursion IsPlainGlobal tree.globals
  pub events : AllByRecursion HasEventPorts tree.globals
  pub labels : AllByRecursion HasOwnLabel tree.traces
