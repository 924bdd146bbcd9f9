-- What the grammar gives of the tree that rows spell.
use Rattle.std.proofs.Common.{◌≡◌, ℕ, List, [], ◌∷◌, ◌++◌, Option, Some, None, subst}
use Rattle.std.proofs.lemmas.Option.{none-some, same_Some}
use Rattle.std.specs.List.{AllByRecursion}
use Rattle.std.specs.Prelude.{Result, Ok, Err, IfOk}
use Rattle.tdf_lang_parser.proofs.LabelLaws.{OwnRows, own_after, rows_own, traces_own}
use Rattle.tdf_lang_parser.specs.Formed.{AllAssignNone, AssignsNone, HasEventPorts, HasPlainBodies, IsEventLine, IsFormed, IsNoPort, IsPlainGlobal}
use Rattle.tdf_lang_parser.specs.Items.{Plain, de_line_of, member_of, plain_of}
use Rattle.tdf_lang_parser.specs.Refused.{SpellsText}
use Rattle.tdf_lang_parser.specs.SpellsTree.{Lines, lines_none, lines_more, SpellsOne, simple, choice, both, turns, SpellsAll, stmts_none, stmts_more, body_with, SpellsPart, part_none, part_some, SpellsInitialize, initialize_none, initialize_some, SpellsTdf, tdf, SpellsGlobal, global_type, global_tdf, global_de, global_net, SpellsGlobals, globals_none, globals_more, SpellsModel, model, SpellsTree, whole_text}
use Rattle.tdf_lang_parser.specs.declared.err.LangErr.{LangErr}
use Rattle.tdf_lang_parser.specs.machine.Walks.{IsRead}
use Rattle.tdf_lang_lexer.specs.Rows.{Row}
use Rattle.tdf_lang_lexer.specs.Token.{TokenLine}
use Rattle.tdf_lang_lexer.specs.declared.dialect.Dialect.{Dialect}
use Rattle.tdf_lang_tree.specs.Forms.{Form, FArray, FAssign, FBind, FConst, FDeSignal, FEvent, FInstance, FPort, FSignal, FVar}
use Rattle.tdf_lang_tree.specs.Pure.{PureBody, PureDeLine, DPort, DStore, DEvent, PureGlobal, GShape, GTdf, GDe, GNet, PureStmt, SAssign, SConst, SVar, SArray, PureTdf, PureTree}
use Rattle.tdf_lang_tree.specs.Views.{pure_tree, sts}
use Rattle.tdf_lang_tree.specs.declared.blocks.Initial.{Initial}
use Rattle.tdf_lang_tree.specs.declared.blocks.Member.{Member}
use Rattle.tdf_lang_tree.specs.declared.blocks.Member.TheVariants as member
use Rattle.tdf_lang_tree.specs.declared.blocks.PortKind.TheVariants as port_kind
use Rattle.tdf_lang_tree.specs.declared.tree.Tree.{Tree}

-- no line of `top` declares a port
one_more : {X : Type 0} (P : X → Type 0) (xs : List X) (x : X) → AllByRecursion P xs → P x → AllByRecursion P (xs ++ x ∷ [])
one_more P [] x all is = (is, tt)
one_more P (y ∷ xs) x all is = (all.0, one_more P xs x all.1 is)

no_port : (line : ℕ) (f : Form) (m : Member) → member_of line f ≡ Some m → IsNoPort m
no_port line (FSignal name x) m is = subst IsNoPort (same_Some (member.Signal line name x) m is) tt
no_port line (FDeSignal name x v) m is = subst IsNoPort (same_Some (member.DeSignal line name x v) m is) tt
no_port line (FInstance name block) m is = subst IsNoPort (same_Some (member.Instance line name block) m is) tt
no_port line (FBind instance port target) m is = subst IsNoPort (same_Some (member.Bind line instance port target) m is) tt
no_port line _ m is = absurd (none-some m is)

members_closed : {lang : Dialect} {rows : List TokenLine} {ms : List Member} → Lines lang member_of rows ms → AllByRecursion IsNoPort ms
members_closed lines_none = tt
members_closed (lines_more {xs = xs} {f = f} {x = x} before h spelled is) = one_more IsNoPort xs x (members_closed before) (no_port h.number f x is)

-- plain statements assign no attribute
plain_none : (line : ℕ) (f : Form) (s : PureStmt) → plain_of line f ≡ Some s → AssignsNone s
plain_none line (FAssign name i e) s is = subst AssignsNone (same_Some (SAssign line name i e) s is) tt
plain_none line _ s is = absurd (none-some s is)

list_none : (ss : List PureStmt) → AllByRecursion AssignsNone ss → AllAssignNone (sts ss)
list_none [] all = tt
list_none (s ∷ ss) all = (all.0, list_none ss all.1)

mutual
  one_none : {lang : Dialect} {d : ℕ} {rows : List TokenLine} {s : PureStmt} → SpellsOne lang Plain d rows s → AssignsNone s
  one_none (simple {f = f} {s = s} h spelled is) = plain_none h.number f s is
  one_none (choice {first = first} h l head all end) = (list_none first (all_none all), tt)
  one_none (both {first = first} {second = second} h m l head all middle more end) = (list_none first (all_none all), list_none second (all_none more))
  one_none (turns {body = body} h e head all end) = list_none body (all_none all)

  all_none : {lang : Dialect} {d : ℕ} {rows : List TokenLine} {ss : List PureStmt} → SpellsAll lang Plain d rows ss → AllByRecursion AssignsNone ss
  all_none stmts_none = tt
  all_none (stmts_more {ss = ss} {s = s} all one) = one_more AssignsNone ss s (all_none all) (one_none one)

body_none : (ss : List PureStmt) (line : ℕ) → AllByRecursion AssignsNone ss → AllAssignNone (body_with ss line).list
body_none [] line all = tt
body_none (s ∷ ss) line all = list_none (s ∷ ss) all

part_plain : {lang : Dialect} {head : Form} {rows : List TokenLine} {body : PureBody} → SpellsPart lang head Plain rows body → AllAssignNone body.list
part_plain part_none = tt
part_plain (part_some {ss = ss} h l head all end) = body_none ss l.number (all_none all)

initialize_plain : {lang : Dialect} {rows : List TokenLine} {xs : List Initial} {body : PureBody} → SpellsInitialize lang rows xs body → AllAssignNone body.list
initialize_plain initialize_none = tt
initialize_plain (initialize_some {ss = ss} h l head lines all end) = body_none ss l.number (all_none all)

tdf_plain : {lang : Dialect} {rows : List TokenLine} {t : PureTdf} → SpellsTdf lang rows t → HasPlainBodies t
tdf_plain (tdf h head lines attributes initials processing change reinitialize) =
    record { initialize = initialize_plain initials; processing = part_plain processing; reinitialize = part_plain reinitialize }

global_plain : {lang : Dialect} {rows : List TokenLine} {g : PureGlobal} → SpellsGlobal lang rows g → IsPlainGlobal g
global_plain (global_type h spelled) = tt
global_plain (global_tdf l block end) = tdf_plain block
global_plain (global_de h l head lines processes end) = tt
global_plain (global_net h l head lines end) = tt

globals_plain : {lang : Dialect} {rows : List TokenLine} {gs : List PureGlobal} → SpellsGlobals lang rows gs → AllByRecursion IsPlainGlobal gs
globals_plain globals_none = tt
globals_plain (globals_more {gs = gs} {g = g} all one) = one_more IsPlainGlobal gs g (globals_plain all) (global_plain one)

-- a block of processes declares event ports
event_line : (line : ℕ) (f : Form) (d : PureDeLine) → de_line_of line f ≡ Some d → IsEventLine d
event_line line (FPort port_kind.DeIn name x) d is = subst IsEventLine (same_Some (DPort (record { line = line; kind = port_kind.DeIn; name = name; format = x })) d is) tt
event_line line (FPort port_kind.DeOut name x) d is = subst IsEventLine (same_Some (DPort (record { line = line; kind = port_kind.DeOut; name = name; format = x })) d is) tt
event_line line (FConst name x v) d is = subst IsEventLine (same_Some (DStore (SConst line name x v)) d is) tt
event_line line (FVar name x v) d is = subst IsEventLine (same_Some (DStore (SVar line name x v)) d is) tt
event_line line (FArray name x n vs) d is = subst IsEventLine (same_Some (DStore (SArray line name x n vs)) d is) tt
event_line line (FEvent name) d is = subst IsEventLine (same_Some (DEvent line name) d is) tt
event_line line _ d is = absurd (none-some d is)

lines_events : {lang : Dialect} {rows : List TokenLine} {ds : List PureDeLine} → Lines lang de_line_of rows ds → AllByRecursion IsEventLine ds
lines_events lines_none = tt
lines_events (lines_more {xs = xs} {f = f} {x = x} before h spelled is) = one_more IsEventLine xs x (lines_events before) (event_line h.number f x is)

global_events : {lang : Dialect} {rows : List TokenLine} {g : PureGlobal} → SpellsGlobal lang rows g → HasEventPorts g
global_events (global_type h spelled) = tt
global_events (global_tdf l block end) = tt
global_events (global_de h l head lines processes end) = lines_events lines
global_events (global_net h l head lines end) = tt

globals_events : {lang : Dialect} {rows : List TokenLine} {gs : List PureGlobal} → SpellsGlobals lang rows gs → AllByRecursion HasEventPorts gs
globals_events globals_none = tt
globals_events (globals_more {gs = gs} {g = g} all one) = one_more HasEventPorts gs g (globals_events all) (global_events one)

model_formed : {lang : Dialect} {rows : List TokenLine} {t : PureTree} → SpellsModel lang rows t → OwnRows rows → IsFormed t
model_formed (model {a = a} {b = b} {c = c} t l globals top members end traces) own = record {
  closed = members_closed members;
  plain = globals_plain globals;
  events = globals_events globals;
  labels = traces_own traces (own_after b (l ∷ c) (own_after a (t ∷ (b ++ l ∷ c)) own).1).1;
}

tree_formed : {rows : List Row} {t : PureTree} → SpellsTree rows t → IsFormed t
tree_formed (whole_text {lang = lang} b head spelled) = model_formed spelled (rows_own lang b)

-- of each text that is spelled
pub text_formed : {text : List ℕ} {tree : PureTree} → SpellsText text tree → IsFormed tree
text_formed spells = tree_formed spells.spelled

pub read_formed : (result : Result Tree LangErr) (rows : List Row) (after : ℕ) → IsRead result rows after → IfOk result (λ t. IsFormed (pure_tree t))
read_formed (Ok t) rows after read = tree_formed read
read_formed (Err e) rows after read = tt
