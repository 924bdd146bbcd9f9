-- Numbering changes line numbers alone.
use Rattle.std.proofs.Common.{◌≡◌, ◌∙◌, ℕ, ◌+◌, List, [], ◌∷◌, length, map, refl, ap}
use Rattle.tdf_lang_printer.specs.Canon.{stmt_lines, stmts_lines, attributes_lines, initialize_lines, part_lines, process_lines, global_lines}
use Rattle.tdf_lang_tree.specs.Alike.{Alike, bare_stmt, bare_stmts, bare_body, bare_store, bare_tdf_line, bare_attr, bare_initial, bare_tdf, bare_de_line, bare_sense, bare_process, bare_de, bare_member, bare_composite, bare_global, bare_trace}
use Rattle.tdf_lang_tree.specs.Forms.{Form, FProcessing, FChangeAttributes}
use Rattle.tdf_lang_tree.specs.Pure.{PureStmt, SAssign, SIf, SFor, SNotify, SSetRate, SSetStep, SAccept, SReject, PureStmts, Done, More, PureBody, PureStore, SConst, SVar, SArray, PureTdfLine, TPort, TStore, TRate, PureTdf, PureDeLine, DPort, DStore, DEvent, PureProcess, PureDe, PureComposite, PureGlobal, GShape, GTdf, GDe, GNet, PureTree}
use Rattle.tdf_lang_tree.specs.declared.blocks.Attr.{Attr}
use Rattle.tdf_lang_tree.specs.declared.blocks.Attr.TheVariants as attr
use Rattle.tdf_lang_tree.specs.declared.blocks.Member.{Member}
use Rattle.tdf_lang_tree.specs.declared.blocks.Member.TheVariants as member
use Rattle.tdf_stim_lines.specs.Numbered.{lines_at, parts_at, stmt_at, stmts_at, body_at, store_at, tdf_line_at, attr_at, initial_at, tdf_at, de_line_at, sense_at, process_at, de_at, member_at, composite_at, global_at, trace_at, numbered}

same_lines : {A B : Type 0} (bared : A → B) (put : ℕ → A → A) → ((at : ℕ) (x : A) → bared (put at x) ≡ bared x) → (at : ℕ) (xs : List A)
    → map bared (lines_at put at xs) ≡ map bared xs
same_lines bared put same at [] = refl
same_lines bared put same at (x ∷ xs) = ap (λ y. y ∷ map bared (lines_at put (at + 1) xs)) (same at x) ∙ ap (λ ys. bared x ∷ ys) (same_lines bared put same (at + 1) xs)

same_parts : {A B : Type 0} (bared : A → B) (lines : A → List Form) (put : ℕ → A → A) → ((at : ℕ) (x : A) → bared (put at x) ≡ bared x) → (at : ℕ) (xs : List A)
    → map bared (parts_at lines put at xs) ≡ map bared xs
same_parts bared lines put same at [] = refl
same_parts bared lines put same at (x ∷ xs) =
    ap (λ y. y ∷ map bared (parts_at lines put (at + length (lines x)) xs)) (same at x) ∙ ap (λ ys. bared x ∷ ys) (same_parts bared lines put same (at + length (lines x)) xs)

mutual
  same_stmt : (at : ℕ) (s : PureStmt) → bare_stmt (stmt_at at s) ≡ bare_stmt s
  same_stmt at (SAssign line name i x) = refl
  same_stmt at (SIf line x first second) =
      ap (λ ss. SIf 0 x ss (bare_stmts (stmts_at (at + 1 + length (stmts_lines first) + 1) second))) (same_stmts (at + 1) first)
      ∙ ap (λ ss. SIf 0 x (bare_stmts first) ss) (same_stmts (at + 1 + length (stmts_lines first) + 1) second)
  same_stmt at (SFor line name from l body) = ap (λ ss. SFor 0 name from l ss) (same_stmts (at + 1) body)
  same_stmt at (SNotify line event after) = refl
  same_stmt at (SSetRate line name x) = refl
  same_stmt at (SSetStep line port step) = refl
  same_stmt at (SAccept line) = refl
  same_stmt at (SReject line) = refl

  same_stmts : (at : ℕ) (ss : PureStmts) → bare_stmts (stmts_at at ss) ≡ bare_stmts ss
  same_stmts at Done = refl
  same_stmts at (More s ss) =
      ap (λ t. More t (bare_stmts (stmts_at (at + length (stmt_lines s)) ss))) (same_stmt at s) ∙ ap (More (bare_stmt s)) (same_stmts (at + length (stmt_lines s)) ss)

same_body : (at : ℕ) (b : PureBody) → bare_body (body_at at b) ≡ bare_body b
same_body at b = ap (λ ss. record { list = ss; end = 0 }) (same_stmts at b.list)

same_store : (at : ℕ) (s : PureStore) → bare_store (store_at at s) ≡ bare_store s
same_store at (SConst line name x v) = refl
same_store at (SVar line name x v) = refl
same_store at (SArray line name x size vs) = refl

same_tdf_line : (at : ℕ) (l : PureTdfLine) → bare_tdf_line (tdf_line_at at l) ≡ bare_tdf_line l
same_tdf_line at (TPort port) = refl
same_tdf_line at (TStore store) = ap TStore (same_store at store)
same_tdf_line at (TRate line name least greatest start) = refl

same_attr : (at : ℕ) (a : Attr) → bare_attr (attr_at at a) ≡ bare_attr a
same_attr at (attr.Step line port step) = refl
same_attr at (attr.Rate line port rate) = refl
same_attr at (attr.Delay line port count) = refl
same_attr at (attr.Does line) = refl
same_attr at (attr.Accept line) = refl
same_attr at (attr.Reject line) = refl

same_tdf : (at : ℕ) (b : PureTdf) → bare_tdf (tdf_at at b) ≡ bare_tdf b
same_tdf at b =
    let attributes = at + 1 + length b.decls in
    let initialize = attributes + length (attributes_lines b.attrs) in
    let processing = initialize + length (initialize_lines b.initials b.initialize.list) in
    let change = processing + length (part_lines FProcessing b.processing.list) in
    let reinitialize = change + length (part_lines FChangeAttributes b.change.list) in
    let decls_same = same_lines bare_tdf_line tdf_line_at same_tdf_line (at + 1) b.decls in
    let attrs_same = same_lines bare_attr attr_at same_attr (attributes + 1) b.attrs in
    let initials_same = same_lines bare_initial initial_at (λ k x. refl) (initialize + 1) b.initials in
    let initialize_same = same_stmts (initialize + 1 + length b.initials) b.initialize.list in
    let processing_same = same_stmts (processing + 1) b.processing.list in
    let change_same = same_stmts (change + 1) b.change.list in
    let reinitialize_same = same_stmts (reinitialize + 1) b.reinitialize.list in
    (cc)

same_de_line : (at : ℕ) (l : PureDeLine) → bare_de_line (de_line_at at l) ≡ bare_de_line l
same_de_line at (DPort port) = refl
same_de_line at (DStore store) = ap DStore (same_store at store)
same_de_line at (DEvent line name) = refl

same_process : (at : ℕ) (p : PureProcess) → bare_process (process_at at p) ≡ bare_process p
same_process at p =
    ap (λ ss. record { line = 0; sensitive = ss; starts = p.starts; body = bare_body (process_at at p).body }) (same_lines bare_sense sense_at (λ k x. refl) (at + 1) p.sensitive)
    ∙ ap (λ b. record { line = 0; sensitive = map bare_sense p.sensitive; starts = p.starts; body = b }) (same_body _ p.body)

same_de : (at : ℕ) (b : PureDe) → bare_de (de_at at b) ≡ bare_de b
same_de at b =
    ap (λ ds. record { line = 0; name = b.name; decls = ds; processes = map bare_process (de_at at b).processes }) (same_lines bare_de_line de_line_at same_de_line (at + 1) b.decls)
    ∙ ap (λ ps. record { line = 0; name = b.name; decls = map bare_de_line b.decls; processes = ps }) (same_parts bare_process process_lines process_at same_process _ b.processes)

same_member : (at : ℕ) (m : Member) → bare_member (member_at at m) ≡ bare_member m
same_member at (member.Port port) = refl
same_member at (member.Signal line name x) = refl
same_member at (member.DeSignal line name x start) = refl
same_member at (member.Instance line name block) = refl
same_member at (member.Bind line instance port target) = refl

same_composite : (at : ℕ) (b : PureComposite) → bare_composite (composite_at at b) ≡ bare_composite b
same_composite at b = ap (λ ms. record { line = 0; name = b.name; members = ms }) (same_lines bare_member member_at same_member (at + 1) b.members)

same_global : (at : ℕ) (g : PureGlobal) → bare_global (global_at at g) ≡ bare_global g
same_global at (GShape shape) = refl
same_global at (GTdf block) = ap GTdf (same_tdf at block)
same_global at (GDe block) = ap GDe (same_de at block)
same_global at (GNet block) = ap GNet (same_composite at block)

pub numbered_alike : (tree : PureTree) → Alike (numbered tree) tree
unfolding numbered
numbered_alike tree =
    ap (λ gs. record { version = tree.version; resolution = tree.resolution; globals = gs; top = bare_composite (numbered tree).top; traces = map bare_trace (numbered tree).traces })
    (same_parts bare_global global_lines global_at same_global _ tree.globals)
    ∙ ap (λ b. record { version = tree.version; resolution = tree.resolution; globals = map bare_global tree.globals; top = b; traces = map bare_trace (numbered tree).traces })
    (same_composite _ tree.top)
    ∙ ap (λ ts. record { version = tree.version; resolution = tree.resolution; globals = map bare_global tree.globals; top = bare_composite tree.top; traces = ts })
    (same_lines bare_trace trace_at (λ k x. refl) _ tree.traces)
