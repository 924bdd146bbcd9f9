-- The canonical text has no line numbers: trees that are alike have one.
use Rattle.std.proofs.Common.{◌≡◌, List, [], ◌∷◌, ◌++◌, map, refl, sym, ap, ◌∙◌}
use Rattle.std.specs.List.{flat_map}
use Rattle.tdf_lang_tree.specs.Forms.{Form, FTdf, FDe, FComposite, FTop, FEnd, FSetAttributes, FInitialize, FProcessing, FChangeAttributes, FReinitialize, FProcess, FIf, FElse, FFor}
use Rattle.tdf_lang_tree.specs.Alike.{bare_stmt, bare_stmts, bare_store, bare_tdf_line, bare_attr, bare_initial, bare_tdf, bare_de_line, bare_sense, bare_process, bare_member, bare_global, bare_trace, bare, Alike}
use Rattle.tdf_lang_tree.specs.Pure.{PureStmt, SAssign, SIf, SFor, SNotify, SSetRate, SSetStep, SAccept, SReject, PureStmts, Done, More, PureStore, SConst, SVar, SArray, PureTdfLine, TPort, TStore, TRate, PureTdf, PureDeLine, DPort, DStore, DEvent, PureProcess, PureGlobal, GShape, GTdf, GDe, GNet, PureTree}
use Rattle.tdf_lang_tree.specs.declared.blocks.Attr.{Attr}
use Rattle.tdf_lang_tree.specs.declared.blocks.Attr.TheVariants as attr
use Rattle.tdf_lang_tree.specs.declared.blocks.Initial.{Initial}
use Rattle.tdf_lang_tree.specs.declared.blocks.Member.{Member}
use Rattle.tdf_lang_tree.specs.declared.blocks.Member.TheVariants as member
use Rattle.tdf_lang_printer.specs.Canon.{canon, head_text, tdf_line, attr_line, initial_line, de_line, sense_line, member_line, form_of_trace, store_line, stmt_lines, stmts_lines, else_lines, part_lines, attributes_lines, initialize_lines, tdf_lines, dont_lines, process_lines, global_lines, tree_lines}
use Rattle.tdf_lang_printer.specs.Lines.{lines_text}

same_map : {X L : Type 0} (line : X → L) (bare_of : X → X) → ((x : X) → line (bare_of x) ≡ line x) → (xs : List X) → map line (map bare_of xs) ≡ map line xs
same_map line bare_of h [] = refl
same_map line bare_of h (x ∷ xs) = ap (λ u. u ∷ map line (map bare_of xs)) (h x) ∙ ap (λ u. line x ∷ u) (same_map line bare_of h xs)

same_flat : {X L : Type 0} (lines : X → List L) (bare_of : X → X) → ((x : X) → lines (bare_of x) ≡ lines x) → (xs : List X) → flat_map lines (map bare_of xs) ≡ flat_map lines xs
same_flat lines bare_of h [] = refl
same_flat lines bare_of h (x ∷ xs) = ap (λ u. u ++ flat_map lines (map bare_of xs)) (h x) ∙ ap (λ u. lines x ++ u) (same_flat lines bare_of h xs)

same_store : (x : PureStore) → store_line (bare_store x) ≡ store_line x
same_store (SConst line name x v) = refl
same_store (SVar line name x v) = refl
same_store (SArray line name x n vs) = refl

same_tdf_line : (x : PureTdfLine) → tdf_line (bare_tdf_line x) ≡ tdf_line x
same_tdf_line (TPort port) = refl
same_tdf_line (TStore store) = same_store store
same_tdf_line (TRate line name least greatest start) = refl

same_attr : (x : Attr) → attr_line (bare_attr x) ≡ attr_line x
same_attr (attr.Step line port step) = refl
same_attr (attr.Rate line port rate) = refl
same_attr (attr.Delay line port count) = refl
same_attr (attr.Does line) = refl
same_attr (attr.Accept line) = refl
same_attr (attr.Reject line) = refl

same_de_line : (x : PureDeLine) → de_line (bare_de_line x) ≡ de_line x
same_de_line (DPort port) = refl
same_de_line (DStore store) = same_store store
same_de_line (DEvent line name) = refl

same_member : (x : Member) → member_line (bare_member x) ≡ member_line x
same_member (member.Port port) = refl
same_member (member.Signal line name x) = refl
same_member (member.DeSignal line name x start) = refl
same_member (member.Instance line name block) = refl
same_member (member.Bind line instance port target) = refl

mutual
  same_stmt : (s : PureStmt) → stmt_lines (bare_stmt s) ≡ stmt_lines s
  same_stmt (SAssign line name i e) = refl
  same_stmt (SIf line e first second) =
      ap (λ u. FIf e ∷ (u ++ (else_lines (bare_stmts second) ++ FEnd ∷ []))) (same_stmts first)
      ∙ ap (λ u. FIf e ∷ (stmts_lines first ++ (u ++ FEnd ∷ []))) (same_else second)
  same_stmt (SFor line name from l body) = ap (λ u. FFor name from l ∷ (u ++ FEnd ∷ [])) (same_stmts body)
  same_stmt (SNotify line event after) = refl
  same_stmt (SSetRate line name e) = refl
  same_stmt (SSetStep line port step) = refl
  same_stmt (SAccept line) = refl
  same_stmt (SReject line) = refl

  same_stmts : (ss : PureStmts) → stmts_lines (bare_stmts ss) ≡ stmts_lines ss
  same_stmts Done = refl
  same_stmts (More s ss) = ap (λ u. u ++ stmts_lines (bare_stmts ss)) (same_stmt s) ∙ ap (λ u. stmt_lines s ++ u) (same_stmts ss)

  same_else : (ss : PureStmts) → else_lines (bare_stmts ss) ≡ else_lines ss
  same_else Done = refl
  same_else (More s ss) = ap (λ u. FElse ∷ (u ++ stmts_lines (bare_stmts ss))) (same_stmt s) ∙ ap (λ u. FElse ∷ (stmt_lines s ++ u)) (same_stmts ss)

same_part : (head : Form) (ss : PureStmts) → part_lines head (bare_stmts ss) ≡ part_lines head ss
same_part head Done = refl
same_part head (More s ss) = ap (λ u. head ∷ (u ++ FEnd ∷ [])) (same_stmts (More s ss))

same_attributes : (xs : List Attr) → attributes_lines (map bare_attr xs) ≡ attributes_lines xs
same_attributes [] = refl
same_attributes (x ∷ xs) = ap (λ u. FSetAttributes ∷ (u ++ FEnd ∷ [])) (same_map attr_line bare_attr same_attr (x ∷ xs))

same_initials : (xs : List Initial) → map initial_line (map bare_initial xs) ≡ map initial_line xs
same_initials xs = same_map initial_line bare_initial (λ x. refl) xs

same_initialize : (xs : List Initial) (ss : PureStmts) → initialize_lines (map bare_initial xs) (bare_stmts ss) ≡ initialize_lines xs ss
same_initialize [] Done = refl
same_initialize [] (More s ss) = ap (λ u. FInitialize ∷ (u ++ FEnd ∷ [])) (same_stmts (More s ss))
same_initialize (x ∷ xs) ss =
    ap (λ u. FInitialize ∷ ((u ++ stmts_lines (bare_stmts ss)) ++ FEnd ∷ [])) (same_initials (x ∷ xs))
    ∙ ap (λ u. FInitialize ∷ ((map initial_line (x ∷ xs) ++ u) ++ FEnd ∷ [])) (same_stmts ss)

two : {L : Type 0} (a b c d : List L) → a ≡ b → c ≡ d → a ++ c ≡ b ++ d
two a b c d e f = ap (λ u. u ++ c) e ∙ ap (λ u. b ++ u) f

same_tdf : (t : PureTdf) → tdf_lines (bare_tdf t) ≡ tdf_lines t
same_tdf t =
    ap (λ u. FTdf t.name ∷ u)
    (two _ _ _ _ (same_map tdf_line bare_tdf_line same_tdf_line t.decls)
    (two _ _ _ _ (same_attributes t.attrs)
    (two _ _ _ _ (same_initialize t.initials t.initialize.list)
    (two _ _ _ _ (same_part FProcessing t.processing.list)
    (two _ _ _ _ (same_part FChangeAttributes t.change.list)
    (two _ _ _ _ (same_part FReinitialize t.reinitialize.list) refl))))))

same_process : (p : PureProcess) → process_lines (bare_process p) ≡ process_lines p
same_process p =
    ap (λ u. FProcess ∷ u)
    (two _ _ _ _ (same_map sense_line bare_sense (λ x. refl) p.sensitive)
    (ap (λ u. dont_lines p.starts ++ (u ++ FEnd ∷ [])) (same_stmts p.body.list)))

same_global : (g : PureGlobal) → global_lines (bare_global g) ≡ global_lines g
same_global (GShape shape) = refl
same_global (GTdf t) = same_tdf t
same_global (GDe d) =
    ap (λ u. FDe d.name ∷ u)
    (two _ _ _ _ (same_map de_line bare_de_line same_de_line d.decls)
    (ap (λ u. u ++ FEnd ∷ []) (same_flat process_lines bare_process same_process d.processes)))
same_global (GNet c) = ap (λ u. FComposite c.name ∷ (u ++ FEnd ∷ [])) (same_map member_line bare_member same_member c.members)

same_tree : (t : PureTree) → tree_lines (bare t) ≡ tree_lines t
same_tree t =
    two _ _ _ _ (same_flat global_lines bare_global same_global t.globals)
    (ap (λ u. FTop ∷ u)
    (two _ _ _ _ (same_map member_line bare_member same_member t.top.members)
    (ap (λ u. FEnd ∷ u) (same_map form_of_trace bare_trace (λ x. refl) t.traces))))

same_text : (t : PureTree) → canon (bare t) ≡ canon t
unfolding canon
same_text t = ap (λ u. head_text t.version t.resolution ++ lines_text t.resolution u) (same_tree t)

pub alike_text : (s t : PureTree) → Alike s t → canon s ≡ canon t
alike_text s t h = sym (same_text s) ∙ ap canon h ∙ same_text t
