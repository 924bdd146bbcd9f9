-- Each fault of names stands on a line of the model.
use Rattle.std.proofs.Common.{◌≡◌, ℕ, Bool, true, false, List, [], ◌∷◌, ◌++◌, Option, Some, None, refl, inl, inr, ◌⊎◌}
use Rattle.std.specs.List.{flat_map}
use Rattle.std.specs.Prelude.{map, not}
use Rattle.tdf_base.specs.declared.codes.Code.{Code}
use Rattle.tdf_base.specs.declared.codes.Code.TheVariants.{Duplicate, Unknown}
use Rattle.tdf_base.specs.First.{fault_if}
use Rattle.tdf_base.specs.declared.first.LineFault.{LineFault}
use Rattle.tdf_expr_names.specs.Law.{IsOneOf, StandsOn, FaultsStand}
use Rattle.tdf_expr_names.specs.Names.{Name, has, with_declared, with_names, names_of_tdf_lines, names_of_de_lines, names_of_globals, declares, uses, uses_maybe, in_order, index_name_faults, item_faults, limit_name_faults, expr_name_faults, stmt_faults, stmts_faults, format_name_faults, formatted_faults, store_name_faults, tdf_line_name_faults, names_of_tdf_line, attr_name_faults, initial_name_faults, tdf_name_faults, de_line_name_faults, names_of_de_line, sense_name_faults, process_name_faults, de_name_faults, member_name_faults, names_of_member, composite_name_faults, global_name_faults, names_of_global, trace_faults, names_of_trace, name_faults}
use Rattle.tdf_lang_tree.specs.Kept.{Each}
use Rattle.tdf_lang_tree.specs.LinesIn.{lines_of_stmt, lines_of_stmts, lines_to_end, line_of_store, line_of_tdf_line, line_of_attr, line_of_initial, line_of_sense, line_of_de_line, line_of_member, line_of_trace, lines_of_tdf, lines_of_process, lines_of_de, lines_of_global}
use Rattle.tdf_lang_tree.specs.Pure.{PureExpr, ENumber, EName, EAt, ECast, ESelect, ENot, ENeg, EShift, EBinary, PureStmt, SAssign, SIf, SFor, SNotify, SSetRate, SSetStep, SAccept, SReject, PureStmts, Done, More, PureStore, SConst, SVar, SArray, PureTdfLine, TPort, TStore, TRate, PureTdf, PureDeLine, DPort, DStore, DEvent, PureProcess, PureDe, PureComposite, PureGlobal, GShape, GTdf, GDe, GNet}
use Rattle.tdf_lang_tree.specs.declared.blocks.Attr.{Attr}
use Rattle.tdf_lang_tree.specs.declared.blocks.Attr.TheVariants as attr
use Rattle.tdf_lang_tree.specs.declared.blocks.Member.{Member}
use Rattle.tdf_lang_tree.specs.declared.blocks.Member.TheVariants as member
use Rattle.tdf_lang_tree.specs.declared.expr.Index.{Index}
use Rattle.tdf_lang_tree.specs.declared.expr.Index.TheVariants as index
use Rattle.tdf_lang_tree.specs.declared.shapes.FormatRef.{FormatRef}
use Rattle.tdf_lang_tree.specs.declared.shapes.FormatRef.TheVariants.{Own, Named}
use Rattle.tdf_lang_tree.specs.declared.stmt.Limit.{Limit}
use Rattle.tdf_lang_tree.specs.declared.stmt.Limit.TheVariants as limit

abbrev On : List ℕ → List LineFault → Type 0
On lines faults = Each (StandsOn lines) faults

on_append : (ls : List ℕ) (xs ys : List LineFault) → On ls xs → On ls ys → On ls (xs ++ ys)
on_append ls [] ys f g = g
on_append ls (x ∷ xs) ys f g = (f.0, on_append ls xs ys f.1 g)

-- faults on some lines stand on more lines too
moved : (ls ms : List ℕ) → ((n : ℕ) → IsOneOf ls n → IsOneOf ms n) → (xs : List LineFault) → On ls xs → On ms xs
moved ls ms more [] f = tt
moved ls ms more (x ∷ xs) f = (record { line = more x.line f.0.line; code = f.0.code }, moved ls ms more xs f.1)

one_left : (ls ms : List ℕ) (n : ℕ) → IsOneOf ls n → IsOneOf (ls ++ ms) n
one_left [] ms n i = absurd i
one_left (l ∷ ls) ms n (inl e) = inl e
one_left (l ∷ ls) ms n (inr i) = inr (one_left ls ms n i)

one_right : (ls ms : List ℕ) (n : ℕ) → IsOneOf ms n → IsOneOf (ls ++ ms) n
one_right [] ms n i = i
one_right (l ∷ ls) ms n i = inr (one_right ls ms n i)

one_first : (l : ℕ) (ls : List ℕ) (n : ℕ) → IsOneOf (l ∷ []) n → IsOneOf (l ∷ ls) n
one_first l ls n (inl e) = inl e
one_first l ls n (inr i) = absurd i

on_first : (l : ℕ) (ls : List ℕ) (xs : List LineFault) → On (l ∷ []) xs → On (l ∷ ls) xs
on_first l ls = moved (l ∷ []) (l ∷ ls) (one_first l ls)

on_later : (l : ℕ) (ls : List ℕ) (xs : List LineFault) → On ls xs → On (l ∷ ls) xs
on_later l ls = moved ls (l ∷ ls) (λ n i. inr i)

on_left : (ls ms : List ℕ) (xs : List LineFault) → On ls xs → On (ls ++ ms) xs
on_left ls ms = moved ls (ls ++ ms) (one_left ls ms)

on_right : (ls ms : List ℕ) (xs : List LineFault) → On ms xs → On (ls ++ ms) xs
on_right ls ms = moved ms (ls ++ ms) (one_right ls ms)

on_both : (ls ms : List ℕ) (xs ys : List LineFault) → On ls xs → On ms ys → On (ls ++ ms) (xs ++ ys)
on_both ls ms xs ys f g = on_append (ls ++ ms) xs ys (on_left ls ms xs f) (on_right ls ms ys g)

on_head : (l : ℕ) (ls : List ℕ) (xs ys : List LineFault) → On (l ∷ []) xs → On ls ys → On (l ∷ ls) (xs ++ ys)
on_head l ls xs ys f g = on_append (l ∷ ls) xs ys (on_first l ls xs f) (on_later l ls ys g)

-- one line
on_if : (is : Bool) (code : Code) (line : ℕ) → ((code ≡ Duplicate) ⊎ (code ≡ Unknown)) → On (line ∷ []) (fault_if is code line)
unfolding fault_if
on_if true code line ok = (record { line = inl refl; code = ok }, tt)
on_if false code line ok = tt

on_declares : (names : List Name) (line : ℕ) (name : Name) → On (line ∷ []) (declares names line name)
on_declares names line name = on_if (has names name) Duplicate line (inl refl)

on_uses : (names : List Name) (line : ℕ) (name : Name) → On (line ∷ []) (uses names line name)
on_uses names line name = on_if (not (has names name)) Unknown line (inr refl)

on_two : (line : ℕ) (xs ys : List LineFault) → On (line ∷ []) xs → On (line ∷ []) ys → On (line ∷ []) (xs ++ ys)
on_two line = on_append (line ∷ [])

on_maybe : (names : List Name) (line : ℕ) (name : Option Name) → On (line ∷ []) (uses_maybe names line name)
on_maybe names line None = tt
on_maybe names line (Some name) = on_uses names line name

on_index : (locals : List Name) (line : ℕ) (i : Index) → On (line ∷ []) (index_name_faults locals line i)
on_index locals line (index.Int n) = tt
on_index locals line (index.Var i) = on_uses locals line i
on_index locals line (index.Plus i n) = on_uses locals line i
on_index locals line (index.Minus i n) = on_uses locals line i
on_index locals line (index.From n i) = on_uses locals line i
on_index locals line (index.Times n i) = on_uses locals line i
on_index locals line (index.TimesPlus n i m) = on_uses locals line i

on_item : (locals : List Name) (line : ℕ) (i : Option Index) → On (line ∷ []) (item_faults locals line i)
on_item locals line None = tt
on_item locals line (Some i) = on_index locals line i

on_limit : (locals : List Name) (line : ℕ) (l : Limit) → On (line ∷ []) (limit_name_faults locals line l)
on_limit locals line (limit.Int n) = tt
on_limit locals line (limit.Var name) = on_uses locals line name
on_limit locals line (limit.Times n name) = on_uses locals line name

on_expr : (globals locals : List Name) (line : ℕ) (e : PureExpr) → On (line ∷ []) (expr_name_faults globals locals line e)
on_expr globals locals line (ENumber digits) = tt
on_expr globals locals line (EName name) = on_uses locals line name
on_expr globals locals line (EAt name i) = on_two line _ _ (on_uses locals line name) (on_index locals line i)
on_expr globals locals line (ECast name a) = on_two line _ _ (on_uses globals line name) (on_expr globals locals line a)
on_expr globals locals line (ESelect test a b) = on_two line _ _ (on_expr globals locals line test) (on_two line _ _ (on_expr globals locals line a) (on_expr globals locals line b))
on_expr globals locals line (ENot a) = on_expr globals locals line a
on_expr globals locals line (ENeg a) = on_expr globals locals line a
on_expr globals locals line (EShift a left n) = on_expr globals locals line a
on_expr globals locals line (EBinary op a b) = on_two line _ _ (on_expr globals locals line a) (on_expr globals locals line b)

-- statements
mutual
  on_stmt : (globals locals : List Name) (s : PureStmt) → On (lines_of_stmt s) (stmt_faults globals locals s)
  on_stmt globals locals (SAssign line name i value) = on_two line _ _ (on_uses locals line name) (on_two line _ _ (on_item locals line i) (on_expr globals locals line value))
  on_stmt globals locals (SIf line test a b) = on_head line (lines_of_stmts a ++ lines_of_stmts b) (expr_name_faults globals locals line test) (stmts_faults globals locals a ++ stmts_faults globals locals b)
      (on_expr globals locals line test) (on_both (lines_of_stmts a) (lines_of_stmts b) (stmts_faults globals locals a) (stmts_faults globals locals b) (on_stmts globals locals a) (on_stmts globals locals b))
  on_stmt globals locals (SFor line name from end body) = on_append (line ∷ lines_of_stmts body) (limit_name_faults locals line end) (declares locals line name ++ stmts_faults globals (with_declared locals name) body)
      (on_first line (lines_of_stmts body) (limit_name_faults locals line end) (on_limit locals line end))
      (on_head line (lines_of_stmts body) (declares locals line name) (stmts_faults globals (with_declared locals name) body) (on_declares locals line name) (on_stmts globals (with_declared locals name) body))
  on_stmt globals locals (SNotify line event after) = on_uses locals line event
  on_stmt globals locals (SSetRate line name value) = on_two line _ _ (on_uses locals line name) (on_expr globals locals line value)
  on_stmt globals locals (SSetStep line port step) = on_maybe locals line port
  on_stmt globals locals (SAccept line) = tt
  on_stmt globals locals (SReject line) = tt

  on_stmts : (globals locals : List Name) (ss : PureStmts) → On (lines_of_stmts ss) (stmts_faults globals locals ss)
  on_stmts globals locals Done = tt
  on_stmts globals locals (More s ss) = on_both (lines_of_stmt s) (lines_of_stmts ss) (stmt_faults globals locals s) (stmts_faults globals locals ss) (on_stmt globals locals s) (on_stmts globals locals ss)

on_body : (globals locals : List Name) (ss : PureStmts) (end : ℕ) → On (lines_to_end ss end) (stmts_faults globals locals ss)
on_body globals locals Done end = tt
on_body globals locals (More s ss) end = on_left (lines_of_stmts (More s ss)) (end ∷ []) (stmts_faults globals locals (More s ss)) (on_stmts globals locals (More s ss))

-- lists of lines, and of parts with many lines
on_lines : {L : Type 0} (line_of : L → ℕ) (faults : List Name → L → List LineFault) (declared : L → List Name) → ((names : List Name) (l : L) → On (line_of l ∷ []) (faults names l))
    → (names : List Name) (list : List L) → On (map line_of list) (in_order faults declared names list)
on_lines line_of faults declared each names [] = tt
on_lines line_of faults declared each names (l ∷ ls) = on_head (line_of l) (map line_of ls) (faults names l) (in_order faults declared (with_names names (declared l)) ls)
    (each names l) (on_lines line_of faults declared each (with_names names (declared l)) ls)

on_blocks : {L : Type 0} (lines_of : L → List ℕ) (faults : List Name → L → List LineFault) (declared : L → List Name) → ((names : List Name) (l : L) → On (lines_of l) (faults names l))
    → (names : List Name) (list : List L) → On (flat_map lines_of list) (in_order faults declared names list)
on_blocks lines_of faults declared each names [] = tt
on_blocks lines_of faults declared each names (l ∷ ls) = on_both (lines_of l) (flat_map lines_of ls) (faults names l) (in_order faults declared (with_names names (declared l)) ls)
    (each names l) (on_blocks lines_of faults declared each (with_names names (declared l)) ls)

on_each : {L : Type 0} (line_of : L → ℕ) (faults : L → List LineFault) → ((l : L) → On (line_of l ∷ []) (faults l)) → (list : List L) → On (map line_of list) (flat_map faults list)
on_each line_of faults each [] = tt
on_each line_of faults each (l ∷ ls) = on_head (line_of l) (map line_of ls) (faults l) (flat_map faults ls) (each l) (on_each line_of faults each ls)

on_parts : {L : Type 0} (lines_of : L → List ℕ) (faults : L → List LineFault) → ((l : L) → On (lines_of l) (faults l)) → (list : List L) → On (flat_map lines_of list) (flat_map faults list)
on_parts lines_of faults each [] = tt
on_parts lines_of faults each (l ∷ ls) = on_both (lines_of l) (flat_map lines_of ls) (faults l) (flat_map faults ls) (each l) (on_parts lines_of faults each ls)

-- lines that declare
on_format : (globals : List Name) (line : ℕ) (format : FormatRef) → On (line ∷ []) (format_name_faults globals line format)
on_format globals line (Own shape) = tt
on_format globals line (Named name) = on_uses globals line name

on_formatted : (globals locals : List Name) (line : ℕ) (name : Name) (format : FormatRef) → On (line ∷ []) (formatted_faults globals locals line name format)
on_formatted globals locals line name format = on_two line _ _ (on_declares locals line name) (on_format globals line format)

on_store : (globals locals : List Name) (store : PureStore) → On (line_of_store store ∷ []) (store_name_faults globals locals store)
on_store globals locals (SConst line name format value) = on_formatted globals locals line name format
on_store globals locals (SVar line name format value) = on_formatted globals locals line name format
on_store globals locals (SArray line name format size values) = on_formatted globals locals line name format

on_tdf_line : (globals locals : List Name) (line : PureTdfLine) → On (line_of_tdf_line line ∷ []) (tdf_line_name_faults globals locals line)
on_tdf_line globals locals (TPort port) = on_formatted globals locals port.line port.name port.format
on_tdf_line globals locals (TStore store) = on_store globals locals store
on_tdf_line globals locals (TRate line name least greatest start) = on_declares locals line name

on_attr : (locals : List Name) (a : Attr) → On (line_of_attr a ∷ []) (attr_name_faults locals a)
on_attr locals (attr.Step line port step) = on_maybe locals line port
on_attr locals (attr.Rate line port rate) = on_two line _ _ (on_uses locals line port) (on_limit locals line rate)
on_attr locals (attr.Delay line port count) = on_uses locals line port
on_attr locals (attr.Does line) = tt
on_attr locals (attr.Accept line) = tt
on_attr locals (attr.Reject line) = tt

on_de_line : (globals locals : List Name) (line : PureDeLine) → On (line_of_de_line line ∷ []) (de_line_name_faults globals locals line)
on_de_line globals locals (DPort port) = on_formatted globals locals port.line port.name port.format
on_de_line globals locals (DStore store) = on_store globals locals store
on_de_line globals locals (DEvent line name) = on_declares locals line name

on_member : (globals locals : List Name) (m : Member) → On (line_of_member m ∷ []) (member_name_faults globals locals m)
on_member globals locals (member.Port port) = on_formatted globals locals port.line port.name port.format
on_member globals locals (member.Signal line name format) = on_formatted globals locals line name format
on_member globals locals (member.DeSignal line name format start) = on_formatted globals locals line name format
on_member globals locals (member.Instance line name block) = on_two line _ _ (on_declares locals line name) (on_uses globals line block)
on_member globals locals (member.Bind line instance port target) = on_two line _ _ (on_uses locals line instance) (on_uses locals line target)

-- blocks
on_tdf : (globals : List Name) (b : PureTdf) → On (lines_of_tdf b) (declares globals b.line b.name ++ tdf_name_faults globals b)
on_tdf globals b =
    let own : List Name = with_names [] (names_of_tdf_lines b.decls) in
    on_head b.line _ (declares globals b.line b.name) (tdf_name_faults globals b) (on_declares globals b.line b.name)
    (on_both _ _ _ _ (on_lines line_of_tdf_line (tdf_line_name_faults globals) names_of_tdf_line (on_tdf_line globals) [] b.decls)
    (on_both _ _ _ _ (on_each line_of_attr (attr_name_faults own) (on_attr own) b.attrs)
    (on_both _ _ _ _ (on_each line_of_initial (initial_name_faults own) (λ i. on_uses own i.line i.port) b.initials)
    (on_both _ _ _ _ (on_body globals own b.initialize.list b.initialize.end)
    (on_both _ _ _ _ (on_body globals own b.processing.list b.processing.end)
    (on_both _ _ _ _ (on_body globals own b.change.list b.change.end)
    (on_body globals own b.reinitialize.list b.reinitialize.end)))))))

on_process : (globals locals : List Name) (p : PureProcess) → On (lines_of_process p) (process_name_faults globals locals p)
on_process globals locals p = on_later p.line _ (process_name_faults globals locals p)
    (on_both _ _ _ _ (on_each line_of_sense (sense_name_faults locals) (λ s. on_uses locals s.line s.name) p.sensitive) (on_body globals locals p.body.list p.body.end))

on_de : (globals : List Name) (b : PureDe) → On (lines_of_de b) (declares globals b.line b.name ++ de_name_faults globals b)
on_de globals b =
    let own : List Name = with_names [] (names_of_de_lines b.decls) in
    on_head b.line _ (declares globals b.line b.name) (de_name_faults globals b) (on_declares globals b.line b.name)
    (on_both _ _ _ _ (on_lines line_of_de_line (de_line_name_faults globals) names_of_de_line (on_de_line globals) [] b.decls)
    (on_parts lines_of_process (process_name_faults globals own) (on_process globals own) b.processes))

on_members : (globals : List Name) (b : PureComposite) → On (map line_of_member b.members) (composite_name_faults globals b)
on_members globals b = on_lines line_of_member (member_name_faults globals) names_of_member (on_member globals) [] b.members

on_global : (globals : List Name) (g : PureGlobal) → On (lines_of_global g) (global_name_faults globals g)
on_global globals (GShape shape) = on_declares globals shape.line shape.name
on_global globals (GTdf block) = on_tdf globals block
on_global globals (GDe block) = on_de globals block
on_global globals (GNet block) = on_head block.line (map line_of_member block.members) (declares globals block.line block.name) (composite_name_faults globals block)
    (on_declares globals block.line block.name) (on_members globals block)

pub faults_stand : FaultsStand
unfolding name_faults
faults_stand tree =
    let globals : List Name = with_names [] (names_of_globals tree.globals) in
    on_both _ _ _ _ (on_blocks lines_of_global global_name_faults names_of_global on_global [] tree.globals)
    (on_both _ _ _ _ (on_later tree.top.line (map line_of_member tree.top.members) (composite_name_faults globals tree.top) (on_members globals tree.top))
    (on_lines line_of_trace trace_faults names_of_trace (λ labels t. on_declares labels t.line t.label) [] tree.traces))
