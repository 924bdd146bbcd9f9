-- The parts of a numbered tree stand on their lines.
use Rattle.std.proofs.Common.{◌≡◌, ℕ, zero, suc, ◌+◌, ◌-◌, List, [], ◌∷◌, ◌++◌, Some, length, map, refl, sym, subst, arith, append_assoc}
use Rattle.std.proofs.lemmas.List.{length-map}
use Rattle.std.specs.List.{flat_map, slice_get}
use Rattle.tdf_lang_printer.specs.Canon.{stmt_lines, stmts_lines, else_lines, part_lines, attr_line, attributes_lines, initial_line, initialize_lines, tdf_line, tdf_lines, de_line, de_lines, sense_line, dont_lines, process_lines, member_line, global_lines, form_of_trace, tree_lines}
use Rattle.tdf_lang_tree.specs.Forms.{Form, FTdf, FDe, FComposite, FTop, FEnd, FSetAttributes, FInitialize, FProcessing, FChangeAttributes, FReinitialize, FProcess, FIf, FElse, FFor}
use Rattle.tdf_lang_tree.specs.LinesIn.{line_of_tdf_line, line_of_attr, line_of_initial, line_of_sense, line_of_de_line, line_of_member, line_of_trace}
use Rattle.tdf_lang_tree.specs.Pure.{PureStmt, SAssign, SIf, SFor, SNotify, SSetRate, SSetStep, SAccept, SReject, PureStmts, Done, More, SConst, SVar, SArray, PureTdfLine, TPort, TStore, TRate, PureTdf, PureDeLine, DPort, DStore, DEvent, PureProcess, PureDe, PureGlobal, GShape, GTdf, GDe, GNet, PureTree}
use Rattle.tdf_lang_tree.specs.declared.blocks.Attr.{Attr}
use Rattle.tdf_lang_tree.specs.declared.blocks.Attr.TheVariants as attr
use Rattle.tdf_lang_tree.specs.declared.blocks.Initial.{Initial}
use Rattle.tdf_lang_tree.specs.declared.blocks.Member.{Member}
use Rattle.tdf_lang_tree.specs.declared.blocks.Member.TheVariants as member
use Rattle.tdf_stim_lines.specs.Numbered.{lines_at, parts_at, stmt_at, stmts_at, end_at, tdf_line_at, attr_at, initial_at, tdf_at, de_line_at, sense_at, process_at, de_at, member_at, global_at, trace_at, line_after_head, numbered}
use Rattle.tdf_stim_lines.specs.NumberedForms.{NumberedForm, numbered_form, forms_by, stmt_forms, stmts_forms, forms_to_end, tdf_forms, process_forms, de_forms, global_forms, tree_forms, IsInPlace, AreInPlace}

-- ---- one part among more lines

here : (first : ℕ) (form : Form) (lines : List Form) → IsInPlace first (form ∷ lines) (numbered_form first form)
here first form lines = let e : first - first ≡ 0 = omega arith in record { from = omega arith; there = rw e refl }

later : (first : ℕ) (line : Form) (lines : List Form) (p : NumberedForm) → IsInPlace (first + 1) lines p → IsInPlace first (line ∷ lines) p
later first line lines p h =
    let e : p.number - first ≡ suc (p.number - (first + 1)) = omega (arith, h.from) in
    record { from = omega (arith, h.from); there = rw e h.there }

get_front : (a b : List Form) (k : ℕ) (x : Form) → slice_get a k ≡ Some x → slice_get (a ++ b) k ≡ Some x
get_front [] b k x h = absurd (cc)
get_front (line ∷ a) b zero x h = h
get_front (line ∷ a) b (suc k) x h = get_front a b k x h

back : (first : ℕ) (a b : List Form) (p : NumberedForm) → IsInPlace (first + length a) b p → IsInPlace first (a ++ b) p
back first [] b p h = let e : first + 0 ≡ first = omega arith in subst (λ k. IsInPlace k b p) e h
back first (line ∷ a) b p h =
    let e : first + length (line ∷ a) ≡ first + 1 + length a = omega arith in
    later first line (a ++ b) p (back (first + 1) a b p (subst (λ k. IsInPlace k b p) e h))

-- ---- parts among more lines

laters : (first : ℕ) (line : Form) (lines : List Form) (ps : List NumberedForm) → AreInPlace (first + 1) lines ps → AreInPlace first (line ∷ lines) ps
laters first line lines [] h = tt
laters first line lines (p ∷ ps) h = (later first line lines p h.0, laters first line lines ps h.1)

fronts : (first : ℕ) (a b : List Form) (ps : List NumberedForm) → AreInPlace first a ps → AreInPlace first (a ++ b) ps
fronts first a b [] h = tt
fronts first a b (p ∷ ps) h = (record { from = h.0.from; there = get_front a b (p.number - first) p.form h.0.there }, fronts first a b ps h.1)

backs : (first : ℕ) (a b : List Form) (ps : List NumberedForm) → AreInPlace (first + length a) b ps → AreInPlace first (a ++ b) ps
backs first a b [] h = tt
backs first a b (p ∷ ps) h = (back first a b p h.0, backs first a b ps h.1)

both : (first : ℕ) (lines : List Form) (ps qs : List NumberedForm) → AreInPlace first lines ps → AreInPlace first lines qs → AreInPlace first lines (ps ++ qs)
both first lines [] qs h k = k
both first lines (p ∷ ps) qs h k = (h.0, both first lines ps qs h.1 k)

join : (first : ℕ) (a b : List Form) (ps qs : List NumberedForm) → AreInPlace first a ps → AreInPlace (first + length a) b qs → AreInPlace first (a ++ b) (ps ++ qs)
join first a b ps qs h k = both first (a ++ b) ps qs (fronts first a b ps h) (backs first a b qs k)

join_two : (first : ℕ) (a b : List Form) (ps qs rs : List NumberedForm) → AreInPlace first a (ps ++ qs) → AreInPlace (first + length a) b rs → AreInPlace first (a ++ b) (ps ++ (qs ++ rs))
join_two first a b ps qs rs h k = subst (λ l. AreInPlace first (a ++ b) l) (append_assoc ps qs rs) (join first a b (ps ++ qs) rs h k)

-- a head, and what follows it
after : (first : ℕ) (line : Form) (lines : List Form) (ps : List NumberedForm) → AreInPlace (first + 1) lines ps → AreInPlace first (line ∷ lines) (numbered_form first line ∷ ps)
after first line lines ps h = (here first line lines, laters first line lines ps h)

single : (first : ℕ) (line : Form) → AreInPlace first (line ∷ []) (numbered_form first line ∷ [])
single first line = (here first line [], tt)

-- ---- lists

singles : {A : Type 0} (number : A → ℕ) (form : A → Form) (put : ℕ → A → A) → ((at : ℕ) (x : A) → numbered_form (number (put at x)) (form (put at x)) ≡ numbered_form at (form x)) → (at : ℕ) (xs : List A)
    → AreInPlace at (map form xs) (forms_by number form (lines_at put at xs))
singles number form put is at [] = tt
singles number form put is at (x ∷ xs) =
    let rest = forms_by number form (lines_at put (at + 1) xs) in
    subst (λ (p : NumberedForm). AreInPlace at (form x ∷ map form xs) (p ∷ rest)) (sym (is at x)) (after at (form x) (map form xs) rest (singles number form put is (at + 1) xs))

-- lines, and what follows them
lines_then : {A : Type 0} (number : A → ℕ) (form : A → Form) (put : ℕ → A → A) → ((at : ℕ) (x : A) → numbered_form (number (put at x)) (form (put at x)) ≡ numbered_form at (form x)) → (at : ℕ) (xs : List A)
    (more : List Form) (qs : List NumberedForm) → AreInPlace (at + length xs) more qs → AreInPlace at (map form xs ++ more) (forms_by number form (lines_at put at xs) ++ qs)
lines_then number form put is at xs more qs h =
    let e : at + length xs ≡ at + length (map form xs) = omega (arith, length-map xs form) in
    join at (map form xs) more (forms_by number form (lines_at put at xs)) qs (singles number form put is at xs) (subst (λ k. AreInPlace k more qs) e h)

flats : {A : Type 0} (lines : A → List Form) (parts : A → List NumberedForm) (put : ℕ → A → A) → ((at : ℕ) (x : A) → AreInPlace at (lines x) (parts (put at x))) → (at : ℕ) (xs : List A)
    → AreInPlace at (flat_map lines xs) (flat_map parts (parts_at lines put at xs))
flats lines parts put each at [] = tt
flats lines parts put each at (x ∷ xs) =
    join at (lines x) (flat_map lines xs) (parts (put at x)) (flat_map parts (parts_at lines put (at + length (lines x)) xs)) (each at x) (flats lines parts put each (at + length (lines x)) xs)

-- ---- statements and bodies

else_stand : (at : ℕ) (ss : PureStmts) → AreInPlace (at + 1) (stmts_lines ss) (stmts_forms (stmts_at (at + 1) ss)) → AreInPlace at (else_lines ss) (stmts_forms (stmts_at (at + 1) ss))
else_stand at Done h = tt
else_stand at (More s ss) h = laters at FElse (stmts_lines (More s ss)) (stmts_forms (stmts_at (at + 1) (More s ss))) h

mutual
  stmt_stands : (at : ℕ) (s : PureStmt) → AreInPlace at (stmt_lines s) (stmt_forms (stmt_at at s))
  stmt_stands at (SAssign line name i x) = single at _
  stmt_stands at (SIf line x first second) =
      let middle = at + 1 + length (stmts_lines first) in
      let others = stmts_forms (stmts_at (middle + 1) second) in
      after at (FIf x) (stmts_lines first ++ (else_lines second ++ FEnd ∷ [])) (stmts_forms (stmts_at (at + 1) first) ++ others)
      (join (at + 1) (stmts_lines first) (else_lines second ++ FEnd ∷ []) (stmts_forms (stmts_at (at + 1) first)) others (stmts_stand (at + 1) first)
      (fronts middle (else_lines second) (FEnd ∷ []) others (else_stand middle second (stmts_stand (middle + 1) second))))
  stmt_stands at (SFor line name from l body) =
      after at (FFor name from l) (stmts_lines body ++ FEnd ∷ []) (stmts_forms (stmts_at (at + 1) body))
      (fronts (at + 1) (stmts_lines body) (FEnd ∷ []) (stmts_forms (stmts_at (at + 1) body)) (stmts_stand (at + 1) body))
  stmt_stands at (SNotify line event after) = single at _
  stmt_stands at (SSetRate line name x) = single at _
  stmt_stands at (SSetStep line port step) = single at _
  stmt_stands at (SAccept line) = single at _
  stmt_stands at (SReject line) = single at _

  stmts_stand : (at : ℕ) (ss : PureStmts) → AreInPlace at (stmts_lines ss) (stmts_forms (stmts_at at ss))
  stmts_stand at Done = tt
  stmts_stand at (More s ss) =
      join at (stmt_lines s) (stmts_lines ss) (stmt_forms (stmt_at at s)) (stmts_forms (stmts_at (at + length (stmt_lines s)) ss)) (stmt_stands at s) (stmts_stand (at + length (stmt_lines s)) ss)

body_stands : (at : ℕ) (ss : PureStmts) → AreInPlace at (stmts_lines ss ++ FEnd ∷ []) (forms_to_end (stmts_at at ss) (end_at at ss))
body_stands at Done = tt
body_stands at (More s ss) =
    let end = at + length (stmts_lines (More s ss)) in
    join at (stmts_lines (More s ss)) (FEnd ∷ []) (stmts_forms (stmts_at at (More s ss))) (numbered_form end FEnd ∷ []) (stmts_stand at (More s ss)) (single end FEnd)

part_stands : (at : ℕ) (head : Form) (ss : PureStmts) → AreInPlace at (part_lines head ss) (forms_to_end (stmts_at (at + 1) ss) (end_at (at + 1) ss))
part_stands at head Done = tt
part_stands at head (More s ss) =
    laters at head (stmts_lines (More s ss) ++ FEnd ∷ []) (forms_to_end (stmts_at (at + 1) (More s ss)) (end_at (at + 1) (More s ss))) (body_stands (at + 1) (More s ss))

-- ---- lines of a `tdf` block

tdf_line_stands : (at : ℕ) (x : PureTdfLine) → numbered_form (line_of_tdf_line (tdf_line_at at x)) (tdf_line (tdf_line_at at x)) ≡ numbered_form at (tdf_line x)
tdf_line_stands at (TPort port) = refl
tdf_line_stands at (TStore (SConst line name x v)) = refl
tdf_line_stands at (TStore (SVar line name x v)) = refl
tdf_line_stands at (TStore (SArray line name x size vs)) = refl
tdf_line_stands at (TRate line name least greatest start) = refl

attr_stands : (at : ℕ) (x : Attr) → numbered_form (line_of_attr (attr_at at x)) (attr_line (attr_at at x)) ≡ numbered_form at (attr_line x)
attr_stands at (attr.Step line port step) = refl
attr_stands at (attr.Rate line port rate) = refl
attr_stands at (attr.Delay line port count) = refl
attr_stands at (attr.Does line) = refl
attr_stands at (attr.Accept line) = refl
attr_stands at (attr.Reject line) = refl

attributes_stand : (at : ℕ) (xs : List Attr) → AreInPlace at (attributes_lines xs) (forms_by line_of_attr attr_line (lines_at attr_at (at + 1) xs))
attributes_stand at [] = tt
attributes_stand at (x ∷ xs) =
    let parts = forms_by line_of_attr attr_line (lines_at attr_at (at + 1) (x ∷ xs)) in
    laters at FSetAttributes (map attr_line (x ∷ xs) ++ FEnd ∷ []) parts
    (fronts (at + 1) (map attr_line (x ∷ xs)) (FEnd ∷ []) parts (singles line_of_attr attr_line attr_at attr_stands (at + 1) (x ∷ xs)))

initialize_stands : (at : ℕ) (xs : List Initial) (ss : PureStmts) → AreInPlace at (initialize_lines xs ss)
    (forms_by line_of_initial initial_line (lines_at initial_at (at + 1) xs) ++ forms_to_end (stmts_at (at + 1 + length xs) ss) (end_at (at + 1 + length xs) ss))
initialize_stands at [] Done = tt
initialize_stands at [] (More s ss) =
    let e : at + 1 ≡ at + 1 + 0 = omega arith in
    laters at FInitialize (stmts_lines (More s ss) ++ FEnd ∷ []) _
    (subst (λ k. AreInPlace (at + 1) (stmts_lines (More s ss) ++ FEnd ∷ []) (forms_to_end (stmts_at k (More s ss)) (end_at k (More s ss)))) e (body_stands (at + 1) (More s ss)))
initialize_stands at (x ∷ xs) ss =
    let k = at + 1 + length (x ∷ xs) in
    let parts = forms_by line_of_initial initial_line (lines_at initial_at (at + 1) (x ∷ xs)) ++ forms_to_end (stmts_at k ss) (end_at k ss) in
    laters at FInitialize ((map initial_line (x ∷ xs) ++ stmts_lines ss) ++ FEnd ∷ []) parts
    (subst (λ lines. AreInPlace (at + 1) lines parts) (sym (append_assoc (map initial_line (x ∷ xs)) (stmts_lines ss) (FEnd ∷ [])))
    (lines_then line_of_initial initial_line initial_at (λ m y. refl) (at + 1) (x ∷ xs) (stmts_lines ss ++ FEnd ∷ []) (forms_to_end (stmts_at k ss) (end_at k ss)) (body_stands k ss)))

-- ---- blocks

tdf_stands : (at : ℕ) (b : PureTdf) → AreInPlace at (tdf_lines b) (tdf_forms (tdf_at at b))
tdf_stands at b =
    let attributes = at + 1 + length b.decls in
    let initialize = attributes + length (attributes_lines b.attrs) in
    let processing = initialize + length (initialize_lines b.initials b.initialize.list) in
    let change = processing + length (part_lines FProcessing b.processing.list) in
    let reinitialize = change + length (part_lines FChangeAttributes b.change.list) in
    after at (FTdf b.name) _ _ (lines_then line_of_tdf_line tdf_line tdf_line_at tdf_line_stands (at + 1) b.decls _ _
    (join attributes (attributes_lines b.attrs) _ _ _ (attributes_stand attributes b.attrs)
    (join_two initialize (initialize_lines b.initials b.initialize.list) _ _ _ _ (initialize_stands initialize b.initials b.initialize.list)
    (join processing (part_lines FProcessing b.processing.list) _ _ _ (part_stands processing FProcessing b.processing.list)
    (join change (part_lines FChangeAttributes b.change.list) _ _ _ (part_stands change FChangeAttributes b.change.list)
    (fronts reinitialize (part_lines FReinitialize b.reinitialize.list) (FEnd ∷ []) _ (part_stands reinitialize FReinitialize b.reinitialize.list)))))))

de_line_stands : (at : ℕ) (x : PureDeLine) → numbered_form (line_of_de_line (de_line_at at x)) (de_line (de_line_at at x)) ≡ numbered_form at (de_line x)
de_line_stands at (DPort port) = refl
de_line_stands at (DStore (SConst line name x v)) = refl
de_line_stands at (DStore (SVar line name x v)) = refl
de_line_stands at (DStore (SArray line name x size vs)) = refl
de_line_stands at (DEvent line name) = refl

process_stands : (at : ℕ) (p : PureProcess) → AreInPlace at (process_lines p) (process_forms (process_at at p))
process_stands at p =
    let dont = at + 1 + length p.sensitive in
    after at FProcess _ _ (lines_then line_of_sense sense_line sense_at (λ m y. refl) (at + 1) p.sensitive _ _
    (backs dont (dont_lines p.starts) (stmts_lines p.body.list ++ FEnd ∷ []) _ (body_stands (dont + length (dont_lines p.starts)) p.body.list)))

de_stands : (at : ℕ) (b : PureDe) → AreInPlace at (de_lines b) (de_forms (de_at at b))
de_stands at b =
    let processes = at + 1 + length b.decls in
    after at (FDe b.name) _ _ (lines_then line_of_de_line de_line de_line_at de_line_stands (at + 1) b.decls _ _
    (fronts processes (flat_map process_lines b.processes) (FEnd ∷ []) _ (flats process_lines process_forms process_at process_stands processes b.processes)))

member_stands : (at : ℕ) (x : Member) → numbered_form (line_of_member (member_at at x)) (member_line (member_at at x)) ≡ numbered_form at (member_line x)
member_stands at (member.Port port) = refl
member_stands at (member.Signal line name x) = refl
member_stands at (member.DeSignal line name x start) = refl
member_stands at (member.Instance line name block) = refl
member_stands at (member.Bind line instance port target) = refl

global_stands : (at : ℕ) (g : PureGlobal) → AreInPlace at (global_lines g) (global_forms (global_at at g))
global_stands at (GShape shape) = single at _
global_stands at (GTdf block) = tdf_stands at block
global_stands at (GDe block) = de_stands at block
global_stands at (GNet block) =
    after at (FComposite block.name) _ _
    (fronts (at + 1) (map member_line block.members) (FEnd ∷ []) _ (singles line_of_member member_line member_at member_stands (at + 1) block.members))

pub numbered_stands : (tree : PureTree) → AreInPlace (line_after_head tree.version) (tree_lines tree) (tree_forms (numbered tree))
unfolding numbered
numbered_stands tree =
    let first = line_after_head tree.version in
    let top = first + length (flat_map global_lines tree.globals) in
    let members = tree.top.members in
    join first (flat_map global_lines tree.globals) _ _ _ (flats global_lines global_forms global_at global_stands first tree.globals)
    (after top FTop _ _ (lines_then line_of_member member_line member_at member_stands (top + 1) members _ _
    (laters (top + 1 + length members) FEnd (map form_of_trace tree.traces) _
    (singles line_of_trace form_of_trace trace_at (λ m y. refl) (top + 1 + length members + 1) tree.traces))))
