-- The text of each block, part by part.
use Rattle.std.proofs.Common.{◌≡◌, ◌≢◌, ℕ, Bool, true, false, List, [], ◌∷◌, ◌++◌, length, refl, sym, ap, ◌∙◌, arith}
use Rattle.std.proofs.lemmas.List.{append-nil}
use Rattle.std.specs.Prelude.{map}
use Rattle.std.specs.List.{flat_map}
use Rattle.tdf_base.specs.declared.resolution.Resolution.{Resolution}
use Rattle.tdf_base.specs.declared.resolution.Resolution.TheVariants.{Ps}
use Rattle.tdf_lang_tree.specs.Pure.{SConst, SVar, SArray, TPort, TStore, TRate, DPort, DStore, DEvent}
use Rattle.tdf_lang_tree.specs.declared.blocks.Member.TheVariants as member
use Rattle.tdf_lang_tree.specs.Forms.{Form, FTdf, FDe, FComposite, FEnd, FSetAttributes, FInitialize, FProcessing, FChangeAttributes, FReinitialize, FProcess, FType, FTop}
use Rattle.tdf_lang_tree.specs.Views.{pure_composite, pure_stmts, pure_process, pure_global, pure_tdf_line, pure_de_line, pure_trace, pure_tree}
use Rattle.tdf_lang_tree.specs.declared.blocks.Attr.{Attr}
use Rattle.tdf_lang_tree.specs.declared.blocks.Composite.{Composite}
use Rattle.tdf_lang_tree.specs.declared.blocks.DeDecl.{DeDecl}
use Rattle.tdf_lang_tree.specs.declared.blocks.Initial.{Initial}
use Rattle.tdf_lang_tree.specs.declared.blocks.Process.{Process}
use Rattle.tdf_lang_tree.specs.declared.blocks.TdfDecl.{TdfDecl}
use Rattle.tdf_lang_tree.specs.declared.stmt.Stmt.{Stmt}
use Rattle.tdf_lang_tree.specs.declared.shapes.TypeDecl.{TypeDecl}
use Rattle.tdf_lang_tree.specs.declared.tree.Global1.TheVariants as global
use Rattle.tdf_lang_tree.specs.declared.tree.Tree.{Tree}
use Rattle.tdf_lang_printer.specs.Canon.{store_line, composite_lines, head_text, tree_lines, block_lines, attributes_lines, initialize_lines, canon, part_lines, dont_lines, tdf_line, attr_line, initial_line, de_line, sense_line, member_line, form_of_trace, stmts_lines, process_lines, global_lines}
use Rattle.tdf_lang_printer.specs.Lines.{full_line, lines_text}
use Rattle.tdf_lang_printer.specs.machine.Texts.{stmts_text, part_text, attributes_head, change_head, bodies_text, attributes_text, initialize_text, tdf_text, process_text, de_text, composite_text, global_text, tdf_line_text, attr_text, initial_text, de_line_text, sense_text, member_text, trace_text}
use Rattle.tdf_lang_printer.proofs.StmtTexts.{lines_append, end_text}

-- a list of lines, one an item
lines_map : {X : Type 0} (unit : Resolution) (f : X → Form) (xs : List X) → lines_text unit (map f xs) ≡ flat_map (λ x. full_line unit (f x)) xs
lines_map unit f [] = refl
lines_map unit f (x ∷ xs) = ap (λ t. full_line unit (f x) ++ t) (lines_map unit f xs)

-- lines without a time
IsAlike : {X : Type 0} → (X → Form) → Resolution → Type 0
IsAlike {X = X} f unit = (x : X) → full_line unit (f x) ≡ full_line Ps (f x)

lines_same : {X : Type 0} (unit : Resolution) (f : X → Form) → IsAlike f unit → (xs : List X) → lines_text unit (map f xs) ≡ flat_map (λ x. full_line Ps (f x)) xs
unfolding IsAlike
lines_same unit f same [] = refl
lines_same unit f same (x ∷ xs) = ap (λ t. t ++ lines_text unit (map f xs)) (same x) ∙ ap (λ t. full_line Ps (f x) ++ t) (lines_same unit f same xs)

lines_same_view : {X Y : Type 0} (unit : Resolution) (g : X → Y) (f : Y → Form) → IsAlike f unit → (xs : List X)
    → lines_text unit (map f (map g xs)) ≡ flat_map (λ x. full_line Ps (f (g x))) xs
unfolding IsAlike
lines_same_view unit g f same [] = refl
lines_same_view unit g f same (x ∷ xs) =
    ap (λ t. t ++ lines_text unit (map f (map g xs))) (same (g x)) ∙ ap (λ t. full_line Ps (f (g x)) ++ t) (lines_same_view unit g f same xs)

store_same : (unit : Resolution) → IsAlike store_line unit
unfolding IsAlike
store_same unit (SConst line name x v) = refl
store_same unit (SVar line name x v) = refl
store_same unit (SArray line name x size vs) = refl

tdf_line_same : (unit : Resolution) → IsAlike tdf_line unit
unfolding IsAlike
tdf_line_same unit (TPort port) = refl
tdf_line_same unit (TStore store) = store_same unit store
tdf_line_same unit (TRate line name least greatest start) = refl

de_line_same : (unit : Resolution) → IsAlike de_line unit
unfolding IsAlike
de_line_same unit (DPort port) = refl
de_line_same unit (DStore store) = store_same unit store
de_line_same unit (DEvent line name) = refl

initial_same : (unit : Resolution) → IsAlike initial_line unit
unfolding IsAlike
initial_same unit x = refl

sense_same : (unit : Resolution) → IsAlike sense_line unit
unfolding IsAlike
sense_same unit x = refl

trace_same : (unit : Resolution) → IsAlike form_of_trace unit
unfolding IsAlike
trace_same unit x = refl

member_same : (unit : Resolution) → IsAlike member_line unit
unfolding IsAlike
member_same unit (member.Port port) = refl
member_same unit (member.Signal line name x) = refl
member_same unit (member.DeSignal line name x start) = refl
member_same unit (member.Instance line name block) = refl
member_same unit (member.Bind line instance port target) = refl

dont_same : (unit : Resolution) (starts : Bool) → lines_text unit (dont_lines starts) ≡ lines_text Ps (dont_lines starts)
dont_same unit true = refl
dont_same unit false = refl

-- and of blocks
lines_flat : {X Y : Type 0} (unit : Resolution) (g : X → Y) (f : Y → List Form) (xs : List X)
    → lines_text unit (flat_map f (map g xs)) ≡ flat_map (λ x. lines_text unit (f (g x))) xs
lines_flat unit g f [] = refl
lines_flat unit g f (x ∷ xs) = lines_append unit (f (g x)) (flat_map f (map g xs)) ∙ ap (λ t. lines_text unit (f (g x)) ++ t) (lines_flat unit g f xs)

lines_two : (unit : Resolution) (a b : List Form) (s t : List ℕ) → lines_text unit a ≡ s → lines_text unit b ≡ t → lines_text unit (a ++ b) ≡ s ++ t
lines_two unit a b s t e f = lines_append unit a b ∙ ap (λ u. u ++ lines_text unit b) e ∙ ap (λ u. s ++ u) f

block_text : (unit : Resolution) (head : Form) (a : List Form) → lines_text unit (block_lines head a) ≡ full_line unit head ++ (lines_text unit a ++ full_line unit FEnd)
block_text unit head a = ap (λ t. full_line unit head ++ t) (end_text unit a)

pub part_none : (unit : Resolution) (head : Form) (list : List Stmt) → length list ≡ 0 → part_text unit head list ≡ []
unfolding part_text
part_none unit head [] h = refl
part_none unit head (x ∷ list) h = absurd (omega arith)

pub part_some : (unit : Resolution) (head : Form) (list : List Stmt) → length list ≢ 0
    → part_text unit head list ≡ full_line unit head ++ (stmts_text unit list ++ full_line unit FEnd)
unfolding part_text stmts_text
part_some unit head [] h = absurd (h refl)
part_some unit head (x ∷ list) h = block_text unit head (stmts_lines (pure_stmts (x ∷ list)))

pub attributes_none : (unit : Resolution) (list : List Attr) → length list ≡ 0 → attributes_text unit list ≡ []
unfolding attributes_text
attributes_none unit [] h = refl
attributes_none unit (x ∷ list) h = absurd (omega arith)

pub attributes_some : (unit : Resolution) (list : List Attr) → length list ≢ 0
    → attributes_text unit list ≡ attributes_head ++ (flat_map (attr_text unit) list ++ full_line unit FEnd)
unfolding attributes_text attributes_head
attributes_some unit [] h = absurd (h refl)
attributes_some unit (x ∷ list) h =
    block_text unit FSetAttributes (map attr_line (x ∷ list))
    ∙ ap (λ t. full_line unit FSetAttributes ++ (t ++ full_line unit FEnd)) (lines_map unit attr_line (x ∷ list))

pub initialize_none : (unit : Resolution) (initials : List Initial) (list : List Stmt) → length initials ≡ 0 → length list ≡ 0
    → initialize_text unit initials list ≡ []
unfolding initialize_text
initialize_none unit [] [] h k = refl
initialize_none unit [] (x ∷ list) h k = absurd (omega arith)
initialize_none unit (x ∷ initials) list h k = absurd (omega arith)

initialize_inner : (unit : Resolution) (initials : List Initial) (list : List Stmt)
    → lines_text unit (map initial_line initials ++ stmts_lines (pure_stmts list)) ≡ flat_map initial_text initials ++ stmts_text unit list
unfolding stmts_text
initialize_inner unit initials list =
    lines_two unit (map initial_line initials) (stmts_lines (pure_stmts list)) _ _ (lines_same unit initial_line (initial_same unit) initials) refl

-- the part `initialize` with at least one line
initialize_whole : (unit : Resolution) (initials : List Initial) (list : List Stmt)
    → lines_text unit (block_lines FInitialize (map initial_line initials ++ stmts_lines (pure_stmts list)))
    ≡ full_line unit FInitialize ++ ((flat_map initial_text initials ++ stmts_text unit list) ++ full_line unit FEnd)
initialize_whole unit initials list =
    block_text unit FInitialize (map initial_line initials ++ stmts_lines (pure_stmts list))
    ∙ ap (λ t. full_line unit FInitialize ++ (t ++ full_line unit FEnd)) (initialize_inner unit initials list)

pub initialize_first : (unit : Resolution) (initials : List Initial) (list : List Stmt) → length initials ≢ 0
    → initialize_text unit initials list
    ≡ full_line unit FInitialize ++ ((flat_map initial_text initials ++ stmts_text unit list) ++ full_line unit FEnd)
unfolding initialize_text
initialize_first unit [] list h = absurd (h refl)
initialize_first unit (x ∷ initials) list h = initialize_whole unit (x ∷ initials) list

pub initialize_body : (unit : Resolution) (initials : List Initial) (list : List Stmt) → length list ≢ 0
    → initialize_text unit initials list
    ≡ full_line unit FInitialize ++ ((flat_map initial_text initials ++ stmts_text unit list) ++ full_line unit FEnd)
unfolding initialize_text
initialize_body unit initials [] h = absurd (h refl)
initialize_body unit [] (x ∷ list) h = initialize_whole unit [] (x ∷ list)
initialize_body unit (y ∷ initials) (x ∷ list) h = initialize_whole unit (y ∷ initials) (x ∷ list)

pub change_some : (unit : Resolution) (list : List Stmt) → length list ≢ 0
    → part_text unit FChangeAttributes list ≡ change_head ++ (stmts_text unit list ++ full_line unit FEnd)
unfolding change_head
change_some unit list h = part_some unit FChangeAttributes list h

pub bodies_is : (unit : Resolution) (b : TdfDecl) → bodies_text unit b
    ≡ part_text unit FProcessing b.processing.list.items
    ++ (part_text unit FChangeAttributes b.change.list.items
    ++ (part_text unit FReinitialize b.reinitialize.list.items ++ full_line unit FEnd))
unfolding bodies_text
bodies_is unit b = refl

pub tdf_is : (unit : Resolution) (b : TdfDecl) → tdf_text unit b
    ≡ full_line unit (FTdf b.name) ++ (flat_map tdf_line_text b.decls.items
    ++ (attributes_text unit b.attrs.items
    ++ (initialize_text unit b.initials.items b.initialize.list.items ++ bodies_text unit b)))
unfolding tdf_text attributes_text initialize_text part_text bodies_text
tdf_is unit b =
    ap (λ t. full_line unit (FTdf b.name) ++ t)
    (lines_two unit (map tdf_line (map pure_tdf_line b.decls.items)) _ _ _ (lines_same_view unit pure_tdf_line tdf_line (tdf_line_same unit) b.decls.items)
    (lines_two unit (attributes_lines b.attrs.items) _ _ _ refl
    (lines_two unit (initialize_lines b.initials.items (pure_stmts b.initialize.list.items)) _ _ _ refl
    (lines_two unit (part_lines FProcessing (pure_stmts b.processing.list.items)) _ _ _ refl
    (lines_two unit (part_lines FChangeAttributes (pure_stmts b.change.list.items)) _ _ _ refl
    (lines_two unit (part_lines FReinitialize (pure_stmts b.reinitialize.list.items)) _ _ _ refl (append-nil (full_line unit FEnd))))))))

pub process_is : (unit : Resolution) (p : Process) → process_text unit p
    ≡ full_line unit FProcess ++ (flat_map sense_text p.sensitive.items
    ++ (lines_text Ps (dont_lines p.starts) ++ (stmts_text unit p.body.list.items ++ full_line unit FEnd)))
unfolding process_text stmts_text
process_is unit p =
    ap (λ t. full_line unit FProcess ++ t)
    (lines_two unit (map sense_line p.sensitive.items) _ _ _ (lines_same unit sense_line (sense_same unit) p.sensitive.items)
    (lines_two unit (dont_lines p.starts) _ _ _ (dont_same unit p.starts) (end_text unit (stmts_lines (pure_stmts p.body.list.items)))))

pub de_is : (unit : Resolution) (b : DeDecl) → de_text unit b
    ≡ full_line unit (FDe b.name)
    ++ (flat_map de_line_text b.decls.items ++ (flat_map (process_text unit) b.processes.items ++ full_line unit FEnd))
unfolding de_text process_text
de_is unit b =
    ap (λ t. full_line unit (FDe b.name) ++ t)
    (lines_two unit (map de_line (map pure_de_line b.decls.items)) _ _ _ (lines_same_view unit pure_de_line de_line (de_line_same unit) b.decls.items)
    (lines_two unit (flat_map process_lines (map pure_process b.processes.items)) _ _ _ (lines_flat unit pure_process process_lines b.processes.items) (append-nil (full_line unit FEnd))))

composite_at : (unit : Resolution) (b : Composite) → lines_text unit (composite_lines (pure_composite b))
    ≡ full_line unit (FComposite b.name) ++ (flat_map member_text b.members.items ++ full_line unit FEnd)
composite_at unit b =
    ap (λ t. full_line unit (FComposite b.name) ++ t)
    (lines_two unit (map member_line b.members.items) _ _ _ (lines_same unit member_line (member_same unit) b.members.items) (append-nil (full_line unit FEnd)))

pub composite_is : (b : Composite) → composite_text b
    ≡ full_line Ps (FComposite b.name) ++ (flat_map member_text b.members.items ++ full_line Ps FEnd)
unfolding composite_text
composite_is b = composite_at Ps b

pub global_shape : (unit : Resolution) (d : TypeDecl) → global_text unit (global.Shape d) ≡ full_line unit (FType d.name d.shape)
unfolding global_text
global_shape unit d = append-nil (full_line unit (FType d.name d.shape))

pub global_tdf : (unit : Resolution) (b : TdfDecl) → global_text unit (global.Tdf b) ≡ tdf_text unit b
unfolding global_text tdf_text
global_tdf unit b = refl

pub global_de : (unit : Resolution) (b : DeDecl) → global_text unit (global.De b) ≡ de_text unit b
unfolding global_text de_text
global_de unit b = refl

pub global_net : (unit : Resolution) (b : Composite) → global_text unit (global.Net b) ≡ composite_text b
unfolding global_text composite_text
global_net unit b = composite_at unit b ∙ sym (composite_at Ps b)

tree_after : (t : Tree) → lines_text t.resolution (tree_lines (pure_tree t))
    ≡ flat_map (global_text t.resolution) t.globals.items
    ++ (full_line Ps FTop ++ (flat_map member_text t.top.members.items ++ (full_line Ps FEnd ++ flat_map trace_text t.traces.items)))
unfolding global_text
tree_after t =
    lines_two t.resolution (flat_map global_lines (map pure_global t.globals.items)) _ _ _ (lines_flat t.resolution pure_global global_lines t.globals.items)
    (ap (λ u. full_line Ps FTop ++ u)
    (lines_two t.resolution (map member_line t.top.members.items) _ _ _ (lines_same t.resolution member_line (member_same t.resolution) t.top.members.items)
    (ap (λ u. full_line Ps FEnd ++ u) (lines_same_view t.resolution pure_trace form_of_trace (trace_same t.resolution) t.traces.items))))

pub tree_is : (t : Tree) → canon (pure_tree t)
    ≡ head_text t.version t.resolution ++ (flat_map (global_text t.resolution) t.globals.items
    ++ (full_line Ps FTop ++ (flat_map member_text t.top.members.items ++ (full_line Ps FEnd ++ flat_map trace_text t.traces.items))))
unfolding canon
tree_is t = ap (λ u. head_text t.version t.resolution ++ u) (tree_after t)

pub ruleset part_laws = (part_none, part_some, attributes_none, attributes_some, initialize_none, initialize_first, initialize_body)

pub ruleset change_laws = (part_none, change_some)

pub ruleset block_laws = (tdf_is, bodies_is, process_is, de_is, composite_is, global_shape, global_tdf, global_de, global_net, tree_is)
