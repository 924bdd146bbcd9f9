-- The texts that the code's functions append; a line without a time is alike in every unit.
use Rattle.std.specs.Prelude.{ℕ, List, [], ◌∷◌, ◌++◌, codes}
use Rattle.tdf_base.specs.declared.resolution.Resolution.{Resolution}
use Rattle.tdf_base.specs.declared.resolution.Resolution.TheVariants.{Ps}
use Rattle.tdf_lang_tree.specs.declared.names.Lit.{Lit}
use Rattle.tdf_lang_tree.specs.Views.{pure_stmt, pure_stmts, pure_tdf, pure_process, pure_de, pure_composite, pure_global, pure_store, pure_tdf_line, pure_de_line, pure_trace}
use Rattle.tdf_lang_tree.specs.declared.blocks.Attr.{Attr}
use Rattle.tdf_lang_tree.specs.declared.blocks.Composite.{Composite}
use Rattle.tdf_lang_tree.specs.declared.blocks.DeDecl.{DeDecl}
use Rattle.tdf_lang_tree.specs.declared.blocks.Process.{Process}
use Rattle.tdf_lang_tree.specs.declared.blocks.TdfDecl.{TdfDecl}
use Rattle.tdf_lang_tree.specs.declared.tree.Global1.{Global1}
use Rattle.tdf_lang_tree.specs.Forms.{Form, FSetAttributes, FProcessing, FChangeAttributes, FReinitialize, FEnd}
use Rattle.tdf_lang_tree.specs.declared.blocks.DeLine.{DeLine}
use Rattle.tdf_lang_tree.specs.declared.blocks.Initial.{Initial}
use Rattle.tdf_lang_tree.specs.declared.blocks.Member.{Member}
use Rattle.tdf_lang_tree.specs.declared.blocks.Sense.{Sense}
use Rattle.tdf_lang_tree.specs.declared.blocks.Store.{Store}
use Rattle.tdf_lang_tree.specs.declared.blocks.TdfLine.{TdfLine}
use Rattle.tdf_lang_tree.specs.declared.shapes.FormatRef.{FormatRef}
use Rattle.tdf_lang_tree.specs.declared.stmt.Stmt.{Stmt}
use Rattle.tdf_lang_tree.specs.declared.tree.Trace1.{Trace1}
use Rattle.tdf_lang_printer.specs.Canon.{part_lines, attributes_lines, initialize_lines, tdf_lines, process_lines, de_lines, composite_lines, global_lines, stmt_lines, stmts_lines, else_lines, store_line, tdf_line, attr_line, initial_line, de_line, sense_line, member_line, form_of_trace}
use Rattle.tdf_lang_printer.specs.Lines.{lit_text, format_text, full_line, lines_text}

abbrev pub value_text : Lit → List ℕ
value_text x = codes " " ++ lit_text x

abbrev pub point_text : List ℕ → List ℕ
point_text name = codes "." ++ name

-- the line of a declaration, an attribute and so on
abbrev pub store_text : Store → List ℕ
store_text x = full_line Ps (store_line (pure_store x))

abbrev pub tdf_line_text : TdfLine → List ℕ
tdf_line_text x = full_line Ps (tdf_line (pure_tdf_line x))

abbrev pub attr_text : Resolution → Attr → List ℕ
attr_text unit x = full_line unit (attr_line x)

abbrev pub initial_text : Initial → List ℕ
initial_text x = full_line Ps (initial_line x)

abbrev pub de_line_text : DeLine → List ℕ
de_line_text x = full_line Ps (de_line (pure_de_line x))

abbrev pub sense_text : Sense → List ℕ
sense_text x = full_line Ps (sense_line x)

abbrev pub member_text : Member → List ℕ
member_text x = full_line Ps (member_line x)

abbrev pub trace_text : Trace1 → List ℕ
trace_text x = full_line Ps (form_of_trace (pure_trace x))

-- a word, a name, a format and a literal
abbrev pub value_line : List ℕ → List ℕ → FormatRef → Lit → List ℕ
value_line word name x v = (word ++ (name ++ (codes " " ++ (format_text x ++ (codes " " ++ lit_text v))))) ++ 10 ∷ []

-- statements
unfoldable pub stmt_text : Resolution → Stmt → List ℕ
stmt_text unit s = lines_text unit (stmt_lines (pure_stmt s))

unfoldable pub stmts_text : Resolution → List Stmt → List ℕ
stmts_text unit list = lines_text unit (stmts_lines (pure_stmts list))

-- `else` and its statements, or nothing where there are none
unfoldable pub else_text : Resolution → List Stmt → List ℕ
else_text unit list = lines_text unit (else_lines (pure_stmts list))

-- the parts of a `tdf` block
unfoldable pub part_text : Resolution → Form → List Stmt → List ℕ
part_text unit head list = lines_text unit (part_lines head (pure_stmts list))

unfoldable pub attributes_text : Resolution → List Attr → List ℕ
attributes_text unit list = lines_text unit (attributes_lines list)

unfoldable pub initialize_text : Resolution → List Initial → List Stmt → List ℕ
initialize_text unit initials list = lines_text unit (initialize_lines initials (pure_stmts list))

-- the long heads of parts
unfoldable pub attributes_head : List ℕ
attributes_head = full_line Ps FSetAttributes

unfoldable pub change_head : List ℕ
change_head = full_line Ps FChangeAttributes

-- the parts of a `tdf` block from `processing` on, and its end
unfoldable pub bodies_text : Resolution → TdfDecl → List ℕ
bodies_text unit b = part_text unit FProcessing b.processing.list.items
    ++ (part_text unit FChangeAttributes b.change.list.items
    ++ (part_text unit FReinitialize b.reinitialize.list.items ++ full_line Ps FEnd))

-- blocks
unfoldable pub tdf_text : Resolution → TdfDecl → List ℕ
tdf_text unit block = lines_text unit (tdf_lines (pure_tdf block))

unfoldable pub process_text : Resolution → Process → List ℕ
process_text unit process = lines_text unit (process_lines (pure_process process))

unfoldable pub de_text : Resolution → DeDecl → List ℕ
de_text unit block = lines_text unit (de_lines (pure_de block))

unfoldable pub composite_text : Composite → List ℕ
composite_text block = lines_text Ps (composite_lines (pure_composite block))

unfoldable pub global_text : Resolution → Global1 → List ℕ
global_text unit item = lines_text unit (global_lines (pure_global item))
