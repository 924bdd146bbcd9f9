-- What a walk over a part leaves.
-- Source: own.
use Rattle.std.specs.List.{flat_map}
use Rattle.std.specs.Prelude.{◌≡◌, ◌≤◌, ◌<◌, ℕ, ◌+◌, Bool, List, length}
use Rattle.tdf_lang_printer.specs.Canon.{stmt_lines, stmts_lines, else_lines, attributes_lines, initialize_lines, part_lines, dont_lines, process_lines, de_lines, tdf_lines, composite_lines, global_lines}
use Rattle.tdf_lang_tree.specs.Forms.{FProcessing}
use Rattle.tdf_lang_tree.specs.Pure.{PureStmt, PureStmts, PureBody, PureTdf, PureProcess, PureDe, PureComposite, PureGlobal}
use Rattle.tdf_lang_tree.specs.declared.blocks.Attr.{Attr}
use Rattle.tdf_lang_tree.specs.declared.blocks.Initial.{Initial}
use Rattle.tdf_stim_lines.specs.Numbered.{body_at, attr_at, initial_at, lines_at, stmts_at}

-- the greatest number, at which numbers stay: there they have run out
abbrev pub last_number : ℕ
last_number = 4294967295

-- as long as numbers don't run out, a part has those from `at` on, and `next` is the line after it
pub record Walks {P : Type 0} (size : P → ℕ) (set : ℕ → P → P) (at next : ℕ) (old new : P)
    : Type 0 where
  pub later : at ≤ next
  pub next_is : next < last_number → next ≡ at + size old
  pub new_is : next < last_number → new ≡ set at old

abbrev pub one : {P : Type 0} → P → ℕ
one part = 1

abbrev pub stmt_size : PureStmt → ℕ
stmt_size s = length (stmt_lines s)

abbrev pub stmts_size : PureStmts → ℕ
stmts_size ss = length (stmts_lines ss)

-- statements behind `else`, where there are some
abbrev pub else_size : PureStmts → ℕ
else_size ss = length (else_lines ss)

abbrev pub else_at : (at : ℕ) → PureStmts → PureStmts
else_at at ss = stmts_at (at + 1) ss

abbrev pub body_size : PureBody → ℕ
body_size body = length (stmts_lines body.list)

-- a part of a `tdf` block, whose head stands before its body
abbrev pub part_size : PureBody → ℕ
part_size body = length (part_lines FProcessing body.list)

abbrev pub part_at : (at : ℕ) → PureBody → PureBody
part_at at body = body_at (at + 1) body

abbrev pub attributes_size : List Attr → ℕ
attributes_size attrs = length (attributes_lines attrs)

abbrev pub attributes_at : (at : ℕ) → List Attr → List Attr
attributes_at at attrs = lines_at attr_at (at + 1) attrs

-- `initialize`: its initial samples and its statements
pub record Beginning : Type 0 where
  pub initials : List Initial
  pub body : PureBody

abbrev pub beginning_size : Beginning → ℕ
beginning_size it = length (initialize_lines it.initials it.body.list)

abbrev pub beginning_at : (at : ℕ) → Beginning → Beginning
beginning_at at it = record {
  initials = lines_at initial_at (at + 1) it.initials;
  body = body_at (at + 1 + length it.initials) it.body;
}

-- `dont_initialize`, which is there where a process doesn't run at the start
abbrev pub dont_size : Bool → ℕ
dont_size starts = length (dont_lines starts)

abbrev pub process_size : PureProcess → ℕ
process_size process = length (process_lines process)

abbrev pub tdf_size : PureTdf → ℕ
tdf_size block = length (tdf_lines block)

abbrev pub de_size : PureDe → ℕ
de_size block = length (de_lines block)

abbrev pub composite_size : PureComposite → ℕ
composite_size block = length (composite_lines block)

abbrev pub global_size : PureGlobal → ℕ
global_size global = length (global_lines global)

abbrev pub processes_size : List PureProcess → ℕ
processes_size list = length (flat_map process_lines list)

abbrev pub globals_size : List PureGlobal → ℕ
globals_size list = length (flat_map global_lines list)
