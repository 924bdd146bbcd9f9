-- Processes, global lines and blocks, and traces, one after another.
use Rattle.std.proofs.Common.{◌≡◌, ◌∙◌, ℕ, ◌+◌, ◌<◌, ◌≤◌, List, [], ◌++◌, Option, Some, None, length, drop, ap, sym}
use Rattle.std.proofs.lemmas.List.{append-nil}
use Rattle.std.proofs.Math.ListN.{get_or}
use Rattle.std.specs.List.{flat_map}
use Rattle.std.specs.Prelude.{map, OnOk}
use Rattle.tdf_base.specs.declared.codes.Code.TheVariants.{Duplicate}
use Rattle.tdf_base.proofs.Api.{least_more, least_all, least_if, finds_first}
use Rattle.tdf_base.specs.First.{least_with, first_of, verdict_of, noted}
use Rattle.tdf_base.specs.declared.first.LineFault.{LineFault}
use Rattle.tdf_expr_names.specs.Names.{Name, has, with_declared, with_names, in_order, process_name_faults, global_name_faults, names_of_global, trace_faults, names_of_trace, tdf_lines_faults, names_of_tdf_lines, parts_faults, tdf_name_faults, de_lines_faults, names_of_de_lines, processes_faults, de_name_faults}
use Rattle.tdf_expr_names.proofs.InOrder.{seen_more, seen_all, names_more, names_all}
use Rattle.tdf_lang_tree.specs.Pure.{PureTdf, PureDe}
use Rattle.tdf_lang_tree.specs.Views.{pure_process, pure_global, pure_trace}
use Rattle.tdf_lang_tree.specs.declared.blocks.Process.{Process}
use Rattle.tdf_lang_tree.specs.declared.tree.Global1.{Global1}
use Rattle.tdf_lang_tree.specs.declared.tree.Trace1.{Trace1}

abbrev First : Type 0
First = Option LineFault

pub processes_more : (globals locals : List Name) (list : List Process) (i : ℕ) (d : Process) (first : First) → i < length list
    → least_with first (flat_map (process_name_faults globals locals) (map pure_process (drop i list)))
    ≡ least_with (least_with first (process_name_faults globals locals (pure_process (get_or list i d)))) (flat_map (process_name_faults globals locals) (map pure_process (drop (i + 1) list)))
processes_more globals locals = least_more pure_process (process_name_faults globals locals)

pub processes_all : (globals locals : List Name) (list : List Process) (i : ℕ) (first : First) → length list ≤ i
    → least_with first (flat_map (process_name_faults globals locals) (map pure_process (drop i list))) ≡ first
processes_all globals locals = least_all pure_process (process_name_faults globals locals)

pub ruleset processes_laws = (processes_more, processes_all)

pub globals_more : (names : List Name) (list : List Global1) (i : ℕ) (d : Global1) (first : First) → i < length list
    → least_with first (in_order global_name_faults names_of_global names (map pure_global (drop i list)))
    ≡ least_with (least_with first (global_name_faults names (pure_global (get_or list i d)))) (in_order global_name_faults names_of_global (with_names names (names_of_global (pure_global (get_or list i d)))) (map pure_global (drop (i + 1) list)))
globals_more = seen_more pure_global global_name_faults names_of_global

pub globals_all : (names : List Name) (list : List Global1) (i : ℕ) (first : First) → length list ≤ i
    → least_with first (in_order global_name_faults names_of_global names (map pure_global (drop i list))) ≡ first
globals_all = seen_all pure_global global_name_faults names_of_global

pub global_names_more : (names : List Name) (list : List Global1) (i : ℕ) (d : Global1) → i < length list
    → with_names names (flat_map names_of_global (map pure_global (drop i list))) ≡ with_names (with_names names (names_of_global (pure_global (get_or list i d)))) (flat_map names_of_global (map pure_global (drop (i + 1) list)))
global_names_more = names_more pure_global names_of_global

pub global_names_all : (names : List Name) (list : List Global1) (i : ℕ) → length list ≤ i
    → with_names names (flat_map names_of_global (map pure_global (drop i list))) ≡ names
global_names_all = names_all pure_global names_of_global

pub ruleset globals_laws = (globals_more, globals_all, global_names_more, global_names_all)

pub traces_more : (labels : List Name) (list : List Trace1) (i : ℕ) (d : Trace1) (first : First) → i < length list
    → least_with first (in_order trace_faults names_of_trace labels (map pure_trace (drop i list)))
    ≡ least_with (noted (has labels (get_or list i d).label) Duplicate (get_or list i d).line first) (in_order trace_faults names_of_trace (with_declared labels (get_or list i d).label) (map pure_trace (drop (i + 1) list)))
traces_more labels list i d first within = seen_more pure_trace trace_faults names_of_trace labels list i d first within
    ∙ ap (λ (f : First). least_with f (in_order trace_faults names_of_trace (with_declared labels (get_or list i d).label) (map pure_trace (drop (i + 1) list)))) (least_if (has labels (get_or list i d).label) Duplicate (get_or list i d).line first)

pub traces_all : (labels : List Name) (list : List Trace1) (i : ℕ) (first : First) → length list ≤ i
    → least_with first (in_order trace_faults names_of_trace labels (map pure_trace (drop i list))) ≡ first
traces_all = seen_all pure_trace trace_faults names_of_trace

pub ruleset traces_laws = (traces_more, traces_all)

-- a block's own names alone are in force on the lines after its declarations
pub tdf_first : (globals : List Name) (block : PureTdf) (first : First)
    → least_with first (tdf_lines_faults globals [] block.decls ++ parts_faults globals (with_names [] (names_of_tdf_lines block.decls) ++ []) block) ≡ least_with first (tdf_name_faults globals block)
tdf_first globals block first =
    ap (λ (names : List Name). least_with first (tdf_lines_faults globals [] block.decls ++ parts_faults globals names block)) (append-nil (with_names [] (names_of_tdf_lines block.decls)))

pub de_first : (globals : List Name) (block : PureDe) (first : First)
    → least_with first (de_lines_faults globals [] block.decls ++ processes_faults globals (with_names [] (names_of_de_lines block.decls) ++ []) block.processes) ≡ least_with first (de_name_faults globals block)
de_first globals block first =
    ap (λ (names : List Name). least_with first (de_lines_faults globals [] block.decls ++ processes_faults globals names block.processes)) (append-nil (with_names [] (names_of_de_lines block.decls)))

-- a check that passes found no fault
pub passed : (faults : List LineFault) (found : First) → found ≡ first_of faults → OnOk (verdict_of found) (faults ≡ [])
passed faults None is = finds_first.none faults (sym is)
passed faults (Some f) is = tt
