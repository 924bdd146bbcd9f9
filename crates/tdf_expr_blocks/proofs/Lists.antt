-- Lists of lines, by name: the search applies no lemma over a function.
use Rattle.std.proofs.Common.{◌≡◌, ℕ, ◌+◌, ◌<◌, ◌≤◌, List, Option, length, drop}
use Rattle.std.proofs.Math.ListN.{get_or}
use Rattle.std.specs.List.{flat_map}
use Rattle.std.specs.Prelude.{map}
use Rattle.tdf_expr_blocks.specs.Blocks.{process_faults}
use Rattle.tdf_expr_blocks.specs.Lines.{attr_faults, de_line_faults, initial_faults, member_faults, sense_faults, tdf_line_faults}
use Rattle.tdf_expr_blocks.specs.Types.{global_faults}
use Rattle.tdf_base.proofs.Api.{least_none, least_more, least_all, least_more_plain, least_all_plain}
use Rattle.tdf_base.specs.First.{least_with}
use Rattle.tdf_base.specs.declared.first.LineFault.{LineFault}
use Rattle.tdf_expr_symbols.specs.Names.{Names}
use Rattle.tdf_expr_symbols.specs.Scope.{Scope}
use Rattle.tdf_lang_tree.specs.Views.{pure_de_line, pure_global, pure_process, pure_tdf_line}
use Rattle.tdf_lang_tree.specs.declared.blocks.Attr.{Attr}
use Rattle.tdf_lang_tree.specs.declared.blocks.DeLine.{DeLine}
use Rattle.tdf_lang_tree.specs.declared.blocks.Initial.{Initial}
use Rattle.tdf_lang_tree.specs.declared.blocks.Member.{Member}
use Rattle.tdf_lang_tree.specs.declared.blocks.Process.{Process}
use Rattle.tdf_lang_tree.specs.declared.blocks.Sense.{Sense}
use Rattle.tdf_lang_tree.specs.declared.blocks.TdfLine.{TdfLine}
use Rattle.tdf_lang_tree.specs.declared.tree.Global1.{Global1}

pub tdf_lines_more : (globals : Names) (list : List TdfLine) (i : ℕ) (d : TdfLine) (first : Option LineFault) → i < length list
    → least_with first (flat_map (tdf_line_faults globals) (map pure_tdf_line (drop i list)))
    ≡ least_with (least_with first (tdf_line_faults globals (pure_tdf_line (get_or list i d)))) (flat_map (tdf_line_faults globals) (map pure_tdf_line (drop (i + 1) list)))
tdf_lines_more globals = least_more pure_tdf_line (tdf_line_faults globals)

pub tdf_lines_all : (globals : Names) (list : List TdfLine) (i : ℕ) (first : Option LineFault) → length list ≤ i
    → least_with first (flat_map (tdf_line_faults globals) (map pure_tdf_line (drop i list))) ≡ first
tdf_lines_all globals = least_all pure_tdf_line (tdf_line_faults globals)

pub ruleset tdf_lines_laws = (least_none, tdf_lines_more, tdf_lines_all)

pub attrs_more : (scope : Scope) (list : List Attr) (i : ℕ) (d : Attr) (first : Option LineFault) → i < length list
    → least_with first (flat_map (attr_faults scope) (drop i list))
    ≡ least_with (least_with first (attr_faults scope (get_or list i d))) (flat_map (attr_faults scope) (drop (i + 1) list))
attrs_more scope = least_more_plain (attr_faults scope)

pub attrs_all : (scope : Scope) (list : List Attr) (i : ℕ) (first : Option LineFault) → length list ≤ i
    → least_with first (flat_map (attr_faults scope) (drop i list)) ≡ first
attrs_all scope = least_all_plain (attr_faults scope)

pub ruleset attrs_laws = (least_none, attrs_more, attrs_all)

pub initials_more : (scope : Scope) (list : List Initial) (i : ℕ) (d : Initial) (first : Option LineFault) → i < length list
    → least_with first (flat_map (initial_faults scope) (drop i list))
    ≡ least_with (least_with first (initial_faults scope (get_or list i d))) (flat_map (initial_faults scope) (drop (i + 1) list))
initials_more scope = least_more_plain (initial_faults scope)

pub initials_all : (scope : Scope) (list : List Initial) (i : ℕ) (first : Option LineFault) → length list ≤ i
    → least_with first (flat_map (initial_faults scope) (drop i list)) ≡ first
initials_all scope = least_all_plain (initial_faults scope)

pub ruleset initials_laws = (least_none, initials_more, initials_all)

pub de_lines_more : (globals : Names) (list : List DeLine) (i : ℕ) (d : DeLine) (first : Option LineFault) → i < length list
    → least_with first (flat_map (de_line_faults globals) (map pure_de_line (drop i list)))
    ≡ least_with (least_with first (de_line_faults globals (pure_de_line (get_or list i d)))) (flat_map (de_line_faults globals) (map pure_de_line (drop (i + 1) list)))
de_lines_more globals = least_more pure_de_line (de_line_faults globals)

pub de_lines_all : (globals : Names) (list : List DeLine) (i : ℕ) (first : Option LineFault) → length list ≤ i
    → least_with first (flat_map (de_line_faults globals) (map pure_de_line (drop i list))) ≡ first
de_lines_all globals = least_all pure_de_line (de_line_faults globals)

pub ruleset de_lines_laws = (least_none, de_lines_more, de_lines_all)

pub senses_more : (scope : Scope) (list : List Sense) (i : ℕ) (d : Sense) (first : Option LineFault) → i < length list
    → least_with first (flat_map (sense_faults scope) (drop i list))
    ≡ least_with (least_with first (sense_faults scope (get_or list i d))) (flat_map (sense_faults scope) (drop (i + 1) list))
senses_more scope = least_more_plain (sense_faults scope)

pub senses_all : (scope : Scope) (list : List Sense) (i : ℕ) (first : Option LineFault) → length list ≤ i
    → least_with first (flat_map (sense_faults scope) (drop i list)) ≡ first
senses_all scope = least_all_plain (sense_faults scope)

pub ruleset senses_laws = (least_none, senses_more, senses_all)

pub members_more : (scope : Scope) (list : List Member) (i : ℕ) (d : Member) (first : Option LineFault) → i < length list
    → least_with first (flat_map (member_faults scope) (drop i list))
    ≡ least_with (least_with first (member_faults scope (get_or list i d))) (flat_map (member_faults scope) (drop (i + 1) list))
members_more scope = least_more_plain (member_faults scope)

pub members_all : (scope : Scope) (list : List Member) (i : ℕ) (first : Option LineFault) → length list ≤ i
    → least_with first (flat_map (member_faults scope) (drop i list)) ≡ first
members_all scope = least_all_plain (member_faults scope)

pub ruleset members_laws = (least_none, members_more, members_all)

pub processes_more : (scope : Scope) (list : List Process) (i : ℕ) (d : Process) (first : Option LineFault) → i < length list
    → least_with first (flat_map (process_faults scope) (map pure_process (drop i list)))
    ≡ least_with (least_with first (process_faults scope (pure_process (get_or list i d)))) (flat_map (process_faults scope) (map pure_process (drop (i + 1) list)))
processes_more scope = least_more pure_process (process_faults scope)

pub processes_all : (scope : Scope) (list : List Process) (i : ℕ) (first : Option LineFault) → length list ≤ i
    → least_with first (flat_map (process_faults scope) (map pure_process (drop i list))) ≡ first
processes_all scope = least_all pure_process (process_faults scope)

pub ruleset processes_laws = (least_none, processes_more, processes_all)

pub globals_more : (globals : Names) (list : List Global1) (i : ℕ) (d : Global1) (first : Option LineFault) → i < length list
    → least_with first (flat_map (global_faults globals) (map pure_global (drop i list)))
    ≡ least_with (least_with first (global_faults globals (pure_global (get_or list i d)))) (flat_map (global_faults globals) (map pure_global (drop (i + 1) list)))
globals_more globals = least_more pure_global (global_faults globals)

pub globals_all : (globals : Names) (list : List Global1) (i : ℕ) (first : Option LineFault) → length list ≤ i
    → least_with first (flat_map (global_faults globals) (map pure_global (drop i list))) ≡ first
globals_all globals = least_all pure_global (global_faults globals)

pub ruleset globals_laws = (least_none, globals_more, globals_all)
