-- The lists of lines of blocks, by name: the search applies no lemma over a function.
use Rattle.std.proofs.Common.{◌≡◌, ℕ, ◌+◌, ◌<◌, ◌≤◌, List, Option, length, drop, ap}
use Rattle.std.proofs.Math.ListN.{get_or}
use Rattle.std.specs.List.{flat_map}
use Rattle.std.specs.Prelude.{map}
use Rattle.tdf_base.proofs.Api.{least_more_plain, least_all_plain}
use Rattle.tdf_base.specs.First.{least_with}
use Rattle.tdf_base.specs.declared.first.LineFault.{LineFault}
use Rattle.tdf_expr_names.specs.Names.{Name, with_names, in_order, tdf_line_name_faults, names_of_tdf_line, de_line_name_faults, names_of_de_line, member_name_faults, names_of_member, attr_name_faults, initial_name_faults, sense_name_faults}
use Rattle.tdf_expr_names.specs.machine.Scope.{Held, declared}
use Rattle.tdf_expr_names.proofs.InOrder.{order_more, order_all, seen_more, seen_all, names_more, names_all}
use Rattle.tdf_lang_tree.specs.Views.{pure_tdf_line, pure_de_line}
use Rattle.tdf_lang_tree.specs.declared.blocks.Attr.{Attr}
use Rattle.tdf_lang_tree.specs.declared.blocks.DeLine.{DeLine}
use Rattle.tdf_lang_tree.specs.declared.blocks.Initial.{Initial}
use Rattle.tdf_lang_tree.specs.declared.blocks.Member.{Member}
use Rattle.tdf_lang_tree.specs.declared.blocks.Sense.{Sense}
use Rattle.tdf_lang_tree.specs.declared.blocks.TdfLine.{TdfLine}

abbrev First : Type 0
First = Option LineFault

pub tdf_lines_more : (globals own : List Name) (list : List TdfLine) (i : ℕ) (d : TdfLine) (first : First) → i < length list
    → least_with first (in_order (tdf_line_name_faults globals) names_of_tdf_line own (map pure_tdf_line (drop i list)))
    ≡ least_with (least_with first (tdf_line_name_faults globals own (pure_tdf_line (get_or list i d)))) (in_order (tdf_line_name_faults globals) names_of_tdf_line (with_names own (names_of_tdf_line (pure_tdf_line (get_or list i d)))) (map pure_tdf_line (drop (i + 1) list)))
tdf_lines_more globals = seen_more pure_tdf_line (tdf_line_name_faults globals) names_of_tdf_line

pub tdf_lines_all : (globals own : List Name) (list : List TdfLine) (i : ℕ) (first : First) → length list ≤ i
    → least_with first (in_order (tdf_line_name_faults globals) names_of_tdf_line own (map pure_tdf_line (drop i list))) ≡ first
tdf_lines_all globals = seen_all pure_tdf_line (tdf_line_name_faults globals) names_of_tdf_line

pub tdf_names_more : (held : Held) (list : List TdfLine) (i : ℕ) (d : TdfLine) → i < length list
    → declared held (flat_map names_of_tdf_line (map pure_tdf_line (drop i list))) ≡ declared (declared held (names_of_tdf_line (pure_tdf_line (get_or list i d)))) (flat_map names_of_tdf_line (map pure_tdf_line (drop (i + 1) list)))
tdf_names_more held list i d within = ap (λ own. record held { own = own }) (names_more pure_tdf_line names_of_tdf_line held.own list i d within)

pub tdf_names_all : (held : Held) (list : List TdfLine) (i : ℕ) → length list ≤ i → declared held (flat_map names_of_tdf_line (map pure_tdf_line (drop i list))) ≡ held
tdf_names_all held list i past = ap (λ own. record held { own = own }) (names_all pure_tdf_line names_of_tdf_line held.own list i past)

pub ruleset tdf_lines_laws = (tdf_lines_more, tdf_lines_all, tdf_names_more, tdf_names_all)

pub de_lines_more : (globals own : List Name) (list : List DeLine) (i : ℕ) (d : DeLine) (first : First) → i < length list
    → least_with first (in_order (de_line_name_faults globals) names_of_de_line own (map pure_de_line (drop i list)))
    ≡ least_with (least_with first (de_line_name_faults globals own (pure_de_line (get_or list i d)))) (in_order (de_line_name_faults globals) names_of_de_line (with_names own (names_of_de_line (pure_de_line (get_or list i d)))) (map pure_de_line (drop (i + 1) list)))
de_lines_more globals = seen_more pure_de_line (de_line_name_faults globals) names_of_de_line

pub de_lines_all : (globals own : List Name) (list : List DeLine) (i : ℕ) (first : First) → length list ≤ i
    → least_with first (in_order (de_line_name_faults globals) names_of_de_line own (map pure_de_line (drop i list))) ≡ first
de_lines_all globals = seen_all pure_de_line (de_line_name_faults globals) names_of_de_line

pub de_names_more : (held : Held) (list : List DeLine) (i : ℕ) (d : DeLine) → i < length list
    → declared held (flat_map names_of_de_line (map pure_de_line (drop i list))) ≡ declared (declared held (names_of_de_line (pure_de_line (get_or list i d)))) (flat_map names_of_de_line (map pure_de_line (drop (i + 1) list)))
de_names_more held list i d within = ap (λ own. record held { own = own }) (names_more pure_de_line names_of_de_line held.own list i d within)

pub de_names_all : (held : Held) (list : List DeLine) (i : ℕ) → length list ≤ i → declared held (flat_map names_of_de_line (map pure_de_line (drop i list))) ≡ held
de_names_all held list i past = ap (λ own. record held { own = own }) (names_all pure_de_line names_of_de_line held.own list i past)

pub ruleset de_lines_laws = (de_lines_more, de_lines_all, de_names_more, de_names_all)

pub members_more : (globals own : List Name) (list : List Member) (i : ℕ) (d : Member) (first : First) → i < length list
    → least_with first (in_order (member_name_faults globals) names_of_member own (drop i list))
    ≡ least_with (least_with first (member_name_faults globals own (get_or list i d))) (in_order (member_name_faults globals) names_of_member (with_names own (names_of_member (get_or list i d))) (drop (i + 1) list))
members_more globals = order_more (member_name_faults globals) names_of_member

pub members_all : (globals own : List Name) (list : List Member) (i : ℕ) (first : First) → length list ≤ i
    → least_with first (in_order (member_name_faults globals) names_of_member own (drop i list)) ≡ first
members_all globals = order_all (member_name_faults globals) names_of_member

pub ruleset members_laws = (members_more, members_all)

pub attrs_more : (locals : List Name) (list : List Attr) (i : ℕ) (d : Attr) (first : First) → i < length list
    → least_with first (flat_map (attr_name_faults locals) (drop i list)) ≡ least_with (least_with first (attr_name_faults locals (get_or list i d))) (flat_map (attr_name_faults locals) (drop (i + 1) list))
attrs_more locals = least_more_plain (attr_name_faults locals)

pub attrs_all : (locals : List Name) (list : List Attr) (i : ℕ) (first : First) → length list ≤ i → least_with first (flat_map (attr_name_faults locals) (drop i list)) ≡ first
attrs_all locals = least_all_plain (attr_name_faults locals)

pub ruleset attrs_laws = (attrs_more, attrs_all)

pub initials_more : (locals : List Name) (list : List Initial) (i : ℕ) (d : Initial) (first : First) → i < length list
    → least_with first (flat_map (initial_name_faults locals) (drop i list)) ≡ least_with (least_with first (initial_name_faults locals (get_or list i d))) (flat_map (initial_name_faults locals) (drop (i + 1) list))
initials_more locals = least_more_plain (initial_name_faults locals)

pub initials_all : (locals : List Name) (list : List Initial) (i : ℕ) (first : First) → length list ≤ i → least_with first (flat_map (initial_name_faults locals) (drop i list)) ≡ first
initials_all locals = least_all_plain (initial_name_faults locals)

pub ruleset initials_laws = (initials_more, initials_all)

pub senses_more : (locals : List Name) (list : List Sense) (i : ℕ) (d : Sense) (first : First) → i < length list
    → least_with first (flat_map (sense_name_faults locals) (drop i list)) ≡ least_with (least_with first (sense_name_faults locals (get_or list i d))) (flat_map (sense_name_faults locals) (drop (i + 1) list))
senses_more locals = least_more_plain (sense_name_faults locals)

pub senses_all : (locals : List Name) (list : List Sense) (i : ℕ) (first : First) → length list ≤ i → least_with first (flat_map (sense_name_faults locals) (drop i list)) ≡ first
senses_all locals = least_all_plain (sense_name_faults locals)

pub ruleset senses_laws = (senses_more, senses_all)
