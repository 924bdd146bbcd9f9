-- Declarations, one after another.
use Rattle.std.proofs.Common.{◌≡◌, ℕ, ◌+◌, ◌<◌, ◌≤◌, List, length, drop, ap}
use Rattle.std.proofs.Math.ListN.{get_or}
use Rattle.std.proofs.lemmas.List.{drop_more, drop_all}
use Rattle.std.specs.Prelude.{map}
use Rattle.tdf_expr_symbols.specs.Names.{Names, with_global, with_globals, with_tdf_line, with_tdf_lines, with_attr, with_attrs, with_de_line, with_de_lines, with_member, with_members}
use Rattle.tdf_lang_tree.specs.Views.{pure_global, pure_tdf_line, pure_de_line}
use Rattle.tdf_lang_tree.specs.declared.blocks.Attr.{Attr}
use Rattle.tdf_lang_tree.specs.declared.blocks.DeLine.{DeLine}
use Rattle.tdf_lang_tree.specs.declared.blocks.Member.{Member}
use Rattle.tdf_lang_tree.specs.declared.blocks.TdfLine.{TdfLine}
use Rattle.tdf_lang_tree.specs.declared.tree.Global1.{Global1}

pub globals_more : (list : List Global1) (i : ℕ) (d : Global1) (s : Names) → i < length list
    → with_globals (map pure_global (drop i list)) s ≡ with_globals (map pure_global (drop (i + 1) list)) (with_global (pure_global (get_or list i d)) s)
unfolding with_globals
globals_more list i d s within = ap (λ (l : List Global1). with_globals (map pure_global l) s) (drop_more list i d within)

pub globals_all : (list : List Global1) (i : ℕ) (s : Names) → length list ≤ i → with_globals (map pure_global (drop i list)) s ≡ s
unfolding with_globals
globals_all list i s past = ap (λ (l : List Global1). with_globals (map pure_global l) s) (drop_all i list past)

pub tdf_lines_more : (globals : Names) (list : List TdfLine) (i : ℕ) (d : TdfLine) (s : Names) → i < length list
    → with_tdf_lines globals (map pure_tdf_line (drop i list)) s
    ≡ with_tdf_lines globals (map pure_tdf_line (drop (i + 1) list)) (with_tdf_line globals (pure_tdf_line (get_or list i d)) s)
unfolding with_tdf_lines
tdf_lines_more globals list i d s within = ap (λ (l : List TdfLine). with_tdf_lines globals (map pure_tdf_line l) s) (drop_more list i d within)

pub tdf_lines_all : (globals : Names) (list : List TdfLine) (i : ℕ) (s : Names) → length list ≤ i → with_tdf_lines globals (map pure_tdf_line (drop i list)) s ≡ s
unfolding with_tdf_lines
tdf_lines_all globals list i s past = ap (λ (l : List TdfLine). with_tdf_lines globals (map pure_tdf_line l) s) (drop_all i list past)

pub attrs_more : (list : List Attr) (i : ℕ) (d : Attr) (s : Names) → i < length list
    → with_attrs (drop i list) s ≡ with_attrs (drop (i + 1) list) (with_attr (get_or list i d) s)
unfolding with_attrs
attrs_more list i d s within = ap (λ (l : List Attr). with_attrs l s) (drop_more list i d within)

pub attrs_all : (list : List Attr) (i : ℕ) (s : Names) → length list ≤ i → with_attrs (drop i list) s ≡ s
unfolding with_attrs
attrs_all list i s past = ap (λ (l : List Attr). with_attrs l s) (drop_all i list past)

pub de_lines_more : (globals : Names) (list : List DeLine) (i : ℕ) (d : DeLine) (s : Names) → i < length list
    → with_de_lines globals (map pure_de_line (drop i list)) s
    ≡ with_de_lines globals (map pure_de_line (drop (i + 1) list)) (with_de_line globals (pure_de_line (get_or list i d)) s)
unfolding with_de_lines
de_lines_more globals list i d s within = ap (λ (l : List DeLine). with_de_lines globals (map pure_de_line l) s) (drop_more list i d within)

pub de_lines_all : (globals : Names) (list : List DeLine) (i : ℕ) (s : Names) → length list ≤ i → with_de_lines globals (map pure_de_line (drop i list)) s ≡ s
unfolding with_de_lines
de_lines_all globals list i s past = ap (λ (l : List DeLine). with_de_lines globals (map pure_de_line l) s) (drop_all i list past)

pub members_more : (globals : Names) (list : List Member) (i : ℕ) (d : Member) (s : Names) → i < length list
    → with_members globals (drop i list) s ≡ with_members globals (drop (i + 1) list) (with_member globals (get_or list i d) s)
unfolding with_members
members_more globals list i d s within = ap (λ (l : List Member). with_members globals l s) (drop_more list i d within)

pub members_all : (globals : Names) (list : List Member) (i : ℕ) (s : Names) → length list ≤ i → with_members globals (drop i list) s ≡ s
unfolding with_members
members_all globals list i s past = ap (λ (l : List Member). with_members globals l s) (drop_all i list past)

pub ruleset global_laws = (globals_more, globals_all)

pub ruleset tdf_laws = (tdf_lines_more, tdf_lines_all)

pub ruleset attr_laws = (attrs_more, attrs_all)

pub ruleset de_laws = (de_lines_more, de_lines_all)

pub ruleset member_laws = (members_more, members_all)
