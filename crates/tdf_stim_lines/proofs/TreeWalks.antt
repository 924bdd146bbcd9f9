-- Declarations before `top`, and the whole tree.
use Rattle.std.proofs.Common.{◌≡◌, ◌∙◌, ℕ, ◌+◌, ◌<◌, ◌≤◌, List, length, min, sym, ap, subst, arith}
use Rattle.std.specs.List.{flat_map}
use Rattle.tdf_lang_printer.specs.Canon.{global_lines}
use Rattle.tdf_lang_tree.specs.Pure.{PureComposite, PureGlobal, GShape, GTdf, GDe, GNet, PureTrace, PureTree}
use Rattle.tdf_lang_tree.specs.Views.{pure_tdf, pure_de, pure_composite, pure_global}
use Rattle.tdf_lang_tree.specs.declared.blocks.Composite.{Composite}
use Rattle.tdf_lang_tree.specs.declared.blocks.DeDecl.{DeDecl}
use Rattle.tdf_lang_tree.specs.declared.blocks.TdfDecl.{TdfDecl}
use Rattle.tdf_lang_tree.specs.declared.shapes.TypeDecl.{TypeDecl}
use Rattle.tdf_lang_tree.specs.declared.tree.Global1.{Global1}
use Rattle.tdf_lang_tree.specs.declared.tree.Global1.TheVariants as global
use Rattle.tdf_stim_lines.proofs.BlockWalks.{composite_long}
use Rattle.tdf_stim_lines.specs.Numbered.{composite_at, de_at, global_at, line_after_head, lines_at, numbered, parts_at, tdf_at, trace_at, type_at}
use Rattle.tdf_stim_lines.specs.machine.Walk.{Walks, composite_size, de_size, global_size, globals_size, last_number, tdf_size}

-- ---- declarations, each form

pub shape_walks : (at after : ℕ) (g : Global1) (shape new : TypeDecl) → g ≡ global.Shape shape → at ≤ last_number → after ≡ min (at + 1) last_number → new ≡ type_at at shape
    → Walks global_size global_at at after (pure_global g) (pure_global (global.Shape new))
shape_walks at after g shape new same small is put =
    subst (λ x. Walks global_size global_at at after (pure_global x) (GShape new)) (sym same)
    (record { later = omega (arith, is); next_is = λ few. omega (arith, is); new_is = λ few. ap GShape put })

pub tdf_in : (at after : ℕ) (g : Global1) (block new : TdfDecl) → g ≡ global.Tdf block → Walks tdf_size tdf_at at after (pure_tdf block) (pure_tdf new)
    → Walks global_size global_at at after (pure_global g) (pure_global (global.Tdf new))
tdf_in at after g block new same one =
    subst (λ x. Walks global_size global_at at after (pure_global x) (GTdf (pure_tdf new))) (sym same)
    (record { later = one.later; next_is = one.next_is; new_is = λ few. ap GTdf (one.new_is few) })

pub de_in : (at after : ℕ) (g : Global1) (block new : DeDecl) → g ≡ global.De block → Walks de_size de_at at after (pure_de block) (pure_de new)
    → Walks global_size global_at at after (pure_global g) (pure_global (global.De new))
de_in at after g block new same one =
    subst (λ x. Walks global_size global_at at after (pure_global x) (GDe (pure_de new))) (sym same)
    (record { later = one.later; next_is = one.next_is; new_is = λ few. ap GDe (one.new_is few) })

pub net_in : (at after : ℕ) (g : Global1) (block new : Composite) → g ≡ global.Net block → Walks composite_size composite_at at after (pure_composite block) (pure_composite new)
    → Walks global_size global_at at after (pure_global g) (pure_global (global.Net new))
net_in at after g block new same one =
    subst (λ x. Walks global_size global_at at after (pure_global x) (GNet (pure_composite new))) (sym same)
    (record { later = one.later; next_is = one.next_is; new_is = λ few. ap GNet (one.new_is few) })

-- ---- the tree

abbrev pub tree_of : PureTree → List PureGlobal → PureComposite → List PureTrace → PureTree
tree_of old globals main shown = record { version = old.version; resolution = old.resolution; globals = globals; top = main; traces = shown }

pub tree_walks : (first top traces after : ℕ) (old : PureTree) (globals : List PureGlobal) (main : PureComposite) (shown : List PureTrace) → first ≡ line_after_head old.version
    → Walks globals_size (parts_at global_lines global_at) first top old.globals globals → Walks composite_size composite_at top traces old.top main
    → Walks length (lines_at trace_at) traces after old.traces shown → after < last_number
    → tree_of old globals main shown ≡ numbered old
unfolding numbered
tree_walks first top traces after old globals main shown is one two three few =
    let until : traces < last_number = omega (arith, few, three.later) in
    let before : top < last_number = omega (arith, until, two.later) in
    let start : List PureGlobal = parts_at global_lines global_at (line_after_head old.version) old.globals in
    let there : top ≡ line_after_head old.version + length (flat_map global_lines old.globals) = omega (arith, is, one.next_is before) in
    let beyond : traces ≡ line_after_head old.version + length (flat_map global_lines old.globals) + 1 + length old.top.members + 1 =
    omega (arith, there, two.next_is until, composite_long old.top) in
    ap (λ l. tree_of old l main shown) (one.new_is before ∙ ap (λ k. parts_at global_lines global_at k old.globals) is)
    ∙ ap (λ b. tree_of old start b shown) (two.new_is until ∙ ap (λ k. composite_at k old.top) there)
    ∙ ap (λ l. tree_of old start (composite_at (line_after_head old.version + length (flat_map global_lines old.globals)) old.top) l) (three.new_is few ∙ ap (λ k. lines_at trace_at k old.traces) beyond)
