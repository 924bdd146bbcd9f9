-- Blocks one after another.
use Rattle.std.proofs.Common.{◌≡◌, ◌∙◌, ℕ, ◌+◌, ◌<◌, List, [], ◌∷◌, ◌++◌, length, take, refl, sym, ap, subst}
use Rattle.std.proofs.Math.ListN.{get_or}
use Rattle.std.proofs.lemmas.List.{take_more, map-append}
use Rattle.std.specs.Prelude.{map}
use Rattle.tdf_bind_ports.specs.Ports.{Known, known_after, known_after_all, no_blocks, ports_of_composite, ports_of_de, ports_of_tdf, with_block}
use Rattle.tdf_bind_names.specs.Resolved.{AreBlocks, IsComposite}
use Rattle.tdf_expr_symbols.specs.Names.{Names}
use Rattle.tdf_lang_tree.specs.Pure.{PureComposite, PureGlobal, GShape, GTdf, GDe, GNet}
use Rattle.tdf_lang_tree.specs.Views.{pure_global}
use Rattle.tdf_lang_tree.specs.declared.tree.Global1.{Global1}
use Rattle.tdf_bind_hierarchy.specs.Blocks.{BlockOf}

known_push : (gs : List PureGlobal) (g : PureGlobal) (k : Known) → known_after_all (gs ++ g ∷ []) k ≡ known_after g (known_after_all gs k)
unfolding known_after_all
known_push [] g k = refl
known_push (h ∷ gs) g k = known_push gs g (known_after h k)

pub blocks_append : (globals : Names) (gs hs : List PureGlobal) (k : Known) (bs cs : List BlockOf) → AreBlocks globals k gs bs → AreBlocks globals (known_after_all gs k) hs cs
    → AreBlocks globals k (gs ++ hs) (bs ++ cs)
unfolding known_after_all
blocks_append globals [] hs k bs cs none are = subst (λ (l : List BlockOf). AreBlocks globals k hs (l ++ cs)) (sym none) are
blocks_append globals (GShape t ∷ gs) hs k bs cs first are = blocks_append globals gs hs k bs cs first are
blocks_append globals (GTdf block ∷ gs) hs k [] cs first are = absurd first
blocks_append globals (GTdf block ∷ gs) hs k (b ∷ bs) cs first are = (first.0, blocks_append globals gs hs (with_block block.name (ports_of_tdf block) k) bs cs first.1 are)
blocks_append globals (GDe block ∷ gs) hs k [] cs first are = absurd first
blocks_append globals (GDe block ∷ gs) hs k (b ∷ bs) cs first are = (first.0, blocks_append globals gs hs (with_block block.name (ports_of_de block) k) bs cs first.1 are)
blocks_append globals (GNet block ∷ gs) hs k [] cs first are = absurd first
blocks_append globals (GNet block ∷ gs) hs k (b ∷ bs) cs first are = (first.0, blocks_append globals gs hs (with_block block.name (ports_of_composite block) k) bs cs first.1 are)

-- one declaration more
seen_more : (list : List Global1) (i : ℕ) (d : Global1) → i < length list → map pure_global (take (i + 1) list) ≡ map pure_global (take i list) ++ pure_global (get_or list i d) ∷ []
seen_more list i d within = ap (map pure_global) (take_more list i d within) ∙ map-append pure_global (take i list) (get_or list i d ∷ [])

pub blocks_more : (globals : Names) (list : List Global1) (i : ℕ) (d : Global1) (k : Known) (out next cs : List BlockOf) → i < length list
    → AreBlocks globals no_blocks (map pure_global (take i list)) out → k ≡ known_after_all (map pure_global (take i list)) no_blocks
    → AreBlocks globals k (pure_global (get_or list i d) ∷ []) cs → next ≡ out ++ cs
    → AreBlocks globals no_blocks (map pure_global (take (i + 1) list)) next
blocks_more globals list i d k out next cs within are known one is =
    subst (λ (l : List BlockOf). AreBlocks globals no_blocks (map pure_global (take (i + 1) list)) l) (sym is)
    (subst (λ (l : List PureGlobal). AreBlocks globals no_blocks l (out ++ cs)) (sym (seen_more list i d within))
    (blocks_append globals (map pure_global (take i list)) (pure_global (get_or list i d) ∷ []) no_blocks out cs are
    (subst (λ (n : Known). AreBlocks globals n (pure_global (get_or list i d) ∷ []) cs) known one)))

pub known_more : (list : List Global1) (i : ℕ) (d : Global1) (k : Known) → i < length list → k ≡ known_after_all (map pure_global (take i list)) no_blocks
    → known_after (pure_global (get_or list i d)) k ≡ known_after_all (map pure_global (take (i + 1) list)) no_blocks
known_more list i d k within known =
    ap (known_after (pure_global (get_or list i d))) known
    ∙ sym (known_push (map pure_global (take i list)) (pure_global (get_or list i d)) no_blocks)
    ∙ sym (ap (λ (l : List PureGlobal). known_after_all l no_blocks) (seen_more list i d within))

pub known_none : known_after_all [] no_blocks ≡ no_blocks
unfolding known_after_all
known_none = refl

-- all declarations, and `top` last
pub resolved_all : (globals names : Names) (gs : List PureGlobal) (k : Known) (top : PureComposite) (out next : List BlockOf) (b : BlockOf)
    → globals ≡ names → k ≡ known_after_all gs no_blocks → AreBlocks globals no_blocks gs out → IsComposite globals k top b → next ≡ out ++ b ∷ []
    → AreBlocks names no_blocks (gs ++ GNet top ∷ []) next
resolved_all globals names gs k top out next b same known are last is =
    subst (λ (n : Names). AreBlocks n no_blocks (gs ++ GNet top ∷ []) next) same
    (subst (λ (l : List BlockOf). AreBlocks globals no_blocks (gs ++ GNet top ∷ []) l) (sym is)
    (blocks_append globals gs (GNet top ∷ []) no_blocks out (b ∷ []) are
    (subst (λ (n : Known). IsComposite globals n top b) known last, refl)))
