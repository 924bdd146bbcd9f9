-- The blocks of a model, one after the other, and what a model without a fault gives for each.
use Rattle.std.proofs.Common.{◌≡◌, ◌∙◌, ℕ, zero, suc, ◌+◌, ◌<◌, ◌≤◌, List, [], ◌∷◌, ◌++◌, Option, Some, None, length, refl, sym, ap, arith, append_assoc, append-nil}
use Rattle.std.proofs.Math.ListN.{get_or, take}
use Rattle.std.proofs.lemmas.List.{take_all}
use Rattle.std.proofs.lemmas.Option.{slice_get-map, slice_get_read}
use Rattle.std.specs.Option.{option_map}
use Rattle.std.specs.Prelude.{map, slice_get}
use Rattle.tdf_expr.specs.Blocks.{PureBlock, block_of, blocks_of}
use Rattle.tdf_lang_tree.specs.Pure.{PureGlobal}
use Rattle.tdf_lang_tree.specs.Views.{pure_global}
use Rattle.tdf_lang_tree.specs.declared.tree.Global1.{Global1}

pub global_at : (list : List Global1) (n : ℕ) (g : Global1) → n < length list → g ≡ get_or list n g → slice_get (map pure_global list) n ≡ Some (pure_global g)
global_at list n g within is = slice_get-map pure_global list n ∙ ap (option_map pure_global) (slice_get_read list (length list) n g refl within is)

pub blocks_take : (list : List PureGlobal) (n : ℕ) (g : PureGlobal) → slice_get list n ≡ Some g → blocks_of (take (n + 1) list) ≡ blocks_of (take n list) ++ block_of g
blocks_take [] n g e = absurd cc
blocks_take (x ∷ list) zero g e = append-nil (block_of x) ∙ ap block_of (held_is e)
  where
    held : Option PureGlobal → PureGlobal
    held None = x
    held (Some y) = y

    held_is : Some x ≡ Some g → x ≡ g
    held_is e = ap held e
blocks_take (x ∷ list) (suc n) g e =
    let next : suc n + 1 ≡ suc (n + 1) = omega arith in
    ap (λ k. blocks_of (take k (x ∷ list))) next ∙ ap (λ (l : List PureBlock). block_of x ++ l) (blocks_take list n g e)
    ∙ sym (append_assoc (block_of x) (blocks_of (take n list)) (block_of g))

pub blocks_whole : (list : List PureGlobal) (n : ℕ) → length list ≤ n → blocks_of (take n list) ≡ blocks_of list
blocks_whole list n past = ap blocks_of (take_all n list past)
