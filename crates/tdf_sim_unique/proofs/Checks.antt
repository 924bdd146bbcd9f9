-- What the history reads of the compiled bodies of a model is the same for all of them.
use Rattle.std.proofs.Common.{◌≡◌, ◌∙◌, ℕ, zero, suc, List, [], ◌∷◌, Option, Some, map, slice_get, refl, sym, ap, subst}
use Rattle.std.proofs.lemmas.Option.{same_Some}
use Rattle.tdf_bind_invariants.proofs.Api.{same_format}
use Rattle.tdf_expr.specs.Blocks.{PureBlock, blocks_of, scope_of}
use Rattle.tdf_expr.specs.Checked.{IsCheckedOf}
use Rattle.tdf_expr.specs.Compiled.{AreBlocksOf, IsBlockOf}
use Rattle.tdf_expr.specs.Made.{event_count, events_in, port_spans_of, block_rates, spans_in, start_cells, start_rates, starts_in}
use Rattle.tdf_expr.specs.Plans.{PortPlace, place_of_span, shape_of_format}
use Rattle.tdf_expr.specs.declared.blocks.Block.{Block}
use Rattle.tdf_expr.specs.declared.checked.Checked.{Checked}
use Rattle.tdf_expr.specs.declared.spans.PortSpan.{PortSpan}
use Rattle.tdf_expr_symbols.specs.Names.{Names, globals_of}
use Rattle.tdf_lang_tree.specs.Pure.{PureTree}

-- what the history reads of compiled bodies
pub record AreSame (x y : Checked) : Type 0 where
  pub spans : (n : ℕ) → port_spans_of x n ≡ port_spans_of y n
  pub events : (n : ℕ) → event_count x n ≡ event_count y n
  pub cells : (n : ℕ) → start_cells x n ≡ start_cells y n
  pub rates : (n : ℕ) → start_rates x n ≡ start_rates y n

same_span : (p q : PortSpan) → place_of_span p ≡ place_of_span q → p ≡ q
same_span p q e =
    let format : p.format ≡ q.format = same_format p.format q.format (same_Some (shape_of_format p.format) (shape_of_format q.format) (ap (λ (at : PortPlace). at.shape) e)) in
    λ i. record { word = (e i).word; format = format i; first = (e i).first; count = (e i).count }

-- the head of a list that has one
abbrev pub head_or : {A : Type 0} → A → List A → A
head_or x [] = x
head_or x (y ∷ ys) = y

abbrev pub tail_of : {A : Type 0} → List A → List A
tail_of [] = []
tail_of (y ∷ ys) = ys

abbrev pub IsFull : {A : Type 0} → List A → Type 0
IsFull [] = ⊥
IsFull (x ∷ xs) = Unit {0}

same_spans : (ps qs : List PortSpan) → map place_of_span ps ≡ map place_of_span qs → ps ≡ qs
same_spans [] [] e = refl
same_spans [] (q ∷ qs) e = absurd (subst IsFull (sym e) tt)
same_spans (p ∷ ps) [] e = absurd (subst IsFull e tt)
same_spans (p ∷ ps) (q ∷ qs) e = λ i. same_span p q (ap (head_or (place_of_span p)) e) i ∷ same_spans ps qs (ap tail_of e) i

-- what two blocks of one text have in common, the blocks of each number of two lists have
module _ {A : Type 0} (part : Option Block → A) (one : (globals : Names) (p : PureBlock) (b c : Block) → IsBlockOf (scope_of globals p) p b → IsBlockOf (scope_of globals p) p c → part (Some b) ≡ part (Some c)) where
  same_at : (globals : Names) (ps : List PureBlock) (bs cs : List Block) → AreBlocksOf globals ps bs → AreBlocksOf globals ps cs → (n : ℕ) → part (slice_get bs n) ≡ part (slice_get cs n)
  same_at globals [] [] [] h k n = refl
  same_at globals [] [] (c ∷ cs) h k n = absurd k
  same_at globals [] (b ∷ bs) cs h k n = absurd h
  same_at globals (p ∷ ps) [] cs h k n = absurd h
  same_at globals (p ∷ ps) (b ∷ bs) [] h k n = absurd k
  same_at globals (p ∷ ps) (b ∷ bs) (c ∷ cs) h k zero = one globals p b c h.0 k.0
  same_at globals (p ∷ ps) (b ∷ bs) (c ∷ cs) h k (suc n) = same_at globals ps bs cs h.1 k.1 n

  pub in_checked : (model : PureTree) (x y : Checked) → IsCheckedOf model x → IsCheckedOf model y → (n : ℕ) → part (slice_get x.blocks.items n) ≡ part (slice_get y.blocks.items n)
  in_checked model x y h k n = same_at (globals_of model.globals) (blocks_of model.globals) x.blocks.items y.blocks.items h k n

pub are_same : (model : PureTree) (x y : Checked) → IsCheckedOf model x → IsCheckedOf model y → AreSame x y
are_same model x y h k = record {
  spans = in_checked spans_in (λ globals p b c u v. same_spans b.ports.spans.items c.ports.spans.items (u.spans ∙ sym v.spans)) model x y h k;
  events = in_checked events_in (λ globals p b c u v. u.events ∙ sym v.events) model x y h k;
  cells = in_checked starts_in (λ globals p b c u v. u.starts ∙ sym v.starts) model x y h k;
  rates = λ n. ap (map (λ r. r.start)) (in_checked block_rates (λ globals p b c u v. u.rates ∙ sym v.rates) model x y h k n);
}
