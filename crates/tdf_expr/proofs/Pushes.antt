-- Items pushed one by one.
use Rattle.std.proofs.Common.{◌≡◌, ◌∙◌, ℕ, zero, suc, ◌+◌, ◌<◌, ◌≤◌, List, [], ◌∷◌, ◌++◌, Option, Some, ℤ, length, drop, refl, sym, ap, arith, append_assoc, append-nil}
use Rattle.std.proofs.Math.ListN.{get_or}
use Rattle.std.proofs.lemmas.List.{drop_more, drop_all, map-append}
use Rattle.std.proofs.lemmas.Grind.{replicate_next}
use Rattle.std.specs.Prelude.{replicate, map, Result, Ok, Err, OnOk}
use Rattle.tdf_base.specs.declared.memory.Memory.{Memory}
use Rattle.tdf_expr_compiler.specs.Formats.{IsFormatOf}
use Rattle.tdf_expr.specs.Plans.{shape_written, start_number}
use Rattle.tdf_expr.specs.declared.spans.RateSpan.{RateSpan}
use Rattle.tdf_fixed.specs.declared.format.Format.{Format}
use Rattle.tdf_lang_tree.specs.Kept.{Each, KeepsLit}
use Rattle.tdf_lang_tree.specs.declared.names.Lit.{Lit}
use Rattle.tdf_lang_tree.specs.declared.shapes.Shape.{Shape}

-- one more of an item
pub push_next : {A : Type 0} (xs : List A) (n : ℕ) (x : A) → (xs ++ replicate n x) ++ x ∷ [] ≡ xs ++ replicate (n + 1) x
push_next xs n x = append_assoc xs (replicate n x) (x ∷ []) ∙ ap (λ ys. xs ++ ys) (sym (replicate_next n x))

pub push_none : {A : Type 0} (xs : List A) (x : A) → xs ++ replicate 0 x ≡ xs
push_none xs x = append-nil xs

pub ruleset push_laws = (push_next, push_none)

-- a format is written as the line wrote it
pub written_is : (shape : Shape) (f : Format) → IsFormatOf shape f → shape_written f ≡ Some shape
written_is shape f is = rw (is.signed, is.wl, is.iwl, is.quant, is.over) refl

pub written_many : (fs gs : List Format) (shape : Shape) (f : Format) (n : ℕ) → IsFormatOf shape f → gs ≡ fs ++ replicate n f
    → map shape_written gs ≡ map shape_written fs ++ replicate n (Some shape)
written_many fs gs shape f n is same =
    ap (map shape_written) same ∙ map-append shape_written fs (replicate n f) ∙ ap (λ l. map shape_written fs ++ l) (many n)
  where
    many : (n : ℕ) → map shape_written (replicate n f) ≡ replicate n (Some shape)
    many zero = refl
    many (suc n) = ap (λ x. x ∷ map shape_written (replicate n f)) (written_is shape f is) ∙ ap (λ l. Some shape ∷ l) (many n)

pub pushed : (fs gs : List Format) (shape : Shape) (f : Format) (n : ℕ) (r : Result (Unit {0}) Memory) → IsFormatOf shape f
    → OnOk r (gs ≡ fs ++ replicate n f) → OnOk r (map shape_written gs ≡ map shape_written fs ++ replicate n (Some shape))
pushed fs gs shape f n (Ok u) is same = written_many fs gs shape f n is same
pushed fs gs shape f n (Err e) is same = tt

-- a fact of each element holds of the one at a place
pub each_at : (xs : List Lit) (i : ℕ) (d : Lit) → Each KeepsLit xs → i < length xs → KeepsLit (get_or xs i d)
each_at [] i d each within = absurd (omega (arith, within))
each_at (x ∷ xs) zero d each within = each.0
each_at (x ∷ xs) (suc i) d each within = each_at xs i d each.1 (omega (arith, within))

pub starts_more : (shape : Shape) (ys : List ℤ) (xs : List Lit) (i : ℕ) (d : Lit) → i < length xs
    → (ys ++ start_number (Some shape) (get_or xs i d) ∷ []) ++ map (start_number (Some shape)) (drop (i + 1) xs) ≡ ys ++ map (start_number (Some shape)) (drop i xs)
starts_more shape ys xs i d within =
    append_assoc ys (start_number (Some shape) (get_or xs i d) ∷ []) (map (start_number (Some shape)) (drop (i + 1) xs))
    ∙ ap (λ (l : List Lit). ys ++ map (start_number (Some shape)) l) (sym (drop_more xs i d within))

pub starts_all : (shape : Shape) (ys : List ℤ) (xs : List Lit) (i : ℕ) → length xs ≤ i → ys ++ map (start_number (Some shape)) (drop i xs) ≡ ys
starts_all shape ys xs i past = ap (λ (l : List Lit). ys ++ map (start_number (Some shape)) l) (drop_all i xs past) ∙ append-nil ys

pub one_cell : {A : Type 0} (xs : List A) (x : A) → xs ++ x ∷ [] ≡ xs ++ replicate 1 x
one_cell xs x = refl

pub starts_both : (xs ys zs : List ℤ) → (xs ++ ys) ++ zs ≡ xs ++ (ys ++ zs)
starts_both xs ys zs = append_assoc xs ys zs

pub ruleset start_laws = (each_at, starts_more, starts_all)

pub ruleset cell_laws = (one_cell, starts_both, append-nil)

pub starts_none : (spans : List RateSpan) (i : ℕ) (xs : List ℕ) → length spans ≤ i → xs ++ map (λ r. r.start) (drop i spans) ≡ xs
starts_none spans i xs past = ap (λ (l : List RateSpan). xs ++ map (λ r. r.start) l) (drop_all i spans past) ∙ append-nil xs

pub starts_next : (spans : List RateSpan) (i : ℕ) (d : RateSpan) (xs : List ℕ) → i < length spans
    → (xs ++ (get_or spans i d).start ∷ []) ++ map (λ r. r.start) (drop (i + 1) spans) ≡ xs ++ map (λ r. r.start) (drop i spans)
starts_next spans i d xs within =
    append_assoc xs ((get_or spans i d).start ∷ []) (map (λ r. r.start) (drop (i + 1) spans))
    ∙ ap (λ (l : List RateSpan). xs ++ map (λ r. r.start) l) (sym (drop_more spans i d within))

pub ruleset rate_start_laws = (starts_none, starts_next)
