-- Texts that are put together line by line.
use Rattle.std.proofs.Common.{◌≡◌, ◌<◌, ◌+◌, ℕ, zero, suc, arith, List, [], ◌∷◌, ◌++◌, append_assoc, append-nil, refl, sym, ap, ◌∙◌, length, take}
use Rattle.std.proofs.Math.Seq.{take-append_seam}
use Rattle.std.proofs.lemmas.List.{length-append, take-take}
use Rattle.std.proofs.lemmas.Grind.{flat_map-append}
use Rattle.std.specs.Fmt.{decimal}
use Rattle.std.specs.List.{flat_map, range_with_len}
use Rattle.std.specs.Prelude.{Result, Ok, Err, OnOk, codes}
use Rattle.tdf_dynamic_texts.specs.Plans.{accepted_line}

pub ruleset text_laws = (append_assoc, append-nil)

-- one number more
range_next : (a n j : ℕ) → a + n ≡ j → range_with_len a (n + 1) ≡ range_with_len a n ++ j ∷ []
range_next a zero j is = let e : a ≡ j = omega (arith, is) in ap (λ k. k ∷ []) e
range_next a (suc n) j is = let e : suc n + 1 ≡ suc (n + 1) = omega arith in ap (range_with_len a) e ∙ ap (λ list. a ∷ list) (range_next (a + 1) n j (omega (arith, is)))

-- the text of one number more
pub texts_next : (f : ℕ → List ℕ) (n : ℕ) (before out new : List ℕ) → out ≡ before ++ flat_map f (range_with_len 0 n) → new ≡ out ++ f n
    → new ≡ before ++ flat_map f (range_with_len 0 (n + 1))
texts_next f n before out new is more =
    more ∙ ap (λ text. text ++ f n) is ∙ append_assoc before (flat_map f (range_with_len 0 n)) (f n)
    ∙ ap (λ text. before ++ text) (ap (λ text. flat_map f (range_with_len 0 n) ++ text) (sym (append-nil (f n)))
    ∙ sym (flat_map-append f (range_with_len 0 n) (n ∷ [])) ∙ ap (flat_map f) (sym (range_next 0 n n (omega arith))))

-- the line of a model that is accepted, word by word
pub accepted_joins : {T E : Type 0} (result : Result T E) (old a b c d : List ℕ) (number clusters : ℕ) → number ≡ clusters → a ≡ old ++ codes "accepted" → b ≡ a ++ codes " clusters "
    → c ≡ b ++ decimal number → OnOk result (d ≡ c ++ codes "\n") → OnOk result (d ≡ old ++ accepted_line clusters)
unfolding accepted_line
accepted_joins (Ok x) old a b c d number clusters is e f g h =
    h ∙ ap (λ text. text ++ codes "\n") (g ∙ ap (λ n. b ++ decimal n) is ∙ ap (λ text. text ++ decimal clusters) (f ∙ ap (λ text. text ++ codes " clusters ") e)
    ∙ append_assoc (old ++ codes "accepted") (codes " clusters ") (decimal clusters) ∙ append_assoc old (codes "accepted") (codes " clusters " ++ decimal clusters))
    ∙ append_assoc old (codes "accepted" ++ codes " clusters " ++ decimal clusters) (codes "\n")
accepted_joins (Err error) old a b c d number clusters is e f g h = tt

-- what a text held in front is there still when the next piece finds no memory
pub kept_after : (a t b c : List ℕ) → b ≡ a ++ t → take (length b) c ≡ b → take (length a) c ≡ a
kept_after a t b c is kept =
    let long : length b ≡ length a + length t = ap length is ∙ length-append a t in
    sym (take-take (length a) (length b) c (omega (arith, long))) ∙ ap (take (length a)) (kept ∙ is) ∙ take-append_seam a t
