-- Lists of numbers, up to the end of their line.
use Rattle.std.proofs.Common.{◌≡◌, ℕ, true, false, List, [], ◌∷◌, ◌++◌, map, refl, ◌∙◌, sym, ap, append_assoc}
use Rattle.std.proofs.lemmas.Bool.{eqb-true}
use Rattle.std.specs.List.{AllByRecursion, flat_map}
use Rattle.tdf_save.proofs.Api.{line_end, list_is, spaced_one}
use Rattle.tdf_save_reading.proofs.ReadSteps.{AreItems, HasRead, done, stuck}
use Rattle.tdf_save.specs.machine.Pieces.{Any, IsOne, Stops, begins_with_byte}
use Rattle.tdf_save_reading.specs.machine.Pieces.{IsPiece, NoPiece}
use Rattle.tdf_save_reading.specs.machine.Lists.{list_text}
use Rattle.tdf_save.specs.Text.{after_spaces}

abbrev pub AtEnd : List ℕ → Type 0
AtEnd t = begins_with_byte 10 t ≡ true

end_stops : (t : List ℕ) → AtEnd t → Stops t
end_stops [] h = h
end_stops (c ∷ t) h = let e : c ≡ 10 = eqb-true c 10 h in rw e refl

end_no_space : (t : List ℕ) → AtEnd t → begins_with_byte 32 t ≡ false
end_no_space [] h = refl
end_no_space (c ∷ t) h = let e : c ≡ 10 = eqb-true c 10 h in rw e refl

pub list_items : {V : Type 0} (word : V → List ℕ) (fits : V → Type 0) → IsOne word fits Stops → AreItems (λ v. 32 ∷ word v) fits Stops AtEnd 32
list_items word fits one = record {
  one = spaced_one word fits one;
  begins = λ v r. refl;
  goes = λ v r f. refl;
  tail_ends = end_stops;
  tail_is = end_no_space;
}

abbrev pub ListRead : {V : Type 0} → (V → List ℕ) → (V → Type 0) → List ℕ → List V → List ℕ → Type 0
ListRead word fits whole vs rest = HasRead (λ v. 32 ∷ word v) fits AtEnd whole vs rest

list_whole : {V : Type 0} (word : V → List ℕ) (vs : List V) (r : List ℕ) → list_text word vs ++ r ≡ flat_map (λ v. 32 ∷ word v) vs ++ (10 ∷ r)
unfolding list_text
list_whole word vs r = append_assoc (after_spaces (map word vs)) line_end r ∙ ap (λ x. x ++ (10 ∷ r)) (list_is word vs)

pub list_stuck : {V : Type 0} (word : V → List ℕ) (fits : V → Type 0) → IsOne word fits Stops → (whole : List ℕ) (vs : List V) (rest : List ℕ)
    → ListRead word fits whole vs rest → begins_with_byte 32 rest ≡ true → NoPiece (λ v. 32 ∷ word v) fits Stops rest → NoPiece (list_text word) (AllByRecursion fits) Any whole
list_stuck word fits one whole vs rest h here none = λ ws r p.
    stuck (λ v. 32 ∷ word v) fits Stops AtEnd 32 (list_items word fits one) whole vs rest h here none ws (10 ∷ r)
    (record { fit = p.fit; end = refl; is = p.is ∙ list_whole word ws r })

pub list_no_end : {V : Type 0} (word : V → List ℕ) (fits : V → Type 0) → IsOne word fits Stops → (whole : List ℕ) (vs : List V) (rest : List ℕ)
    → ListRead word fits whole vs rest → begins_with_byte 32 rest ≡ false → ((r : List ℕ) → rest ≡ (10 ∷ []) ++ r → ⊥) → NoPiece (list_text word) (AllByRecursion fits) Any whole
list_no_end word fits one whole vs rest h here none = λ ws r p.
    let all = done (λ v. 32 ∷ word v) fits Stops AtEnd 32 (list_items word fits one) whole vs rest h here ws (10 ∷ r) p.fit refl (p.is ∙ list_whole word ws r) in
    none r all.rest_is

pub list_piece : {V : Type 0} (word : V → List ℕ) (fits : V → Type 0) (whole : List ℕ) (vs : List V) (rest left : List ℕ)
    → ListRead word fits whole vs rest → rest ≡ (10 ∷ []) ++ left → IsPiece (list_text word) (AllByRecursion fits) Any whole vs left
list_piece word fits whole vs rest left h is = record {
  fit = h.fit;
  end = tt;
  is = h.is ∙ ap (λ x. flat_map (λ v. 32 ∷ word v) vs ++ x) is ∙ sym (list_whole word vs left);
}
