-- Items up to something else, read one after the other.
use Rattle.std.proofs.Common.{◌≡◌, ℕ, ◌<◌, true, false, List, [], ◌∷◌, ◌++◌, length, sym, subst, arith}
use Rattle.std.proofs.lemmas.List.{length-append}
use Rattle.std.specs.List.{AllByRecursion, flat_map}
use Rattle.tdf_save.specs.machine.Pieces.{begins_with_byte}
use Rattle.tdf_save_reading.proofs.ReadSteps.{AreItems, HasRead, done}
use Rattle.tdf_save_reading.specs.machine.Pieces.{IsPiece, NoPiece}

pub items_piece : {V : Type 0} (f : V → List ℕ) (fits : V → Type 0) (tail : List ℕ → Type 0) (whole : List ℕ) (vs : List V) (rest : List ℕ)
    → HasRead f fits tail whole vs rest → tail rest → IsPiece (flat_map f) (AllByRecursion fits) tail whole vs rest
items_piece f fits tail whole vs rest h e = record { fit = h.fit; end = e; is = h.is }

-- something else comes than may come after them
pub items_no_tail : {V : Type 0} (f : V → List ℕ) (fits : V → Type 0) (ends tail : List ℕ → Type 0) (b : ℕ) → AreItems f fits ends tail b
    → (whole : List ℕ) (vs : List V) (rest : List ℕ) → HasRead f fits tail whole vs rest → begins_with_byte b rest ≡ false → (tail rest → ⊥) → NoPiece (flat_map f) (AllByRecursion fits) tail whole
items_no_tail f fits ends tail b all whole vs rest h here none = λ ws t p.
    let so = done f fits ends tail b all whole vs rest h here ws t p.fit p.end p.is in
    none (subst tail (sym so.rest_is) p.end)

longer : (xs r : List ℕ) → 0 < length xs → length r < length (xs ++ r)
longer xs r some = rw (length-append xs r) (omega (arith, some))

-- an item that begins with a byte is no empty text
some_bytes : (b : ℕ) (xs : List ℕ) → begins_with_byte b (xs ++ []) ≡ true → 0 < length xs
some_bytes b [] h = absurd (let f : true ≡ false = sym h in cc)
some_bytes b (x ∷ xs) h = omega arith

-- what is left is shorter
pub item_shorter : {V : Type 0} (f : V → List ℕ) (fits : V → Type 0) (ends : List ℕ → Type 0) (b : ℕ) → ((v : V) (r : List ℕ) → begins_with_byte b (f v ++ r) ≡ true)
    → (whole : List ℕ) (v : V) (rest : List ℕ) → IsPiece f fits ends whole v rest → length rest < length whole
item_shorter f fits ends b begins whole v rest p =
    subst (λ (x : List ℕ). length rest < length x) (sym p.is) (longer (f v) rest (some_bytes b (f v) (begins v [])))
