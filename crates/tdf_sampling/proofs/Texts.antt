-- Texts that are put together piece by piece.
use Rattle.std.proofs.Common.{◌≡◌, ℕ, zero, suc, ◌+◌, ◌<◌, List, [], ◌++◌, append_assoc, append-nil, arith, refl, sym, ap, ◌∙◌}
use Rattle.tdf_io.proofs.Api.{pieces_more, pieces_none}
use Rattle.std.proofs.Common.{Err, Option}
use Rattle.tdf_io.specs.Bytes.{WritesText, pieces_text}
use Rattle.tdf_io.specs.declared.writing.SinkErr.{SinkErr}

pub ruleset text_laws = (append_assoc, append-nil)

pieces_one : (piece : ℕ → List ℕ) (n : ℕ) → pieces_text piece (suc n) ≡ pieces_text piece n ++ piece n
pieces_one piece n = let e : suc n ≡ n + 1 = omega arith in ap (pieces_text piece) e ∙ pieces_more piece n

-- the text of pieces that are the same
pub pieces_same : (f g : ℕ → List ℕ) (n : ℕ) → ((k : ℕ) → k < n → f k ≡ g k) → pieces_text f n ≡ pieces_text g n
pieces_same f g zero same = pieces_none f ∙ sym (pieces_none g)
pieces_same f g (suc n) same =
    pieces_one f n ∙ ap (λ t. t ++ f n) (pieces_same f g n (λ k less. same k (omega arith))) ∙ ap (λ t. pieces_text g n ++ t) (same n (omega arith)) ∙ sym (pieces_one g n)

-- pieces without text add none
pub pieces_quiet : (piece : ℕ → List ℕ) (n more : ℕ) → ((k : ℕ) → n < k + 1 → k < more + n → piece k ≡ []) → pieces_text piece (more + n) ≡ pieces_text piece n
pieces_quiet piece n zero quiet = let e : 0 + n ≡ n = omega arith in ap (pieces_text piece) e
pieces_quiet piece n (suc more) quiet =
    let e : suc more + n ≡ suc (more + n) = omega arith in
    ap (pieces_text piece) e ∙ pieces_one piece (more + n) ∙ ap (λ t. pieces_text piece (more + n) ++ t) (quiet (more + n) (omega arith) (omega arith))
    ∙ append-nil (pieces_text piece (more + n)) ∙ pieces_quiet piece n more (λ k low high. quiet k low (omega arith))

-- a writer that was refused may be asked for any value
pub refused_as : {S T U : Type 0} (taken : S → Option (List ℕ)) (faults : S → ℕ) (a b : S) (text : List ℕ) (error : SinkErr)
    → WritesText {T = T} taken faults a b text (Err error) → WritesText {T = U} taken faults a b text (Err error)
refused_as taken faults a b text error h = record {
  all = tt;
  part = h.part;
  counted = record { later = h.counted.later; kept = h.counted.kept; rose = h.counted.rose };
}
