-- The head of a text is read part after part.
use Rattle.std.proofs.Common.{◌≡◌, ℕ, Bool, true, false, List, [], ◌∷◌, ◌++◌, ◌∙◌, sym, ap, refl, codes, decimal}
use Rattle.tdf_save.proofs.Api.{along_one, count64_one, kind_one, pre_one, spaced_one, three_is, three_line_one, word_line_one}
use Rattle.tdf_save.specs.Members.{IsCount64}
use Rattle.tdf_save.specs.Text.{after_spaces, kind_word, saved_line}
use Rattle.tdf_save.specs.machine.Pieces.{Any, AnyFlag, IsOne, Stops}
use Rattle.tdf_save_reading.proofs.ModuleReads.{last_text}
use Rattle.tdf_save_reading.proofs.ReadSteps.{along_none, along_piece, no_first, no_second, pair_piece, pre_absent, pre_none, pre_piece}
use Rattle.tdf_save_reading.specs.declared.head.Run.{Run}
use Rattle.tdf_save_reading.specs.machine.Heads.{IsRunInRange, kind_text, run_text}
use Rattle.tdf_save_reading.specs.machine.Pieces.{IsPiece, NoPiece}

-- ---- the kind

vcd_is : kind_text true ≡ codes "saved 1\nkind vcd\n"
unfolding kind_text saved_line after_spaces
vcd_is = refl

table_is : kind_text false ≡ codes "saved 1\nkind table\n"
unfolding kind_text saved_line after_spaces
table_is = refl

pub vcd_piece : (whole rest : List ℕ) → whole ≡ codes "saved 1\nkind vcd\n" ++ rest → IsPiece kind_text AnyFlag Any whole true rest
vcd_piece whole rest is = record { fit = tt; end = tt; is = is ∙ ap (λ x. x ++ rest) (sym vcd_is) }

pub table_piece : (whole rest : List ℕ) → whole ≡ codes "saved 1\nkind table\n" ++ rest → IsPiece kind_text AnyFlag Any whole false rest
table_piece whole rest is = record { fit = tt; end = tt; is = is ∙ ap (λ x. x ++ rest) (sym table_is) }

pub no_kind : (whole : List ℕ) → ((r : List ℕ) → whole ≡ codes "saved 1\nkind vcd\n" ++ r → ⊥) → ((r : List ℕ) → whole ≡ codes "saved 1\nkind table\n" ++ r → ⊥) → NoPiece kind_text AnyFlag Any whole
no_kind whole a b true r p = a r (p.is ∙ ap (λ x. x ++ r) vcd_is)
no_kind whole a b false r p = b r (p.is ∙ ap (λ x. x ++ r) table_is)

kind_is : (vcd : Bool) → kind_text vcd ≡ saved_line (codes "saved") (codes "1" ∷ []) ++ saved_line (codes "kind") (kind_word vcd ∷ [])
unfolding kind_text
kind_is vcd = refl

pub kind_text_one : IsOne kind_text AnyFlag Any
kind_text_one = along_one (λ v. v) kind_text (λ vcd. saved_line (codes "saved") (codes "1" ∷ []) ++ saved_line (codes "kind") (kind_word vcd ∷ [])) AnyFlag AnyFlag Any
    (λ v w e. e) kind_is (λ v f. f)
    (pre_one (saved_line (codes "saved") (codes "1" ∷ [])) (λ vcd. saved_line (codes "kind") (kind_word vcd ∷ [])) AnyFlag Any (word_line_one (codes "kind") kind_word AnyFlag kind_one))

-- ---- the time and the turns

abbrev RunParts : Type 0
RunParts = ℕ × (ℕ × ℕ)

run_parts : Run → RunParts
run_parts r = (r.time, (r.used, r.budget))

run_from : RunParts → Run
run_from q = record { time = q.0; used = q.1.0; budget = q.1.1 }

abbrev RunFit : RunParts → Type 0
RunFit q = IsCount64 q.0 × (IsCount64 q.1.0 × IsCount64 q.1.1)

abbrev run_line : RunParts → List ℕ
run_line q = saved_line (codes "run") (decimal q.0 ∷ (decimal q.1.0 ∷ (decimal q.1.1 ∷ [])))

run_is : (r : Run) → run_text r ≡ run_line (run_parts r)
unfolding run_text run_parts
run_is r = refl

run_same : (v w : Run) → run_parts v ≡ run_parts w → v ≡ w
unfolding run_parts run_from
run_same v w e = ap run_from e

run_fit : (r : Run) → IsRunInRange r → RunFit (run_parts r)
unfolding run_parts
run_fit r h = (h.time, (h.used, h.budget))

pub run_text_one : IsOne run_text IsRunInRange Any
run_text_one = along_one run_parts run_text run_line IsRunInRange RunFit Any run_same run_is run_fit
    (three_line_one (codes "run") decimal decimal decimal IsCount64 IsCount64 IsCount64 count64_one count64_one count64_one)

abbrev count_word : ℕ → List ℕ
count_word n = 32 ∷ decimal n

abbrev Turns : Type 0
Turns = ℕ × ℕ

abbrev turns_text : Turns → List ℕ
turns_text q = count_word q.0 ++ last_text decimal q.1

abbrev TurnsFit : Turns → Type 0
TurnsFit q = IsCount64 q.0 × IsCount64 q.1

abbrev words_text : RunParts → List ℕ
words_text q = count_word q.0 ++ turns_text q.1

abbrev after_keyword : RunParts → List ℕ
after_keyword q = codes "run" ++ words_text q

run_front : (r : Run) → run_text r ≡ after_keyword (run_parts r)
run_front r = run_is r ∙ three_is (codes "run") (decimal (run_parts r).0) (decimal (run_parts r).1.0) (decimal (run_parts r).1.1)

no_words : (whole : List ℕ) → NoPiece after_keyword RunFit Any whole → NoPiece run_text IsRunInRange Any whole
no_words whole none = along_none run_parts run_text after_keyword IsRunInRange RunFit Any whole run_front run_fit none

count_one : IsOne count_word IsCount64 Stops
count_one = spaced_one decimal IsCount64 count64_one

pub no_run_keyword : (whole : List ℕ) → ((r : List ℕ) → whole ≡ codes "run" ++ r → ⊥) → NoPiece run_text IsRunInRange Any whole
no_run_keyword whole none = no_words whole (pre_absent (codes "run") words_text RunFit Any whole none)

after_run : (whole a : List ℕ) → whole ≡ codes "run" ++ a → NoPiece words_text RunFit Any a → NoPiece run_text IsRunInRange Any whole
after_run whole a is none = no_words whole (pre_none (codes "run") words_text RunFit Any whole a is none)

pub no_run_time : (whole a : List ℕ) → whole ≡ codes "run" ++ a → NoPiece count_word IsCount64 Stops a → NoPiece run_text IsRunInRange Any whole
no_run_time whole a is none = after_run whole a is (no_first count_word turns_text IsCount64 TurnsFit Stops Any a (λ b r f e. refl) none)

after_time : (whole a b : List ℕ) (time : ℕ) → whole ≡ codes "run" ++ a → IsPiece count_word IsCount64 Stops a time b → NoPiece turns_text TurnsFit Any b → NoPiece run_text IsRunInRange Any whole
after_time whole a b time is p none = after_run whole a is (no_second count_word turns_text IsCount64 TurnsFit Stops Any a b time (λ b r f e. refl) count_one p none)

pub no_run_used : (whole a b : List ℕ) (time : ℕ) → whole ≡ codes "run" ++ a → IsPiece count_word IsCount64 Stops a time b → NoPiece count_word IsCount64 Stops b → NoPiece run_text IsRunInRange Any whole
no_run_used whole a b time is p none = after_time whole a b time is p (no_first count_word (last_text decimal) IsCount64 IsCount64 Stops Any b (λ b r f e. refl) none)

pub no_run_budget : (whole a b d : List ℕ) (time used : ℕ) → whole ≡ codes "run" ++ a → IsPiece count_word IsCount64 Stops a time b → IsPiece count_word IsCount64 Stops b used d
    → NoPiece (last_text decimal) IsCount64 Any d → NoPiece run_text IsRunInRange Any whole
no_run_budget whole a b d time used is p q none = after_time whole a b time is p
    (no_second count_word (last_text decimal) IsCount64 IsCount64 Stops Any b d used (λ b r f e. refl) count_one q none)

abbrev pub run_at : ℕ → ℕ → ℕ → Run
run_at time used budget = record { time = time; used = used; budget = budget }

parts_at : (time used budget : ℕ) → run_parts (run_at time used budget) ≡ (time, (used, budget))
unfolding run_parts
parts_at time used budget = refl

pub run_piece : (whole a b d rest : List ℕ) (time used budget : ℕ) → whole ≡ codes "run" ++ a → IsPiece count_word IsCount64 Stops a time b → IsPiece count_word IsCount64 Stops b used d
    → IsPiece (last_text decimal) IsCount64 Any d budget rest → IsPiece run_text IsRunInRange Any whole (run_at time used budget) rest
run_piece whole a b d rest time used budget is p q w =
    let two = pair_piece count_word (last_text decimal) IsCount64 IsCount64 Stops Any b d used budget rest q w in
    let one = pair_piece count_word turns_text IsCount64 TurnsFit Stops Any a b time (used, budget) rest p two in
    along_piece run_text after_keyword IsRunInRange RunFit Any whole (run_at time used budget) (time, (used, budget)) rest
    (run_front (run_at time used budget) ∙ ap after_keyword (parts_at time used budget))
    (record { time = p.fit; used = q.fit; budget = w.fit })
    (pre_piece (codes "run") words_text RunFit Any whole a (time, (used, budget)) rest is one)
