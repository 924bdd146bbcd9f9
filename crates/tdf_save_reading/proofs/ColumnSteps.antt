-- A column is read part after part.
use Rattle.std.proofs.Common.{◌≡◌, ℕ, ℤ, List, [], ◌∷◌, ◌++◌, ◌∙◌, ap, refl, codes, decimal, Option, Some, None}
use Rattle.std.specs.Fmt.{signed_decimal}
use Rattle.std.specs.List.{AllByRecursion, flat_map}
use Rattle.tdf_save.proofs.Api.{ColumnPartsFit, carry_line, carry_one, column_fit, column_is, column_next, column_one, column_parts, column_parts_text, count64_one, later_begins, later_is, later_one, laters_no_sample, one_is, path_line_one, sample_begins, sample_is, sample_one, samples_one, spaced_one, stamp_fit, stamp_parts, two_is}
use Rattle.tdf_save.specs.Members.{IsColumnInRange, IsCount64, IsNum, IsStampInRange}
use Rattle.tdf_save.specs.Text.{carry_word, saved_column, saved_later, saved_sample}
use Rattle.tdf_save.specs.machine.Pieces.{Any, IsNext, Stops}
use Rattle.tdf_save_reading.proofs.ModuleReads.{last_text, path_front, path_line_is}
use Rattle.tdf_save_reading.proofs.ReadSteps.{AreEach, AreItems, along_none, along_piece, no_first, no_second, pair_piece, pre_absent, pre_none, pre_piece}
use Rattle.tdf_save_reading.specs.machine.Pieces.{HasCarry, IsPiece, NoPiece, NoSample}
use Rattle.tdf_saved.specs.State.{ColumnStateOf}
use Rattle.tdf_saved.specs.declared.state.Stamp.{Stamp}

-- ---- samples

abbrev Words : Type 0
Words = ℕ × ℤ

abbrev time_word : ℕ → List ℕ
time_word t = 32 ∷ decimal t

abbrev words_text : Words → List ℕ
words_text q = time_word q.0 ++ last_text signed_decimal q.1

abbrev WordsFit : Words → Type 0
WordsFit q = IsCount64 q.0 × IsNum q.1

abbrev after_keyword : Words → List ℕ
after_keyword q = codes "sample" ++ words_text q

sample_front : (s : Stamp) → saved_sample s ≡ after_keyword (stamp_parts s)
sample_front s = sample_is s ∙ two_is (codes "sample") (decimal (stamp_parts s).0) (signed_decimal (stamp_parts s).1)

no_words : (whole : List ℕ) → NoPiece after_keyword WordsFit Any whole → NoPiece saved_sample IsStampInRange Any whole
no_words whole none = along_none stamp_parts saved_sample after_keyword IsStampInRange WordsFit Any whole sample_front stamp_fit none

pub no_sample_keyword : (whole : List ℕ) → ((r : List ℕ) → whole ≡ codes "sample" ++ r → ⊥) → NoPiece saved_sample IsStampInRange Any whole
no_sample_keyword whole none = no_words whole (pre_absent (codes "sample") words_text WordsFit Any whole none)

pub no_sample_time : (whole mid : List ℕ) → whole ≡ codes "sample" ++ mid → NoPiece time_word IsCount64 Stops mid → NoPiece saved_sample IsStampInRange Any whole
no_sample_time whole mid is none = no_words whole (pre_none (codes "sample") words_text WordsFit Any whole mid is
    (no_first time_word (last_text signed_decimal) IsCount64 IsNum Stops Any mid (λ b r f e. refl) none))

pub no_sample_num : (whole mid last : List ℕ) (time : ℕ) → whole ≡ codes "sample" ++ mid → IsPiece time_word IsCount64 Stops mid time last → NoPiece (last_text signed_decimal) IsNum Any last
    → NoPiece saved_sample IsStampInRange Any whole
no_sample_num whole mid last time is p none = no_words whole (pre_none (codes "sample") words_text WordsFit Any whole mid is
    (no_second time_word (last_text signed_decimal) IsCount64 IsNum Stops Any mid last time (λ b r f e. refl) (spaced_one decimal IsCount64 count64_one) p none))

abbrev pub stamp_at : ℕ → ℤ → Stamp
stamp_at time num = record { time = time; num = num }

stamp_parts_at : (time : ℕ) (num : ℤ) → stamp_parts (stamp_at time num) ≡ (time, num)
unfolding stamp_parts
stamp_parts_at time num = refl

pub sample_piece : (whole mid last rest : List ℕ) (time : ℕ) (num : ℤ) → whole ≡ codes "sample" ++ mid → IsPiece time_word IsCount64 Stops mid time last
    → IsPiece (last_text signed_decimal) IsNum Any last num rest → IsPiece saved_sample IsStampInRange Any whole (stamp_at time num) rest
sample_piece whole mid last rest time num is p q =
    along_piece saved_sample after_keyword IsStampInRange WordsFit Any whole (stamp_at time num) (time, num) rest
    (sample_front (stamp_at time num) ∙ ap after_keyword (stamp_parts_at time num)) (record { time = p.fit; num = q.fit })
    (pre_piece (codes "sample") words_text WordsFit Any whole mid (time, num) rest is
    (pair_piece time_word (last_text signed_decimal) IsCount64 IsNum Stops Any mid last time num rest p q))

pub samples_items : AreItems saved_sample IsStampInRange Any NoSample 115
samples_items = record { one = sample_one; begins = sample_begins; goes = λ v r f. tt; tail_ends = λ t e. tt; tail_is = λ t e. e.1 }

-- ---- later ones

pub later_front : (n : ℤ) → saved_later n ≡ codes "later" ++ last_text signed_decimal n
later_front n = later_is n ∙ one_is (codes "later") (signed_decimal n)

pub laters_items : AreItems saved_later IsNum Any IsNext 108
laters_items = record { one = later_one; begins = later_begins; goes = λ v r f. tt; tail_ends = λ t e. tt; tail_is = λ t e. e.later }

-- ---- the carry

pub no_carry : (text : List ℕ) → ((r : List ℕ) → text ≡ (32 ∷ (45 ∷ (10 ∷ []))) ++ r → ⊥) → NoPiece (last_text signed_decimal) IsNum Any text → NoPiece (last_text carry_word) HasCarry Any text
no_carry text dash none None r p = dash r p.is
no_carry text dash none (Some n) r p = none n r (record { fit = p.fit; end = tt; is = p.is })

pub some_carry : (text : List ℕ) (n : ℤ) (rest : List ℕ) → IsPiece (last_text signed_decimal) IsNum Any text n rest → IsPiece (last_text carry_word) HasCarry Any text (Some n) rest
some_carry text n rest p = record { fit = p.fit; end = tt; is = p.is }

pub carry_front : (label : List ℕ) (carry : Option ℤ) → carry_line label carry ≡ path_front (codes "column") label ++ last_text carry_word carry
carry_front label carry = path_line_is (codes "column") label carry_word carry

-- ---- the whole column

abbrev Rest : Type 0
Rest = List Stamp × List ℤ

abbrev rest_text : Rest → List ℕ
rest_text q = flat_map saved_sample q.0 ++ flat_map saved_later q.1

abbrev RestFit : Rest → Type 0
RestFit q = AllByRecursion IsStampInRange q.0 × AllByRecursion IsNum q.1

from_parts : (label whole : List ℕ) → NoPiece (column_parts_text label) ColumnPartsFit IsNext whole → NoPiece (saved_column label) IsColumnInRange IsNext whole
from_parts label whole none = along_none column_parts (saved_column label) (column_parts_text label) IsColumnInRange ColumnPartsFit IsNext whole (column_is label) column_fit none

pub no_front : (label whole : List ℕ) → NoPiece (carry_line label) HasCarry Any whole → NoPiece (saved_column label) IsColumnInRange IsNext whole
no_front label whole none = from_parts label whole (no_first (carry_line label) rest_text HasCarry RestFit Any IsNext whole (λ b r f e. tt) none)

after_front : (label whole a : List ℕ) (carry : Option ℤ) → IsPiece (carry_line label) HasCarry Any whole carry a → NoPiece rest_text RestFit IsNext a → NoPiece (saved_column label) IsColumnInRange IsNext whole
after_front label whole a carry p none = from_parts label whole
    (no_second (carry_line label) rest_text HasCarry RestFit Any IsNext whole a carry (λ b r f e. tt) (path_line_one (codes "column") label carry_word HasCarry carry_one) p none)

pub no_samples : (label whole a : List ℕ) (carry : Option ℤ) → IsPiece (carry_line label) HasCarry Any whole carry a → NoPiece (flat_map saved_sample) (AllByRecursion IsStampInRange) NoSample a
    → NoPiece (saved_column label) IsColumnInRange IsNext whole
no_samples label whole a carry p none = after_front label whole a carry p
    (no_first (flat_map saved_sample) (flat_map saved_later) (AllByRecursion IsStampInRange) (AllByRecursion IsNum) NoSample IsNext a laters_no_sample none)

pub no_laters : (label whole a b : List ℕ) (carry : Option ℤ) (ss : List Stamp) → IsPiece (carry_line label) HasCarry Any whole carry a
    → IsPiece (flat_map saved_sample) (AllByRecursion IsStampInRange) NoSample a ss b → NoPiece (flat_map saved_later) (AllByRecursion IsNum) IsNext b → NoPiece (saved_column label) IsColumnInRange IsNext whole
no_laters label whole a b carry ss p q none = after_front label whole a carry p
    (no_second (flat_map saved_sample) (flat_map saved_later) (AllByRecursion IsStampInRange) (AllByRecursion IsNum) NoSample IsNext a b ss laters_no_sample samples_one q none)

abbrev pub column_at : Option ℤ → List Stamp → List ℤ → ColumnStateOf
column_at carry samples later = record { carry = carry; samples = samples; later = later }

parts_at : (carry : Option ℤ) (ss : List Stamp) (ns : List ℤ) → column_parts (column_at carry ss ns) ≡ (carry, (ss, ns))
unfolding column_parts
parts_at carry ss ns = refl

pub all_parts : (label whole a b rest : List ℕ) (carry : Option ℤ) (ss : List Stamp) (ns : List ℤ) → IsPiece (carry_line label) HasCarry Any whole carry a
    → IsPiece (flat_map saved_sample) (AllByRecursion IsStampInRange) NoSample a ss b → IsPiece (flat_map saved_later) (AllByRecursion IsNum) IsNext b ns rest
    → IsPiece (saved_column label) IsColumnInRange IsNext whole (column_at carry ss ns) rest
all_parts label whole a b rest carry ss ns p q w =
    let two = pair_piece (flat_map saved_sample) (flat_map saved_later) (AllByRecursion IsStampInRange) (AllByRecursion IsNum) NoSample IsNext a b ss ns rest q w in
    let one = pair_piece (carry_line label) rest_text HasCarry RestFit Any IsNext whole a carry (ss, ns) rest p two in
    along_piece (saved_column label) (column_parts_text label) IsColumnInRange ColumnPartsFit IsNext whole (column_at carry ss ns) (carry, (ss, ns)) rest
    (column_is label (column_at carry ss ns) ∙ ap (column_parts_text label) (parts_at carry ss ns))
    (record { carry = p.fit; samples = q.fit; later = w.fit }) one

-- ---- columns

abbrev pub ColumnFits : List ℕ → ColumnStateOf → Type 0
ColumnFits label s = IsColumnInRange s

pub columns_each : AreEach saved_column ColumnFits IsNext
columns_each = record { one = column_one; goes = column_next }
