-- From one row to the next, with what the sink took.
use Rattle.std.proofs.Common.{◌≡◌, ◌≢◌, ℕ, ◌+◌, ◌-◌, max, ◌<◌, ◌≤◌, ◌⊎◌, Bool, true, false, nat_eq, List, [], ◌++◌, length, slice_get, Option, Some, None, is_some, unwrap_or, ap, sym, ◌∙◌, subst, inl, inr, arith}
use Rattle.std.proofs.KnownBytes.{Appends-nil, Appends-trans}
use Rattle.std.proofs.lemmas.Bool.{cases_eq, cases_lt, eq-eqb, true≢false}
use Rattle.std.specs.Io.KnownBytes.{Appends}
use Rattle.tdf_fixed.specs.declared.raw.Raw.{Raw}
use Rattle.tdf_io.proofs.Api.{front_more, front_then}
use Rattle.tdf_io.specs.Bytes.{AppendsFront}
use Rattle.tdf_trace_rows.proofs.Api.{has_some, last_kept, last_more, or_true, or_true_right, quiet_text, quiet_time, row_here, shown_is, text_one, text_split}
use Rattle.tdf_trace_rows.specs.Rows.{Cells, is_row, last, shown, text_from}
use Rattle.tdf_trace.proofs.Places.{get_less, get_some}
use Rattle.tdf_trace.proofs.Turns.{HasRow, Next, held_low, turned_held, turned_shown, turned_was, waits_for, waits_not}
use Rattle.tdf_trace.specs.Columns.{ColumnSeen, before_row, held_at}
use Rattle.tdf_trace.specs.Stands.{NextRowWaits, RowsSeen, Stands}
use Rattle.tdf_trace.specs.Writings.{AboutSeen, rows_text, writing_of}
use Rattle.tdf_trace.specs.machine.Moving.{Breaks, IsDone, Moves, MovesOn}
use Rattle.tdf_trace.specs.machine.Turning.{AreSound, AreTurned, NoneWaits, OneWaits, turned}
use Rattle.tdf_trace.specs.views.Seen.{row_line}

abbrev at : List ColumnSeen → ℕ → RowsSeen
at columns upto = record { columns = columns; upto = upto }

inside : (g : Cells) (rows : RowsSeen) → Stands g rows → (c : ℕ) (column : ColumnSeen) → slice_get rows.columns c ≡ Some column → c < g.columns
inside g rows h c column here = let l : c < length rows.columns = get_less rows.columns c column here in let n : length rows.columns ≡ g.columns = h.count in omega (arith, l, n)

quiet_cell : (g : Cells) (rows : RowsSeen) (t : ℕ) → AreSound t rows.columns → Stands g rows → (c s : ℕ) → c < g.columns → rows.upto ≤ s → s < t → g.at c s ≡ None
quiet_cell g rows t sound h c s less low under =
    let n : length rows.columns ≡ g.columns = h.count in
    let w : (x : ColumnSeen) × (slice_get rows.columns c ≡ Some x) = get_some rows.columns c (omega (arith, less, n)) in
    sym (h.held c s w.0 w.1 low) ∙ held_low t s w.0.held ((sound c w.0 w.1).rising) under

none_given : {A : Type 0} (o : Option (Option A)) → o ≡ None → o ≢ Some None
none_given None e i = absurd (grind (arith, i))
none_given (Some v) e i = absurd (grind (arith, e))

quiet_rows : (about : AboutSeen) (g : Cells) (rows : RowsSeen) (t : ℕ) → AreSound t rows.columns → Stands g rows → rows.upto ≤ t → (rows.upto ≡ 0 → t ≡ 0)
    → rows_text about g rows.upto t ≡ []
quiet_rows about g rows t sound h more start = quiet_text (writing_of about).line g rows.upto (t - rows.upto) first
    (λ c s less low under. quiet_cell g rows t sound h c s less low (omega (arith, under, more)))
  where
    first : (0 < rows.upto) ⊎ (t - rows.upto ≡ 0)
    first = elim (cases_eq rows.upto 0) [ inl z ↦ inr (let e : t ≡ 0 = start z in omega (arith, e)) | inr n ↦ inl (omega (arith, n)) ]

pub stands_quiet : (g : Cells) (rows : RowsSeen) (t : ℕ) → AreSound t rows.columns → Stands g rows → rows.upto ≤ t → Stands g (at rows.columns t)
stands_quiet g rows t sound h more = record {
  count = h.count;
  held = λ c s column here low. h.held c s column here (omega (arith, more, low));
  shown = λ c column here. h.shown c column here ∙ sym (last_kept g c rows.upto t more (λ s low under. quiet_cell g rows t sound h c s (inside g rows h c column here) low under));
}

pub moves_quiet : (about : AboutSeen) (waits : Bool) (rows : RowsSeen) (t : ℕ) (a : Option (List ℕ)) → AreSound t rows.columns → rows.upto ≤ t → (rows.upto ≡ 0 → t ≡ 0)
    → MovesOn about waits rows (at rows.columns t) a a
moves_quiet about waits rows t a sound more start g h = record {
  later = more;
  stands = stands_quiet g rows t sound h more;
  given = λ _ c s less low under. none_given (g.at c s) (quiet_cell g rows t sound h c s less low under);
  took = subst (λ (text : List ℕ). Appends a a text) (sym (quiet_rows about g rows t sound h more start)) (Appends-nil a);
}

pub moves_none : (about : AboutSeen) (waits : Bool) (rows : RowsSeen) (a : Option (List ℕ)) → MovesOn about waits rows rows a a
moves_none about waits rows a g h = record {
  later = omega arith;
  stands = h;
  given = λ _ c s less low under. absurd (omega (arith, low, under));
  took = subst (λ (text : List ℕ). Appends a a text)
      (sym (quiet_text (writing_of about).line g rows.upto (rows.upto - rows.upto) (inr (omega arith)) (λ c s less low under. absurd (omega (arith, low, under))))) (Appends-nil a);
}

pub moves_trans : (about : AboutSeen) (waits : Bool) (x y z : RowsSeen) (a b d : Option (List ℕ)) → MovesOn about waits x y a b → MovesOn about waits y z b d → MovesOn about waits x z a d
moves_trans about waits x y z a b d first second g h =
    let p : Moves about waits g x y a b = first g h in let q : Moves about waits g y z b d = second g p.stands in record {
      later = (let l : x.upto ≤ y.upto = p.later in let m : y.upto ≤ z.upto = q.later in omega (arith, l, m));
      stands = q.stands;
      given = λ must c s less low under. elim (cases_lt s y.upto) [
        | inl early ↦ p.given must c s less low early
        | inr late ↦ q.given must c s less late under
      ];
      took = subst (λ (text : List ℕ). Appends a d text) (sym (text_split (writing_of about).line g x.upto y.upto z.upto p.later q.later)) (Appends-trans a b d _ _ p.took q.took);
    }

is_row_here : (g : Cells) (columns : List ColumnSeen) (t : ℕ) → HasRow t columns → Stands g (at columns t) → is_row g t ≡ true
is_row_here g columns t (inl first) h = or_true (nat_eq t 0) _ (eq-eqb t 0 first)
is_row_here g columns t (inr w) h = or_true_right (nat_eq t 0) _ (has_some g t w.0 g.columns
    (let l : w.0 < length columns = get_less columns w.0 w.1 w.3 in let n : length columns ≡ g.columns = h.count in omega (arith, l, n))
    (ap is_some (sym (h.held w.0 t w.1 w.3 (omega arith)) ∙ w.4)))

turned_shows : (g : Cells) (columns new : List ColumnSeen) (t : ℕ) → AreSound t columns → AreTurned t (length columns) columns new → Stands g (at columns t)
    → (c : ℕ) (column : ColumnSeen) → slice_get new c ≡ Some column → column.shown ≡ last g c (t + 1)
turned_shows g columns new t sound turns h c column here =
    let w : (old : ColumnSeen) × (slice_get columns c ≡ Some old) × (column ≡ turned t old) = turned_was columns new t c column turns here in
    ap (λ (x : ColumnSeen). x.shown) w.2 ∙ turned_shown t w.0.held w.0.shown ((sound c w.0 w.1).rising)
    ∙ ap (λ (v : Option (Option Raw)). unwrap_or v w.0.shown) (h.held c t w.0 w.1 (omega arith)) ∙ ap (λ (v : Option Raw). unwrap_or (g.at c t) v) (h.shown c w.0 w.1) ∙ sym (last_more g c t)

turned_before : (g : Cells) (columns new : List ColumnSeen) (t : ℕ) → AreTurned t (length columns) columns new → Stands g (at columns t)
    → (c : ℕ) (column : ColumnSeen) → slice_get new c ≡ Some column → column.before ≡ last g c t
turned_before g columns new t turns h c column here =
    let w : (old : ColumnSeen) × (slice_get columns c ≡ Some old) × (column ≡ turned t old) = turned_was columns new t c column turns here in
    ap (λ (x : ColumnSeen). x.before) w.2 ∙ h.shown c w.0 w.1

-- the line of the row is the text of the rows at this one time
row_is : (about : AboutSeen) (g : Cells) (columns new : List ColumnSeen) (t : ℕ) → AreSound t columns → HasRow t columns → AreTurned t (length columns) columns new → Stands g (at columns t)
    → rows_text about g t (t + 1) ≡ row_line about new t
row_is about g columns new t sound has turns h =
    let n : length new ≡ g.columns = turns.same ∙ h.count in
    text_one (writing_of about).line g t ∙ row_here (writing_of about).line g t (is_row_here g columns t has h)
    ∙ ap (λ row. (writing_of about).line t row (shown g (t + 1))) (sym (shown_is (λ (c : ColumnSeen). c.before) g t new n (turned_before g columns new t turns h)))
    ∙ ap (λ row. (writing_of about).line t (before_row new) row) (sym (shown_is (λ (c : ColumnSeen). c.shown) g (t + 1) new n (turned_shows g columns new t sound turns h)))

moves_turned : (about : AboutSeen) (must : Bool) (columns new : List ColumnSeen) (t : ℕ) (a b : Option (List ℕ)) → AreSound t columns → HasRow t columns → AreTurned t (length columns) columns new
    → (must ≡ true → NoneWaits columns t (length columns)) → Appends a b (row_line about new t) → MovesOn about must (at columns t) (at new (t + 1)) a b
moves_turned about must columns new t a b sound has turns known took g h = record {
  later = omega arith;
  stands = record {
    count = turns.same ∙ h.count;
    held = λ c s column here low. (let w : (old : ColumnSeen) × (slice_get columns c ≡ Some old) × (column ≡ turned t old) = turned_was columns new t c column turns here in
        ap (λ (x : ColumnSeen). held_at x.held s) w.2 ∙ turned_held t s w.0.held (omega (arith, low)) ∙ h.held c s w.0 w.1 (omega (arith, low)));
    shown = turned_shows g columns new t sound turns h;
  };
  given = λ yes c s less low under. (let e : t ≡ s = omega (arith, low, under) in
      let n : length columns ≡ g.columns = h.count in
      let w : (x : ColumnSeen) × (slice_get columns c ≡ Some x) = get_some columns c (omega (arith, less, n)) in
      subst (λ (k : ℕ). g.at c k ≢ Some None) e (subst (λ (o : Option (Option Raw)). o ≢ Some None) (h.held c t w.0 w.1 (omega arith))
      (waits_not t w.0.held ((sound c w.0 w.1).rising) (known yes c w.0 (omega (arith, less, n)) w.1))));
  took = subst (λ (text : List ℕ). Appends a b text) (sym (row_is about g columns new t sound has turns h)) took;
}

pub moves_row : (about : AboutSeen) (must : Bool) (rows : RowsSeen) (new : List ColumnSeen) (limit t : ℕ) (a b : Option (List ℕ)) → Next rows limit t → t < limit
    → AreTurned t (length rows.columns) rows.columns new → (must ≡ true → NoneWaits rows.columns t (length rows.columns)) → Appends a b (row_line about new t)
    → MovesOn about must rows (at new (t + 1)) a b
moves_row about must rows new limit t a b n less turns known took = moves_trans about must rows (at rows.columns t) (at new (t + 1)) a a b
    (moves_quiet about must rows t a n.sound n.low n.start) (moves_turned about must rows.columns new t a b n.sound (n.row less) turns known took)

-- a front part of the row is one of the rows below the limit
pub breaks_row : (about : AboutSeen) (rows : RowsSeen) (new : List ColumnSeen) (limit t : ℕ) (a b : Option (List ℕ)) → Next rows limit t → t < limit
    → AreTurned t (length rows.columns) rows.columns new → AppendsFront a b (row_line about new t) → Breaks about rows limit a b
breaks_row about rows new limit t a b n less turns part g h =
    let line = (writing_of about).line in
    let on : Stands g (at rows.columns t) = stands_quiet g rows t n.sound h n.low in
    let e : rows_text about g rows.upto limit ≡ row_line about new t ++ rows_text about g (t + 1) limit =
    text_split line g rows.upto t limit n.low n.within ∙ ap (λ text. text ++ rows_text about g t limit) (quiet_rows about g rows t n.sound h n.low n.start)
    ∙ text_split line g t (t + 1) limit (omega arith) (omega (arith, less)) ∙ ap (λ text. text ++ rows_text about g (t + 1) limit) (row_is about g rows.columns new t n.sound (n.row less) turns on) in
    subst (λ (text : List ℕ). AppendsFront a b text) (sym e) (front_more a b (row_line about new t) (rows_text about g (t + 1) limit) part)

pub breaks_then : (about : AboutSeen) (waits : Bool) (x y : RowsSeen) (limit : ℕ) (a b d : Option (List ℕ)) → MovesOn about waits x y a b → y.upto ≤ limit → Breaks about y limit b d → Breaks about x limit a d
breaks_then about waits x y limit a b d first within broke g h =
    let p : Moves about waits g x y a b = first g h in
    subst (λ (text : List ℕ). AppendsFront a d text) (sym (text_split (writing_of about).line g x.upto y.upto limit p.later within))
    (front_then a b d (rows_text about g x.upto y.upto) (rows_text about g y.upto limit) p.took (broke g p.stands))

-- the next row waits
pub done_waiting : (waits : Bool) (rows : RowsSeen) (limit t : ℕ) → Next rows limit t → t < limit → waits ≡ true → OneWaits rows.columns t → IsDone waits rows limit
done_waiting waits rows limit t n less must one g h = inr (
  must,
  record {
    time = t;
    column = one.place;
    later = n.low;
    below = less;
    next = λ s low under. quiet_time g s (elim (cases_eq rows.upto 0) [ inl z ↦ (let e : t ≡ 0 = n.start z in omega (arith, e, under)) | inr m ↦ omega (arith, m, low) ])
        (λ c small. quiet_cell g rows t n.sound h c s small low under);
    inside = inside g rows h one.place one.column one.at;
    waits = sym (h.held one.place t one.column one.at n.low) ∙ waits_for t one.column.held one.waiting;
  },
)

pub done_all : (waits : Bool) (rows : RowsSeen) (limit : ℕ) → limit ≤ rows.upto → IsDone waits rows limit
done_all waits rows limit low g h = inl low

-- where no row waits, all rows below the end are written
pub moves_end : (about : AboutSeen) (g : Cells) (x y : RowsSeen) (end : ℕ) (a b : Option (List ℕ)) → Moves about false g x y a b → y.upto ≤ max x.upto end
    → (end ≤ y.upto) ⊎ ((false ≡ true) × NextRowWaits g y.upto end) → Appends a b (rows_text about g x.upto end)
moves_end about g x y end a b m within (inl all) = let low : x.upto ≤ y.upto = m.later in let e : y.upto - x.upto ≡ end - x.upto = omega (arith, low, within, all) in
    subst (λ (n : ℕ). Appends a b (text_from (writing_of about).line g x.upto n)) e m.took
moves_end about g x y end a b m within (inr waits) = absurd (true≢false (sym waits.0))
