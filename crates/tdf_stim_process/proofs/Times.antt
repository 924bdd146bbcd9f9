-- The times of the rows of a table that can drive a model rise, as counts of its resolution.
use Rattle.std.proofs.Common.{◌≡◌, ◌∙◌, ℕ, zero, suc, ◌+◌, ◌/◌, ◌%◌, ◌^◌, ◌<◌, Bool, true, false, not, ◌||◌, nat_eq, nat_lt, if◌then◌else◌, List, [], ◌∷◌, ◌++◌, map, length, Option, Some, None, slice_index, refl, sym, ap, subst, inl, inr, arith}
use Rattle.std.proofs.lemmas.Bool.{true≢false}
use Rattle.std.proofs.lemmas.Bool.Decides.{eqb_tells, leb_tells}
use Rattle.std.proofs.lemmas.List.{length-map}
use Rattle.std.specs.List.{AllByRecursion}
use Rattle.tdf_base.specs.Limits.{time_end}
use Rattle.tdf_base.specs.Time.{femtoseconds_in}
use Rattle.tdf_base.specs.declared.resolution.Resolution.{Resolution}
use Rattle.tdf_base.specs.declared.resolution.Resolution.TheVariants.{Fs, Ps}
use Rattle.tdf_stim.specs.Drivable.{is_off, line_from}
use Rattle.tdf_stim.specs.Driven.{times_of}
use Rattle.tdf_stim.specs.Driver.{counts}
use Rattle.tdf_stim_process.specs.Laws.{TableTimesRise}
use Rattle.tdf_tables.proofs.Api.{Rising, rising}
use Rattle.tdf_tables.specs.Tables.{TableRow}

-- ---- each time is a whole count

abbrev IsOnCount : Resolution → TableRow → Type 0
IsOnCount unit row = is_off unit row.time ≡ false

all_on : (unit : Resolution) (line : ℕ) (rows : List TableRow) → line_from line (λ row. is_off unit row.time) rows ≡ None → AllByRecursion (IsOnCount unit) rows
unfolding line_from
all_on unit line [] none = tt
all_on unit line (r ∷ rs) none = go (is_off unit r.time) refl none (all_on unit (line + 1) rs)
  where
    go : (b : Bool) → is_off unit r.time ≡ b → (if b then Some line else line_from (line + 1) (λ row. is_off unit row.time) rs) ≡ None
        → (line_from (line + 1) (λ row. is_off unit row.time) rs ≡ None → AllByRecursion (IsOnCount unit) rs) → AllByRecursion (IsOnCount unit) (r ∷ rs)
    go true is e rest = absurd (cc)
    go false is e rest = (is, rest e)

or_first : (a b : Bool) → (not a || not b) ≡ false → a ≡ true
or_first true b h = refl
or_first false b h = absurd (cc)

or_second : (a b : Bool) → (not a || not b) ≡ false → b ≡ true
or_second true true h = refl
or_second true false h = absurd (cc)
or_second false b h = absurd (cc)

on_whole : (unit : Resolution) (row : TableRow) → IsOnCount unit row → row.time % femtoseconds_in unit ≡ 0
on_whole unit row on = elim (eqb_tells (row.time % femtoseconds_in unit) 0) [
  | inl y ↦ y.1
  | inr n ↦ absurd (true≢false (sym (or_first (nat_eq (row.time % femtoseconds_in unit) 0) (nat_lt (row.time / femtoseconds_in unit) time_end) on) ∙ n.0))
]

on_early : (unit : Resolution) (row : TableRow) → IsOnCount unit row → row.time / femtoseconds_in unit < time_end
on_early unit row on = elim (leb_tells (suc (row.time / femtoseconds_in unit)) time_end) [
  | inl y ↦ (let e = y.1 in omega (arith, e))
  | inr n ↦ absurd (true≢false (sym (or_second (nat_eq (row.time % femtoseconds_in unit) 0) (nat_lt (row.time / femtoseconds_in unit) time_end) on) ∙ n.0))
]

-- whole counts rise as their times do
counts_rise : (unit : Resolution) (a b : ℕ) → a % femtoseconds_in unit ≡ 0 → b % femtoseconds_in unit ≡ 0 → a < b → counts unit a < counts unit b
counts_rise Ps a b on_a on_b less = let e : a % 1000 ≡ 0 = on_a in let f : b % 1000 ≡ 0 = on_b in omega (arith, e, f, less)
counts_rise Fs a b on_a on_b less = omega (arith, less)

counts_zero : (unit : Resolution) → counts unit 0 ≡ 0
counts_zero Ps = refl
counts_zero Fs = refl

-- ---- the times as counts

module _ (unit : Resolution) where
  abbrev count_of : TableRow → ℕ
  count_of row = counts unit row.time

  after_first : (r : TableRow) (rows : List TableRow) → IsOnCount unit r → Rising (Some r.time) rows → AllByRecursion (IsOnCount unit) rows → (j : ℕ) → j < length rows → count_of r < slice_index (map count_of rows) j
  after_first r [] on up all j less = absurd (omega (arith, less))
  after_first r (s ∷ rs) on up all zero less = counts_rise unit r.time s.time (on_whole unit r on) (on_whole unit s all.0) up.0
  after_first r (s ∷ rs) on up all (suc j) less =
      let here : count_of r < count_of s = counts_rise unit r.time s.time (on_whole unit r on) (on_whole unit s all.0) up.0 in
      let more : count_of s < slice_index (map count_of rs) j = after_first s rs all.0 up.1 all.1 j (omega (arith, less)) in
      let both : count_of r < slice_index (map count_of rs) j = omega (arith, here, more) in both

  all_rise : (before : Option ℕ) (rows : List TableRow) → Rising before rows → AllByRecursion (IsOnCount unit) rows → (i j : ℕ) → i < j → j < length rows → slice_index (map count_of rows) i < slice_index (map count_of rows) j
  all_rise before [] up all i j less inside = absurd (omega (arith, inside))
  all_rise before (r ∷ rs) up all i zero less inside = absurd (omega (arith, less))
  all_rise before (r ∷ rs) up all zero (suc j) less inside = after_first r rs all.0 up.1 all.1 j (omega (arith, inside))
  all_rise before (r ∷ rs) up all (suc i) (suc j) less inside = all_rise (Some r.time) rs up.1 all.1 i j (omega (arith, less)) (omega (arith, inside))

  all_small : (rows : List TableRow) → AllByRecursion (IsOnCount unit) rows → (i : ℕ) → i < length rows → slice_index (map count_of rows) i < 2 ^ 64
  all_small [] all i less = absurd (omega (arith, less))
  all_small (r ∷ rs) all zero less = (let early : count_of r < time_end = on_early unit r all.0 in let g : count_of r < 2 ^ 64 = omega (arith, early) in g)
  all_small (r ∷ rs) all (suc i) less = all_small rs all.1 i (omega (arith, less))

  first_zero : (rows : List TableRow) → Rising None rows → 0 < length rows → slice_index (map count_of rows) 0 ≡ 0
  first_zero [] up some = absurd (omega (arith, some))
  first_zero (r ∷ rs) up some = ap (counts unit) up.0 ∙ counts_zero unit

pub times_rise : TableTimesRise
times_rise tree table form on =
    let up = rising (length table.labels) table.rows form.front.rows in
    let all = all_on tree.resolution 2 table.rows on in
    let long : length (times_of tree table) ≡ length table.rows = length-map table.rows (count_of tree.resolution) in
    record {
      some = (let some = form.some in omega (arith, some, long));
      start = first_zero tree.resolution table.rows up form.some;
      rising = λ i j less inside. all_rise tree.resolution None table.rows up all i j less (omega (arith, inside, long));
      small = λ i inside. all_small tree.resolution table.rows all i (omega (arith, inside, long));
    }
