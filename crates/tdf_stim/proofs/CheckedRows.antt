-- Rows that are looked at one after the other.
use Rattle.std.proofs.Common.{◌≡◌, ◌∙◌, ℕ, zero, suc, ◌+◌, ◌*◌, ◌<◌, ◌≤◌, Bool, true, false, cond, ◌&&◌, ◌||◌, List, [], ◌∷◌, ◌++◌, Option, Some, None, map, length, take, drop, get_or, refl, sym, ap, arith}
use Rattle.std.proofs.lemmas.List.{drop_all, drop_more, map_more, map_push}
use Rattle.std.specs.Prelude.{if◌then◌else◌, is_some}
use Rattle.tdf_base.specs.declared.resolution.Resolution.{Resolution}
use Rattle.tdf_stim.proofs.ColumnLists.{count_push_none, count_push_some}
use Rattle.tdf_stim.specs.Drivable.{has_long, is_long, line_from}
use Rattle.tdf_stim.specs.Driver.{counts}
use Rattle.tdf_stim.specs.declared.signals.Source.{Source}
use Rattle.tdf_stim.specs.machine.Counted.{count_driving}
use Rattle.tdf_stim.specs.machine.Maps.{seen, seen_source}
use Rattle.tdf_tables.specs.Rows.{row_of}
use Rattle.tdf_tables.specs.Tables.{TableRow}
use Rattle.tdf_tables.specs.declared.table.Row.{Row}

-- the first line of the rows that are left, one row further
line_step : (has : TableRow → Bool) (line i : ℕ) (rows : List Row) (d : Row) → i < length rows
    → line_from (i + line) has (map row_of (drop i rows)) ≡ (if has (row_of (get_or rows i d)) then Some (i + line) else line_from (i + 1 + line) has (map row_of (drop (i + 1) rows)))
unfolding line_from
line_step has line i rows d within =
    let next : i + line + 1 ≡ i + 1 + line = omega arith in
    ap (λ rs. line_from (i + line) has (map row_of rs)) (drop_more rows i d within)
    ∙ ap (λ k. if has (row_of (get_or rows i d)) then Some (i + line) else line_from k has (map row_of (drop (i + 1) rows))) next

pub line_passed : (has : TableRow → Bool) (i : ℕ) (rows : List Row) (d : Row) (found : Option ℕ) → i < length rows → has (row_of (get_or rows i d)) ≡ false
    → line_from (i + 2) has (map row_of (drop i rows)) ≡ found → line_from (i + 1 + 2) has (map row_of (drop (i + 1) rows)) ≡ found
line_passed has i rows d found within not_so h =
    sym (line_step has 2 i rows d within ∙ ap (λ b. if b then Some (i + 2) else line_from (i + 1 + 2) has (map row_of (drop (i + 1) rows))) not_so) ∙ h

pub line_found : (has : TableRow → Bool) (i : ℕ) (rows : List Row) (d : Row) (found : Option ℕ) → i < length rows → has (row_of (get_or rows i d)) ≡ true
    → line_from (i + 2) has (map row_of (drop i rows)) ≡ found → found ≡ Some (i + 2)
line_found has i rows d found within so h =
    sym h ∙ line_step has 2 i rows d within ∙ ap (λ b. if b then Some (i + 2) else line_from (i + 1 + 2) has (map row_of (drop (i + 1) rows))) so

pub line_end : (has : TableRow → Bool) (i : ℕ) (rows : List Row) (found : Option ℕ) → length rows ≤ i → line_from (i + 2) has (map row_of (drop i rows)) ≡ found → found ≡ None
unfolding line_from
line_end has i rows found past h = sym h ∙ ap (λ rs. line_from (i + 2) has (map row_of rs)) (drop_all i rows past)

-- one column more is counted
pub count_more : (sources : List (Option Source)) (i n : ℕ) (s : Option Source) → i < length sources → s ≡ get_or sources i s → n ≡ count_driving (map seen (take i sources))
    → n + cond (is_some s) 1 0 ≡ count_driving (map seen (take (i + 1) sources))
count_more sources i n s within here is =
    by s (map_more seen sources i s within ∙ ap (λ x. map seen (take i sources) ++ seen x ∷ []) (sym here))
  where
    by : (x : Option Source) → map seen (take (i + 1) sources) ≡ map seen (take i sources) ++ seen x ∷ [] → n + cond (is_some x) 1 0 ≡ count_driving (map seen (take (i + 1) sources))
    by None e = omega (arith, is, ap count_driving e, count_push_none (map seen (take i sources)))
    by (Some x) e = omega (arith, is, ap count_driving e, count_push_some (map seen (take i sources)) (seen_source x))

-- a cell more is looked at
pub long_step : (sources : List (Option Source)) (i : ℕ) (s : Option Source) (cell : List ℕ) (cells : List (List ℕ)) → i < length sources → s ≡ get_or sources i s
    → has_long (map seen (drop i sources)) (cell ∷ cells) ≡ ((is_some s && is_long cell) || has_long (map seen (drop (i + 1) sources)) cells)
unfolding has_long
long_step sources i s cell cells within here =
    ap (λ xs. has_long (map seen xs) (cell ∷ cells)) (drop_more sources i s within ∙ ap (λ x. x ∷ drop (i + 1) sources) (sym here))
    ∙ ap (λ b. (b && is_long cell) || has_long (map seen (drop (i + 1) sources)) cells) (by s)
  where
    by : (x : Option Source) → is_some (seen x) ≡ is_some x
    by None = refl
    by (Some x) = refl

pub long_none : (sources : List (Option Source)) → has_long (map seen sources) [] ≡ false
unfolding has_long
long_none [] = refl
long_none (s ∷ sources) = refl

pub long_end : (sources : List (Option Source)) (i : ℕ) (cells : List (List ℕ)) → length sources ≤ i → has_long (map seen (drop i sources)) cells ≡ false
unfolding has_long
long_end sources i cells past = ap (λ xs. has_long (map seen xs) cells) (drop_all i sources past)

-- a time more
pub times_push : (unit : Resolution) (rows : List Row) (i : ℕ) (row : Row) → i < length rows
    → map (λ row. counts unit row.time) (map row_of (take (i + 1) rows)) ≡ map (λ row. counts unit row.time) (map row_of (take i rows)) ++ counts unit (get_or rows i row).time ∷ []
times_push unit rows i row within =
    ap (map (λ (r : TableRow). counts unit r.time)) (map_more row_of rows i row within) ∙ map_push (λ (r : TableRow). counts unit r.time) (map row_of (take i rows)) (row_of (get_or rows i row))

-- so many times something is that at least
pub product_above : (r m : ℕ) → 0 < r → m ≤ r * m
product_above zero m some = absurd (omega arith)
product_above (suc r) m some = omega arith
