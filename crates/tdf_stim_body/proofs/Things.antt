-- All things of a driver's block, in order.
use Rattle.std.proofs.Common.{◌≡◌, ◌∙◌, ℕ, zero, suc, ◌+◌, ◌-◌, List, [], ◌∷◌, ◌++◌, map, replicate, length, refl, ap}
use Rattle.std.specs.List.{range_with_len}
use Rattle.tdf_expr_names.specs.Names.{de_lines_faults}
use Rattle.tdf_expr_symbols.specs.Names.{Event, Names, Thing, de_names, no_names}
use Rattle.tdf_lang_tree.specs.Pure.{PureDeLine}
use Rattle.tdf_stim.specs.Driver.{columns_lines, count_line, driver_block, event_line, event_numbers}
use Rattle.tdf_stim.specs.Signals.{Column}
use Rattle.tdf_stim_body.proofs.Naming.{all_fresh, all_names, line_thing}
use Rattle.tdf_stim_body.specs.Names.{array_thing, count_thing, port_thing}
use Rattle.tdf_stim_lines.specs.Numbered.{de_at, de_line_at, lines_at}

abbrev pub columns_things : List Column → List Thing
columns_things [] = []
columns_things (c ∷ cs) = port_thing c ∷ (array_thing c ∷ columns_things cs)

abbrev pub tail_things : ℕ → List Thing
tail_things events = count_thing ∷ replicate events Event

events_are : (globals : Names) (at first n : ℕ) → map (line_thing globals) (lines_at de_line_at at (map event_line (range_with_len first n))) ≡ replicate n Event
events_are globals at first zero = refl
events_are globals at first (suc n) = ap (λ (l : List Thing). Event ∷ l) (events_are globals (at + 1) (first + 1) n)

lines_are : (globals : Names) (at a rows : ℕ) (columns : List Column)
    → map (line_thing globals) (lines_at de_line_at at (columns_lines a columns ++ (count_line ∷ map event_line (event_numbers rows)))) ≡ columns_things columns ++ tail_things (rows - 1)
unfolding columns_lines
lines_are globals at a rows [] = ap (λ (l : List Thing). count_thing ∷ l) (events_are globals (at + 1) 1 (rows - 1))
lines_are globals at a rows (c ∷ cs) = ap (λ (l : List Thing). port_thing c ∷ (array_thing c ∷ l)) (lines_are globals (at + 1 + 1) (a + 1) rows cs)

pub things_are : (globals : Names) (names : List (List ℕ)) (name : List ℕ) (columns : List Column) (times : List ℕ) (at : ℕ)
    → de_lines_faults names [] (de_at at (driver_block name columns times)).decls ≡ [] → (de_names globals (de_at at (driver_block name columns times))).things ≡ columns_things columns ++ tail_things (length times - 1)
things_are globals names name columns times at none =
    let decls : List PureDeLine = (de_at at (driver_block name columns times)).decls in
    ap (λ (s : Names). s.things) (all_names globals decls no_names (all_fresh names [] decls none)) ∙ lines_are globals (at + 1) 0 (length times) columns
