-- The shape of the driven tree.
use Rattle.std.proofs.Common.{◌≡◌, ◌∙◌, ℕ, zero, suc, ◌+◌, nat_eq, if◌then◌else◌, List, [], ◌∷◌, ◌++◌, map, length, Option, Some, None, slice_get, refl, sym, ap, subst, arith}
use Rattle.std.proofs.lemmas.Option.{same_Some}
use Rattle.std.specs.Cmp.Lexicographic.{pointwise}
use Rattle.std.specs.List.{flat_map}
use Rattle.std.specs.Prelude.{option_map}
use Rattle.tdf_lang_printer.specs.Canon.{global_lines}
use Rattle.tdf_lang_tree.specs.Forms.{Form}
use Rattle.tdf_lang_tree.specs.Pure.{GDe, PureTree}
use Rattle.tdf_lang_tree.specs.declared.blocks.Member.{Member}
use Rattle.tdf_lang_tree.specs.declared.blocks.Member.TheVariants as member
use Rattle.tdf_lang_tree.specs.declared.names.Lit.{Lit}
use Rattle.tdf_lang_tree.specs.declared.shapes.FormatRef.{FormatRef}
use Rattle.tdf_lang_tree.specs.declared.shapes.Shape.{Shape}
use Rattle.tdf_stim.specs.Driven.{driven_by, driven_tree, driver_name, times_of, with_driver}
use Rattle.tdf_stim.specs.Driver.{driver_block, driver_members}
use Rattle.tdf_stim.specs.Signals.{Column, SignalOf, SourceOf, column_cells, columns_from, driving, format_shape, signal_named, source_named, source_of, sources_of}
use Rattle.tdf_stim_binding.specs.Laws.{DrivenTreeIs}
use Rattle.tdf_stim_binding.specs.Shape.{IsDrivenTree}
use Rattle.tdf_stim_lines.specs.Numbered.{line_after_head, global_at, lines_at, member_at, numbered, parts_at}
use Rattle.tdf_tables.specs.Tables.{TableOf, TableRow}

-- parts with lines, one more at the end
parts_push : {A : Type 0} (lines : A → List Form) (part_at : ℕ → A → A) (at : ℕ) (xs : List A) (x : A) → (k : ℕ) × (parts_at lines part_at at (xs ++ x ∷ []) ≡ parts_at lines part_at at xs ++ part_at k x ∷ [])
parts_push lines part_at at [] x = (at, refl)
parts_push {A} lines part_at at (y ∷ ys) x = (
    let rest = parts_push lines part_at (at + length (lines y)) ys x in
    (rest.0, ap (λ (l : List A). part_at at y ∷ l) rest.1))

lines_both : {A : Type 0} (part_at : ℕ → A → A) (at : ℕ) (xs ys : List A) → lines_at part_at at (xs ++ ys) ≡ lines_at part_at at xs ++ lines_at part_at (at + length xs) ys
lines_both part_at at [] ys = let f : at ≡ at + 0 = omega arith in ap (λ k. lines_at part_at k ys) f
lines_both {A} part_at at (x ∷ xs) ys =
    let f : at + 1 + length xs ≡ at + suc (length xs) = omega arith in
    ap (λ (l : List A). part_at at x ∷ l) (lines_both part_at (at + 1) xs ys ∙ ap (λ k. lines_at part_at (at + 1) xs ++ lines_at part_at k ys) f)

abbrev as_signal : FormatRef → Lit → SignalOf
as_signal format start = record { format = format; start = start }

-- ---- the signals of the columns

-- a column is that of a source among some
record HasSource (sources : List (Option SourceOf)) (c : Column) : Type 0 where
  k : ℕ
  source : SourceOf
  at : slice_get sources k ≡ Some (Some source)
  label : c.label ≡ source.label

source_later : (o : Option SourceOf) (sources : List (Option SourceOf)) (c : Column) → HasSource sources c → HasSource (o ∷ sources) c
source_later o sources c has = record { k = suc has.k; source = has.source; at = has.at; label = has.label }

column_source : (rows : List TableRow) (place : ℕ) (sources : List (Option SourceOf)) (j : ℕ) (c : Column) → slice_get (columns_from rows place sources) j ≡ Some c → HasSource sources c
unfolding columns_from
column_source rows place [] j c at = absurd (cc)
column_source rows place (None ∷ sources) j c at = source_later None sources c (column_source rows (place + 1) sources j c at)
column_source rows place (Some s ∷ sources) zero c at = record {
  k = 0;
  source = s;
  at = refl;
  label = (let same = same_Some (record { label = s.label; shape = s.shape; start = s.start; cells = column_cells place rows }) c at in ap (λ (x : Column). x.label) (sym same));
}
column_source rows place (Some s ∷ sources) (suc j) c at = source_later (Some s) sources c (column_source rows (place + 1) sources j c at)

-- a source is that of an event signal
source_signal : (shape : FormatRef → Shape) (label : List ℕ) (o : Option SignalOf) (s : SourceOf) → option_map (source_of shape label) o ≡ Some s → (signal : SignalOf) × (o ≡ Some signal) × (s.label ≡ label)
source_signal shape label None s is = absurd (cc)
source_signal shape label (Some signal) s is = (let same = same_Some (source_of shape label signal) s is in (signal, refl, ap (λ (x : SourceOf). x.label) (sym same)))

label_signal : (tree : PureTree) (table : TableOf) (j : ℕ) (c : Column) → slice_get (driving tree table) j ≡ Some c → (signal : SignalOf) × (signal_named tree.top.members c.label ≡ Some signal)
label_signal tree table j c at =
    let has : HasSource (sources_of tree table) c = column_source table.rows 0 (sources_of tree table) j c at in
    let label = label_of table.labels has.k has.source has.at in
    let found = source_signal (format_shape tree.globals) label.0 (signal_named tree.top.members label.0) has.source label.1 in
    (found.0, ap (signal_named tree.top.members) (has.label ∙ found.2) ∙ found.1)
  where
    label_of : (labels : List (List ℕ)) (k : ℕ) (s : SourceOf) → slice_get (map (source_named tree) labels) k ≡ Some (Some s) → (label : List ℕ) × (source_named tree label ≡ Some s)
    label_of [] k s there = absurd (cc)
    label_of (l ∷ ls) zero s there = (l, same_Some (source_named tree l) (Some s) there)
    label_of (l ∷ ls) (suc k) s there = label_of ls k s there

-- the numbers of lines change no signal
named_numbered : (at : ℕ) (members : List Member) (label : List ℕ) → signal_named (lines_at member_at at members) label ≡ signal_named members label
named_numbered at [] label = refl
named_numbered at (member.Port port ∷ ms) label = named_numbered (at + 1) ms label
named_numbered at (member.Signal line name format ∷ ms) label = named_numbered (at + 1) ms label
named_numbered at (member.DeSignal line name format start ∷ ms) label = ap (λ (o : Option SignalOf). if pointwise nat_eq name label then Some (as_signal format start) else o) (named_numbered (at + 1) ms label)
named_numbered at (member.Instance line name block ∷ ms) label = named_numbered (at + 1) ms label
named_numbered at (member.Bind line instance port target ∷ ms) label = named_numbered (at + 1) ms label

numbered_is : (tree : PureTree) (columns : List Column) (times : List ℕ) → ((j : ℕ) (c : Column) → slice_get columns j ≡ Some c → (signal : SignalOf) × (signal_named tree.top.members c.label ≡ Some signal))
    → IsDrivenTree (numbered (with_driver tree columns times)) columns times (driver_name tree)
unfolding numbered
numbered_is tree columns times named =
    let globals = parts_push global_lines global_at (line_after_head tree.version) tree.globals (GDe (driver_block (driver_name tree) columns times)) in
    let at : ℕ = line_after_head tree.version + length (flat_map global_lines (tree.globals ++ GDe (driver_block (driver_name tree) columns times) ∷ [])) + 1 in
    record {
      globals = parts_at global_lines global_at (line_after_head tree.version) tree.globals;
      line = globals.0;
      globals_are = globals.1;
      members = lines_at member_at at tree.top.members;
      first = at + length tree.top.members;
      members_are = lines_both member_at at tree.top.members (driver_members (driver_name tree) columns);
      signals = λ j c there. (let found = named j c there in (found.0, named_numbered at tree.top.members c.label ∙ found.1));
    }

pub driven_tree_is : DrivenTreeIs
unfolding driven_tree
driven_tree_is tree table c cs is =
    subst (λ (columns : List Column). IsDrivenTree (driven_by tree columns (times_of tree table)) (c ∷ cs) (times_of tree table) (driver_name tree)) (sym is)
    (numbered_is tree (c ∷ cs) (times_of tree table) (λ j k there. label_signal tree table j k (ap (λ (l : List Column). slice_get l j) is ∙ there)))
