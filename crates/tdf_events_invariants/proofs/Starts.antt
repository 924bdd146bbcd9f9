-- Each signal of a flat model starts with a value of its format.
use Rattle.std.proofs.Common.{◌≡◌, ℕ, zero, suc, ◌+◌, ◌-◌, Bool, true, false, cond, List, [], ◌∷◌, ◌++◌, Option, Some, None, length, map, refl, sym, subst, arith}
use Rattle.std.proofs.lemmas.Int.{ints}
use Rattle.std.proofs.lemmas.List.Elements.{All-from_recursion}
use Rattle.std.proofs.lemmas.Option.{same_Some, none-some}
use Rattle.std.specs.List.{AllByRecursion, AllZip, enumerate_from, flat_map}
use Rattle.std.specs.Prelude.{All, Ok, Err, filter, filter_map, if◌then◌else◌, pos, slice_get}
use Rattle.tdf_base.specs.Number.{is_short}
use Rattle.tdf_expr.specs.Frames.{IsOfFormat}
use Rattle.tdf_fixed.proofs.Api.{in_range}
use Rattle.tdf_fixed.specs.Cast.{fraction_of}
use Rattle.tdf_fixed.specs.Literal.{Literal, decimal_of, decimal_with, literal_cast, literal_of}
use Rattle.tdf_fixed.specs.Overflow.{IsOfWidth}
use Rattle.tdf_fixed.specs.declared.format.Format.{Format}
use Rattle.tdf_fixed.specs.declared.literals.DecimalErr.TheVariants.{TooManyDigits}
use Rattle.tdf_bind_ports.specs.Ports.{Known, no_blocks, ports_of_composite, ports_of_de, ports_of_tdf, with_block}
use Rattle.tdf_bind_names.specs.Resolved.{AreBlocks, whole}
use Rattle.tdf_bind_names.specs.Signals.{Declared, IsSignal, or_zero, start_sample, literal_text, zero_of}
use Rattle.tdf_bind_attributes.specs.Roles.{roles_of}
use Rattle.tdf_events_invariants.specs.Runnable.{SignalsStartInFormat, StartsInFormat}
use Rattle.tdf_expr_symbols.specs.Names.{Names, globals_of}
use Rattle.tdf_lang_tree.specs.Pure.{PureGlobal, GShape, GTdf, GDe, GNet}
use Rattle.tdf_lang_tree.specs.declared.names.Lit.{Lit}
use Rattle.tdf_bind_hierarchy.specs.Blocks.{BlockOf, InstanceOf}
use Rattle.tdf_bind_hierarchy.specs.Met.{Met, MetSignal, MetInstance, InsideOf, in_block, inside, met_in, placed, placed_signal, with_inside}
use Rattle.tdf_bind_hierarchy.specs.Tables.{TablesOf, is_of, met_signal}
use Rattle.tdf_bind_hierarchy.specs.declared.blocks.SignalLine.{SignalLine}
use Rattle.tdf_bind_hierarchy.specs.declared.tables.Signal.{Signal}
use Rattle.tdf_bind_connections.specs.Drivers.{signal_row, signal_rows, writers_in}
use Rattle.tdf_bind_connections.specs.declared.drivers.SignalRow.{SignalRow}
use Rattle.tdf_bind_connections.specs.declared.writers.Writer.{Writer}

-- the first value of a line
zero_in : (signed : Bool) (wl : ℕ) → IsOfWidth signed wl (pos 0)
zero_in true wl = record { low = omega (arith, ints); high = omega (arith, ints) }
zero_in false wl = record { low = omega (arith, ints); high = omega (arith, ints) }

zero_fits : (f : Format) → IsOfFormat f (zero_of f)
zero_fits f = record { frac = refl; num = zero_in f.signed f.wl }

literal_fits : (f : Format) (l : Literal) → IsOfWidth f.signed f.wl (literal_cast f l)
unfolding literal_cast
literal_fits f l = in_range f.over f.signed f.wl _ f.some_bits

decimal_fits : (f : Format) (text : List ℕ) → IsOfFormat f (or_zero f (decimal_of f text))
unfolding decimal_of
decimal_fits f text = go (literal_of text)
  where
    short : (l : Literal) (b : Bool) → IsOfFormat f (or_zero f (if b then Ok (record { num = literal_cast f l; frac = fraction_of f }) else Err TooManyDigits))
    short l true = record { frac = refl; num = literal_fits f l }
    short l false = zero_fits f

    go : (o : Option Literal) → IsOfFormat f (or_zero f (decimal_with f o))
    go None = zero_fits f
    go (Some l) = short l (is_short l.numeral)

start_fits : (f : Format) (start : Option Lit) → IsOfFormat f (start_sample f start)
start_fits f None = zero_fits f
start_fits f (Some v) = decimal_fits f (literal_text v)

abbrev IsFitLine : SignalLine → Type 0
IsFitLine line = IsOfFormat line.format line.start

lines_fit : (globals : Names) (ds : List Declared) (lines : List SignalLine) → AllZip (IsSignal globals) ds lines → AllByRecursion IsFitLine lines
lines_fit globals [] [] all = tt
lines_fit globals (d ∷ ds) (s ∷ lines) all = (subst (IsOfFormat s.format) (sym all.0.start) (start_fits s.format d.start), lines_fit globals ds lines all.1)
lines_fit globals [] (s ∷ lines) all = absurd all
lines_fit globals (d ∷ ds) [] all = absurd all

abbrev IsFitBlock : BlockOf → Type 0
IsFitBlock b = AllByRecursion IsFitLine b.signals

blocks_fit : (globals : Names) (known : Known) (gs : List PureGlobal) (bs : List BlockOf) → AreBlocks globals known gs bs → AllByRecursion IsFitBlock bs
blocks_fit globals known [] bs are = subst (AllByRecursion IsFitBlock) (sym are) tt
blocks_fit globals known (GShape t ∷ gs) bs are = blocks_fit globals known gs bs are
blocks_fit globals known (GTdf block ∷ gs) [] are = absurd are
blocks_fit globals known (GTdf block ∷ gs) (b ∷ bs) are = (subst IsFitBlock (sym are.0) tt, blocks_fit globals (with_block block.name (ports_of_tdf block) known) gs bs are.1)
blocks_fit globals known (GDe block ∷ gs) [] are = absurd are
blocks_fit globals known (GDe block ∷ gs) (b ∷ bs) are = (subst IsFitBlock (sym are.0) tt, blocks_fit globals (with_block block.name (ports_of_de block) known) gs bs are.1)
blocks_fit globals known (GNet block ∷ gs) [] are = absurd are
blocks_fit globals known (GNet block ∷ gs) (b ∷ bs) are =
    (lines_fit globals _ b.signals are.0.signals, blocks_fit globals (with_block block.name (ports_of_composite block) known) gs bs are.1)

-- the signals that are met
abbrev IsFitSignal : Signal → Type 0
IsFitSignal s = IsOfFormat s.format s.start

abbrev AreFit : List Met → Type 0
AreFit ms = AllByRecursion IsFitSignal (filter_map met_signal ms)

fit_then : (ms ns : List Met) → AreFit ms → AreFit ns → AreFit (ms ++ ns)
fit_then [] ns h k = k
fit_then (MetSignal s ∷ ms) ns h k = (h.0, fit_then ms ns h.1 k)
fit_then (MetInstance i ∷ ms) ns h k = fit_then ms ns h k

fit_signals : (path : Option (List ℕ)) (lines : List SignalLine) → AllByRecursion IsFitLine lines → AreFit (map (λ line. MetSignal (placed_signal path line)) lines)
fit_signals path [] all = tt
fit_signals path (line ∷ lines) all = (all.0, fit_signals path lines all.1)

record Fit (within : InsideOf) : Type 0 where
  at : (block : ℕ) (path : Option (List ℕ)) (outer : List (Option Signal)) → AreFit (within block path outer)

fit_instances : (within : InsideOf) → Fit within → (path : Option (List ℕ)) (b : BlockOf) (outer : List (Option Signal)) (is : List InstanceOf) → AreFit (flat_map (λ i. with_inside within (placed path b outer i)) is)
fit_instances within fit path b outer [] = tt
fit_instances within fit path b outer (i ∷ is) =
    let p = placed path b outer i in
    fit_then (with_inside within p) (flat_map (λ i. with_inside within (placed path b outer i)) is) (fit.at i.block (Some p.path) p.reached) (fit_instances within fit path b outer is)

fit_block : (within : InsideOf) → Fit within → (o : Option BlockOf) → ((b : BlockOf) → o ≡ Some b → IsFitBlock b) → (path : Option (List ℕ)) (outer : List (Option Signal)) → AreFit (in_block within o path outer)
fit_block within fit None each path outer = tt
fit_block within fit (Some b) each path outer =
    fit_then (map (λ line. MetSignal (placed_signal path line)) b.signals) (flat_map (λ i. with_inside within (placed path b outer i)) b.instances)
    (fit_signals path b.signals (each b refl)) (fit_instances within fit path b outer b.instances)

item_at : {A : Type 0} (P : A → Type 0) (xs : List A) → AllByRecursion P xs → (n : ℕ) (x : A) → slice_get xs n ≡ Some x → P x
item_at P [] all n x at = absurd (none-some x at)
item_at P (y ∷ ys) all zero x at = subst P (same_Some y x at) all.0
item_at P (y ∷ ys) all (suc n) x at = item_at P ys all.1 n x at

fit_inside : (blocks : List BlockOf) → AllByRecursion IsFitBlock blocks → (depth : ℕ) → Fit (inside blocks depth)
fit_inside blocks all zero = record { at = λ block path outer. tt }
fit_inside blocks all (suc depth) = record {
  at = λ block path outer. fit_block (inside blocks depth) (fit_inside blocks all depth) (slice_get blocks block) (λ b at. item_at IsFitBlock blocks all block b at) path outer;
}

-- those of one kind, and their rows
all_filtered : {A : Type 0} (P : A → Type 0) (p : A → Bool) (xs : List A) → AllByRecursion P xs → AllByRecursion P (filter p xs)
all_filtered P p [] all = tt
all_filtered P p (x ∷ xs) all = go (p x) (all_filtered P p xs all.1)
  where
    go : (b : Bool) → AllByRecursion P (filter p xs) → AllByRecursion P (cond b (x ∷ filter p xs) (filter p xs))
    go true later = (all.0, later)
    go false later = later

rows_fit : (writers : List Writer) (from : ℕ) (signals : List Signal) → AllByRecursion IsFitSignal signals → AllByRecursion StartsInFormat (map (λ signal. signal_row writers signal.0 signal.1) (enumerate_from from signals))
rows_fit writers from [] all = tt
rows_fit writers from (s ∷ signals) all = (all.0, rows_fit writers (from + 1) signals all.1)

pub signals_start_in_format : SignalsStartInFormat
signals_start_in_format model flat is = record {
  signals = rows false flat.tables.signals t.signals (writers_in (roles_of model) t flat.tables.ports false) is.tables.follows.signals.signals is.tables.met.signals;
  de_signals = rows true flat.tables.de_signals t.event_signals (writers_in (roles_of model) t flat.tables.ports true) is.tables.follows.signals.de_signals is.tables.met.event_signals;
}
  where
    t : TablesOf
    t = is.tables.tables

    met : List Met
    met = met_in is.blocks (length is.blocks - 1)

    fit : AreFit (met_in is.blocks (length is.blocks - 1))
    fit = (fit_inside is.blocks (blocks_fit (globals_of model.globals) no_blocks (whole model) is.blocks is.linked.resolved) (length is.blocks)).at (length is.blocks - 1) None []

    rows : (event : Bool) (rows : List SignalRow) (signals : List Signal) (writers : List Writer) → rows ≡ signal_rows writers signals → signals ≡ filter (is_of event) (filter_map met_signal met) → All StartsInFormat rows
    rows event l signals writers are same = All-from_recursion StartsInFormat l (subst (AllByRecursion StartsInFormat) (sym are)
        (rows_fit writers 0 signals (subst (AllByRecursion IsFitSignal) (sym same) (all_filtered IsFitSignal (is_of event) (filter_map met_signal met) fit))))
