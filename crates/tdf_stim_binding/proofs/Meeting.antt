-- The last instance that is met is that of the driver, and its ports reach the signals of the columns.
use Rattle.std.proofs.Common.{◌≡◌, ◌∙◌, ℕ, zero, suc, ◌+◌, Bool, true, false, List, [], ◌∷◌, ◌++◌, map, length, Option, Some, None, slice_get, refl, sym, ap, subst, arith}
use Rattle.std.proofs.lemmas.List.{append_assoc, length-append, length-map}
use Rattle.std.proofs.lemmas.List.Concat.{flat_map-append}
use Rattle.std.proofs.lemmas.List.Elements.{filter_map-append}
use Rattle.std.proofs.lemmas.Option.{same_Some, slice_get-map}
use Rattle.std.specs.List.{AllZip, flat_map}
use Rattle.std.specs.Prelude.{filter_map, option_map}
use Rattle.tdf_bind.specs.Flat.{top_place}
use Rattle.tdf_bind_attributes.specs.Roles.{roles_from}
use Rattle.tdf_bind_hierarchy.specs.Blocks.{BlockOf, InstanceOf}
use Rattle.tdf_bind_hierarchy.specs.Met.{Met, MetInstance, MetSignal, PlacedInstance, in_block, inside, met_in, placed, placed_signal, reached_by, with_inside}
use Rattle.tdf_bind_hierarchy.specs.Tables.{IsNumberOf, IsRowOf, IsTable, StandsFor, TablesOf, met_instance, table}
use Rattle.tdf_bind_hierarchy.specs.declared.blocks.SignalLine.{SignalLine}
use Rattle.tdf_bind_hierarchy.specs.declared.tables.Signal.{Signal}
use Rattle.tdf_bind_hierarchy.specs.declared.tables.SignalNumber.{SignalNumber}
use Rattle.tdf_bind_names.specs.Resolved.{AreResolved, leaf}
use Rattle.tdf_bind_names.specs.Signals.{IsSignal}
use Rattle.tdf_bind_ports.specs.Ports.{ports_of_de}
use Rattle.tdf_expr_names.specs.Names.{name_faults}
use Rattle.tdf_expr_symbols.specs.Names.{globals_of}
use Rattle.tdf_lang_tree.specs.Pure.{PureTree}
use Rattle.tdf_stim.specs.Signals.{Column}
use Rattle.tdf_stim_binding.proofs.Binding.{IsSignalAt, signal_of, target_at, targets_long}
use Rattle.tdf_stim_binding.proofs.Resolved.{blocks_are, first_long, instance_by, instances_are, split, the_instance, two}
use Rattle.tdf_stim_binding.proofs.Roles.{behind, just_behind}
use Rattle.tdf_stim_binding.specs.Laws.{DriverIsLast}
use Rattle.tdf_stim_binding.specs.Shape.{IsDrivenTree, IsLastInstance, StandsForPath, driver_de}

-- ---- two lists side by side

record AtEnd {A B : Type 0} (R : A → B → Type 0) (xs : List A) (y : B) : Type 0 where
  others : List A
  last : A
  is : xs ≡ others ++ last ∷ []
  holds : R last y

zip_end : {A B : Type 0} (R : A → B → Type 0) (xs : List A) (ys : List B) (y : B) → AllZip R xs (ys ++ y ∷ []) → AtEnd R xs y
zip_end R [] [] y all = absurd all
zip_end R (x ∷ []) [] y all = record { others = []; last = x; is = refl; holds = all.0 }
zip_end R (x ∷ (z ∷ xs)) [] y all = absurd all.1
zip_end R [] (w ∷ ys) y all = absurd all
zip_end {A} R (x ∷ xs) (w ∷ ys) y all =
    let rest : AtEnd R xs y = zip_end R xs ys y all.1 in
    record { others = x ∷ rest.others; last = rest.last; is = ap (λ (l : List A). x ∷ l) rest.is; holds = rest.holds }

zip_first : {A B : Type 0} (R : A → B → Type 0) (xs : List A) (ys : List B) (k : ℕ) (y : B) → AllZip R xs ys → slice_get ys k ≡ Some y → (x : A) × (slice_get xs k ≡ Some x) × R x y
zip_first R [] [] k y all at = absurd (cc)
zip_first R (x ∷ xs) [] k y all at = absurd all
zip_first R [] (w ∷ ys) k y all at = absurd all
zip_first R (x ∷ xs) (w ∷ ys) zero y all at = (x, refl, subst (R x) (same_Some w y at) all.0)
zip_first R (x ∷ xs) (w ∷ ys) (suc k) y all at = zip_first R xs ys k y all.1 at

zip_second : {A B : Type 0} (R : A → B → Type 0) (xs : List A) (ys : List B) (k : ℕ) (x : A) → AllZip R xs ys → slice_get xs k ≡ Some x → (y : B) × (slice_get ys k ≡ Some y) × R x y
zip_second R [] [] k x all at = absurd (cc)
zip_second R [] (w ∷ ys) k x all at = absurd all
zip_second R (z ∷ xs) [] k x all at = absurd all
zip_second {A} R (z ∷ xs) (w ∷ ys) zero x all at = (w, refl, subst (λ (q : A). R q w) (same_Some z x at) all.0)
zip_second R (z ∷ xs) (w ∷ ys) (suc k) x all at = zip_second R xs ys k x all.1 at

zip_long : {A B : Type 0} (R : A → B → Type 0) (xs : List A) (ys : List B) → AllZip R xs ys → length xs ≡ length ys
zip_long R [] [] all = refl
zip_long R [] (y ∷ ys) all = absurd all
zip_long R (x ∷ xs) [] all = absurd all
zip_long R (x ∷ xs) (y ∷ ys) all = ap suc (zip_long R xs ys all.1)

-- a number that stands for an event signal
stands_event : (tables : TablesOf) (event : Bool) (number : ℕ) (signal : Signal) → event ≡ true → slice_get (table event tables) number ≡ Some signal → slice_get tables.event_signals number ≡ Some signal
stands_event tables true number signal is at = at
stands_event tables false number signal is at = absurd (cc)

module _ (model : PureTree) (columns : List Column) (times : List ℕ) (name : List ℕ) (d : IsDrivenTree model columns times name) (blocks : List BlockOf) (tables : TablesOf) (none : name_faults model ≡ [])
    (long : (j : ℕ) (c : Column) → slice_get columns j ≡ Some c → length c.cells ≡ length times) (are : AreResolved model blocks) (is_table : IsTable (met_in blocks (top_place blocks)) tables) where
  abbrev place : ℕ
  place = length (roles_from (globals_of model.globals) 0 d.globals)

  abbrev first : List BlockOf
  first = (split model columns times name d blocks none are).first

  abbrev top : BlockOf
  top = (two model columns times name d blocks none are).top

  abbrev the_leaf : BlockOf
  the_leaf = leaf (ports_of_de (driver_de d))

  abbrev inst : InstanceOf
  inst = the_instance model columns times name d blocks none are

  blocks_is : blocks ≡ first ++ (the_leaf ∷ (top ∷ []))
  blocks_is = blocks_are model columns times name d blocks none are

  long_first : length first ≡ place
  long_first = first_long model columns times name d blocks none are

  blocks_long : length blocks ≡ suc (suc place)
  blocks_long = ap length blocks_is ∙ (let e = length-append first (the_leaf ∷ (top ∷ [])) in let f = long_first in let g : length (first ++ (the_leaf ∷ (top ∷ []))) ≡ suc (suc place) = omega (arith, e, f) in g)

  leaf_at : slice_get blocks place ≡ Some the_leaf
  leaf_at = ap (λ (l : List BlockOf). slice_get l place) blocks_is ∙ ap (slice_get (first ++ (the_leaf ∷ (top ∷ [])))) (sym long_first) ∙ just_behind first (top ∷ []) the_leaf

  top_at : slice_get blocks (suc place) ≡ Some top
  top_at =
      let f : suc place ≡ length first + 1 = (let e = long_first in omega (arith, e)) in
      ap (λ (l : List BlockOf). slice_get l (suc place)) blocks_is ∙ ap (slice_get (first ++ (the_leaf ∷ (top ∷ [])))) f ∙ behind first (the_leaf ∷ (top ∷ [])) 1

  -- nothing is inside the driver
  nothing_inside : (depth : ℕ) (path : Option (List ℕ)) (outer : List (Option Signal)) → inside blocks (suc depth) place path outer ≡ []
  nothing_inside depth path outer = ap (λ (o : Option BlockOf). in_block (λ inner. inside blocks depth inner) o path outer) leaf_at

  abbrev P : PlacedInstance
  P = placed None top [] inst

  abbrev with_all : InstanceOf → List Met
  with_all i = with_inside (λ inner. inside blocks (suc place) inner) (placed None top [] i)

  abbrev other_instances : List InstanceOf
  other_instances = flat_map (instance_by model columns times name d blocks none are) d.members

  abbrev met_before : List Met
  met_before = map (λ (line : SignalLine). MetSignal (placed_signal None line)) top.signals ++ flat_map with_all other_instances

  met_is : met_in blocks (top_place blocks) ≡ met_before ++ MetInstance P ∷ []
  met_is =
      let f : top_place blocks ≡ suc place = (let e = blocks_long in omega (arith, e)) in
      ap (λ n. inside blocks n (top_place blocks) None []) blocks_long
      ∙ ap (λ b. inside blocks (suc (suc place)) b None []) f
      ∙ ap (λ (o : Option BlockOf). in_block (λ inner. inside blocks (suc place) inner) o None []) top_at
      ∙ ap (λ (l : List InstanceOf). map (λ (line : SignalLine). MetSignal (placed_signal None line)) top.signals ++ flat_map with_all l) (instances_are model columns times name d blocks none are)
      ∙ ap (λ (l : List Met). map (λ (line : SignalLine). MetSignal (placed_signal None line)) top.signals ++ l) (flat_map-append with_all other_instances (inst ∷ [])
      ∙ ap (λ (l : List Met). flat_map with_all other_instances ++ ((MetInstance P ∷ l) ++ [])) (nothing_inside place (Some P.path) P.reached))
      ∙ sym (append_assoc (map (λ (line : SignalLine). MetSignal (placed_signal None line)) top.signals) (flat_map with_all other_instances) (MetInstance P ∷ []))

  instances_met : filter_map met_instance (met_in blocks (top_place blocks)) ≡ filter_map met_instance met_before ++ P ∷ []
  instances_met = ap (filter_map met_instance) met_is ∙ filter_map-append met_instance met_before (MetInstance P ∷ [])

  last : AtEnd (IsRowOf tables) tables.instances P
  last = zip_end (IsRowOf tables) tables.instances (filter_map met_instance met_before) P (subst (λ (l : List PlacedInstance). AllZip (IsRowOf tables) tables.instances l) instances_met is_table.instances)

  -- the signal that port j reaches
  record Reaches (j : ℕ) (c : Column) : Type 0 where
    line : SignalLine
    at : slice_get P.reached j ≡ Some (Some (placed_signal None line))
    event : line.event ≡ true
    label : line.name ≡ c.label

  reaches : (j : ℕ) (c : Column) → slice_get columns j ≡ Some c → Reaches j c
  reaches j c at =
      let s : IsSignalAt [] model.top.members c.label = signal_of model columns times name d none long j c at in
      let found = zip_second (IsSignal (globals_of model.globals)) _ top.signals s.k s.line (two model columns times name d blocks none are).composite.signals s.at in
      let line : SignalLine = found.0 in
      let is : IsSignal (globals_of model.globals) s.line line = found.2 in
      record {
        line = line;
        at = slice_get-map (reached_by None top []) inst.targets j ∙ ap (option_map (reached_by None top [])) (target_at model columns times name d none long j c at)
            ∙ ap (λ (o : Option Signal). Some o) (slice_get-map (placed_signal None) top.signals s.k ∙ ap (option_map (placed_signal None)) found.1);
        event = is.event ∙ s.event;
        label = is.name ∙ s.name;
      }

  row_reaches : (j : ℕ) (c : Column) → slice_get columns j ≡ Some c → (number : SignalNumber) × (slice_get last.last.signals j ≡ Some number) × StandsForPath tables number c.label
  row_reaches j c at =
      let r : Reaches j c = reaches j c at in
      let found = zip_first (StandsFor tables) last.last.signals P.reached j (Some (placed_signal None r.line)) last.holds.signals r.at in
      let stands : IsNumberOf tables found.0 (placed_signal None r.line) = found.2 in (
        found.0,
        found.1,
        record {
          event = stands.kind ∙ r.event;
          signal = placed_signal None r.line;
          at = stands_event tables found.0.event found.0.number (placed_signal None r.line) (stands.kind ∙ r.event) stands.place;
          path_is = r.label;
        },
      )

  is_last : IsLastInstance tables columns place
  is_last = record {
    others = last.others;
    instance = last.last;
    is = last.is;
    block = last.holds.block;
    long = zip_long (StandsFor tables) last.last.signals P.reached last.holds.signals ∙ length-map inst.targets (reached_by None top []) ∙ targets_long model columns times name d none long;
    reaches = row_reaches;
  }

pub driver_is_last : DriverIsLast
driver_is_last model columns times name d blocks tables none long are is_table = is_last model columns times name d blocks tables none long are is_table
