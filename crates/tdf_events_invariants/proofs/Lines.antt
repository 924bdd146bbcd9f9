-- The names of a block of processes: its ports and its events.
use Rattle.std.proofs.Common.{◌≡◌, ◌∙◌, ℕ, zero, suc, ◌+◌, List, [], ◌∷◌, Some, length, map, refl, sym, ap, subst, arith}
use Rattle.std.proofs.lemmas.Option.{same_Some, none-some}
use Rattle.std.specs.List.{flat_map}
use Rattle.std.specs.Prelude.{slice_get}
use Rattle.tdf_expr.specs.Plans.{PortPlace, places_from}
use Rattle.tdf_bind_invariants.proofs.Api.{Differ, Pair, name_in, pair, pairs_plain, thing_in, with_pairs}
use Rattle.tdf_bind_ports.specs.Ports.{port_of_de_line}
use Rattle.tdf_expr_semantics.specs.Places.{events_of, total}
use Rattle.tdf_expr_names.specs.Names.{name_of_store, names_of_de_line}
use Rattle.tdf_bind_attributes.specs.Roles.{event_of}
use Rattle.tdf_expr_symbols.specs.Names.{Names, Thing, Const, Var, Array, Port, Event, de_names, format_of, no_names, with_de_lines, with_name, with_store}
use Rattle.tdf_expr_symbols.specs.Scope.{greatest_of}
use Rattle.tdf_lang_tree.specs.Pure.{PureStore, SConst, SVar, SArray, PureDe, PureDeLine, DPort, DStore, DEvent}
use Rattle.tdf_lang_tree.specs.declared.blocks.PortLine.{PortLine}
use Rattle.tdf_lang_tree.specs.declared.stmt.Limit.TheVariants as limit

-- the lines of a block, each with its name and what that stands for
module _ (globals : Names) where
  abbrev store_thing : PureStore → Thing
  store_thing (SConst line name x v) = Const (format_of globals x) v
  store_thing (SVar line name x v) = Var (format_of globals x) v
  store_thing (SArray line name x n vs) = Array (format_of globals x) n vs

  abbrev line_pair : PureDeLine → Pair
  line_pair (DPort port) = pair port.name (Port port.kind (format_of globals port.format) (limit.Int 1) 0)
  line_pair (DStore store) = pair (name_of_store store) (store_thing store)
  line_pair (DEvent line name) = pair name Event

  store_with : (store : PureStore) (s : Names) → with_store globals store s ≡ with_name (name_of_store store) (store_thing store) s
  store_with (SConst line name x v) s = refl
  store_with (SVar line name x v) s = refl
  store_with (SArray line name x n vs) s = refl

  lines_pairs : (ds : List PureDeLine) (s : Names) → with_de_lines globals ds s ≡ with_pairs (map line_pair ds) s
  unfolding with_de_lines
  lines_pairs [] s = refl
  lines_pairs (DPort port ∷ ds) s = lines_pairs ds (with_name port.name (Port port.kind (format_of globals port.format) (limit.Int 1) 0) s)
  lines_pairs (DStore store ∷ ds) s = lines_pairs ds (with_store globals store s) ∙ ap (with_pairs (map line_pair ds)) (store_with store s)
  lines_pairs (DEvent line name ∷ ds) s = lines_pairs ds (with_name name Event s)

  line_names : (ds : List PureDeLine) → flat_map names_of_de_line ds ≡ map name_in (map line_pair ds)
  line_names [] = refl
  line_names (DPort port ∷ ds) = ap (λ l. port.name ∷ l) (line_names ds)
  line_names (DStore store ∷ ds) = ap (λ l. name_of_store store ∷ l) (line_names ds)
  line_names (DEvent line name ∷ ds) = ap (λ l. name ∷ l) (line_names ds)

  abbrev things_in : List PureDeLine → List Thing
  things_in ds = map thing_in (map line_pair ds)

  things_plain : (block : PureDe) → Differ (flat_map names_of_de_line block.decls) → (de_names globals block).things ≡ things_in block.decls
  things_plain block differ = ap (λ (s : Names). s.things) (lines_pairs block.decls no_names ∙ pairs_plain (map line_pair block.decls) no_names (subst Differ (line_names block.decls) differ))

  events_counted : (ds : List PureDeLine) → total events_of (things_in ds) ≡ length (flat_map event_of ds)
  unfolding total
  events_counted [] = refl
  events_counted (DPort port ∷ ds) = let later = events_counted ds in omega (arith, later)
  events_counted (DStore (SConst a b c d) ∷ ds) = let later = events_counted ds in omega (arith, later)
  events_counted (DStore (SVar a b c d) ∷ ds) = let later = events_counted ds in omega (arith, later)
  events_counted (DStore (SArray a b c d e) ∷ ds) = let later = events_counted ds in omega (arith, later)
  events_counted (DEvent line name ∷ ds) = let later = events_counted ds in omega (arith, later)

  -- each port with one sample, at its place
  abbrev pub places_of : ℕ → List PortLine → List PortPlace
  places_of first [] = []
  places_of first (p ∷ ps) = record { word = p.kind; shape = format_of globals p.format; first = first; count = 1 } ∷ places_of (first + 1) ps

  ports_placed : (own : Names) (first : ℕ) (ds : List PureDeLine) → places_from own first (things_in ds) ≡ places_of first (flat_map port_of_de_line ds)
  unfolding places_from greatest_of
  ports_placed own first [] = refl
  ports_placed own first (DPort port ∷ ds) = ap (λ l. record { word = port.kind; shape = format_of globals port.format; first = first; count = 1 } ∷ l) (ports_placed own (first + 1) ds)
  ports_placed own first (DStore (SConst a b c d) ∷ ds) = ports_placed own first ds
  ports_placed own first (DStore (SVar a b c d) ∷ ds) = ports_placed own first ds
  ports_placed own first (DStore (SArray a b c d e) ∷ ds) = ports_placed own first ds
  ports_placed own first (DEvent line name ∷ ds) = ports_placed own first ds

  pub places_long : (first : ℕ) (ps : List PortLine) → length (places_of first ps) ≡ length ps
  places_long first [] = refl
  places_long first (p ∷ ps) = ap suc (places_long (first + 1) ps)

  pub place_at : (first : ℕ) (ps : List PortLine) (n : ℕ) (place : PortPlace) → slice_get (places_of first ps) n ≡ Some place → (place.first ≡ first + n) × (place.count ≡ 1)
  place_at first [] n place at = absurd (none-some place at)
  place_at first (p ∷ ps) zero place at =
      let same = same_Some (record { word = p.kind; shape = format_of globals p.format; first = first; count = 1 }) place at in
      let here : first ≡ first + 0 = omega arith in
      (ap (λ (q : PortPlace). q.first) (sym same) ∙ here, ap (λ (q : PortPlace). q.count) (sym same))
  place_at first (p ∷ ps) (suc n) place at =
      let later = place_at (first + 1) ps n place at in
      let next : first + 1 + n ≡ first + suc n = omega arith in
      (later.0 ∙ next, later.1)

  -- the line of the port at a place
  pub place_line : (first : ℕ) (ps : List PortLine) (n : ℕ) (place : PortPlace) → slice_get (places_of first ps) n ≡ Some place
      → (l : PortLine) × (slice_get ps n ≡ Some l) × (place.shape ≡ format_of globals l.format)
  place_line first [] n place at = absurd (none-some place at)
  place_line first (p ∷ ps) zero place at =
      (p, refl, ap (λ (q : PortPlace). q.shape) (sym (same_Some (record { word = p.kind; shape = format_of globals p.format; first = first; count = 1 }) place at)))
  place_line first (p ∷ ps) (suc n) place at = place_line (first + 1) ps n place at

-- the events and the ports of a block
pub events_total : (globals : Names) (block : PureDe) → Differ (flat_map names_of_de_line block.decls) → total events_of (de_names globals block).things ≡ length (flat_map event_of block.decls)
events_total globals block differ = ap (total events_of) (things_plain globals block differ) ∙ events_counted globals block.decls

pub ports_total : (globals : Names) (block : PureDe) → Differ (flat_map names_of_de_line block.decls)
    → places_from (de_names globals block) 0 (de_names globals block).things ≡ places_of globals 0 (flat_map port_of_de_line block.decls)
ports_total globals block differ = ap (places_from (de_names globals block) 0) (things_plain globals block differ) ∙ ports_placed globals (de_names globals block) 0 block.decls
