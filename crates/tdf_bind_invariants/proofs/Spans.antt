-- The places of the ports of a module's block, by the lines that declare them.
use Rattle.std.proofs.Common.{◌≡◌, ◌∙◌, ℕ, zero, suc, ◌+◌, ◌*◌, ◌≤◌, List, [], ◌∷◌, Option, Some, None, map, refl, sym, ap, subst, arith}
use Rattle.std.proofs.Math.Nat.{mul-le-mul_left}
use Rattle.std.proofs.lemmas.Option.{same_Some, none-some}
use Rattle.std.specs.List.{flat_map}
use Rattle.std.specs.Prelude.{slice_get, slice_index, slice_set}
use Rattle.tdf_expr.specs.Plans.{PortPlace, places_from}
use Rattle.tdf_bind_invariants.proofs.Spaces.{Differ, Pair, name_in, pair, pairs_plain, place_is, thing_in, with_pairs}
use Rattle.tdf_bind_invariants.specs.Limits.{times_value}
use Rattle.tdf_bind_ports.specs.Ports.{port_of_tdf_line, ports_of_tdf}
use Rattle.tdf_expr_semantics.proofs.Api.{found, limits_placed}
use Rattle.tdf_expr_semantics.specs.Fits.{RatesFit}
use Rattle.tdf_expr_semantics.specs.Places.{rate_limits, rate_number}
use Rattle.tdf_expr_names.specs.Names.{names_of_tdf_line, name_of_store}
use Rattle.tdf_bind.specs.Below.{rate_of_limit, variable_at, variable_of}
use Rattle.tdf_expr_symbols.specs.Names.{Names, Thing, Const, Var, Array, Port, RateVar, Event, Signal, DeSignal, Instance, Loop, TypeName, Tdf, De, Composite, at_delay, found_at, at_rate, names_changed, changed_at, format_of, no_names, place_of, tdf_names, thing_of, with_attr, with_attrs, with_name, with_store, with_tdf_lines}
use Rattle.tdf_expr_symbols.specs.Scope.{greatest_of, greatest_rate_of}
use Rattle.tdf_lang_tree.specs.Pure.{PureStore, SConst, SVar, SArray, PureTdf, PureTdfLine, TPort, TStore, TRate}
use Rattle.tdf_lang_tree.specs.declared.blocks.Attr.{Attr}
use Rattle.tdf_lang_tree.specs.declared.blocks.Attr.TheVariants as attr
use Rattle.tdf_lang_tree.specs.declared.blocks.PortKind.{PortKind}
use Rattle.tdf_lang_tree.specs.declared.blocks.PortLine.{PortLine}
use Rattle.tdf_lang_tree.specs.declared.shapes.Shape.{Shape}
use Rattle.tdf_lang_tree.specs.declared.stmt.Limit.{Limit}
use Rattle.tdf_lang_tree.specs.declared.stmt.Limit.TheVariants as limit

-- what stays of a port whatever its attributes are
record Kept : Type 0 where
  word : PortKind
  shape : Option Shape

abbrev kept_of : Thing → Option Kept
kept_of (Port word shape rate delay) = Some (record { word = word; shape = shape })
kept_of _ = None

map_set : {A B : Type 0} (f : A → B) (xs : List A) (n : ℕ) (x y : A) → slice_get xs n ≡ Some x → f y ≡ f x → map f (slice_set xs n y) ≡ map f xs
map_set f [] n x y at same = absurd (none-some x at)
map_set f (z ∷ xs) zero x y at same = ap (λ b. b ∷ map f xs) (same ∙ sym (ap f (same_Some z x at)))
map_set f (z ∷ xs) (suc n) x y at same = ap (λ l. f z ∷ l) (map_set f xs n x y at same)

changed_keeps : (f : Thing → Thing) → ((t : Thing) → kept_of (f t) ≡ kept_of t) → (name : List ℕ) (s : Names) → map kept_of (names_changed f name s).things ≡ map kept_of s.things
unfolding names_changed
changed_keeps f keeps name s = go (place_of s name) refl (thing_of s name) refl
  where
    go : (o : Option ℕ) → place_of s name ≡ o → (t : Option Thing) → thing_of s name ≡ t → map kept_of (changed_at f s.things o t) ≡ map kept_of s.things
    go None at t is = refl
    go (Some n) at None is = refl
    go (Some n) at (Some thing) is = map_set kept_of s.things n thing (f thing) (ap (found_at s.things) (sym at) ∙ is) (keeps thing)

changed_names : (f : Thing → Thing) (name : List ℕ) (s : Names) → (names_changed f name s).names ≡ s.names
unfolding names_changed
changed_names f name s = refl

rate_keeps : (rate : Limit) (t : Thing) → kept_of (at_rate rate t) ≡ kept_of t
rate_keeps rate (Port word shape old delay) = refl
rate_keeps rate (Const a b) = refl
rate_keeps rate (Var a b) = refl
rate_keeps rate (Array a b c) = refl
rate_keeps rate (RateVar a b c) = refl
rate_keeps rate Event = refl
rate_keeps rate (Signal a) = refl
rate_keeps rate (DeSignal a b) = refl
rate_keeps rate Instance = refl
rate_keeps rate (Loop a b) = refl
rate_keeps rate (TypeName a) = refl
rate_keeps rate Tdf = refl
rate_keeps rate De = refl
rate_keeps rate Composite = refl

delay_keeps : (delay : ℕ) (t : Thing) → kept_of (at_delay delay t) ≡ kept_of t
delay_keeps delay (Port word shape rate old) = refl
delay_keeps delay (Const a b) = refl
delay_keeps delay (Var a b) = refl
delay_keeps delay (Array a b c) = refl
delay_keeps delay (RateVar a b c) = refl
delay_keeps delay Event = refl
delay_keeps delay (Signal a) = refl
delay_keeps delay (DeSignal a b) = refl
delay_keeps delay Instance = refl
delay_keeps delay (Loop a b) = refl
delay_keeps delay (TypeName a) = refl
delay_keeps delay Tdf = refl
delay_keeps delay De = refl
delay_keeps delay Composite = refl

attr_keeps : (a : Attr) (s : Names) → (map kept_of (with_attr a s).things ≡ map kept_of s.things) × ((with_attr a s).names ≡ s.names)
attr_keeps (attr.Rate line port rate) s = (changed_keeps (at_rate rate) (rate_keeps rate) port s, changed_names (at_rate rate) port s)
attr_keeps (attr.Delay line port count) s = (changed_keeps (at_delay count) (delay_keeps count) port s, changed_names (at_delay count) port s)
attr_keeps (attr.Step line port step) s = (refl, refl)
attr_keeps (attr.Does line) s = (refl, refl)
attr_keeps (attr.Accept line) s = (refl, refl)
attr_keeps (attr.Reject line) s = (refl, refl)

attrs_keep : (as' : List Attr) (s : Names) → (map kept_of (with_attrs as' s).things ≡ map kept_of s.things) × ((with_attrs as' s).names ≡ s.names)
unfolding with_attrs
attrs_keep [] s = (refl, refl)
attrs_keep (a ∷ as') s = let one = attr_keeps a s in let more = attrs_keep as' (with_attr a s) in (more.0 ∙ one.0, more.1 ∙ one.1)

-- the lines of a block, each with its name and what that stands for
module _ (globals : Names) where
  abbrev store_thing : PureStore → Thing
  store_thing (SConst line name x v) = Const (format_of globals x) v
  store_thing (SVar line name x v) = Var (format_of globals x) v
  store_thing (SArray line name x n vs) = Array (format_of globals x) n vs

  abbrev line_pair : PureTdfLine → Pair
  line_pair (TPort port) = pair port.name (Port port.kind (format_of globals port.format) (limit.Int 1) 0)
  line_pair (TStore store) = pair (name_of_store store) (store_thing store)
  line_pair (TRate line name least greatest start) = pair name (RateVar least greatest start)

  store_with : (store : PureStore) (s : Names) → with_store globals store s ≡ with_name (name_of_store store) (store_thing store) s
  store_with (SConst line name x v) s = refl
  store_with (SVar line name x v) s = refl
  store_with (SArray line name x n vs) s = refl

  lines_pairs : (ds : List PureTdfLine) (s : Names) → with_tdf_lines globals ds s ≡ with_pairs (map line_pair ds) s
  unfolding with_tdf_lines
  lines_pairs [] s = refl
  lines_pairs (TPort port ∷ ds) s = lines_pairs ds (with_name port.name (Port port.kind (format_of globals port.format) (limit.Int 1) 0) s)
  lines_pairs (TStore store ∷ ds) s = lines_pairs ds (with_store globals store s) ∙ ap (with_pairs (map line_pair ds)) (store_with store s)
  lines_pairs (TRate line name least greatest start ∷ ds) s = lines_pairs ds (with_name name (RateVar least greatest start) s)

  pub line_names : (ds : List PureTdfLine) → flat_map names_of_tdf_line ds ≡ map name_in (map line_pair ds)
  line_names [] = refl
  line_names (TPort port ∷ ds) = ap (λ l. port.name ∷ l) (line_names ds)
  line_names (TStore store ∷ ds) = ap (λ l. name_of_store store ∷ l) (line_names ds)
  line_names (TRate line name least greatest start ∷ ds) = ap (λ l. name ∷ l) (line_names ds)

  -- the names and the things of a block
  names_plain : (block : PureTdf) → Differ (map name_in (map line_pair block.decls))
      → ((tdf_names globals block).names ≡ map name_in (map line_pair block.decls)) × (map kept_of (tdf_names globals block).things ≡ map kept_of (map thing_in (map line_pair block.decls)))
  names_plain block differ =
      let base = with_tdf_lines globals block.decls no_names in
      let plain : base ≡ record { names = map name_in (map line_pair block.decls); things = map thing_in (map line_pair block.decls) } =
      lines_pairs block.decls no_names ∙ pairs_plain (map line_pair block.decls) no_names differ in
      let kept = attrs_keep block.attrs base in
      (kept.1 ∙ ap (λ (s : Names). s.names) plain, kept.0 ∙ ap (λ (s : Names). map kept_of s.things) plain)

-- the place of a port
pub record IsPortPlace (globals own : Names) (places : List PortPlace) (n : ℕ) (line : PortLine) : Type 0 where
  pub place : PortPlace
  pub there : slice_get places n ≡ Some place
  pub rate : Limit
  pub delay : ℕ
  pub thing : thing_of own line.name ≡ Some (Port line.kind (format_of globals line.format) rate delay)
  pub word : place.word ≡ line.kind
  pub shape : place.shape ≡ format_of globals line.format
  pub count : place.count ≡ greatest_of own rate

-- before the name is looked up
record IsAt (globals own : Names) (places : List PortPlace) (names : List (List ℕ)) (things : List Thing) (n : ℕ) (line : PortLine) : Type 0 where
  place : PortPlace
  there : slice_get places n ≡ Some place
  rate : Limit
  delay : ℕ
  at : ℕ
  name : slice_get names at ≡ Some line.name
  thing : slice_get things at ≡ Some (Port line.kind (format_of globals line.format) rate delay)
  word : place.word ≡ line.kind
  shape : place.shape ≡ format_of globals line.format
  count : place.count ≡ greatest_of own rate

module _ (globals own : Names) where
  further : (p : PortPlace) (places : List PortPlace) (x : List ℕ) (names : List (List ℕ)) (t : Thing) (things : List Thing) (n : ℕ) (line : PortLine) → IsAt globals own places names things n line
      → IsAt globals own (p ∷ places) (x ∷ names) (t ∷ things) (suc n) line
  further p places x names t things n line it = record {
    place = it.place;
    there = it.there;
    rate = it.rate;
    delay = it.delay;
    at = suc it.at;
    name = it.name;
    thing = it.thing;
    word = it.word;
    shape = it.shape;
    count = it.count;
  }

  passed : (places : List PortPlace) (x : List ℕ) (names : List (List ℕ)) (t : Thing) (things : List Thing) (n : ℕ) (line : PortLine) → IsAt globals own places names things n line
      → IsAt globals own places (x ∷ names) (t ∷ things) n line
  passed places x names t things n line it = record {
    place = it.place;
    there = it.there;
    rate = it.rate;
    delay = it.delay;
    at = suc it.at;
    name = it.name;
    thing = it.thing;
    word = it.word;
    shape = it.shape;
    count = it.count;
  }

  head_kept : (a b : Option Kept) (xs ys : List (Option Kept)) → a ∷ xs ≡ b ∷ ys → a ≡ b
  head_kept a b xs ys e = ap (λ l. first l) e
    where
      first : List (Option Kept) → Option Kept
      first [] = a
      first (x ∷ rest) = x

  tail_kept : (a b : Option Kept) (xs ys : List (Option Kept)) → a ∷ xs ≡ b ∷ ys → xs ≡ ys
  tail_kept a b xs ys e = ap (λ l. rest l) e
    where
      rest : List (Option Kept) → List (Option Kept)
      rest [] = []
      rest (x ∷ more) = more

  word_in : Kept → Option Kept → PortKind
  word_in k None = k.word
  word_in k (Some m) = m.word

  shape_in : Kept → Option Kept → Option Shape
  shape_in k None = k.shape
  shape_in k (Some m) = m.shape

  -- a thing that is kept like a port is one
  port_here : (t : Thing) (word : PortKind) (shape : Option Shape) → kept_of t ≡ Some (record { word = word; shape = shape }) → (rate : Limit) × (delay : ℕ) × (t ≡ Port word shape rate delay)
  port_here (Port w s rate delay) word shape e =
      let k : Kept = record { word = w; shape = s } in
      (rate, delay, λ i. Port (same_Some k (record { word = word; shape = shape }) e i).word (same_Some k (record { word = word; shape = shape }) e i).shape rate delay)
  port_here _ word shape e = absurd (none-some (record { word = word; shape = shape }) e)

  places_at : (ds : List PureTdfLine) (things : List Thing) → map kept_of things ≡ map kept_of (map thing_in (map (line_pair globals) ds)) → (n : ℕ) (line : PortLine)
      → slice_get (flat_map port_of_tdf_line ds) n ≡ Some line → (first : ℕ) → IsAt globals own (places_from own first things) (map name_in (map (line_pair globals) ds)) things n line
  unfolding places_from
  places_at [] things same n line at first = absurd (none-some line at)
  places_at (d ∷ ds) [] same n line at first = absurd cc
  places_at (TPort port ∷ ds) (t ∷ things) same n line at first =
      go t (port_here t port.kind (format_of globals port.format) (head_kept (kept_of t) (Some (record { word = port.kind; shape = format_of globals port.format })) (map kept_of things) (map kept_of (map thing_in (map (line_pair globals) ds))) same)) n at
      (λ m e next. places_at ds things (tail_kept (kept_of t) (Some (record { word = port.kind; shape = format_of globals port.format })) (map kept_of things) (map kept_of (map thing_in (map (line_pair globals) ds))) same) m line e next)
    where
      named : PortLine → List ℕ
      named p = p.name

      go : (u : Thing) → ((rate : Limit) × (delay : ℕ) × (u ≡ Port port.kind (format_of globals port.format) rate delay)) → (m : ℕ) → slice_get (port ∷ flat_map port_of_tdf_line ds) m ≡ Some line
          → ((k : ℕ) → slice_get (flat_map port_of_tdf_line ds) k ≡ Some line → (next : ℕ) → IsAt globals own (places_from own next things) (map name_in (map (line_pair globals) ds)) things k line)
          → IsAt globals own (places_from own first (u ∷ things)) (port.name ∷ map name_in (map (line_pair globals) ds)) (u ∷ things) m line
      go u is m here later = subst (λ (v : Thing). IsAt globals own (places_from own first (v ∷ things)) (port.name ∷ map name_in (map (line_pair globals) ds)) (v ∷ things) m line) (sym is.2) (both m here)
        where
          both : (k : ℕ) → slice_get (port ∷ flat_map port_of_tdf_line ds) k ≡ Some line
              → IsAt globals own (places_from own first (Port port.kind (format_of globals port.format) is.0 is.1 ∷ things)) (port.name ∷ map name_in (map (line_pair globals) ds)) (Port port.kind (format_of globals port.format) is.0 is.1 ∷ things) k line
          both zero e = subst (λ (l : PortLine). IsAt globals own (places_from own first (Port port.kind (format_of globals port.format) is.0 is.1 ∷ things)) (port.name ∷ map name_in (map (line_pair globals) ds)) (Port port.kind (format_of globals port.format) is.0 is.1 ∷ things) 0 l)
              (same_Some port line e) (record {
                place = record { word = port.kind; shape = format_of globals port.format; first = first; count = greatest_of own is.0 };
                there = refl;
                rate = is.0;
                delay = is.1;
                at = 0;
                name = refl;
                thing = refl;
                word = refl;
                shape = refl;
                count = refl;
              })
          both (suc k) e = further (record { word = port.kind; shape = format_of globals port.format; first = first; count = greatest_of own is.0 }) (places_from own (first + greatest_of own is.0) things)
              port.name (map name_in (map (line_pair globals) ds)) (Port port.kind (format_of globals port.format) is.0 is.1) things k line (later k e (first + greatest_of own is.0))
  places_at (TStore store ∷ ds) (t ∷ things) same n line at first = none t (head_kept (kept_of t) (kept_of (store_thing globals store)) (map kept_of things) (map kept_of (map thing_in (map (line_pair globals) ds))) same)
      (places_at ds things (tail_kept (kept_of t) (kept_of (store_thing globals store)) (map kept_of things) (map kept_of (map thing_in (map (line_pair globals) ds))) same) n line at first)
    where
      no_port : (s : PureStore) → kept_of (store_thing globals s) ≡ None
      no_port (SConst a b c d) = refl
      no_port (SVar a b c d) = refl
      no_port (SArray a b c d e) = refl

      none : (u : Thing) → kept_of u ≡ kept_of (store_thing globals store) → IsAt globals own (places_from own first things) (map name_in (map (line_pair globals) ds)) things n line
          → IsAt globals own (places_from own first (u ∷ things)) (name_of_store store ∷ map name_in (map (line_pair globals) ds)) (u ∷ things) n line
      none (Port w s rate delay) e it = absurd (none-some (record { word = w; shape = s }) (sym (e ∙ no_port store)))
      none (Const a b) e it = passed (places_from own first things) (name_of_store store) (map name_in (map (line_pair globals) ds)) (Const a b) things n line it
      none (Var a b) e it = passed (places_from own first things) (name_of_store store) (map name_in (map (line_pair globals) ds)) (Var a b) things n line it
      none (Array a b c) e it = passed (places_from own first things) (name_of_store store) (map name_in (map (line_pair globals) ds)) (Array a b c) things n line it
      none (RateVar a b c) e it = passed (places_from own first things) (name_of_store store) (map name_in (map (line_pair globals) ds)) (RateVar a b c) things n line it
      none Event e it = passed (places_from own first things) (name_of_store store) (map name_in (map (line_pair globals) ds)) Event things n line it
      none (Signal a) e it = passed (places_from own first things) (name_of_store store) (map name_in (map (line_pair globals) ds)) (Signal a) things n line it
      none (DeSignal a b) e it = passed (places_from own first things) (name_of_store store) (map name_in (map (line_pair globals) ds)) (DeSignal a b) things n line it
      none Instance e it = passed (places_from own first things) (name_of_store store) (map name_in (map (line_pair globals) ds)) Instance things n line it
      none (Loop a b) e it = passed (places_from own first things) (name_of_store store) (map name_in (map (line_pair globals) ds)) (Loop a b) things n line it
      none (TypeName a) e it = passed (places_from own first things) (name_of_store store) (map name_in (map (line_pair globals) ds)) (TypeName a) things n line it
      none Tdf e it = passed (places_from own first things) (name_of_store store) (map name_in (map (line_pair globals) ds)) Tdf things n line it
      none De e it = passed (places_from own first things) (name_of_store store) (map name_in (map (line_pair globals) ds)) De things n line it
      none Composite e it = passed (places_from own first things) (name_of_store store) (map name_in (map (line_pair globals) ds)) Composite things n line it
  places_at (TRate l name least greatest start ∷ ds) (t ∷ things) same n line at first = none t (head_kept (kept_of t) None (map kept_of things) (map kept_of (map thing_in (map (line_pair globals) ds))) same)
      (places_at ds things (tail_kept (kept_of t) None (map kept_of things) (map kept_of (map thing_in (map (line_pair globals) ds))) same) n line at first)
    where
      none : (u : Thing) → kept_of u ≡ None → IsAt globals own (places_from own first things) (map name_in (map (line_pair globals) ds)) things n line
          → IsAt globals own (places_from own first (u ∷ things)) (name ∷ map name_in (map (line_pair globals) ds)) (u ∷ things) n line
      none (Port w s rate delay) e it = absurd (none-some (record { word = w; shape = s }) (sym e))
      none (Const a b) e it = passed (places_from own first things) name (map name_in (map (line_pair globals) ds)) (Const a b) things n line it
      none (Var a b) e it = passed (places_from own first things) name (map name_in (map (line_pair globals) ds)) (Var a b) things n line it
      none (Array a b c) e it = passed (places_from own first things) name (map name_in (map (line_pair globals) ds)) (Array a b c) things n line it
      none (RateVar a b c) e it = passed (places_from own first things) name (map name_in (map (line_pair globals) ds)) (RateVar a b c) things n line it
      none Event e it = passed (places_from own first things) name (map name_in (map (line_pair globals) ds)) Event things n line it
      none (Signal a) e it = passed (places_from own first things) name (map name_in (map (line_pair globals) ds)) (Signal a) things n line it
      none (DeSignal a b) e it = passed (places_from own first things) name (map name_in (map (line_pair globals) ds)) (DeSignal a b) things n line it
      none Instance e it = passed (places_from own first things) name (map name_in (map (line_pair globals) ds)) Instance things n line it
      none (Loop a b) e it = passed (places_from own first things) name (map name_in (map (line_pair globals) ds)) (Loop a b) things n line it
      none (TypeName a) e it = passed (places_from own first things) name (map name_in (map (line_pair globals) ds)) (TypeName a) things n line it
      none Tdf e it = passed (places_from own first things) name (map name_in (map (line_pair globals) ds)) Tdf things n line it
      none De e it = passed (places_from own first things) name (map name_in (map (line_pair globals) ds)) De things n line it
      none Composite e it = passed (places_from own first things) name (map name_in (map (line_pair globals) ds)) Composite things n line it

pub port_placed : (globals : Names) (block : PureTdf) → Differ (flat_map names_of_tdf_line block.decls) → (n : ℕ) (line : PortLine) → slice_get (ports_of_tdf block) n ≡ Some line
    → IsPortPlace globals (tdf_names globals block) (places_from (tdf_names globals block) 0 (tdf_names globals block).things) n line
port_placed globals block differ n line at =
    let own = tdf_names globals block in
    let apart = subst Differ (line_names globals block.decls) differ in
    let plain = names_plain globals block apart in
    let it = places_at globals own block.decls own.things plain.1 n line at 0 in
    let placed : place_of own line.name ≡ Some it.at = ap (λ (l : List (List ℕ)). place_of (record { names = l; things = own.things }) line.name) plain.0 ∙ place_is (map name_in (map (line_pair globals) block.decls)) apart line.name it.at it.name in
    record {
      place = it.place;
      there = it.there;
      rate = it.rate;
      delay = it.delay;
      thing = ap (found_at own.things) placed ∙ it.thing;
      word = it.word;
      shape = it.shape;
      count = it.count;
    }

-- a rate is at most its greatest
var_most : (own : Names) (c : ℕ) (r : List ℕ) (values : List ℕ) → RatesFit (rate_limits own) values → c * greatest_rate_of (thing_of own r) ≡ c * greatest_rate_of (thing_of own r)
    → 1 ≤ c * greatest_rate_of (thing_of own r) → times_value c values (variable_of own r) ≤ c * greatest_rate_of (thing_of own r)
var_most own c r values fit same some = go (thing_of own r) refl some
  where
    go : (o : Option Thing) → thing_of own r ≡ o → 1 ≤ c * greatest_rate_of o → times_value c values (variable_of own r) ≤ c * greatest_rate_of (thing_of own r)
    go (Some (RateVar least greatest start)) is low =
        let at = found own.things (place_of own r) (RateVar least greatest start) is in
        let var : variable_of own r ≡ Some (rate_number own at.0) = ap (λ (o : Option ℕ). variable_at own o (thing_of own r)) at.1 ∙ ap (variable_at own (Some at.0)) is in
        let bounds = fit.each (rate_number own at.0) (record { least = least; greatest = greatest }) (limits_placed own.things at.0 least greatest start at.2) in
        subst (λ (o : Option ℕ). times_value c values o ≤ c * greatest_rate_of (thing_of own r)) (sym var)
        (subst (λ (o : Option Thing). c * slice_index values (rate_number own at.0) ≤ c * greatest_rate_of o) (sym is) (mul-le-mul_left c bounds.1))
    go None is low = absurd (omega (arith, low))
    go (Some _) is low = absurd (omega (arith, low))

pub rate_most : (own : Names) (rate : Limit) (values : List ℕ) → RatesFit (rate_limits own) values → 1 ≤ greatest_of own rate → times_value (rate_of_limit own rate).times values (rate_of_limit own rate).var ≤ greatest_of own rate
unfolding greatest_of
rate_most own (limit.Int n) values fit some = omega arith
rate_most own (limit.Var r) values fit some =
    let most = var_most own 1 r values fit refl (omega (arith, some)) in omega (arith, most)
rate_most own (limit.Times c r) values fit some = var_most own c r values fit refl some
