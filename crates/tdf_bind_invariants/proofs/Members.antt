-- What the names of a composite stand for, and what its targets carry.
use Rattle.std.proofs.Common.{◌≡◌, ◌∙◌, ℕ, zero, suc, Bool, true, false, not, ◌&&◌, List, [], ◌∷◌, Option, Some, None, map, refl, sym, ap, subst, true≢false, arith}
use Rattle.std.proofs.lemmas.Bool.Decides.{nat_tests}
use Rattle.std.proofs.lemmas.Option.{same_Some, none-some}
use Rattle.std.specs.List.{AllByRecursion, AllZip, flat_map}
use Rattle.std.specs.Option.{option_map}
use Rattle.std.specs.Prelude.{nat_eq, slice_get, slice_index_or}
use Rattle.tdf_expr.specs.Plans.{shape_of_format}
use Rattle.tdf_fixed.specs.declared.format.Format.{Format}
use Rattle.tdf_fixed.specs.declared.over.Over.{Over}
use Rattle.tdf_fixed.specs.declared.over.Over.TheVariants as over
use Rattle.tdf_fixed.specs.declared.quant.Quant.{Quant}
use Rattle.tdf_fixed.specs.declared.quant.Quant.TheVariants as quant
use Rattle.tdf_bind_invariants.proofs.Spaces.{Differ, Pair, found_at, name_in, not_missing, pair, pair_at, pair_found, with_pairs}
use Rattle.tdf_bind_invariants.specs.Tags.{Tag, line_tag, port_tag, port_tags, tag_with, target_tag}
use Rattle.tdf_bind_ports.specs.Agree.{agrees, fits, has_same_format, is_same_over, is_same_quant, is_same_shape, is_same_sign, is_same_word, is_samples, number_of_over, number_of_quant, number_of_word}
use Rattle.tdf_bind_ports.specs.Ports.{port_of_member}
use Rattle.tdf_bind_names.specs.Signals.{Declared, IsFormatOf, IsSignal, declared_by, is_event}
use Rattle.tdf_bind_names.specs.Targets.{inside_of, name_of_signal, own_or_outer, target_named}
use Rattle.tdf_expr_symbols.specs.Names.{Names, Thing, Port, Signal, DeSignal, Instance, format_of, kind_of, no_names, place_in, shape_of, thing_of, with_members, with_name}
use Rattle.tdf_expr_symbols.specs.Sound.{HasFormat}
use Rattle.tdf_lang_tree.specs.declared.blocks.Member.{Member}
use Rattle.tdf_lang_tree.specs.declared.blocks.Member.TheVariants as member
use Rattle.tdf_lang_tree.specs.declared.blocks.PortKind.{PortKind}
use Rattle.tdf_lang_tree.specs.declared.blocks.PortKind.TheVariants.{In, Out, DeIn, DeOut}
use Rattle.tdf_lang_tree.specs.declared.blocks.PortLine.{PortLine}
use Rattle.tdf_lang_tree.specs.declared.names.Lit.{Lit}
use Rattle.tdf_lang_tree.specs.declared.shapes.Shape.{Shape}
use Rattle.tdf_lang_tree.specs.declared.stmt.Limit.TheVariants as limit
use Rattle.tdf_bind_hierarchy.specs.Blocks.{BlockOf}
use Rattle.tdf_bind_hierarchy.specs.declared.blocks.SignalLine.{SignalLine}
use Rattle.tdf_bind_hierarchy.specs.declared.blocks.Target.{Target}
use Rattle.tdf_bind_hierarchy.specs.declared.blocks.Target.TheVariants.{Own, Outer}
use Rattle.tdf_bind_connections.specs.Edges.{is_event_port}

-- shapes of equal parts are equal
and_left : (a b : Bool) → a && b ≡ true → a ≡ true
and_left true b e = refl
and_left false b e = absurd (true≢false (sym e))

and_right : (a b : Bool) → a && b ≡ true → b ≡ true
and_right true b e = e
and_right false b e = absurd (true≢false (sym e))

same_sign : (a b : Bool) → is_same_sign a b ≡ true → a ≡ b
same_sign true b e = sym e
same_sign false false e = refl
same_sign false true e = absurd (true≢false (sym e))

same_number : (a b : ℕ) → nat_eq a b ≡ true → a ≡ b
same_number a b e = grind (arith, nat_tests)

abbrev quant_at : ℕ → Quant
quant_at zero = quant.Trn
quant_at (suc zero) = quant.TrnZero
quant_at (suc (suc zero)) = quant.Rnd
quant_at (suc (suc (suc zero))) = quant.RndZero
quant_at (suc (suc (suc (suc zero)))) = quant.RndMinInf
quant_at (suc (suc (suc (suc (suc zero))))) = quant.RndInf
quant_at _ = quant.RndConv

quant_back : (q : Quant) → quant_at (number_of_quant q) ≡ q
quant_back quant.Trn = refl
quant_back quant.TrnZero = refl
quant_back quant.Rnd = refl
quant_back quant.RndZero = refl
quant_back quant.RndMinInf = refl
quant_back quant.RndInf = refl
quant_back quant.RndConv = refl

abbrev over_at : ℕ → Over
over_at zero = over.Wrap
over_at (suc zero) = over.Sat
over_at (suc (suc zero)) = over.SatZero
over_at _ = over.SatSym

over_back : (o : Over) → over_at (number_of_over o) ≡ o
over_back over.Wrap = refl
over_back over.Sat = refl
over_back over.SatZero = refl
over_back over.SatSym = refl

abbrev word_at : ℕ → PortKind
word_at zero = In
word_at (suc zero) = Out
word_at (suc (suc zero)) = DeIn
word_at _ = DeOut

word_back : (w : PortKind) → word_at (number_of_word w) ≡ w
word_back In = refl
word_back Out = refl
word_back DeIn = refl
word_back DeOut = refl

same_word : (a b : PortKind) → is_same_word a b ≡ true → a ≡ b
same_word a b e = sym (word_back a) ∙ ap word_at (same_number (number_of_word a) (number_of_word b) e) ∙ word_back b

same_shape : (a b : Shape) → is_same_shape a b ≡ true → a ≡ b
same_shape a b e =
    let four = and_left (is_same_sign a.signed b.signed && nat_eq a.wl b.wl && nat_eq a.iwl b.iwl && is_same_quant a.quant b.quant) (is_same_over a.over b.over) e in
    let three = and_left (is_same_sign a.signed b.signed && nat_eq a.wl b.wl && nat_eq a.iwl b.iwl) (is_same_quant a.quant b.quant) four in
    let two = and_left (is_same_sign a.signed b.signed && nat_eq a.wl b.wl) (nat_eq a.iwl b.iwl) three in
    let signed = same_sign a.signed b.signed (and_left (is_same_sign a.signed b.signed) (nat_eq a.wl b.wl) two) in
    let wl = same_number a.wl b.wl (and_right (is_same_sign a.signed b.signed) (nat_eq a.wl b.wl) two) in
    let iwl = same_number a.iwl b.iwl (and_right (is_same_sign a.signed b.signed && nat_eq a.wl b.wl) (nat_eq a.iwl b.iwl) three) in
    let quants = and_right (is_same_sign a.signed b.signed && nat_eq a.wl b.wl && nat_eq a.iwl b.iwl) (is_same_quant a.quant b.quant) four in
    let overs = and_right (is_same_sign a.signed b.signed && nat_eq a.wl b.wl && nat_eq a.iwl b.iwl && is_same_quant a.quant b.quant) (is_same_over a.over b.over) e in
    let quant : a.quant ≡ b.quant = sym (quant_back a.quant) ∙ ap quant_at (same_number (number_of_quant a.quant) (number_of_quant b.quant) quants) ∙ quant_back b.quant in
    let over : a.over ≡ b.over = sym (over_back a.over) ∙ ap over_at (same_number (number_of_over a.over) (number_of_over b.over) overs) ∙ over_back b.over in
    λ i. record { signed = signed i; wl = wl i; iwl = iwl i; quant = quant i; over = over i }

-- the names of the members, with what they stand for
module _ (globals : Names) where
  abbrev pub pairs_of : Member → List Pair
  pairs_of (member.Port port) = pair port.name (Port port.kind (format_of globals port.format) (limit.Int 1) 0) ∷ []
  pairs_of (member.Signal line name x) = pair name (Signal (format_of globals x)) ∷ []
  pairs_of (member.DeSignal line name x start) = pair name (DeSignal (format_of globals x) start) ∷ []
  pairs_of (member.Instance line name block) = pair name Instance ∷ []
  pairs_of (member.Bind line instance port target) = []

  pub members_pairs : (ms : List Member) (s : Names) → with_members globals ms s ≡ with_pairs (flat_map pairs_of ms) s
  unfolding with_members
  members_pairs [] s = refl
  members_pairs (member.Port port ∷ ms) s = members_pairs ms (with_name port.name (Port port.kind (format_of globals port.format) (limit.Int 1) 0) s)
  members_pairs (member.Signal line name x ∷ ms) s = members_pairs ms (with_name name (Signal (format_of globals x)) s)
  members_pairs (member.DeSignal line name x start ∷ ms) s = members_pairs ms (with_name name (DeSignal (format_of globals x) start) s)
  members_pairs (member.Instance line name block ∷ ms) s = members_pairs ms (with_name name Instance s)
  members_pairs (member.Bind line instance port target ∷ ms) s = members_pairs ms s

  -- a signal that is declared is among them
  abbrev thing_by : Declared → Option Lit → Thing
  thing_by d None = Signal (format_of globals d.format)
  thing_by d (Some start) = DeSignal (format_of globals d.format) start

  record IsDeclared (ms : List Member) (k : ℕ) (name : List ℕ) : Type 0 where
    declared : Declared
    there : slice_get (flat_map declared_by ms) k ≡ Some declared
    at : ℕ
    among : slice_get (flat_map pairs_of ms) at ≡ Some (pair name (thing_by declared declared.start))

  signal_declared : (ms : List Member) (k : ℕ) (name : List ℕ) → slice_get (flat_map name_of_signal ms) k ≡ Some name → IsDeclared ms k name
  signal_declared [] k name e = absurd (none-some name e)
  signal_declared (member.Port port ∷ ms) k name e = let it = signal_declared ms k name e in record { declared = it.declared; there = it.there; at = suc it.at; among = it.among }
  signal_declared (member.Signal line n x ∷ ms) zero name e = record {
    declared = record { name = n; format = x; start = None };
    there = refl;
    at = 0;
    among = ap (λ m. Some (pair m (Signal (format_of globals x)))) (same_Some n name e);
  }
  signal_declared (member.Signal line n x ∷ ms) (suc k) name e = let it = signal_declared ms k name e in record { declared = it.declared; there = it.there; at = suc it.at; among = it.among }
  signal_declared (member.DeSignal line n x start ∷ ms) zero name e = record {
    declared = record { name = n; format = x; start = Some start };
    there = refl;
    at = 0;
    among = ap (λ m. Some (pair m (DeSignal (format_of globals x) start))) (same_Some n name e);
  }
  signal_declared (member.DeSignal line n x start ∷ ms) (suc k) name e = let it = signal_declared ms k name e in record { declared = it.declared; there = it.there; at = suc it.at; among = it.among }
  signal_declared (member.Instance line n block ∷ ms) k name e = let it = signal_declared ms k name e in record { declared = it.declared; there = it.there; at = suc it.at; among = it.among }
  signal_declared (member.Bind line instance port target ∷ ms) k name e = let it = signal_declared ms k name e in record { declared = it.declared; there = it.there; at = it.at; among = it.among }

  -- a port that is declared is among them
  abbrev port_thing : PortLine → Thing
  port_thing port = Port port.kind (format_of globals port.format) (limit.Int 1) 0

  record IsPort (ms : List Member) (k : ℕ) (name : List ℕ) : Type 0 where
    port : PortLine
    there : slice_get (flat_map port_of_member ms) k ≡ Some port
    at : ℕ
    among : slice_get (flat_map pairs_of ms) at ≡ Some (pair name (port_thing port))

  port_declared : (ms : List Member) (k : ℕ) (name : List ℕ) → slice_get (map (λ p. p.name) (flat_map port_of_member ms)) k ≡ Some name → IsPort ms k name
  port_declared [] k name e = absurd (none-some name e)
  port_declared (member.Port port ∷ ms) zero name e = record { port = port; there = refl; at = 0; among = ap (λ m. Some (pair m (port_thing port))) (same_Some port.name name e) }
  port_declared (member.Port port ∷ ms) (suc k) name e = let it = port_declared ms k name e in record { port = it.port; there = it.there; at = suc it.at; among = it.among }
  port_declared (member.Signal line n x ∷ ms) k name e = let it = port_declared ms k name e in record { port = it.port; there = it.there; at = suc it.at; among = it.among }
  port_declared (member.DeSignal line n x start ∷ ms) k name e = let it = port_declared ms k name e in record { port = it.port; there = it.there; at = suc it.at; among = it.among }
  port_declared (member.Instance line n block ∷ ms) k name e = let it = port_declared ms k name e in record { port = it.port; there = it.there; at = suc it.at; among = it.among }
  port_declared (member.Bind line instance port target ∷ ms) k name e = let it = port_declared ms k name e in record { port = it.port; there = it.there; at = it.at; among = it.among }

  -- a name that a port may be bound to is that of a signal or of a port
  abbrev Carries : Thing → List Member → List ℕ → Type 0
  Carries (Signal shape) ms name = (k : ℕ) × (slice_get (flat_map name_of_signal ms) k ≡ Some name)
  Carries (DeSignal shape start) ms name = (k : ℕ) × (slice_get (flat_map name_of_signal ms) k ≡ Some name)
  Carries (Port word shape rate delay) ms name = (k : ℕ) × (slice_get (map (λ p. p.name) (flat_map port_of_member ms)) k ≡ Some name)
  Carries _ ms name = Unit {0}

  name_is : (p q : Pair) → Some p ≡ Some q → p ≡ q
  name_is p q e = same_Some p q e

  carries : (ms : List Member) (n : ℕ) (p : Pair) → slice_get (flat_map pairs_of ms) n ≡ Some p → Carries p.thing ms p.name
  carries [] n p e = absurd (none-some p e)
  carries (member.Port port ∷ ms) zero p e = subst (λ (q : Pair). Carries q.thing (member.Port port ∷ ms) q.name) (same_Some (pair port.name (port_thing port)) p e) (0, refl)
  carries (member.Port port ∷ ms) (suc n) p e = more p.thing (carries ms n p e)
    where
      more : (t : Thing) → Carries t ms p.name → Carries t (member.Port port ∷ ms) p.name
      more (Signal shape) it = it
      more (DeSignal shape start) it = it
      more (Port word shape rate delay) it = (suc it.0, it.1)
      more _ it = tt
  carries (member.Signal line name x ∷ ms) zero p e = subst (λ (q : Pair). Carries q.thing (member.Signal line name x ∷ ms) q.name) (same_Some (pair name (Signal (format_of globals x))) p e) (0, refl)
  carries (member.Signal line name x ∷ ms) (suc n) p e = more p.thing (carries ms n p e)
    where
      more : (t : Thing) → Carries t ms p.name → Carries t (member.Signal line name x ∷ ms) p.name
      more (Signal shape) it = (suc it.0, it.1)
      more (DeSignal shape start) it = (suc it.0, it.1)
      more (Port word shape rate delay) it = it
      more _ it = tt
  carries (member.DeSignal line name x start ∷ ms) zero p e =
      subst (λ (q : Pair). Carries q.thing (member.DeSignal line name x start ∷ ms) q.name) (same_Some (pair name (DeSignal (format_of globals x) start)) p e) (0, refl)
  carries (member.DeSignal line name x start ∷ ms) (suc n) p e = more p.thing (carries ms n p e)
    where
      more : (t : Thing) → Carries t ms p.name → Carries t (member.DeSignal line name x start ∷ ms) p.name
      more (Signal shape) it = (suc it.0, it.1)
      more (DeSignal shape first) it = (suc it.0, it.1)
      more (Port word shape rate delay) it = it
      more _ it = tt
  carries (member.Instance line name block ∷ ms) zero p e = subst (λ (q : Pair). Carries q.thing (member.Instance line name block ∷ ms) q.name) (same_Some (pair name Instance) p e) tt
  carries (member.Instance line name block ∷ ms) (suc n) p e = more p.thing (carries ms n p e)
    where
      more : (t : Thing) → Carries t ms p.name → Carries t (member.Instance line name block ∷ ms) p.name
      more (Signal shape) it = it
      more (DeSignal shape start) it = it
      more (Port word shape rate delay) it = it
      more _ it = tt
  carries (member.Bind line instance port target ∷ ms) n p e = more p.thing (carries ms n p e)
    where
      more : (t : Thing) → Carries t ms p.name → Carries t (member.Bind line instance port target ∷ ms) p.name
      more (Signal shape) it = it
      more (DeSignal shape start) it = it
      more (Port word shape rate delay) it = it
      more _ it = tt

-- the tag of what a name stands for
abbrev pub thing_tag : Thing → Option Tag
thing_tag (Signal shape) = tag_with false shape
thing_tag (DeSignal shape start) = tag_with true shape
thing_tag (Port word shape rate delay) = tag_with (is_event_port word) shape
thing_tag _ = None

shapes_same : (a b : Option Shape) → has_same_format a b ≡ true → a ≡ b
shapes_same (Some a) (Some b) e = ap Some (same_shape a b e)
shapes_same None b e = absurd (true≢false (sym e))
shapes_same (Some a) None e = absurd (true≢false (sym e))

samples_event : (w : PortKind) → is_samples w ≡ true → is_event_port w ≡ false
samples_event In e = refl
samples_event Out e = refl
samples_event DeIn e = absurd (true≢false (sym e))
samples_event DeOut e = absurd (true≢false (sym e))

events_event : (w : PortKind) → not (is_samples w) ≡ true → is_event_port w ≡ true
events_event In e = absurd (true≢false (sym e))
events_event Out e = absurd (true≢false (sym e))
events_event DeIn e = refl
events_event DeOut e = refl

-- a port that agrees with a thing has its tag
agrees_tag : (globals : Names) (port : PortLine) (thing : Thing) → fits port.kind (kind_of thing) ≡ true → has_same_format (format_of globals port.format) (shape_of thing) ≡ true → thing_tag thing ≡ port_tag globals port
agrees_tag globals port (Signal shape) fit same =
    ap (tag_with false) (sym (shapes_same (format_of globals port.format) shape same)) ∙ ap (λ b. tag_with b (format_of globals port.format)) (sym (samples_event port.kind fit))
agrees_tag globals port (DeSignal shape start) fit same =
    ap (tag_with true) (sym (shapes_same (format_of globals port.format) shape same)) ∙ ap (λ b. tag_with b (format_of globals port.format)) (sym (events_event port.kind fit))
agrees_tag globals port (Port word shape rate delay) fit same =
    ap (tag_with (is_event_port word)) (sym (shapes_same (format_of globals port.format) shape same)) ∙ ap (λ w. tag_with (is_event_port w) (format_of globals port.format)) (sym (same_word port.kind word fit))
agrees_tag globals port _ fit same = absurd (true≢false (sym fit))

pub tag_by_agreement : (globals : Names) (port : PortLine) (thing : Option Thing) → agrees globals port thing ≡ true → (t : Thing) × (thing ≡ Some t) × (fits port.kind (kind_of t) ≡ true) × (thing_tag t ≡ port_tag globals port)
tag_by_agreement globals port None e = absurd (true≢false (sym e))
tag_by_agreement globals port (Some thing) e =
    let fit = and_left (fits port.kind (kind_of thing)) (has_same_format (format_of globals port.format) (shape_of thing)) e in
    let same = and_right (fits port.kind (kind_of thing)) (has_same_format (format_of globals port.format) (shape_of thing)) e in
    (thing, refl, fit, agrees_tag globals port thing fit same)

-- the format of a signal
format_shape : (shape : Shape) (f : Format) → IsFormatOf shape f → shape_of_format f ≡ shape
format_shape shape f is = λ i. record { signed = is.signed i; wl = is.wl i; iwl = is.iwl i; quant = is.quant i; over = is.over i }

signal_thing : (globals : Names) (d : Declared) (start : Option Lit) → d.start ≡ start → thing_tag (thing_by globals d start) ≡ tag_with (is_event start) (format_of globals d.format)
signal_thing globals d None e = refl
signal_thing globals d (Some start) e = refl

signal_line : (globals : Names) (d : Declared) (s : SignalLine) → HasFormat (format_of globals d.format) → IsSignal globals d s → Some (line_tag s) ≡ thing_tag (thing_by globals d d.start)
signal_line globals d s has is = go (format_of globals d.format) refl has ∙ sym (signal_thing globals d d.start refl)
  where
    go : (o : Option Shape) → format_of globals d.format ≡ o → HasFormat o → Some (line_tag s) ≡ tag_with (is_event d.start) (format_of globals d.format)
    go None e holds = absurd holds
    go (Some shape) e holds =
        (λ i. Some (record { event = is.event i; shape = format_shape shape s.format (is.format shape e holds) i })) ∙ ap (tag_with (is_event d.start)) (sym e)

signals_line : (globals : Names) (ds : List Declared) (ss : List SignalLine) → AllByRecursion (λ (d : Declared). HasFormat (format_of globals d.format)) ds → AllZip (IsSignal globals) ds ss
    → (k : ℕ) (d : Declared) → slice_get ds k ≡ Some d → option_map line_tag (slice_get ss k) ≡ thing_tag (thing_by globals d d.start)
signals_line globals [] ss has are k d at = absurd (none-some d at)
signals_line globals (e ∷ ds) [] has are k d at = absurd are
signals_line globals (e ∷ ds) (s ∷ ss) has are zero d at = subst (λ (x : Declared). Some (line_tag s) ≡ thing_tag (thing_by globals x x.start)) (same_Some e d at) (signal_line globals e s has.0 are.0)
signals_line globals (e ∷ ds) (s ∷ ss) has are (suc k) d at = signals_line globals ds ss has.1 are.1 k d at

ports_line : (globals : Names) (ports : List PortLine) (k : ℕ) (port : PortLine) → slice_get ports k ≡ Some port → slice_index_or (port_tags globals ports) k None ≡ port_tag globals port
ports_line globals [] k port at = absurd (none-some port at)
ports_line globals (p ∷ ports) zero port at = ap (port_tag globals) (same_Some p port at)
ports_line globals (p ∷ ports) (suc k) port at = ports_line globals ports k port at

-- a name that a port may be bound to has a target, with the tag of what it stands for
pub record IsTarget (globals : Names) (ms : List Member) (b : BlockOf) (name : List ℕ) (tag : Option Tag) : Type 0 where
  pub target : Target
  pub is : target_named (inside_of ms) name ≡ Some target
  pub tagged : target_tag b (port_tags globals (flat_map port_of_member ms)) target ≡ tag

module _ (globals : Names) (ms : List Member) (b : BlockOf) (differ : Differ (map name_in (flat_map (pairs_of globals) ms)))
    (has : AllByRecursion (λ (d : Declared). HasFormat (format_of globals d.format)) (flat_map declared_by ms)) (signals : AllZip (IsSignal globals) (flat_map declared_by ms) b.signals) where
  abbrev own : Names
  own = with_members globals ms no_names

  stands : (n : ℕ) (p : Pair) → slice_get (flat_map (pairs_of globals) ms) n ≡ Some p → thing_of own p.name ≡ Some p.thing
  stands n p at = ap (λ (s : Names). thing_of s p.name) (members_pairs globals ms no_names) ∙ pair_found (flat_map (pairs_of globals) ms) differ n p at

  is_thing : (name : List ℕ) (t u : Thing) → thing_of own name ≡ Some t → thing_of own name ≡ Some u → t ≡ u
  is_thing name t u e f = same_Some t u (sym e ∙ f)

  pub targets_thing : (name : List ℕ) (w : PortKind) (thing : Thing) → thing_of own name ≡ Some thing → fits w (kind_of thing) ≡ true → IsTarget globals ms b name (thing_tag thing)
  targets_thing name w thing is fit = go (place_in (inside_of ms).signals name) refl (place_in (map (λ p. p.name) (inside_of ms).ports) name) refl
    where
      go : (s : Option ℕ) → place_in (inside_of ms).signals name ≡ s → (p : Option ℕ) → place_in (map (λ p. p.name) (inside_of ms).ports) name ≡ p → IsTarget globals ms b name (thing_tag thing)
      go (Some k) at p pat =
          let it = signal_declared globals ms k name (found_at (inside_of ms).signals name k at) in
          let same = is_thing name (thing_by globals it.declared it.declared.start) thing (stands it.at (pair name (thing_by globals it.declared it.declared.start)) it.among) is in
          record {
            target = Own k;
            is = ap (λ o. own_or_outer o (place_in (map (λ p. p.name) (inside_of ms).ports) name)) at;
            tagged = signals_line globals (flat_map declared_by ms) b.signals has signals k it.declared it.there ∙ ap thing_tag same;
          }
      go None at (Some k) pat =
          let it = port_declared globals ms k name (found_at (map (λ p. p.name) (inside_of ms).ports) name k pat) in
          let same = is_thing name (port_thing globals it.port) thing (stands it.at (pair name (port_thing globals it.port)) it.among) is in
          record {
            target = Outer k;
            is = ap (λ o. own_or_outer o (place_in (map (λ p. p.name) (inside_of ms).ports) name)) at ∙ ap (own_or_outer None) pat;
            tagged = ports_line globals (flat_map port_of_member ms) k it.port it.there ∙ ap thing_tag same;
          }
      go None at None pat =
          let it = pair_at (flat_map (pairs_of globals) ms) differ name thing (ap (λ (s : Names). thing_of s name) (sym (members_pairs globals ms no_names)) ∙ is) in
          absurd (missing thing (carries globals ms it.0 (pair name thing) it.1) fit)
        where
          missing : (t : Thing) → Carries globals t ms name → fits w (kind_of t) ≡ true → ⊥
          missing (Signal shape) there e = not_missing (inside_of ms).signals name there.0 there.1 at
          missing (DeSignal shape start) there e = not_missing (inside_of ms).signals name there.0 there.1 at
          missing (Port word shape rate delay) there e = not_missing (map (λ p. p.name) (inside_of ms).ports) name there.0 there.1 pat
          missing _ there e = true≢false (sym e)
