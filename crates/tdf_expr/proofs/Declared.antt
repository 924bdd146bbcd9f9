-- What holds of the names of blocks whose declarations have no fault.
use Rattle.std.proofs.Common.{◌≡◌, ◌∙◌, ℕ, ◌*◌, ◌≤◌, true, false, List, [], ◌∷◌, Option, Some, length, refl, sym, ap, subst, arith}
use Rattle.std.proofs.Math.Nat.{mul-le-mul}
use Rattle.std.proofs.lemmas.Bool.Decides.{nat_tests}
use Rattle.std.specs.List.{flat_map}
use Rattle.std.specs.Prelude.{not, ◌||◌, nat_lt}
use Rattle.tdf_base.specs.Limits.{greatest_rate as most_rate}
use Rattle.tdf_base.specs.declared.codes.Code.TheVariants as code
use Rattle.tdf_expr_blocks.specs.Lines.{format_faults, is_no_rate, array_faults, store_faults, is_range, tdf_line_faults, de_line_faults, rate_faults, attr_faults}
use Rattle.tdf_expr_blocks.specs.Types.{global_faults}
use Rattle.tdf_base.proofs.Api.{if_none, none_first, none_second}
use Rattle.tdf_fixed.specs.Cast.{IsLegal}
use Rattle.tdf_expr_symbols.specs.Names.{Names, Thing, Const, Var, Array, Port, RateVar, Event, Signal, DeSignal, Instance, Loop, TypeName, Tdf, De, Composite, no_names, with_name, place_of, thing_of, with_global, with_globals, globals_of, format_of, type_shape, kind_of, with_port, with_store, with_tdf_line, with_tdf_lines, at_rate, at_delay, with_attr, with_attrs, tdf_names, with_de_line, with_de_lines, de_names}
use Rattle.tdf_expr_semantics.proofs.Api.{found, of_kind}
use Rattle.tdf_expr_symbols.specs.Faults.{multiple_faults}
use Rattle.tdf_expr_symbols.specs.Index.{kind_faults}
use Rattle.tdf_expr_symbols.specs.Kinds.{is_allowed}
use Rattle.tdf_expr_symbols.specs.declared.kinds.Place.TheVariants as place
use Rattle.tdf_lang_tree.specs.declared.blocks.PortKind.TheVariants.{In, Out, DeIn, DeOut}
use Rattle.tdf_expr_symbols.specs.Sound.{HasFormat, IsThingSound, IsSound}
use Rattle.tdf_expr.proofs.Things.{AllThings, all_named, all_changed, not_false, shape_legal}
use Rattle.tdf_lang_tree.specs.Kept.{Each, KeepsLit, KeepsStore, KeepsTdfLine, KeepsDeLine}
use Rattle.tdf_lang_tree.specs.Pure.{PureGlobal, GShape, GTdf, GDe, GNet, PureStore, SConst, SVar, SArray, PureTdfLine, TPort, TStore, TRate, PureTdf, PureDeLine, DPort, DStore, DEvent, PureDe}
use Rattle.tdf_lang_tree.specs.declared.blocks.Attr.{Attr}
use Rattle.tdf_lang_tree.specs.declared.blocks.Attr.TheVariants as attr
use Rattle.tdf_lang_tree.specs.declared.stmt.Limit.{Limit}
use Rattle.tdf_lang_tree.specs.declared.stmt.Limit.TheVariants as limit
use Rattle.tdf_expr_symbols.specs.Scope.{Scope, least_of, greatest_of, least_rate, greatest_rate_of, tdf_scope, de_scope}
use Rattle.tdf_lang_tree.specs.declared.blocks.PortLine.{PortLine}
use Rattle.tdf_lang_tree.specs.declared.shapes.FormatRef.{FormatRef}
use Rattle.tdf_lang_tree.specs.declared.shapes.FormatRef.TheVariants as format

-- what holds of a declaration by itself: its format is legal, and the numbers of a rate variable lie within their limits
abbrev pub IsDeclared : Thing → Type 0
IsDeclared (Const shape value) = HasFormat shape × KeepsLit value
IsDeclared (Var shape start) = HasFormat shape × KeepsLit start
IsDeclared (Array shape size starts) = HasFormat shape × Each KeepsLit starts × (length starts ≤ size) × (1 ≤ size) × (size ≤ most_rate)
IsDeclared (Port word shape rate delay) = HasFormat shape
IsDeclared (RateVar least greatest start) = (1 ≤ least) × (least ≤ start) × (start ≤ greatest) × (greatest ≤ most_rate)
IsDeclared Event = Unit {0}
IsDeclared _ = ⊥

-- the global names
abbrev pub IsGlobal : Thing → Type 0
IsGlobal (TypeName s) = IsLegal s.wl s.iwl
IsGlobal Tdf = Unit {0}
IsGlobal De = Unit {0}
IsGlobal Composite = Unit {0}
IsGlobal _ = ⊥

with_globals_all : (globals : Names) (list : List PureGlobal) (s : Names) → flat_map (global_faults globals) list ≡ [] → AllThings IsGlobal s
    → AllThings IsGlobal (with_globals list s)
unfolding with_globals global_faults
with_globals_all globals [] s none all = all
with_globals_all globals (g ∷ gs) s none all =
    with_globals_all globals gs (with_global g s) (none_second (global_faults globals g) (flat_map (global_faults globals) gs) none)
    (one g (none_first (global_faults globals g) (flat_map (global_faults globals) gs) none))
  where
    one : (x : PureGlobal) → global_faults globals x ≡ [] → AllThings IsGlobal (with_global x s)
    one (GShape t) e = all_named IsGlobal s t.name (TypeName t.shape) all (shape_legal t.line t.shape e)
    one (GTdf block) e = all_named IsGlobal s block.name Tdf all tt
    one (GDe block) e = all_named IsGlobal s block.name De all tt
    one (GNet block) e = all_named IsGlobal s block.name Composite all tt

pub globals_all : (globals : Names) (list : List PureGlobal) → flat_map (global_faults globals) list ≡ [] → AllThings IsGlobal (globals_of list)
globals_all globals list none = with_globals_all globals list no_names none (λ n t is. absurd cc)

type_there : (t : Thing) → is_allowed place.Format (Some (kind_of t)) ≡ true → IsGlobal t → HasFormat (type_shape (Some t))
unfolding is_allowed
type_there (TypeName s) e holds = holds
type_there (Port In a b c) e holds = absurd holds
type_there (Port Out a b c) e holds = absurd holds
type_there (Port DeIn a b c) e holds = absurd holds
type_there (Port DeOut a b c) e holds = absurd holds
type_there _ e holds = absurd cc

-- the format of a line without a fault
pub format_there : (globals : Names) (line : ℕ) (x : FormatRef) → AllThings IsGlobal globals → format_faults globals line x ≡ [] → HasFormat (format_of globals x)
format_there globals line (format.Own s) all none = shape_legal line s none
format_there globals line (format.Named name) all none =
    let kind = of_kind place.Format (thing_of globals name) line none in
    subst (λ (o : Option Thing). HasFormat (type_shape o)) (sym kind.is) (type_there kind.thing kind.allowed (global_is name kind.thing kind.is))
  where
    global_is : (n : List ℕ) (t : Thing) → thing_of globals n ≡ Some t → IsGlobal t
    global_is n t is = let at = found globals.things (place_of globals n) t is in all at.0 t at.2

rate_low : (n : ℕ) → is_no_rate n ≡ false → (1 ≤ n) × (n ≤ most_rate)
rate_low n e = (grind (arith, nat_tests), grind (arith, nat_tests))

size_held : (size given : ℕ) → nat_lt size given ≡ false → given ≤ size
size_held size given e = grind (arith, nat_tests)

range_held : (least greatest start : ℕ) → is_range least greatest start ≡ true → (1 ≤ least) × (least ≤ start) × (start ≤ greatest) × (greatest ≤ most_rate)
range_held least greatest start e = (grind (arith, nat_tests), grind (arith, nat_tests), grind (arith, nat_tests), grind (arith, nat_tests))

port_declared : (globals : Names) (port : PortLine) (s : Names) → AllThings IsGlobal globals → format_faults globals port.line port.format ≡ []
    → AllThings IsDeclared s → AllThings IsDeclared (with_port globals port s)
port_declared globals port s globally none all = all_named IsDeclared s port.name _ all (format_there globals port.line port.format globally none)

store_declared : (globals : Names) (store : PureStore) (s : Names) → AllThings IsGlobal globals → store_faults globals store ≡ [] → KeepsStore store
    → AllThings IsDeclared s → AllThings IsDeclared (with_store globals store s)
store_declared globals (SConst line name x value) s globally none kept all =
    all_named IsDeclared s name (Const (format_of globals x) value) all (format_there globals line x globally none, kept.2)
store_declared globals (SVar line name x start) s globally none kept all =
    all_named IsDeclared s name (Var (format_of globals x) start) all (format_there globals line x globally none, kept.2)
store_declared globals (SArray line name x size starts) s globally none kept all =
    let numbers = none_second (format_faults globals line x) (array_faults line size (length starts)) none in
    let rate = rate_low size (if_none (is_no_rate size) code.Limit line (none_first _ _ numbers)) in
    let given = size_held size (length starts) (if_none (nat_lt size (length starts)) code.Index line (none_second _ _ numbers)) in
    all_named IsDeclared s name (Array (format_of globals x) size starts) all
    (format_there globals line x globally (none_first _ _ none), kept.3, given, rate.0, rate.1)

tdf_line_declared : (globals : Names) (d : PureTdfLine) (s : Names) → AllThings IsGlobal globals → tdf_line_faults globals d ≡ [] → KeepsTdfLine d
    → AllThings IsDeclared s → AllThings IsDeclared (with_tdf_line globals d s)
unfolding tdf_line_faults
tdf_line_declared globals (TPort port) s globally none kept all = port_declared globals port s globally none all
tdf_line_declared globals (TStore store) s globally none kept all = store_declared globals store s globally none kept all
tdf_line_declared globals (TRate line name least greatest start) s globally none kept all =
    all_named IsDeclared s name (RateVar least greatest start) all
    (range_held least greatest start (not_false (is_range least greatest start) (if_none (not (is_range least greatest start)) code.Limit line none)))

tdf_lines_declared : (globals : Names) (list : List PureTdfLine) (s : Names) → AllThings IsGlobal globals → flat_map (tdf_line_faults globals) list ≡ [] → Each KeepsTdfLine list
    → AllThings IsDeclared s → AllThings IsDeclared (with_tdf_lines globals list s)
unfolding with_tdf_lines
tdf_lines_declared globals [] s globally none kept all = all
tdf_lines_declared globals (d ∷ ds) s globally none kept all =
    tdf_lines_declared globals ds (with_tdf_line globals d s) globally (none_second (tdf_line_faults globals d) (flat_map (tdf_line_faults globals) ds) none) kept.1
    (tdf_line_declared globals d s globally (none_first (tdf_line_faults globals d) (flat_map (tdf_line_faults globals) ds) none) kept.0 all)

de_line_declared : (globals : Names) (d : PureDeLine) (s : Names) → AllThings IsGlobal globals → de_line_faults globals d ≡ [] → KeepsDeLine d
    → AllThings IsDeclared s → AllThings IsDeclared (with_de_line globals d s)
unfolding de_line_faults
de_line_declared globals (DPort port) s globally none kept all = port_declared globals port s globally none all
de_line_declared globals (DStore store) s globally none kept all = store_declared globals store s globally none kept all
de_line_declared globals (DEvent line name) s globally none kept all = all_named IsDeclared s name Event all tt

de_lines_declared : (globals : Names) (list : List PureDeLine) (s : Names) → AllThings IsGlobal globals → flat_map (de_line_faults globals) list ≡ [] → Each KeepsDeLine list
    → AllThings IsDeclared s → AllThings IsDeclared (with_de_lines globals list s)
unfolding with_de_lines
de_lines_declared globals [] s globally none kept all = all
de_lines_declared globals (d ∷ ds) s globally none kept all =
    de_lines_declared globals ds (with_de_line globals d s) globally (none_second (de_line_faults globals d) (flat_map (de_line_faults globals) ds) none) kept.1
    (de_line_declared globals d s globally (none_first (de_line_faults globals d) (flat_map (de_line_faults globals) ds) none) kept.0 all)

-- attributes change ports alone
attrs_declared : (list : List Attr) (s : Names) → AllThings IsDeclared s → AllThings IsDeclared (with_attrs list s)
unfolding with_attrs
attrs_declared [] s all = all
attrs_declared (a ∷ as') s all = attrs_declared as' (with_attr a s) (one a)
  where
    rate_kept : (rate : Limit) (t : Thing) → IsDeclared t → IsDeclared (at_rate rate t)
    rate_kept rate (Port word shape old delay) holds = holds
    rate_kept rate (Const a b) holds = holds
    rate_kept rate (Var a b) holds = holds
    rate_kept rate (Array a b c) holds = holds
    rate_kept rate (RateVar a b c) holds = holds
    rate_kept rate _ holds = holds

    delay_kept : (delay : ℕ) (t : Thing) → IsDeclared t → IsDeclared (at_delay delay t)
    delay_kept delay (Port word shape rate old) holds = holds
    delay_kept delay (Const a b) holds = holds
    delay_kept delay (Var a b) holds = holds
    delay_kept delay (Array a b c) holds = holds
    delay_kept delay (RateVar a b c) holds = holds
    delay_kept delay _ holds = holds

    one : (x : Attr) → AllThings IsDeclared (with_attr x s)
    one (attr.Rate line port rate) = all_changed IsDeclared s (at_rate rate) port all (rate_kept rate)
    one (attr.Delay line port count) = all_changed IsDeclared s (at_delay count) port all (delay_kept count)
    one (attr.Step line port step) = all
    one (attr.Does line) = all
    one (attr.Accept line) = all
    one (attr.Reject line) = all

-- the rate of a port: 1, or what a line without a fault says
abbrev pub HasRate : Names → Thing → Type 0
HasRate own (Port word shape rate delay) = (1 ≤ least_of own rate) × (greatest_of own rate ≤ most_rate)
HasRate own _ = Unit {0}

one_rate : (own : Names) → (1 ≤ least_of own (limit.Int 1)) × (greatest_of own (limit.Int 1) ≤ most_rate)
unfolding least_of greatest_of
one_rate own = (omega arith, omega arith)

-- what a rate line without a fault says
rate_kind : (t : Thing) → is_allowed place.Rate (Some (kind_of t)) ≡ true → (least : ℕ) × (greatest : ℕ) × (start : ℕ) × (t ≡ RateVar least greatest start)
unfolding is_allowed
rate_kind (RateVar least greatest start) e = (least, greatest, start, refl)
rate_kind (Port In a b c) e = absurd cc
rate_kind (Port Out a b c) e = absurd cc
rate_kind (Port DeIn a b c) e = absurd cc
rate_kind (Port DeOut a b c) e = absurd cc
rate_kind _ e = absurd cc

var_rated : (scope : Scope) → AllThings IsDeclared scope.own → (line : ℕ) (r : List ℕ) → kind_faults place.Rate (thing_of scope.own r) line ≡ []
    → (1 ≤ least_rate (thing_of scope.own r)) × (greatest_rate_of (thing_of scope.own r) ≤ most_rate)
var_rated scope all line r none =
    let kind = of_kind place.Rate (thing_of scope.own r) line none in
    let rate = rate_kind kind.thing kind.allowed in
    let is = kind.is ∙ ap (λ (t : Thing). Some t) rate.3 in
    let at = found scope.own.things (place_of scope.own r) (RateVar rate.0 rate.1 rate.2) is in
    let holds = all at.0 (RateVar rate.0 rate.1 rate.2) at.2 in
    subst (λ (o : Option Thing). (1 ≤ least_rate o) × (greatest_rate_of o ≤ most_rate)) (sym is) (holds.0, holds.3)

few_times : (c g : ℕ) → nat_lt c 1 || (nat_lt most_rate c || nat_lt most_rate g) ≡ false → (1 ≤ c) × (g ≤ most_rate)
few_times c g e = (grind (arith, nat_tests), grind (arith, nat_tests))

line_rated : (scope : Scope) → AllThings IsDeclared scope.own → (line : ℕ) (rate : Limit) → rate_faults scope line rate ≡ []
    → (1 ≤ least_of scope.own rate) × (greatest_of scope.own rate ≤ most_rate)
unfolding least_of greatest_of
line_rated scope all line (limit.Int n) none = rate_low n (if_none (is_no_rate n) code.Limit line none)
line_rated scope all line (limit.Var r) none = var_rated scope all line r none
line_rated scope all line (limit.Times c r) none =
    let var = var_rated scope all line r (none_first _ _ none) in
    let few = few_times c (greatest_of scope.own (limit.Times c r))
    (if_none (nat_lt c 1 || (nat_lt most_rate c || nat_lt most_rate (greatest_of scope.own (limit.Times c r)))) code.Limit line
    (none_second (kind_faults place.Rate (thing_of scope.own r) line) (multiple_faults scope line c (limit.Times c r)) none)) in
    let times : 1 * 1 ≤ c * least_rate (thing_of scope.own r) = mul-le-mul few.0 var.0 in
    (omega (arith, times), few.1)

attrs_rated : (scope : Scope) → AllThings IsDeclared scope.own → (list : List Attr) (s : Names) → flat_map (attr_faults scope) list ≡ []
    → AllThings (HasRate scope.own) s → AllThings (HasRate scope.own) (with_attrs list s)
unfolding with_attrs attr_faults
attrs_rated scope declared [] s none all = all
attrs_rated scope declared (a ∷ as') s none all =
    attrs_rated scope declared as' (with_attr a s) (none_second (attr_faults scope a) (flat_map (attr_faults scope) as') none)
    (one a (none_first (attr_faults scope a) (flat_map (attr_faults scope) as') none))
  where
    rate_kept : (rate : Limit) → (1 ≤ least_of scope.own rate) × (greatest_of scope.own rate ≤ most_rate) → (t : Thing) → HasRate scope.own t → HasRate scope.own (at_rate rate t)
    rate_kept rate new (Port word shape old delay) holds = new
    rate_kept rate new _ holds = holds

    delay_kept : (delay : ℕ) (t : Thing) → HasRate scope.own t → HasRate scope.own (at_delay delay t)
    delay_kept delay (Port word shape rate old) holds = holds
    delay_kept delay _ holds = holds

    one : (x : Attr) → attr_faults scope x ≡ [] → AllThings (HasRate scope.own) (with_attr x s)
    one (attr.Rate line port rate) e =
        all_changed (HasRate scope.own) s (at_rate rate) port all
        (rate_kept rate (line_rated scope declared line rate (none_second (kind_faults place.Port (thing_of scope.own port) line) (rate_faults scope line rate) e)))
    one (attr.Delay line port count) e = all_changed (HasRate scope.own) s (at_delay count) port all (delay_kept count)
    one (attr.Step line port step) e = all
    one (attr.Does line) e = all
    one (attr.Accept line) e = all
    one (attr.Reject line) e = all

-- every port begins with the rate 1
named_rated : (own s : Names) (name : List ℕ) (t : Thing) → AllThings (HasRate own) s → HasRate own t → AllThings (HasRate own) (with_name name t s)
named_rated own s name t all holds = all_named (HasRate own) s name t all holds

store_rated : (own globals : Names) (store : PureStore) (s : Names) → AllThings (HasRate own) s → AllThings (HasRate own) (with_store globals store s)
store_rated own globals (SConst line name x value) s all = named_rated own s name _ all tt
store_rated own globals (SVar line name x start) s all = named_rated own s name _ all tt
store_rated own globals (SArray line name x size starts) s all = named_rated own s name _ all tt

tdf_lines_rated : (own globals : Names) (list : List PureTdfLine) (s : Names) → AllThings (HasRate own) s → AllThings (HasRate own) (with_tdf_lines globals list s)
unfolding with_tdf_lines
tdf_lines_rated own globals [] s all = all
tdf_lines_rated own globals (d ∷ ds) s all = tdf_lines_rated own globals ds (with_tdf_line globals d s) (one d)
  where
    one : (x : PureTdfLine) → AllThings (HasRate own) (with_tdf_line globals x s)
    one (TPort port) = named_rated own s port.name _ all (one_rate own)
    one (TStore store) = store_rated own globals store s all
    one (TRate line name least greatest start) = named_rated own s name _ all tt

de_lines_rated : (own globals : Names) (list : List PureDeLine) (s : Names) → AllThings (HasRate own) s → AllThings (HasRate own) (with_de_lines globals list s)
unfolding with_de_lines
de_lines_rated own globals [] s all = all
de_lines_rated own globals (d ∷ ds) s all = de_lines_rated own globals ds (with_de_line globals d s) (one d)
  where
    one : (x : PureDeLine) → AllThings (HasRate own) (with_de_line globals x s)
    one (DPort port) = named_rated own s port.name _ all (one_rate own)
    one (DStore store) = store_rated own globals store s all
    one (DEvent line name) = named_rated own s name _ all tt

-- both together
thing_is_sound : (own : Names) (t : Thing) → IsDeclared t → HasRate own t → IsThingSound own t
thing_is_sound own (Const a b) holds rated = holds
thing_is_sound own (Var a b) holds rated = holds
thing_is_sound own (Array a b c) holds rated = holds
thing_is_sound own (Port a b c d) holds rated = (holds, rated.0, rated.1)
thing_is_sound own (RateVar a b c) holds rated = holds
thing_is_sound own Event holds rated = tt
thing_is_sound own (Signal a) holds rated = absurd holds
thing_is_sound own (DeSignal a b) holds rated = absurd holds
thing_is_sound own Instance holds rated = tt
thing_is_sound own (Loop a b) holds rated = absurd holds
thing_is_sound own (TypeName a) holds rated = absurd holds
thing_is_sound own Tdf holds rated = tt
thing_is_sound own De holds rated = tt
thing_is_sound own Composite holds rated = tt

global_is_sound : (globals : Names) (t : Thing) → IsGlobal t → IsThingSound globals t
global_is_sound globals (TypeName s) holds = holds
global_is_sound globals Tdf holds = tt
global_is_sound globals De holds = tt
global_is_sound globals Composite holds = tt
global_is_sound globals (Const a b) holds = absurd holds
global_is_sound globals (Var a b) holds = absurd holds
global_is_sound globals (Array a b c) holds = absurd holds
global_is_sound globals (Port a b c d) holds = absurd holds
global_is_sound globals (RateVar a b c) holds = absurd holds
global_is_sound globals Event holds = tt
global_is_sound globals (Signal a) holds = absurd holds
global_is_sound globals (DeSignal a b) holds = absurd holds
global_is_sound globals Instance holds = tt
global_is_sound globals (Loop a b) holds = absurd holds

no_things : (P : Thing → Type 0) → AllThings P no_names
no_things P n t is = absurd cc

-- the names of a block without a fault
pub tdf_sound : (globals : Names) (block : PureTdf) → AllThings IsGlobal globals → flat_map (tdf_line_faults globals) block.decls ≡ []
    → flat_map (attr_faults (tdf_scope globals block)) block.attrs ≡ [] → Each KeepsTdfLine block.decls → IsSound (tdf_scope globals block)
tdf_sound globals block globally lines attrs kept =
    let declared = attrs_declared block.attrs (with_tdf_lines globals block.decls no_names)
    (tdf_lines_declared globals block.decls no_names globally lines kept (no_things IsDeclared)) in
    let rated = attrs_rated (tdf_scope globals block) declared block.attrs (with_tdf_lines globals block.decls no_names) attrs
    (tdf_lines_rated (tdf_names globals block) globals block.decls no_names (no_things (HasRate (tdf_names globals block)))) in
    record {
      globals = λ n t is. global_is_sound globals t (globally n t is);
      own = λ n t is. thing_is_sound (tdf_names globals block) t (declared n t is) (rated n t is);
    }

pub de_sound : (globals : Names) (block : PureDe) → AllThings IsGlobal globals → flat_map (de_line_faults globals) block.decls ≡ [] → Each KeepsDeLine block.decls
    → IsSound (de_scope globals block)
de_sound globals block globally lines kept =
    let declared = de_lines_declared globals block.decls no_names globally lines kept (no_things IsDeclared) in
    let rated = de_lines_rated (de_names globals block) globals block.decls no_names (no_things (HasRate (de_names globals block))) in
    record {
      globals = λ n t is. global_is_sound globals t (globally n t is);
      own = λ n t is. thing_is_sound (de_names globals block) t (declared n t is) (rated n t is);
    }
