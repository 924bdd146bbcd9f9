-- What the ports of the driver's instance are bound to: the signals of the columns.
use Rattle.std.proofs.Common.{◌≡◌, ◌≢◌, ◌∙◌, ℕ, zero, suc, ◌+◌, ◌*◌, ◌<◌, ◌≤◌, Bool, true, false, not, ◌||◌, ◌&&◌, nat_eq, nat_lt, cond, if◌then◌else◌, List, [], ◌∷◌, ◌++◌, map, length, Option, Some, None, slice_get, refl, sym, ap, subst, inl, inr, arith}
use Rattle.std.proofs.lemmas.Bool.Decides.{leb_tells}
use Rattle.std.proofs.lemmas.List.{length-map}
use Rattle.std.proofs.lemmas.Option.{same_Some, slice_get-map, slice_get_within}
use Rattle.std.specs.Cmp.Lexicographic.{bytes_decides, pointwise}
use Rattle.std.specs.List.{flat_map, position_or_len}
use Rattle.std.specs.Prelude.{option_map}
use Rattle.tdf_base.proofs.Api.{if_none, none_first, none_second}
use Rattle.tdf_base.specs.declared.codes.Code.TheVariants.{Duplicate}
use Rattle.tdf_bind_hierarchy.specs.declared.blocks.Target.{Target}
use Rattle.tdf_bind_hierarchy.specs.declared.blocks.Target.TheVariants.{Own}
use Rattle.tdf_bind_names.specs.Resolved.{targets_of}
use Rattle.tdf_bind_names.specs.Signals.{Declared, declared_by, is_event}
use Rattle.tdf_bind_names.specs.Targets.{Inside, inside_of, name_of_signal, or_first, own_or_outer, target_after, target_from, target_named, target_of}
use Rattle.tdf_bind_ports.specs.Ports.{ports_of_de}
use Rattle.tdf_expr_names.specs.Names.{composite_name_faults, declares, format_name_faults, globals_faults, has, member_name_faults, members_faults, name_faults, names_of_globals, with_declared, with_names}
use Rattle.tdf_expr_symbols.specs.Names.{de_names, globals_of, place_in}
use Rattle.tdf_expr_symbols.specs.Scope.{first_some}
use Rattle.tdf_lang_tree.specs.Pure.{PureDe, PureTree}
use Rattle.tdf_lang_tree.specs.declared.blocks.Member.{Member}
use Rattle.tdf_lang_tree.specs.declared.blocks.Member.TheVariants as member
use Rattle.tdf_lang_tree.specs.declared.blocks.PortLine.{PortLine}
use Rattle.tdf_lang_tree.specs.declared.names.Lit.{Lit}
use Rattle.tdf_lang_tree.specs.declared.shapes.FormatRef.{FormatRef}
use Rattle.tdf_stim.specs.Driver.{bind_lines, driver_members, port_name}
use Rattle.tdf_stim.specs.Signals.{Column, SignalOf, signal_named}
use Rattle.tdf_stim_body.proofs.Api.{driver_names_stand, has_item}
use Rattle.tdf_stim_body.specs.Names.{HasDriverNames}
use Rattle.tdf_stim_binding.proofs.Roles.{names_are, once_in, port_names}
use Rattle.tdf_stim_binding.specs.Shape.{IsDrivenTree, driver_de}
use Rattle.tdf_stim_lines.specs.Numbered.{lines_at, member_at}

text_itself : (xs : List ℕ) → pointwise nat_eq xs xs ≡ true
text_itself xs = (bytes_decides xs xs).1 refl

text_apart : (xs ys : List ℕ) → xs ≢ ys → pointwise nat_eq xs ys ≡ false
text_apart xs ys apart = go (pointwise nat_eq xs ys) refl
  where
    go : (b : Bool) → pointwise nat_eq xs ys ≡ b → pointwise nat_eq xs ys ≡ false
    go true is = absurd (apart ((bytes_decides xs ys).0 is))
    go false is = is

-- ---- a signal of `top` by its name

-- among declared signals the first of a name
pub record IsSignalAt (locals : List (List ℕ)) (members : List Member) (label : List ℕ) : Type 0 where
  pub apart : has locals label ≡ false
  pub k : ℕ
  pub place : position_or_len (pointwise nat_eq label) (flat_map name_of_signal members) ≡ k
  pub inside : k < length (flat_map name_of_signal members)
  pub line : Declared
  pub at : slice_get (flat_map declared_by members) k ≡ Some line
  pub name : line.name ≡ label
  pub event : is_event line.start ≡ true

or_parts : (a b : Bool) → (a || b) ≡ false → (a ≡ false) × (b ≡ false)
or_parts true b h = absurd (cc)
or_parts false b h = (refl, h)

any_parts : (locals : List (List ℕ)) (name label : List ℕ) → has (locals ++ name ∷ []) label ≡ false → (has locals label ≡ false) × (pointwise nat_eq label name ≡ false)
any_parts [] name label none = (refl, (or_parts (pointwise nat_eq label name) false none).0)
any_parts (x ∷ xs) name label none =
    let parts = or_parts (pointwise nat_eq label x) (has (xs ++ name ∷ []) label) none in
    let rest = any_parts xs name label parts.1 in
    (ap (λ (b : Bool). b || has xs label) parts.0 ∙ rest.0, rest.1)

declared_is : (locals : List (List ℕ)) (name : List ℕ) → has locals name ≡ false → with_declared locals name ≡ locals ++ name ∷ []
declared_is locals name none = ap (λ (b : Bool). if b then locals else locals ++ name ∷ []) none

-- one declared signal before
signal_more : (locals : List (List ℕ)) (name : List ℕ) (d : Declared) (members : List Member) (label : List ℕ) (m : Member) → name_of_signal m ≡ name ∷ [] → declared_by m ≡ d ∷ []
    → IsSignalAt (locals ++ name ∷ []) members label → IsSignalAt locals (m ∷ members) label
signal_more locals name d members label m names declared rest =
    let parts = any_parts locals name label rest.apart in
    record {
      apart = parts.0;
      k = suc rest.k;
      place = ap (λ (l : List (List ℕ)). position_or_len (pointwise nat_eq label) (l ++ flat_map name_of_signal members)) names
          ∙ ap (λ (b : Bool). cond (not b) (1 + position_or_len (pointwise nat_eq label) (flat_map name_of_signal members)) 0) parts.1
          ∙ (let p = rest.place in let g : 1 + position_or_len (pointwise nat_eq label) (flat_map name_of_signal members) ≡ suc rest.k = omega (arith, p) in g);
      inside = subst (λ (l : List (List ℕ)). suc rest.k < length (l ++ flat_map name_of_signal members)) (sym names) (let less = rest.inside in let g : suc rest.k < suc (length (flat_map name_of_signal members)) = omega (arith, less) in g);
      line = rest.line;
      at = ap (λ (l : List Declared). slice_get (l ++ flat_map declared_by members) (suc rest.k)) declared ∙ rest.at;
      name = rest.name;
      event = rest.event;
    }

-- another member before, which declares a name or none
signal_kept : (locals more : List (List ℕ)) (members : List Member) (label : List ℕ) (m : Member) → name_of_signal m ≡ [] → declared_by m ≡ [] → (has more label ≡ false → has locals label ≡ false)
    → IsSignalAt more members label → IsSignalAt locals (m ∷ members) label
signal_kept locals more members label m names declared keeps rest = record {
  apart = keeps rest.apart;
  k = rest.k;
  place = ap (λ (l : List (List ℕ)). position_or_len (pointwise nat_eq label) (l ++ flat_map name_of_signal members)) names ∙ rest.place;
  inside = subst (λ (l : List (List ℕ)). rest.k < length (l ++ flat_map name_of_signal members)) (sym names) rest.inside;
  line = rest.line;
  at = ap (λ (l : List Declared). slice_get (l ++ flat_map declared_by members) rest.k) declared ∙ rest.at;
  name = rest.name;
  event = rest.event;
}

-- a signal of this name itself
signal_here : (locals : List (List ℕ)) (members : List Member) (label : List ℕ) (line : ℕ) (name : List ℕ) (format : FormatRef) (start : Lit) → has locals name ≡ false → name ≡ label
    → IsSignalAt locals (member.DeSignal line name format start ∷ members) label
signal_here locals members label line name format start none same = record {
  apart = ap (has locals) (sym same) ∙ none;
  k = 0;
  place = ap (λ (b : Bool). cond (not b) (1 + position_or_len (pointwise nat_eq label) (flat_map name_of_signal members)) 0) (ap (pointwise nat_eq label) same ∙ text_itself label);
  inside = omega arith;
  line = record { name = name; format = format; start = Some start };
  at = refl;
  name = same;
  event = refl;
}

not_there : (locals : List (List ℕ)) (line : ℕ) (name : List ℕ) → declares locals line name ≡ [] → has locals name ≡ false
not_there locals line name none = if_none (has locals name) Duplicate line none

-- lines from one on, with the names of one more
next_none : (globals locals : List (List ℕ)) (name : List ℕ) (members : List Member) → has locals name ≡ false → members_faults globals (with_names locals (name ∷ [])) members ≡ [] → members_faults globals (locals ++ name ∷ []) members ≡ []
next_none globals locals name members there none = subst (λ (l : List (List ℕ)). members_faults globals l members ≡ []) (declared_is locals name there) none

abbrev as_signal : FormatRef → Lit → SignalOf
as_signal format start = record { format = format; start = start }

-- an event signal, of this name or of another
de_signal : (locals : List (List ℕ)) (ms : List Member) (label : List ℕ) (s : SignalOf) (line : ℕ) (name : List ℕ) (format : FormatRef) (start : Lit) (later : Option SignalOf) (b : Bool) → pointwise nat_eq name label ≡ b → has locals name ≡ false
    → (if b then Some (as_signal format start) else later) ≡ Some s → (later ≡ Some s → IsSignalAt (locals ++ name ∷ []) ms label) → IsSignalAt locals (member.DeSignal line name format start ∷ ms) label
de_signal locals ms label s line name format start later true same there is rest = signal_here locals ms label line name format start there ((bytes_decides name label).0 same)
de_signal locals ms label s line name format start later false other there is rest =
    signal_more locals name (record { name = name; format = format; start = Some start }) ms label (member.DeSignal line name format start) refl refl (rest is)

signal_at : (globals locals : List (List ℕ)) (members more : List Member) (label : List ℕ) (s : SignalOf) → members_faults globals locals (members ++ more) ≡ [] → signal_named members label ≡ Some s → IsSignalAt locals (members ++ more) label
signal_at globals locals [] more label s none is = absurd (cc)
signal_at globals locals (member.Port port ∷ ms) more label s none is =
    let there = not_there locals port.line port.name (none_first (declares locals port.line port.name) (format_name_faults globals port.line port.format) (none_first _ _ none)) in
    signal_kept locals (locals ++ port.name ∷ []) (ms ++ more) label (member.Port port) refl refl (λ h. (any_parts locals port.name label h).0)
    (signal_at globals (locals ++ port.name ∷ []) ms more label s (next_none globals locals port.name (ms ++ more) there (none_second (member_name_faults globals locals (member.Port port)) _ none)) is)
signal_at globals locals (member.Signal line name format ∷ ms) more label s none is =
    let there = not_there locals line name (none_first (declares locals line name) (format_name_faults globals line format) (none_first _ _ none)) in
    signal_more locals name (record { name = name; format = format; start = None }) (ms ++ more) label (member.Signal line name format) refl refl
    (signal_at globals (locals ++ name ∷ []) ms more label s (next_none globals locals name (ms ++ more) there (none_second (member_name_faults globals locals (member.Signal line name format)) _ none)) is)
signal_at globals locals (member.DeSignal line name format start ∷ ms) more label s none is =
    let there = not_there locals line name (none_first (declares locals line name) (format_name_faults globals line format) (none_first _ _ none)) in
    de_signal locals (ms ++ more) label s line name format start (signal_named ms label) (pointwise nat_eq name label) refl there is
    (λ h. signal_at globals (locals ++ name ∷ []) ms more label s (next_none globals locals name (ms ++ more) there (none_second (member_name_faults globals locals (member.DeSignal line name format start)) _ none)) h)
signal_at globals locals (member.Instance line name block ∷ ms) more label s none is =
    let there = not_there locals line name (none_first (declares locals line name) _ (none_first _ _ none)) in
    signal_kept locals (locals ++ name ∷ []) (ms ++ more) label (member.Instance line name block) refl refl (λ h. (any_parts locals name label h).0)
    (signal_at globals (locals ++ name ∷ []) ms more label s (next_none globals locals name (ms ++ more) there (none_second (member_name_faults globals locals (member.Instance line name block)) _ none)) is)
signal_at globals locals (member.Bind line instance port target ∷ ms) more label s none is =
    signal_kept locals locals (ms ++ more) label (member.Bind line instance port target) refl refl (λ h. h)
    (signal_at globals locals ms more label s (none_second (member_name_faults globals locals (member.Bind line instance port target)) _ none) is)

-- ---- the lines that bind

-- one that binds another port
binds_other : (inside : Inside) (name port : List ℕ) (before : Option Target) (at a : ℕ) (labels : List (List ℕ)) → ((b : ℕ) → a ≤ b → b < a + length labels → port ≢ port_name b)
    → target_from inside name port before (lines_at member_at at (bind_lines name a labels)) ≡ before
unfolding bind_lines target_after
binds_other inside name port before at a [] apart = refl
binds_other inside name port before at a (label ∷ labels) apart =
    let here : (pointwise nat_eq name name && pointwise nat_eq port (port_name a)) ≡ false =
    ap (λ (b : Bool). b && pointwise nat_eq port (port_name a)) (text_itself name) ∙ text_apart port (port_name a) (apart a (omega arith) (omega arith)) in
    ap (λ (b : Bool). target_from inside name port (if b then first_some (target_named inside label) before else before) (lines_at member_at (at + 1) (bind_lines name (a + 1) labels))) here
    ∙ binds_other inside name port before (at + 1) (a + 1) labels (λ b low high. apart b (omega (arith, low)) (omega (arith, high)))

binds_port : (inside : Inside) (name : List ℕ) (before : Option Target) (at a : ℕ) (labels : List (List ℕ)) (j : ℕ) (label : List ℕ) (t : Target) → slice_get labels j ≡ Some label → target_named inside label ≡ Some t
    → ((b c : ℕ) → a ≤ b → b < a + length labels → a ≤ c → c < a + length labels → b ≢ c → port_name b ≢ port_name c)
    → target_from inside name (port_name (a + j)) before (lines_at member_at at (bind_lines name a labels)) ≡ Some t
unfolding bind_lines target_after
binds_port inside name before at a [] j label t there is apart = absurd (cc)
binds_port inside name before at a (l ∷ labels) zero label t there is apart =
    let same : l ≡ label = cc in
    let f : a + 0 ≡ a = omega arith in
    let here : (pointwise nat_eq name name && pointwise nat_eq (port_name (a + 0)) (port_name a)) ≡ true =
    ap (λ (b : Bool). b && pointwise nat_eq (port_name (a + 0)) (port_name a)) (text_itself name) ∙ ap (λ k. pointwise nat_eq (port_name k) (port_name a)) f ∙ text_itself (port_name a) in
    ap (λ (b : Bool). target_from inside name (port_name (a + 0)) (if b then first_some (target_named inside l) before else before) (lines_at member_at (at + 1) (bind_lines name (a + 1) labels))) here
    ∙ ap (λ (x : List ℕ). target_from inside name (port_name (a + 0)) (first_some (target_named inside x) before) (lines_at member_at (at + 1) (bind_lines name (a + 1) labels))) same
    ∙ ap (λ (o : Option Target). target_from inside name (port_name (a + 0)) (first_some o before) (lines_at member_at (at + 1) (bind_lines name (a + 1) labels))) is
    ∙ ap (λ k. target_from inside name (port_name k) (Some t) (lines_at member_at (at + 1) (bind_lines name (a + 1) labels))) f
    ∙ binds_other inside name (port_name a) (Some t) (at + 1) (a + 1) labels (λ b low high. apart a b (omega arith) (omega arith) (omega (arith, low)) (omega (arith, high)) (λ e. omega (arith, e, low)))
binds_port inside name before at a (l ∷ labels) (suc j) label t there is apart =
    let less = slice_get_within labels j label there in
    let f : a + suc j ≡ a + 1 + j = omega arith in
    let here : (pointwise nat_eq name name && pointwise nat_eq (port_name (a + suc j)) (port_name a)) ≡ false =
    ap (λ (b : Bool). b && pointwise nat_eq (port_name (a + suc j)) (port_name a)) (text_itself name)
    ∙ text_apart (port_name (a + suc j)) (port_name a) (apart (a + suc j) a (omega arith) (omega (arith, less)) (omega arith) (omega arith) (λ e. omega (arith, e))) in
    ap (λ (b : Bool). target_from inside name (port_name (a + suc j)) (if b then first_some (target_named inside l) before else before) (lines_at member_at (at + 1) (bind_lines name (a + 1) labels))) here
    ∙ ap (λ k. target_from inside name (port_name k) before (lines_at member_at (at + 1) (bind_lines name (a + 1) labels))) f
    ∙ binds_port inside name before (at + 1) (a + 1) labels j label t there is (λ b c low high lower higher. apart b c (omega (arith, low)) (omega (arith, high)) (omega (arith, lower)) (omega (arith, higher)))

from_both : (inside : Inside) (name port : List ℕ) (before : Option Target) (xs ys : List Member) → target_from inside name port before (xs ++ ys) ≡ target_from inside name port (target_from inside name port before xs) ys
from_both inside name port before [] ys = refl
from_both inside name port before (x ∷ xs) ys = from_both inside name port (target_after inside name port before x) xs ys

port_name_there : (a : ℕ) (columns : List Column) (j : ℕ) → j < length columns → slice_get (port_names a columns) j ≡ Some (port_name (a + j))
port_name_there a [] j less = absurd (omega (arith, less))
port_name_there a (c ∷ cs) zero less = (let f : a ≡ a + 0 = omega arith in ap (λ k. Some (port_name k)) f)
port_name_there a (c ∷ cs) (suc j) less = (let f : a + 1 + j ≡ a + suc j = omega arith in port_name_there (a + 1) cs j (omega (arith, less)) ∙ ap (λ k. Some (port_name k)) f)

targets_named : (target : List ℕ → Option Target) (ports : List PortLine) → map (λ (p : PortLine). or_first (target p.name)) ports ≡ map (λ (n : List ℕ). or_first (target n)) (map (λ (p : PortLine). p.name) ports)
targets_named target [] = refl
targets_named target (p ∷ ps) = ap (λ (l : List Target). or_first (target p.name) ∷ l) (targets_named target ps)

module _ (model : PureTree) (columns : List Column) (times : List ℕ) (name : List ℕ) (d : IsDrivenTree model columns times name) (none : name_faults model ≡ [])
    (long : (j : ℕ) (c : Column) → slice_get columns j ≡ Some c → length c.cells ≡ length times) where
  abbrev pub de : PureDe
  de = driver_de d

  abbrev pub inside : Inside
  inside = inside_of model.top.members

  abbrev labels : List (List ℕ)
  labels = map (λ (c : Column). c.label) columns

  names : HasDriverNames (de_names (globals_of model.globals) de) columns (length times)
  names = driver_names_stand (globals_of model.globals) (once_in model d.globals de none d.globals_are).0 name columns times d.line long (once_in model d.globals de none d.globals_are).1

  ports_apart : (b c : ℕ) → b < length columns → c < length columns → b ≢ c → port_name b ≢ port_name c
  ports_apart b c less below apart same =
      let x = has_item columns b less in
      let y = has_item columns c below in
      let e : 2 * b ≡ 2 * c = same_Some (2 * b) (2 * c) (sym (names.port b x.0 x.1).place ∙ ap (place_in (de_names (globals_of model.globals) de).names) same ∙ (names.port c y.0 y.1).place) in
      apart (omega (arith, e))

  -- the signal of a column
  pub signal_of : (j : ℕ) (c : Column) → slice_get columns j ≡ Some c → IsSignalAt [] model.top.members c.label
  unfolding name_faults
  signal_of j c at =
      let named = d.signals j c at in
      let top : composite_name_faults (with_names [] (names_of_globals model.globals)) model.top ≡ [] = none_first _ _ (none_second (globals_faults [] model.globals) _ none) in
      subst (λ (l : List Member). IsSignalAt [] l c.label) (sym d.members_are)
      (signal_at (with_names [] (names_of_globals model.globals)) [] d.members (lines_at member_at d.first (driver_members name columns)) c.label named.0
      (subst (λ (l : List Member). members_faults (with_names [] (names_of_globals model.globals)) [] l ≡ []) d.members_are top) named.1)

  named_is : (j : ℕ) (c : Column) → (at : slice_get columns j ≡ Some c) → target_named inside c.label ≡ Some (Own (signal_of j c at).k)
  named_is j c at =
      let s = signal_of j c at in
      let less = s.inside in
      let found : place_in (flat_map name_of_signal model.top.members) c.label ≡ Some s.k =
      ap (λ k. cond (nat_lt k (length (flat_map name_of_signal model.top.members))) (Some k) None) s.place
      ∙ ap (λ (b : Bool). cond b (Some s.k) None) (elim (leb_tells (suc s.k) (length (flat_map name_of_signal model.top.members))) [ inl y ↦ y.0 | inr m ↦ (let past = m.1 in absurd (omega (arith, past, less))) ]) in
      ap (λ (o : Option ℕ). own_or_outer o (place_in (map (λ (p : PortLine). p.name) inside.ports) c.label)) found

  target_is : (j : ℕ) (c : Column) → (at : slice_get columns j ≡ Some c) → target_of inside model.top.members name (port_name j) ≡ Some (Own (signal_of j c at).k)
  unfolding target_after
  target_is j c at =
      let f : 0 + j ≡ j = omega arith in
      let many = length-map columns (λ (x : Column). x.label) in
      let before : Option Target = target_from inside name (port_name j) None d.members in
      ap (target_from inside name (port_name j) None) d.members_are ∙ from_both inside name (port_name j) None d.members (lines_at member_at d.first (driver_members name columns))
      ∙ ap (λ k. target_from inside name (port_name k) before (lines_at member_at (d.first + 1) (bind_lines name 0 labels))) (sym f)
      ∙ binds_port inside name before (d.first + 1) 0 labels j c.label (Own (signal_of j c at).k) (slice_get-map (λ (x : Column). x.label) columns j ∙ ap (option_map (λ (x : Column). x.label)) at) (named_is j c at)
      (λ b k low high lower higher apart. ports_apart b k (omega (arith, high, many)) (omega (arith, higher, many)) apart)

  abbrev bound : List ℕ → Target
  bound n = or_first (target_of inside model.top.members name n)

  -- the target of port j, and how many there are
  targets_are : targets_of (target_of inside model.top.members) name (ports_of_de de) ≡ map bound (port_names 0 columns)
  targets_are = targets_named (target_of inside model.top.members name) (ports_of_de de) ∙ ap (map bound) (names_are name columns times d.line)

  pub target_at : (j : ℕ) (c : Column) → (at : slice_get columns j ≡ Some c) → slice_get (targets_of (target_of inside model.top.members) name (ports_of_de de)) j ≡ Some (Own (signal_of j c at).k)
  target_at j c at =
      let f : 0 + j ≡ j = omega arith in
      ap (λ (l : List Target). slice_get l j) targets_are ∙ slice_get-map bound (port_names 0 columns) j
      ∙ ap (option_map bound) (port_name_there 0 columns j (slice_get_within columns j c at) ∙ ap (λ k. Some (port_name k)) f) ∙ ap (λ (o : Option Target). Some (or_first o)) (target_is j c at)

  names_count : (a : ℕ) (cs : List Column) → length (port_names a cs) ≡ length cs
  names_count a [] = refl
  names_count a (c ∷ cs) = ap suc (names_count (a + 1) cs)

  pub targets_long : length (targets_of (target_of inside model.top.members) name (ports_of_de de)) ≡ length columns
  targets_long = ap length targets_are ∙ length-map (port_names 0 columns) bound ∙ names_count 0 columns
