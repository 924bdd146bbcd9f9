-- The roles of a model that was checked: blocks that are there, timesteps below the limit, rates in range.
use Rattle.std.proofs.Common.{◌≡◌, ◌∙◌, ℕ, ◌+◌, ◌*◌, ◌<◌, ◌≤◌, zero, suc, Bool, true, false, List, [], ◌∷◌, ◌++◌, Option, Some, None, refl, sym, ap, map, subst, arith}
use Rattle.std.proofs.Math.ListN.{get_or}
use Rattle.std.proofs.Math.Nat.{mul-le-mul_left}
use Rattle.std.proofs.lemmas.Option.{slice_get_within, get_or_from_slice_get}
use Rattle.std.specs.Cmp.Lexicographic.{pointwise}
use Rattle.std.specs.List.{AllByRecursion, flat_map}
use Rattle.std.specs.Prelude.{slice_get, nat_eq}
use Rattle.tdf_base.specs.Limits.{time_end, greatest_rate}
use Rattle.tdf_dynamic_plans.specs.Rates.{times_value}
use Rattle.tdf_expr.specs.Blocks.{Module, blocks_of}
use Rattle.tdf_expr.specs.Compiled.{IsBlockOf, AreBlocksOf}
use Rattle.tdf_expr.specs.Made.{block_count, block_rates, start_rates}
use Rattle.tdf_expr.specs.Plans.{rate_span, rate_spans}
use Rattle.tdf_expr.specs.declared.blocks.Block.{Block}
use Rattle.tdf_expr.specs.declared.checked.Checked.{Checked}
use Rattle.tdf_expr.specs.declared.spans.RateSpan.{RateSpan}
use Rattle.tdf_graph.specs.Ranges.{IsRate}
use Rattle.tdf_bind_ports.specs.Ports.{ports_of_tdf}
use Rattle.tdf_expr_semantics.specs.Places.{before, rates_of, rate_number}
use Rattle.tdf_bind.specs.Below.{assigned_port_step, last_of, module_role, module_step, or_else, port_data, rate_of_limit, rate_of_port, roles_from, step_of_port, variable_at, variable_of, when}
use Rattle.tdf_expr_symbols.specs.Names.{Names, Thing, Const, Var, Array, Port, RateVar, Event, Signal, DeSignal, Instance, Loop, TypeName, Tdf, De, Composite, found_at, place_of, thing_of}
use Rattle.tdf_expr_symbols.specs.Scope.{tdf_scope, least_rate, greatest_rate_of as most_of, least_of, greatest_of}
use Rattle.tdf_expr_symbols.specs.Sound.{IsThingSound, IsSound}
use Rattle.tdf_lang_tree.specs.Kept.{Each, KeepsAttr, KeepsGlobal}
use Rattle.tdf_lang_tree.specs.Pure.{PureTdf, PureComposite, PureGlobal, GShape, GTdf, GDe, GNet}
use Rattle.tdf_lang_tree.specs.declared.blocks.Attr.{Attr}
use Rattle.tdf_lang_tree.specs.declared.blocks.Attr.TheVariants as attr
use Rattle.tdf_lang_tree.specs.declared.blocks.PortLine.{PortLine}
use Rattle.tdf_lang_tree.specs.declared.stmt.Limit.{Limit}
use Rattle.tdf_lang_tree.specs.declared.stmt.Limit.TheVariants as limit
use Rattle.tdf_bind_connections.specs.Roles.{ModuleRole}
use Rattle.tdf_bind_connections.specs.declared.roles.PortData.{PortData}
use Rattle.tdf_bind_connections.specs.declared.roles.Role.{Role}
use Rattle.tdf_bind_connections.specs.declared.roles.Role.TheVariants as role

-- a port whose timestep is below the limit, and whose rate is in range where variables have these values
pub record IsPortFine (values : List ℕ) (port : PortData) : Type 0 where
  pub step : port.step < time_end
  pub rate : IsRate (times_value port.rate.times values port.rate.var)

pub record IsRoleFine (checked : Checked) (role : ModuleRole) : Type 0 where
  pub block : role.block < block_count checked
  pub step : role.step < time_end
  pub ports : AllByRecursion (IsPortFine (start_rates checked role.block)) role.ports

abbrev pub IsFine : Checked → Role → Type 0
IsFine checked (role.Module m) = IsRoleFine checked m
IsFine checked (role.Processes p) = Unit {0}
IsFine checked role.Composite = Unit {0}

none_some : {A : Type 0} {x : A} → None ≡ Some x → ⊥
none_some {A} e = subst only_none e tt
  where
    only_none : Option A → Type 0
    only_none None = Unit {0}
    only_none (Some y) = ⊥

-- timesteps
module _ (said : Attr → Option ℕ) (few : (a : Attr) (n : ℕ) → KeepsAttr a → said a ≡ Some n → n < time_end) where
  last_few : (before : ℕ) (attrs : List Attr) → before < time_end → Each KeepsAttr attrs → last_of said before attrs < time_end
  unfolding last_of
  last_few before [] h kept = h
  last_few before (a ∷ attrs) h kept = last_few (or_else (said a) before) attrs (go (said a) refl) kept.1
    where
      go : (o : Option ℕ) → said a ≡ o → or_else o before < time_end
      go None e = h
      go (Some n) e = few a n kept.0 e

own_few : (a : Attr) (n : ℕ) → KeepsAttr a → module_step a ≡ Some n → n < time_end
own_few (attr.Step line None step) n kept e = subst (λ (o : Option ℕ). or_else o 0 < time_end) e kept.1
own_few (attr.Step line (Some port) step) n kept e = absurd (none_some e)
own_few (attr.Rate line port rate) n kept e = absurd (none_some e)
own_few (attr.Delay line port count) n kept e = absurd (none_some e)
own_few (attr.Does line) n kept e = absurd (none_some e)
own_few (attr.Accept line) n kept e = absurd (none_some e)
own_few (attr.Reject line) n kept e = absurd (none_some e)

port_few : (port : List ℕ) (a : Attr) (n : ℕ) → KeepsAttr a → assigned_port_step port a ≡ Some n → n < time_end
port_few port (attr.Step line None step) n kept e = absurd (none_some e)
port_few port (attr.Step line (Some name) step) n kept e = go (pointwise nat_eq port name) e
  where
    go : (b : Bool) → when b step ≡ Some n → n < time_end
    go true h = subst (λ (o : Option ℕ). or_else o 0 < time_end) h kept.1
    go false h = absurd (none_some h)
port_few port (attr.Rate line name rate) n kept e = absurd (none_some e)
port_few port (attr.Delay line name count) n kept e = absurd (none_some e)
port_few port (attr.Does line) n kept e = absurd (none_some e)
port_few port (attr.Accept line) n kept e = absurd (none_some e)
port_few port (attr.Reject line) n kept e = absurd (none_some e)

step_few : (port : List ℕ) (thing : Option Thing) (attrs : List Attr) → Each KeepsAttr attrs → step_of_port port thing attrs < time_end
step_few port None attrs kept = omega arith
step_few port (Some thing) attrs kept = last_few (assigned_port_step port) (port_few port) 0 attrs (omega arith) kept

-- the starting value of a rate variable
span_long : (t : Thing) (ts : List Thing) (k : ℕ) → slice_get (map (λ (r : RateSpan). r.start) (flat_map rate_span (t ∷ ts))) (rates_of t + k) ≡ slice_get (map (λ (r : RateSpan). r.start) (flat_map rate_span ts)) k
span_long (RateVar least greatest start) ts k = ap (slice_get (start ∷ map (λ (r : RateSpan). r.start) (flat_map rate_span ts))) (let e : 1 + k ≡ suc k = omega arith in e)
span_long (Const shape value) ts k = ap (slice_get (map (λ (r : RateSpan). r.start) (flat_map rate_span ts))) (omega arith)
span_long (Var shape start) ts k = ap (slice_get (map (λ (r : RateSpan). r.start) (flat_map rate_span ts))) (omega arith)
span_long (Array shape size starts) ts k = ap (slice_get (map (λ (r : RateSpan). r.start) (flat_map rate_span ts))) (omega arith)
span_long (Port word shape rate delay) ts k = ap (slice_get (map (λ (r : RateSpan). r.start) (flat_map rate_span ts))) (omega arith)
span_long Event ts k = ap (slice_get (map (λ (r : RateSpan). r.start) (flat_map rate_span ts))) (omega arith)
span_long (Signal shape) ts k = ap (slice_get (map (λ (r : RateSpan). r.start) (flat_map rate_span ts))) (omega arith)
span_long (DeSignal shape start) ts k = ap (slice_get (map (λ (r : RateSpan). r.start) (flat_map rate_span ts))) (omega arith)
span_long Instance ts k = ap (slice_get (map (λ (r : RateSpan). r.start) (flat_map rate_span ts))) (omega arith)
span_long (Loop from end) ts k = ap (slice_get (map (λ (r : RateSpan). r.start) (flat_map rate_span ts))) (omega arith)
span_long (TypeName shape) ts k = ap (slice_get (map (λ (r : RateSpan). r.start) (flat_map rate_span ts))) (omega arith)
span_long Tdf ts k = ap (slice_get (map (λ (r : RateSpan). r.start) (flat_map rate_span ts))) (omega arith)
span_long De ts k = ap (slice_get (map (λ (r : RateSpan). r.start) (flat_map rate_span ts))) (omega arith)
span_long Composite ts k = ap (slice_get (map (λ (r : RateSpan). r.start) (flat_map rate_span ts))) (omega arith)

some_same : {A : Type 0} {x y : A} → Some x ≡ Some y → x ≡ y
some_same {A} {x} {y} e = ap or_x e
  where
    or_x : Option A → A
    or_x None = x
    or_x (Some z) = z

start_there : (ts : List Thing) (n least greatest start : ℕ) → slice_get ts n ≡ Some (RateVar least greatest start)
    → slice_get (map (λ (r : RateSpan). r.start) (flat_map rate_span ts)) (before rates_of ts n) ≡ Some start
unfolding before
start_there [] n least greatest start is = absurd (none_some is)
start_there (t ∷ ts) zero least greatest start is =
    subst (λ (x : Thing). slice_get (map (λ (r : RateSpan). r.start) (flat_map rate_span (x ∷ ts))) 0 ≡ Some start) (sym (some_same is)) refl
start_there (t ∷ ts) (suc n) least greatest start is = span_long t ts (before rates_of ts n) ∙ start_there ts n least greatest start is

-- a rate variable, where a name is of some rate
pub record IsVariable (o : Option Thing) : Type 0 where
  pub least : ℕ
  pub greatest : ℕ
  pub start : ℕ
  pub is : o ≡ Some (RateVar least greatest start)

is_variable : (o : Option Thing) → 1 ≤ least_rate o → IsVariable o
is_variable None some = absurd (omega (arith, some))
is_variable (Some (RateVar least greatest start)) some = record { least = least; greatest = greatest; start = start; is = refl }
is_variable (Some (Const shape value)) some = absurd (omega (arith, some))
is_variable (Some (Var shape start)) some = absurd (omega (arith, some))
is_variable (Some (Array shape size starts)) some = absurd (omega (arith, some))
is_variable (Some (Port word shape rate delay)) some = absurd (omega (arith, some))
is_variable (Some Event) some = absurd (omega (arith, some))
is_variable (Some (Signal shape)) some = absurd (omega (arith, some))
is_variable (Some (DeSignal shape start)) some = absurd (omega (arith, some))
is_variable (Some Instance) some = absurd (omega (arith, some))
is_variable (Some (Loop from end)) some = absurd (omega (arith, some))
is_variable (Some (TypeName shape)) some = absurd (omega (arith, some))
is_variable (Some Tdf) some = absurd (omega (arith, some))
is_variable (Some De) some = absurd (omega (arith, some))
is_variable (Some Composite) some = absurd (omega (arith, some))

module _ (own : Names) (sound : (n : ℕ) (t : Thing) → slice_get own.things n ≡ Some t → IsThingSound own t) where
  abbrev values : List ℕ
  values = map (λ (r : RateSpan). r.start) (rate_spans own)

  -- the value of a variable that a rate names: between the least and the greatest
  pub record IsValued (r : List ℕ) : Type 0 where
    pub number : ℕ
    pub known : variable_of own r ≡ Some number
    pub low : least_rate (thing_of own r) ≤ get_or values number 0
    pub high : get_or values number 0 ≤ most_of (thing_of own r)

  valued : (r : List ℕ) → 1 ≤ least_rate (thing_of own r) → IsValued r
  valued r some = go (place_of own r) refl some
    where
      go : (p : Option ℕ) → place_of own r ≡ p → 1 ≤ least_rate (found_at own.things p) → IsValued r
      go None e low = absurd (omega (arith, low))
      go (Some n) e low =
          let v = is_variable (slice_get own.things n) low in
          let t : thing_of own r ≡ Some (RateVar v.least v.greatest v.start) = ap (found_at own.things) e ∙ v.is in
          let s = sound n (RateVar v.least v.greatest v.start) v.is in
          let at : get_or values (rate_number own n) 0 ≡ v.start = get_or_from_slice_get values (rate_number own n) v.start 0 (start_there own.things n v.least v.greatest v.start v.is) in
          record {
            number = rate_number own n;
            known = ap (λ (p : Option ℕ). variable_at own p (found_at own.things p)) e ∙ ap (variable_at own (Some n)) v.is;
            low = subst (λ (o : Option Thing). least_rate o ≤ get_or values (rate_number own n) 0) (sym t) (let h = s.1 in omega (arith, at, h));
            high = subst (λ (o : Option Thing). get_or values (rate_number own n) 0 ≤ most_of o) (sym t) (let h = s.2 in omega (arith, at, h));
          }

  limit_fine : (rate : Limit) → 1 ≤ least_of own rate → greatest_of own rate ≤ greatest_rate → IsRate (times_value (rate_of_limit own rate).times values (rate_of_limit own rate).var)
  unfolding least_of greatest_of
  limit_fine (limit.Int n) low high = record { some = low; few = high }
  limit_fine (limit.Var r) low high =
      let v = valued r low in
      subst (λ o. IsRate (times_value 1 values o)) (sym v.known) (let a = v.low in let b = v.high in record { some = omega (arith, a, low); few = omega (arith, b, high) })
  limit_fine (limit.Times c r) low high =
      let v = valued r (factor c (least_rate (thing_of own r)) low) in
      subst (λ o. IsRate (times_value c values o)) (sym v.known)
      (record { some = between c (least_rate (thing_of own r)) (get_or values v.number 0) low v.low; few = below c (get_or values v.number 0) (most_of (thing_of own r)) v.high high })
    where
      factor : (m n : ℕ) → 1 ≤ m * n → 1 ≤ n
      factor m zero some = absurd (let e : m * 0 ≡ 0 = omega arith in omega (arith, e, some))
      factor m (suc n) some = omega arith

      between : (m a b : ℕ) → 1 ≤ m * a → a ≤ b → 1 ≤ m * b
      between m a b some le = let h = mul-le-mul_left m le in omega (arith, h, some)

      below : (m a b : ℕ) → a ≤ b → m * b ≤ greatest_rate → m * a ≤ greatest_rate
      below m a b le few = let h = mul-le-mul_left m le in omega (arith, h, few)

  one : IsRate 1
  one = record { some = omega arith; few = omega arith }

  thing_fine : (o : Option Thing) → ((t : Thing) → o ≡ Some t → IsThingSound own t) → IsRate (times_value (rate_of_limit own (rate_of_port o)).times values (rate_of_limit own (rate_of_port o)).var)
  thing_fine (Some (Port word shape rate delay)) s = let h = s (Port word shape rate delay) refl in limit_fine rate h.1 h.2
  thing_fine None s = one
  thing_fine (Some (RateVar least greatest start)) s = one
  thing_fine (Some (Const shape value)) s = one
  thing_fine (Some (Var shape start)) s = one
  thing_fine (Some (Array shape size starts)) s = one
  thing_fine (Some Event) s = one
  thing_fine (Some (Signal shape)) s = one
  thing_fine (Some (DeSignal shape start)) s = one
  thing_fine (Some Instance) s = one
  thing_fine (Some (Loop from end)) s = one
  thing_fine (Some (TypeName shape)) s = one
  thing_fine (Some Tdf) s = one
  thing_fine (Some De) s = one
  thing_fine (Some Composite) s = one

  thing_sound : (name : List ℕ) (t : Thing) → thing_of own name ≡ Some t → IsThingSound own t
  thing_sound name t is = go (place_of own name) is
    where
      go : (p : Option ℕ) → found_at own.things p ≡ Some t → IsThingSound own t
      go None e = absurd (none_some e)
      go (Some n) e = sound n t e

-- the roles of declarations
module _ (globals : Names) (checked : Checked) where
  port_fine : (block : PureTdf) (sound : IsSound (tdf_scope globals block)) → Each KeepsAttr block.attrs → (ports : List PortLine)
      → AllByRecursion (IsPortFine (values (tdf_scope globals block).own sound.own)) (map (port_data (tdf_scope globals block) block) ports)
  port_fine block sound kept [] = tt
  port_fine block sound kept (p ∷ ports) = (
    record {
      step = step_few p.name (thing_of (tdf_scope globals block).own p.name) block.attrs kept;
      rate = thing_fine (tdf_scope globals block).own sound.own (thing_of (tdf_scope globals block).own p.name) (thing_sound (tdf_scope globals block).own sound.own p.name);
    },
    port_fine block sound kept ports,
  )

  role_fine : (number : ℕ) (block : PureTdf) (b : Block) → slice_get checked.blocks.items number ≡ Some b → IsBlockOf (tdf_scope globals block) (Module block) b → Each KeepsAttr block.attrs
      → IsRoleFine checked (module_role globals number block)
  role_fine number block b is of kept = record {
    block = slice_get_within checked.blocks.items number b is;
    step = last_few module_step own_few 0 block.attrs (omega arith) kept;
    ports = subst (λ vs. AllByRecursion (IsPortFine vs) (map (port_data (tdf_scope globals block) block) (ports_of_tdf block)))
        (sym (ap (λ (o : Option Block). map (λ (r : RateSpan). r.start) (block_rates o)) is ∙ ap (map (λ (r : RateSpan). r.start)) of.rates))
        (port_fine block of.sound kept (ports_of_tdf block));
  }

  pub roles_fine : (number : ℕ) (gs : List PureGlobal) (top : PureComposite) (bs : List Block) → AreBlocksOf globals (blocks_of gs) bs → Each KeepsGlobal gs
      → ((j : ℕ) → slice_get checked.blocks.items (number + j) ≡ slice_get bs j) → AllByRecursion (IsFine checked) (roles_from globals number (gs ++ GNet top ∷ []))
  unfolding roles_from
  roles_fine number [] top bs are kept same = (tt, tt)
  roles_fine number (GShape t ∷ gs) top bs are kept same = roles_fine number gs top bs are kept.1 same
  roles_fine number (GTdf block ∷ gs) top [] are kept same = absurd are
  roles_fine number (GTdf block ∷ gs) top (b ∷ bs) are kept same = (
    role_fine number block b (ap (slice_get checked.blocks.items) (omega arith) ∙ same 0) are.0 kept.0.attrs,
    roles_fine (number + 1) gs top bs are.1 kept.1 (λ j. ap (slice_get checked.blocks.items) (omega arith) ∙ same (suc j)),
  )
  roles_fine number (GDe block ∷ gs) top [] are kept same = absurd are
  roles_fine number (GDe block ∷ gs) top (b ∷ bs) are kept same = (tt, roles_fine (number + 1) gs top bs are.1 kept.1 (λ j. ap (slice_get checked.blocks.items) (omega arith) ∙ same (suc j)))
  roles_fine number (GNet block ∷ gs) top bs are kept same = (tt, roles_fine number gs top bs are kept.1 same)
