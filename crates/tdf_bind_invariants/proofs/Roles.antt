-- The numbers of the role of each module lie within their limits.
use Rattle.std.proofs.Common.{◌≡◌, ◌∙◌, ℕ, suc, ◌+◌, ◌<◌, ◌≤◌, List, [], ◌∷◌, ◌++◌, Some, map, sym, ap, subst, arith}
use Rattle.std.proofs.lemmas.List.Elements.{All-from_recursion}
use Rattle.std.proofs.lemmas.Option.{slice_get_within}
use Rattle.std.specs.List.{AllByRecursion, flat_map}
use Rattle.std.specs.Prelude.{slice_get}
use Rattle.tdf_base.specs.Limits.{greatest_delay, time_end}
use Rattle.tdf_bind_tables.specs.FlatTables.{AreShort, IsShortRole}
use Rattle.tdf_expr_blocks.specs.Blocks.{tdf_faults}
use Rattle.tdf_expr_blocks.specs.Types.{global_faults}
use Rattle.tdf_expr.specs.Blocks.{Module as TdfBlock, blocks_of}
use Rattle.tdf_expr.specs.Compiled.{IsBlockOf, AreBlocksOf}
use Rattle.tdf_expr.specs.Frames.{limits_of_rate}
use Rattle.tdf_expr.specs.Made.{block_count, rate_spans_of, block_rates, start_rates}
use Rattle.tdf_expr.specs.Plans.{rate_spans}
use Rattle.tdf_expr.specs.declared.blocks.Block.{Block}
use Rattle.tdf_expr.specs.declared.checked.Checked.{Checked}
use Rattle.tdf_expr.specs.declared.spans.RateSpan.{RateSpan}
use Rattle.tdf_base.proofs.Api.{none_first, none_second}
use Rattle.tdf_bind.proofs.Api.{IsShortThing, delay_of, names_short}
use Rattle.tdf_bind_invariants.proofs.Rates.{port_always}
use Rattle.tdf_expr.proofs.Api.{limits_same, rates_in_order, rates_start, AllThings}
use Rattle.tdf_bind_invariants.proofs.Steps.{module_short, port_short}
use Rattle.tdf_bind_invariants.specs.Limits.{IsAlwaysRate}
use Rattle.tdf_bind_ports.specs.Ports.{ports_of_tdf}
use Rattle.tdf_expr_semantics.specs.Fits.{RatesFit}
use Rattle.tdf_expr_semantics.specs.Places.{RateLimits, rate_limits}
use Rattle.tdf_bind.specs.Below.{module_role, port_data, roles_from}
use Rattle.tdf_expr_symbols.specs.Names.{Names, thing_of}
use Rattle.tdf_expr_symbols.specs.Scope.{Scope, tdf_scope}
use Rattle.tdf_expr_symbols.specs.Sound.{IsSound}
use Rattle.tdf_lang_tree.specs.Kept.{Each, KeepsAttr, KeepsGlobal, KeepsTdf}
use Rattle.tdf_lang_tree.specs.Pure.{PureTdf, PureComposite, PureGlobal, GShape, GTdf, GDe, GNet}
use Rattle.tdf_lang_tree.specs.declared.blocks.PortLine.{PortLine}
use Rattle.tdf_bind_connections.specs.Roles.{ModuleRole}
use Rattle.tdf_bind_connections.specs.declared.roles.PortData.{PortData}
use Rattle.tdf_bind_connections.specs.declared.roles.Role.{Role}
use Rattle.tdf_bind_connections.specs.declared.roles.Role.TheVariants.{Module, Processes, Composite}

pub record IsPortWithin (limits : List RateLimits) (port : PortData) : Type 0 where
  pub delay : port.delay ≤ greatest_delay
  pub step : port.step < time_end
  pub rate : IsAlwaysRate limits port.rate

pub record IsModuleWithin (checked : Checked) (role : ModuleRole) : Type 0 where
  pub step : role.step < time_end
  pub block : role.block < block_count checked
  pub starts : RatesFit (map limits_of_rate (rate_spans_of checked role.block)) (start_rates checked role.block)
  pub ports : AllByRecursion (IsPortWithin (map limits_of_rate (rate_spans_of checked role.block))) role.ports

abbrev pub IsRoleWithin : Checked → Role → Type 0
IsRoleWithin checked (Module role) = IsModuleWithin checked role
IsRoleWithin checked (Processes role) = Unit {0}
IsRoleWithin checked Composite = Unit {0}

ports_within : (scope : Scope) (block : PureTdf) → IsSound scope → AllThings IsShortThing scope.own → Each KeepsAttr block.attrs → (ports : List PortLine)
    → AllByRecursion (IsPortWithin (rate_limits scope.own)) (map (port_data scope block) ports)
ports_within scope block sound short kept [] = tt
ports_within scope block sound short kept (port ∷ ports) = (
  record {
    delay = delay_of scope.own short port.name;
    step = port_short port.name (thing_of scope.own port.name) block.attrs kept;
    rate = port_always scope sound port.name;
  },
  ports_within scope block sound short kept ports,
)

module_within : (globals : Names) (checked : Checked) (number : ℕ) (block : PureTdf) (b : Block) → tdf_faults globals block ≡ [] → KeepsTdf block
    → IsBlockOf (tdf_scope globals block) (TdfBlock block) b → slice_get checked.blocks.items number ≡ Some b
    → IsModuleWithin checked (module_role globals number block)
module_within globals checked number block b none kept is at =
    let scope = tdf_scope globals block in
    let spans : rate_spans_of checked number ≡ rate_spans scope.own = ap block_rates at ∙ is.rates in
    let limits : map limits_of_rate (rate_spans_of checked number) ≡ rate_limits scope.own = ap (map limits_of_rate) spans ∙ sym (limits_same scope.own.things) in
    record {
      step = module_short block.attrs kept.attrs;
      block = slice_get_within checked.blocks.items number b at;
      starts = subst (λ (l : List RateSpan). RatesFit (map limits_of_rate l) (map (λ r. r.start) l)) (sym spans)
          (rates_start (rate_spans scope.own) (rates_in_order scope.own scope.own.things is.sound.own));
      ports = subst (λ (l : List RateLimits). AllByRecursion (IsPortWithin l) (map (port_data scope block) (ports_of_tdf block))) (sym limits)
          (ports_within scope block is.sound (names_short globals block none) kept.attrs (ports_of_tdf block));
    }

-- the blocks from `number` on are those that come
next_at : (all : List Block) (number : ℕ) (b : Block) (bs : List Block) → ((n : ℕ) → slice_get all (number + n) ≡ slice_get (b ∷ bs) n)
    → (n : ℕ) → slice_get all (number + 1 + n) ≡ slice_get bs n
next_at all number b bs at n =
    let next : number + 1 + n ≡ number + suc n = omega arith in
    ap (slice_get all) next ∙ at (suc n)

first_at : (all : List Block) (number : ℕ) (b : Block) (bs : List Block) → ((n : ℕ) → slice_get all (number + n) ≡ slice_get (b ∷ bs) n)
    → slice_get all number ≡ Some b
first_at all number b bs at =
    let here : number ≡ number + 0 = omega arith in
    ap (slice_get all) here ∙ at 0

pub roles_within : (globals : Names) (checked : Checked) (number : ℕ) (gs : List PureGlobal) (top : PureComposite) (bs : List Block) → flat_map (global_faults globals) gs ≡ []
    → Each KeepsGlobal gs → AreBlocksOf globals (blocks_of gs) bs → ((n : ℕ) → slice_get checked.blocks.items (number + n) ≡ slice_get bs n)
    → AllByRecursion (IsRoleWithin checked) (roles_from globals number (gs ++ GNet top ∷ []))
unfolding roles_from global_faults
roles_within globals checked number [] top bs none kept are at = (tt, tt)
roles_within globals checked number (GShape t ∷ gs) top bs none kept are at =
    roles_within globals checked number gs top bs (none_second (global_faults globals (GShape t)) (flat_map (global_faults globals) gs) none) kept.1 are at
roles_within globals checked number (GTdf block ∷ gs) top [] none kept are at = absurd are
roles_within globals checked number (GTdf block ∷ gs) top (b ∷ bs) none kept are at = (
  module_within globals checked number block b (none_first (tdf_faults globals block) (flat_map (global_faults globals) gs) none) kept.0 are.0 (first_at checked.blocks.items number b bs at),
  roles_within globals checked (number + 1) gs top bs (none_second (tdf_faults globals block) (flat_map (global_faults globals) gs) none) kept.1 are.1 (next_at checked.blocks.items number b bs at),
)
roles_within globals checked number (GDe block ∷ gs) top [] none kept are at = absurd are
roles_within globals checked number (GDe block ∷ gs) top (b ∷ bs) none kept are at = (
  tt,
  roles_within globals checked (number + 1) gs top bs (none_second (global_faults globals (GDe block)) (flat_map (global_faults globals) gs) none) kept.1 are.1 (next_at checked.blocks.items number b bs at),
)
roles_within globals checked number (GNet block ∷ gs) top bs none kept are at = (
  tt,
  roles_within globals checked number gs top bs (none_second (global_faults globals (GNet block)) (flat_map (global_faults globals) gs) none) kept.1 are at,
)

-- so the delays of all roles are short
delays : (limits : List RateLimits) (ports : List PortData) → AllByRecursion (IsPortWithin limits) ports → AllByRecursion (λ (p : PortData). p.delay ≤ greatest_delay) ports
delays limits [] all = tt
delays limits (p ∷ ports) all = (all.0.delay, delays limits ports all.1)

role_short : (checked : Checked) (role : Role) → IsRoleWithin checked role → IsShortRole role
role_short checked (Module role) is =
    All-from_recursion (λ (p : PortData). p.delay ≤ greatest_delay) role.ports (delays (map limits_of_rate (rate_spans_of checked role.block)) role.ports is.ports)
role_short checked (Processes role) is = tt
role_short checked Composite is = tt

pub roles_short : (checked : Checked) (roles : List Role) → AllByRecursion (IsRoleWithin checked) roles → AreShort roles
roles_short checked roles all = All-from_recursion IsShortRole roles (go roles all)
  where
    go : (rs : List Role) → AllByRecursion (IsRoleWithin checked) rs → AllByRecursion IsShortRole rs
    go [] each = tt
    go (r ∷ rs) each = (role_short checked r each.0, go rs each.1)
