-- The formats of the signals of a model without a fault of types are there, and are formats that there are.
use Rattle.std.proofs.Common.{◌≡◌, List, [], ◌∷◌}
use Rattle.std.specs.List.{AllByRecursion, flat_map}
use Rattle.tdf_expr.specs.Below.{composite_faults, global_faults, member_faults, traces_faults, type_faults}
use Rattle.tdf_base.proofs.Api.{none_first, none_second}
use Rattle.tdf_bind.proofs.Lists.{all_append}
use Rattle.tdf_expr.proofs.Api.{AllThings, IsGlobal, format_there, globals_all}
use Rattle.tdf_bind_names.specs.Resolved.{whole}
use Rattle.tdf_bind_names.specs.Signals.{Declared, declared_by}
use Rattle.tdf_expr_symbols.specs.Names.{Names, Port, format_of, globals_of}
use Rattle.tdf_expr_symbols.specs.Scope.{Scope, composite_scope}
use Rattle.tdf_expr_symbols.specs.Sound.{HasFormat}
use Rattle.tdf_lang_tree.specs.Pure.{PureComposite, PureGlobal, GShape, GTdf, GDe, GNet, PureTree}
use Rattle.tdf_lang_tree.specs.declared.blocks.Member.TheVariants as member
use Rattle.tdf_lang_tree.specs.declared.blocks.Member.{Member}
use Rattle.tdf_lang_tree.specs.declared.shapes.FormatRef.{FormatRef}

-- the format of a line that declares a signal
abbrev pub IsFormatted : Names → Declared → Type 0
IsFormatted globals d = HasFormat (format_of globals d.format)

abbrev pub AreFormatted : Names → PureGlobal → Type 0
AreFormatted globals (GNet block) = AllByRecursion (IsFormatted globals) (flat_map declared_by block.members)
AreFormatted globals (GShape t) = Unit {0}
AreFormatted globals (GTdf block) = Unit {0}
AreFormatted globals (GDe block) = Unit {0}

module _ (scope : Scope) (all : AllThings IsGlobal scope.globals) where
  member_there : (m : Member) → member_faults scope m ≡ [] → AllByRecursion (IsFormatted scope.globals) (declared_by m)
  unfolding member_faults
  member_there (member.Port port) none = tt
  member_there (member.Signal line name x) none = (format_there scope.globals line x all none, tt)
  member_there (member.DeSignal line name x start) none = (format_there scope.globals line x all none, tt)
  member_there (member.Instance line name block) none = tt
  member_there (member.Bind line instance port target) none = tt

  pub members_there : (ms : List Member) → flat_map (member_faults scope) ms ≡ [] → AllByRecursion (IsFormatted scope.globals) (flat_map declared_by ms)
  members_there [] none = tt
  members_there (m ∷ ms) none =
      all_append (IsFormatted scope.globals) (declared_by m) (flat_map declared_by ms) (member_there m (none_first (member_faults scope m) (flat_map (member_faults scope) ms) none))
      (members_there ms (none_second (member_faults scope m) (flat_map (member_faults scope) ms) none))

composite_there : (globals : Names) (block : PureComposite) → AllThings IsGlobal globals → composite_faults globals block ≡ [] → AreFormatted globals (GNet block)
unfolding composite_faults
composite_there globals block all none = members_there (composite_scope globals block) all block.members none

globals_there : (globals : Names) (gs : List PureGlobal) → AllThings IsGlobal globals → flat_map (global_faults globals) gs ≡ [] → AllByRecursion (AreFormatted globals) gs
unfolding global_faults
globals_there globals [] all none = tt
globals_there globals (g ∷ gs) all none =
    (one g (none_first (global_faults globals g) (flat_map (global_faults globals) gs) none), globals_there globals gs all (none_second (global_faults globals g) (flat_map (global_faults globals) gs) none))
  where
    one : (x : PureGlobal) → global_faults globals x ≡ [] → AreFormatted globals x
    one (GShape t) e = tt
    one (GTdf block) e = tt
    one (GDe block) e = tt
    one (GNet block) e = composite_there globals block all e

pub formats_there : (model : PureTree) → type_faults model ≡ [] → AllByRecursion (AreFormatted (globals_of model.globals)) (whole model)
unfolding type_faults
formats_there model none =
    let globals = globals_of model.globals in
    let first = none_first (flat_map (global_faults globals) model.globals) _ none in
    let top = none_first (composite_faults globals model.top) (traces_faults model.traces) (none_second (flat_map (global_faults globals) model.globals) _ none) in
    let all = globals_all globals model.globals first in
    all_append (AreFormatted globals) model.globals (GNet model.top ∷ []) (globals_there globals model.globals all first) (composite_there globals model.top all top, tt)
