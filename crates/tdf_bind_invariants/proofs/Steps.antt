-- The timesteps that attribute lines say are short.
use Rattle.std.proofs.Common.{ℕ, ◌<◌, Bool, true, false, List, [], ◌∷◌, Option, Some, None, arith}
use Rattle.std.specs.Cmp.Lexicographic.{pointwise}
use Rattle.std.specs.Prelude.{nat_eq}
use Rattle.tdf_base.specs.Limits.{time_end}
use Rattle.tdf_bind.specs.Below.{assigned_port_step, last_of, module_step, or_else, step_of_port, when}
use Rattle.tdf_expr_symbols.specs.Names.{Thing}
use Rattle.tdf_lang_tree.specs.Kept.{Each, KeepsAttr}
use Rattle.tdf_lang_tree.specs.declared.blocks.Attr.{Attr}
use Rattle.tdf_lang_tree.specs.declared.blocks.Attr.TheVariants as attr

-- what a line says is short
abbrev IsShortStep : Option ℕ → Type 0
IsShortStep None = Unit {0}
IsShortStep (Some step) = step < time_end

no_step : 0 < time_end
no_step = omega arith

last_short : (said : Attr → Option ℕ) → ((a : Attr) → KeepsAttr a → IsShortStep (said a)) → (before : ℕ) → before < time_end
    → (attrs : List Attr) → Each KeepsAttr attrs → last_of said before attrs < time_end
unfolding last_of
last_short said keeps before short [] kept = short
last_short said keeps before short (a ∷ attrs) kept = last_short said keeps (or_else (said a) before) (go (said a) (keeps a kept.0)) attrs kept.1
  where
    go : (o : Option ℕ) → IsShortStep o → or_else o before < time_end
    go None is = short
    go (Some step) is = is

module_said : (a : Attr) → KeepsAttr a → IsShortStep (module_step a)
module_said (attr.Step line None step) kept = kept.1
module_said (attr.Step line (Some name) step) kept = tt
module_said _ kept = tt

port_said : (port : List ℕ) (a : Attr) → KeepsAttr a → IsShortStep (assigned_port_step port a)
port_said port (attr.Step line None step) kept = tt
port_said port (attr.Step line (Some name) step) kept = go (pointwise nat_eq port name)
  where
    go : (so : Bool) → IsShortStep (when so step)
    go true = kept.1
    go false = tt
port_said port _ kept = tt

pub module_short : (attrs : List Attr) → Each KeepsAttr attrs → last_of module_step 0 attrs < time_end
module_short attrs kept = last_short module_step module_said 0 no_step attrs kept

pub port_short : (port : List ℕ) (thing : Option Thing) (attrs : List Attr) → Each KeepsAttr attrs → step_of_port port thing attrs < time_end
port_short port None attrs kept = no_step
port_short port (Some thing) attrs kept = last_short (assigned_port_step port) (port_said port) 0 no_step attrs kept
