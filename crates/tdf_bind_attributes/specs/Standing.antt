-- What the attribute lines of a block say: of lines that say one thing twice the last stands.
-- Source: own.
use Rattle.std.specs.Prelude.{ℕ, Bool, true, false, List, [], ◌∷◌, Option, Some, None, nat_eq, if◌then◌else◌}
use Rattle.std.specs.Cmp.Lexicographic.{pointwise}
use Rattle.tdf_lang_tree.specs.declared.blocks.Attr.{Attr}
use Rattle.tdf_lang_tree.specs.declared.blocks.Attr.TheVariants as attr

-- a value that is said, or else the one from before
abbrev pub or_else : {A : Type 0} → Option A → A → A
or_else None before = before
or_else (Some x) before = x

-- what the last line says that says anything; `before` where none does
unfoldable pub last_of : {A B : Type 0} → (A → Option B) → B → List A → B
last_of said before [] = before
last_of said before (x ∷ xs) = last_of said (or_else (said x) before) xs

abbrev pub when : {A : Type 0} → Bool → A → Option A
when so x = if so then Some x else None

-- the timestep of the module, and of a port, that a line says
abbrev pub module_step : Attr → Option ℕ
module_step (attr.Step line None step) = Some step
module_step _ = None

abbrev pub assigned_port_step : (port : List ℕ) → Attr → Option ℕ
assigned_port_step port (attr.Step line (Some name) step) = when (pointwise nat_eq port name) step
assigned_port_step port _ = None

-- whether changes of attributes are accepted, as a line says
abbrev pub accepting : Attr → Option Bool
accepting (attr.Accept line) = Some true
accepting (attr.Reject line) = Some false
accepting _ = None
