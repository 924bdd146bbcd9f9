-- A model without a first fault by line has none, and what its first fault is.
use Rattle.std.proofs.Common.{◌≡◌, Bool, true, false, List, [], ◌∷◌, Option, Some, None, refl, sym, ap, if◌then◌else◌}
use Rattle.std.specs.Option.{option_map}
use Rattle.std.specs.Prelude.{Result, Ok, Err, IfErr}
use Rattle.tdf_base.specs.declared.faults.Fault.{Fault}
use Rattle.tdf_bind_tables.specs.FlatTables.{FlatTablesOf, IsFlatRefusal}
use Rattle.tdf_bind_tables.specs.declared.flat.BindErr.{BindErr}
use Rattle.tdf_bind_tables.specs.declared.flat.BindErr.TheVariants.{Refused, Memory}
use Rattle.tdf_expr.specs.Blocks.{blocks_of}
use Rattle.tdf_expr.specs.Compiled.{AreBlocksOf}
use Rattle.tdf_expr.specs.declared.blocks.Block.{Block}
use Rattle.tdf_bind.specs.Flat.{IsBindFault, OfLine, OfTables, IsBindRefusal, IsLinked, top_place, trace_lines}
use Rattle.tdf_bind_ports.specs.Faults.{LinkFault, link_comes_before, lesser_link, least_link_with, first_link_fault, fault_of_link}
use Rattle.tdf_bind_ports.specs.Links.{link_faults}
use Rattle.tdf_bind_attributes.specs.Roles.{AreModulesSound, roles_of}
use Rattle.tdf_expr_symbols.specs.Names.{Names}
use Rattle.tdf_lang_tree.specs.Pure.{PureGlobal, GShape, GTdf, GDe, GNet, PureTree}
use Rattle.tdf_bind_hierarchy.specs.Blocks.{BlockOf}

stays_some : (faults : List LinkFault) (f : LinkFault) → least_link_with (Some f) faults ≡ None → ⊥
unfolding least_link_with lesser_link
stays_some [] f e = cc
stays_some (g ∷ faults) f e = go (link_comes_before g f) (λ h. stays_some faults h) e
  where
    go : (so : Bool) → ((h : LinkFault) → least_link_with (Some h) faults ≡ None → ⊥) → least_link_with (if so then Some g else Some f) faults ≡ None → ⊥
    go true rest e = rest g e
    go false rest e = rest f e

pub no_link_fault : (faults : List LinkFault) → first_link_fault faults ≡ None → faults ≡ []
unfolding least_link_with lesser_link
no_link_fault [] e = refl
no_link_fault (f ∷ faults) e = absurd (stays_some faults f e)

none_of : (o : Option LinkFault) → option_map fault_of_link o ≡ None → o ≡ None
none_of None e = refl
none_of (Some f) e = absurd cc

pub no_fault : (faults : List LinkFault) → None ≡ option_map fault_of_link (first_link_fault faults) → faults ≡ []
no_fault faults e = no_link_fault faults (none_of (first_link_fault faults) (sym e))

pub line_fault : (model : PureTree) (fault : Fault) → Some fault ≡ option_map fault_of_link (first_link_fault (link_faults model)) → IsBindFault model fault
line_fault model fault e = go (first_link_fault (link_faults model)) refl e
  where
    held : Option Fault → Fault
    held None = fault
    held (Some x) = x

    go : (o : Option LinkFault) → first_link_fault (link_faults model) ≡ o → Some fault ≡ option_map fault_of_link o → IsBindFault model fault
    go None is e = absurd cc
    go (Some f) is e = OfLine f is (ap held e)

pub refused_by : (model : PureTree) (blocks : List BlockOf) → IsLinked model blocks → (r : Result FlatTablesOf BindErr)
    → IfErr r (IsFlatRefusal blocks (top_place blocks) (roles_of model) (trace_lines model)) → IfErr r (IsBindRefusal model)
refused_by model blocks linked (Ok tables) is = tt
refused_by model blocks linked (Err (Refused fault)) is = OfTables blocks linked is
refused_by model blocks linked (Err Memory) is = tt

-- the modules of a model that was checked have sound names
pub modules_sound : (globals : Names) (gs : List PureGlobal) (bs : List Block) → AreBlocksOf globals (blocks_of gs) bs → AreModulesSound globals gs
modules_sound globals [] bs are = tt
modules_sound globals (GShape t ∷ gs) bs are = modules_sound globals gs bs are
modules_sound globals (GTdf block ∷ gs) [] are = absurd are
modules_sound globals (GTdf block ∷ gs) (b ∷ bs) are = (are.0.sound, modules_sound globals gs bs are.1)
modules_sound globals (GDe block ∷ gs) [] are = absurd are
modules_sound globals (GDe block ∷ gs) (b ∷ bs) are = modules_sound globals gs bs are.1
modules_sound globals (GNet block ∷ gs) bs are = modules_sound globals gs bs are

pub ruleset link_laws = (no_fault)
