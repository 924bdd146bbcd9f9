-- What the ports of the instances of a composite are bound to.
-- Source: own.
use Rattle.std.specs.Prelude.{ℕ, if◌then◌else◌, List, [], ◌∷◌, Option, Some, None, map}
use Rattle.std.specs.List.{flat_map}
use Rattle.tdf_bind_ports.specs.Links.{binds}
use Rattle.tdf_bind_ports.specs.Ports.{port_of_member}
use Rattle.tdf_expr_symbols.specs.Names.{place_in}
use Rattle.tdf_expr_symbols.specs.Scope.{first_some}
use Rattle.tdf_lang_tree.specs.declared.blocks.Member.{Member}
use Rattle.tdf_lang_tree.specs.declared.blocks.Member.TheVariants as member
use Rattle.tdf_lang_tree.specs.declared.blocks.PortLine.{PortLine}
use Rattle.tdf_bind_hierarchy.specs.declared.blocks.Target.{Target}
use Rattle.tdf_bind_hierarchy.specs.declared.blocks.Target.TheVariants.{Own, Outer}

-- the signals of a composite by their names, and its ports
pub record Inside : Type 0 where
  pub signals : List (List ℕ)
  pub ports : List PortLine

abbrev pub name_of_signal : Member → List (List ℕ)
name_of_signal (member.Signal line name x) = name ∷ []
name_of_signal (member.DeSignal line name x start) = name ∷ []
name_of_signal _ = []

abbrev pub inside_of : List Member → Inside
inside_of members = record {
  signals = flat_map name_of_signal members;
  ports = flat_map port_of_member members;
}

abbrev pub own_or_outer : (signal port : Option ℕ) → Option Target
own_or_outer (Some k) port = Some (Own k)
own_or_outer None (Some k) = Some (Outer k)
own_or_outer None None = None

-- the signal or the port of this name
abbrev pub target_named : Inside → List ℕ → Option Target
target_named inside name =
    own_or_outer (place_in inside.signals name) (place_in (map (λ p. p.name) inside.ports) name)

-- what a port of an instance is bound to after a line
unfoldable pub target_after : Inside → (instance port : List ℕ) → Option Target → Member
    → Option Target
target_after inside instance port before (member.Bind line i p target) =
    if binds instance port (member.Bind line i p target)
    then first_some (target_named inside target) before else before
target_after inside instance port before _ = before

abbrev pub target_from : Inside → (instance port : List ℕ) → Option Target → List Member
    → Option Target
target_from inside instance port before [] = before
target_from inside instance port before (m ∷ ms) =
    target_from inside instance port (target_after inside instance port before m) ms

-- what the last line that binds a port of an instance binds it to
abbrev pub target_of : Inside → List Member → (instance port : List ℕ) → Option Target
target_of inside lines instance port = target_from inside instance port None lines

-- a port that is not bound has the target 0; a model without faults of links has no such port
abbrev pub or_first : Option Target → Target
or_first None = Own 0
or_first (Some target) = target
