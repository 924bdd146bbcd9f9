-- A `top` without a port has none.
use Rattle.std.proofs.Common.{◌≡◌, List, [], ◌∷◌, refl}
use Rattle.std.specs.List.{AllByRecursion, flat_map}
use Rattle.tdf_lang_parser.specs.Formed.{IsFormed, IsNoPort}
use Rattle.tdf_bind_ports.specs.Ports.{port_of_member, ports_of_composite}
use Rattle.tdf_lang_tree.specs.Pure.{PureTree}
use Rattle.tdf_lang_tree.specs.declared.blocks.Member.{Member}
use Rattle.tdf_lang_tree.specs.declared.blocks.Member.TheVariants as member

no_ports : (ms : List Member) → AllByRecursion IsNoPort ms → flat_map port_of_member ms ≡ []
no_ports [] all = refl
no_ports (member.Port port ∷ ms) all = absurd all.0
no_ports (member.Signal line name x ∷ ms) all = no_ports ms all.1
no_ports (member.DeSignal line name x start ∷ ms) all = no_ports ms all.1
no_ports (member.Instance line name block ∷ ms) all = no_ports ms all.1
no_ports (member.Bind line instance port target ∷ ms) all = no_ports ms all.1

pub closed_top : (tree : PureTree) → IsFormed tree → ports_of_composite tree.top ≡ []
closed_top tree formed = no_ports tree.top.members formed.closed
