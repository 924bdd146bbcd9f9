-- The rates of an edge between ports of rate 1.
use Rattle.std.proofs.Common.{◌≡◌, ◌∙◌, ℕ, List, Option, Some, None, refl, sym}
use Rattle.tdf_bind_connections.specs.declared.edges.EdgeRow.{EdgeRow}
use Rattle.tdf_dynamic_plans.specs.Rates.{read_rate_by, write_rate_by}
use Rattle.tdf_graph.specs.declared.actors.Port.{Port}
use Rattle.tdf_lang_tree.specs.declared.blocks.PortKind.{PortKind}
use Rattle.tdf_lang_tree.specs.declared.blocks.PortKind.TheVariants.{In, Out, DeIn, DeOut}
use Rattle.tdf_timestep.specs.Period.{rate_at_port}

pub read_one : (ports : List Port) (edge : EdgeRow) (kind : Option PortKind) (own driven : ℕ) → own ≡ 1 → driven ≡ 1 → rate_at_port ports (Some edge.port) ≡ own → rate_at_port ports edge.driver ≡ driven → 1 ≡ read_rate_by ports edge kind
read_one ports edge None own driven one other own_is driven_is = refl
read_one ports edge (Some In) own driven one other own_is driven_is = sym (own_is ∙ one)
read_one ports edge (Some Out) own driven one other own_is driven_is = refl
read_one ports edge (Some DeIn) own driven one other own_is driven_is = sym (own_is ∙ one)
read_one ports edge (Some DeOut) own driven one other own_is driven_is = refl

pub write_one : (ports : List Port) (edge : EdgeRow) (kind : Option PortKind) (own driven : ℕ) → own ≡ 1 → driven ≡ 1 → rate_at_port ports (Some edge.port) ≡ own → rate_at_port ports edge.driver ≡ driven → 1 ≡ write_rate_by ports edge kind
write_one ports edge None own driven one other own_is driven_is = refl
write_one ports edge (Some In) own driven one other own_is driven_is = sym (driven_is ∙ other)
write_one ports edge (Some Out) own driven one other own_is driven_is = refl
write_one ports edge (Some DeIn) own driven one other own_is driven_is = refl
write_one ports edge (Some DeOut) own driven one other own_is driven_is = sym (own_is ∙ one)

pub ruleset ones = (read_one, write_one)
