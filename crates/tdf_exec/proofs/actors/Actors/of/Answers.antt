use Rattle.std.proofs.Common.{rules, ◌≡◌, ◌∙◌, List, ap, length, ℕ}
use Rattle.std.specs.Prelude.{replicate}
use Rattle.tdf_places.proofs.Api.{spread_replicate}
use Rattle.tdf_places.specs.Spread.{spread}
use Rattle.tdf_exec.proofs.actors.Actors.of.Goals as goal

pub returns-clause-none_done : goal.returns-clause-none_done
returns-clause-none_done c =
    let zeros : c.in_ok-positions.positions.items ≡ replicate (length c.args.places.numbers) 0 = search rules in
    ap (λ (l : List ℕ). spread 0 c.args.places l) zeros ∙ spread_replicate 0 c.args.places c.law_apart.ensures
