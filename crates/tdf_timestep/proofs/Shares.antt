-- Shares are small.
use Rattle.std.proofs.Common.{◌≡◌, ℕ, ◌*◌, ◌<◌, ◌≤◌, ◌^◌, List, Some, length, sym, subst}
use Rattle.std.proofs.Math.ListN.{get_or}
use Rattle.std.proofs.Math.Nat.{mul-le-mul}
use Rattle.std.proofs.lemmas.List.Elements.{All-get_or}
use Rattle.std.proofs.lemmas.Option.{slice_get_within}
use Rattle.std.specs.Prelude.{All}
use Rattle.tdf_base.specs.Limits.{most_firings, greatest_rate}
use Rattle.tdf_graph.specs.Ranges.{IsGraphPort}
use Rattle.tdf_graph.specs.declared.actors.Port.{Port}
use Rattle.tdf_timestep.specs.Period.{IsPortOf}

pub share_few : (count : ℕ) (ports : List Port) (counts : List ℕ) (actor number : ℕ) (port : Port) (rate : ℕ) → All (IsGraphPort count) ports → All (λ q. q ≤ most_firings) counts
    → actor < length counts → IsPortOf ports actor (Some number) → port ≡ get_or ports number port → rate ≡ port.rate
    → get_or counts actor 0 * rate ≤ 2 ^ 30
share_few count ports counts actor number port rate fit few within own port_is rate_is =
    mul-le-mul (All-get_or (λ q. q ≤ most_firings) counts actor 0 within few)
    (subst (λ n. n ≤ greatest_rate) (sym rate_is)
    (subst (λ (p : Port). p.rate ≤ greatest_rate) (sym port_is) (All-get_or (IsGraphPort count) ports number port (slice_get_within ports number own.0 own.1) fit).rate.few))
