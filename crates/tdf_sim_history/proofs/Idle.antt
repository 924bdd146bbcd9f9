-- Where nothing is ever due, nothing happens.
use Rattle.std.proofs.Common.{◌≡◌, ◌∙◌, ℕ, ◌+◌, false, List, [], ap, arith, sym}
use Rattle.std.specs.List.{list_any}
use Rattle.std.specs.Prelude.{◌||◌}
use Rattle.tdf_sim_history.specs.Instant.{engine, is_cluster_due, is_due}
use Rattle.tdf_sim_history.specs.Laws.{IdleStaysOn}
use Rattle.tdf_sim_history.specs.World.{ClusterAt, Rules, World}
use Rattle.tdf_sim_history.proofs.Instants.{skipped, starts}
use Rattle.tdf_sim_history.specs.History.{history}

none_due : (rules : Rules ℕ) (start : World ℕ) → start.clusters ≡ [] → (t : ℕ) → rules.event_side.is_due start.events t ≡ false → is_due rules start t ≡ false
none_due rules start none t quiet = ap (λ (l : List ClusterAt). list_any (is_cluster_due t) l || rules.event_side.is_due start.events t) none ∙ quiet

pub idle_stays_on : IdleStaysOn
idle_stays_on model flat rules start none quiet time =
    let e : time + 0 ≡ time = omega arith in
    ap (history (engine model flat rules) 0 start) (sym e)
    ∙ skipped (engine model flat rules) 0 start 0 start time (starts (engine model flat rules) 0 start) (λ t low high. none_due rules start none t (quiet t))
