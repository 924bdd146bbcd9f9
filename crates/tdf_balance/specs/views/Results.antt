-- What adding edges answers.
use Rattle.std.specs.Prelude.{ℕ, ◌≡◌, ◌<◌, ◌≤◌, List, sum, Result, Ok, Err, Vec}
use Rattle.std.specs.Global.{Global}
use Rattle.tdf_balance.specs.Balance.{cluster_edges, IsUnsolvable, IsTooLarge, IsNoneBad, HasCounts, IsRatesFault, IsSizeFault}
use Rattle.tdf_balance.specs.declared.err.BalanceErr.{BalanceErr}
use Rattle.tdf_balance.specs.declared.err.BalanceErr.TheVariants.{Rates, TooLarge, Memory}
use Rattle.tdf_balance.specs.declared.solution.Solution.{Solution}
use Rattle.tdf_balance.specs.views.Solution.{AreLeast, IsKept}
use Rattle.tdf_base.specs.Limits.{most_firings}
use Rattle.tdf_graph.specs.declared.actors.Edge.{Edge}

-- the answer for these edges, the last of which has a number
abbrev pub IsNext : (count number : ℕ) → List Edge → Result Solution BalanceErr → Type 0
IsNext count number edges (Ok s) = AreLeast count edges s.parts s.counts.items
IsNext count number edges (Err (Rates k)) = (k ≡ number) × IsUnsolvable edges
IsNext count number edges (Err TooLarge) = IsTooLarge edges
IsNext count number edges (Err Memory) = Unit {0}

-- the answer for the edges of a cluster
abbrev pub IsSolved : (count : ℕ) → List Edge → (clusters : List ℕ) (cluster : ℕ)
    → Result Solution BalanceErr → Type 0
IsSolved count edges clusters cluster (Ok s) =
    IsNoneBad edges clusters cluster
    × AreLeast count (cluster_edges clusters cluster edges) s.parts s.counts.items
IsSolved count edges clusters cluster (Err (Rates k)) = IsRatesFault edges clusters cluster k
IsSolved count edges clusters cluster (Err TooLarge) = IsSizeFault edges clusters cluster
IsSolved count edges clusters cluster (Err Memory) = Unit {0}

-- the counts of a cluster's actors with 0 for all others, or that they are too many
abbrev pub IsFinished : (clusters : List ℕ) (cluster : ℕ) (counts : List ℕ)
    → Result (Vec ℕ Global) BalanceErr → Type 0
IsFinished clusters cluster counts (Ok kept) =
    IsKept clusters cluster counts kept.items × (sum kept.items ≤ most_firings)
IsFinished clusters cluster counts (Err (Rates k)) = ⊥
IsFinished clusters cluster counts (Err TooLarge) =
    (kept : List ℕ) × IsKept clusters cluster counts kept × (most_firings < sum kept)
IsFinished clusters cluster counts (Err Memory) = ⊥

-- the counts of a cluster, or its fault
abbrev pub IsAnswer : List Edge → (clusters : List ℕ) (cluster : ℕ)
    → Result (Vec ℕ Global) BalanceErr → Type 0
IsAnswer edges clusters cluster (Ok counts) = HasCounts edges clusters cluster counts.items
IsAnswer edges clusters cluster (Err (Rates k)) = IsRatesFault edges clusters cluster k
IsAnswer edges clusters cluster (Err TooLarge) = IsSizeFault edges clusters cluster
IsAnswer edges clusters cluster (Err Memory) = Unit {0}
