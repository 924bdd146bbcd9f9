-- Telling twice is telling both.
use Rattle.std.proofs.Common.{◌≡◌, ◌∙◌, ℕ, zero, suc, ◌+◌, List, [], ◌∷◌, ◌++◌, map, append-nil, append_assoc, ap, arith, refl}
use Rattle.std.specs.List.{enumerate_from}
use Rattle.std.specs.Prelude.{slice_index_or}
use Rattle.tdf_sim_history.specs.Telling.{all_told, told_more, world_told}
use Rattle.tdf_sim_history.specs.World.{Change, ClusterAt, World}
use Rattle.tdf_sim_history.specs.History.{Engine, after, history}

-- the history before the next time leads to it
pub next_is : {W F : Type 0} (e : Engine W F) (start : W) (time : ℕ) → history e 0 start (suc time) ≡ after e time (history e 0 start time)
unfolding history
next_is e start time = let z : 0 + time ≡ time = omega arith in ap (λ t. after e t (history e 0 start time)) z

told_index : (ahead more : List (List Change)) (k : ℕ) → slice_index_or ahead k [] ++ slice_index_or more k [] ≡ slice_index_or (all_told ahead more) k []
told_index [] more k = refl
told_index (a ∷ ahead) [] k = append-nil (slice_index_or (a ∷ ahead) k [])
told_index (a ∷ ahead) (m ∷ more) zero = refl
told_index (a ∷ ahead) (m ∷ more) (suc k) = told_index ahead more k

twice_from : (more later : List (List Change)) (k : ℕ) (cs : List ClusterAt)
    → map (λ (c : ℕ × ClusterAt). told_more (slice_index_or later c.0 []) c.1) (enumerate_from k (map (λ (c : ℕ × ClusterAt). told_more (slice_index_or more c.0 []) c.1) (enumerate_from k cs)))
    ≡ map (λ (c : ℕ × ClusterAt). told_more (slice_index_or (all_told more later) c.0 []) c.1) (enumerate_from k cs)
twice_from more later k [] = refl
twice_from more later k (c ∷ cs) =
    let both = append_assoc c.ahead (slice_index_or more k []) (slice_index_or later k []) ∙ ap (λ l. c.ahead ++ l) (told_index more later k) in
    λ i. (record c { ahead = both i }) ∷ twice_from more later (k + 1) cs i

pub told_twice : {K : Type 0} (more later : List (List Change)) (w : World K) → world_told later (world_told more w) ≡ world_told (all_told more later) w
told_twice more later w = λ i. record w { clusters = twice_from more later 0 w.clusters i }
