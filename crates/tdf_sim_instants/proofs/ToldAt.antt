-- One boundary of an instant more of which something is told.
use Rattle.std.proofs.Common.{◌≡◌, ◌≢◌, ◌∙◌, ℕ, zero, suc, ◌+◌, List, [], ◌∷◌, Some, option_map, length, map, refl, sym, ap, arith}
use Rattle.std.proofs.lemmas.List.{append-nil}
use Rattle.std.specs.List.{enumerate_from}
use Rattle.std.specs.Prelude.{slice_get, slice_index_or, slice_set}
use Rattle.tdf_sim_history.specs.Telling.{told_more, world_told}
use Rattle.tdf_sim_history.specs.World.{Change, ClusterAt, World}

-- a change of cluster n, and nothing of others
abbrev pub told_at : (n : ℕ) → Change → List (List Change)
told_at zero change = (change ∷ []) ∷ []
told_at (suc n) change = [] ∷ told_at n change

pub told_here : (n : ℕ) (change : Change) → slice_index_or (told_at n change) n [] ≡ change ∷ []
told_here zero change = refl
told_here (suc n) change = told_here n change

pub told_elsewhere : (n m : ℕ) (change : Change) → m ≢ n → slice_index_or (told_at n change) m [] ≡ []
told_elsewhere zero zero change apart = absurd (apart refl)
told_elsewhere zero (suc m) change apart = refl
told_elsewhere (suc n) zero change apart = refl
told_elsewhere (suc n) (suc m) change apart = told_elsewhere n m change (λ e. apart (ap suc e))

nothing_more : (c : ClusterAt) → told_more [] c ≡ c
nothing_more c = λ i. record c { ahead = append-nil c.ahead i }

-- all clusters from a number on, of which more is told
abbrev tell_from : (more : List (List Change)) (k : ℕ) → List ClusterAt → List ClusterAt
tell_from more k cs = map (λ (c : ℕ × ClusterAt). told_more (slice_index_or more c.0 []) c.1) (enumerate_from k cs)

told_from : (more : List (List Change)) (k m : ℕ) (cs : List ClusterAt) → slice_get (tell_from more k cs) m ≡ option_map (told_more (slice_index_or more (k + m) [])) (slice_get cs m)
told_from more k m [] = refl
told_from more k zero (c ∷ cs) = let e : k ≡ k + 0 = omega arith in ap (λ j. Some (told_more (slice_index_or more j []) c)) e
told_from more k (suc m) (c ∷ cs) = let e : k + 1 + m ≡ k + suc m = omega arith in
    told_from more (k + 1) m cs ∙ ap (λ j. option_map (told_more (slice_index_or more j [])) (slice_get cs m)) e

pub told_get : {K : Type 0} (more : List (List Change)) (m : ℕ) (w : World K) → slice_get (world_told more w).clusters m ≡ option_map (told_more (slice_index_or more m [])) (slice_get w.clusters m)
told_get more m w = let e : 0 + m ≡ m = omega arith in told_from more 0 m w.clusters ∙ ap (λ j. option_map (told_more (slice_index_or more j [])) (slice_get w.clusters m)) e

long_from : (more : List (List Change)) (k : ℕ) (cs : List ClusterAt) → length (tell_from more k cs) ≡ length cs
long_from more k [] = refl
long_from more k (c ∷ cs) = ap suc (long_from more (k + 1) cs)

pub told_long : {K : Type 0} (more : List (List Change)) (w : World K) → length (world_told more w).clusters ≡ length w.clusters
told_long more w = long_from more 0 w.clusters

none_from : (more : List (List Change)) (k : ℕ) (cs : List ClusterAt) → ((m : ℕ) → slice_index_or more (k + m) [] ≡ []) → tell_from more k cs ≡ cs
none_from more k [] none = refl
none_from more k (c ∷ cs) none =
    let z : k + 0 ≡ k = omega arith in
    let here : told_more (slice_index_or more k []) c ≡ c = ap (λ l. told_more l c) (ap (λ j. slice_index_or more j []) (sym z) ∙ none 0) ∙ nothing_more c in
    let rest = none_from more (k + 1) cs (λ m. (let e : k + 1 + m ≡ k + suc m = omega arith in ap (λ j. slice_index_or more j []) e ∙ none (suc m))) in
    λ i. here i ∷ rest i

set_from : (more : List (List Change)) (k n : ℕ) (cs : List ClusterAt) (d : ClusterAt) → ((m : ℕ) → m ≢ n → slice_index_or more (k + m) [] ≡ []) → slice_set (tell_from more k cs) n d ≡ slice_set cs n d
set_from more k n [] d none = refl
set_from more k zero (c ∷ cs) d none =
    let rest = none_from more (k + 1) cs (λ m. (let e : k + 1 + m ≡ k + suc m = omega arith in ap (λ j. slice_index_or more j []) e ∙ none (suc m) (λ s. omega (arith, s)))) in
    ap (λ l. d ∷ l) rest
set_from more k (suc n) (c ∷ cs) d none =
    let z : k + 0 ≡ k = omega arith in
    let here : told_more (slice_index_or more k []) c ≡ c = ap (λ l. told_more l c) (ap (λ j. slice_index_or more j []) (sym z) ∙ none 0 (λ s. omega (arith, s))) ∙ nothing_more c in
    let rest = set_from more (k + 1) n cs d (λ m apart. (let e : k + 1 + m ≡ k + suc m = omega arith in
    ap (λ j. slice_index_or more j []) e ∙ none (suc m) (λ s. apart (omega (arith, s))))) in
    λ i. here i ∷ rest i

-- the cluster of which something was told is another then, and the others are as they were
pub set_told : {K : Type 0} (n : ℕ) (change : Change) (w : World K) (d : ClusterAt) → slice_set (world_told (told_at n change) w).clusters n d ≡ slice_set w.clusters n d
set_told n change w d = set_from (told_at n change) 0 n w.clusters d (λ m apart. (let e : 0 + m ≡ m = omega arith in
    ap (λ j. slice_index_or (told_at n change) j []) e ∙ told_elsewhere n m change apart))

pub nothing_told : {K : Type 0} (w : World K) → (world_told [] w).clusters ≡ w.clusters
nothing_told w = none_from [] 0 w.clusters (λ m. refl)
