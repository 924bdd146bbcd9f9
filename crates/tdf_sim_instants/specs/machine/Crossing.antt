-- How the turn of one cluster goes on to the next.
-- Source: own.
use Rattle.std.specs.Prelude.{◌≡◌, ◌⊎◌, ◌++◌, ◌∷◌, ℕ, List, []}
use Rattle.tdf_sim_instants.specs.declared.crossing.Turn.{Turn}
use Rattle.tdf_sim_instants.specs.declared.crossing.Turn.TheVariants.{Kept, Planned}

-- no cluster more has a new plan, or that at this place
abbrev pub GoesOnBy : Turn → (place : ℕ) → (before after : List ℕ) → Type 0
GoesOnBy turn place before after = ((turn ≡ Kept) × (after ≡ before))
    ⊎ ((turn ≡ Planned) × (after ≡ before ++ place ∷ []))
