-- The timesteps after a change body, place by place.
use Rattle.std.proofs.Common.{◌≡◌, ◌∙◌, ℕ, zero, suc, ◌+◌, ◌<◌, List, [], ◌∷◌, ◌++◌, Option, None, length, take, refl, sym, ap, arith}
use Rattle.std.proofs.Math.ListN.{get_or}
use Rattle.std.proofs.lemmas.List.{ext_get_or}
use Rattle.std.specs.Prelude.{replicate, slice_get}
use Rattle.tdf_dynamic.specs.Asked.{said_or, steps_after}
use Rattle.tdf_expr_state.specs.State.{standing}

pub steps_long : (steps : List ℕ) (said : List (Option ℕ)) → length (steps_after steps said) ≡ length steps
steps_long [] said = refl
steps_long (x ∷ steps) [] = refl
steps_long (x ∷ steps) (o ∷ said) = ap suc (steps_long steps said)

-- no timestep is given
pub steps_none : (steps : List ℕ) (n : ℕ) → steps_after steps (replicate n None) ≡ steps
steps_none [] n = refl
steps_none (x ∷ steps) zero = refl
steps_none (x ∷ steps) (suc n) = ap (λ l. x ∷ l) (steps_none steps n)

none_said : (steps : List ℕ) → steps_after steps [] ≡ steps
none_said [] = refl
none_said (x ∷ steps) = refl

pub step_at : (steps : List ℕ) (said : List (Option ℕ)) (n : ℕ) → n < length steps → get_or (steps_after steps said) n 0 ≡ said_or (get_or steps n 0) (standing (slice_get said n))
step_at [] said n below = absurd (omega (arith, below))
step_at (x ∷ steps) [] n below = refl
step_at (x ∷ steps) (o ∷ said) zero below = refl
step_at (x ∷ steps) (o ∷ said) (suc n) below = step_at steps said n (omega (arith, below))

take_suc : (steps : List ℕ) (said : List (Option ℕ)) (n : ℕ) → n < length steps
    → steps_after (take (suc n) steps) said ≡ steps_after (take n steps) said ++ said_or (get_or steps n 0) (standing (slice_get said n)) ∷ []
take_suc [] said n below = absurd (omega (arith, below))
take_suc (x ∷ steps) [] zero below = refl
take_suc (x ∷ steps) (o ∷ said) zero below = refl
take_suc (x ∷ steps) [] (suc n) below = ap (λ l. x ∷ l) (sym (none_said (take (suc n) steps)) ∙ take_suc steps [] n (omega (arith, below)) ∙ ap (λ l. l ++ get_or steps n 0 ∷ []) (none_said (take n steps)))
take_suc (x ∷ steps) (o ∷ said) (suc n) below = ap (λ l. said_or x o ∷ l) (take_suc steps said n (omega (arith, below)))

-- one timestep more
pub steps_take : (steps : List ℕ) (said : List (Option ℕ)) (n : ℕ) → n < length steps
    → steps_after (take (n + 1) steps) said ≡ steps_after (take n steps) said ++ said_or (get_or steps n 0) (standing (slice_get said n)) ∷ []
steps_take steps said n below = let one : n + 1 ≡ suc n = omega arith in ap (λ k. steps_after (take k steps) said) one ∙ take_suc steps said n below

-- timesteps that are all the same
pub steps_same : (steps : List ℕ) (said : List (Option ℕ)) → ((j : ℕ) → j < length steps → said_or (get_or steps j 0) (standing (slice_get said j)) ≡ get_or steps j 0)
    → steps_after steps said ≡ steps
steps_same steps said same = ext_get_or 0 (steps_after steps said) steps (steps_long steps said)
    (λ j below. let here : j < length steps = (let l = steps_long steps said in omega (arith, l, below)) in step_at steps said j here ∙ same j here)

pub steps_differ : (steps : List ℕ) (said : List (Option ℕ)) (n : ℕ) → n < length steps → (said_or (get_or steps n 0) (standing (slice_get said n)) ≡ get_or steps n 0 → ⊥)
    → steps_after steps said ≡ steps → ⊥
steps_differ steps said n below other same = other (sym (step_at steps said n below) ∙ ap (λ l. get_or l n 0) same)
