-- Steps one after another.
use Rattle.std.proofs.Common.{◌≡◌, ℕ, ◌+◌, ◌<◌, ◌≤◌, List, [], ◌∷◌, ◌++◌, ℤ, length, drop, refl, sym, ap, subst}
use Rattle.std.proofs.Math.ListN.{get_or}
use Rattle.std.proofs.lemmas.List.{drop_all, drop_more}
use Rattle.tdf_expr_cuts.proofs.Api.{raised_small}
use Rattle.tdf_expr_flat.specs.Flat.{AreSafeSteps, Hand, IsSafeStep, hand_of, after_steps, after_step}
use Rattle.tdf_expr_flat.specs.declared.steps.Operation.{Operation}
use Rattle.tdf_expr_state.specs.State.{FrameState, PortsState, state_of}

pub steps_append : (xs ys : List Operation) (h : Hand) → after_steps (xs ++ ys) h ≡ after_steps ys (after_steps xs h)
steps_append [] ys h = refl
steps_append (x ∷ xs) ys h = steps_append xs ys (after_step x h)

pub safe_append : (xs ys : List Operation) (h : Hand) → AreSafeSteps xs h → AreSafeSteps ys (after_steps xs h) → AreSafeSteps (xs ++ ys) h
safe_append [] ys h first second = second
safe_append (x ∷ xs) ys h first second = (first.0, safe_append xs ys (after_step x h) first.1 second)

-- the next step and those after it
pub steps_next : (code : List Operation) (i : ℕ) (d : Operation) (h : Hand) → i < length code → after_steps (drop (i + 1) code) (after_step (get_or code i d) h) ≡ after_steps (drop i code) h
steps_next code i d h within = ap (λ (l : List Operation). after_steps l h) (sym (drop_more code i d within))

pub safe_next : (code : List Operation) (i : ℕ) (d : Operation) (h : Hand) → i < length code → AreSafeSteps (drop i code) h
    → IsSafeStep (get_or code i d) h × AreSafeSteps (drop (i + 1) code) (after_step (get_or code i d) h)
safe_next code i d h within safe = subst (λ (l : List Operation). AreSafeSteps l h) (drop_more code i d within) safe

pub steps_none : (code : List Operation) (i : ℕ) (h : Hand) → length code ≤ i → after_steps (drop i code) h ≡ h
steps_none code i h past = ap (λ (l : List Operation). after_steps l h) (drop_all i code past)

-- a hand is its parts
pub hand_from : (h : Hand) (number : ℤ) (frame : FrameState) (ports : PortsState) → number ≡ h.number → frame ≡ h.state.frame → ports ≡ h.state.ports → hand_of number (state_of frame ports) ≡ h
hand_from h number frame ports is_number is_frame is_ports = rw (is_number, is_frame, is_ports) refl

pub ruleset operand_laws = (raised_small)

pub ruleset run_laws = (steps_none)
