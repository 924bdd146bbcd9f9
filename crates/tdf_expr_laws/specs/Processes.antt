-- What the body of a process leaves of rate variables and notices.
-- Source: own; notices after IEEE 1666-2011, 5.10.8 (notify).
use Rattle.std.specs.Prelude.{◌≡◌, ◌<◌, ℕ, List, [], Option, Some, slice_get}
use Rattle.tdf_base.specs.Limits.{time_end}
use Rattle.tdf_expr.specs.Blocks.{PureBlock, blocks_of, body_of}
use Rattle.tdf_expr.specs.Runs.{scope_in}
use Rattle.tdf_expr.specs.declared.bodies.Body.TheVariants.{Process}
use Rattle.tdf_expr_blocks.specs.Types.{type_faults}
use Rattle.tdf_expr_semantics.specs.Bodies.{after_body}
use Rattle.tdf_expr_state.specs.State.{State, standing}
use Rattle.tdf_lang_tree.specs.Kept.{IsKept}
use Rattle.tdf_lang_tree.specs.Pure.{PureTree}

-- each notification that was asked for comes in less than 10^18 counts
abbrev pub AreSoon : List (Option ℕ) → Type 0
AreSoon notified =
    (event after : ℕ) → standing (slice_get notified event) ≡ Some after → after < time_end

-- rate variables have the values that they had, and notifications that were asked for are as soon
pub record LeavesSoon (s after : State) : Type 0 where
  pub rates : after.frame.rates ≡ s.frame.rates
  pub soon : AreSoon s.ports.notified → AreSoon after.ports.notified

-- so each process of a model without a fault of types leaves them
abbrev pub ProcessesLeaveSoon : Type 0
ProcessesLeaveSoon = (model : PureTree) (number n : ℕ) (block : PureBlock) (s : State)
    → IsKept model → type_faults model ≡ []
    → slice_get (blocks_of model.globals) number ≡ Some block
    → LeavesSoon s (after_body (scope_in model block) (body_of block (Process n)) s)
