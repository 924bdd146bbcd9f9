-- Statements one after another (own): what a list of compiled statements does, and when it is safe.
use Rattle.std.specs.Prelude.{◌≡◌, ℕ, List, [], ◌∷◌}
use Rattle.tdf_expr_machine.specs.Acts.{acted, IsSafeAct}
use Rattle.tdf_expr_machine.specs.declared.acts.Act.{Act}
use Rattle.tdf_expr_state.specs.State.{State}

-- the state that they leave, each at the state that those before it left
abbrev pub acted_all : List Act → List ℕ → State → State
acted_all [] loops s = s
acted_all (act ∷ acts) loops s = acted_all acts loops (acted act loops s)

-- each is safe at the state that those before it left
abbrev pub AreSafeAll : List Act → List ℕ → State → Type 0
AreSafeAll [] loops s = Unit {0}
AreSafeAll (act ∷ acts) loops s = IsSafeAct act loops s × AreSafeAll acts loops (acted act loops s)

-- one statement does what these do in order, and is safe wherever they are
pub record IsSequence (acts : List Act) (act : Act) : Type 0 where
  pub same : (loops : List ℕ) (s : State) → acted act loops s ≡ acted_all acts loops s
  pub safe : (loops : List ℕ) (s : State) → AreSafeAll acts loops s → IsSafeAct act loops s
