-- The turns of a loop, and the parts of a statement.
use Rattle.std.proofs.Common.{◌≡◌, ◌∙◌, ℕ, zero, suc, ◌+◌, ◌*◌, ◌-◌, ◌<◌, ◌≤◌, List, [], ◌∷◌, ◌++◌, Box, Global, length, take, refl, subst, sym, ap, arith}
use Rattle.std.proofs.Math.ListN.{set}
use Rattle.std.proofs.lemmas.List.{take_more_set}
use Rattle.tdf_expr_machine.specs.Acts.{acted, turns_end, AreTurns, IsSafeAct, act_turn, IsTurnSafe}
use Rattle.tdf_expr_machine.specs.Turns.{repeated, turned, AreTurnsSafe}
use Rattle.tdf_expr_machine.specs.declared.acts.Act.{Act}
use Rattle.tdf_expr_machine.specs.declared.acts.Act.TheVariants as variant
use Rattle.tdf_expr_machine.specs.declared.acts.Act.TheViews as view
use Rattle.tdf_expr_machine.specs.declared.acts.Turns.{Turns}
use Rattle.tdf_expr_machine.specs.declared.nodes.Node.{Node}
use Rattle.tdf_expr_state.specs.State.{FrameState, PortsState, State, state_of}

-- how many parts a statement has
abbrev pub act_size : Act → ℕ
act_size (variant.If' test p a q b) = act_size a + act_size b + 1
act_size (variant.For' from end p body) = act_size body + 3
act_size (variant.Seq' p a q b) = act_size a + act_size b + 1
act_size _ = 1

pub turned_none : (turn : ℕ → State → State) (from end : ℕ) (s : State) → end ≤ from → turned turn from end s ≡ s
unfolding turned
turned_none turn from end s past = let none : end - from ≡ 0 = omega arith in ap (λ n. repeated turn from n s) none

pub turned_more : (turn : ℕ → State → State) (from i : ℕ) (s : State) → from ≤ i → turned turn from (i + 1) s ≡ turn i (turned turn from i s)
unfolding turned
turned_more turn from i s after =
    let one : i + 1 - from ≡ suc (i - from) = omega arith in
    let back : from + (i - from) ≡ i = omega arith in
    ap (λ n. repeated turn from n s) one ∙ ap (λ j. turn j (repeated turn from (i - from) s)) back

pub turned_same : (turn : ℕ → State → State) (from end i : ℕ) (s : State) → end - from ≡ i - from → turned turn from end s ≡ turned turn from i s
unfolding turned
turned_same turn from end i s same = ap (λ n. repeated turn from n s) same

-- some turns, and the turns after them
repeated_on : (turn : ℕ → State → State) (from more count : ℕ) (s : State) → repeated turn from (count + more) s ≡ repeated turn (from + more) count (repeated turn from more s)
repeated_on turn from more zero s = let none : 0 + more ≡ more = omega arith in ap (λ n. repeated turn from n s) none
repeated_on turn from more (suc count) s =
    let place : from + (count + more) ≡ from + more + count = omega arith in
    let one : suc count + more ≡ suc (count + more) = omega arith in
    ap (λ n. repeated turn from n s) one ∙ ap (λ j. turn j (repeated turn from (count + more) s)) place ∙ ap (turn (from + more + count)) (repeated_on turn from more count s)

pub turned_on : (turn : ℕ → State → State) (from next end : ℕ) (s : State) → from ≤ next → next ≤ end → turned turn next end (turned turn from next s) ≡ turned turn from end s
unfolding turned
turned_on turn from next end s after before =
    let all : end - next + (next - from) ≡ end - from = omega (arith, after, before) in
    let start : from + (next - from) ≡ next = omega (arith, after) in
    ap (λ f. repeated turn f (end - next) (repeated turn from (next - from) s)) (sym start)
    ∙ sym (repeated_on turn from (next - from) (end - next) s) ∙ ap (λ n. repeated turn from n s) all

-- the turns after some turns are safe
pub safe_on : (turn : ℕ → State → State) (IsFine : ℕ → State → Type 0) (from next end : ℕ) (s later : State) → from ≤ next → next ≤ end → later ≡ turned turn from next s
    → AreTurnsSafe turn IsFine from end s → AreTurnsSafe turn IsFine next end later
unfolding AreTurnsSafe
safe_on turn IsFine from next end s later after before is safe i here less =
    rw (is, turned_on turn from next i s after here) (safe i (omega (arith, after, here)) less)

pub turn_safe : (turn : ℕ → State → State) (IsFine : ℕ → State → Type 0) (from end i : ℕ) (s : State) → AreTurnsSafe turn IsFine from end s → from ≤ i → i < end → IsFine i (turned turn from i s)
unfolding AreTurnsSafe
turn_safe turn IsFine from end i s safe after before = safe i after before

pub one_more : (inner loops : List ℕ) (i : ℕ) → length loops < length inner → take (length loops) inner ≡ loops → take (length loops + 1) (set inner (length loops) i) ≡ loops ++ i ∷ []
one_more inner loops i room outer = take_more_set inner (length loops) i room ∙ ap (λ l. l ++ i ∷ []) outer

-- a state is its two parts
pub state_from : (s : State) (frame : FrameState) (ports : PortsState) → frame ≡ s.frame → ports ≡ s.ports → state_of frame ports ≡ s
state_from s frame ports is_frame is_ports = rw (is_frame, is_ports) refl

module _ (body : Act) (from end i : ℕ) (loops inner : List ℕ) (start : State) (frame : FrameState) (ports : PortsState) where
  -- a turn of a loop is safe at what the turns before it leave
  pub for_turn : AreTurnsSafe (act_turn body loops) (IsTurnSafe body loops) from end start → from ≤ i → i < end
      → take (length loops) inner ≡ loops → length loops < length inner
      → frame ≡ (turned (act_turn body loops) from i start).frame → ports ≡ (turned (act_turn body loops) from i start).ports
      → IsSafeAct body (take (length loops + 1) (set inner (length loops) i)) (state_of frame ports)
  for_turn safe after before outer room is_frame is_ports =
      rw (one_more inner loops i room outer, state_from (turned (act_turn body loops) from i start) frame ports is_frame is_ports)
      (turn_safe (act_turn body loops) (IsTurnSafe body loops) from end i start safe after before)

  -- and leaves what one turn more does
  pub for_more : from ≤ i → take (length loops) inner ≡ loops → length loops < length inner
      → frame ≡ (turned (act_turn body loops) from i start).frame → ports ≡ (turned (act_turn body loops) from i start).ports
      → acted body (take (length loops + 1) (set inner (length loops) i)) (state_of frame ports) ≡ turned (act_turn body loops) from (i + 1) start
  for_more after outer room is_frame is_ports =
      rw (one_more inner loops i room outer, state_from (turned (act_turn body loops) from i start) frame ports is_frame is_ports)
      (sym (turned_more (act_turn body loops) from i start after))

-- the turns of a loop that is safe
pub for_safe : (act node : Act) (from : ℕ) (turns : Turns) (body : Box Act Global) (loops : List ℕ) (s : State) → act ≡ view.For from turns body → IsSafeAct act loops s → node ≡ body.value
    → AreTurnsSafe (act_turn node loops) (IsTurnSafe node loops) from (turns_end turns s.frame.rates) s
for_safe act node from turns body loops s is safe same =
    let all : (length loops < 8) × AreTurns turns s.frame.rates × AreTurnsSafe (act_turn body.value loops) (IsTurnSafe body.value loops) from (turns_end turns s.frame.rates) s = subst (λ a. IsSafeAct a loops s) is safe in
    rw same all.2

pub for_room : (act : Act) (from : ℕ) (turns : Turns) (body : Box Act Global) (loops : List ℕ) (s : State) → act ≡ view.For from turns body → IsSafeAct act loops s → (length loops < 8) × AreTurns turns s.frame.rates
for_room act from turns body loops s is safe = let all = subst (λ a. IsSafeAct a loops s) is safe in (all.0, all.1)

pub size_for : (act node : Act) (from : ℕ) (turns : Turns) (body : Box Act Global) → act ≡ view.For from turns body → node ≡ body.value → 2 * act_size node + 3 < 2 * act_size act
size_for act node from turns body is same = rw (is, same) (omega arith)

pub size_first : (act node : Act) (test : Node) (a b : Box Act Global) → act ≡ view.If test a b → node ≡ a.value → 2 * act_size node + 1 < 2 * act_size act
size_first act node test a b is same = rw (is, same) (omega arith)

pub size_second : (act node : Act) (test : Node) (a b : Box Act Global) → act ≡ view.If test a b → node ≡ b.value → 2 * act_size node + 1 < 2 * act_size act
size_second act node test a b is same = rw (is, same) (omega arith)

pub size_former : (act node : Act) (a b : Box Act Global) → act ≡ view.Seq a b → node ≡ a.value → 2 * act_size node + 1 < 2 * act_size act
size_former act node a b is same = rw (is, same) (omega arith)

pub size_latter : (act node : Act) (a b : Box Act Global) → act ≡ view.Seq a b → node ≡ b.value → 2 * act_size node + 1 < 2 * act_size act
size_latter act node a b is same = rw (is, same) (omega arith)

pub ruleset turn_laws = (turned_none, turned_more, turned_same, one_more, size_for, size_first, size_second, size_former, size_latter)
