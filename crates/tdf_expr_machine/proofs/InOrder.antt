-- Statements one after another.
use Rattle.std.proofs.lemmas.List.{length-take-le, drop-take, drop-drop, take-append-drop}
use Rattle.std.proofs.Common.{◌≡◌, ◌∙◌, ℕ, ◌+◌, ◌-◌, ◌≤◌, List, [], ◌∷◌, ◌++◌, length, take, drop, Box, Global, Vec, refl, sym, ap, subst, arith}
use Rattle.tdf_expr_flat.specs.declared.steps.Operation.{Operation}
use Rattle.tdf_expr_machine.specs.Acts.{acted}
use Rattle.tdf_expr_machine.specs.Sequences.{acted_all, AreSafeAll, IsSequence}
use Rattle.tdf_expr_machine.specs.declared.acts.Act.{Act}
use Rattle.tdf_expr_machine.specs.declared.acts.Act.TheVariants.{Flat, Skip, Seq'}
use Rattle.tdf_expr_machine.specs.machine.Flattening.{IsFlatOf}
use Rattle.tdf_expr_state.specs.State.{State}

pub acted_append : (xs ys : List Act) (loops : List ℕ) (s : State) → acted_all (xs ++ ys) loops s ≡ acted_all ys loops (acted_all xs loops s)
acted_append [] ys loops s = refl
acted_append (x ∷ xs) ys loops s = acted_append xs ys loops (acted x loops s)

pub safe_first : (xs ys : List Act) (loops : List ℕ) (s : State) → AreSafeAll (xs ++ ys) loops s → AreSafeAll xs loops s
safe_first [] ys loops s safe = record {}
safe_first (x ∷ xs) ys loops s safe = (safe.0, safe_first xs ys loops (acted x loops s) safe.1)

pub safe_second : (xs ys : List Act) (loops : List ℕ) (s : State) → AreSafeAll (xs ++ ys) loops s → AreSafeAll ys loops (acted_all xs loops s)
safe_second [] ys loops s safe = safe
safe_second (x ∷ xs) ys loops s safe = safe_second xs ys loops (acted x loops s) safe.1

pub sequence_none : IsSequence [] Skip
sequence_none = record { same = λ loops s. refl; safe = λ loops s safe. safe }

pub sequence_one : (act : Act) → IsSequence (act ∷ []) act
sequence_one act = record { same = λ loops s. refl; safe = λ loops s safe. safe.0 }

pub sequence_both : (p q : Box (Unit {0}) Global) (xs ys : List Act) (a b : Act) → IsSequence xs a → IsSequence ys b → IsSequence (xs ++ ys) (Seq' p a q b)
sequence_both p q xs ys a b first second = record {
  same = λ loops s. ap (λ t. acted b loops t) (first.same loops s) ∙ second.same loops (acted_all xs loops s) ∙ sym (acted_append xs ys loops s);
  safe = λ loops s safe. (first.safe loops s (safe_first xs ys loops s safe), second.safe loops (acted a loops s) (subst (λ t. AreSafeAll ys loops t) (sym (first.same loops s)) (safe_second xs ys loops s safe)));
}

pub sequence_flat : (acts : List Act) (code : Vec Operation Global) → IsFlatOf acts code.items → IsSequence acts (Flat code)
sequence_flat acts code flat = record { same = λ loops s. flat.same s loops; safe = λ loops s safe. flat.safe s loops safe }

-- the last k, and the m before them
pub last_two : (xs : List Act) (m k : ℕ) → m + k ≤ length xs → drop (length (take (length xs - k) xs) - m) (take (length xs - k) xs) ++ drop (length xs - k) xs ≡ drop (length xs - (m + k)) xs
last_two xs m k few =
    let at = length xs - (m + k) in
    let seam : length xs - k ≡ at + m = omega (arith, few) in
    let long : length (take (at + m) xs) ≡ at + m = length-take-le (at + m) xs (omega (arith, few)) in
    let front : at + m - m ≡ at = omega arith in
    rw (seam, long, front) (rw (drop-take at m xs) (ap (λ l. take m (drop at xs) ++ l) (sym (drop-drop m at xs)) ∙ take-append-drop m (drop at xs)))

pub ruleset sequence_laws = (sequence_none, sequence_one)

pub ruleset flat_laws = (sequence_flat)
