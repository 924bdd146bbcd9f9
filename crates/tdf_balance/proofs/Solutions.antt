-- Solutions of balance equations and their least ones.
use Rattle.std.proofs.Common.{◌≡◌, ◌∙◌, ℕ, ◌*◌, ◌<◌, ◌/◌, List, sym, ap, subst, arith}
use Rattle.std.proofs.lemmas.List.Elements.{All-contains}
use Rattle.std.proofs.lemmas.Nat.Gcd.{dvd_antisymm}
use Rattle.std.proofs.Math.Nat.{dvd-mul_right, mul-div_cancel', eq_of_mul-eq-mul_right}
use Rattle.std.specs.Int.{◌∣◌}
use Rattle.std.specs.Prelude.{All, Contains}
use Rattle.tdf_balance.proofs.Divides.{divides_factor}
use Rattle.tdf_balance.specs.Laws.{IsMultiple}
use Rattle.tdf_graph.specs.Clusters.{Joined, stays, goes, comes}
use Rattle.tdf_graph.specs.Counts.{Solves, IsLeast}
use Rattle.tdf_graph.specs.Ranges.{IsEdge}
use Rattle.tdf_graph.specs.declared.actors.Edge.{Edge}

swap : (a b : ℕ) → a * b ≡ b * a
swap a b = grind arith

-- pa * qb = qa * pb moves along a balanced edge, from x to y
over : (pb qb px qx py qy W R : ℕ) → 0 < W → pb * qx ≡ qb * px → px * R ≡ py * W → qx * R ≡ qy * W → pb * qy ≡ qb * py
over pb qb px qx py qy W R some known p_is q_is = eq_of_mul-eq-mul_right W some (pb * qy) (qb * py)
    (left pb qy W ∙ ap (λ n. pb * n) (sym q_is) ∙ sym (left pb qx R) ∙ ap (λ n. n * R) known ∙ left qb px R ∙ ap (λ n. qb * n) p_is ∙ sym (left qb py W))
  where
    left : (a b c : ℕ) → a * b * c ≡ a * (b * c)
    left a b c = grind arith

-- two solutions are proportional along a chain
module _ (count : ℕ) (edges : List Edge) (fit : All (IsEdge count) edges) (p q : ℕ → ℕ) (p_solves : Solves edges p) (q_solves : Solves edges q) where
  writes : (e : Edge) → Contains edges e → 0 < e.write_rate
  writes e is = (All-contains (IsEdge count) edges e fit is).writes.some

  reads : (e : Edge) → Contains edges e → 0 < e.read_rate
  reads e is = (All-contains (IsEdge count) edges e fit is).reads.some

  pub ratio : {a b : ℕ} → Joined edges a b → p b * q a ≡ q b * p a
  ratio (stays a) = swap (p a) (q a)
  ratio {b = b} (goes e is rest) = over (p b) (q b) (p e.reader) (q e.reader) (p e.writer) (q e.writer) e.write_rate e.read_rate (writes e is) (ratio rest)
      (sym (p_solves.balanced e is)) (sym (q_solves.balanced e is))
  ratio {b = b} (comes e is rest) = over (p b) (q b) (p e.writer) (q e.writer) (p e.reader) (q e.reader) e.read_rate e.write_rate (reads e is) (ratio rest)
      (p_solves.balanced e is) (q_solves.balanced e is)

pub multiples : (count : ℕ) (edges : List Edge) (actor : ℕ) (p q : ℕ → ℕ) → All (IsEdge count) edges → IsLeast edges actor p → Solves edges q → IsMultiple edges actor p q
multiples count edges actor p q fit least solves = record { times = m; each = each }
  where
    solved : Solves edges p
    solved = least.solves

    proportional : (a : ℕ) → Joined edges actor a → p a * q actor ≡ q a * p actor
    proportional a chain = ratio count edges fit p q solved solves chain

    divides : p actor ∣ q actor
    divides = divides_factor (Joined edges actor) p solved.positive least.least (p actor) (q actor) (solves.positive actor)
        (λ a chain. subst (λ n. p actor ∣ n) (swap (p actor) (q a) ∙ sym (proportional a chain) ∙ swap (p a) (q actor)) (dvd-mul_right (p actor) (q a)))

    m : ℕ
    m = q actor / p actor

    m_is : p actor * m ≡ q actor
    m_is = mul-div_cancel' (p actor) divides

    shift : (x y z : ℕ) → x * (y * z) ≡ x * z * y
    shift x y z = grind arith

    each : (a : ℕ) → Joined edges actor a → q a ≡ p a * m
    each a chain = eq_of_mul-eq-mul_right (p actor) (solved.positive actor) (q a) (p a * m)
        (sym (proportional a chain) ∙ ap (λ n. p a * n) (sym m_is) ∙ shift (p a) (p actor) m)

-- two least solutions of a part are the same on it
pub same_least : (count : ℕ) (edges : List Edge) (actor : ℕ) (p q : ℕ → ℕ) → All (IsEdge count) edges → IsLeast edges actor p → IsLeast edges actor q
    → (a : ℕ) → Joined edges actor a → p a ≡ q a
same_least count edges actor p q fit p_least q_least a chain = equal (p a) (q a) one.times other.times (p_solved.positive a) (one.each a chain) (other.each a chain)
  where
    p_solved : Solves edges p
    p_solved = p_least.solves

    one : IsMultiple edges actor p q
    one = multiples count edges actor p q fit p_least q_least.solves

    other : IsMultiple edges actor q p
    other = multiples count edges actor q p fit q_least p_least.solves

    equal : (x y m n : ℕ) → 0 < x → y ≡ x * m → x ≡ y * n → x ≡ y
    equal x y m n some y_is x_is = dvd_antisymm (subst (λ z. x ∣ z) (sym y_is) (dvd-mul_right x m)) (subst (λ z. y ∣ z) (sym x_is) (dvd-mul_right y n))
