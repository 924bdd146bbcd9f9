-- The code of assignments.
use Rattle.std.proofs.Common.{◌≡◌, ◌∙◌, ℕ, zero, suc, ◌+◌, ◌≤◌, List, [], ◌∷◌, Option, Some, None, refl, ap, subst, arith}
use Rattle.std.specs.Prelude.{slice_get}
use Rattle.tdf_expr_compiler.proofs.Elements.{are_turns}
use Rattle.tdf_expr_compiler.proofs.Literals.{same_fraction, same_cast}
use Rattle.tdf_expr_compiler.proofs.Stored.{cell_within, sample_within}
use Rattle.tdf_expr_compiler.specs.Layouts.{IsNumbered}
use Rattle.tdf_expr_compiler.specs.declared.numbers.Numbers.{Numbers}
use Rattle.tdf_expr_compiler.specs.machine.Acting.{IsTarget, Sets, SetsCell, SetsSample}
use Rattle.tdf_expr_compiler.specs.Formats.{IsFormatOf}
use Rattle.tdf_expr_compiler.specs.machine.Indexed.{IsSpotOf}
use Rattle.tdf_fixed.specs.declared.format.Format.{Format}
use Rattle.tdf_expr_machine.specs.Nodes.{node_value, spot_place}
use Rattle.tdf_expr_machine.specs.declared.acts.Act.{Act}
use Rattle.tdf_expr_machine.specs.declared.acts.Act.TheVariants.{Skip, SetCell, SetSample}
use Rattle.tdf_expr_machine.specs.declared.nodes.Node.{Node}
use Rattle.tdf_expr_machine.specs.declared.spots.Spot.{Spot}
use Rattle.tdf_expr_semantics.specs.Places.{before, total, ports_of, first_sample}
use Rattle.tdf_expr_semantics.specs.Value.{cast_number}
use Rattle.tdf_expr_symbols.specs.Names.{Thing, Var, Array, Port}
use Rattle.tdf_expr_symbols.specs.Scope.{Scope, OpenLoop}
use Rattle.tdf_expr_state.specs.State.{with_cell, with_sample}
use Rattle.tdf_lang_tree.specs.declared.blocks.PortKind.{PortKind}
use Rattle.tdf_lang_tree.specs.declared.expr.Index.{Index}
use Rattle.tdf_lang_tree.specs.declared.names.Lit.{Lit}
use Rattle.tdf_lang_tree.specs.declared.shapes.Shape.{Shape}
use Rattle.tdf_lang_tree.specs.declared.stmt.Limit.{Limit}

same_shape : (shape given : Shape) → Some shape ≡ Some given → shape ≡ given
same_shape shape given e = ap held e
  where
    held : Option Shape → Shape
    held None = shape
    held (Some x) = x

pub sets_cell : (shape : Shape) (format : Format) (spot : Spot) (node : Node) (part : ℕ) → IsFormatOf shape format → SetsCell (Some shape) spot node part (SetCell spot (record { value = node; frac = part; format = format }))
sets_cell shape format spot node part of_shape = record {
  same = λ given e turns s.
      let is : IsFormatOf given format = subst (λ x. IsFormatOf x format) (same_shape shape given e) of_shape in
      ap (λ z. with_cell (spot_place spot turns) z s) (same_cast given format (record { num = node_value node s turns; frac = part }) is);
  safe = λ given e turns s safe able there low.
      let is : IsFormatOf given format = subst (λ x. IsFormatOf x format) (same_shape shape given e) of_shape in
      (safe, rw (same_fraction given format is) able, there, low);
}

pub sets_sample : (shape : Shape) (format : Format) (port : ℕ) (spot : Spot) (node : Node) (part : ℕ) → IsFormatOf shape format
    → SetsSample (Some shape) port spot node part (SetSample port spot (record { value = node; frac = part; format = format }))
sets_sample shape format port spot node part of_shape = record {
  same = λ given e turns s.
      let is : IsFormatOf given format = subst (λ x. IsFormatOf x format) (same_shape shape given e) of_shape in
      ap (λ z. with_sample port (spot_place spot turns) z s) (same_cast given format (record { num = node_value node s turns; frac = part }) is);
  safe = λ given e turns s safe able there low flag.
      let is : IsFormatOf given format = subst (λ x. IsFormatOf x format) (same_shape shape given e) of_shape in
      (safe, rw (same_fraction given format is) able, there, low, flag);
}

no_shape : (given : Shape) → None ≡ Some given → ⊥
no_shape given e = absurd cc

pub sets_no_cell : (spot : Spot) (node : Node) (part : ℕ) → SetsCell None spot node part Skip
sets_no_cell spot node part = record { same = λ given e turns s. absurd (no_shape given e); safe = λ given e turns s safe able there low. absurd (no_shape given e) }

pub sets_no_sample : (port : ℕ) (spot : Spot) (node : Node) (part : ℕ) → SetsSample None port spot node part Skip
sets_no_sample port spot node part = record { same = λ given e turns s. absurd (no_shape given e); safe = λ given e turns s safe able there low flag. absurd (no_shape given e) }

pub target_spot : (loops : List OpenLoop) (at : ℕ) (i : Index) (spot : Spot) → IsSpotOf loops at i spot → IsTarget loops at (Some i) spot
target_spot loops at i spot spots = record { stands = λ scope turns s here k is few. spots.stands turns (are_turns scope loops turns s here) k is few }

-- what comes before a thing, and the thing, are among all
pub before_total : (count : Thing → ℕ) (things : List Thing) (n : ℕ) (t : Thing) → slice_get things n ≡ Some t → before count things n + count t ≤ total count things
unfolding before total
before_total count [] n t e = absurd cc
before_total count (x ∷ things) zero t e = let here : count x ≡ count t = ap count (ap held e) in omega (arith, here)
  where
    held : Option Thing → Thing
    held None = x
    held (Some y) = y
before_total count (x ∷ things) (suc n) t e = omega (arith, before_total count things n t e)

module _ (scope : Scope) (loops : List OpenLoop) (index : Option Index) (node : Node) (part : ℕ) (act : Act) where
  pub sets_var : (n : ℕ) (p : Numbers) (shape : Option Shape) (v : Lit) (spot : Spot) → IsNumbered scope.own n p → IsTarget loops p.cell index spot → SetsCell shape spot node part act
      → Sets scope loops n (Var shape v) index node part act
  sets_var n p None v spot numbered target sets = record {
    at = λ turns s at is k k_is has safe able. absurd ((at.sound.own n (Var None v) is).0);
  }
  sets_var n p (Some shape) v spot numbered target sets = record {
    at = λ turns s at is k k_is has safe able.
        let there = target.stands scope turns s at k k_is (omega (arith, has)) in
        let here = there.1 ∙ ap (λ j. j + k) numbered.cell in
        record {
          safe = sets.safe shape refl turns s safe (able shape refl) there.0 (rw here (cell_within scope loops turns s n k (Var (Some shape) v) at is has));
          same = sets.same shape refl turns s ∙ ap (λ j. with_cell j (cast_number shape (record { num = node_value node s turns; frac = part })) s) here;
        };
  }

  pub sets_array : (n : ℕ) (p : Numbers) (shape : Option Shape) (size : ℕ) (vs : List Lit) (spot : Spot) → IsNumbered scope.own n p → IsTarget loops p.cell index spot
      → SetsCell shape spot node part act → Sets scope loops n (Array shape size vs) index node part act
  sets_array n p None size vs spot numbered target sets = record {
    at = λ turns s at is k k_is has safe able. absurd ((at.sound.own n (Array None size vs) is).0);
  }
  sets_array n p (Some shape) size vs spot numbered target sets = record {
    at = λ turns s at is k k_is has safe able.
        let holds = at.sound.own n (Array (Some shape) size vs) is in
        let there = target.stands scope turns s at k k_is (omega (arith, has, holds.4)) in
        let here = there.1 ∙ ap (λ j. j + k) numbered.cell in
        record {
          safe = sets.safe shape refl turns s safe (able shape refl) there.0 (rw here (cell_within scope loops turns s n k (Array (Some shape) size vs) at is has));
          same = sets.same shape refl turns s ∙ ap (λ j. with_cell j (cast_number shape (record { num = node_value node s turns; frac = part })) s) here;
        };
  }

  pub sets_port : (n : ℕ) (p : Numbers) (word : PortKind) (shape : Option Shape) (rate : Limit) (delay : ℕ) (spot : Spot) → IsNumbered scope.own n p → IsTarget loops p.sample index spot
      → SetsSample shape p.port spot node part act → Sets scope loops n (Port word shape rate delay) index node part act
  sets_port n p word None rate delay spot numbered target sets = record {
    at = λ turns s at is k k_is has safe able. absurd ((at.sound.own n (Port word None rate delay) is).0);
  }
  sets_port n p word (Some shape) rate delay spot numbered target sets = record {
    at = λ turns s at is k k_is has safe able.
        let holds = at.sound.own n (Port word (Some shape) rate delay) is in
        let there = target.stands scope turns s at k k_is (omega (arith, has, holds.2)) in
        let here = there.1 ∙ ap (λ j. j + k) numbered.sample in
        let flags = before_total ports_of scope.own.things n (Port word (Some shape) rate delay) is in
        record {
          safe = sets.safe shape refl turns s safe (able shape refl) there.0 (rw here (sample_within scope loops turns s n k (Port word (Some shape) rate delay) at is has))
              (rw numbered.port (omega (arith, flags, at.state.ports.assigned)));
          same = sets.same shape refl turns s ∙ ap (λ j. with_sample p.port j (cast_number shape (record { num = node_value node s turns; frac = part })) s) here
              ∙ ap (λ j. with_sample j (first_sample scope.own n + k) (cast_number shape (record { num = node_value node s turns; frac = part })) s) numbered.port;
        };
  }
