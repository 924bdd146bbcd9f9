-- One actor more is told.
use Rattle.std.proofs.Common.{◌≡◌, ◌∙◌, ℕ, ◌+◌, ◌-◌, ◌<◌, ◌≤◌, Some, List, [], ◌∷◌, ◌++◌, length, length-append, ap, sym, subst, inl, inr, ◌⊎◌, arith, refl, slice_get, slice_index_or}
use Rattle.std.proofs.lemmas.Bool.{cases_lt}
use Rattle.std.proofs.lemmas.List.{get_or-set_other, length-set}
use Rattle.std.proofs.lemmas.Option.{get_or_from_slice_get, slice_get_read, slice_get_within}
use Rattle.std.specs.Prelude.{slice_set}
use Rattle.tdf_bind_tables.specs.declared.actors.ActorRow.{ActorRow}
use Rattle.tdf_exec_firing.specs.Wires.{WiresOf}
use Rattle.tdf_exec_layout.specs.declared.wiring.ActorWires.{ActorWires}
use Rattle.tdf_exec_layout.specs.machine.Ends.{HasInput, IsTold, ToldUpTo, ends_at, no_ends}
use Rattle.tdf_streams.proofs.Api.{get_high, get_low, some_same}

module _ (actors : List ActorRow) (n : ℕ) (old now : List WiresOf) (wires : List ActorWires) (row : ActorRow) (x ends : WiresOf)
    (h : ToldUpTo actors n old now wires) (at : slice_get actors n ≡ Some row)
    (inside : n < length now) (read : x ≡ slice_index_or now n x) (same : ends ≡ x) where
  here : ends ≡ ends_at old n
  here = same ∙ sym (get_or_from_slice_get now n x no_ends (slice_get_read now (length now) n x refl inside read)) ∙ h.left n (omega arith)

  pub input_there : ((m : ℕ) (r : ActorRow) → slice_get actors m ≡ Some r → HasInput r.kind (ends_at old m)) → HasInput row.kind ends
  input_there sinks = subst (HasInput row.kind) (sym here) (sinks n row at)

  module _ (w : ActorWires) (dest : WiresOf) (is : IsTold row.kind ends w) where
    told : (m : ℕ) (r : ActorRow) (v : ActorWires) → slice_get actors m ≡ Some r → slice_get (wires ++ w ∷ []) m ≡ Some v → (m < n) ⊎ (n ≤ m)
        → IsTold r.kind (ends_at old m) v
    told m r v rat vat (inl low) = let l = h.long in h.told m r v rat (sym (get_low wires (w ∷ []) m (omega (arith, l, low))) ∙ vat)
    told m r v rat vat (inr high) =
        let l = h.long in let a = length-append wires (w ∷ []) in let b = slice_get_within (wires ++ w ∷ []) m v vat in
        let one : n ≡ m = omega (arith, l, a, b, high) in
        let index : m - length wires ≡ 0 = omega (arith, l, one) in
        let wire : w ≡ v = some_same w v (ap (slice_get (w ∷ [])) (sym index) ∙ sym (get_high wires (w ∷ []) m (omega (arith, l, high))) ∙ vat) in
        let actor : row ≡ r = some_same row r (sym at ∙ ap (slice_get actors) one ∙ rat) in
        subst (λ (y : ActorRow). IsTold y.kind (ends_at old m) v) actor
        (subst (IsTold row.kind (ends_at old m)) wire (subst (λ k. IsTold row.kind (ends_at old k) w) one (subst (λ e. IsTold row.kind e w) here is)))

    pub told_next : ToldUpTo actors (n + 1) old (slice_set now n dest) (wires ++ w ∷ [])
    told_next = record {
      same = length-set now n dest ∙ h.same;
      long = length-append wires (w ∷ []) ∙ ap (λ k. k + 1) h.long;
      told = λ m r v rat vat. told m r v rat vat (cases_lt m n);
      left = λ m high. get_or-set_other now n m dest no_ends (λ e. absurd (omega (arith, e, high))) ∙ h.left m (omega (arith, high));
    }
