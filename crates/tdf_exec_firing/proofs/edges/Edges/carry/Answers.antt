use Rattle.std.proofs.Common.{◌≡◌, ◌∙◌, ◌<◌, ℕ, List, OnOk, [], ap, length, map, slice_index, subst, sym}
use Rattle.std.proofs.lemmas.Result.{on_ok_weaker}
use Rattle.tdf_exec_firing.proofs.Spreading.{all_carried, own_fit}
use Rattle.tdf_exec_firing.specs.Edges.{EdgesOf}
use Rattle.tdf_places.specs.Spread.{spread}
use Rattle.tdf_rings.specs.Carried.{AreCarried, FitIn, ring_at}
use Rattle.tdf_rings.specs.Rings.{ring_of}
use Rattle.tdf_exec_firing.proofs.edges.Edges.carry.Goals as goal

pub carry-requires : goal.carry-requires
carry-requires c = record {
  fit =
      own_fit c.self.inside.places c.law_apart.ensures c.self.inside.rings.items c.args.bounds.now.items c.deref.result.now c.self.invariant.rings_long
      (c.deref.ensures.value ∙ c.in_ok-own.ensures ∙ ap (λ (l : List ℕ). map (slice_index c.args.bounds.now.items) l) c.numbers.ensures)
      (subst (λ (x : EdgesOf). FitIn c.args.bounds.now.items x.rings) (sym c.self.view_is) c.requires.fit);
}

pub returns-clause-ok : goal.returns-clause-ok
returns-clause-ok c =
    let all = spread (ring_of [] 0) c.self.inside.places c.self.inside.rings.items in
    let others : (e : ℕ) → e < length all → (ring_at all e).capacity ≡ 0 → slice_index c.args.bounds.now.items e ≡ 0 =
    subst (λ (x : EdgesOf). (e : ℕ) → e < length x.rings → (ring_at x.rings e).capacity ≡ 0 → slice_index c.args.bounds.now.items e ≡ 0) (sym c.self.view_is) c.requires.others in
    subst (λ (x : EdgesOf). OnOk c.carry.result (AreCarried c.args.bounds.now.items x.rings (spread (ring_of [] 0) c.self.inside.places c.carry.new.rings.items))) c.self.view_is
    (on_ok_weaker c.carry.result
    (all_carried c.self.inside.places c.law_apart.ensures c.self.inside.rings.items c.args.bounds.now.items c.deref.result.now c.self.invariant.rings_long
    (c.deref.ensures.value ∙ c.in_ok-own.ensures ∙ ap (λ (l : List ℕ). map (slice_index c.args.bounds.now.items) l) c.numbers.ensures) others c.carry.new.rings.items)
    c.carry.ensures.ok)
