-- What samplers are given is what they read.
use Rattle.std.proofs.Common.{◌≡◌, ℕ, ◌+◌, ◌-◌, ◌<◌, true, List, Some, length, slice_get, sym, subst, arith}
use Rattle.std.proofs.lemmas.Option.{slice_get_within}
use Rattle.tdf_convert.specs.declared.links.Links.{Links}
use Rattle.tdf_sim_instants.specs.Engine.{IsEngineOf}
use Rattle.tdf_sim_instants.specs.Sampling.{HaveSampled, sampling_at}
use Rattle.tdf_sim_instants.specs.declared.engine.Engine.{Engine}
use Rattle.tdf_sim_refinement.specs.Below.{AreInputsFor, ClusterOf, IsClusterOf, is_next_due}
use Rattle.tdf_fixed.specs.declared.raw.Raw.{Raw}
use Rattle.tdf_bind.specs.Flat.{IsFlatOf}
use Rattle.tdf_bind.specs.declared.model.Flat.{Flat}
use Rattle.tdf_streams.proofs.Api.{get_inside}
use Rattle.tdf_bind_invariants.specs.Formats.{IsSoundModel}
use Rattle.tdf_sim_refinement.proofs.Api.{settled_inputs}
use Rattle.tdf_sim_refinement.specs.Linked.{AreSamplerLinks}
use Rattle.tdf_sim_refinement.specs.At.{AreSettled}
use Rattle.tdf_lang_tree.specs.Pure.{PureTree}

module _ (model : PureTree) (flat : Flat) (sound : IsSoundModel model) (is : IsFlatOf model flat) (e : Engine) (of : IsEngineOf flat e) (time : ℕ) (since : List ℕ) (clusters : List ClusterOf) (inputs : List (List Raw))
    (many : length clusters ≡ length e.clusters.items) (sampled : HaveSampled (sampling_at time since clusters e.links.items e.kernel.values) (length clusters) e.inputs.items inputs)
    (n s : ℕ) (c : ClusterOf) (i : List Raw) (c_at : slice_get clusters n ≡ Some c) (s_at : slice_get since n ≡ Some s) (i_at : slice_get inputs n ≡ Some i) (c_of : IsClusterOf flat c) (number : c.number ≡ n + 1)
    (due : is_next_due c (time - s) ≡ true) where
  inside : n < length clusters
  inside = slice_get_within clusters n c c_at

  link : (l : Links) × (slice_get e.links.items n ≡ Some l)
  link = let m = of.links in let k = inside in let q = many in get_inside e.links.items n (omega (arith, m, k, q))

  old : (j : List Raw) × (slice_get e.inputs.items n ≡ Some j)
  old = let m = of.inputs in let k = inside in let q = many in get_inside e.inputs.items n (omega (arith, m, k, q))

  pub samples_here : AreSettled flat.tables e.kernel.values (time - s) c i × AreInputsFor flat (time - s) c i
  samples_here = settled_inputs model flat c link.0.list.items (time - s) e.kernel.values old.0 i sound is c_of
      (subst (λ k. AreSamplerLinks flat.tables k link.0.list.items) (sym number) (of.linked n link.0 link.1))
      (of.given n link.0 old.0 link.1 old.1) of.kernel.values
      (sampled.due n s c link.0 old.0 i inside s_at c_at link.1 old.1 i_at due)
