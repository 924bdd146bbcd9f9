-- Samplers read the values of their signals.
use Rattle.std.proofs.Common.{◌≡◌, ◌∙◌, ◌≢◌, ℕ, Bool, true, false, ◌&&◌, Some, List, length, nat_eq, refl, ap, sym, inl, inr, ◌⊎◌, arith, slice_get, slice_index, eq-eqb}
use Rattle.std.proofs.lemmas.Bool.{cases_eq}
use Rattle.std.proofs.lemmas.Bool.Decides.{nat_tests}
use Rattle.std.proofs.lemmas.List.{take_all}
use Rattle.std.proofs.lemmas.Option.{get_or_from_slice_get}
use Rattle.std.specs.List.{count_by}
use Rattle.tdf_bind_tables.specs.Actors.{cluster_of}
use Rattle.tdf_bind_tables.specs.declared.actors.ActorRow.{ActorRow}
use Rattle.tdf_convert.specs.Links.{samplers_in}
use Rattle.tdf_convert.specs.Sampled.{AreSampled}
use Rattle.tdf_convert.specs.declared.links.Link.{Link}
use Rattle.tdf_dynamic_plans.specs.Attributes.{clusters_of}
use Rattle.tdf_sim_history.specs.Below.{AreOfSignals, signal_formats}
use Rattle.tdf_exec.specs.Cluster.{ClusterOf}
use Rattle.tdf_exec.specs.Made.{IsClusterOf, IsRunnerOf, IsSamplerOf, is_sampler_runner as is_sampler_runner, sampler_runners_before}
use Rattle.tdf_exec.specs.Played.{AreInputsFor}
use Rattle.tdf_exec.specs.Runners.{SamplerOf}
use Rattle.tdf_exec.specs.declared.runners.Runner.{Runner}
use Rattle.tdf_exec.specs.declared.runners.Runner.TheVariants as runner
use Rattle.tdf_fixed.specs.declared.raw.Raw.{Raw}
use Rattle.tdf_bind.specs.Flat.{IsFlatOf}
use Rattle.tdf_bind.specs.declared.model.Flat.{Flat}
use Rattle.tdf_streams.proofs.Api.{some_same}
use Rattle.tdf_graph.specs.declared.actors.Actor.{Actor}
use Rattle.tdf_graph.specs.declared.actors.Actor.TheVariants as actor
use Rattle.tdf_sim_history.specs.Instant.{signal_of}
use Rattle.tdf_sim_refinement.proofs.Rows.{count_alike, index_map}
use Rattle.tdf_sim_refinement.proofs.Signals.{written_format}
use Rattle.tdf_sim_refinement.specs.LinkLaws.{SamplersReadSignals}
use Rattle.tdf_sim_refinement.specs.Linked.{AreSamplerLinks, HasLink, is_own_sampler, is_sampler, own_samplers}
use Rattle.tdf_sim_refinement.specs.At.{AreSettled}
use Rattle.tdf_schedule.specs.declared.entry.Entry.{Entry}
use Rattle.tdf_streams.specs.Cluster.{zero_sample}
use Rattle.tdf_streams.specs.Places.{kind_of_row}
use Rattle.tdf_lang_tree.specs.Pure.{PureTree}

not_and : (b c : Bool) → c ≡ false → (b && c) ≡ false
not_and true c h = h
not_and false c h = refl

module _ (flat : Flat) (c : ClusterOf) (of : IsClusterOf flat c) where
  -- what is kept for an actor is a sampler where the actor is one of the cluster
  alike : (m : ℕ) (r : Runner) (row : ActorRow) → slice_get c.runners m ≡ Some r → slice_get flat.tables.actors m ≡ Some row → is_sampler_runner r ≡ is_own_sampler c.number row
  alike m r row at there = by_runner r (of.runners m r at)
    where
      kind : (k : Actor) → kind_of_row (slice_get flat.tables.actors m) ≡ Some k → row.kind ≡ k
      kind k is = some_same row.kind k (sym (ap kind_of_row there) ∙ is)

      own : slice_index (clusters_of flat.tables) m ≡ row.cluster
      own = index_map cluster_of flat.tables.actors m row there

      by_runner : (r : Runner) → IsRunnerOf flat c m r → is_sampler_runner r ≡ is_own_sampler c.number row
      by_runner (runner.Module x) h = sym (ap (λ k. is_sampler k && nat_eq row.cluster c.number) (kind actor.Module h.actor_is.kind_is))
      by_runner (runner.Sampler s) h = sym (ap (λ k. is_sampler k && nat_eq row.cluster c.number) (kind actor.Sampler h.actor_is.kind_is) ∙ eq-eqb row.cluster c.number (sym own ∙ h.actor_is.inside))
      by_runner (runner.Sink k) h = sym (ap (λ k. is_sampler k && nat_eq row.cluster c.number) (kind actor.Sink h.actor_is.kind_is))
      by_runner runner.Outside h = sym (not_and (is_sampler row.kind) (nat_eq row.cluster c.number) (not_own (cases_eq row.cluster c.number)))
        where
          not_own : (row.cluster ≡ c.number) ⊎ (row.cluster ≢ c.number) → nat_eq row.cluster c.number ≡ false
          not_own (inl same) = absurd (h (own ∙ same))
          not_own (inr other) = grind (arith, nat_tests, other)

  before_is : (m : ℕ) → sampler_runners_before c.runners m ≡ own_samplers flat.tables c.number m
  unfolding own_samplers
  before_is m = count_alike is_sampler_runner (is_own_sampler c.number) c.runners flat.tables.actors m of.actors alike

  all_are : count_by is_sampler_runner c.runners ≡ own_samplers flat.tables c.number (length flat.tables.actors)
  all_are = ap (count_by is_sampler_runner) (sym (take_all (length flat.tables.actors) c.runners (let l = of.actors in omega (arith, l)))) ∙ before_is (length flat.tables.actors)

  module _ (links : List Link) (are : AreSamplerLinks flat.tables c.number links) (offset : ℕ) (values old new : List Raw) (sampled : AreSampled c.entries offset links values old new) where
    -- what a sampler that is due was given
    given : (i : ℕ) (x : Entry) (s : SamplerOf) (v : Raw) → slice_get c.entries i ≡ Some x → x.offset ≡ offset → slice_get c.runners x.actor ≡ Some (runner.Sampler s) → slice_get new s.place ≡ Some v
        → slice_get values (signal_of flat.tables x.actor) ≡ Some v
    given i x s v at when there has =
        let own : IsSamplerOf flat c x.actor s = of.runners x.actor (runner.Sampler s) there in
        let h : HasLink links x.actor = are.all x.actor own.actor_is in
        let due = sampled.due h.place h.link h.at (are.each h.place h.link h.at).1 (record { place = i; entry = x; at = at; when = when; who = sym h.of }) in
        let place : h.link.place ≡ s.place = are.places h.place h.link h.at ∙ ap (own_samplers flat.tables c.number) h.of ∙ sym (before_is x.actor) ∙ sym own.place_is in
        ap (slice_get values) (sym (are.of h.place h.link h.at ∙ ap (signal_of flat.tables) h.of)) ∙ sym due ∙ ap (slice_get new) place ∙ has

    settled : AreSettled flat.tables values offset c new
    settled = record {
      are = λ i x s v late at when there has. sym (get_or_from_slice_get values (signal_of flat.tables x.actor) v zero_sample (given i x s v at when there has));
    }

    module _ (model : PureTree) (is : IsFlatOf model flat) (many : length old ≡ samplers_in links) (fit : AreOfSignals (signal_formats flat) values) where
      inputs_for : AreInputsFor flat offset c new
      inputs_for = record {
        many = sampled.same ∙ many ∙ are.many ∙ sym all_are;
        formats = λ i e x s v f late at when there has writes format. fit.each (signal_of flat.tables x.actor) f v
            (sym (written_format model flat is x.actor e (kind x.actor s there) writes) ∙ format) (given i x s v at when there has);
      }
        where
          kind : (m : ℕ) (s : SamplerOf) → slice_get c.runners m ≡ Some (runner.Sampler s) → kind_of_row (slice_get flat.tables.actors m) ≡ Some actor.Sampler
          kind m s there = let own : IsSamplerOf flat c m s = of.runners m (runner.Sampler s) there in own.actor_is.kind_is

pub settled_inputs : SamplersReadSignals
settled_inputs model flat c links offset values old new sound is of are many fit sampled =
    (settled flat c of links are offset values old new sampled, inputs_for flat c of links are offset values old new sampled model is many fit)
