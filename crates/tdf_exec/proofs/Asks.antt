-- What a cluster has for its modules to be asked.
use Rattle.std.proofs.Common.{◌≡◌, ◌∙◌, ℕ, ◌<◌, List, Option, Some, None, option_map, length, refl, sym, ap, subst, arith}
use Rattle.std.proofs.lemmas.Option.{get_or_from_slice_get, slice_get-map}
use Rattle.std.specs.Prelude.{Contains, slice_get, slice_index}
use Rattle.tdf_bind_tables.specs.Actors.{cluster_of}
use Rattle.std.proofs.lemmas.List.{length-map}
use Rattle.tdf_dynamic.specs.Given.{IsOfText, IsPlanned}
use Rattle.tdf_dynamic_plans.proofs.Api.{modules_few}
use Rattle.tdf_dynamic_plans.specs.Attributes.{AttrsOf, IsOfCluster, clusters_of, rates_in}
use Rattle.tdf_exec.proofs.Ends.{module_kind, no_sampler, no_sink}
use Rattle.tdf_exec.proofs.Formed.{row_found}
use Rattle.tdf_exec.proofs.Rows.{all_at}
use Rattle.tdf_exec.specs.Cluster.{ClusterOf}
use Rattle.tdf_exec.specs.Made.{IsClusterOf, IsRunnerOf}
use Rattle.tdf_exec.specs.Runners.{ModuleOf}
use Rattle.tdf_exec.specs.Starts.{IsSoundFlat}
use Rattle.tdf_exec.specs.declared.runners.Runner.{Runner}
use Rattle.tdf_exec.specs.declared.runners.Runner.TheVariants as runner
use Rattle.tdf_exec.specs.machine.Laid.{IsLaid}
use Rattle.tdf_exec.specs.machine.Moving.{AreInstances, AreModules, numbers_of}
use Rattle.tdf_expr.specs.Made.{AreMadeFor}
use Rattle.tdf_bind.specs.declared.model.Flat.{Flat}
use Rattle.tdf_streams.proofs.Api.{get_inside, none_some, some_same, is_wired}
use Rattle.tdf_streams.specs.Places.{actor_kind}

-- the row of a number
pub row_of : (table : List AttrsOf) (i m : ℕ) → slice_get (numbers_of table) i ≡ Some m → (a : AttrsOf) × (slice_get table i ≡ Some a) × (a.number ≡ m)
row_of table i m at = go (slice_get table i) refl (sym (slice_get-map (λ (a : AttrsOf). a.number) table i) ∙ at)
  where
    go : (o : Option AttrsOf) → slice_get table i ≡ o → option_map (λ (a : AttrsOf). a.number) o ≡ Some m → (a : AttrsOf) × (slice_get table i ≡ Some a) × (a.number ≡ m)
    go None there given = none_some m given
    go (Some a) there given = (a, there, some_same a.number m given)

pub of_text : (flat : Flat) → IsSoundFlat flat → IsOfText flat
of_text flat sound = record { model = sound.model; kept = sound.sound.kept; checked = sound.is.bodies }

module _ (flat : Flat) (c : ClusterOf) (laid : IsLaid flat) (of : IsClusterOf flat c) where
  pub row_own : (i : ℕ) (a : AttrsOf) → slice_get c.table i ≡ Some a → IsOfCluster flat.tables c.number a
  row_own i a at = all_at (IsOfCluster flat.tables c.number) c.table i a of.attributes.own at

  is_module_at : (m : ℕ) → m < length flat.tables.modules → slice_index (clusters_of flat.tables) m ≡ c.number → (r : Runner) → slice_get c.runners m ≡ Some r → IsRunnerOf flat c m r
      → (x : ModuleOf) × (slice_get c.runners m ≡ Some (runner.Module x))
  is_module_at m below own (runner.Module x) at is = (x, at)
  is_module_at m below own (runner.Sampler s) at is = no_sampler (actor_kind flat.tables m) (module_kind flat laid m below) is.actor_is.kind_is
  is_module_at m below own (runner.Sink k) at is = no_sink (actor_kind flat.tables m) (module_kind flat laid m below) is.actor_is.kind_is
  is_module_at m below own runner.Outside at is = absurd (is own)

  pub row_module : (i : ℕ) (a : AttrsOf) → slice_get c.table i ≡ Some a → (x : ModuleOf) × (slice_get c.runners a.number ≡ Some (runner.Module x))
  row_module i a at =
      let own = row_own i a at in
      let few = modules_few flat.tables (is_wired flat laid.limits) in
      let r = get_inside c.runners a.number (let b = own.is_module in let l = of.actors in omega (arith, few, b, l)) in
      is_module_at a.number own.is_module own.inside r.0 r.1 (of.runners a.number r.0 r.1)

  pub modules_are : AreModules (numbers_of c.table) c.runners
  modules_are = record {
    each = λ i m at. (
        let a = row_of c.table i m at in
        let x = row_module i a.0 a.1 in
        (x.0, ap (slice_get c.runners) (sym a.2) ∙ x.1));
    once = λ i j m at there. (
        let a = row_of c.table i m at in
        let b = row_of c.table j m there in
        of.rows.once i j a.0 b.0 a.1 b.1 (a.2 ∙ sym b.2));
  }

  pub instances_are : AreInstances flat c.table c.runners
  instances_are = record {
    made = λ i a x at there.
        let is = of.runners a.number (runner.Module x) there in
        subst (λ n. AreMadeFor flat.checked n x.frame x.ports) is.block_is is.made;
    rates = λ i a x at there.
        let is = of.runners a.number (runner.Module x) there in
        is.rates ∙ ap rates_in (row_found flat.tables c.number c.table of.rows i a at);
  }

  pub planned_is : IsPlanned flat.tables c.number c.table
  planned_is = record { plan = of.planned.plan; is = of.planned.plan_is }

  pub has_cluster : (i : ℕ) (a : AttrsOf) → slice_get c.table i ≡ Some a → Contains (clusters_of flat.tables) c.number
  has_cluster i a at =
      let own = row_own i a at in
      let few = modules_few flat.tables (is_wired flat laid.limits) in
      let long = length-map flat.tables.actors cluster_of in
      let below : a.number < length (clusters_of flat.tables) = (let b = own.is_module in omega (arith, few, b, long)) in
      let x = get_inside (clusters_of flat.tables) a.number below in
      let same : x.0 ≡ c.number = sym (get_or_from_slice_get (clusters_of flat.tables) a.number x.0 0 x.1) ∙ own.inside in
      (a.number, below, get_or_from_slice_get (clusters_of flat.tables) a.number x.0 c.number x.1 ∙ same)
