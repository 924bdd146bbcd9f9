use Rattle.std.proofs.Common.{◌≡◌, ◌∙◌, ◌+◌, ◌-◌, ◌^◌, ℕ, Some, ap, min, sym}
use Rattle.std.proofs.lemmas.Option.{get_or_from_slice_get}
use Rattle.std.specs.Prelude.{slice_get}
use Rattle.tdf_exec.proofs.Owned.{kept_stands, one_fired, value_there}
use Rattle.tdf_exec.specs.declared.runners.Runner.TheVariants as runner
use Rattle.tdf_exec.specs.views.Actors.{ActorsOf}
use Rattle.tdf_exec.proofs.actors.Actors.fire.Goals as goal

pub at-place-requires : goal.at-place-requires
at-place-requires c =
    let own = c.requires.own in
    kept_stands c.self.inside.places c.self.inside.runners.items c.args.actor own.0 (ap (λ (a : ActorsOf). slice_get a.runners c.args.actor) c.self.view_is ∙ own.1) own.2

pub fire_runner-requires-clause-can : goal.fire_runner-requires-clause-can
fire_runner-requires-clause-can c = c.requires.can c.index_mut-runner.result.now
    (ap (λ (a : ActorsOf). slice_get a.runners c.args.actor) (sym c.self.view_is)
    ∙ value_there runner.Outside c.self.inside.places c.law_apart.ensures c.self.inside.runners.items c.self.invariant.runners_long c.at-place.result c.args.actor c.index_mut-runner.result.now
    c.at-place.ensures c.index_mut-runner.ensures.value)

pub fire_runner-requires-clause-gives : goal.fire_runner-requires-clause-gives
fire_runner-requires-clause-gives c = c.requires.gives c.index_mut-runner.result.now
    (ap (λ (a : ActorsOf). slice_get a.runners c.args.actor) (sym c.self.view_is)
    ∙ value_there runner.Outside c.self.inside.places c.law_apart.ensures c.self.inside.runners.items c.self.invariant.runners_long c.at-place.result c.args.actor c.index_mut-runner.result.now
    c.at-place.ensures c.index_mut-runner.ensures.value)

pub returns-clause-fired : goal.returns-clause-fired
returns-clause-fired c =
    let position_there : slice_get c.args.self.now.positions c.args.actor ≡ Some c.index_mut.result.now = ap (λ (a : ActorsOf). slice_get a.positions c.args.actor) (sym c.self.view_is)
    ∙ value_there 0 c.self.inside.places c.law_apart.ensures c.self.inside.positions.items c.self.invariant.positions_long c.at-place.result c.args.actor c.index_mut.result.now
    c.at-place.ensures c.index_mut.ensures.value in
    record {
      was = c.index_mut-runner.result.now;
      at = ap (λ (a : ActorsOf). slice_get a.runners c.args.actor) (sym c.self.view_is)
          ∙ value_there runner.Outside c.self.inside.places c.law_apart.ensures c.self.inside.runners.items c.self.invariant.runners_long c.at-place.result c.args.actor c.index_mut-runner.result.now
          c.at-place.ensures c.index_mut-runner.ensures.value;
      now = c.fire_runner.new.runner;
      position = c.count_one.new.position;
      counted = c.count_one.ensures ∙ ap (λ (n : ℕ). min (n + 1) (2 ^ 64 - 1)) (sym (get_or_from_slice_get c.args.self.now.positions c.args.actor c.index_mut.result.now 0 position_there));
      new_is = one_fired c.self.inside.places c.law_apart.ensures c.self.inside.runners.items c.self.inside.positions.items c.self.invariant.runners_long c.self.invariant.positions_long
          c.at-place.result c.args.actor c.at-place.ensures c.fire_runner.new.runner c.count_one.new.position c.args.self.now c.self.view_is;
      ran = c.fire_runner.ensures.ran;
      given = c.fire_runner.ensures.given;
    }
