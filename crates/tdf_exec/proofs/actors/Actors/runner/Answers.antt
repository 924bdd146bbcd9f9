use Rattle.std.proofs.Common.{◌∙◌, Some, ap, arith, length, refl, sym}
use Rattle.std.proofs.lemmas.List.{get_or_read_under}
use Rattle.std.specs.Prelude.{slice_get}
use Rattle.tdf_exec.specs.declared.runners.Runner.TheVariants as runner
use Rattle.tdf_exec.specs.views.Actors.{ActorsOf, kept_at}
use Rattle.tdf_places.proofs.Api.{place_at, spread_nowhere, spread_there}
use Rattle.tdf_exec.proofs.actors.Actors.runner.Goals as goal

pub returns-in-Some-clause-found : goal.returns-in-Some-clause-found
returns-in-Some-clause-found c =
    ap (λ (a : ActorsOf). slice_get a.runners c.args.actor) (sym c.self.view_is)
    ∙ spread_there runner.Outside c.self.inside.places c.law_apart.ensures c.self.inside.runners.items c.self.invariant.runners_long c.in-Some.place c.args.actor c.in-Some.ensures.found
    ∙ ap Some (sym (get_or_read_under c.self.inside.runners.items c.in-Some.place (length c.self.inside.runners.items) c.index.result.now runner.Outside c.index.ensures
    (let l = c.self.invariant.runners_long in let w = (place_at runner.Outside c.self.inside.places c.in-Some.place c.args.actor c.in-Some.ensures.found).0 in omega (arith, l, w)) refl))

pub returns-in-None-clause-none : goal.returns-in-None-clause-none
returns-in-None-clause-none c none =
    ap (λ (a : ActorsOf). kept_at a.runners c.args.actor) (sym c.self.view_is)
    ∙ spread_nowhere runner.Outside c.self.inside.places c.self.inside.runners.items c.args.actor (c.in-None.ensures.none refl)
