use Rattle.std.proofs.Common.{◌∙◌, ◌<◌, Some, ap, arith, length, refl, subst, sym}
use Rattle.std.proofs.lemmas.List.{get_or_read_under}
use Rattle.std.specs.Prelude.{slice_get, slice_set}
use Rattle.tdf_cluster_net.specs.Numbers.{IsAmong}
use Rattle.tdf_exec.proofs.Owned.{actors_of, one_put}
use Rattle.tdf_exec.specs.declared.runners.Runner.{Runner}
use Rattle.tdf_exec.specs.declared.runners.Runner.TheVariants as runner
use Rattle.tdf_exec.specs.views.Actors.{ActorsOf}
use Rattle.tdf_places.proofs.Api.{place_at, spread_there}
use Rattle.tdf_places.specs.Spread.{spread}
use Rattle.tdf_exec.proofs.actors.Actors.replace.Goals as goal

pub at-place-requires : goal.at-place-requires
at-place-requires c =
    let own : IsAmong c.self.inside.places.numbers c.args.actor = subst (λ (a : ActorsOf). IsAmong a.places.numbers c.args.actor) (sym c.self.view_is) c.requires in
    own

pub returns-clause-was : goal.returns-clause-was
returns-clause-was c =
    let below : c.at-place.result < length c.self.inside.runners.items =
    (let l = c.self.invariant.runners_long in let w = (place_at runner.Outside c.self.inside.places c.at-place.result c.args.actor c.at-place.ensures).0 in omega (arith, l, w)) in
    ap (λ (a : ActorsOf). slice_get a.runners c.args.actor) (sym c.self.view_is)
    ∙ spread_there runner.Outside c.self.inside.places c.law_apart.ensures c.self.inside.runners.items c.self.invariant.runners_long c.at-place.result c.args.actor c.at-place.ensures
    ∙ ap Some (sym (c.replace.ensures.value
    ∙ get_or_read_under c.self.inside.runners.items c.at-place.result (length c.self.inside.runners.items) c.index_mut.result.now runner.Outside c.index_mut.ensures.value below refl))

pub returns-clause-now : goal.returns-clause-now
returns-clause-now c =
    ap (λ (r : Runner). actors_of c.self.inside.places (spread runner.Outside c.self.inside.places (slice_set c.self.inside.runners.items c.at-place.result r)) (spread 0 c.self.inside.places c.self.inside.positions.items))
    c.replace.ensures.after
    ∙ one_put c.self.inside.places c.law_apart.ensures c.self.inside.runners.items (spread 0 c.self.inside.places c.self.inside.positions.items) c.self.invariant.runners_long
    c.at-place.result c.args.actor c.at-place.ensures c.args.runner c.args.self.now c.self.view_is
