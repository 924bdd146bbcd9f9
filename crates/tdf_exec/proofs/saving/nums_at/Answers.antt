use Rattle.std.proofs.Common.{◌≡◌, ◌∙◌, [], Some, ap, refl, sym}
use Rattle.std.proofs.lemmas.Option.{get_or_from_slice_get}
use Rattle.std.specs.Prelude.{slice_get}
use Rattle.tdf_exec.proofs.Owned.{value_there}
use Rattle.tdf_exec.specs.Saved.{nums_of}
use Rattle.tdf_exec_firing.specs.Edges.{EdgesOf}
use Rattle.tdf_places.proofs.Api.{spread_nowhere}
use Rattle.tdf_rings.specs.Carried.{ring_at}
use Rattle.tdf_rings.specs.Rings.{RingOf, ring_of}
use Rattle.tdf_exec.proofs.saving.nums_at.Goals as goal

pub returns-in_ok-nums-in-Some : goal.returns-in_ok-nums-in-Some
returns-in_ok-nums-in-Some c =
    let there : slice_get c.args.own.now.rings c.args.number ≡ Some c.index.result.now = ap (λ (e : EdgesOf). slice_get e.rings c.args.number) (sym c.own.view_is)
    ∙ value_there (ring_of [] 0) c.own.inside.places c.law_apart.ensures c.own.inside.rings.items c.own.invariant.rings_long c.in-Some.place c.args.number c.index.result.now
    c.in-Some.ensures.found c.index.ensures in
    c.in_ok-nums-in-Some.ensures ∙ ap (λ (r : RingOf). nums_of r.samples) (sym (get_or_from_slice_get c.args.own.now.rings c.args.number c.index.result.now (ring_of [] 0) there))

pub returns-in-None : goal.returns-in-None
returns-in-None c =
    let none = c.in-None.ensures.none refl in
    c.new.ensures.items
    ∙ sym (ap (λ (e : EdgesOf). nums_of (ring_at e.rings c.args.number).samples) (sym c.own.view_is)
    ∙ ap (λ (r : RingOf). nums_of r.samples) (spread_nowhere (ring_of [] 0) c.own.inside.places c.own.inside.rings.items c.args.number none))
