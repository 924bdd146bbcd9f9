use Rattle.std.proofs.Common.{◌≡◌, ◌<◌, ℤ, IfOk, Vec, Global, length, map, Some, slice_get, refl, rules, ap, sym, ◌∙◌, subst}
use Rattle.std.proofs.lemmas.Option.{slice_get_read, slice_get_within}
use Rattle.std.proofs.lemmas.Result.{IfOk-weaker}
use Rattle.tdf_fixed.specs.declared.raw.Raw.{Raw}
use Rattle.tdf_trace.proofs.ColumnPlaces.{some_same}
use Rattle.tdf_trace.proofs.Resumed.{later_is, no_later}
use Rattle.tdf_trace.proofs.tracking.Tracking.later.Goals as goal
use Rattle.tdf_trace.specs.Starts.{IsLaterOf}
use Rattle.tdf_trace.specs.Tracked.{TrackedOf, TrackingOf}
use Rattle.tdf_trace.specs.machine.Finding.{StandsAt}

pub returns-in-None : goal.returns-in-None
returns-in-None c = no_later c.args.signal c.args.self.now.list c.new.result.items c.in-None.ensures c.new.ensures.items

pub returns-in-Some : goal.returns-in-Some
returns-in-Some c =
    let w : StandsAt c.self.inside.list.items c.args.signal c.in-Some.place =
    subst (λ (v : TrackingOf). StandsAt v.list c.args.signal c.in-Some.place) (sym c.self.view_is) c.in-Some.ensures in
    let less : c.in-Some.place < length c.self.inside.list.items = slice_get_within c.self.inside.list.items c.in-Some.place w.it w.there in
    let here : slice_get c.self.inside.list.items c.in-Some.place ≡ Some c.index-tracked.result.now = slice_get_read c.self.inside.list.items (length c.self.inside.list.items) c.in-Some.place c.index-tracked.result.now refl less (search rules) in
    let e : c.index-tracked.result.now ≡ w.it = some_same c.index-tracked.result.now w.it (sym here ∙ w.there) in
    IfOk-weaker c.numbers_of.result _ _
    (λ (nums : Vec ℤ Global) same. subst (λ (v : TrackingOf). IsLaterOf c.args.signal v.list nums.items) c.self.view_is
    (later_is c.args.signal c.self.inside.places.items c.self.inside.list.items c.in-Some.place c.index-tracked.result.now nums.items c.self.invariant.finds here (ap (λ (v : TrackedOf). v.signal) e ∙ w.same) same))
    (subst (λ (t : TrackedOf). IfOk c.numbers_of.result (λ (nums : Vec ℤ Global). nums.items ≡ map (λ (w : Raw). w.num) t.waiting)) c.tracked.view_is c.numbers_of.ensures)
