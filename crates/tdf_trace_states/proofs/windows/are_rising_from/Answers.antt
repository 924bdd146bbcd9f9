use Rattle.std.proofs.Common.{◌≡◌, ◌≤◌, Some, slice_get, slice_index_or, subst, sym}
use Rattle.std.proofs.lemmas.Bool.{le-leb, leb-true}
use Rattle.std.proofs.lemmas.Option.{get_or_from_slice_get, slice_get-get_or, slice_get_within}
use Rattle.tdf_saved.specs.declared.state.Stamp.{Stamp}
use Rattle.tdf_trace_states.proofs.Standing.{rising_from}
use Rattle.tdf_trace_states.proofs.windows.are_rising_from.Goals as goal

pub returns-in-Some : goal.returns-in-Some
returns-in-Some c =
    let at : slice_get c.args.samples.now 0 ≡ Some c.in-Some.first.now = sym c.in-Some.ensures.value in (
      λ e. record {
        from = λ k d less. rising_from c.args.samples.now c.args.time c.in-Some.first.now at (leb-true c.args.time c.in-Some.first.now.time e) (c.do_rise.ensures.0 c.if-not-do_rise.false) k (slice_index_or c.args.samples.now k d) (slice_get-get_or c.args.samples.now k d less);
        rise = c.do_rise.ensures.0 c.if-not-do_rise.false;
      },
      λ is. le-leb c.args.time c.in-Some.first.now.time (subst (λ (x : Stamp). c.args.time ≤ x.time) (get_or_from_slice_get c.args.samples.now 0 c.in-Some.first.now c.in-Some.first.now at) (is.from 0 c.in-Some.first.now (slice_get_within c.args.samples.now 0 c.in-Some.first.now at))),
    )
