use Rattle.std.proofs.Common.{◌≡◌, ◌∙◌, ◌<◌, ◌≤◌, Some, ap, arith, length, refl, subst, sym}
use Rattle.std.proofs.lemmas.Option.{slice_get_read}
use Rattle.tdf_sim_shown.proofs.Same.{all_alike, more_alike, none_alike, on_off, one_alike}
use Rattle.tdf_sim_shown.proofs.alike.are_alike.Goals as goal
use Rattle.tdf_sim_shown.specs.machine.Alike.{AreAlikeTo}
use Rattle.tdf_streams.proofs.Api.{some_same}

pub loop-n-init : goal.loop-n-init
loop-n-init c = none_alike c.args.traces.now c.args.columns.now

pub returns-then-not-is_same_state : goal.returns-then-not-is_same_state
returns-then-not-is_same_state c =
    let columns = c.args.columns.now in
    let less : c.loop-n.n < length c.args.traces.now = c.loop-n-test.true in
    let long : length columns ≡ length c.args.traces.now = c.requires in
    let low : c.first_like-first.result ≤ c.loop-n.n = c.first_like-first.ensures.within in
    let one = slice_get_read columns (length columns) c.first_like-first.result c.index-columns-first.result refl (omega (arith, less, long, low)) c.index-columns-first.is in
    let other = slice_get_read columns (length columns) c.loop-n.n c.index-columns-n.result refl (omega (arith, less, long)) c.index-columns-n.is in (
      λ e. absurd cc,
      λ alike. absurd (on_off c.is_same_state.result
          (c.is_same_state.ensures.1 (some_same c.index-columns-first.result c.index-columns-n.result (sym one ∙ one_alike c.args.traces.now columns c.loop-n.n c.first_like-first.result c.first_like-first.ensures alike ∙ other)))
          c.if-not-is_same_state.true),
    )

pub loop-n-preserved : goal.loop-n-preserved
loop-n-preserved c =
    let columns = c.args.columns.now in
    let less : c.loop-n.n < length c.args.traces.now = c.loop-n-test.true in
    let long : length columns ≡ length c.args.traces.now = c.requires in
    let low : c.first_like-first.result ≤ c.loop-n.n = c.first_like-first.ensures.within in
    let one = slice_get_read columns (length columns) c.first_like-first.result c.index-columns-first.result refl (omega (arith, less, long, low)) c.index-columns-first.is in
    let other = slice_get_read columns (length columns) c.loop-n.n c.index-columns-n.result refl (omega (arith, less, long)) c.index-columns-n.is in
    more_alike c.args.traces.now columns c.loop-n.n c.first_like-first.result c.loop-n.invariant c.first_like-first.ensures
    (one ∙ ap Some (c.is_same_state.ensures.0 c.if-not-is_same_state.false) ∙ sym other)

pub returns : goal.returns
returns c =
    let past = c.loop-n-test.false in let end = c.loop-n.auto.n-end in
    let n : c.loop-n.n ≡ length c.args.traces.now = omega (arith, past, end) in (
      λ e. all_alike c.args.traces.now c.args.columns.now (subst (AreAlikeTo c.args.traces.now c.args.columns.now) n c.loop-n.invariant),
      λ alike. refl,
    )
