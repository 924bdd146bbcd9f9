use Rattle.std.proofs.Common.{◌≡◌, ◌∙◌, ◌∷◌, ◌<◌, ◌≤◌, ◌+◌, false, ap, arith, subst, sym, slice_index_or}
use Rattle.std.proofs.lemmas.Bool.{le-leb, leb-true, le-ltb, lt-ltb}
use Rattle.std.proofs.lemmas.List.{drop_all, drop_more}
use Rattle.std.specs.Prelude.{drop, nat_lt}
use Rattle.tdf_saved.specs.declared.state.Stamp.{Stamp}
use Rattle.tdf_trace_states.proofs.Fits.{no_stamp}
use Rattle.tdf_trace_states.proofs.Standing.{StoodTo, stood_all, stood_early, stood_here, stood_not}
use Rattle.tdf_trace_states.proofs.windows.stand_from.Goals as goal
use Rattle.tdf_trace_states.proofs.windows.stand_from.Goals.{then-place-end-via-then-place-end, then-place-end-via-else-place-end+then-sample-window-2, then-sample-window+else-place-end+else-sample-window-2, else-sample-window}

pub returns-then-place-end : goal.returns-then-place-end
returns-then-place-end c =
    let x : Stamp = slice_index_or c.args.samples.now c.loop-i.i no_stamp in
    let at = drop_more c.args.samples.now c.loop-i.i no_stamp c.loop-i-test.true in
    let late : nat_lt x.time c.args.window.since ≡ false = le-ltb x.time c.args.window.since c.if-sample-window.true in
    let not = stood_not c.args.window c.args.samples.now c.loop-i.i c.loop-i.place x at c.loop-i.invariant late in (
      λ e. absurd cc,
      λ s. absurd (elim c.then-place-end.branch [
        | then-place-end-via-then-place-end w ↦ not (λ less is. (let l : c.loop-i.place < c.min-end.result = subst (λ n. c.loop-i.place < n) (sym c.min-end.ensures) less in let past = w.if-place-end.true in omega (arith, l, past))) s
        | then-place-end-via-else-place-end+then-sample-window-2 w ↦ not (λ less is. w.if-sample-window-2.true is) s
      ]),
    )

pub loop-i-preserved : goal.loop-i-preserved
loop-i-preserved c =
    let x : Stamp = slice_index_or c.args.samples.now c.loop-i.i no_stamp in
    let at = drop_more c.args.samples.now c.loop-i.i no_stamp c.loop-i-test.true in
    elim c.if-sample-window.branch [
      | then-sample-window+else-place-end+else-sample-window-2 w ↦ subst (λ p. StoodTo c.args.window c.args.samples.now (c.loop-i.i + 1) p) (sym w.place-is)
          (stood_here c.args.window c.args.samples.now c.loop-i.i c.loop-i.place x at c.loop-i.invariant (le-ltb x.time c.args.window.since w.if-sample-window.true)
          (subst (λ n. c.loop-i.place < n) c.min-end.ensures w.if-place-end.false) w.if-sample-window-2.false)
      | else-sample-window w ↦ subst (λ p. StoodTo c.args.window c.args.samples.now (c.loop-i.i + 1) p) (sym w.place-is)
          (stood_early c.args.window c.args.samples.now c.loop-i.i c.loop-i.place x at c.loop-i.invariant (lt-ltb x.time c.args.window.since w.if-sample-window.false))
    ]

pub returns : goal.returns
returns c =
    let all = stood_all c.args.window c.args.samples.now c.loop-i.i c.loop-i.place (drop_all c.loop-i.i c.args.samples.now (omega (arith, c.loop-i-test.false))) c.loop-i.invariant in (
      λ e. all.0 (subst (λ n. n ≤ c.loop-i.place) c.min-end.ensures (leb-true c.min-end.result c.loop-i.place e)),
      λ s. le-leb c.min-end.result c.loop-i.place (subst (λ n. n ≤ c.loop-i.place) (sym c.min-end.ensures) (all.1 s)),
    )
