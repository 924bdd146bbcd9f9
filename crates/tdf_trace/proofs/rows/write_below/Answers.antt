use Rattle.std.proofs.Common.{arith, ◌≡◌, ◌≤◌, refl, sym, ◌∙◌, length}
use Rattle.tdf_io.proofs.Api.{counts_then}
use Rattle.tdf_trace.proofs.Moving.{breaks_then, moves_none, moves_trans}
use Rattle.tdf_trace.proofs.rows.write_below.Goals as goal
use Rattle.tdf_trace.specs.views.Seen.{rows_seen}

pub loop-rows-init : goal.loop-rows-init
loop-rows-init g c = record {
  same = refl;
  fits = c.requires.fits;
  sound = c.requires.sound;
  kept = c.requires.kept;
  within = omega arith;
  wrote = moves_none c.args.about.now c.args.waits (rows_seen c.args.rows.now) _;
  counted = record { later = omega arith; kept = refl; rose = tt };
}

pub loop-rows-preserved : goal.loop-rows-preserved
loop-rows-preserved g c = record {
  same = c.write_next.ensures.same ∙ c.loop-rows.invariant.same;
  fits = record { same = c.loop-rows.invariant.fits.same ∙ sym c.write_next.ensures.same; few = (let e : length c.write_next.new.rows.columns.items ≡ length c.loop-rows.rows.columns.items = c.write_next.ensures.same in let f = c.loop-rows.invariant.fits.few in omega (arith, e, f)) };
  sound = c.write_next.ensures.sound;
  kept = c.write_next.ensures.kept;
  within = (let w : c.write_next.new.rows.upto ≤ c.args.limit = c.in-Ok-true.ensures.within in omega (arith, w));
  wrote = moves_trans c.args.about.now c.args.waits _ _ _ _ _ _ c.loop-rows.invariant.wrote c.in-Ok-true.ensures.wrote;
  counted = (let on = counts_then _ _ _ tt _ c.loop-rows.invariant.counted c.in-Ok-true.ensures.counted in record { later = on.later; kept = on.kept; rose = tt });
}

pub returns-in-Ok-false-clause-wrote : goal.returns-in-Ok-false-clause-wrote
returns-in-Ok-false-clause-wrote g c = moves_trans c.args.about.now c.args.waits _ _ _ _ _ _ c.loop-rows.invariant.wrote c.in-Ok-false.ensures.wrote

pub returns-in-Err-clause-part : goal.returns-in-Err-clause-part
returns-in-Err-clause-part g c = breaks_then c.args.about.now c.args.waits _ _ c.args.limit _ _ _ c.loop-rows.invariant.wrote (omega arith) c.in-Err.ensures.part
