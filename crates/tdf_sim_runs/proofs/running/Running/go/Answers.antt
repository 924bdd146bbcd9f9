use Rattle.std.proofs.Common.{[], append-nil, IfSome, Some, ◌∙◌, ◌<◌, ◌≤◌, Err, Ok, ap, subst, refl, arith}
use Rattle.std.proofs.KnownBytes.{Appends-nil}
use Rattle.tdf_io.proofs.Api.{counts_then, front_none}
use Rattle.tdf_sim_runs.proofs.Counting.{first_failed, second_failed}
use Rattle.tdf_sim_runs.proofs.Answering.{same_ok}
use Rattle.tdf_sim_runs.proofs.Handed.{end_handing, goes_last, hands_can, hands_part, rows_front_of, turn_then}
use Rattle.tdf_sim_runs.proofs.Onward.{goes_quietly, goes_then}
use Rattle.tdf_sim_runs.proofs.Reaching.{part_then}
use Rattle.tdf_sim_runs.proofs.running.Running.go.Goals as goal
use Rattle.tdf_sim_runs.specs.Ending.{GoesToEnd}
use Rattle.tdf_sim_runs.specs.Running.{RunGoesOn}
use Rattle.tdf_sim_runs.specs.declared.going.Ended.TheVariants as ended
use Rattle.tdf_sim_runs.specs.declared.running.Running.{Running}

pub loop-ended-init : goal.loop-ended-init
loop-ended-init g c = record {
  can = c.requires.can;
  goes = record {
    news = [];
    took = Appends-nil (g.N.Sink.taken c.args.notes.now);
    goes = goes_quietly c.args.flat.now c.args.self.now c.args.self.now (g.K.Sink.taken c.args.out.now) (omega arith) refl refl (λ model start handed m run. run);
  };
  within = c.requires.within;
  opened = c.requires.«open»;
  counted = record { later = omega arith; kept = refl; rose = tt };
  noted = record { later = omega arith; kept = refl; rose = tt };
}

pub turn-requires-clause-can : goal.turn-requires-clause-can
turn-requires-clause-can g c = c.loop-ended.invariant.can

pub turn-requires-clause-within : goal.turn-requires-clause-within
turn-requires-clause-within g c = c.loop-ended.invariant.within

pub turn-requires-clause-open : goal.turn-requires-clause-open
turn-requires-clause-open g c = c.loop-ended.invariant.opened

pub loop-ended-smaller : goal.loop-ended-smaller
loop-ended-smaller g c =
    let is = ap Ok c.in-Ok-None.field-0-is in
    let w : c.turn.new.self.from ≤ c.args.stop = c.in-Ok-None.ensures.within is in
    let o : c.loop-ended.self.from < c.turn.new.self.from = c.in-Ok-None.ensures.on is in
    let f = ap (λ (x : Running). x.from) c.in_default.ensures.hands.rest in
    omega (arith, w, o, f)

pub loop-ended-preserved : goal.loop-ended-preserved
loop-ended-preserved g c =
    let is = ap Ok c.in-Ok-None.field-0-is in
    let hands = c.in_default.ensures.hands in
    let counted = counts_then _ _ _ tt _ c.loop-ended.invariant.counted c.in-Ok-None.ensures.counted in
    let noted = counts_then _ _ _ tt _ c.loop-ended.invariant.noted c.in_default.ensures.counted in
    record {
      can = hands_can c.args.flat.now c.turn.new.self c.hand_on.new.self (g.N.Sink.taken c.loop-ended.notes) (g.N.Sink.taken c.hand_on.new.notes) hands (c.in-Ok-None.ensures.can is);
      goes = turn_then c.law_one_answer.ensures c.args.flat.now c.args.self.now c.loop-ended.self (g.K.Sink.taken c.args.out.now) (g.K.Sink.taken c.loop-ended.out) (g.N.Sink.taken c.args.notes.now) (g.N.Sink.taken c.loop-ended.notes)
          c.loop-ended.invariant.can c.loop-ended.invariant.goes c.turn.new.self c.hand_on.new.self (g.K.Sink.taken c.turn.new.out) (g.N.Sink.taken c.hand_on.new.notes) (c.in-Ok-None.ensures.can is) (c.in-Ok-None.ensures.goes is) hands;
      within = (let w = c.in-Ok-None.ensures.within is in let f = ap (λ (x : Running). x.from) hands.rest in omega (arith, w, f));
      opened = ap (λ (x : Running). x.shown.trace.stage) hands.rest ∙ c.in-Ok-None.ensures.«open»;
      counted = record { later = counted.later; kept = counted.kept; rose = tt };
      noted = record { later = noted.later; kept = noted.kept; rose = tt };
    }

pub returns-in-Ok-Some : goal.returns-in-Ok-Some
returns-in-Ok-Some g c =
    let on = counts_then _ _ _ tt _ c.loop-ended.invariant.counted c.in-Ok-Some.ensures.counted in
    record {
      ends = end_handing c.law_one_answer.ensures c.args.flat.now c.args.self.now c.loop-ended.self (g.K.Sink.taken c.args.out.now) (g.K.Sink.taken c.loop-ended.out) (g.N.Sink.taken c.args.notes.now) (g.N.Sink.taken c.loop-ended.notes)
          c.loop-ended.invariant.can c.loop-ended.invariant.goes c.turn.new.self c.args.stop c.in-Ok-Some.ended (g.K.Sink.taken c.turn.new.out) c.loop-ended.invariant.within
          (subst (λ o. IfSome o (GoesToEnd c.args.flat.now c.args.stop c.loop-ended.self c.turn.new.self [] (g.K.Sink.taken c.loop-ended.out) (g.K.Sink.taken c.turn.new.out))) c.in-Ok-Some.field-0-is c.in-Ok-Some.ensures.ends);
      comes = λ is. (
          let come = c.in-Ok-Some.ensures.comes (ap Ok (c.in-Ok-Some.field-0-is) ∙ ap (λ e. Ok (Some e)) (same_ok c.in-Ok-Some.ended ended.Reached is)) in
          record {
            can = come.can;
            at = come.at;
            goes = goes_last c.law_one_answer.ensures c.args.flat.now c.args.self.now c.loop-ended.self c.turn.new.self (g.K.Sink.taken c.args.out.now) (g.K.Sink.taken c.loop-ended.out) (g.K.Sink.taken c.turn.new.out) (g.N.Sink.taken c.args.notes.now) (g.N.Sink.taken c.loop-ended.notes)
                c.loop-ended.invariant.can c.loop-ended.invariant.goes come.goes;
          });
      «open» = c.in-Ok-Some.ensures.«open»;
      part = tt;
      notes_part = tt;
      counts = first_failed _ _ _ _ (Ok c.in-Ok-Some.ended) (record { later = on.later; kept = on.kept; rose = tt }) c.loop-ended.invariant.noted;
    }

pub returns-in-Err-clause-part : goal.returns-in-Err-clause-part
returns-in-Err-clause-part g c = part_then c.law_one_answer.ensures c.args.flat.now c.args.self.now c.loop-ended.self c.args.stop c.loop-ended.invariant.goes.news (g.K.Sink.taken c.args.out.now) (g.K.Sink.taken c.loop-ended.out) (g.K.Sink.taken c.turn.new.out)
    c.loop-ended.invariant.can c.loop-ended.invariant.within c.loop-ended.invariant.goes.goes c.in-Err.ensures.part

pub returns-in-Err-clause-notes_part : goal.returns-in-Err-clause-notes_part
returns-in-Err-clause-notes_part g c =
    let goes = c.loop-ended.invariant.goes in
    hands_part c.law_one_answer.ensures c.args.flat.now c.args.self.now c.loop-ended.self c.args.stop goes.news (g.K.Sink.taken c.args.out.now) (g.K.Sink.taken c.loop-ended.out)
    (g.N.Sink.taken c.args.notes.now) (g.N.Sink.taken c.loop-ended.notes) (g.N.Sink.taken c.loop-ended.notes) c.loop-ended.invariant.within goes.goes goes.took
    (front_none (g.N.Sink.taken c.loop-ended.notes) c.loop-ended.self.news.items)

pub returns-in-Err-clause-counts : goal.returns-in-Err-clause-counts
returns-in-Err-clause-counts g c =
    let on = counts_then _ _ _ tt _ c.loop-ended.invariant.counted c.in-Err.ensures.counted in
    first_failed _ _ _ _ (Err c.in-Err.error) (record { later = on.later; kept = on.kept; rose = on.rose }) c.loop-ended.invariant.noted

-- the sink of the news refused, after a turn: rows were written, but no more than that
pub returns-in-Err-hand_on : goal.returns-in-Err-hand_on
returns-in-Err-hand_on g c =
    let is = ap Ok c.in-Ok-None.field-0-is in
    let flat = c.args.flat.now in
    let goes = c.loop-ended.invariant.goes in
    let out = g.K.Sink.taken c.turn.new.out in
    let turned = goes_then c.law_one_answer.ensures flat c.args.self.now c.loop-ended.self c.turn.new.self goes.news [] (g.K.Sink.taken c.args.out.now) (g.K.Sink.taken c.loop-ended.out) out
    c.loop-ended.invariant.can goes.goes (c.in-Ok-None.ensures.goes is) in
    let quiet = subst (λ l. RunGoesOn flat c.args.self.now c.turn.new.self l (g.K.Sink.taken c.args.out.now) out) (append-nil goes.news) turned in
    let counted = counts_then _ _ _ tt _ c.loop-ended.invariant.counted c.in-Ok-None.ensures.counted in
    let noted = counts_then _ _ _ tt _ c.loop-ended.invariant.noted c.in-Err-hand_on.ensures.counted in
    record {
      ends = tt;
      comes = λ is. absurd cc;
      «open» = tt;
      part = rows_front_of c.law_one_answer.ensures flat c.args.self.now c.turn.new.self c.args.stop goes.news (g.K.Sink.taken c.args.out.now) out (c.in-Ok-None.ensures.can is) (c.in-Ok-None.ensures.within is) quiet;
      notes_part = hands_part c.law_one_answer.ensures flat c.args.self.now c.turn.new.self c.args.stop goes.news (g.K.Sink.taken c.args.out.now) out
          (g.N.Sink.taken c.args.notes.now) (g.N.Sink.taken c.loop-ended.notes) (g.N.Sink.taken c.hand_on.new.notes) (c.in-Ok-None.ensures.within is) quiet goes.took c.in-Err-hand_on.ensures.part;
      counts = second_failed _ _ _ _ (Err c.in-Err-hand_on.error) (record { later = counted.later; kept = counted.kept; rose = tt }) (record { later = noted.later; kept = noted.kept; rose = noted.rose });
    }
