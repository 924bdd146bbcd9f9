use Rattle.tdf_sim_runs.proofs.Answering.{on_err, on_ok}
use Rattle.tdf_sim_runs.proofs.Marking.{marks_can, marks_goes, marks_part}
use Rattle.tdf_sim_runs.proofs.Onward.{since_mark, within_mark}
use Rattle.tdf_sim_runs.proofs.running.Running.write.Goals as goal

pub returns-clause-can : goal.returns-clause-can
returns-clause-can g c = on_ok c.advance.result c.advance.ensures.wrote c.advance.ensures.within (λ wrote within.
    marks_can c.law_one_answer.ensures c.law_standing.ensures c.args.flat.now c.args.self.now c.requires.can c.least_start-mark.result c.least_start-mark.ensures.within (since_mark c.args.flat.now c.args.self.now c.requires.can c.least_start-mark.result c.least_start-mark.ensures.each) (within_mark c.args.flat.now c.args.self.now c.least_start-mark.result c.least_start-mark.ensures.each) c.advance.new.self
    (g.K.Sink.taken c.args.out.now) (g.K.Sink.taken c.advance.new.sink) wrote c.advance.ensures.about within)

pub returns-clause-goes : goal.returns-clause-goes
returns-clause-goes g c = on_ok c.advance.result c.advance.ensures.wrote c.advance.ensures.within (λ wrote within.
    marks_goes c.law_one_answer.ensures c.law_standing.ensures c.args.flat.now c.args.self.now c.requires.can c.least_start-mark.result c.least_start-mark.ensures.within (since_mark c.args.flat.now c.args.self.now c.requires.can c.least_start-mark.result c.least_start-mark.ensures.each) (within_mark c.args.flat.now c.args.self.now c.least_start-mark.result c.least_start-mark.ensures.each) c.advance.new.self
    (g.K.Sink.taken c.args.out.now) (g.K.Sink.taken c.advance.new.sink) wrote c.advance.ensures.about within)

pub returns-clause-part : goal.returns-clause-part
returns-clause-part g c = on_err c.advance.result c.advance.ensures.part (λ part.
    marks_part c.law_one_answer.ensures c.law_standing.ensures c.args.flat.now c.args.self.now c.requires.can c.least_start-mark.result c.least_start-mark.ensures.within (since_mark c.args.flat.now c.args.self.now c.requires.can c.least_start-mark.result c.least_start-mark.ensures.each) (within_mark c.args.flat.now c.args.self.now c.least_start-mark.result c.least_start-mark.ensures.each)
    (g.K.Sink.taken c.args.out.now) (g.K.Sink.taken c.advance.new.sink) part)
