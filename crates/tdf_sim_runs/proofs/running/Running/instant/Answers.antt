use Rattle.std.proofs.Common.{◌≡◌, ◌∙◌, ap, rules}
use Rattle.tdf_sim_runs.proofs.running.Running.instant.Goals as goal

pub returns-in-Ok-tell-2 : goal.returns-in-Ok-tell-2
returns-in-Ok-tell-2 c =
    let told = c.tell-in-Ok.new.self in
    let came = c.instant-came in
    let rest = c.tell-in-Ok.ensures.rest in
    let engine : told.engine ≡ came.new.self = ap (λ r. r.engine) rest in
    let left : told.left ≡ came.new.left = ap (λ r. r.left) rest in
    record {
      engine = λ is. rw engine (came.ensures.engine (c.in-Ok.is ∙ is));
      had = λ is. rw (engine, left) (came.ensures.had (c.in-Ok.is ∙ is));
      later = λ is. rw engine (came.ensures.later (c.in-Ok.is ∙ is));
      spent = λ is. rw engine (came.ensures.spent (c.in-Ok.is ∙ is));
      stopped = λ number fault is. rw engine (came.ensures.stopped number fault (c.in-Ok.is ∙ is));
      news = search rules;
      rest = search rules;
    }
