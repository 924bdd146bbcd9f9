use Rattle.std.proofs.Common.{sym, subst}
use Rattle.std.proofs.lemmas.List.Elements.{All-nil}
use Rattle.std.specs.Prelude.{All, List}
use Rattle.tdf_sim_history.specs.Continuing.{HasToldCounts}
use Rattle.tdf_sim_history.specs.World.{Change}
use Rattle.tdf_sim_refinement.proofs.Api.{done_known}
use Rattle.tdf_sim_laws.proofs.laws.law_samples_at.Goals as goal

pub returns : goal.returns
returns c = λ model flat number h k s port out time j at holds low is.
    let known = done_known model flat number h k at in
    c.law_samples_there.ensures model flat number h s port out time j (record {
      records = at.records;
      plan = record {
        counts = known.counts;
        whole = at.counts;
        ahead = subst (λ (a : List Change). All HasToldCounts a) (sym at.none_ahead) (All-nil HasToldCounts);
      };
      place = known.within;
      known = known.values;
    }) holds low is
