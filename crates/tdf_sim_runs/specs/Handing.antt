-- What a run hands on of its news: the plans that boundaries brought.
-- Source: own.
use Rattle.std.specs.Io.KnownBytes.{Appends}
use Rattle.std.specs.Prelude.{◌≡◌, ◌++◌, ℕ, List, [], Option}
use Rattle.tdf_bind.specs.declared.model.Flat.{Flat}
use Rattle.tdf_sim_runs.specs.Ending.{GoesToEnd}
use Rattle.tdf_sim_runs.specs.Running.{CanGoOn, RunGoesOn}
use Rattle.tdf_sim_runs.specs.declared.going.Ended.{Ended}
use Rattle.tdf_sim_runs.specs.declared.running.Running.{Running}

-- a sink took a front part of the news that a run held, and it holds the rest
pub record HandsOn (old new : Running) (before after : Option (List ℕ)) : Type 0 where
  pub news : List ℕ
  pub took : Appends before after news
  pub whole : news ++ new.news.items ≡ old.news.items
  pub rest : new ≡ record old { news = new.news }

-- a run went on, and one sink took its rows, another the news that it handed on
pub record GoesHanding (flat : Flat) (old new : Running)
    (out_before out_after notes_before notes_after : Option (List ℕ)) : Type 0 where
  pub news : List ℕ
  pub took : Appends notes_before notes_after news
  pub goes : RunGoesOn flat old new news out_before out_after

-- a run has come to a stop, and can go on from there; nothing was handed on
pub record ComesToStop (flat : Flat) (stop : ℕ) (old new : Running) (before after : Option (List ℕ))
    : Type 0 where
  pub can : CanGoOn flat new
  pub at : new.from ≡ stop
  pub goes : RunGoesOn flat old new [] before after

-- so it has, and handed on news meanwhile
pub record ComesHanding (flat : Flat) (stop : ℕ) (old new : Running)
    (out_before out_after notes_before notes_after : Option (List ℕ)) : Type 0 where
  pub can : CanGoOn flat new
  pub at : new.from ≡ stop
  pub goes : GoesHanding flat old new out_before out_after notes_before notes_after

-- so it went to its end
pub record EndsHanding (flat : Flat) (stop : ℕ) (old new : Running)
    (out_before out_after notes_before notes_after : Option (List ℕ)) (how : Ended)
    : Type 0 where
  pub news : List ℕ
  pub took : Appends notes_before notes_after news
  pub ends : GoesToEnd flat stop old new news out_before out_after how
