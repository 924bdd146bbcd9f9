use Rattle.std.proofs.Common.{◌≡◌, ◌++◌, take}
use Rattle.tdf_sim_runs.specs.News.{news_text}
use Rattle.tdf_sim_runs.proofs.news.push_news.Given as goal

abbrev pub invariant-loop-k : goal.invariant-loop-k
invariant-loop-k l = l.news.items ≡ l.initial.news.items ++ news_text l.flat l.time l.clusters.items (take l.k l.planned.items)
