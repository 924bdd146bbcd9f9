-- How a run starts is the same by compiled bodies of one text, and by first plans that say the same.
use Rattle.std.proofs.Common.{◌≡◌, ◌∙◌, ℕ, ◌+◌, true, List, [], ◌∷◌, length, map, replicate, refl, sym, ap, subst}
use Rattle.std.specs.List.{enumerate_from}
use Rattle.std.specs.Prelude.{slice_index_or}
use Rattle.tdf_sim_unique.proofs.Bodies.{start_same, with_bodies}
use Rattle.tdf_sim_unique.proofs.Checks.{AreSame, IsFull, head_or, tail_of}
use Rattle.tdf_sim_unique.proofs.Events.{side_starts_same}
use Rattle.tdf_dynamic_plans.specs.Attributes.{AttrsOf}
use Rattle.tdf_dynamic_first.specs.declared.first.First.{First}
use Rattle.tdf_expr.specs.declared.checked.Checked.{Checked}
use Rattle.tdf_bind.specs.declared.model.Flat.{Flat}
use Rattle.tdf_sim_history.specs.Start.{counts_in, first_cluster, first_clusters}
use Rattle.tdf_sim_history.specs.World.{Change, ClusterAt}
use Rattle.tdf_dynamic_texts.specs.Plans.{PlanRows, rows_of_plan}
use Rattle.tdf_streams.specs.Cluster.{text_start}
use Rattle.tdf_streams.specs.Periods.{period_record}
use Rattle.tdf_lang_tree.specs.Pure.{PureTree}
use Rattle.tdf_sim_history.specs.Rules.{start_world}

module _ (model : PureTree) (a : Flat) (ahead : List (List Change)) where
  -- a cluster at its start, by what its first plan says
  abbrev cluster_by : (cluster : ℕ) → List AttrsOf → PlanRows → (told : List Change) → ClusterAt
  cluster_by cluster attrs rows told = record {
    begun = text_start model a cluster attrs;
    entries = rows.entries;
    bounds = rows.bounds;
    origin = 0;
    since = 0;
    from = 0;
    place = 0;
    old = [];
    now = period_record a.tables attrs (counts_in a.tables rows.entries) rows.period true;
    reads = replicate (length a.tables.actors) [];
    ahead = told;
  }

  abbrev clusters_from : ℕ → List First → List ClusterAt
  clusters_from k firsts = map (λ first. first_cluster model a (first.0 + 1) first.1 (slice_index_or ahead first.0 [])) (enumerate_from k firsts)

  same_firsts : (k : ℕ) (firsts others : List First) → map (λ f. f.attrs.rows) firsts ≡ map (λ f. f.attrs.rows) others → map (λ f. rows_of_plan f.plan) firsts ≡ map (λ f. rows_of_plan f.plan) others
      → clusters_from k firsts ≡ clusters_from k others
  same_firsts k [] [] attrs plans = refl
  same_firsts k [] (g ∷ others) attrs plans = absurd (subst IsFull (sym attrs) tt)
  same_firsts k (f ∷ firsts) [] attrs plans = absurd (subst IsFull attrs tt)
  same_firsts k (f ∷ firsts) (g ∷ others) attrs plans =
      let ats : f.attrs.rows ≡ g.attrs.rows = ap (head_or f.attrs.rows) attrs in
      let rows : rows_of_plan f.plan ≡ rows_of_plan g.plan = ap (head_or (rows_of_plan f.plan)) plans in
      λ i. cluster_by (k + 1) (ats i) (rows i) (slice_index_or ahead k []) ∷ same_firsts (k + 1) firsts others (ap tail_of attrs) (ap tail_of plans) i

module _ (model : PureTree) (a : Flat) (y : Checked) (same : AreSame a.checked y) (ahead : List (List Change)) where
  clusters_same : (firsts : List First) → first_clusters model a firsts ahead ≡ first_clusters model (with_bodies a y) firsts ahead
  clusters_same firsts = λ i. map (λ (first : ℕ × First). record (first_cluster model a (first.0 + 1) first.1 (slice_index_or ahead first.0 [])) {
    begun = start_same model a y same (first.0 + 1) first.1.attrs.rows i;
  }) (enumerate_from 0 firsts)

  pub world_same : (firsts others : List First) (turns : ℕ) → map (λ f. f.attrs.rows) firsts ≡ map (λ f. f.attrs.rows) others → map (λ f. rows_of_plan f.plan) firsts ≡ map (λ f. rows_of_plan f.plan) others
      → start_world model a firsts ahead turns ≡ start_world model (with_bodies a y) others ahead turns
  world_same firsts others turns attrs plans = λ i. record (start_world model a firsts ahead turns) {
    clusters = (clusters_same firsts ∙ same_firsts model (with_bodies a y) ahead 0 firsts others attrs plans) i;
    events = side_starts_same model a y same i;
  }
