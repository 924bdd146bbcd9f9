-- How a run begins.
use Rattle.std.proofs.Common.{◌≡◌, ◌∙◌, ℕ, zero, suc, ◌+◌, ◌-◌, ◌≤◌, All, List, [], ◌∷◌, ◌++◌, append-nil, length, map, replicate, refl, sym, ap, subst, arith}
use Rattle.std.proofs.lemmas.List.Elements.{All-head, All-nil, All-tail}
use Rattle.std.proofs.lemmas.Option.{slice_get_within}
use Rattle.std.specs.List.{enumerate_from}
use Rattle.std.proofs.lemmas.List.{length-replicate}
use Rattle.std.specs.Prelude.{slice_index, slice_index_or}
use Rattle.tdf_dynamic_plans.specs.Attributes.{clusters_of}
use Rattle.tdf_dynamic_first.specs.declared.first.First.{First}
use Rattle.tdf_events.specs.Runnable.{AreOfSignals, signal_formats}
use Rattle.tdf_sim_history.specs.Cells.{world_before, world_of}
use Rattle.tdf_sim_history.specs.Instant.{RunFault}
use Rattle.tdf_sim_instants.specs.Engine.{IsEngineOf, IsReadyAt}
use Rattle.tdf_sim_instants.specs.InstantLaws.{IsModelOf}
use Rattle.tdf_sim_instants.specs.Making.{HavePlans}
use Rattle.tdf_sim_instants.specs.declared.engine.Engine.{Engine}
use Rattle.tdf_events.specs.Kernel.{side_of}
use Rattle.tdf_events.specs.Side.{SideOf, start_side}
use Rattle.tdf_sim_instants.specs.Below.{AreAt, ClusterOf, HaveBegun}
use Rattle.tdf_bind.specs.declared.model.Flat.{Flat}
use Rattle.tdf_graph.specs.Clusters.{greatest}
use Rattle.tdf_bind_tables.specs.Ranges.{AreInRange}
use Rattle.tdf_sim_history.specs.Telling.{told_more, world_told}
use Rattle.tdf_sim_history.specs.Texts.{notes_to}
use Rattle.tdf_sim_history.specs.World.{Change, ClusterAt, World}
use Rattle.tdf_sim_history.specs.Continuing.{HasToldCounts}
use Rattle.tdf_sim_history.specs.TurnLaws.{IsOn}
use Rattle.tdf_sim_runs.specs.Ongoing.{CanBeTold}
use Rattle.tdf_sim_instants.proofs.Api.{all_starts_are_at, cluster_there, done_known}
use Rattle.tdf_streams.proofs.Api.{get_inside}
use Rattle.tdf_sim_history.proofs.Api.{first_attributes, starts, last_record}
use Rattle.tdf_sim_history.specs.TableLaws.{HaveAttributes}
use Rattle.tdf_sim_history.specs.History.{HistoryState, history}
use Rattle.tdf_sim_runs.specs.Running.{CanGoOn, IsRunning}
use Rattle.tdf_sim_runs.specs.declared.running.Running.{Running}
use Rattle.tdf_sim_shown.specs.Below.{AreAllThere, CanStart, IsShown, IsUnshown, Shown, SoundCanStart, StartsShowing, clock_at}
use Rattle.tdf_lang_tree.specs.Pure.{PureTree}
use Rattle.tdf_trace_rows.specs.declared.kinds.TraceKind.{TraceKind}
use Rattle.tdf_sim_history.specs.Rules.{rules_of, start_world, world_engine}

-- no number of a list is above the greatest
at_most : (xs : List ℕ) (m : ℕ) → slice_index xs m ≤ greatest xs
at_most [] m = omega arith
at_most (x ∷ xs) zero = omega arith
at_most (x ∷ xs) (suc m) = let b = at_most xs m in omega (arith, b)

module _ (flat : Flat) (firsts : List First) (clusters : List ClusterOf) (since : List ℕ) (begun : HaveBegun flat firsts clusters) (zeros : since ≡ replicate (length clusters) 0) where
  -- each number of a cluster has its cluster
  all_there : HavePlans flat firsts → AreAllThere flat (length clusters)
  all_there plans m =
      let b = at_most (clusters_of flat.tables) m in
      let a = plans.all in
      let s = begun.same in
      omega (arith, b, a, s)

  -- the clusters are what the history begins with
  pub starts_at : (model : PureTree) (turns : ℕ) → IsModelOf model flat → AreAt model flat since (start_world model flat firsts [] turns).clusters clusters
  starts_at model turns of =
      subst (λ l. AreAt model flat l (start_world model flat firsts [] turns).clusters clusters) (sym zeros)
      (all_starts_are_at model flat firsts clusters of.is of.checked of.limits begun)

  -- and what is shown of the run can start with them
  pub can_start : SoundCanStart → HavePlans flat firsts → (model : PureTree) → IsModelOf model flat → (kind : TraceKind) (s : Shown) → IsUnshown kind flat s → CanStart flat (clock_at 0 since clusters) s
  can_start law plans model of kind s un =
      law model flat kind firsts 0 (clock_at 0 since clusters) s of.sound of.is of.limits un refl (starts_at model 0 of)
      (ap length zeros ∙ length-replicate (length clusters) 0) (all_there plans)

-- nothing more is told
none_from : (k : ℕ) (cs : List ClusterAt) → map (λ (c : ℕ × ClusterAt). told_more (slice_index_or [] c.0 []) c.1) (enumerate_from k cs) ≡ cs
none_from k [] = refl
none_from k (c ∷ cs) = λ i. record c { ahead = append-nil c.ahead i } ∷ none_from (k + 1) cs i

-- a run before its first instant
abbrev pub first_run : Engine → (left : ℕ) → Shown → Running → Running
first_run e left s r = record r { engine = e; shown = s; from = 0; left = left }

last_of : {A : Type 0} (P : A → Type 0) (xs : List A) (x : A) → All P (xs ++ x ∷ []) → P x
last_of P [] x all = All-head P x [] all
last_of P (y ∷ ys) x all = last_of P ys x (All-tail P y (ys ++ x ∷ []) all)

no_notes : (model : PureTree) (flat : Flat) (start : World SideOf) → notes_to model flat (rules_of model flat) start 0 ≡ []
unfolding notes_to
no_notes model flat start = refl

module _ (flat : Flat) (firsts : List First) (e : Engine) (kind : TraceKind) (s t : Shown) (plans : HavePlans flat firsts) (begun : HaveBegun flat firsts e.clusters.items) (zeros : e.since.items ≡ replicate (length e.clusters.items) 0)
    (side : side_of e.kernel ≡ start_side flat) (values : AreOfSignals (signal_formats flat) e.kernel.values) (un : IsUnshown kind flat s) (shows : StartsShowing flat (clock_at 0 e.since.items e.clusters.items) s t) where
  module _ (turns : ℕ) (model : PureTree) (of : IsModelOf model flat) where
    abbrev start : World SideOf
    start = start_world model flat firsts [] turns

    at : AreAt model flat e.since.items start.clusters e.clusters.items
    at = starts_at flat firsts e.clusters.items e.since.items begun zeros model turns of

    shown : IsShown model flat start 0 start t
    shown = shows model kind firsts turns un at

    -- nothing is told
    untold_is : world_told [] start ≡ start
    untold_is = λ i. record start { clusters = none_from 0 start.clusters i }

    -- its clusters have attributes of theirs
    have_attributes : HaveAttributes flat start
    have_attributes = first_attributes model flat firsts [] (start_side flat) turns of.limits (λ n first there.
        (let i = slice_get_within firsts n first there in
        let l = begun.same in
        let k = at.same in
        let c = get_inside e.clusters.items n (omega (arith, i, l)) in
        let h = get_inside start.clusters n (omega (arith, i, l, k)) in
        (cluster_there flat (n + 1) h.0.now of.limits (last_record flat (n + 1) h.0.begun h.0.old h.0.now (at.each n h.0 c.0 h.1 c.1).records), plans.each n first there)))

    can_be_told : CanBeTold flat start
    can_be_told = record {
      attributes = have_attributes;
      whole = λ n h there. (
          let i = slice_get_within start.clusters n h there in
          let l = at.same in
          let c = get_inside e.clusters.items n (omega (arith, i, l)) in
          let is = at.each n h c.0 there c.1 in
          record {
            counts = (done_known model flat (n + 1) h c.0 is).counts;
            whole = is.counts;
            ahead = subst (λ (a : List Change). All HasToldCounts a) (sym is.none_ahead) (All-nil HasToldCounts);
          });
    }

    -- all that runs is what the history begins with
    pub runs_at_first : IsRunning model flat start 0 e turns t []
    runs_at_first = record {
      going = record {
        can = can_be_told;
        ahead = [];
        told = record { answers = λ time n w below on due. absurd (omega (arith, below)); counts = All-nil (All HasToldCounts) };
        some = λ time n w below on due. absurd (omega (arith, below));
        world = start;
        on = subst (λ (w : World SideOf). IsOn (world_engine model flat) 0 w 0 start) (sym untold_is) (record {
          reached = omega arith;
          on = let z : 0 - 0 ≡ 0 = omega arith in ap (history (world_engine model flat) 0 start) z ∙ starts (world_engine model flat) 0 start;
        });
        now = record {
          at = at;
          side = side;
          turns = refl;
        };
        timed = record { each = λ n h there. (shown.begun n h there).after_old };
      };
      shown = subst (λ (w : World SideOf). IsShown model flat w 0 start t) (sym untold_is) shown;
      fits = λ t low. (let z : 0 ≡ t = omega (arith, low) in
          subst (λ k. AreOfSignals (signal_formats flat) (world_before model flat (rules_of model flat) (world_told [] start) k).events.values) z
          (subst (AreOfSignals (signal_formats flat)) (ap (λ (x : SideOf). x.values) side ∙ sym (ap (λ (x : HistoryState (World SideOf) RunFault). (world_of x).events.values) (starts (world_engine model flat) 0 (world_told [] start)))) values));
      news_are = sym (no_notes model flat (world_told [] start));
    }

  -- so the run can go on
  pub can_begin : (r : Running) → r.news.items ≡ [] → IsEngineOf flat e → IsReadyAt 0 e → e.outputs.traced ≡ [] → t.trace.rows.upto ≡ s.trace.rows.upto → AreInRange flat.tables → (model : PureTree) → IsModelOf model flat → (turns : ℕ)
      → CanGoOn flat (first_run e turns t r)
  can_begin r empty engine ready none upto range model of turns = record {
    engine = engine;
    ready = ready;
    none = none;
    early = omega (arith, upto, zero_upto);
    since = λ place u u_at more. omega (arith, upto, zero_upto);
    within = λ n s c s_at c_at. omega (arith, upto, zero_upto);
    printable = range;
    some = record {
      model = model;
      of = of;
      start = start turns model of;
      handed = [];
      is = subst (IsRunning model flat (start turns model of) 0 e turns t) (sym empty) (runs_at_first turns model of);
    };
  }
    where
      zero_upto : s.trace.rows.upto ≡ 0
      zero_upto = un.trace.start
