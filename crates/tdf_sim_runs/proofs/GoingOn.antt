-- A run that goes on from a snapshot: nothing happens in it before its time.
use Rattle.std.proofs.Common.{◌≡◌, ◌∙◌, ◌<◌, ◌≤◌, ◌+◌, ◌-◌, ◌||◌, ℕ, zero, suc, Bool, true, false, not, if◌then◌else◌, All, Option, Some, None, List, [], ◌∷◌, ◌++◌, append-nil, map, nat_eq, inl, inr, refl, sym, ap, subst, arith}
use Rattle.std.proofs.lemmas.Bool.{cases_lt, eq-eqb}
use Rattle.std.proofs.lemmas.List.Elements.{All-nil}
use Rattle.std.specs.List.{enumerate_from, list_any}
use Rattle.std.specs.Prelude.{slice_index_or}
use Rattle.tdf_bind.specs.declared.model.Flat.{Flat}
use Rattle.tdf_dynamic_first.specs.declared.first.First.{First}
use Rattle.tdf_events.specs.Delta.{is_due as is_due_at, is_idle}
use Rattle.tdf_events.specs.Kernel.{side_of}
use Rattle.tdf_events.specs.Runnable.{AreOfSignals, signal_formats}
use Rattle.tdf_events.specs.Side.{SideOf}
use Rattle.tdf_events.specs.State.{resumed_side}
use Rattle.tdf_lang_tree.specs.Pure.{PureTree}
use Rattle.tdf_saved.specs.State.{SnapshotOf}
use Rattle.tdf_sim_history.specs.Answers.{AreAnswers}
use Rattle.tdf_sim_history.specs.Cells.{world_before, world_of}
use Rattle.tdf_sim_history.specs.Continuing.{HasToldCounts}
use Rattle.tdf_sim_history.specs.History.{HistoryState, On, history}
use Rattle.tdf_sim_history.specs.Instant.{RunFault, is_cluster_due, is_due}
use Rattle.tdf_sim_history.specs.Rules.{is_side_due, rules_of, world_engine}
use Rattle.tdf_sim_history.specs.Telling.{AreTold, told_more, world_told}
use Rattle.tdf_sim_history.specs.Texts.{new_plans, left_by, notes_in, notes_to}
use Rattle.tdf_sim_history.specs.TurnLaws.{IsOn}
use Rattle.tdf_sim_history.specs.World.{ClusterAt, World}
use Rattle.tdf_sim_instants.specs.Settling.{IsBefore}
use Rattle.tdf_sim_instants.specs.declared.engine.Engine.{Engine}
use Rattle.tdf_sim_instants.specs.Below.{AreAt}
use Rattle.tdf_sim_shown.specs.Below.{IsGoodStart, IsShown, IsValid, NoneIsDueBefore, Shown, StandsStill, resumed_world}
use Rattle.tdf_sim_runs.specs.Running.{IsRunning}
use Rattle.tdf_streams.proofs.Api.{none_some}

-- nothing more is told
none_from : (k : ℕ) (cs : List ClusterAt) → map (λ (c : ℕ × ClusterAt). told_more (slice_index_or [] c.0 []) c.1) (enumerate_from k cs) ≡ cs
none_from k [] = refl
none_from k (c ∷ cs) = λ i. record c { ahead = append-nil c.ahead i } ∷ none_from (k + 1) cs i

on_off : (b : Bool) → b ≡ true → b ≡ false → ⊥
on_off b on off = absurd cc

or_left_off : (a b : Bool) → (a || b) ≡ false → a ≡ false
or_left_off true b off = off
or_left_off false b off = refl

or_right_off : (a b : Bool) → (a || b) ≡ false → b ≡ false
or_right_off true b off = absurd cc
or_right_off false b off = off

not_off : (a : Bool) → not a ≡ false → a ≡ true
not_off true off = refl
not_off false off = absurd cc

-- where nothing of a list is due, each of its times isn't
off_at : (t : ℕ) (times : List (Option ℕ)) (event pending : ℕ) → list_any (is_due_at t) times ≡ false → slice_index_or times event None ≡ Some pending → nat_eq pending t ≡ false
off_at t [] event pending off at = none_some pending at
off_at t (p ∷ ps) zero pending off at = sym (ap (is_due_at t) at) ∙ or_left_off (is_due_at t p) (list_any (is_due_at t) ps) off
off_at t (p ∷ ps) (suc event) pending off at = off_at t ps event pending (or_right_off (is_due_at t p) (list_any (is_due_at t) ps) off) at

module _ (model : PureTree) (flat : Flat) (firsts : List First) (s : SnapshotOf) (due : NoneIsDueBefore) (still : StandsStill) (valid : IsValid model flat firsts s) where
  abbrev pub start : World SideOf
  start = resumed_world model flat firsts s []

  -- nothing is told
  untold_is : world_told [] start ≡ start
  untold_is = λ i. record start { clusters = none_from 0 start.clusters i }

  stays : (t : ℕ) → t ≤ s.time → history (world_engine model flat) 0 start t ≡ On start
  stays t low = still model flat firsts s [] t valid low

  not_due : (t : ℕ) → t < s.time → is_due (rules_of model flat) start t ≡ false
  not_due t less = due model flat firsts s [] t valid less

  none_happens : (t : ℕ) (w : World SideOf) → t < s.time → history (world_engine model flat) 0 start t ≡ On w → is_due (rules_of model flat) w t ≡ true → ⊥
  none_happens t w less on now =
      let same : start ≡ w = ap world_of (sym (stays t (omega (arith, less))) ∙ on) in
      on_off (is_due (rules_of model flat) w t) now (sym (ap (λ v. is_due (rules_of model flat) v t) same) ∙ not_due t less)

  answers : AreAnswers model flat (rules_of model flat) start s.time
  answers t n w less on now = absurd (none_happens t w less on now)

  told : AreTold model flat (rules_of model flat) start s.time
  told t n w less on now = absurd (none_happens t w less on now)

  no_notes : (t : ℕ) → t ≤ s.time → notes_to model flat (rules_of model flat) start t ≡ []
  unfolding notes_to
  no_notes zero low = refl
  no_notes (suc t) low =
      ap (λ l. l ++ notes_in model flat (rules_of model flat) t (history (world_engine model flat) 0 start t)) (no_notes t (omega (arith, low)))
      ∙ ap (notes_in model flat (rules_of model flat) t) (stays t (omega (arith, low)))
      ∙ ap (λ (b : Bool). if b then new_plans flat t (left_by ((world_engine model flat).instant t start)) else []) (not_due t low)

  side_off : (t : ℕ) → t < s.time → is_side_due (resumed_side flat s.time s.kernel) t ≡ false
  side_off t less = or_right_off (list_any (is_cluster_due t) start.clusters) (is_side_due (resumed_side flat s.time s.kernel) t) (not_due t less)

  pub is_before : IsBefore s.time (resumed_side flat s.time s.kernel)
  is_before = record {
    none = record {
      none = λ event pending at. elim (cases_lt pending s.time) [
        | inl early ↦ absurd (on_off (nat_eq pending pending) (eq-eqb pending pending refl)
            (off_at pending (resumed_side flat s.time s.kernel).notices.times event pending
            (or_right_off (not (is_idle (resumed_side flat s.time s.kernel))) (list_any (is_due_at pending) (resumed_side flat s.time s.kernel).notices.times) (side_off pending early)) at))
        | inr late ↦ late
      ];
    };
    idle = λ some. not_off (is_idle (resumed_side flat s.time s.kernel))
        (or_left_off (not (is_idle (resumed_side flat s.time s.kernel))) (list_any (is_due_at 0) (resumed_side flat s.time s.kernel).notices.times) (side_off 0 some));
  }

  module _ (good : IsGoodStart flat start) (e : Engine) (t : Shown) (at : AreAt model flat e.since.items start.clusters e.clusters.items) (side : side_of e.kernel ≡ start.events) (values : AreOfSignals (signal_formats flat) e.kernel.values) (shown : IsShown model flat start s.time start t) where
    -- all that runs is what the snapshot says
    pub runs_on : IsRunning model flat start s.time e (s.budget - s.used) t []
    runs_on = record {
      going = record {
        can = record { attributes = good.attributes; whole = good.plans };
        ahead = [];
        told = record {
          answers = subst (λ (w : World SideOf). AreAnswers model flat (rules_of model flat) w s.time) (sym untold_is) answers;
          counts = All-nil (All HasToldCounts);
        };
        some = subst (λ (w : World SideOf). AreTold model flat (rules_of model flat) w s.time) (sym untold_is) told;
        world = start;
        on = subst (λ (w : World SideOf). IsOn (world_engine model flat) 0 w s.time start) (sym untold_is) (record {
          reached = omega arith;
          on = let z : s.time - 0 ≡ s.time = omega arith in ap (history (world_engine model flat) 0 start) z ∙ stays s.time (omega arith);
        });
        now = record { at = at; side = side; turns = refl };
        timed = record { each = good.timed };
      };
      shown = subst (λ (w : World SideOf). IsShown model flat w s.time start t) (sym untold_is) shown;
      fits = λ k low. subst (λ (w : World SideOf). AreOfSignals (signal_formats flat) (world_before model flat (rules_of model flat) w k).events.values) (sym untold_is)
          (subst (AreOfSignals (signal_formats flat)) (ap (λ (x : SideOf). x.values) side ∙ sym (ap (λ (x : HistoryState (World SideOf) RunFault). (world_of x).events.values) (stays k low))) values);
      news_are = sym (ap (λ (w : World SideOf). notes_to model flat (rules_of model flat) w s.time) untold_is ∙ no_notes s.time (omega arith));
    }
