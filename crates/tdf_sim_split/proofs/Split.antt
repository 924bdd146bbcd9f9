-- A history that goes on from a world that goes on from what another history came to.
use Rattle.std.proofs.Common.{◌≡◌, ◌∙◌, ◌+◌, ◌-◌, ◌≤◌, ℕ, [], ◌++◌, append-nil, refl, sym, ap, subst, arith}
use Rattle.std.proofs.lemmas.Option.{slice_get_within}
use Rattle.std.specs.Prelude.{slice_index_or}
use Rattle.tdf_bind.specs.declared.model.Flat.{Flat}
use Rattle.tdf_events.specs.Side.{SideOf}
use Rattle.tdf_exec_layout.specs.Edges.{SinksAreRead}
use Rattle.tdf_exec_layout.specs.Wires.{SinksHaveOne}
use Rattle.tdf_expr.specs.Checked.{IsCheckedOf}
use Rattle.tdf_lang_tree.specs.Kept.{IsKept}
use Rattle.tdf_lang_tree.specs.Pure.{PureTree}
use Rattle.tdf_sim_history.specs.Answers.{AreAnswers}
use Rattle.tdf_sim_history.specs.History.{HistoryState, On, history}
use Rattle.tdf_sim_history.specs.Instant.{RunFault, engine}
use Rattle.tdf_sim_history.specs.Rules.{rules_of}
use Rattle.tdf_sim_history.specs.Texts.{notes_to, state_at}
use Rattle.tdf_sim_history.specs.World.{ClusterAt, World}
use Rattle.tdf_sim_split.proofs.Alike.{AreBetween, StepsKeep, histories_alike}
use Rattle.tdf_sim_split.proofs.History.{answers_on, both_at, notes_on, on_other}
use Rattle.tdf_sim_split.proofs.Onward.{At, GoAt, steps_keep}
use Rattle.tdf_sim_split.proofs.Sound.{IsSoundSame, steps_sound}
use Rattle.tdf_sim_split.specs.Alike.{BothOn, BothSpent, BothStopped, StatesAlike}
use Rattle.tdf_sim_split.specs.Following.{Follows, Inside, IsResumedCluster}
use Rattle.tdf_sim_split.specs.Laws.{AreSound, HasCome, HaveCome, HistoryGoesOnFrom}
use Rattle.tdf_streams.proofs.Api.{get_inside, some_same}
use Rattle.tdf_streams_onward.specs.Laws.{BodiesGoByTable, FiringsAreEnough, StreamsGoOn}

module _ (model : PureTree) (flat : Flat) (kept : IsKept model) (checked : IsCheckedOf model flat.checked) (one : World SideOf) (sound : AreSound flat one) (stop : ℕ) (answers : AreAnswers model flat (rules_of model flat) one stop) where
  begun : history (engine model flat (rules_of model flat)) 0 one 0 ≡ On one
  unfolding history
  begun = refl

  -- what a history from sound clusters comes to has sound clusters
  pub sound_at : (time : ℕ) → time ≤ stop → (w : World SideOf) → history (engine model flat (rules_of model flat)) 0 one time ≡ On w → AreSound flat w
  sound_at time low w at = go (history (engine model flat (rules_of model flat)) 0 one time) (history (engine model flat (rules_of model flat)) 0 one time) at same
    where
      Q : ℕ → ClusterAt → ClusterAt → Type 0
      Q = IsSoundSame model flat kept checked

      itself : AreBetween model flat (rules_of model flat) Q (steps_sound model flat kept checked) one one
      itself = record {
        same = refl;
        each = λ n h g h_at g_at. (some_same g h (sym g_at ∙ h_at), sound.each n h h_at);
        events = refl;
        left = refl;
      }

      same : StatesAlike (AreBetween model flat (rules_of model flat) Q (steps_sound model flat kept checked)) (history (engine model flat (rules_of model flat)) 0 one time) (history (engine model flat (rules_of model flat)) 0 one time)
      same =
          let z : 0 + time ≡ time = omega arith in
          subst (λ t. StatesAlike (AreBetween model flat (rules_of model flat) Q (steps_sound model flat kept checked)) (history (engine model flat (rules_of model flat)) 0 one t) (history (engine model flat (rules_of model flat)) 0 one t)) z
          (histories_alike model flat (rules_of model flat) Q (steps_sound model flat kept checked) one one 0 stop one one begun begun itself answers time (omega (arith, low)))

      go : (x y : HistoryState (World SideOf) RunFault) → x ≡ On w → StatesAlike (AreBetween model flat (rules_of model flat) Q (steps_sound model flat kept checked)) x y → AreSound flat w
      go x y is (BothOn a b r) =
          let a_is : a ≡ w = on_other (On a) a w refl is in
          subst (AreSound flat) a_is (record {
            each = λ n c c_at. (
                let i = slice_get_within a.clusters n c c_at in
                let d = get_inside b.clusters n (let s = r.same in omega (arith, i, s)) in
                (r.each n c d.0 c_at d.1).1);
          })
      go x y is (BothStopped when fault a b r) = absurd cc
      go x y is (BothSpent when a b r) = absurd cc

-- where nothing was done since, a cluster that goes on follows
begins : (model : PureTree) (flat : Flat) (number : ℕ) (c b : ClusterAt) → IsResumedCluster model flat number c b → Follows c b c b
begins model flat number c b resumed = record {
  begun = refl;
  begun_on = refl;
  entries = resumed.entries;
  bounds = resumed.bounds;
  since = resumed.since;
  place = resumed.place;
  ahead = resumed.ahead;
  periods = Inside refl refl resumed.old refl refl resumed.from (omega arith) refl;
  many = resumed.many;
  reads = λ m. sym (append-nil (slice_index_or c.reads m [])) ∙ ap (λ l. slice_index_or c.reads m [] ++ l) (sym (resumed.none m));
}

pub history_goes_on : BodiesGoByTable → StreamsGoOn → FiringsAreEnough → SinksAreRead → HistoryGoesOnFrom
history_goes_on by_table goes_on enough read model flat one two w from stop kept is_flat checked limits sound answers early at goes = record {
  answers = answers_on model flat (rules_of model flat) Q keep one two from stop w at between answers goes.quiet;
  states = come (state_at model flat (rules_of model flat) one stop) (state_at model flat (rules_of model flat) two stop) (both_at model flat (rules_of model flat) Q keep one two from stop w at between answers goes.quiet stop early (omega arith));
  notes =
      let z : from + (stop - from) ≡ stop = omega (arith, early) in
      subst (λ t. notes_to model flat (rules_of model flat) one t ≡ notes_to model flat (rules_of model flat) one from ++ notes_to model flat (rules_of model flat) two t) z
      (notes_on model flat (rules_of model flat) Q keep one two from stop w at between answers goes.quiet (stop - from) (omega (arith, early)));
}
  where
    sinks : SinksHaveOne flat.tables
    sinks = read model flat limits.in_range is_flat

    Q : ℕ → ClusterAt → ClusterAt → Type 0
    Q = GoAt by_table goes_on enough model flat is_flat limits sinks kept checked w.clusters two.clusters

    keep : StepsKeep model flat Q
    keep = steps_keep by_table goes_on enough model flat is_flat limits sinks kept checked w.clusters two.clusters

    sound_w : AreSound flat w
    sound_w = sound_at model flat kept checked one sound stop answers from early w at

    between : AreBetween model flat (rules_of model flat) Q keep w two
    between = record {
      same = goes.same;
      each = λ n c b c_at b_at. At c b c_at b_at (record {
        resumed = goes.each n c b c_at b_at;
        sound = sound_w.each n c c_at;
        follows = begins model flat (n + 1) c b (goes.each n c b c_at b_at);
        whole = sound_w.each n c c_at;
        part = goes.sound.each n b b_at;
      });
      events = goes.events;
      left = goes.left;
    }

    of : (n : ℕ) (h g : ClusterAt) → Q n h g → HasCome w two n h g
    of n h g (At c b c_at b_at with) = record { c = c; b = b; c_at = c_at; b_at = b_at; follows = with.follows }

    all : (a b : World SideOf) → AreBetween model flat (rules_of model flat) Q keep a b → HaveCome w two a b
    all a b r = record { same = r.same; each = λ n h g h_at g_at. of n h g (r.each n h g h_at g_at); events = r.events; left = r.left }

    come : (x y : HistoryState (World SideOf) RunFault) → StatesAlike (AreBetween model flat (rules_of model flat) Q keep) x y → StatesAlike (HaveCome w two) x y
    come x y (BothOn a b r) = BothOn a b (all a b r)
    come x y (BothStopped when fault a b r) = BothStopped when fault a b (all a b r)
    come x y (BothSpent when a b r) = BothSpent when a b (all a b r)
