-- What a run hands on of its news.
use Rattle.std.proofs.Common.{◌≡◌, ◌∙◌, ◌≤◌, ℕ, List, [], ◌∷◌, ◌++◌, Option, append-nil, append_assoc, ap, refl, subst, sym, arith}
use Rattle.std.proofs.KnownBytes.{Appends-trans}
use Rattle.std.specs.Io.KnownBytes.{Appends}
use Rattle.tdf_bind.specs.declared.model.Flat.{Flat}
use Rattle.tdf_sim_instants.specs.Below.{BoundariesHaveOne}
use Rattle.tdf_events.specs.Side.{SideOf}
use Rattle.tdf_io.proofs.Api.{front_more, front_then}
use Rattle.tdf_io.specs.Bytes.{AppendsFront}
use Rattle.tdf_lang_tree.specs.Pure.{PureTree}
use Rattle.tdf_sim_history.specs.Rules.{rules_of}
use Rattle.tdf_sim_history.specs.Telling.{world_told}
use Rattle.tdf_sim_history.specs.Texts.{notes_to}
use Rattle.tdf_sim_history.specs.World.{Change, World}
use Rattle.tdf_sim_instants.specs.InstantLaws.{IsModelOf}
use Rattle.tdf_sim_runs.proofs.Onward.{goes_then, told_before}
use Rattle.tdf_sim_runs.proofs.Plans.{notes_on}
use Rattle.tdf_sim_runs.proofs.Reaching.{end_then, part_none, part_then}
use Rattle.tdf_sim_runs.proofs.Told.{news_told}
use Rattle.tdf_sim_runs.proofs.Written.{none_taken}
use Rattle.tdf_sim_runs.specs.Ending.{GoesToEnd, HandsPart, WritesPart}
use Rattle.tdf_sim_runs.specs.Ongoing.{AreToldTo}
use Rattle.tdf_sim_runs.specs.Handing.{EndsHanding, GoesHanding, HandsOn}
use Rattle.tdf_sim_runs.specs.Running.{CanGoOn, IsRunning, IsRunningAt, RunGoesOn}
use Rattle.tdf_sim_runs.specs.declared.going.Ended.{Ended}
use Rattle.tdf_sim_runs.specs.declared.running.Running.{Running}
use Rattle.tdf_sim_history.specs.Cells.{run_cells}

pub same_rest : (xs ys zs : List ℕ) → xs ++ ys ≡ xs ++ zs → ys ≡ zs
same_rest [] ys zs same = same
same_rest (x ∷ xs) ys zs same = let rest : xs ++ ys ≡ xs ++ zs = cc in same_rest xs ys zs rest

-- the news of a run are a front part of the plans that come up to a stop, whatever answers the history is told
module _ (law : BoundariesHaveOne) (flat : Flat) (r : Running) (stop : ℕ) (within : r.from ≤ stop) (model : PureTree) (start : World SideOf) (handed : List ℕ) (ahead : List (List Change)) (m : IsModelOf model flat)
    (run : IsRunningAt model flat start handed r) where
  held_front : AreToldTo model flat start stop ahead → (more : List ℕ) × (notes_to model flat (rules_of model flat) (world_told ahead start) stop ≡ (handed ++ r.news.items) ++ more)
  held_front to =
      let early = told_before model flat start r.from stop ahead within to in
      let same = run.news_are ∙ news_told law model flat start r.from r.left r.engine m run.going ahead early in
      let on = notes_on model flat (rules_of model flat) (world_told ahead start) r.from stop within in
      (on.0, on.1 ∙ ap (λ l. l ++ on.0) (sym same))

-- where some was handed on, and then a front part of what is held
pub hands_part : BoundariesHaveOne → (flat : Flat) (x y : Running) (stop : ℕ) (g : List ℕ) (a b c d e : Option (List ℕ)) → y.from ≤ stop → RunGoesOn flat x y g a b → Appends c d g → AppendsFront d e y.news.items → HandsPart flat stop x c e
hands_part law flat x y stop g a b c d e within one took part model start handed ahead rest m run to is =
    let mid = one.runs model start handed m run in
    let held = held_front law flat y stop within model start (handed ++ g) ahead m mid to in
    let same = is ∙ held.1 ∙ append_assoc (handed ++ g) y.news.items held.0 ∙ append_assoc handed g (y.news.items ++ held.0) in
    subst (λ (t : List ℕ). AppendsFront c e t) (sym (same_rest handed rest (g ++ (y.news.items ++ held.0)) same))
    (front_then c d e g (y.news.items ++ held.0) took (front_more d e y.news.items held.0 part))

-- what is handed on changes nothing else
module _ (flat : Flat) (r s : Running) (before after : Option (List ℕ)) (hands : HandsOn r s before after) where
  abbrev less : Running
  less = record r { news = s.news }

  hands_run : (model : PureTree) (start : World SideOf) (handed : List ℕ) → IsRunningAt model flat start handed r → IsRunningAt model flat start (handed ++ hands.news) less
  hands_run model start handed run = subst (λ l. IsRunning model flat start r.from r.engine r.left r.shown l) (ap (λ l. handed ++ l) (sym hands.whole) ∙ sym (append_assoc handed hands.news s.news.items)) run

  pub hands_can : CanGoOn flat r → CanGoOn flat s
  hands_can can = subst (CanGoOn flat) (sym hands.rest) (record {
    engine = can.engine;
    ready = can.ready;
    none = can.none;
    early = can.early;
    since = can.since;
    within = can.within;
    printable = can.printable;
    some = record {
      model = can.some.model;
      of = can.some.of;
      start = can.some.start;
      handed = can.some.handed ++ hands.news;
      is = hands_run can.some.model can.some.start can.some.handed can.some.is;
    };
  })

  pub hands_goes : (taken : Option (List ℕ)) → RunGoesOn flat r s hands.news taken taken
  hands_goes taken = subst (λ (x : Running). RunGoesOn flat r x hands.news taken taken) (sym hands.rest) (record {
    later = omega arith;
    about = refl;
    wrote = omega arith;
    runs = λ model start handed m run. hands_run model start handed run;
    rows = λ model start handed ahead m run to. none_taken r.shown.trace.about (run_cells model flat (rules_of model flat) (world_told ahead start) r.from) r.shown.trace.rows.upto r.shown.trace.rows.upto taken (omega arith);
  })

-- a turn without news that are handed on, and then some
module _ (law : BoundariesHaveOne) (flat : Flat) (x y : Running) (a b c d : Option (List ℕ)) (can : CanGoOn flat y) (before : GoesHanding flat x y a b c d) where
  pub turn_then : (z u : Running) (e f : Option (List ℕ)) → CanGoOn flat z → RunGoesOn flat y z [] b e → HandsOn z u d f → GoesHanding flat x u a e c f
  turn_then z u e f then turn hands = record {
    news = before.news ++ hands.news;
    took = Appends-trans c d f before.news hands.news before.took hands.took;
    goes = goes_then law flat x z u before.news hands.news a e e then (goes_quiet z e turn) (hands_goes flat z u d f hands e);
  }
    where
      goes_quiet : (z : Running) (e : Option (List ℕ)) → RunGoesOn flat y z [] b e → RunGoesOn flat x z before.news a e
      goes_quiet z e turn = subst (λ l. RunGoesOn flat x z l a e) (append-nil before.news) (goes_then law flat x y z before.news [] a b e can before.goes turn)

  pub end_handing : (z : Running) (stop : ℕ) (how : Ended) (e : Option (List ℕ)) → y.from ≤ stop → GoesToEnd flat stop y z [] b e how → EndsHanding flat stop x z a e c d how
  end_handing z stop how e within ends = record {
    news = before.news;
    took = before.took;
    ends = subst (λ l. GoesToEnd flat stop x z l a e how) (append-nil before.news) (end_then law flat x y z stop how before.news [] a b e can within before.goes ends);
  }

-- the rows that were written are a front part of those up to the end
pub rows_front_of : BoundariesHaveOne → (flat : Flat) (x y : Running) (stop : ℕ) (g : List ℕ) (a b : Option (List ℕ)) → CanGoOn flat y → y.from ≤ stop → RunGoesOn flat x y g a b → WritesPart flat stop x a b
rows_front_of law flat x y stop g a b can within one = part_then law flat x y stop g a b b can within one (part_none law flat y stop b)

-- a run that goes on and hands on news, and then goes on without
pub goes_last : BoundariesHaveOne → (flat : Flat) (x y z : Running) (a b e c d : Option (List ℕ)) → CanGoOn flat y → GoesHanding flat x y a b c d → RunGoesOn flat y z [] b e → GoesHanding flat x z a e c d
goes_last law flat x y z a b e c d can one other = record {
  news = one.news;
  took = one.took;
  goes = subst (λ l. RunGoesOn flat x z l a e) (append-nil one.news) (goes_then law flat x y z one.news [] a b e can one.goes other);
}
