-- Two runs that go on from one snapshot write the same and end alike.
use Rattle.std.proofs.Common.{◌≡◌, ◌∙◌, ℕ, ◌-◌, List, [], inl, inr, map, refl, sym, ap, subst, arith}
use Rattle.std.proofs.lemmas.Bool.{cases_lt}
use Rattle.tdf_bind.specs.declared.model.Flat.{Flat}
use Rattle.tdf_bind_invariants.specs.Limits.{AreWithinLimits}
use Rattle.tdf_dynamic_first.specs.declared.first.First.{First}
use Rattle.tdf_events.specs.Side.{SideOf}
use Rattle.tdf_lang_tree.specs.Kept.{IsKept}
use Rattle.tdf_lang_tree.specs.Pure.{PureTree}
use Rattle.tdf_saved.specs.State.{SnapshotOf}
use Rattle.tdf_sim_history.proofs.Api.{attributes_alike, untold_told}
use Rattle.tdf_sim_history.specs.Answers.{AreAnswers}
use Rattle.tdf_sim_history.specs.Cells.{run_cells}
use Rattle.tdf_sim_history.specs.History.{end_time}
use Rattle.tdf_sim_history.specs.Rules.{rules_of}
use Rattle.tdf_sim_history.specs.Telling.{world_told}
use Rattle.tdf_sim_history.specs.Texts.{notes_to, state_at}
use Rattle.tdf_sim_history.specs.World.{Change, World}
use Rattle.tdf_sim_notes.specs.Ending.{end_of}
use Rattle.tdf_sim_resumed.specs.Laws.{ResumedAreGood}
use Rattle.tdf_sim_resumed.specs.Starting.{first_unknown, least_within, resumed_world, rows_from_saved, tracked_of}
use Rattle.tdf_sim_resumed.specs.Valid.{IsValid}
use Rattle.tdf_sim_unique.proofs.Ends.{ends_by_stop}
use Rattle.tdf_sim_unique.specs.PartLaws.{AnswersComeToTheSame, AreFlatsAlike, ComeToTheSame, FlatsGoAsOne, FlatsHaveValid, FlatsSayWorlds, GoAsOne, PlansSayOneWorld, RestsAreTold, RestsWriteOne, end_told, rows_told, told_world}
use Rattle.tdf_trace_rows.proofs.Api.{text_same}
use Rattle.tdf_trace_rows.specs.Laws.{Agree}
use Rattle.tdf_trace_rows.specs.Rows.{Cells, Line, text_from}

-- the rows below an end are the same where the cells are
rows_alike : (line : Line) (g h : Cells) (from end : ℕ) → Agree g h end → text_from line g from (end - from) ≡ text_from line h from (end - from)
unfolding text_from
rows_alike line g h from end agree = elim (cases_lt end from) [
  | inl less ↦ (let none : end - from ≡ 0 = omega (arith, less) in ap (text_from line g from) none ∙ bare ∙ sym (ap (text_from line h from) none))
  | inr past ↦ text_same line g h end from (end - from) agree (omega (arith, past))
]
  where
    bare : text_from line g from 0 ≡ text_from line h from 0
    bare = refl

module _ (goes : FlatsGoAsOne) (valid : FlatsHaveValid) (worlds : FlatsSayWorlds) (plans : PlansSayOneWorld) (comes : AnswersComeToTheSame) (good : ResumedAreGood)
    (model : PureTree) (a b : Flat) (firsts others : List First) (s : SnapshotOf) (ahead told : List (List Change)) (stop : ℕ) (kept : IsKept model)
    (alike : AreFlatsAlike model a b) (limits : AreWithinLimits b) (one : IsValid model a firsts s) (other : IsValid model b others s)
    (answers : AreAnswers model a (rules_of model a) (told_world model a firsts s ahead) stop)
    (others_are : AreAnswers model b (rules_of model b) (told_world model b others s told) stop) where
  -- the world that the snapshot says
  start : resumed_world model a firsts s [] ≡ resumed_world model b others s []
  start = let v = valid model a b firsts s alike one in worlds model a b firsts s [] alike ∙ plans model b firsts others s [] limits v.members v.clusters other.clusters

  starts : told_world model a firsts s ahead ≡ told_world model b others s ahead
  starts = ap (world_told ahead) start

  go : (time : ℕ) → GoAsOne model a b (told_world model a firsts s ahead) time
  go time = goes model a b (told_world model a firsts s ahead) time alike

  state : state_at model a (rules_of model a) (told_world model a firsts s ahead) stop ≡ state_at model b (rules_of model b) (told_world model b others s ahead) stop
  state = (go stop).state ∙ ap (λ (w : World SideOf). state_at model b (rules_of model b) w stop) starts

  same : ComeToTheSame model b (told_world model b others s ahead) (told_world model b others s told) stop
  same = comes model b (told_world model b others s ahead) (told_world model b others s told) stop kept alike.other limits (record {
    start = untold_told ahead (resumed_world model b others s []) ∙ sym (untold_told told (resumed_world model b others s []));
    attributes = attributes_alike b (resumed_world model b others s []) (told_world model b others s ahead) (sym (untold_told ahead (resumed_world model b others s [])))
        (good model b others s [] limits other (λ k told low. absurd (omega (arith, low)))).attributes;
    answers = subst (λ (w : World SideOf). AreAnswers model b (rules_of model b) w stop) starts ((go stop).answers answers);
    others = others_are;
  })

  ends : end_told model a firsts s ahead stop ≡ end_told model b others s ahead stop
  ends = ap (λ x. end_time x stop) state

  rows : (line : Line) (from : ℕ) → rows_told model a firsts s ahead stop line from ≡ rows_told model b others s told stop line from
  rows line from =
      let e = end_told model a firsts s ahead stop in
      let f = end_told model b others s ahead stop in
      ap (λ (c : Cells). text_from line c from (e - from)) ((go e).cells ∙ ap (λ (w : World SideOf). run_cells model b (rules_of model b) w e) starts)
      ∙ ap (λ n. text_from line (run_cells model b (rules_of model b) (told_world model b others s ahead) n) from (n - from)) ends
      ∙ rows_alike line (run_cells model b (rules_of model b) (told_world model b others s ahead) f) (run_cells model b (rules_of model b) (told_world model b others s told) f) from f
      (same.cells f (ends_by_stop model b (told_world model b others s ahead) stop))
      ∙ ap (λ n. text_from line (run_cells model b (rules_of model b) (told_world model b others s told) n) from (n - from)) same.time

  from_one : rows_from_saved model a firsts s ≡ rows_from_saved model b others s
  from_one = λ i. least_within s.time (map (λ row. first_unknown s.time (tracked_of (alike.tables i) (start i).clusters row)) (alike.tables i).traces)

pub rests_write_one : FlatsGoAsOne → FlatsHaveValid → FlatsSayWorlds → PlansSayOneWorld → AnswersComeToTheSame → ResumedAreGood → RestsWriteOne
rests_write_one goes valid worlds plans comes good model a b firsts others s ahead told stop kept alike limits one other answers others_are =
    let same = same goes valid worlds plans comes good model a b firsts others s ahead told stop kept alike limits one other answers others_are in
    let state = state goes valid worlds plans comes good model a b firsts others s ahead told stop kept alike limits one other answers others_are in
    let starts = starts goes valid worlds plans comes good model a b firsts others s ahead told stop kept alike limits one other answers others_are in record {
      from = from_one goes valid worlds plans comes good model a b firsts others s ahead told stop kept alike limits one other answers others_are;
      time = ap (λ x. end_time x stop) state ∙ same.time;
      rows = rows goes valid worlds plans comes good model a b firsts others s ahead told stop kept alike limits one other answers others_are;
      news = (goes model a b (told_world model a firsts s ahead) stop alike).notes ∙ ap (λ (w : World SideOf). notes_to model b (rules_of model b) w stop) starts ∙ same.notes;
      end = λ turns. ap (end_of stop turns) state ∙ same.end turns;
    }

pub rests_are_told : FlatsGoAsOne → FlatsSayWorlds → RestsAreTold
rests_are_told goes worlds model a b firsts s ahead stop alike answers =
    subst (λ (w : World SideOf). AreAnswers model b (rules_of model b) w stop) (ap (world_told ahead) (worlds model a b firsts s [] alike))
    ((goes model a b (told_world model a firsts s ahead) stop alike).answers answers)
