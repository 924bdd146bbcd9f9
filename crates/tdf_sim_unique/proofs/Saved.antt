-- Two runs of a model come to a stop alike: the rows before, the plans, and the snapshot are the same.
use Rattle.std.proofs.Common.{◌≡◌, ◌∙◌, ℕ, List, sym, ap, subst, arith}
use Rattle.tdf_bind.specs.declared.model.Flat.{Flat}
use Rattle.tdf_bind_invariants.specs.Limits.{AreWithinLimits}
use Rattle.tdf_dynamic_first.specs.declared.first.First.{First}
use Rattle.tdf_events.specs.Side.{SideOf, start_side}
use Rattle.tdf_lang_tree.specs.Kept.{IsKept}
use Rattle.tdf_lang_tree.specs.Pure.{PureTree}
use Rattle.tdf_sim_history.proofs.Api.{attributes_at, first_attributes}
use Rattle.tdf_sim_history.specs.Answers.{AreAnswers}
use Rattle.tdf_sim_history.specs.Cells.{run_cells}
use Rattle.tdf_sim_history.specs.Rules.{rules_of, start_world}
use Rattle.tdf_sim_history.specs.TableLaws.{HaveAttributes}
use Rattle.tdf_sim_history.specs.Texts.{first_plans, notes_to, state_at}
use Rattle.tdf_sim_history.specs.World.{Change, World}
use Rattle.tdf_sim_notes.proofs.Api.{plans_are_first}
use Rattle.tdf_sim_notes.specs.Ending.{HaveAnswers, end_of}
use Rattle.tdf_sim_resumed.proofs.Api.{rows_same}
use Rattle.tdf_sim_resumed.specs.Laws.{SnapshotIsOne}
use Rattle.tdf_sim_resumed.specs.Snapshot.{IsRowsFrom, IsSnapshot}
use Rattle.tdf_sim_unique.proofs.Checks.{are_same}
use Rattle.tdf_sim_unique.proofs.Firsts.{world_same}
use Rattle.tdf_sim_unique.proofs.Telling.{starts_alike}
use Rattle.tdf_sim_unique.specs.Laws.{AreFirstPlans, AreModelsAlike}
use Rattle.tdf_sim_unique.proofs.Answered.{rows_agree}
use Rattle.tdf_sim_unique.specs.PartLaws.{AnswersComeToTheSame, AnswersHaveSnapshots, AreFlatsAlike, AreToldAlike, ComeToTheSame, FlatsGoAsOne, FlatsHaveSnapshots, GoAsOne, PartsWriteOne, PartsWriteTheSame, cells_to}
use Rattle.tdf_trace_rows.proofs.Api.{text_same}
use Rattle.tdf_trace_rows.specs.Rows.{Cells, text_from}

-- a run starts by either flat model in one way
starts_one : (model : PureTree) (a b : Flat) (firsts others : List First) (ahead : List (List Change)) (turns : ℕ) → AreModelsAlike model a b firsts others
    → start_world model a firsts ahead turns ≡ start_world model b others ahead turns
starts_one model a b firsts others ahead turns alike =
    subst (λ (flat : Flat). start_world model a firsts ahead turns ≡ start_world model flat others ahead turns) (λ i. record { tables = alike.tables i; checked = b.checked; resolution = alike.unit i })
    (world_same model a b.checked (are_same model a.checked b.checked alike.one.bodies alike.other.bodies) ahead firsts others turns alike.attrs alike.plans)

module _ (goes : FlatsGoAsOne) (flats : FlatsHaveSnapshots) (comes : AnswersComeToTheSame) (answered : AnswersHaveSnapshots) (law : SnapshotIsOne)
    (model : PureTree) (a b : Flat) (firsts others : List First) (ahead told : List (List Change)) (stop turns : ℕ) (kept : IsKept model) (alike : AreModelsAlike model a b firsts others)
    (limits : AreWithinLimits b) (plans : AreFirstPlans b others) (answers : HaveAnswers model a firsts ahead stop turns) (others_are : HaveAnswers model b others told stop turns) where
  flat_alike : AreFlatsAlike model a b
  flat_alike = record { one = alike.one; other = alike.other; tables = alike.tables; unit = alike.unit }

  starts : start_world model a firsts ahead turns ≡ start_world model b others ahead turns
  starts = starts_one model a b firsts others ahead turns alike

  go : GoAsOne model a b (start_world model a firsts ahead turns) stop
  go = goes model a b (start_world model a firsts ahead turns) stop flat_alike

  attributes : (more : List (List Change)) → HaveAttributes b (start_world model b others more turns)
  attributes more = first_attributes model b others more (start_side b) turns limits (λ n first at. (plans.has n first at, plans.each n first at))

  both : AreToldAlike model b (start_world model b others ahead turns) (start_world model b others told turns) stop
  both = record {
    start = starts_alike model b ahead told others turns;
    attributes = attributes ahead;
    answers = subst (λ (start : World SideOf). AreAnswers model b (rules_of model b) start stop) starts (go.answers answers.are);
    others = others_are.are;
  }

  same : ComeToTheSame model b (start_world model b others ahead turns) (start_world model b others told turns) stop
  same = comes model b (start_world model b others ahead turns) (start_world model b others told turns) stop kept alike.other limits both

  cells : cells_to model a firsts ahead stop turns ≡ cells_to model b others ahead stop turns
  cells = go.cells ∙ ap (λ (start : World SideOf). run_cells model b (rules_of model b) start stop) starts

  rows_too : (m : ℕ) → IsRowsFrom (cells_to model a firsts ahead stop turns) stop m → IsRowsFrom (cells_to model b others told stop turns) stop m
  rows_too m x = rows_agree (cells_to model b others ahead stop turns) (cells_to model b others told stop turns) stop m (same.cells stop (omega arith))
      (subst (λ (c : Cells). IsRowsFrom c stop m) cells x)

  write_the_same : PartsWriteTheSame model a b firsts others ahead told stop turns
  write_the_same = record {
    end = ap (end_of stop turns) (go.state ∙ ap (λ (start : World SideOf). state_at model b (rules_of model b) start stop) starts) ∙ same.end turns;
    rows = λ m n x z. rows_same (cells_to model b others told stop turns) stop m n (rows_too m x) z;
    rows_too = rows_too;
    text = λ line rows low. ap (λ (c : Cells). text_from line c 0 rows) cells
        ∙ text_same line (cells_to model b others ahead stop turns) (cells_to model b others told stop turns) stop 0 rows (same.cells stop (omega arith)) (omega (arith, low));
    plans = sym (plans_are_first model a firsts ahead) ∙ (λ i. first_plans (record { tables = alike.tables i; checked = a.checked; resolution = alike.unit i }) (starts i).clusters)
        ∙ plans_are_first model b others ahead;
    news = go.notes ∙ ap (λ (start : World SideOf). notes_to model b (rules_of model b) start stop) starts ∙ same.notes;
    snapshot = λ w v vcd one other x z. law model b (start_world model b others told turns) v stop turns vcd one other limits
        (attributes_at b model (rules_of model b) kept alike.other.bodies (start_world model b others told turns) stop (attributes told) others_are.are stop v (omega arith) z.reached)
        (answered model b (start_world model b others ahead turns) (start_world model b others told turns) w v stop turns vcd one kept alike.other limits both z.reached
        (subst (λ (start : World SideOf). IsSnapshot model b start w stop turns vcd one) starts
        (flats model a b (start_world model a firsts ahead turns) w stop turns vcd one flat_alike x))) z;
  }

pub parts_write_one : FlatsGoAsOne → FlatsHaveSnapshots → AnswersComeToTheSame → AnswersHaveSnapshots → SnapshotIsOne → PartsWriteOne
parts_write_one goes flats comes answered law model a b firsts others ahead told stop turns kept alike limits plans answers others_are =
    write_the_same goes flats comes answered law model a b firsts others ahead told stop turns kept alike limits plans answers others_are
