-- A run by two flat models of one model writes the same, and ends alike.
use Rattle.std.proofs.Common.{◌≡◌, ℕ, List, ◌++◌, map, subst}
use Rattle.tdf_sim_unique.proofs.Answers.{answers_same}
use Rattle.tdf_sim_unique.proofs.Bodies.{with_bodies}
use Rattle.tdf_sim_unique.proofs.Cells.{cells_same}
use Rattle.tdf_sim_unique.proofs.Checks.{AreSame, are_same}
use Rattle.tdf_sim_unique.proofs.Events.{rules_same}
use Rattle.tdf_sim_unique.proofs.Firsts.{world_same}
use Rattle.tdf_sim_unique.proofs.Instants.{history_same}
use Rattle.tdf_sim_unique.proofs.News.{news_same}
use Rattle.tdf_sim_unique.specs.Laws.{RunsWriteTheSame, ModelsWriteTheSame}
use Rattle.tdf_dynamic_first.specs.declared.first.First.{First}
use Rattle.tdf_expr.specs.declared.checked.Checked.{Checked}
use Rattle.tdf_bind.specs.declared.model.Flat.{Flat}
use Rattle.tdf_sim_history.specs.Texts.{closing_text, first_plans, notes_to}
use Rattle.tdf_sim_history.specs.World.{Change}
use Rattle.tdf_sim_history.specs.History.{end_time}
use Rattle.tdf_dynamic_texts.specs.Plans.{rows_of_plan}
use Rattle.tdf_sim_notes.specs.Ending.{end_of, run_state}
use Rattle.tdf_trace_rows.specs.Rows.{Writing, trace_text}
use Rattle.tdf_lang_tree.specs.Pure.{PureTree}
use Rattle.tdf_sim_history.specs.Rules.{rules_of, start_world}

-- with other compiled bodies of the text
module _ (model : PureTree) (a : Flat) (y : Checked) (same : AreSame a.checked y) (firsts others : List First) (ahead : List (List Change))
    (attrs : map (λ f. f.attrs.rows) firsts ≡ map (λ f. f.attrs.rows) others) (plans : map (λ f. rows_of_plan f.plan) firsts ≡ map (λ f. rows_of_plan f.plan) others) (stop turns : ℕ) where
  starts : start_world model a firsts ahead turns ≡ start_world model (with_bodies a y) others ahead turns
  starts = world_same model a y same ahead firsts others turns attrs plans

  rules : rules_of model a ≡ rules_of model (with_bodies a y)
  rules = rules_same model a y same

  state : run_state model a firsts ahead stop turns ≡ run_state model (with_bodies a y) others ahead stop turns
  state = λ i. history_same model a y same (rules i) (starts i) stop i

  news : notes_to model a (rules_of model a) (start_world model a firsts ahead turns) stop
      ≡ notes_to model (with_bodies a y) (rules_of model (with_bodies a y)) (start_world model (with_bodies a y) others ahead turns) stop
  news = λ i. news_same model a y same (rules i) (starts i) stop i

  bodies_write : (writing : Writing) → ModelsWriteTheSame model a (with_bodies a y) firsts others ahead writing stop turns
  bodies_write writing = record {
    trace = λ i. trace_text writing (cells_same model a y same (rules i) (starts i) (end_time (state i) stop) i) (end_time (state i) stop);
    notes = λ i. first_plans a (starts i).clusters ++ news i ++ closing_text a.resolution stop (starts i).left (state i);
    end = λ i. end_of stop turns (state i);
    answers = λ have. record {
      are = answers_same model a y same (rules_of model a) (rules_of model (with_bodies a y)) (start_world model a firsts ahead turns)
          (start_world model (with_bodies a y) others ahead turns) stop rules starts have.are;
      counts = have.counts;
    };
  }

pub runs_write_the_same : RunsWriteTheSame
runs_write_the_same model a b firsts others alike ahead writing stop turns =
    let moved : with_bodies a b.checked ≡ b = λ i. record { tables = alike.tables i; checked = b.checked; resolution = alike.unit i } in
    subst (λ (flat : Flat). ModelsWriteTheSame model a flat firsts others ahead writing stop turns) moved
    (bodies_write model a b.checked (are_same model a.checked b.checked alike.one.bodies alike.other.bodies) firsts others ahead alike.attrs alike.plans stop turns writing)
