-- What boundaries lead to is the same by compiled bodies of one text.
use Rattle.std.proofs.Common.{◌≡◌, ◌∙◌, ℕ, ◌+◌, List, Option, [], if◌then◌else◌, length, unwrap_or, ap, subst}
use Rattle.std.specs.List.{All}
use Rattle.std.specs.Prelude.{IsSome, sum_by, ℤ}
use Rattle.tdf_sim_unique.proofs.Bodies.{done_same, net_same, with_bodies}
use Rattle.tdf_sim_unique.proofs.Checks.{AreSame}
use Rattle.tdf_sim_unique.proofs.Instants.{history_same}
use Rattle.tdf_dynamic.specs.Asked.{asked, asked_in, nothing_asked}
use Rattle.tdf_dynamic.specs.Change.{Asks}
use Rattle.tdf_dynamic_plans.specs.Attributes.{AttrsOf}
use Rattle.tdf_expr.specs.declared.bodies.Body.TheVariants as body
use Rattle.tdf_expr.specs.declared.checked.Checked.{Checked}
use Rattle.tdf_bind.specs.declared.model.Flat.{Flat}
use Rattle.tdf_streams.specs.Grounds.{firings}
use Rattle.tdf_streams.specs.Net.{count}
use Rattle.tdf_streams.specs.Streams.{known, spot, state_before}
use Rattle.tdf_sim_history.specs.Answers.{AreAnswers, IsAnswer, Leads, asks_in, last_cells}
use Rattle.tdf_sim_history.specs.Instant.{engine, is_due, periods_of, run_in}
use Rattle.tdf_sim_history.specs.World.{Change, ClusterAt, Rules, World, next_change}
use Rattle.tdf_sim_history.specs.History.{history}
use Rattle.tdf_streams.specs.Bodies.{nothing_read}
use Rattle.tdf_streams.specs.Places.{block_at, has_changes}
use Rattle.tdf_lang_tree.specs.Pure.{PureTree}

module _ (model : PureTree) (a : Flat) (y : Checked) (same : AreSame a.checked y) where
  asked_same : (attrs : AttrsOf) (cells : List ℤ) → asked model a attrs cells ≡ asked model (with_bodies a y) attrs cells
  unfolding asked
  asked_same attrs cells = λ i. if has_changes a.tables.modules attrs.number
      then asked_in (done_same model a y same attrs.number body.Change cells attrs.rates nothing_read i)
      else nothing_asked (length (same.spans (block_at a.tables.modules attrs.number) i)) attrs cells

  last_same : (number : ℕ) (c : ClusterAt) (m : ℕ) → last_cells model a number c m ≡ last_cells model (with_bodies a y) number c m
  last_same number c m = λ i. state_before (net_same model a y same number c.begun i)
      (known (net_same model a y same number c.begun i) (run_in c) (firings (periods_of c))) m
      (spot c.old c.now (count m c.now)) (sum_by (count m) c.old + count m c.now)

  asks_same : (number : ℕ) (c : ClusterAt) → asks_in model a number c ≡ asks_in model (with_bodies a y) number c
  asks_same number c = λ i attrs. asked_same attrs (unwrap_or (last_same number c attrs.number i) []) i

  -- an answer by the one is an answer by the other
  answer_same : (number : ℕ) (c : ClusterAt) (change : Change) → IsAnswer model a number c change → IsAnswer model (with_bodies a y) number c change
  answer_same number c change is = record {
    known = subst (λ (cells : ℕ → Option (List ℤ)). All (λ (attrs : AttrsOf). IsSome (cells attrs.number)) c.now.info.table) (λ i m. last_same number c m i) is.known;
    leads = subst (λ (asks : Asks). Leads a.tables number asks c.now.info.table change) (asks_same number c) is.leads;
  }

  -- so the answers of the one history are those of the other
  pub answers_same : {K : Type 0} (one other : Rules K) (start begin : World K) (stop : ℕ) → one ≡ other → start ≡ begin → AreAnswers model a one start stop
      → AreAnswers model (with_bodies a y) other begin stop
  answers_same {K = K} one other start begin stop rules starts answers = λ time n w low on due k v c inside turn.
      let before : history (engine model a one) 0 start time ≡ history (engine model (with_bodies a y) other) 0 begin time = λ i. history_same model a y same (rules i) (starts i) time i in
      answer_same (k + 1) c (next_change c) (answers time n w low (before ∙ on) (ap (λ (r : Rules K). is_due r w time) rules ∙ due) k v c inside turn)
