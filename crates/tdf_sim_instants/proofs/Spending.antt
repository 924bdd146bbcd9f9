-- What the firings and the event part of an instant did.
use Rattle.std.proofs.Common.{◌≡◌, ◌∙◌, ℕ, Option, Ok, OnOk, Err, Result, length, map, ap, subst, sym}
use Rattle.tdf_base.specs.declared.memory.Memory.{Memory}
use Rattle.tdf_convert.specs.Emitted.{write_of_sent as write_to}
use Rattle.tdf_sim_instants.specs.Crossing.{CrossingOf, crossing_of}
use Rattle.tdf_sim_instants.specs.Engine.{AreRoomy, HaveFired, HaveFiredPart, Settles}
use Rattle.tdf_sim_instants.specs.Sampling.{HaveSampled, sampling_at}
use Rattle.tdf_sim_instants.specs.Settling.{event_turn}
use Rattle.tdf_sim_instants.specs.declared.crossing.Pass.{Pass}
use Rattle.tdf_sim_instants.specs.declared.crossing.Pass.TheVariants.{Done}
use Rattle.tdf_sim_instants.specs.declared.engine.Engine.{Engine}
use Rattle.tdf_events.specs.Kernel.{side_of}
use Rattle.tdf_events.specs.Side.{SideOf}
use Rattle.tdf_expr.specs.Checked.{IsCheckedOf}
use Rattle.tdf_bind.specs.declared.model.Flat.{Flat}
use Rattle.tdf_sim_refinement.specs.Pass.{HasPassedAll, HasPassedPart, pass_at, pass_run}
use Rattle.tdf_lang_tree.specs.Pure.{PureTree}

-- what a pass answered
got : Result Pass Memory → Pass
got (Ok x) = x
got (Err e) = Done

abbrev answer : Pass → Result Pass Memory
answer a = Ok a

pub same_answer : (a b : Pass) → answer a ≡ answer b → a ≡ b
unfolding got
same_answer a b same = ap got same

pub on_is : {T E : Type 0} {P : Type 0} (r : Result T E) {x : T} → r ≡ Ok x → OnOk r P → P
on_is {P = P} r is holds = subst (λ z. OnOk z P) is holds

-- where the boundaries were had, room was made
module _ (e e1 e2 : Engine) (rest : e2 ≡ record e1 { rooms = e2.rooms; outputs = e2.outputs; writes = e2.writes }) where
  pub rest_now : e1 ≡ record e { clusters = e1.clusters; since = e1.since; planned = e1.planned }
      → e2 ≡ record e { clusters = e2.clusters; since = e2.since; planned = e2.planned; rooms = e2.rooms; outputs = e2.outputs; writes = e2.writes }
  rest_now crossed_rest = rest ∙ (λ i. record (crossed_rest i) {
    clusters = (sym (ap (λ (z : Engine). z.clusters) rest)) i;
    since = (sym (ap (λ (z : Engine). z.since) rest)) i;
    planned = (sym (ap (λ (z : Engine). z.planned) rest)) i;
    rooms = e2.rooms;
    outputs = e2.outputs;
    writes = e2.writes;
  })

  pub crossing_now : (left : ℕ) → crossing_of e1.clusters.items e1.since.items left e1.planned.items ≡ crossing_of e2.clusters.items e2.since.items left e2.planned.items
  crossing_now left = sym (ap (λ (z : Engine). crossing_of z.clusters.items z.since.items left z.planned.items) rest)

module _ (flat : Flat) (time left : ℕ) (e e2 e3 : Engine) (left2 left3 : ℕ)
    (rest2 : e2 ≡ record e { clusters = e2.clusters; since = e2.since; planned = e2.planned; rooms = e2.rooms; outputs = e2.outputs; writes = e2.writes })
    (sampled : HaveSampled (sampling_at time e2.since.items e2.clusters.items e2.links.items e2.kernel.values) (length e2.clusters.items) e2.inputs.items e3.inputs.items) where
  abbrev crossed : CrossingOf
  crossed = crossing_of e2.clusters.items e2.since.items left2 e2.planned.items

  sampled_is : HaveSampled (sampling_at time e2.since.items e2.clusters.items e.links.items e.kernel.values) (length e2.clusters.items) e.inputs.items e3.inputs.items
  sampled_is = subst (λ (z : Engine). HaveSampled (sampling_at time e2.since.items e2.clusters.items z.links.items z.kernel.values) (length e2.clusters.items) z.inputs.items e3.inputs.items) rest2 sampled

  pub fired_part : HasPassedPart flat (pass_at time e2.since.items e3.inputs.items) (pass_run e2.clusters.items e2.outputs left2) (pass_run e3.clusters.items e3.outputs left3)
      → HaveFiredPart flat time e crossed e3.inputs.items (pass_run e3.clusters.items e3.outputs left3)
  fired_part part = record { sampled = sampled_is; outputs = e2.outputs; firings = part }

  pub fired_all : AreRoomy e2.clusters.items e2.outputs e2.writes → HasPassedAll flat (pass_at time e2.since.items e3.inputs.items) (pass_run e2.clusters.items e2.outputs left2) (pass_run e3.clusters.items e3.outputs left3)
      → HaveFired flat time e crossed e3.inputs.items (pass_run e3.clusters.items e3.outputs left3)
  fired_all roomy all = record { sampled = sampled_is; outputs = e2.outputs; none_sent = roomy.none_sent; none_traced = roomy.none_traced; firings = all }

  pub settles_as : (after : Option (SideOf × ℕ)) → e3 ≡ record e2 { clusters = e3.clusters; inputs = e3.inputs; outputs = e3.outputs }
      → ((model : PureTree) → IsCheckedOf model flat.checked → event_turn model flat time (map (write_to e3.sinks.list.items) e3.outputs.sent) (side_of e3.kernel) left3 ≡ after)
      → Settles flat time e (pass_run e3.clusters.items e3.outputs left3) after
  settles_as after rest3 is = λ model checked. subst (λ (z : Engine). event_turn model flat time (map (write_to z.sinks.list.items) e3.outputs.sent) (side_of z.kernel) left3 ≡ after) rest2
      (subst (λ (z : Engine). event_turn model flat time (map (write_to z.sinks.list.items) e3.outputs.sent) (side_of z.kernel) left3 ≡ after) rest3 (is model checked))
