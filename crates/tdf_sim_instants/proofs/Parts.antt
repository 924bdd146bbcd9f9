-- The three parts of an instant, one after the other.
use Rattle.std.proofs.Common.{◌≡◌, ◌∙◌, ◌||◌, ℕ, zero, suc, Bool, true, false, not, List, [], ◌∷◌, ◌++◌, Option, Some, None, option_map, length, map, nat_eq, if◌then◌else◌, refl, sym, ap, subst, arith, append-nil}
use Rattle.std.proofs.lemmas.Bool.{ne_eqb}
use Rattle.std.proofs.lemmas.List.{append_assoc}
use Rattle.std.proofs.lemmas.List.Elements.{All-append}
use Rattle.std.specs.List.{All}
use Rattle.tdf_convert.specs.Outputs.{OutputsOf}
use Rattle.tdf_convert.specs.Sampled.{AreByOffset, PlansGoByOffset}
use Rattle.tdf_convert.specs.declared.outputs.Sent.{Sent}
use Rattle.tdf_sim_instants.specs.Settling.{event_turn}
use Rattle.tdf_events.specs.Delta.{event_part}
use Rattle.tdf_events.specs.Side.{SideOf}
use Rattle.tdf_sim_refinement.specs.Below.{ClusterOf, IsClusterOf, IsSentOf}
use Rattle.tdf_bind.specs.declared.model.Flat.{Flat}
use Rattle.tdf_streams.proofs.Api.{some_same}
use Rattle.tdf_sim_history.specs.Instant.{RunFault, events_of, has_write, settled_as}
use Rattle.tdf_sim_history.specs.World.{SinkWrite, World}
use Rattle.tdf_sim_history.specs.History.{Step, Going, Past}
use Rattle.tdf_sim_refinement.specs.Pass.{PassHasTurn, HavePassed, PassAt, RunOf}
use Rattle.tdf_lang_tree.specs.Pure.{PureTree}
use Rattle.tdf_sim_history.specs.Rules.{is_side_due, rules_of, settle, signal_write}

-- the plan of a cluster goes by offset
pub sorted_of : PlansGoByOffset → (flat : Flat) (c : ClusterOf) → IsClusterOf flat c → AreByOffset c.entries
sorted_of by flat c of = subst AreByOffset of.planned.entries_are (by _ _ _ _ of.planned.plan_is.plan_is.planned.planned)

-- what a pass sends comes after what was sent before
module _ (flat : Flat) (pass : PassAt) (x : RunOf) where
  turn_sends : (n : ℕ) (mid y : RunOf) (t : List Sent) → PassHasTurn flat pass n mid y t → (y.outputs.sent ≡ mid.outputs.sent ++ t) × All (IsSentOf flat.tables) t
  turn_sends n mid y t (PassHasTurn.Idle turn is idled) = (
    ap (λ (o : OutputsOf). o.sent) idled.outputs ∙ sym (append-nil mid.outputs.sent) ∙ ap (λ l. mid.outputs.sent ++ l) (sym idled.nothing),
    subst (All (IsSentOf flat.tables)) (sym idled.nothing) (λ k d below. absurd (omega (arith, below))),
  )
  turn_sends n mid y t (PassHasTurn.Done turn is did) = (
    ap (λ (o : OutputsOf). o.sent) did.fired.gained.are ∙ ap (λ l. mid.outputs.sent ++ l) (sym did.sent_is),
    subst (All (IsSentOf flat.tables)) (sym did.sent_is) did.fired.gained.sinks,
  )

  pub pass_sends : (n : ℕ) (y : RunOf) (sent : List Sent) → HavePassed flat pass n x y sent → (y.outputs.sent ≡ x.outputs.sent ++ sent) × All (IsSentOf flat.tables) sent
  unfolding HavePassed
  pass_sends zero y sent passed = (
    ap (λ (z : RunOf). z.outputs.sent) passed.0 ∙ sym (append-nil x.outputs.sent) ∙ ap (λ l. x.outputs.sent ++ l) (sym passed.1),
    subst (All (IsSentOf flat.tables)) (sym passed.1) (λ k d below. absurd (omega (arith, below))),
  )
  pass_sends (suc n) y sent passed =
      let before = pass_sends n passed.0 passed.1 passed.3 in
      let turn = turn_sends n passed.0 y passed.2 passed.4 in (
        turn.0 ∙ ap (λ l. l ++ passed.2) before.0 ∙ append_assoc x.outputs.sent passed.1 passed.2 ∙ ap (λ l. x.outputs.sent ++ l) (sym passed.5),
        subst (All (IsSentOf flat.tables)) (sym passed.5) (All-append (IsSentOf flat.tables) passed.1 passed.2 before.1 turn.1),
      )

-- the event part of the history, by what the kernel did
written_some : (writes : List SinkWrite) → has_write writes ≡ not (nat_eq (length (map signal_write writes)) 0)
written_some [] = refl
written_some (x ∷ xs) = ap not (sym (ne_eqb (length (map signal_write (x ∷ xs))) 0 (λ e. omega (arith, e))))

module _ (model : PureTree) (flat : Flat) (time : ℕ) (v : World SideOf) where
  abbrev part : Option (SideOf × ℕ)
  part = event_part model flat time (map signal_write v.written) v.events v.left

  abbrev turn_if : Bool → Option (SideOf × ℕ)
  turn_if b = if b then part else Some (v.events, v.left)

  abbrev step_if : Bool → Step (World SideOf) RunFault
  step_if b = if b then settled_as (settle model flat time v.written v.left v.events) v else Going v

  abbrev after : SideOf × ℕ → World SideOf
  after s = record v { events = s.0; left = s.1 }

  abbrev settled_by : Option (SideOf × ℕ) → Step (World SideOf) RunFault
  settled_by o = settled_as (option_map (λ (s : SideOf × ℕ). record { events = s.0; left = s.1 }) o) v

  some_pair : (a b : SideOf × ℕ) → Some a ≡ Some b → after a ≡ after b
  some_pair a b same = ap after (some_same a b same)

  goes_if : (b : Bool) (s : SideOf × ℕ) → turn_if b ≡ Some s → step_if b ≡ Going (after s)
  goes_if true s is = ap settled_by is
  goes_if false s is = ap Going (some_pair (v.events, v.left) s is)

  ends_if : (b : Bool) → turn_if b ≡ None → step_if b ≡ Past v
  ends_if true none = ap settled_by none
  ends_if false none = absurd cc

  abbrev side_if : Bool → Bool
  side_if b = b || is_side_due v.events time

  pub events_go : (s : SideOf × ℕ) → event_turn model flat time (map signal_write v.written) v.events v.left ≡ Some s → events_of (rules_of model flat) time v ≡ Going (after s)
  events_go s is = goes_if (has_write v.written || is_side_due v.events time) s (ap (λ b. turn_if (side_if b)) (written_some v.written) ∙ is)

  pub events_end : event_turn model flat time (map signal_write v.written) v.events v.left ≡ None → events_of (rules_of model flat) time v ≡ Past v
  events_end none = ends_if (has_write v.written || is_side_due v.events time) (ap (λ b. turn_if (side_if b)) (written_some v.written) ∙ none)
