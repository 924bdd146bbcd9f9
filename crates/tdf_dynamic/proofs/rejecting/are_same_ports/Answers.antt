use Rattle.std.proofs.Common.{rules, ◌≡◌, ◌≤◌, List, ℕ, arith, false, length, refl, subst, true}
use Rattle.std.proofs.lemmas.List.{take_all}
use Rattle.std.proofs.lemmas.List.Elements.{All-get_or, All-more}
use Rattle.std.specs.Prelude.{All}
use Rattle.tdf_dynamic.proofs.Rows.{not_both}
use Rattle.tdf_dynamic.specs.Change.{step_at_port}
use Rattle.tdf_dynamic_plans.specs.Rates.{net_ports}
use Rattle.tdf_dynamic.proofs.rejecting.are_same_ports.Goals as goal

pub returns-then-not-is_same_port : goal.returns-then-not-is_same_port
returns-then-not-is_same_port c =
    let no : c.is_same_port.result ≡ false = search rules in (
      (λ is. absurd cc),
      (λ all. absurd (not_both c.is_same_port.result no (c.is_same_port.ensures.1
          (All-get_or (λ port. step_at_port (net_ports c.args.tables.now c.args.before.now.table.now) c.args.before.now.steps.now c.args.«module» port ≡ step_at_port (net_ports c.args.tables.now c.args.after.now.table.now) c.args.after.now.steps.now c.args.«module» port) c.args.ports.now c.loop-i.i 0 c.loop-i-test.true all)))),
    )

pub loop-i-preserved : goal.loop-i-preserved
loop-i-preserved c =
    let yes : c.is_same_port.result ≡ true = search rules in
    All-more (λ port. step_at_port (net_ports c.args.tables.now c.args.before.now.table.now) c.args.before.now.steps.now c.args.«module» port ≡ step_at_port (net_ports c.args.tables.now c.args.after.now.table.now) c.args.after.now.steps.now c.args.«module» port)
    c.args.ports.now c.loop-i.i 0 c.loop-i-test.true c.loop-i.invariant (c.is_same_port.ensures.0 yes)

pub returns : goal.returns
returns c =
    let past : length c.args.ports.now ≤ c.loop-i.i = omega (arith, c.loop-i-test.false) in (
      (λ is. subst (λ (l : List ℕ). All (λ port. step_at_port (net_ports c.args.tables.now c.args.before.now.table.now) c.args.before.now.steps.now c.args.«module» port ≡ step_at_port (net_ports c.args.tables.now c.args.after.now.table.now) c.args.after.now.steps.now c.args.«module» port) l)
          (take_all c.loop-i.i c.args.ports.now past) c.loop-i.invariant),
      (λ all. refl),
    )
