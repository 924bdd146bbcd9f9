use Rattle.std.proofs.Common.{ℕ, Vec, Global, map, refl, sym, ◌∙◌}
use Rattle.tdf_save.proofs.Api.{pending_begins}
use Rattle.tdf_save.specs.Text.{saved_pending}
use Rattle.tdf_save.specs.machine.Pieces.{Any, IsNext}
use Rattle.tdf_save_reading.proofs.EventSteps.{notices_items}
use Rattle.tdf_save_reading.proofs.ItemReads.{item_shorter, items_no_tail, items_piece}
use Rattle.tdf_save_reading.proofs.ReadSteps.{none_read, one_read, stuck}
use Rattle.tdf_save_reading.specs.machine.Events.{IsNotice}
use Rattle.tdf_save_reading.proofs.events.read_all.Goals as goal

pub loop-rest-init : goal.loop-rest-init
loop-rest-init c = rw c.new-list.ensures.items (none_read (saved_pending (map (λ (z : Vec ℕ Global). z.items) c.args.names.now)) (IsNotice (map (λ (z : Vec ℕ Global). z.items) c.args.names.now)) IsNext c.args.text.now)

pub loop-rest-preserved : goal.loop-rest-preserved
loop-rest-preserved c =
    rw c.in_ok-put-in-Some.ensures.put
    (one_read (saved_pending (map (λ (z : Vec ℕ Global). z.items) c.args.names.now)) (IsNotice (map (λ (z : Vec ℕ Global). z.items) c.args.names.now)) Any IsNext 112
    (notices_items (map (λ (z : Vec ℕ Global). z.items) c.args.names.now) c.requires.apart) c.args.text.now c.loop-rest.list.items c.in-Some.notice c.loop-rest.rest.now c.in-Some.left.now
    c.loop-rest.invariant c.in-Some.ensures.is)

pub loop-rest-smaller : goal.loop-rest-smaller
loop-rest-smaller c = item_shorter (saved_pending (map (λ (z : Vec ℕ Global). z.items) c.args.names.now)) (IsNotice (map (λ (z : Vec ℕ Global). z.items) c.args.names.now)) Any 112
    (pending_begins (map (λ (z : Vec ℕ Global). z.items) c.args.names.now)) c.loop-rest.rest.now c.in-Some.notice c.in-Some.left.now c.in-Some.ensures.is

pub returns-in-None-clause-refused : goal.returns-in-None-clause-refused
returns-in-None-clause-refused c =
    stuck (saved_pending (map (λ (z : Vec ℕ Global). z.items) c.args.names.now)) (IsNotice (map (λ (z : Vec ℕ Global). z.items) c.args.names.now)) Any IsNext 112
    (notices_items (map (λ (z : Vec ℕ Global). z.items) c.args.names.now) c.requires.apart) c.args.text.now c.loop-rest.list.items c.loop-rest.rest.now c.loop-rest.invariant
    (sym c.begins_with.ensures ∙ c.loop-rest-test.true) (c.in-None.ensures.none refl)

pub returns-then-is_next-clause-is : goal.returns-then-is_next-clause-is
returns-then-is_next-clause-is c =
    items_piece (saved_pending (map (λ (z : Vec ℕ Global). z.items) c.args.names.now)) (IsNotice (map (λ (z : Vec ℕ Global). z.items) c.args.names.now)) IsNext c.args.text.now c.loop-rest.list.items c.loop-rest.rest.now
    c.loop-rest.invariant (c.is_next.ensures.yes c.if-is_next.true)

pub returns-clause-refused : goal.returns-clause-refused
returns-clause-refused c =
    items_no_tail (saved_pending (map (λ (z : Vec ℕ Global). z.items) c.args.names.now)) (IsNotice (map (λ (z : Vec ℕ Global). z.items) c.args.names.now)) Any IsNext 112
    (notices_items (map (λ (z : Vec ℕ Global). z.items) c.args.names.now) c.requires.apart) c.args.text.now c.loop-rest.list.items c.loop-rest.rest.now
    c.loop-rest.invariant (sym c.begins_with.ensures ∙ c.loop-rest-test.false) (c.is_next.ensures.no c.if-is_next.false)
