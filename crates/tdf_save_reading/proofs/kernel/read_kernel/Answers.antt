use Rattle.std.proofs.Common.{ℕ, ℤ, List, Vec, Global, map, ◌∙◌, ◌≡◌, ap, sym, subst}
use Rattle.std.specs.List.{AllByRecursion, AllZip, flat_map}
use Rattle.tdf_save.specs.Members.{AreNamesApart, BlockMembersOf}
use Rattle.tdf_save.specs.Text.{each_text, saved_block, saved_pending, saved_value}
use Rattle.tdf_save.specs.machine.Pieces.{Any, IsNext}
use Rattle.tdf_save_reading.proofs.KernelSteps.{all_parts, no_blocks, no_notices, no_values}
use Rattle.tdf_save_reading.proofs.ModuleReads.{why_weaker}
use Rattle.tdf_save_reading.proofs.ValueSteps.{BlockFits, ValueFits}
use Rattle.tdf_save_reading.specs.machine.Events.{IsNotice}
use Rattle.tdf_save_reading.specs.machine.Pieces.{IsPiece, NoPiece}
use Rattle.tdf_save_reading.proofs.kernel.read_kernel.Goals as goal

pub read_notices-requires : goal.read_notices-requires
read_notices-requires c =
    let events : map (λ (z : Vec ℕ Global). z.items) c.deref-in-Ok-read_blocks.result.now ≡ c.args.members.now.events = ap (map (λ (z : Vec ℕ Global). z.items)) c.deref-in-Ok-read_blocks.ensures.value ∙ ap (λ m. m.events) c.members.view_is in
    record { apart = subst AreNamesApart (sym events) c.requires.apart }

pub returns-in-Ok-read_notices-clause-is : goal.returns-in-Ok-read_notices-clause-is
returns-in-Ok-read_notices-clause-is c =
    let values : map (λ (z : Vec ℕ Global). z.items) c.deref.result.now ≡ c.args.members.now.values = ap (map (λ (z : Vec ℕ Global). z.items)) c.deref.ensures.value ∙ ap (λ m. m.values) c.members.view_is in
    let vs = subst (λ (xs : List (List ℕ)). IsPiece (each_text saved_value xs) (AllZip ValueFits xs) Any c.args.text.now c.in-Ok.values.items c.in-Ok.after.now) values c.in-Ok.ensures.is in
    let blocks : c.deref-in-Ok.result.now ≡ c.args.members.now.blocks = c.deref-in-Ok.ensures.value ∙ ap (λ m. m.blocks) c.members.view_is in
    let bs = subst (λ (xs : List BlockMembersOf). IsPiece (each_text saved_block xs) (AllZip BlockFits xs) Any c.in-Ok.after.now (map (λ (z : Vec ℤ Global). z.items) c.in-Ok-read_blocks.cells.items) c.in-Ok-read_blocks.after.now) blocks c.in-Ok-read_blocks.ensures.is in
    let events : map (λ (z : Vec ℕ Global). z.items) c.deref-in-Ok-read_blocks.result.now ≡ c.args.members.now.events = ap (map (λ (z : Vec ℕ Global). z.items)) c.deref-in-Ok-read_blocks.ensures.value ∙ ap (λ m. m.events) c.members.view_is in
    let ps = subst (λ (xs : List (List ℕ)). IsPiece (flat_map (saved_pending xs)) (AllByRecursion (IsNotice xs)) IsNext c.in-Ok-read_blocks.after.now c.in-Ok-read_notices.pending.items c.in-Ok-read_notices.rest.now) events c.in-Ok-read_notices.ensures.is in
    all_parts c.args.members.now c.args.text.now c.in-Ok.after.now c.in-Ok-read_blocks.after.now c.in-Ok-read_notices.rest.now c.in-Ok.values.items (map (λ (z : Vec ℤ Global). z.items) c.in-Ok-read_blocks.cells.items) c.in-Ok-read_notices.pending.items vs bs ps

pub returns-in-Err-read_notices-clause-refused : goal.returns-in-Err-read_notices-clause-refused
returns-in-Err-read_notices-clause-refused c =
    let values : map (λ (z : Vec ℕ Global). z.items) c.deref.result.now ≡ c.args.members.now.values = ap (map (λ (z : Vec ℕ Global). z.items)) c.deref.ensures.value ∙ ap (λ m. m.values) c.members.view_is in
    let vs = subst (λ (xs : List (List ℕ)). IsPiece (each_text saved_value xs) (AllZip ValueFits xs) Any c.args.text.now c.in-Ok.values.items c.in-Ok.after.now) values c.in-Ok.ensures.is in
    let blocks : c.deref-in-Ok.result.now ≡ c.args.members.now.blocks = c.deref-in-Ok.ensures.value ∙ ap (λ m. m.blocks) c.members.view_is in
    let bs = subst (λ (xs : List BlockMembersOf). IsPiece (each_text saved_block xs) (AllZip BlockFits xs) Any c.in-Ok.after.now (map (λ (z : Vec ℤ Global). z.items) c.in-Ok-read_blocks.cells.items) c.in-Ok-read_blocks.after.now) blocks c.in-Ok-read_blocks.ensures.is in
    let events : map (λ (z : Vec ℕ Global). z.items) c.deref-in-Ok-read_blocks.result.now ≡ c.args.members.now.events = ap (map (λ (z : Vec ℕ Global). z.items)) c.deref-in-Ok-read_blocks.ensures.value ∙ ap (λ m. m.events) c.members.view_is in
    why_weaker c.in-Err-read_notices.why (λ none. no_notices c.args.members.now c.args.text.now c.in-Ok.after.now c.in-Ok-read_blocks.after.now c.in-Ok.values.items (map (λ (z : Vec ℤ Global). z.items) c.in-Ok-read_blocks.cells.items) vs bs
    (subst (λ (xs : List (List ℕ)). NoPiece (flat_map (saved_pending xs)) (AllByRecursion (IsNotice xs)) IsNext c.in-Ok-read_blocks.after.now) events none)) c.in-Err-read_notices.ensures.refused

pub returns-in-Err-read_blocks-clause-refused : goal.returns-in-Err-read_blocks-clause-refused
returns-in-Err-read_blocks-clause-refused c =
    let values : map (λ (z : Vec ℕ Global). z.items) c.deref.result.now ≡ c.args.members.now.values = ap (map (λ (z : Vec ℕ Global). z.items)) c.deref.ensures.value ∙ ap (λ m. m.values) c.members.view_is in
    let vs = subst (λ (xs : List (List ℕ)). IsPiece (each_text saved_value xs) (AllZip ValueFits xs) Any c.args.text.now c.in-Ok.values.items c.in-Ok.after.now) values c.in-Ok.ensures.is in
    let blocks : c.deref-in-Ok.result.now ≡ c.args.members.now.blocks = c.deref-in-Ok.ensures.value ∙ ap (λ m. m.blocks) c.members.view_is in
    why_weaker c.in-Err-read_blocks.why (λ none. no_blocks c.args.members.now c.args.text.now c.in-Ok.after.now c.in-Ok.values.items vs
    (subst (λ (xs : List BlockMembersOf). NoPiece (each_text saved_block xs) (AllZip BlockFits xs) Any c.in-Ok.after.now) blocks none)) c.in-Err-read_blocks.ensures.refused

pub returns-in-Err-clause-refused : goal.returns-in-Err-clause-refused
returns-in-Err-clause-refused c =
    let values : map (λ (z : Vec ℕ Global). z.items) c.deref.result.now ≡ c.args.members.now.values = ap (map (λ (z : Vec ℕ Global). z.items)) c.deref.ensures.value ∙ ap (λ m. m.values) c.members.view_is in
    why_weaker c.in-Err.why (λ none. no_values c.args.members.now c.args.text.now
    (subst (λ (xs : List (List ℕ)). NoPiece (each_text saved_value xs) (AllZip ValueFits xs) Any c.args.text.now) values none)) c.in-Err.ensures.refused
