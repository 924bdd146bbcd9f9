use Rattle.std.proofs.Common.{◌+◌, ◌∙◌, sym, map}
use Rattle.std.specs.Prelude.{slice_range}
use Rattle.tdf_lang_lexer.specs.machine.Pieces.{pieces_left}
use Rattle.tdf_lang_lexer.specs.Text.{unless_empty}
use Rattle.tdf_lang_lexer.proofs.PieceLaws.{moved, left-space, left-begins}
use Rattle.tdf_lang_lexer.proofs.pieces.step.Goals as goal

pub returns-then-is_space-clause-same : goal.returns-then-is_space-clause-same
returns-then-is_space-clause-same c =
    moved (map (λ p. p.now) c.put.new.list.items) (map (λ p. p.now) c.args.list.now.items)
    (unless_empty (slice_range c.args.code.now c.args.from c.args.i))
    (pieces_left c.args.code.now c.args.from c.args.i) (pieces_left c.args.code.now (c.args.i + 1) (c.args.i + 1)) c.in_ok-put.ensures
    (left-space c.args.code.now c.args.from c.args.i c.requires.begun c.requires.within (sym c.joins_at.ensures ∙ c.if-joins_at.false)
    (sym c.is_space.ensures ∙ c.if-is_space.true))

pub returns-clause-same : goal.returns-clause-same
returns-clause-same c =
    moved (map (λ p. p.now) c.put.new.list.items) (map (λ p. p.now) c.args.list.now.items)
    (unless_empty (slice_range c.args.code.now c.args.from c.args.i))
    (pieces_left c.args.code.now c.args.from c.args.i) (pieces_left c.args.code.now c.args.i (c.args.i + 1)) c.in_ok-put.ensures
    (left-begins c.args.code.now c.args.from c.args.i c.requires.begun c.requires.within (sym c.joins_at.ensures ∙ c.if-joins_at.false)
    (sym c.is_space.ensures ∙ c.if-is_space.false))
