use Rattle.std.proofs.Common.{◌≡◌, ℕ, ◌+◌, ◌++◌, ◌∙◌, List, length, take, ap, map, arith}
use Rattle.tdf_lang_lexer.specs.Pieces.{without_comment}
use Rattle.tdf_lang_lexer.proofs.PieceLaws.{pieces-done}
use Rattle.tdf_lang_lexer.specs.machine.Pieces.{pieces_left}
use Rattle.tdf_lang_lexer.proofs.WordRuns.{word-ends}
use Rattle.tdf_lang_lexer.proofs.pieces.push_pieces.Goals as goal

pub returns : goal.returns
returns c =
    let code : take c.code_len.result c.args.line.now ≡ without_comment c.args.line.now = ap (λ (n : ℕ). take n c.args.line.now) c.code_len.ensures in
    let end : c.loop-at.at ≡ length (take c.code_len.result c.args.line.now) = omega arith in
    pieces-done c.args.line.now (take c.code_len.result c.args.line.now) c.loop-at.from c.loop-at.at (map (λ p. p.now) c.args.list.now.items) (map (λ p. p.now) c.loop-at.list.items)
    (map (λ p. p.now) c.put.new.list.items) code end c.in_ok-put.ensures c.loop-at.invariant.same

pub loop-at-preserved : goal.loop-at-preserved
loop-at-preserved c =
    let code = take c.code_len.result c.args.line.now in
    let on = word-ends (take c.code_len.result c.args.line.now) c.in_ok-from.from (c.loop-at.at + 1) c.in_ok-from.ensures.begun (omega arith) in
    let same : pieces_left code c.in_ok-from.from c.word_end-at.result ≡ pieces_left code c.in_ok-from.from (c.loop-at.at + 1)
    = ap (pieces_left code c.in_ok-from.from) c.word_end-at.ensures ∙ on.same in
    record {
      begun = omega (arith, c.word_end-at.ensures, on.begun, c.in_ok-from.ensures.begun);
      within = omega (arith, c.word_end-at.ensures, on.within);
      same = ap (λ (l : List (List ℕ)). map (λ p. p.now) c.step.new.list.items ++ l) same ∙ c.in_ok-from.ensures.same ∙ c.loop-at.invariant.same;
    }

pub loop-at-smaller : goal.loop-at-smaller
loop-at-smaller c =
    let on = word-ends (take c.code_len.result c.args.line.now) c.in_ok-from.from (c.loop-at.at + 1) c.in_ok-from.ensures.begun (omega arith) in
    omega (arith, c.word_end-at.ensures, on.begun, on.within)
