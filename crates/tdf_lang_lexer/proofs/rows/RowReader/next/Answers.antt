use Rattle.std.proofs.Common.{◌<◌, ◌≡◌, ◌≢◌, ◌∙◌, refl, ap, sym, map, length, arith}
use Rattle.tdf_lang_lexer.specs.Text.{is_line_end}
use Rattle.tdf_lang_lexer.proofs.LineLaws.{map-none, rows-bare, rows-row, rows-none, length-after_first}
use Rattle.tdf_lang_lexer.proofs.rows.RowReader.next.Goals as goal

pub loop-self-init : goal.loop-self-init
loop-self-init c = record { none = ap (map (λ p. p.now)) c.clear.ensures.items; within = c.self.invariant; rows = refl }

pub invariant_of-self : goal.invariant_of-self
invariant_of-self c = c.loop-self.invariant.within

pub overflow_add-self : goal.overflow_add-self
overflow_add-self c =
    let some : 0 < length c.loop-self.self-inside.rest.now = grind arith in
    omega (arith, c.loop-self.invariant.within, some)

pub invariant_of-self-in_err-push_pieces : goal.invariant_of-self-in_err-push_pieces
invariant_of-self-in_err-push_pieces c =
    let some : 0 < length c.loop-self.self-inside.rest.now = grind arith in
    omega (arith, c.loop-self.invariant.within, ap length c.cut_line.ensures.rest, length-after_first is_line_end c.loop-self.self-inside.rest.now some)

pub invariant_of-self-then-not-is_empty : goal.invariant_of-self-then-not-is_empty
invariant_of-self-then-not-is_empty c =
    let some : 0 < length c.loop-self.self-inside.rest.now = grind arith in
    omega (arith, c.loop-self.invariant.within, ap length c.cut_line.ensures.rest, length-after_first is_line_end c.loop-self.self-inside.rest.now some)

pub returns-then-not-is_empty : goal.returns-then-not-is_empty
returns-then-not-is_empty c =
    let some : 0 < length c.loop-self.self-inside.rest.now = grind arith in
    let full : length c.push_pieces.new.list.items ≢ 0 = grind arith in
    sym c.self.view_is ∙ sym c.loop-self.invariant.rows
    ∙ rows-row (λ p. p.now) c.loop-self.self-inside.number c.loop-self.self-inside.rest.now c.cut_line.result.0.now c.cut_line.result.1.now
    (map (λ p. p.now) c.loop-self.pieces.items) c.push_pieces.new.list.items some c.cut_line.ensures.line c.cut_line.ensures.rest c.loop-self.invariant.none
    c.in_ok-push_pieces.ensures full

pub loop-self-smaller : goal.loop-self-smaller
loop-self-smaller c =
    let some : 0 < length c.loop-self.self-inside.rest.now = grind arith in
    omega (arith, ap length c.cut_line.ensures.rest, length-after_first is_line_end c.loop-self.self-inside.rest.now some)

pub loop-self-preserved : goal.loop-self-preserved
loop-self-preserved c =
    let some : 0 < length c.loop-self.self-inside.rest.now = grind arith in
    let bare : length c.push_pieces.new.list.items ≡ 0 = grind arith in
    record {
      none = map-none (λ p. p.now) c.push_pieces.new.list.items bare;
      within = omega (arith, c.loop-self.invariant.within, ap length c.cut_line.ensures.rest, length-after_first is_line_end c.loop-self.self-inside.rest.now some);
      rows = sym (rows-bare (λ p. p.now) c.loop-self.self-inside.number c.loop-self.self-inside.rest.now c.cut_line.result.0.now c.cut_line.result.1.now
          (map (λ p. p.now) c.loop-self.pieces.items) c.push_pieces.new.list.items some c.cut_line.ensures.line c.cut_line.ensures.rest c.loop-self.invariant.none
          c.in_ok-push_pieces.ensures bare) ∙ c.loop-self.invariant.rows;
    }

pub returns : goal.returns
returns c =
    let none : length c.loop-self.self-inside.rest.now ≡ 0 = grind arith in
    sym c.self.view_is ∙ sym c.loop-self.invariant.rows ∙ rows-none c.loop-self.self-inside.number c.loop-self.self-inside.rest.now none
