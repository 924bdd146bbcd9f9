use Rattle.std.proofs.Common.{◌≡◌, ◌∙◌, ℕ, ◌+◌, ◌<◌, true, length, drop, ap, arith, sym}
use Rattle.std.proofs.Math.ListN.{drop_of_length-le}
use Rattle.tdf_cli.specs.Parts.{bytes_before}
use Rattle.tdf_cli.proofs.PartCounts.{next_at, nothing_left, parted_at}
use Rattle.tdf_cli.proofs.parts.bytes_before.Goals as goal

pub returns-then-is_parted_at : goal.returns-then-is_parted_at
returns-then-is_parted_at c =
    omega (arith, c.loop-at.invariant, parted_at c.loop-at.begins c.args.text.now c.loop-at.at 0 c.loop-at-test.true (sym c.is_parted_at.ensures ∙ c.if-is_parted_at.true))

pub loop-at-preserved : goal.loop-at-preserved
loop-at-preserved c =
    omega (arith, c.loop-at.invariant, next_at c.loop-at.begins c.args.text.now c.loop-at.at 0 c.loop-at-test.true (sym c.is_parted_at.ensures ∙ c.if-is_parted_at.false))

pub returns : goal.returns
returns c =
    omega (
      arith,
      c.loop-at.invariant,
      c.loop-at-test.false,
      c.loop-at.auto.at-end,
      ap (bytes_before c.loop-at.begins) (drop_of_length-le c.args.text.now c.loop-at-test.false) ∙ nothing_left c.loop-at.begins,
    )
