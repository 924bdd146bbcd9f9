use Rattle.std.proofs.Common.{rules, ◌≡◌, ◌++◌, take, slice_range, arith, ap, ◌∙◌, length}
use Rattle.std.proofs.lemmas.List.{take-take, length-take-le}
use Rattle.tdf_io.proofs.Windows.{grown}
use Rattle.tdf_io.proofs.gather.Gathered.put.Goals as goal

pub returns-clause-gained : goal.returns-clause-gained
returns-clause-gained c =
    let s = c.args.self.now in
    let n = c.min-count.result in
    let ys = c.copy_from_slice.new.self in
    let copied : ys ≡ take n c.args.piece.now = search rules in
    grown s.bytes ys s.written s.end _ n (search rules) (search rules)
    (omega (arith, copied, length-take-le n c.args.piece.now (omega (arith, c.min-count.ensures)), ap length copied))
    ∙ ap (λ t. slice_range s.bytes s.written s.end ++ t) (ap (take n) copied ∙ take-take n n c.args.piece.now (omega arith))
