use Rattle.std.proofs.Common.{slice_range, ◌≡◌, arith, subst, sym, append-nil, rules}
use Rattle.std.specs.Io.KnownBytes.{Appends}
use Rattle.tdf_io.proofs.Windows.{range_split, range_within}
use Rattle.tdf_io.proofs.gather.Gathered.write_to.Goals as goal

pub returns-then-self-clause-handed : goal.returns-then-self-clause-handed
returns-then-self-clause-handed g c =
    let s = c.args.self.now in
    let until = c.write_on-self.result in record {
      front = slice_range s.bytes s.written until;
      order = range_split s.bytes s.written until s.end c.write_on-self.ensures.up (omega arith);
      wrote = subst (Appends _ _) (range_within s.bytes s.written until s.end c.write_on-self.ensures.up (omega arith)) c.write_on-self.ensures.wrote;
    }

pub returns-clause-handed : goal.returns-clause-handed
returns-clause-handed g c =
    let s = c.args.self.now in
    let until = c.write_on-self.result in
    let all : until ≡ s.end = search rules in record {
      front = slice_range s.bytes s.written s.end;
      order = sym (append-nil _);
      wrote = rw all at (subst (Appends _ _) (range_within s.bytes s.written until s.end c.write_on-self.ensures.up (omega (arith, all))) c.write_on-self.ensures.wrote);
    }
