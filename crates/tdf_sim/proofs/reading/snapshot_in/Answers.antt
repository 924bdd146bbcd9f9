use Rattle.std.proofs.Common.{subst, sym}
use Rattle.tdf_save.specs.Members.{AreNamesApart, MembersOf}
use Rattle.tdf_sim.proofs.FromBytes.{names_apart, none_for, read_for}
use Rattle.tdf_sim.proofs.reading.snapshot_in.Goals as goal

pub read_snapshot-requires : goal.read_snapshot-requires
read_snapshot-requires c = record {
  apart = subst (λ (m : MembersOf). AreNamesApart m.events) (sym c.in-Ok.ensures.members) (names_apart c.law_members.ensures.apart c.args.flat.now c.requires.model);
}

pub returns-in-Ok-clause-read : goal.returns-in-Ok-clause-read
returns-in-Ok-clause-read c = read_for c.in-Ok.members c.args.flat.now c.args.bytes.now c.in-Ok.ensures.members c.read_snapshot.result c.read_snapshot.ensures.is c.read_snapshot.ensures.fits

pub returns-in-Ok-clause-bad : goal.returns-in-Ok-clause-bad
returns-in-Ok-clause-bad c = λ bad. none_for c.in-Ok.members c.args.flat.now c.args.bytes.now c.in-Ok.ensures.members (c.read_snapshot.ensures.bad bad)
