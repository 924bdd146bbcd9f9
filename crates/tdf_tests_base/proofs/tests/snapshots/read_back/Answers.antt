use Rattle.std.proofs.Common.{◌≡◌, ℕ, List, length, arith}
use Rattle.tdf_save.specs.Members.{AreNamesApart}
use Rattle.tdf_tests_base.proofs.tests.snapshots.read_back.Goals as goal

-- one name is apart from all others
alone : (names : List (List ℕ)) → length names ≡ 1 → AreNamesApart names
alone names one i j r s a b e = omega (arith, one, a, b)

pub read_snapshot-requires : goal.read_snapshot-requires
read_snapshot-requires c = record { apart = alone c.in-Ok.members.events c.in-Ok.ensures }
