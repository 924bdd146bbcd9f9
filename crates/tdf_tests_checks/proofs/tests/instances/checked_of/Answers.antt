use Rattle.tdf_tests_checks.proofs.tests.instances.checked_of.Goals as goal
use Rattle.tdf_lang_tree.specs.Views.{pure_tree}

pub returns : goal.returns
returns c = record { model = pure_tree c.in-Ok.tree; are = c.in-Ok-check_bodies.ensures.checked }
