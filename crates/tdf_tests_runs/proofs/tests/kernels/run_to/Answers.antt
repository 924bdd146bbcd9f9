use Rattle.tdf_tests_runs.proofs.tests.kernels.run_to.Goals as goal

pub kernel_of-requires : goal.kernel_of-requires
kernel_of-requires c = λ time turns is.
    let some = c.requires.accepted in
    let answers = c.in-Ok.ensures.answered some.tree some.of in
    let runs = c.in-Ok.ensures.runs some.tree some.of answers.0 answers.1 in
    (runs.left time turns is).going.going
