use Rattle.std.proofs.Common.{codes, refl}
use Rattle.tdf_save_reading.proofs.ModuleReads.{front_absent, front_none, front_piece, last_text, path_front, title_is, title_text}
use Rattle.tdf_save.specs.Text.{accept_word}
use Rattle.tdf_save.specs.machine.Pieces.{Any, AnyFlag}
use Rattle.tdf_save_reading.proofs.modules.read_title.Goals as goal

pub returns-in-Some-last_flag-clause-is : goal.returns-in-Some-last_flag-clause-is
returns-in-Some-last_flag-clause-is c = front_piece (path_front (codes "module") c.args.path.now) (title_text c.args.path.now) (last_text accept_word) AnyFlag Any c.args.text.now c.in-Some.rest.now c.in-Some-last_flag.flag c.in-Some-last_flag.left.now
    (title_is c.args.path.now) c.in-Some.ensures c.in-Some-last_flag.ensures.is

pub returns-in-None-last_flag-clause-none : goal.returns-in-None-last_flag-clause-none
returns-in-None-last_flag-clause-none c = λ _. front_none (path_front (codes "module") c.args.path.now) (title_text c.args.path.now) (last_text accept_word) AnyFlag Any c.args.text.now c.in-Some.rest.now (title_is c.args.path.now) c.in-Some.ensures (c.in-None-last_flag.ensures.none refl)

pub returns-in-None-clause-none : goal.returns-in-None-clause-none
returns-in-None-clause-none c = λ _. front_absent (path_front (codes "module") c.args.path.now) (title_text c.args.path.now) (last_text accept_word) AnyFlag Any c.args.text.now (title_is c.args.path.now) c.in-None.ensures
