use Rattle.std.proofs.Common.{◌≡◌, ◌++◌, take}
use Rattle.std.specs.List.{flat_map}
use Rattle.tdf_lang_printer.specs.machine.Texts.{member_text}
use Rattle.tdf_lang_printer.proofs.lines.push_members.Given as goal

abbrev pub invariant-loop-member : goal.invariant-loop-member
invariant-loop-member l = l.out.items ≡ l.initial.out.items ++ flat_map member_text (take l.member-index l.list)
