-- Small texts and the trees that they spell, written out (own).
use Rattle.std.specs.Prelude.{ℕ, true, false, List, [], ◌∷◌, ◌++◌, Some, None, codes}
use Rattle.tdf_base.specs.declared.resolution.Resolution.TheVariants.{Ps, Fs}
use Rattle.tdf_base.specs.declared.version.Version.TheVariants.{V1, V2, V3}
use Rattle.tdf_fixed.specs.declared.over.Over.TheVariants.{Wrap, Sat}
use Rattle.tdf_fixed.specs.declared.quant.Quant.TheVariants.{Rnd, RndConv}
use Rattle.tdf_lang_tree.specs.Pure.{ENumber, EName, EAt, ECast, ESelect, ENot, ENeg, EShift, EBinary, SAssign, SIf, SFor, SNotify, SSetRate, SSetStep, SAccept, SReject, Done, More, PureBody, SConst, SVar, SArray, TPort, TStore, TRate, DPort, DStore, DEvent, PureGlobal, GShape, GTdf, GDe, GNet, PureTree}
use Rattle.tdf_lang_tree.specs.declared.blocks.Attr.TheVariants as attr
use Rattle.tdf_lang_tree.specs.declared.blocks.Member.TheVariants as member
use Rattle.tdf_lang_tree.specs.declared.blocks.PortKind.{PortKind}
use Rattle.tdf_lang_tree.specs.declared.blocks.PortKind.TheVariants as port_kind
use Rattle.tdf_lang_tree.specs.declared.blocks.PortLine.{PortLine}
use Rattle.tdf_lang_tree.specs.declared.expr.Index.TheVariants as index
use Rattle.tdf_lang_tree.specs.declared.expr.Op.TheVariants.{Or, And, Lt, Gt, Ge, Add, Sub, Mul}
use Rattle.tdf_lang_tree.specs.declared.names.Lit.{Lit}
use Rattle.tdf_lang_tree.specs.declared.shapes.FormatRef.{FormatRef}
use Rattle.tdf_lang_tree.specs.declared.shapes.FormatRef.TheVariants.{Own, Named}
use Rattle.tdf_lang_tree.specs.declared.stmt.Limit.TheVariants as limit
use Rattle.tdf_lang_parser.specs.SpellsTree.{no_body}

-- a text of lines, each with its LF
abbrev pub example_text : List (List ℕ) → List ℕ
example_text [] = []
example_text (line ∷ rest) = line ++ 10 ∷ example_text rest

-- parts of trees
abbrev pub w_format : FormatRef
w_format = Named (codes "w")

abbrev pub plain_lit_of : List ℕ → Lit
plain_lit_of digits = record { minus = false; digits = digits }

abbrev pub minus_lit_of : List ℕ → Lit
minus_lit_of digits = record { minus = true; digits = digits }

abbrev pub port_of : ℕ → PortKind → List ℕ → PortLine
port_of line kind name = record { line = line; kind = kind; name = name; format = w_format }

-- the tree of a text with these globals, an empty `top` at a line and no trace
abbrev pub tree_with : List PureGlobal → ℕ → PureTree
tree_with globals line = record { version = V1; resolution = Ps; globals = globals; top = record { line = line; name = codes "top"; members = [] }; traces = [] }

-- a `tdf` block m at line 2 with these bodies
abbrev pub tdf_bodies : PureBody → PureBody → PureBody → PureBody → PureGlobal
tdf_bodies initialize processing change reinitialize = GTdf (record {
  line = 2;
  name = codes "m";
  decls = [];
  attrs = [];
  initials = [];
  initialize = initialize;
  processing = processing;
  change = change;
  reinitialize = reinitialize;
})

-- the smallest text
abbrev pub smallest_text : List ℕ
smallest_text = example_text (codes "language 1" ∷ codes "top" ∷ codes "end" ∷ [])

abbrev pub smallest_tree : PureTree
smallest_tree = tree_with [] 2

-- a tab, comments, a blank line, and a last line without LF
abbrev pub loose_text : List ℕ
loose_text = example_text ((codes "language" ++ 9 ∷ codes "1 # the first") ∷ [] ∷ codes "  # nothing" ∷ (codes "  top" ++ 9 ∷ []) ∷ []) ++ codes "end#"

abbrev pub loose_tree : PureTree
loose_tree = tree_with [] 4

-- a type, a composite block, signals, instances, bindings and a trace
abbrev pub net_text : List ℕ
net_text = example_text (codes "language 1" ∷ codes "type w fixed 08 4 rnd sat" ∷ codes "composite c" ∷ codes "in x w" ∷ codes "out y ufixed 16 2 rnd_conv" ∷ codes "signal s w"
    ∷ codes "end" ∷ codes "top" ∷ codes "de_signal d w -0.50" ∷ codes "signal t w" ∷ codes "instance u c" ∷ codes "bind u . x t" ∷ codes "end" ∷ codes "trace u.s label" ∷ [])

abbrev pub net_tree : PureTree
net_tree = record {
  version = V1;
  resolution = Ps;
  globals = GShape (record { line = 2; name = codes "w"; shape = record { signed = true; wl = 8; iwl = 4; quant = Rnd; over = Sat } })
      ∷ GNet (record {
        line = 3;
        name = codes "c";
        members = member.Port (port_of 4 port_kind.In (codes "x"))
            ∷ member.Port (record { line = 5; kind = port_kind.Out; name = codes "y"; format = Own (record { signed = false; wl = 16; iwl = 2; quant = RndConv; over = Wrap }) })
            ∷ member.Signal 6 (codes "s") w_format ∷ [];
      }) ∷ [];
  top = record {
    line = 8;
    name = codes "top";
    members = member.DeSignal 9 (codes "d") w_format (minus_lit_of (codes "0.5")) ∷ member.Signal 10 (codes "t") w_format
        ∷ member.Instance 11 (codes "u") (codes "c") ∷ member.Bind 12 (codes "u") (codes "x") (codes "t") ∷ [];
  };
  traces = record { line = 14; path = codes "u" ∷ codes "s" ∷ []; label = codes "label" } ∷ [];
}

-- the lines of a `tdf` block before its parts
abbrev pub decls_text : List ℕ
decls_text = example_text (codes "language 1" ∷ codes "tdf m" ∷ codes "de_in x w" ∷ codes "de_out y w" ∷ codes "const k w 01.50" ∷ codes "var v w - 5" ∷ codes "var u w"
    ∷ codes "array h w 3 0.25 - 0 7" ∷ codes "rate r 1 4 2" ∷ codes "end" ∷ codes "top" ∷ codes "end" ∷ [])

abbrev pub decls_tree : PureTree
decls_tree = tree_with (GTdf (record {
  line = 2;
  name = codes "m";
  attrs = [];
  initials = [];
  initialize = no_body;
  processing = no_body;
  change = no_body;
  reinitialize = no_body;
  decls = TPort (port_of 3 port_kind.DeIn (codes "x")) ∷ TPort (port_of 4 port_kind.DeOut (codes "y")) ∷ TStore (SConst 5 (codes "k") w_format (plain_lit_of (codes "1.5")))
      ∷ TStore (SVar 6 (codes "v") w_format (minus_lit_of (codes "5"))) ∷ TStore (SVar 7 (codes "u") w_format (plain_lit_of (codes "0")))
      ∷ TStore (SArray 8 (codes "h") w_format 3 (plain_lit_of (codes "0.25") ∷ plain_lit_of (codes "0") ∷ plain_lit_of (codes "7") ∷ []))
      ∷ TRate 9 (codes "r") 1 4 2 ∷ [];
}) ∷ []) 11

-- the lines of `set_attributes`
abbrev pub attributes_text : List ℕ
attributes_text = example_text (codes "language 1" ∷ codes "tdf m" ∷ codes "set_attributes" ∷ codes "timestep 2.5us" ∷ codes "timestep x 1ps" ∷ codes "rate x 3" ∷ codes "rate y r"
    ∷ codes "delay y 2" ∷ codes "does_attribute_changes" ∷ codes "accept_attribute_changes" ∷ codes "reject_attribute_changes" ∷ codes "end" ∷ codes "end" ∷ codes "top" ∷ codes "end" ∷ [])

abbrev pub attributes_tree : PureTree
attributes_tree = tree_with (GTdf (record {
  line = 2;
  name = codes "m";
  decls = [];
  initials = [];
  initialize = no_body;
  processing = no_body;
  change = no_body;
  reinitialize = no_body;
  attrs = attr.Step 4 None 2500000 ∷ attr.Step 5 (Some (codes "x")) 1 ∷ attr.Rate 6 (codes "x") (limit.Int 3) ∷ attr.Rate 7 (codes "y") (limit.Var (codes "r"))
      ∷ attr.Delay 8 (codes "y") 2 ∷ attr.Does 9 ∷ attr.Accept 10 ∷ attr.Reject 11 ∷ [];
}) ∷ []) 14

-- `initial` lines and statements of `initialize`
abbrev pub initialize_text : List ℕ
initialize_text = example_text (codes "language 1" ∷ codes "tdf m" ∷ codes "initialize" ∷ codes "initial y 0 -1" ∷ codes "initial y 1 2" ∷ codes "v = 3" ∷ codes "end" ∷ codes "end"
    ∷ codes "top" ∷ codes "end" ∷ [])

abbrev pub initialize_tree : PureTree
initialize_tree = tree_with (GTdf (record {
  line = 2;
  name = codes "m";
  decls = [];
  attrs = [];
  processing = no_body;
  change = no_body;
  reinitialize = no_body;
  initials = record { line = 4; port = codes "y"; place = 0; value = minus_lit_of (codes "1") } ∷ record { line = 5; port = codes "y"; place = 1; value = plain_lit_of (codes "2") } ∷ [];
  initialize = record { list = More (SAssign 6 (codes "v") None (ENumber (codes "3"))) Done; end = 7 };
}) ∷ []) 9

-- an `if` with `else` in a `for`
abbrev pub nested_text : List ℕ
nested_text = example_text (codes "language 1" ∷ codes "tdf m" ∷ codes "processing" ∷ codes "for i 0 r" ∷ codes "if x[i] > 0" ∷ codes "y[i + 1] = x[2 - i]" ∷ codes "else" ∷ codes "y = -x"
    ∷ codes "end" ∷ codes "end" ∷ codes "end" ∷ codes "end" ∷ codes "top" ∷ codes "end" ∷ [])

abbrev pub nested_tree : PureTree
nested_tree = tree_with (tdf_bodies no_body (record {
  list = More (SFor 4 (codes "i") 0 (limit.Var (codes "r"))
      (More (SIf 5 (EBinary Gt (EAt (codes "x") (index.Var (codes "i"))) (ENumber (codes "0")))
      (More (SAssign 6 (codes "y") (Some (index.Plus (codes "i") 1)) (EAt (codes "x") (index.From 2 (codes "i")))) Done)
      (More (SAssign 8 (codes "y") None (ENeg (EName (codes "x")))) Done)) Done)) Done;
  end = 11;
}) no_body no_body ∷ []) 13

-- a `select` of casts, parentheses, levels of operators
abbrev pub operators_text : List ℕ
operators_text = example_text (codes "language 1" ∷ codes "tdf m" ∷ codes "processing" ∷ codes "y = select(not a < b and c, T(x), U((x + 1)))" ∷ codes "y = a - b - c * d << 2"
    ∷ codes "y = (a or b) >= -3.10" ∷ codes "end" ∷ codes "end" ∷ codes "top" ∷ codes "end" ∷ [])

abbrev pub operators_tree : PureTree
operators_tree = tree_with (tdf_bodies no_body (record {
  list = More (SAssign 4 (codes "y") None (ESelect (EBinary And (ENot (EBinary Lt (EName (codes "a")) (EName (codes "b")))) (EName (codes "c")))
      (ECast (codes "T") (EName (codes "x"))) (ECast (codes "U") (EBinary Add (EName (codes "x")) (ENumber (codes "1"))))))
      (More (SAssign 5 (codes "y") None (EBinary Sub (EBinary Sub (EName (codes "a")) (EName (codes "b"))) (EShift (EBinary Mul (EName (codes "c")) (EName (codes "d"))) true 2)))
      (More (SAssign 6 (codes "y") None (EBinary Ge (EBinary Or (EName (codes "a")) (EName (codes "b"))) (ENeg (ENumber (codes "3.1"))))) Done));
  end = 7;
}) no_body no_body ∷ []) 9

-- the statements of a change body, and a body of `reinitialize`
abbrev pub change_text : List ℕ
change_text = example_text (codes "language 1" ∷ codes "tdf m" ∷ codes "change_attributes" ∷ codes "rate r = 2" ∷ codes "timestep 1ms" ∷ codes "timestep x 1ns" ∷ codes "if a"
    ∷ codes "accept_attribute_changes" ∷ codes "end" ∷ codes "reject_attribute_changes" ∷ codes "end" ∷ codes "reinitialize" ∷ codes "v = 0" ∷ codes "end" ∷ codes "end" ∷ codes "top" ∷ codes "end" ∷ [])

abbrev pub change_tree : PureTree
change_tree = tree_with (tdf_bodies no_body no_body (record {
  list = More (SSetRate 4 (codes "r") (ENumber (codes "2"))) (More (SSetStep 5 None 1000000000) (More (SSetStep 6 (Some (codes "x")) 1000)
      (More (SIf 7 (EName (codes "a")) (More (SAccept 8) Done) Done) (More (SReject 10) Done))));
  end = 11;
}) (record { list = More (SAssign 13 (codes "v") None (ENumber (codes "0"))) Done; end = 14 }) ∷ []) 16

-- empty parts, and an empty `else`, equal absent ones; an empty `if` and `for` stay
abbrev pub empty_text : List ℕ
empty_text = example_text (codes "language 1" ∷ codes "tdf m" ∷ codes "set_attributes" ∷ codes "end" ∷ codes "initialize" ∷ codes "end" ∷ codes "processing" ∷ codes "if a" ∷ codes "else" ∷ codes "end"
    ∷ codes "for i 0 4" ∷ codes "end" ∷ codes "end" ∷ codes "change_attributes" ∷ codes "end" ∷ codes "reinitialize" ∷ codes "end" ∷ codes "end" ∷ codes "de d" ∷ codes "process" ∷ codes "end" ∷ codes "end"
    ∷ codes "composite c" ∷ codes "end" ∷ codes "top" ∷ codes "end" ∷ [])

abbrev pub empty_tree : PureTree
empty_tree = tree_with (tdf_bodies no_body (record {
  list = More (SIf 8 (EName (codes "a")) Done Done) (More (SFor 11 (codes "i") 0 (limit.Int 4) Done) Done);
  end = 13;
}) no_body no_body
    ∷ GDe (record { line = 19; name = codes "d"; decls = []; processes = record { line = 20; sensitive = []; starts = true; body = no_body } ∷ [] })
    ∷ GNet (record { line = 23; name = codes "c"; members = [] }) ∷ []) 25

-- a `de` block
abbrev pub de_text : List ℕ
de_text = example_text (codes "language 1" ∷ codes "de d" ∷ codes "de_in x w" ∷ codes "var v w" ∷ codes "event e" ∷ codes "process" ∷ codes "sensitive e" ∷ codes "sensitive x" ∷ codes "dont_initialize"
    ∷ codes "notify e after 3ns" ∷ codes "end" ∷ codes "process" ∷ codes "notify e" ∷ codes "v = x" ∷ codes "end" ∷ codes "end" ∷ codes "top" ∷ codes "end" ∷ [])

abbrev pub de_tree : PureTree
de_tree = tree_with (GDe (record {
  line = 2;
  name = codes "d";
  decls = DPort (port_of 3 port_kind.DeIn (codes "x")) ∷ DStore (SVar 4 (codes "v") w_format (plain_lit_of (codes "0"))) ∷ DEvent 5 (codes "e") ∷ [];
  processes = record {
    line = 6;
    sensitive = record { line = 7; name = codes "e" } ∷ record { line = 8; name = codes "x" } ∷ [];
    starts = false;
    body = record { list = More (SNotify 10 (codes "e") 3000) Done; end = 11 };
  }
      ∷ record { line = 12; sensitive = []; starts = true; body = record { list = More (SNotify 13 (codes "e") 0) (More (SAssign 14 (codes "v") None (EName (codes "x"))) Done); end = 15 } } ∷ [];
})
    ∷ []) 17

-- version 2: a rate, a limit and indices that are multiples
abbrev pub multiples_text : List ℕ
multiples_text = example_text (codes "language 2" ∷ codes "tdf m" ∷ codes "set_attributes" ∷ codes "rate y 2 * r" ∷ codes "end" ∷ codes "processing"
    ∷ codes "for i 0 3*r" ∷ codes "y[2 * i] = x[02 * i + 1]" ∷ codes "end" ∷ codes "end" ∷ codes "end" ∷ codes "top" ∷ codes "end" ∷ [])

abbrev pub multiples_tree : PureTree
multiples_tree = record (tree_with (GTdf (record {
  line = 2;
  name = codes "m";
  decls = [];
  attrs = attr.Rate 4 (codes "y") (limit.Times 2 (codes "r")) ∷ [];
  initials = [];
  initialize = no_body;
  processing = record {
    list = More (SFor 7 (codes "i") 0 (limit.Times 3 (codes "r"))
        (More (SAssign 8 (codes "y") (Some (index.Times 2 (codes "i"))) (EAt (codes "x") (index.TimesPlus 2 (codes "i") 1))) Done)) Done;
    end = 10;
  };
  change = no_body;
  reinitialize = no_body;
}) ∷ []) 12) { version = V2 }

-- version 3 at 1 fs
abbrev pub femtoseconds_text : List ℕ
femtoseconds_text = example_text (codes "language 3" ∷ codes "resolution 1fs" ∷ codes "tdf m" ∷ codes "set_attributes" ∷ codes "timestep 0.25ps" ∷ codes "end"
    ∷ codes "end" ∷ codes "top" ∷ codes "end" ∷ [])

abbrev pub femtoseconds_tree : PureTree
femtoseconds_tree = record (tree_with (GTdf (record {
  line = 3;
  name = codes "m";
  decls = [];
  attrs = attr.Step 5 None 250 ∷ [];
  initials = [];
  initialize = no_body;
  processing = no_body;
  change = no_body;
  reinitialize = no_body;
}) ∷ []) 8) { version = V3; resolution = Fs }

-- version 3 without a resolution line has the unit fs all the same: 1000 of them are 1 ps
abbrev pub no_resolution_text : List ℕ
no_resolution_text = example_text (codes "language 3" ∷ codes "tdf m" ∷ codes "set_attributes" ∷ codes "timestep 1000fs" ∷ codes "end" ∷ codes "end"
    ∷ codes "top" ∷ codes "end" ∷ [])

abbrev pub no_resolution_tree : PureTree
no_resolution_tree = record (tree_with (GTdf (record {
  line = 2;
  name = codes "m";
  decls = [];
  attrs = attr.Step 4 None 1 ∷ [];
  initials = [];
  initialize = no_body;
  processing = no_body;
  change = no_body;
  reinitialize = no_body;
}) ∷ []) 7) { version = V3 }

-- a text at fault on line 1: numbers in the grammar are spellings
abbrev pub version_text : List ℕ
version_text = example_text (codes "language 01" ∷ codes "top" ∷ codes "end" ∷ [])

-- a text at fault on line 6, a second `else`
abbrev pub else_text : List ℕ
else_text = example_text (codes "language 1" ∷ codes "tdf m" ∷ codes "processing" ∷ codes "if a" ∷ codes "else" ∷ codes "else" ∷ [])

-- a text at fault on line 12, an `if` nested 9 deep
abbrev pub deep_text : List ℕ
deep_text = example_text (codes "language 1" ∷ codes "tdf m" ∷ codes "processing" ∷ codes "if a" ∷ codes "for i 0 1" ∷ codes "if a" ∷ codes "for j 0 1" ∷ codes "if a" ∷ codes "for k 0 1" ∷ codes "if a"
    ∷ codes "for l 0 1" ∷ codes "if a" ∷ [])

-- a text at fault on line 5, a part after a later one
abbrev pub order_text : List ℕ
order_text = example_text (codes "language 1" ∷ codes "tdf m" ∷ codes "processing" ∷ codes "end" ∷ codes "initialize" ∷ [])

-- a text of four lines that doesn't end after `top`: the fault is on line 5
abbrev pub open_text : List ℕ
open_text = example_text (codes "language 1" ∷ codes "" ∷ codes "tdf m" ∷ []) ++ codes " "

-- a text at fault on line 4: a comparison has no third operand
abbrev pub chain_text : List ℕ
chain_text = example_text (codes "language 1" ∷ codes "tdf m" ∷ codes "processing" ∷ codes "y = a < b < c" ∷ [])

-- a text at fault on line 4: version 1 has no multiples
abbrev pub early_text : List ℕ
early_text = example_text (codes "language 1" ∷ codes "tdf m" ∷ codes "set_attributes" ∷ codes "rate y 2 * r" ∷ [])

-- texts at fault on line 3: a second resolution line, and one after a `type` line
abbrev pub second_text : List ℕ
second_text = example_text (codes "language 3" ∷ codes "resolution 1fs" ∷ codes "resolution 1fs" ∷ codes "top" ∷ codes "end" ∷ [])

abbrev pub late_text : List ℕ
late_text = example_text (codes "language 3" ∷ codes "type w fixed 8 8" ∷ codes "resolution 1ps" ∷ codes "top" ∷ codes "end" ∷ [])

-- a text at fault on line 4: 1 fs is no whole count of 1 ps
abbrev pub unit_example : List ℕ
unit_example = example_text (codes "language 3" ∷ codes "tdf m" ∷ codes "set_attributes" ∷ codes "timestep 1fs" ∷ codes "end" ∷ [])
