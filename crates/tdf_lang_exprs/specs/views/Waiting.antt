-- What the code's stack and state stand for.
use Rattle.std.specs.Prelude.{◌≡◌, List, [], ◌∷◌}
use Rattle.tdf_lang_lexer.specs.Token.{Tok}
use Rattle.tdf_lang_tree.specs.Pure.{PureExpr}
use Rattle.tdf_lang_tree.specs.Views.{pure_expr}
use Rattle.tdf_lang_exprs.specs.declared.pending.At.{At}
use Rattle.tdf_lang_exprs.specs.declared.pending.At.TheVariants as state
use Rattle.tdf_lang_exprs.specs.declared.pending.Bracket.{Bracket}
use Rattle.tdf_lang_exprs.specs.declared.pending.Bracket.TheVariants as bracket
use Rattle.tdf_lang_exprs.specs.declared.pending.Pending.{Pending}
use Rattle.tdf_lang_exprs.specs.declared.pending.Pending.TheVariants as pending
use Rattle.tdf_lang_exprs.specs.machine.Exprs.{Opening, Group, Call, First, Second, Third, Wait, Within, Negated, Denied, Left, Top, Reading, Want, Have, Named, Indexing, Shifting, Selecting, Bad}

abbrev pub opening : Bracket → Opening
opening bracket.Group = Group
opening (bracket.Call name) = Call name
opening bracket.First = First
opening (bracket.Second x) = Second (pure_expr x)
opening (bracket.Third x y) = Third (pure_expr x) (pure_expr y)

abbrev pub wait : Pending → Wait
wait (pending.Within b) = Within (opening b)
wait pending.Negated = Negated
wait pending.Denied = Denied
wait (pending.Left op x) = Left op (pure_expr x)

-- a vector's last element is innermost
abbrev pub piled : List Pending → List Wait → List Wait
piled [] above = above
piled (p ∷ ps) above = piled ps (wait p ∷ above)

unfoldable pub waits : List Pending → List Wait
waits ps = piled ps []

abbrev pub IsTop : Top → List Wait → PureExpr → Type 0
IsTop top stack tree = top ≡ record { stack = stack; tree = tree }

-- the state, with the stack and the tokens of an index
abbrev pub reading : List Wait → List Tok → At → Reading
reading s a state.Want = Want s
reading s a (state.Have e) = Have s (pure_expr e)
reading s a (state.Named name) = Named s name
reading s a (state.Indexing name) = Indexing s name a
reading s a (state.Shifting e left) = Shifting s (pure_expr e) left
reading s a state.Selecting = Selecting s
reading s a state.Bad = Bad
