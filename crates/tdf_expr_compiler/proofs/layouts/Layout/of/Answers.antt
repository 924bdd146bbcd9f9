use Rattle.std.proofs.Common.{◌∙◌, ◌<◌, [], ◌∷◌, length, refl, sym, ap, subst, arith}
use Rattle.std.proofs.lemmas.List.{length-append}
use Rattle.tdf_expr_compiler.specs.Layouts.{IsNumbered}
use Rattle.tdf_expr_compiler.proofs.Numbered.{AreNumbered, none_numbered, more_numbered, numbered_first, numbered_next, has_thing}
use Rattle.tdf_expr_compiler.proofs.layouts.Layout.of.Goals as goal

pub loop-place-init : goal.loop-place-init
loop-place-init c = record {
  long = ap length c.new-names.ensures.items;
  all = subst (λ l. AreNumbered c.args.scope.now.own l) (sym c.new-names.ensures.items) (none_numbered c.args.scope.now.own);
  next = numbered_first c.args.scope.now.own _ refl refl refl refl refl;
}

pub loop-place-preserved : goal.loop-place-preserved
loop-place-preserved c =
    let own = c.args.scope.now.own in
    let place = c.loop-place.place in
    let names = c.loop-place.names.items in
    let thing = has_thing own.things place (subst (λ n. place < n) c.own_len-place-end.ensures c.loop-place-test.true) in
    let here : IsNumbered own (length names) c.loop-place.numbers = rw c.loop-place.invariant.long c.loop-place.invariant.next in
    record {
      long = rw c.in_ok-push.ensures.items (length-append names (c.loop-place.numbers ∷ []) ∙ omega (arith, c.loop-place.invariant.long));
      all = rw c.in_ok-push.ensures.items (more_numbered own names c.loop-place.numbers c.loop-place.invariant.all here);
      next = numbered_next own place thing.0 _ _ thing.1 c.loop-place.invariant.next (c.in_ok-numbers.ensures thing.0 thing.1);
    }
