use Rattle.std.proofs.Common.{◌∙◌, ◌<◌, ◌+◌, List, ℕ, ap, length, arith}
use Rattle.std.proofs.lemmas.List.{length_push}
use Rattle.tdf_bind_attributes.proofs.Numbered.{none_before, one_more, number_more}
use Rattle.tdf_bind_attributes.proofs.rates.rate_numbers.Goals as goal

pub loop-place-init : goal.loop-place-init
loop-place-init c = record {
  long = ap (λ (l : List ℕ). length l) c.new-numbers.ensures.items;
  each = λ n h. absurd (omega (arith, h));
  count = none_before c.args.scope.now.own.things;
}

pub loop-place-preserved : goal.loop-place-preserved
loop-place-preserved c =
    let own = c.args.scope.now.own in
    let within : c.loop-place.place < length own.things = omega (arith, c.loop-place-test.true, c.own_len-place-end.ensures) in
    record {
      long = ap (λ (l : List ℕ). length l) c.in_ok-push.ensures.items ∙ length_push c.loop-place.numbers.items c.loop-place.count ∙ ap (λ k. k + 1) c.loop-place.invariant.long;
      each = λ n h. number_more own c.loop-place.numbers.items c.push.new.self.items c.loop-place.place c.loop-place.count n c.loop-place.invariant.long
          c.loop-place.invariant.each c.loop-place.invariant.count c.in_ok-push.ensures.items h;
      count = one_more own.things c.loop-place.place c.loop-place.count c.count_rate-count.result within
          (λ t at. c.count_rate-count.ensures.count t (c.own_at.ensures ∙ at)) c.loop-place.invariant.count;
    }
