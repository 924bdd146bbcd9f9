-- Firings that come after they are due, looked for one after the other.
use Rattle.std.proofs.Common.{◌≡◌, ◌∙◌, ℕ, ◌+◌, ◌*◌, ◌<◌, ◌≤◌, ◌⊎◌, inl, inr, Option, Some, None, List, [], length, sym, ap, subst, arith}
use Rattle.std.proofs.Math.ListN.{get_or}
use Rattle.std.proofs.lemmas.Bool.{cases_eq}
use Rattle.std.proofs.lemmas.List.{get_or_default}
use Rattle.std.proofs.lemmas.Option.{slice_get_within, slice_get-get_or}
use Rattle.std.specs.Prelude.{slice_get}
use Rattle.tdf_graph.specs.declared.actors.Actor.{Actor}
use Rattle.tdf_graph.specs.declared.actors.Actor.TheVariants.{Module, Sampler, Sink}
use Rattle.tdf_schedule.proofs.Keys.{some_same}
use Rattle.tdf_schedule.specs.declared.key.Key.{Key}
use Rattle.tdf_schedule.specs.views.Faults.{IsLateAt, IsFirstLateRow, IsLateSink, IsFirstLateSink}
use Rattle.tdf_schedule.specs.views.Table.{row_at}

pub late_more : (table : List (List Key)) (paces : List ℕ) (m i : ℕ) (row : List Key) (key : Key) → m < length table → row ≡ get_or table m row → slice_get row i ≡ Some key
    → key.offset ≤ i * get_or paces m 0 → ((b : ℕ) → b < i → IsLateAt table paces m b → ⊥) → (b : ℕ) → b < i + 1 → IsLateAt table paces m b → ⊥
late_more table paces m i row key here row_is key_is early before b less late = go (cases_eq b i)
  where
    row_same : row ≡ row_at table m
    row_same = row_is ∙ get_or_default table m row [] here

    go : (b ≡ i) ⊎ (b ≡ i → ⊥) → ⊥
    go (inr other) = before b (omega (arith, less, other)) late
    go (inl same) =
        let at : slice_get (row_at table m) i ≡ Some key = ap (λ (l : List Key). slice_get l i) (sym row_same) ∙ key_is in
        let e : late.key ≡ key = some_same (sym late.there ∙ ap (slice_get (row_at table m)) same ∙ at) in
        let l = late.late in let o = ap (λ (k : Key). k.offset) e in let d = ap (λ n. n * get_or paces m 0) same in omega (arith, l, o, d, early)

pub late_none : (table : List (List Key)) (paces : List ℕ) (m i len : ℕ) → len ≡ length (row_at table m) → len ≤ i → ((b : ℕ) → b < i → IsLateAt table paces m b → ⊥) → (b : ℕ) → IsLateAt table paces m b → ⊥
late_none table paces m i len len_is past before b late =
    before b (let w = slice_get_within (row_at table m) b late.key late.there in omega (arith, w, len_is, past)) late

only_sink : Actor → Type 0
only_sink Module = ⊥
only_sink Sampler = ⊥
only_sink Sink = Unit {0}

pub module_sink : Module ≡ Sink → ⊥
unfolding only_sink
module_sink e = subst only_sink (sym e) tt

pub sampler_sink : Sampler ≡ Sink → ⊥
unfolding only_sink
sampler_sink e = subst only_sink (sym e) tt

module _ (actors : List Actor) (table : List (List Key)) (paces : List ℕ) (m : ℕ) (d : Actor) (here : m < length actors) where
  pub sink_row : get_or actors m d ≡ Sink → (r : Option ℕ) → IsFirstLateRow table paces m r → IsFirstLateSink actors table paces m r
  sink_row is None none = λ b late. none b late.late
  sink_row is (Some a) first = (record { sink = slice_get-get_or actors m d here ∙ ap Some is; late = first.is }, λ b less late. first.first b less late.late)

  pub not_sink : (get_or actors m d ≡ Sink → ⊥) → IsFirstLateSink actors table paces m None
  not_sink other b late = other (some_same (sym (slice_get-get_or actors m d here) ∙ late.sink))

pub sinks_more : (actors : List Actor) (table : List (List Key)) (paces : List ℕ) (n : ℕ) → ((k b : ℕ) → k < n → IsLateSink actors table paces k b → ⊥)
    → IsFirstLateSink actors table paces n None → (k b : ℕ) → k < n + 1 → IsLateSink actors table paces k b → ⊥
sinks_more actors table paces n before none k b less late = go (cases_eq k n)
  where
    go : (k ≡ n) ⊎ (k ≡ n → ⊥) → ⊥
    go (inl same) = none b (subst (λ j. IsLateSink actors table paces j b) same late)
    go (inr other) = before k b (omega (arith, less, other)) late

pub sinks_none : (actors : List Actor) (table : List (List Key)) (paces : List ℕ) (n : ℕ) → length actors ≤ n → ((k b : ℕ) → k < n → IsLateSink actors table paces k b → ⊥)
    → (k b : ℕ) → IsLateSink actors table paces k b → ⊥
sinks_none actors table paces n past before k b late = before k b (let w = slice_get_within actors k Sink late.sink in omega (arith, w, past)) late
