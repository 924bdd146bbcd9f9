-- Signals get their initial samples, one after the other.
use Rattle.std.proofs.Common.{◌≡◌, ℕ, ◌+◌, ◌<◌, List, [], ◌∷◌, ◌++◌, append-nil, Some, slice_get, refl, ap, sym, ◌∙◌, subst, inl, inr, arith}
use Rattle.std.proofs.lemmas.Bool.{cases_eq, eq-eqb, ne_eqb}
use Rattle.tdf_bind_tables.specs.FlatTables.{FlatTablesOf}
use Rattle.tdf_trace.specs.Calls.{TakesSamples, with_traced}
use Rattle.tdf_trace.specs.Tracked.{AreSince, TrackedOf, TrackingOf, labels, samples_traced, sinces}
use Rattle.tdf_fixed.specs.declared.raw.Raw.{Raw}
use Rattle.tdf_streams.proofs.Api.{some_same}
use Rattle.tdf_sim_traces.specs.declared.signals.TracedSignal.{TracedSignal}
use Rattle.tdf_sim_traces.specs.machine.Giving.{IsAmong, IsGivingTo, TakesInitials, initials_of, traced_with}
use Rattle.tdf_trace.specs.Stands.{RowsSeen, TraceSeen}

-- samples of one signal are all of it, and none of another
pub samples_here : (signal s : ℕ) (values : List Raw) → signal ≡ s → samples_traced s (traced_with signal values) ≡ values
unfolding samples_traced
samples_here signal s [] same = refl
samples_here signal s (v ∷ vs) same = rw (eq-eqb signal s same) (ap (λ l. v ∷ l) (samples_here signal s vs same))

pub samples_other : (signal s : ℕ) (values : List Raw) → (signal ≡ s → ⊥) → samples_traced s (traced_with signal values) ≡ []
unfolding samples_traced
samples_other signal s [] apart = refl
samples_other signal s (v ∷ vs) apart = rw (ne_eqb signal s apart) (samples_other signal s vs apart)

among_more : (signals : List TracedSignal) (k s : ℕ) → IsAmong signals k s → IsAmong signals (k + 1) s
among_more signals k s a = record {
  place = a.place;
  it = a.it;
  below = (let b = a.below in omega (arith, b));
  there = a.there;
  same = a.same;
}

pub none_given : (tables : FlatTablesOf) (signals : List TracedSignal) (list : List TrackedOf) (rows : RowsSeen) → TakesInitials tables signals 0 list list rows rows
none_given tables signals list rows traces cells spans samples once h = record {
  now = samples;
  have = record {
    given = λ j t below at. absurd (omega (arith, below));
    other = λ s not. refl;
  };
  holds = h;
}

given_more : (tables : FlatTablesOf) (signals : List TracedSignal) (k : ℕ) (t : TracedSignal) (first mid last : List TrackedOf) (before between after : RowsSeen) → slice_get signals k ≡ Some t
    → TakesInitials tables signals k first mid before between → TakesSamples (traced_with t.signal (initials_of tables t)) mid last between after → TakesInitials tables signals (k + 1) first last before after
given_more tables signals k t first mid last before between after at took samples_took traces cells spans samples once h =
    let b = took traces cells spans samples once h in
    record {
      now = with_traced b.now (traced_with t.signal (initials_of tables t));
      have = record {
        given = λ j u below there. elim (cases_eq t.signal u.signal) [
          | inl same ↦ (
              let n : j ≡ k = once j k u t there at (sym same) in
              let v : u ≡ t = some_same u t (sym there ∙ ap (slice_get signals) n ∙ at) in
              ap (λ l. b.now u.signal ++ l) (samples_here t.signal u.signal (initials_of tables t) same ∙ ap (initials_of tables) (sym v))
              ∙ ap (λ l. l ++ initials_of tables u) (b.have.other u.signal (λ a. (
              let e : a.place ≡ k = once a.place k a.it t a.there at (a.same ∙ sym same) in let low = a.below in absurd (omega (arith, e, low))))))
          | inr apart ↦ ap (λ l. b.now u.signal ++ l) (samples_other t.signal u.signal (initials_of tables t) apart) ∙ append-nil (b.now u.signal) ∙ b.have.given j u (lower j u below there apart) there
        ];
        other = λ s not.
            ap (λ l. b.now s ++ l) (samples_other t.signal s (initials_of tables t) (λ same. not (record { place = k; it = t; below = omega arith; there = at; same = same }))) ∙ append-nil (b.now s)
            ∙ b.have.other s (λ among. not (among_more signals k s among));
      };
      holds = samples_took traces cells spans b.now b.holds;
    }
  where
    lower : (j : ℕ) (u : TracedSignal) → j < k + 1 → slice_get signals j ≡ Some u → (t.signal ≡ u.signal → ⊥) → j < k
    lower j u below there apart = elim (cases_eq j k) [
      | inl same ↦ absurd (apart (ap (λ (x : TracedSignal). x.signal) (some_same t u (sym at ∙ ap (slice_get signals) (sym same) ∙ there))))
      | inr less ↦ omega (arith, below, less)
    ]

pub gives_more : (tables : FlatTablesOf) (signals : List TracedSignal) (k : ℕ) (t : TracedSignal) (old mid new : TrackingOf) (before between after : TraceSeen) → slice_get signals k ≡ Some t → IsGivingTo tables signals k old mid before between
    → TakesSamples (traced_with t.signal (initials_of tables t)) mid.list new.list between.rows after.rows → new.width ≡ mid.width → labels new.list ≡ labels mid.list → sinces new.list ≡ sinces mid.list → AreSince between.rows.upto new.list
    → after.rows.upto ≡ between.rows.upto → after.stage ≡ between.stage → after.about ≡ between.about → IsGivingTo tables signals (k + 1) old new before after
gives_more tables signals k t old mid new before between after at g took width labeled sinced since upto stage about = record {
  took = given_more tables signals k t old.list mid.list new.list before.rows between.rows after.rows at g.took took;
  labels = labeled ∙ g.labels;
  sinces = sinced ∙ g.sinces;
  since = subst (λ n. AreSince n new.list) g.upto since;
  width = width ∙ g.width;
  upto = upto ∙ g.upto;
  stage = stage ∙ g.stage;
  about = about ∙ g.about;
}
