-- What is kept and what changes where the next entry is done.
use Rattle.std.proofs.Common.{◌≡◌, ◌∙◌, ◌≢◌, ℕ, ◌+◌, ◌<◌, List, Some, length, length-set, refl, sym, ap, subst, inl, inr, ◌⊎◌}
use Rattle.std.proofs.lemmas.Bool.{cases_eq}
use Rattle.std.proofs.lemmas.List.{get_or-set_same, get_or-set_other}
use Rattle.std.proofs.lemmas.Option.{get_or_from_slice_get, slice_get_read, slice_get_within}
use Rattle.std.specs.Prelude.{slice_get, slice_index, slice_index_or, slice_set}
use Rattle.tdf_exec.proofs.Keeping.{alike, get_set, get_set_other}
use Rattle.tdf_exec.proofs.Moved.{some_inj}
use Rattle.tdf_exec.proofs.Giving.{StepGains, step_gains}
use Rattle.tdf_exec.specs.Cluster.{ClusterOf}
use Rattle.tdf_convert.specs.Outputs.{OutputsOf}
use Rattle.tdf_exec.specs.machine.Fired.{HasGiven, HasRun}
use Rattle.tdf_exec.specs.Made.{IsClusterOf}
use Rattle.tdf_exec.specs.Played.{IsLike, counted}
use Rattle.tdf_exec.specs.declared.runners.Runner.{Runner}
use Rattle.tdf_exec.specs.declared.runners.Runner.TheVariants as runner
use Rattle.tdf_exec.specs.machine.Steps.{AreInputsNext, HasStepped, with_parts}
use Rattle.tdf_fixed.specs.declared.raw.Raw.{Raw}
use Rattle.tdf_bind.specs.declared.model.Flat.{Flat}
use Rattle.tdf_rings.specs.Rings.{RingOf}
use Rattle.tdf_schedule.specs.declared.entry.Entry.{Entry}

pub get_read : {A : Type 0} (xs : List A) (i : ℕ) (x : A) → i < length xs → x ≡ slice_index_or xs i x → slice_get xs i ≡ Some x
get_read xs i x below is = slice_get_read xs (length xs) i x refl below is

pub read_at : {A : Type 0} (xs : List A) (i : ℕ) (x d : A) → i < length xs → x ≡ slice_index_or xs i x → slice_index_or xs i d ≡ x
read_at xs i x d below is = get_or_from_slice_get xs i x d (get_read xs i x below is)

pub like_self : (r : Runner) → IsLike r r
like_self (runner.Module x) = (x, refl, refl, refl, refl)
like_self (runner.Sampler s) = refl
like_self (runner.Sink k) = refl
like_self runner.Outside = refl

module _ (flat : Flat) (c : ClusterOf) (inputs : List Raw) (x : Entry) (of : IsClusterOf flat c) (ins : AreInputsNext flat c inputs) (at : slice_get c.entries c.place ≡ Some x)
    (new : List RingOf) (before after : Runner) (there : slice_get c.runners x.actor ≡ Some before)
    (ran : HasRun flat.checked inputs c.reads c.writes c.rings new before after) (position : ℕ) (counts : position ≡ counted (slice_index c.positions x.actor + 1))
    (outs outs2 : OutputsOf) (given : HasGiven x.actor c.rings after outs outs2) where
  inside : x.actor < length c.positions
  inside = subst (λ n. x.actor < n) (sym of.positions) (of.safe.inside c.place x at)

  likely : (m : ℕ) (r : Runner) → slice_get c.runners m ≡ Some r → (m ≡ x.actor) ⊎ (m ≢ x.actor) → (s : Runner) × (slice_get (slice_set c.runners x.actor after) m ≡ Some s) × IsLike r s
  likely m r here (inl same) =
      let one : before ≡ r = some_inj before r (sym there ∙ ap (slice_get c.runners) (sym same) ∙ here) in (
        after,
        ap (slice_get (slice_set c.runners x.actor after)) same ∙ get_set c.runners x.actor after (slice_get_within c.runners x.actor before there),
        subst (λ b. IsLike b after) one (alike flat c inputs x of ins at new before after ran),
      )
  likely m r here (inr apart) = (r, get_set_other c.runners x.actor m after apart ∙ here, like_self r)

  pub stepped : HasStepped flat inputs c (with_parts c (c.place + 1) new (slice_set c.runners x.actor after) (slice_set c.positions x.actor position)) outs outs2
  stepped = record {
    entry = x;
    at = at;
    rest = refl;
    runners = λ m r here. likely m r here (cases_eq m x.actor);
    same = length-set c.positions x.actor position;
    own = get_or-set_same c.positions x.actor position 0 inside ∙ counts;
    others = λ m apart. get_or-set_other c.positions x.actor m position 0 apart;
    sent = gains.sent;
    traced = gains.traced;
    gains = gains.gains;
    sinks = gains.sinks;
    places = gains.places;
    few_sent = gains.few_sent;
    few_traced = gains.few_traced;
    step = gains.step;
  }
    where
      gains : StepGains flat inputs c (with_parts c (c.place + 1) new (slice_set c.runners x.actor after) (slice_set c.positions x.actor position)) x outs outs2
      gains = step_gains flat c inputs x of ins at new position outs outs2 before after there ran given
