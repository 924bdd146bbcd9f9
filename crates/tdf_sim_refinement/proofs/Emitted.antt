-- Sinks write to their signals.
use Rattle.std.proofs.Common.{◌≡◌, ◌∙◌, ◌≢◌, ℕ, zero, suc, false, Some, List, [], ◌∷◌, map, nat_eq, refl, ap, sym, subst, inl, inr, arith, slice_get, eq-eqb}
use Rattle.std.proofs.lemmas.Bool.{cases_eq}
use Rattle.std.proofs.lemmas.Bool.Decides.{nat_tests}
use Rattle.std.proofs.lemmas.List.{length-map}
use Rattle.std.specs.Prelude.{All}
use Rattle.tdf_convert.specs.Emitted.{signal_in, write_of_sent}
use Rattle.tdf_convert.specs.Links.{link_of}
use Rattle.tdf_convert.specs.declared.links.Link.{Link}
use Rattle.tdf_convert.specs.declared.outputs.Sent.{Sent}
use Rattle.tdf_convert.specs.declared.writes.SignalWrite.{SignalWrite}
use Rattle.tdf_sim_history.specs.Below.{AreWritesOf, signal_formats}
use Rattle.tdf_exec.specs.Gained.{IsSentOf}
use Rattle.tdf_expr.specs.Frames.{IsOfFormat}
use Rattle.tdf_fixed.specs.declared.format.Format.{Format}
use Rattle.tdf_fixed.specs.declared.raw.Raw.{Raw}
use Rattle.tdf_bind.specs.Flat.{IsFlatOf}
use Rattle.tdf_bind.specs.declared.model.Flat.{Flat}
use Rattle.tdf_streams.proofs.Api.{get_inside, none_some, some_same}
use Rattle.tdf_sim_history.specs.Instant.{signal_of}
use Rattle.tdf_exec.proofs.Api.{sinks_read}
use Rattle.tdf_sim_refinement.proofs.Ports.{in_range}
use Rattle.tdf_sim_refinement.proofs.Rows.{all_at, map_some, map_twice}
use Rattle.tdf_sim_refinement.proofs.Signals.{read_format}
use Rattle.tdf_sim_refinement.specs.LinkLaws.{SinksWriteSignals}
use Rattle.tdf_sim_refinement.specs.Linked.{AreSinkLinks, HasLink}
use Rattle.tdf_sim_refinement.specs.Firings.{write_of as history_write_of}
use Rattle.tdf_lang_tree.specs.Pure.{PureTree}
use Rattle.tdf_sim_history.specs.Rules.{signal_write}
use Rattle.tdf_bind_connections.specs.declared.drivers.SignalRow.{SignalRow}

abbrev write_with : Raw → ℕ → SignalWrite
write_with value signal = record { signal = signal; value = value }

-- the link that is found for an actor
pub record IsFound (links : List Link) (actor : ℕ) : Type 0 where
  pub number : ℕ
  pub link : Link
  pub at : slice_get links number ≡ Some link
  pub of : link.actor ≡ actor
  pub found : link_of links actor ≡ Some link

later : (v : Link) (links : List Link) (actor : ℕ) → v.actor ≢ actor → IsFound links actor → IsFound (v ∷ links) actor
later v links actor other h =
    let test : nat_eq v.actor actor ≡ false = grind (arith, nat_tests, other) in
    record { number = suc h.number; link = h.link; at = h.at; of = h.of; found = rw test h.found }

here : (v : Link) (links : List Link) (actor : ℕ) → v.actor ≡ actor → IsFound (v ∷ links) actor
here v links actor same = record { number = 0; link = v; at = refl; of = same; found = rw (eq-eqb v.actor actor same) refl }

is_found : (links : List Link) (actor j : ℕ) (l : Link) → slice_get links j ≡ Some l → l.actor ≡ actor → IsFound links actor
is_found [] actor j l at own = none_some l at
is_found (v ∷ links) actor zero l at own = here v links actor (ap (λ (x : Link). x.actor) (some_same v l at) ∙ own)
is_found (v ∷ links) actor (suc j) l at own = elim (cases_eq v.actor actor) [ inl same ↦ here v links actor same | inr other ↦ later v links actor other (is_found links actor j l at own) ]

module _ (model : PureTree) (flat : Flat) (is : IsFlatOf model flat) (links : List Link) (are : AreSinkLinks flat.tables links) where
  link_there : (s : Sent) → IsSentOf flat.tables s → IsFound links s.actor
  link_there s of = let h : HasLink links s.actor = are.all s.actor of.sink in is_found links s.actor h.place h.link h.at h.of

  -- a sink writes to the signal of its port
  signal_is : (s : Sent) → IsSentOf flat.tables s → signal_in (link_of links s.actor) ≡ signal_of flat.tables s.actor
  signal_is s of = let h = link_there s of in ap signal_in h.found ∙ are.of h.number h.link h.at ∙ ap (signal_of flat.tables) h.of

  write_is : (s : Sent) → IsSentOf flat.tables s → write_of_sent links s ≡ signal_write (history_write_of flat.tables s)
  write_is s of = ap (write_with s.value) (signal_is s of)

  -- a value of the format of its signal
  has_format : (s : Sent) → IsSentOf flat.tables s → (f : Format) × (slice_get (signal_formats flat) (write_of_sent links s).signal ≡ Some f) × IsOfFormat f s.value
  has_format s of =
      let h = link_there s of in
      let formats = get_inside (signal_formats flat) h.link.signal (let i = are.signals.inside h.number h.link h.at in let l = length-map flat.tables.de_signals (λ (row : SignalRow). row.format) in omega (arith, i, l)) in
      let edge = sinks_read model flat is (in_range model flat is) s.actor of.sink in
      let there = read_format model flat is s.actor edge.0 of.sink edge.1.is in
      let own : signal_of flat.tables s.actor ≡ h.link.signal = sym (are.of h.number h.link h.at ∙ ap (signal_of flat.tables) h.of) in
      (formats.0, ap (slice_get (signal_formats flat)) (ap signal_in h.found) ∙ formats.1, of.fits edge.0 formats.0 edge.1.is (there ∙ ap (slice_get (signal_formats flat)) own ∙ formats.1))

  module _ (sent : List Sent) (all : All (IsSentOf flat.tables) sent) where
    sent_at : (j : ℕ) (s : Sent) → slice_get sent j ≡ Some s → IsSentOf flat.tables s
    sent_at j s at = all_at (IsSentOf flat.tables) sent j s all at

    same_writes : map (write_of_sent links) sent ≡ map signal_write (map (history_write_of flat.tables) sent)
    same_writes = map_twice (write_of_sent links) signal_write (history_write_of flat.tables) sent (λ j s at. write_is s (sent_at j s at))

    are_writes : AreWritesOf (signal_formats flat) (map (write_of_sent links) sent)
    are_writes = record {
      each = λ i w at. (
          let s = map_some (write_of_sent links) sent i w at in
          subst (λ (x : SignalWrite). (f : Format) × (slice_get (signal_formats flat) x.signal ≡ Some f) × IsOfFormat f x.value) s.2 (has_format s.0 (sent_at i s.0 s.1)));
    }

pub emitted_to : SinksWriteSignals
emitted_to model flat links sent sound is are all = (same_writes model flat is links are sent all, are_writes model flat is links are sent all)
