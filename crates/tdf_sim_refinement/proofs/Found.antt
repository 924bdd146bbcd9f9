-- The links that are found, one actor after the other.
use Rattle.std.proofs.Common.{◌≡◌, ◌∙◌, ℕ, ◌+◌, ◌-◌, ◌<◌, ◌≤◌, Bool, true, false, Option, Some, None, Result, Ok, Err, OnOk, get_or, eq-eqb, List, [], ◌∷◌, ◌++◌, length, cond, nat_eq, ◌&&◌, refl, ap, sym, subst, inl, inr, ◌⊎◌, arith, slice_get, take}
use Rattle.std.specs.List.{count_by}
use Rattle.std.proofs.lemmas.Bool.{cases_lt}
use Rattle.std.proofs.lemmas.Bool.Decides.{nat_tests}
use Rattle.std.proofs.lemmas.List.{length-append}
use Rattle.std.proofs.lemmas.List.Sums.{count_by_more_no, count_by_more_yes, sum_by-cons, sum_by_push}
use Rattle.std.proofs.lemmas.Option.{get_or_from_slice_get, slice_get_read, slice_get_within}
use Rattle.tdf_bind_tables.specs.Actors.{cluster_of}
use Rattle.tdf_bind_tables.specs.FlatTables.{FlatTablesOf}
use Rattle.tdf_bind_tables.specs.declared.actors.ActorRow.{ActorRow}
use Rattle.tdf_convert.specs.Links.{AreLinks, samplers_in}
use Rattle.tdf_convert.specs.declared.links.Link.{Link}
use Rattle.tdf_exec.specs.Made.{IsActorOf}
use Rattle.tdf_streams.proofs.Api.{get_high, get_low, none_some, some_same}
use Rattle.tdf_graph.specs.declared.actors.Actor.{Actor}
use Rattle.tdf_graph.specs.declared.actors.Actor.TheVariants as actor
use Rattle.tdf_sim_history.specs.Instant.{signal_of}
use Rattle.tdf_sim_refinement.proofs.Rows.{false_true, index_map}
use Rattle.tdf_sim_refinement.specs.Linked.{AreSamplerLinks, AreSinkLinks, HasEventPort, HasLink, is_converter, is_sampler, own_samplers}
use Rattle.tdf_sim_refinement.specs.declared.linking.Wanted.{Wanted}
use Rattle.tdf_sim_refinement.specs.declared.linking.Wanted.TheVariants.{SamplersOf, Sinks}
use Rattle.tdf_sim_refinement.specs.machine.Linking.{AreLinkedUpTo, IsLinkOf, counted_before, is_counted, is_sink, is_wanted, of_samplers}
use Rattle.tdf_streams.specs.Places.{actor_kind, kind_of_row}
use Rattle.tdf_bind_connections.specs.declared.modules.PortRow.{PortRow}

-- what a list with one thing more has
pub pushed : {A : Type 0} (xs : List A) (y : A) (j : ℕ) (x : A) → slice_get (xs ++ y ∷ []) j ≡ Some x → (slice_get xs j ≡ Some x) ⊎ ((j ≡ length xs) × (y ≡ x))
pushed xs y j x at = go (cases_lt j (length xs))
  where
    go : (j < length xs) ⊎ (length xs ≤ j) → (slice_get xs j ≡ Some x) ⊎ ((j ≡ length xs) × (y ≡ x))
    go (inl low) = inl (sym (get_low xs (y ∷ []) j low) ∙ at)
    go (inr high) =
        let a = length-append xs (y ∷ []) in let b = slice_get_within (xs ++ y ∷ []) j x at in
        let same : j ≡ length xs = omega (arith, a, b, high) in let none : j - length xs ≡ 0 = omega (arith, same) in
        inr (same, some_same y x (ap (slice_get (y ∷ [])) (sym none) ∙ sym (get_high xs (y ∷ []) j high) ∙ at))

module _ (tables : FlatTablesOf) (wanted : Wanted) (n : ℕ) (row : ActorRow) (at : slice_get tables.actors n ≡ Some row) where
  count_no : is_counted wanted row ≡ false → counted_before tables wanted (n + 1) ≡ counted_before tables wanted n
  unfolding counted_before
  count_no none = count_by_more_no (is_counted wanted) tables.actors n row (slice_get_within tables.actors n row at) (ap (is_counted wanted) (get_or_from_slice_get tables.actors n row row at) ∙ none)

  count_yes : is_counted wanted row ≡ true → counted_before tables wanted (n + 1) ≡ counted_before tables wanted n + 1
  unfolding counted_before
  count_yes one = count_by_more_yes (is_counted wanted) tables.actors n row (slice_get_within tables.actors n row at) (ap (is_counted wanted) (get_or_from_slice_get tables.actors n row row at) ∙ one)

  module _ (links : List Link) (are : AreLinkedUpTo tables wanted n links) where
    not_counted : (w : Wanted) → is_wanted w row ≡ false → is_counted w row ≡ false
    not_counted (SamplersOf cluster) none = none
    not_counted Sinks none = refl

    -- an actor that isn't wanted
    pub passed_over : is_wanted wanted row ≡ false → AreLinkedUpTo tables wanted (n + 1) links
    passed_over none = record {
      placed = are.placed;
      below = record { before = λ j l there. (let b = are.below.before j l there in omega (arith, b)) };
      signals = are.signals;
      of = are.of;
      each = are.each;
      all = λ m r less there is. before m r there is (cases_lt m n) less;
      counted = are.counted ∙ sym (count_no (not_counted wanted none));
    }
      where
        before : (m : ℕ) (r : ActorRow) → slice_get tables.actors m ≡ Some r → is_wanted wanted r ≡ true → (m < n) ⊎ (n ≤ m) → m < n + 1 → HasLink links m
        before m r there is (inl low) less = are.all m r low there is
        before m r there is (inr high) less =
            let same : n ≡ m = omega (arith, high, less) in
            false_true (sym none ∙ ap (is_wanted wanted) (some_same row r (sym at ∙ ap (slice_get tables.actors) same ∙ there)) ∙ is)

    module _ (signal : ℕ) (inside : signal < length tables.de_signals) (own : signal ≡ signal_of tables n) (is : is_wanted wanted row ≡ true) where
      abbrev next : Link
      next = record { actor = n; signal = signal; sampler = of_samplers wanted; place = samplers_in links }

      counts : (w : Wanted) → is_wanted w row ≡ true → is_counted w row ≡ of_samplers w
      counts (SamplersOf cluster) is = is
      counts Sinks is = refl

      count_next : (b : Bool) → is_counted wanted row ≡ b → counted_before tables wanted (n + 1) ≡ counted_before tables wanted n + cond {A = ℕ} b 1 0
      count_next true one = count_yes one
      count_next false none = let c = count_no none in omega (arith, c)

      link_is : IsLinkOf tables wanted next
      link_is = record { row = row; at = at; is = is; sampler = refl; place = are.counted }

      pub one_more : AreLinks (links ++ next ∷ []) (samplers_in (links ++ next ∷ [])) → AreLinkedUpTo tables wanted (n + 1) (links ++ next ∷ [])
      one_more placed = record {
        placed = placed;
        below = record { before = λ j l there. below j l (pushed links next j l there) };
        signals = record { inside = λ j l there. signals j l (pushed links next j l there) };
        of = λ j l there. of j l (pushed links next j l there);
        each = λ j l there. each j l (pushed links next j l there);
        all = λ m r less there is. all m r there is (cases_lt m n) less;
        counted = let s = sum_by_push (λ (x : Link). cond {A = ℕ} x.sampler 1 0) links next in let c = are.counted in let o = count_next (of_samplers wanted) (counts wanted is) in omega (arith, s, c, o);
      }
        where
          below : (j : ℕ) (l : Link) → (slice_get links j ≡ Some l) ⊎ ((j ≡ length links) × (next ≡ l)) → l.actor < n + 1
          below j l (inl low) = let b = are.below.before j l low in omega (arith, b)
          below j l (inr last) = subst (λ (x : Link). x.actor < n + 1) last.1 (omega arith)

          signals : (j : ℕ) (l : Link) → (slice_get links j ≡ Some l) ⊎ ((j ≡ length links) × (next ≡ l)) → l.signal < length tables.de_signals
          signals j l (inl low) = are.signals.inside j l low
          signals j l (inr last) = subst (λ (x : Link). x.signal < length tables.de_signals) last.1 inside

          of : (j : ℕ) (l : Link) → (slice_get links j ≡ Some l) ⊎ ((j ≡ length links) × (next ≡ l)) → l.signal ≡ signal_of tables l.actor
          of j l (inl low) = are.of j l low
          of j l (inr last) = subst (λ (x : Link). x.signal ≡ signal_of tables x.actor) last.1 own

          each : (j : ℕ) (l : Link) → (slice_get links j ≡ Some l) ⊎ ((j ≡ length links) × (next ≡ l)) → IsLinkOf tables wanted l
          each j l (inl low) = are.each j l low
          each j l (inr last) = subst (IsLinkOf tables wanted) last.1 link_is

          all : (m : ℕ) (r : ActorRow) → slice_get tables.actors m ≡ Some r → is_wanted wanted r ≡ true → (m < n) ⊎ (n ≤ m) → m < n + 1 → HasLink (links ++ next ∷ []) m
          all m r there is (inl low) less =
              let h : HasLink links m = are.all m r low there is in
              record { place = h.place; link = h.link; at = get_low links (next ∷ []) h.place (slice_get_within links h.place h.link h.at) ∙ h.at; of = h.of }
          all m r there is (inr high) less =
              let none : length links - length links ≡ 0 = omega arith in
              record { place = length links; link = next; at = get_high links (next ∷ []) (length links) (omega arith) ∙ ap (slice_get (next ∷ [])) none; of = omega (arith, high, less) }

      abbrev link_by : ℕ → Bool → Link
      link_by k b = record { actor = k; signal = signal; sampler = b; place = samplers_in links }

      -- the link was added
      pub added : {T E : Type 0} (r : Result T E) (number : ℕ) (sampler : Bool) (now : List Link) → number ≡ n → sampler ≡ of_samplers wanted
          → OnOk r (now ≡ links ++ record { actor = number; signal = signal; sampler = sampler; place = samplers_in links } ∷ []) → OnOk r (AreLinks now (samplers_in now))
          → OnOk r (AreLinkedUpTo tables wanted (n + 1) now)
      added (Err e) number sampler now same of are placed = tt
      added (Ok x) number sampler now same of are placed =
          let is_next : now ≡ links ++ next ∷ [] = are ∙ ap (λ k. links ++ link_by k sampler ∷ []) same ∙ ap (λ b. links ++ link_by n b ∷ []) of in
          subst (AreLinkedUpTo tables wanted (n + 1)) (sym is_next) (one_more (subst (λ (l : List Link). AreLinks l (samplers_in l)) is_next placed))

-- an actor whose link is wanted has a port
pub wanted_converts : (wanted : Wanted) (row : ActorRow) → is_wanted wanted row ≡ true → is_converter row.kind ≡ true
wanted_converts (SamplersOf cluster) row h = by_kind row.kind h
  where
    by_kind : (kind : Actor) → (is_sampler kind && nat_eq row.cluster cluster) ≡ true → is_converter kind ≡ true
    by_kind actor.Module h = false_true h
    by_kind actor.Sampler h = refl
    by_kind actor.Sink h = refl
wanted_converts Sinks row h = by_kind row.kind h
  where
    by_kind : (kind : Actor) → is_sink kind ≡ true → is_converter kind ≡ true
    by_kind actor.Module h = false_true h
    by_kind actor.Sampler h = refl
    by_kind actor.Sink h = refl

-- a row that was read
pub row_read : {X : Type 0} (xs ys : List X) (n : ℕ) (x : X) → xs ≡ ys → n < length ys → x ≡ get_or xs n x → slice_get ys n ≡ Some x
row_read xs ys n x same inside read = subst (λ l. slice_get l n ≡ Some x) same (slice_get_read xs (length xs) n x refl (let l = ap length same in omega (arith, inside, l)) read)

-- there are none before the first actor
pub none_yet : (tables : FlatTablesOf) (wanted : Wanted) → AreLinkedUpTo tables wanted 0 []
unfolding counted_before
none_yet tables wanted = record {
  placed = record { order = record { rising = λ i j k l less first second. absurd cc }; placed = λ j l at. absurd cc; count = refl };
  below = record { before = λ j l at. absurd cc };
  signals = record { inside = λ j l at. absurd cc };
  of = λ j l at. absurd cc;
  each = λ j l at. absurd cc;
  all = λ m r less there is. absurd (omega (arith, less));
  counted = refl;
}

-- the row of an actor of a kind
pub actor_row : (tables : FlatTablesOf) (m : ℕ) (kind : Actor) → actor_kind tables m ≡ Some kind → (row : ActorRow) × (slice_get tables.actors m ≡ Some row) × (row.kind ≡ kind)
actor_row tables m kind is = go (slice_get tables.actors m) refl is
  where
    go : (o : Option ActorRow) → slice_get tables.actors m ≡ o → kind_of_row o ≡ Some kind → (row : ActorRow) × (slice_get tables.actors m ≡ Some row) × (row.kind ≡ kind)
    go None at h = none_some kind h
    go (Some row) at h = (row, at, some_same row.kind kind h)

both : (a b : Bool) → (a && b) ≡ true → (a ≡ true) × (b ≡ true)
both true b h = (refl, h)
both false b h = false_true h

sampler_kind : (kind : Actor) → is_sampler kind ≡ true → kind ≡ actor.Sampler
sampler_kind actor.Module h = false_true h
sampler_kind actor.Sampler h = refl
sampler_kind actor.Sink h = false_true h

-- those of the samplers of a cluster
pub sampler_links_are : (tables : FlatTablesOf) (cluster : ℕ) (links : List Link) → AreLinkedUpTo tables (SamplersOf cluster) (length tables.actors) links → AreSamplerLinks tables cluster links
unfolding counted_before own_samplers
sampler_links_are tables cluster links are = record {
  placed = are.placed;
  signals = are.signals;
  of = are.of;
  each = λ j l at. (actor_is (are.each j l at), (are.each j l at).sampler);
  all = all;
  places = λ j l at. (are.each j l at).place;
  many = are.counted;
}
  where
    actor_is : {l : Link} → IsLinkOf tables (SamplersOf cluster) l → IsActorOf tables cluster l.actor actor.Sampler
    actor_is {l} h = let b = both (is_sampler h.row.kind) (nat_eq h.row.cluster cluster) h.is in record {
      kind_is = ap kind_of_row h.at ∙ ap Some (sampler_kind h.row.kind b.0);
      inside = index_map cluster_of tables.actors l.actor h.row h.at ∙ (let e = b.1 in grind (arith, nat_tests, e));
    }

    all : (m : ℕ) → IsActorOf tables cluster m actor.Sampler → HasLink links m
    all m h =
        let row = actor_row tables m actor.Sampler h.kind_is in
        let own : row.0.cluster ≡ cluster = sym (index_map cluster_of tables.actors m row.0 row.1) ∙ h.inside in
        are.all m row.0 (slice_get_within tables.actors m row.0 row.1) row.1 (ap (λ k. is_sampler k && nat_eq row.0.cluster cluster) row.2 ∙ eq-eqb row.0.cluster cluster own)

sink_kind : (kind : Actor) → is_sink kind ≡ true → kind ≡ actor.Sink
sink_kind actor.Module h = false_true h
sink_kind actor.Sampler h = false_true h
sink_kind actor.Sink h = refl

-- no sampler is among the sinks
none_counted : (rows : List ActorRow) → count_by (is_counted Sinks) rows ≡ 0
none_counted [] = refl
none_counted (row ∷ rows) =
    let s = sum_by-cons (λ r. cond {A = ℕ} (is_counted Sinks r) 1 0) row rows in
    let z : cond {A = ℕ} (is_counted Sinks row) 1 0 ≡ 0 = refl in
    let n = none_counted rows in omega (arith, s, z, n)

-- and those of all sinks
pub sink_links_are : (tables : FlatTablesOf) (links : List Link) → AreLinkedUpTo tables Sinks (length tables.actors) links → AreSinkLinks tables links
unfolding counted_before
sink_links_are tables links are = record {
  order = are.placed.order;
  places = λ j l at. (are.each j l at).place ∙ none_counted (take l.actor tables.actors);
  signals = are.signals;
  of = are.of;
  each = each;
  all = all;
}
  where
    each : (j : ℕ) (l : Link) → slice_get links j ≡ Some l → (actor_kind tables l.actor ≡ Some actor.Sink) × (l.sampler ≡ false)
    each j l at = let h : IsLinkOf tables Sinks l = are.each j l at in (ap kind_of_row h.at ∙ ap Some (sink_kind h.row.kind h.is), h.sampler)

    all : (m : ℕ) → actor_kind tables m ≡ Some actor.Sink → HasLink links m
    all m h = let row = actor_row tables m actor.Sink h in are.all m row.0 (slice_get_within tables.actors m row.0 row.1) row.1 (ap is_sink row.2)

-- the port of an actor that was read is its own
pub port_read : (tables : FlatTablesOf) (row : ActorRow) (port : PortRow) → slice_get tables.ports row.port ≡ Some port → HasEventPort tables row → port.signal < length tables.de_signals
port_read tables row port there h = subst (λ (p : PortRow). p.signal < length tables.de_signals) (some_same h.port port (sym h.at ∙ there)) h.inside
