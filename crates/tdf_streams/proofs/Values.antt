-- From a start on, sound periods can be played out one after the other: so each activation has a value.
use Rattle.std.proofs.Common.{◌≡◌, ℕ, zero, suc, ◌+◌, ◌*◌, ◌<◌, ◌≤◌, false, Some, List, [], ◌∷◌, ◌++◌, length, length-set, append_assoc, map, set, slice_get, slice_index, slice_index_or, refl, ap, sym, ◌∙◌, subst, inl, inr, arith}
use Rattle.std.specs.List.{All, range_with_len, sum, sum_by}
use Rattle.std.proofs.lemmas.Bool.{cases_eq}
use Rattle.std.proofs.lemmas.List.{get_or-set_same, get_or-set_other}
use Rattle.std.proofs.lemmas.List.FromFn.{get_or-map-range_with_len, length-map-range_with_len, length-range_with_len}
use Rattle.std.proofs.lemmas.List.Sums.{sum_by-append, sum_by-cons, sum_by_push}
use Rattle.std.proofs.lemmas.Option.{slice_get-get_or}
use Rattle.tdf_streams.specs.Net.{Net, Period, Turn, count, taken, written}
use Rattle.tdf_streams.specs.Streams.{known}
use Rattle.tdf_streams.specs.Stands.{AreActive, Changed, HasValues, Installed, IsStart, Play, Stands, run_of}
use Rattle.tdf_streams.specs.Firing.{Flows, IsNextTurn, IsPresent}
use Rattle.tdf_streams.specs.Grounds.{AreGiven, AreSound, AreSoundTo, IsSound, firings}
use Rattle.tdf_streams.proofs.Boundary.{change_crosses, install_stands}
use Rattle.tdf_streams.proofs.Fired.{fired_flows, fired_with, next_turn}
use Rattle.tdf_streams.proofs.Firing.{firing_keeps}
use Rattle.tdf_streams.proofs.Lacks.{CanFire, IsAt, some_can_fire}
use Rattle.tdf_streams.proofs.Lists.{get_inside, get_made, get_made_at, index_inside, zeros, zeros_at, zeros_long}
use Rattle.tdf_streams.proofs.FlowStarts.{start_stands}
use Rattle.tdf_streams.proofs.Sums.{all_same, grown_sum, some_less, zeros_sum}

module _ {S V I : Type 0} (net : Net S V I) where
  -- what a firing leaves
  fired : Period I → ℕ → Turn S V → Play S V → Play S V
  fired p m t y = fired_with net p m t y (set y.turns m (slice_index y.turns m + 1))

module _ {S V I : Type 0} (net : Net S V I) (actors : ℕ) (delay : ℕ → ℕ) (reads : ℕ → List V) where
  -- a play that goes on
  pub record IsOn (old : List (Period I)) (p : Period I) (f : ℕ) (y : Play S V) : Type 0 where
    pub stands : Stands net old p reads f y
    pub turns_long : length y.turns ≡ actors
    pub states_long : length y.states ≡ actors
    pub within : (m : ℕ) → slice_index y.turns m ≤ slice_index p.counts m

  -- what the lists hold at the head of a period and what was begun of it, against whole periods
  pub IsBack : List (Period I) → Period I → (ℕ → ℕ) → Type 0
  IsBack old p begun = (e : ℕ) → e < net.edges → net.delay e + sum_by (written net e) old + begun (net.reader e) * slice_index p.reads e
      ≡ delay e + sum_by (taken net e) old + begun (net.writer e) * slice_index p.writes e

  step_on : (old : List (Period I)) (p : Period I) (f m : ℕ) (t : Turn S V) (y : Play S V) → IsOn old p f y → m < actors → slice_index y.turns m < slice_index p.counts m
      → IsPresent net p m y → IsNextTurn net old p reads m y t → IsOn old p (suc f) (fired net p m t y)
  unfolding fired fired_with
  step_on old p f m t y on inside left present next = record {
    stands = firing_keeps net old p reads f m t y (fired net p m t y) on.stands left present next flows;
    turns_long = length-set y.turns m (slice_index y.turns m + 1) ∙ on.turns_long;
    states_long = length-set y.states m t.state ∙ on.states_long;
    within = λ k. elim (cases_eq k m) [
      | inl same ↦ (let n = flows.turn in subst (λ q. slice_index (set y.turns m (slice_index y.turns m + 1)) q ≤ slice_index p.counts q) (sym same) (omega (arith, n, left)))
      | inr apart ↦ (let n = flows.other_turns k apart in let w = on.within k in omega (arith, n, w))
    ];
  }
    where
      flows : Flows net p m t y (fired net p m t y)
      flows = fired_flows net p m t y (set y.turns m (slice_index y.turns m + 1)) (get_or-set_same y.turns m (slice_index y.turns m + 1) 0 (let l = on.turns_long in omega (arith, l, inside)))
          (λ k apart. get_or-set_other y.turns m k (slice_index y.turns m + 1) 0 apart) (λ plain. (let l = on.states_long in omega (arith, l, inside)))

  module _ (old : List (Period I)) (p : Period I) (begun : ℕ → ℕ) (sound : IsSound net actors delay begun p) (back : IsBack old p begun)
      (are_given : AreGiven net reads (old ++ p ∷ [])) where
    now_at : (f : ℕ) (y : Play S V) → IsOn old p f y
        → IsAt net delay p (λ m. begun m + count m p) (λ m. begun m + slice_index y.turns m) (λ e. length (slice_index_or y.lists e []))
    unfolding IsBack
    now_at f y on = record {
      positive = sound.positive;
      balanced = sound.balanced;
      counts = λ e inside. (let c = (on.stands.lists e inside).count in let b = back e inside in
          let r : (begun (net.reader e) + slice_index y.turns (net.reader e)) * slice_index p.reads e ≡ begun (net.reader e) * slice_index p.reads e + slice_index y.turns (net.reader e) * slice_index p.reads e = grind arith in
          let w : (begun (net.writer e) + slice_index y.turns (net.writer e)) * slice_index p.writes e ≡ begun (net.writer e) * slice_index p.writes e + slice_index y.turns (net.writer e) * slice_index p.writes e = grind arith in
          omega (arith, c, b, r, w));
    }

    some_step : (f : ℕ) (y : Play S V) → IsOn old p f y → sum y.turns < sum p.counts
        → CanFire net delay p (λ m. begun m + count m p) (λ m. begun m + slice_index y.turns m) (λ e. length (slice_index_or y.lists e []))
    some_step f y on less =
        let here = some_less y.turns p.counts (on.turns_long ∙ sym sound.actors_are) less in
        let low : begun here.at + slice_index y.turns here.at < begun here.at + slice_index p.counts here.at = (let l = here.less in omega (arith, l)) in
        let ends = sound.grounded here.at (begun here.at + slice_index y.turns here.at) low in
        some_can_fire net delay p (λ m. begun m + count m p) (λ m. begun m + slice_index y.turns m) (λ e. length (slice_index_or y.lists e [])) (now_at f y on)
        ends.0 here.at (begun here.at + slice_index y.turns here.at) ends.1 (omega arith) low

    pub play_out : (k f : ℕ) (y : Play S V) → IsOn old p f y → sum y.turns + k ≡ sum p.counts
        → (z : Play S V) × IsOn old p (k + f) z × ((m : ℕ) → slice_index z.turns m ≡ slice_index p.counts m)
    unfolding fired fired_with
    play_out zero f y on same = (
      y,
      subst (λ (n : ℕ). IsOn old p n y) (let e : f ≡ 0 + f = omega arith in e) on,
      all_same y.turns p.counts (on.turns_long ∙ sym sound.actors_are) on.within (let e : sum y.turns ≡ sum p.counts = omega (arith, same) in e),
    )
    play_out (suc k) f y on same =
        let can = some_step f y on (omega (arith, same)) in
        let m = can.actor in
        let left : slice_index y.turns can.actor < slice_index p.counts can.actor = (let l = can.left in omega (arith, l)) in
        let inside : can.actor < actors = (let i = index_inside p.counts can.actor (slice_index y.turns can.actor) left in let a = sound.actors_are in omega (arith, i, a)) in
        let t = next_turn net old p reads can.actor y are_given (λ plain. get_inside y.states can.actor (let l = on.states_long in omega (arith, l, inside))) left in
        let on_then = step_on old p f can.actor t.0 y on inside left can.present t.1 in
        let grown = grown_sum y.turns can.actor (let l = on.turns_long in omega (arith, l, inside)) in
        let rest = play_out k (suc f) (fired net p can.actor t.0 y) on_then (omega (arith, grown, same)) in
        let e : k + suc f ≡ suc k + f = omega arith in
        (rest.0, subst (λ (n : ℕ). IsOn old p n rest.0) e rest.1, rest.2)

  -- the play at a start
  start_play : Play S V
  start_play = record {
    turns = zeros (range_with_len 0 actors);
    states = map net.start (range_with_len 0 actors);
    lists = map (λ (e : ℕ). map (net.initial e) (range_with_len 0 (net.delay e))) (range_with_len 0 net.edges);
  }

  zeros_are : length (zeros (range_with_len 0 actors)) ≡ actors
  zeros_are = zeros_long (range_with_len 0 actors) ∙ length-range_with_len 0 actors

  is_start : IsStart net start_play
  unfolding start_play
  is_start = record {
    turns = λ m. zeros_at (range_with_len 0 actors) m;
    states = λ m x at plain. (let made = get_made net.start 0 actors m x at in let z : 0 + m ≡ m = omega arith in sym made.1 ∙ ap net.start z);
    long = λ e inside. ap length (list_is e inside) ∙ length-map-range_with_len (net.initial e) 0 (net.delay e);
    items = λ e j x inside at. (let made = get_made (net.initial e) 0 (net.delay e) j x (ap (λ (xs : List V). slice_get xs j) (sym (list_is e inside)) ∙ at) in let z : 0 + j ≡ j = omega arith in
        sym made.1 ∙ ap (net.initial e) z);
  }
    where
      list_is : (e : ℕ) → e < net.edges → slice_index_or (map (λ (k : ℕ). map (net.initial k) (range_with_len 0 (net.delay k))) (range_with_len 0 net.edges)) e [] ≡ map (net.initial e) (range_with_len 0 (net.delay e))
      list_is e inside = get_or-map-range_with_len (λ (k : ℕ). map (net.initial k) (range_with_len 0 (net.delay k))) 0 net.edges e e [] inside (omega arith)

  starts : (p : Period I) → IsOn [] p 0 start_play
  unfolding start_play
  starts p = record {
    stands = start_stands net p reads start_play is_start;
    turns_long = zeros_are;
    states_long = length-map-range_with_len net.start 0 actors;
    within = λ m. (let t = zeros_at (range_with_len 0 actors) m in omega (arith, t));
  }

  module _ (old : List (Period I)) (p next : Period I) (f : ℕ) (y : Play S V) (on : IsOn old p f y) (ended : (m : ℕ) → slice_index y.turns m ≡ slice_index p.counts m)
      (active : (m : ℕ) → m < actors → net.is_sampler m ≡ false → slice_index p.counts m ≡ 0 → old ≡ []) where
    changed_state : ℕ → S
    changed_state m = net.change m (old ++ p ∷ []) (slice_index_or y.states m (net.start m))

    next_state : ℕ → S
    next_state m = net.reinitialize m next (net.change m (old ++ p ∷ []) (slice_index_or y.states m (net.start m)))

    mid : Play S V
    mid = record { turns = y.turns; states = map changed_state (range_with_len 0 actors); lists = y.lists }

    pub next_play : Play S V
    next_play = record { turns = zeros (range_with_len 0 actors); states = map next_state (range_with_len 0 actors); lists = y.lists }

    changes : Changed net old p y mid
    unfolding mid changed_state
    changes = record {
      turns = refl;
      lists = refl;
      states = λ m x at plain. (let made = get_made (λ (k : ℕ). net.change k (old ++ p ∷ []) (slice_index_or y.states k (net.start k))) 0 actors m x at in let z : 0 + m ≡ m = omega arith in (
        slice_index_or y.states m (net.start m),
        slice_get-get_or y.states m (net.start m) (let i = made.0 in let l = on.states_long in omega (arith, i, l)),
        sym made.1 ∙ ap (λ k. net.change k (old ++ p ∷ []) (slice_index_or y.states k (net.start k))) z,
      ));
    }

    installs : Installed net next mid next_play
    unfolding mid changed_state next_play next_state
    installs = record {
      turns = λ m. zeros_at (range_with_len 0 actors) m;
      lists = refl;
      states = λ m x at plain. (let made = get_made (λ (k : ℕ). net.reinitialize k next (net.change k (old ++ p ∷ []) (slice_index_or y.states k (net.start k)))) 0 actors m x at in let z : 0 + m ≡ m = omega arith in (
        net.change m (old ++ p ∷ []) (slice_index_or y.states m (net.start m)),
        get_made_at (λ (k : ℕ). net.change k (old ++ p ∷ []) (slice_index_or y.states k (net.start k))) 0 actors m made.0 ∙ ap (λ k. Some (net.change k (old ++ p ∷ []) (slice_index_or y.states k (net.start k)))) z,
        sym made.1 ∙ ap (λ k. net.reinitialize k next (net.change k (old ++ p ∷ []) (slice_index_or y.states k (net.start k)))) z,
      ));
    }

    are_active : AreActive net old p mid
    unfolding mid changed_state
    are_active m x at plain none = active m (get_made (λ (k : ℕ). net.change k (old ++ p ∷ []) (slice_index_or y.states k (net.start k))) 0 actors m x at).0 plain none

    pub no_turns : {c : ℕ} → sum next_play.turns + c ≡ c
    unfolding next_play
    no_turns {c} = let z = zeros_sum (range_with_len 0 actors) in omega (arith, z)

    pub enters : IsOn (old ++ p ∷ []) next f next_play
    unfolding next_play next_state
    enters = record {
      stands = install_stands net old p next reads f mid next_play are_active (change_crosses net old p reads f y mid ended on.stands changes) installs;
      turns_long = zeros_are;
      states_long = length-map-range_with_len (λ (m : ℕ). net.reinitialize m next (net.change m (old ++ p ∷ []) (slice_index_or y.states m (net.start m)))) 0 actors;
      within = λ m. (let t = zeros_at (range_with_len 0 actors) m in omega (arith, t));
    }

  start_sum : {c : ℕ} → sum start_play.turns + c ≡ c
  unfolding start_play
  start_sum {c} = let z = zeros_sum (range_with_len 0 actors) in omega (arith, z)

  -- after a sound period each list holds what it holds at the head of a whole one
  IsWhole : List (Period I) → Type 0
  IsWhole periods = (e : ℕ) → e < net.edges → net.delay e + sum_by (written net e) periods ≡ delay e + sum_by (taken net e) periods

  is_whole : (old : List (Period I)) (p : Period I) (begun : ℕ → ℕ) → IsSound net actors delay begun p → IsBack old p begun → IsWhole (old ++ p ∷ [])
  unfolding IsBack IsWhole
  is_whole old p begun sound back e inside =
      let b = back e inside in let s = sound.balanced e inside in
      let w = sum_by_push (written net e) old p in let t = sum_by_push (taken net e) old p in
      let left : (begun (net.writer e) + slice_index p.counts (net.writer e)) * slice_index p.writes e
      ≡ begun (net.writer e) * slice_index p.writes e + slice_index p.counts (net.writer e) * slice_index p.writes e = grind arith in
      let right : (begun (net.reader e) + slice_index p.counts (net.reader e)) * slice_index p.reads e
      ≡ begun (net.reader e) * slice_index p.reads e + slice_index p.counts (net.reader e) * slice_index p.reads e = grind arith in
      omega (arith, b, s, w, t, left, right)

  is_back : (old : List (Period I)) (p next : Period I) → IsWhole (old ++ p ∷ []) → IsBack (old ++ p ∷ []) next (λ m. 0)
  unfolding IsBack IsWhole
  is_back old p next whole e inside = let h = whole e inside in omega (arith, h)

  abbrev pub ValuesOf : List (Period I) → Type 0
  ValuesOf periods = HasValues net (record { periods = periods; reads = reads }) (firings periods) (λ m. sum_by (count m) periods)

  through : (later old : List (Period I)) (p : Period I) (f : ℕ) (y : Play S V) → IsOn old p f y → ((m : ℕ) → slice_index y.turns m ≡ slice_index p.counts m)
      → IsWhole (old ++ p ∷ []) → f ≡ firings (old ++ p ∷ []) → ((m : ℕ) → m < actors → net.is_sampler m ≡ false → slice_index p.counts m ≡ 0 → old ≡ [])
      → All (IsSound net actors delay (λ m. 0)) later → AreGiven net reads (old ++ p ∷ later) → ValuesOf (old ++ p ∷ later)
  through [] old p f y on ended whole steps active sound are_given = λ m n below.
      (let s = sum_by_push (count m) old p in let e = ended m in let v = on.stands.has_values m n (omega (arith, below, s, e)) in
      (v.0, subst (λ k. known net (run_of old p reads) k m n ≡ Some v.0) steps v.1))
  through (q ∷ rest) old p f y on ended whole steps active sound are_given =
      subst (λ ps. ValuesOf ps) one_list (through rest (old ++ p ∷ []) q (sum q.counts + f) played.0 played.1 played.2
      (is_whole (old ++ p ∷ []) q (λ m. 0) head back) (let s = sum_by_push (λ (r : Period I). sum r.counts) (old ++ p ∷ []) q in omega (arith, s, steps))
      (λ m inside plain none. absurd (let a = head.active m inside plain in omega (arith, a, none))) (λ k d below. sound (suc k) d (omega (arith, below))) all_given)
    where
      one_list : (old ++ p ∷ []) ++ q ∷ rest ≡ old ++ p ∷ q ∷ rest
      one_list = append_assoc old (p ∷ []) (q ∷ rest)

      head : IsSound net actors delay (λ m. 0) q
      head = sound 0 q (omega arith)

      back : IsBack (old ++ p ∷ []) q (λ m. 0)
      back = is_back old p q whole

      all_given : AreGiven net reads ((old ++ p ∷ []) ++ q ∷ rest)
      all_given = subst (λ ps. AreGiven net reads ps) (sym one_list) are_given

      now_given : AreGiven net reads ((old ++ p ∷ []) ++ q ∷ [])
      now_given m n is below = let a = sum_by-append (count m) (old ++ p ∷ []) (q ∷ rest) in let b = sum_by-cons (count m) q rest in let c = sum_by_push (count m) (old ++ p ∷ []) q in
          all_given m n is (omega (arith, below, a, b, c))

      played : (z : Play S V) × IsOn (old ++ p ∷ []) q (sum q.counts + f) z × ((m : ℕ) → slice_index z.turns m ≡ slice_index q.counts m)
      played = play_out (old ++ p ∷ []) q (λ m. 0) head back now_given (sum q.counts) f (next_play old p q f y on ended active) (enters old p q f y on ended active)
          (no_turns old p q f y on ended active)

  pub all_are_known : (begun : ℕ → ℕ) (first : Period I) (later : List (Period I)) → AreSound net actors delay begun first later → AreGiven net reads (first ∷ later) → ValuesOf (first ∷ later)
  unfolding IsBack
  all_are_known begun first later sound are_given = through later [] first (sum first.counts + 0) played.0 played.1 played.2
      (is_whole [] first begun sound.head back) (let s = sum_by-cons (λ (r : Period I). sum r.counts) first [] in omega (arith, s)) (λ m inside plain none. refl) sound.rest are_given
    where
      back : (e : ℕ) → e < net.edges → net.delay e + sum_by (written net e) [] + begun (net.reader e) * slice_index first.reads e ≡ delay e + sum_by (taken net e) [] + begun (net.writer e) * slice_index first.writes e
      back e inside = let h = sound.lists e inside in omega (arith, h)

      first_given : AreGiven net reads ([] ++ first ∷ [])
      first_given m n is below = let a = sum_by-cons (count m) first later in let b = sum_by-cons (count m) first [] in are_given m n is (omega (arith, below, a, b))

      played : (z : Play S V) × IsOn [] first (sum first.counts + 0) z × ((m : ℕ) → slice_index z.turns m ≡ slice_index first.counts m)
      played = play_out [] first begun sound.head back first_given (sum first.counts) 0 start_play (starts first) start_sum

  whole_after : (later old : List (Period I)) (p : Period I) → IsWhole (old ++ p ∷ []) → All (IsSound net actors delay (λ m. 0)) later → IsWhole (old ++ p ∷ later)
  whole_after [] old p whole sound = whole
  whole_after (q ∷ rest) old p whole sound = subst (λ ps. IsWhole ps) (append_assoc old (p ∷ []) (q ∷ rest))
      (whole_after rest (old ++ p ∷ []) q (is_whole (old ++ p ∷ []) q (λ m. 0) (sound 0 q (omega arith)) (is_back old p q whole)) (λ k d below. sound (suc k) d (omega (arith, below))))

  whole_head : (begun : ℕ → ℕ) (first : Period I) (later : List (Period I)) → AreSound net actors delay begun first later → IsWhole ([] ++ first ∷ [])
  unfolding IsBack
  whole_head begun first later sound = is_whole [] first begun sound.head (λ e inside. (let h = sound.lists e inside in omega (arith, h)))

  -- what all edges hold together after sound periods
  pub whole_past : (begun : ℕ → ℕ) (first : Period I) (later : List (Period I)) → AreSound net actors delay begun first later
      → (e : ℕ) → e < net.edges → net.delay e + sum_by (written net e) (first ∷ later) ≡ delay e + sum_by (taken net e) (first ∷ later)
  unfolding IsWhole
  whole_past begun first later sound = whole_after later [] first (whole_head begun first later sound) sound.rest

  -- at the head of the period after them
  pub lists_begin_whole : (begun : ℕ → ℕ) (first : Period I) (later : List (Period I)) (p : Period I) (f : ℕ) (y : Play S V) → AreSound net actors delay begun first later
      → Stands net (first ∷ later) p reads f y → ((m : ℕ) → slice_index y.turns m ≡ 0) → (e : ℕ) → e < net.edges → length (slice_index_or y.lists e []) ≡ delay e
  lists_begin_whole begun first later p f y sound stands none e inside =
      let h = whole_past begun first later sound e inside in let c = (stands.lists e inside).count in
      let r : slice_index y.turns (net.reader e) * slice_index p.reads e ≡ 0 = rw (none (net.reader e)) (omega arith) in
      let w : slice_index y.turns (net.writer e) * slice_index p.writes e ≡ 0 = rw (none (net.writer e)) (omega arith) in
      omega (arith, h, c, r, w)

  whole_to : (begun : ℕ → ℕ) (old : List (Period I)) (p : Period I) → AreSoundTo net actors delay begun old p → IsWhole (old ++ p ∷ [])
  whole_to begun [] p sound = whole_head begun p [] sound
  whole_to begun (first ∷ later) p sound = whole_after (later ++ p ∷ []) [] first (whole_head begun first (later ++ p ∷ []) sound) sound.rest

  pub lists_end_whole : (begun : ℕ → ℕ) (old : List (Period I)) (p : Period I) (f : ℕ) (y : Play S V) → AreSoundTo net actors delay begun old p → Stands net old p reads f y
      → ((m : ℕ) → slice_index y.turns m ≡ slice_index p.counts m) → (e : ℕ) → e < net.edges → length (slice_index_or y.lists e []) ≡ delay e
  unfolding IsWhole
  lists_end_whole begun old p f y sound stands ended e inside =
      let h = whole_to begun old p sound e inside in let c = (stands.lists e inside).count in
      let w = sum_by_push (written net e) old p in let t = sum_by_push (taken net e) old p in
      let r = ap (λ k. k * slice_index p.reads e) (ended (net.reader e)) in let v = ap (λ k. k * slice_index p.writes e) (ended (net.writer e)) in
      omega (arith, h, c, w, t, r, v)
