-- What is known of the next firings, as keys come.
use Rattle.std.proofs.Common.{◌≡◌, ◌∙◌, ℕ, ◌<◌, ◌≤◌, inl, inr, Some, List, [], ◌∷◌, ◌++◌, length, length-set, get_or-set_other, replicate, set, refl, sym, ap, subst, arith}
use Rattle.std.proofs.Math.ListN.{get_or}
use Rattle.std.proofs.lemmas.Bool.{cases_eq}
use Rattle.std.proofs.lemmas.Grind.{get_or-set_at}
use Rattle.std.proofs.lemmas.List.{get_or-replicate, length-replicate, length_push}
use Rattle.std.proofs.lemmas.List.Sums.{sum_by-set}
use Rattle.std.specs.Prelude.{slice_get}
use Rattle.tdf_graph.specs.declared.actors.Edge.{Edge}
use Rattle.std.proofs.lemmas.Option.{slice_get-get_or}
use Rattle.tdf_schedule.proofs.Keys.{some_same}
use Rattle.tdf_schedule.proofs.Linked.{in_front, row_here, row_other}
use Rattle.tdf_schedule.specs.declared.join.Part.{Part}
use Rattle.tdf_schedule.specs.declared.key.Key.{Key}
use Rattle.tdf_schedule.specs.views.Parts.{AreParts, IsPart, no_part, part_at}
use Rattle.tdf_schedule.specs.views.Table.{IsJoined, row_at, total}
use Rattle.tdf_schedule.specs.views.Work.{links_at, with_key}

-- what a list has at a place does not hang on what stands for none
pub any_default : (parts : List Part) (m : ℕ) (a b : Part) → m < length parts → get_or parts m a ≡ get_or parts m b
any_default parts m a b inside = some_same (sym (slice_get-get_or parts m a inside) ∙ slice_get-get_or parts m b inside)

-- nothing is known of an actor whose edges weren't asked
pub nothing_known : (edges : List Edge) (pace : ℕ → ℕ) (table : List (List Key)) (m : ℕ) (inputs : List ℕ) (part : Part) → part.asked ≡ 0 → IsPart edges pace table m inputs part
nothing_known edges pace table m inputs part none some = absurd (omega (arith, none, some))

pub parts_start : (edges : List Edge) (pace : ℕ → ℕ) (counts : List ℕ) (table : List (List Key)) (lists : List (List ℕ)) (parts : List Part) → parts ≡ replicate (length counts) no_part → AreParts edges pace counts table lists parts
parts_start edges pace counts table lists parts are = record {
  long = ap length are ∙ length-replicate (length counts) no_part;
  each = λ m inside. nothing_known edges pace table m (links_at lists m) (part_at parts m) (ap (λ l. (part_at l m).asked) are ∙ ap (λ (p : Part). p.asked) (get_or-replicate (length counts) m no_part no_part inside));
}

module _ (edges : List Edge) (pace : ℕ → ℕ) (counts : List ℕ) (lists : List (List ℕ)) where
  -- another thing is known of one actor
  pub part_set : (table : List (List Key)) (parts : List Part) (m : ℕ) (part : Part) → m < length counts → AreParts edges pace counts table lists parts → IsPart edges pace table m (links_at lists m) part → AreParts edges pace counts table lists (set parts m part)
  part_set table parts m part m_in are here = record {
    long = length-set parts m part ∙ are.long;
    each = λ k k_in. (elim (cases_eq k m) [
      | inl same ↦ subst (λ n. IsPart edges pace table n (links_at lists n) (part_at (set parts m part) n)) (sym same)
          (subst (λ p. IsPart edges pace table m (links_at lists m) p) (sym (get_or-set_at parts m m part no_part refl (subst (λ n. m < n) (sym are.long) m_in))) here)
      | inr apart ↦ subst (λ p. IsPart edges pace table k (links_at lists k) p) (sym (get_or-set_other parts m k part no_part apart)) (are.each k k_in)
    ]);
  }

  -- what is known of one actor, as the code reads it
  pub part_read : (table : List (List Key)) (parts : List Part) (m : ℕ) (into : List ℕ) (part : Part) → m < length counts → AreParts edges pace counts table lists parts → into ≡ links_at lists m → part ≡ get_or parts m part → IsPart edges pace table m into part
  part_read table parts m into part m_in are into_is part_is =
      let is : part ≡ part_at parts m = part_is ∙ any_default parts m part no_part (subst (λ n. m < n) (sym are.long) m_in) in
      subst (IsPart edges pace table m into) (sym is) (subst (λ (l : List ℕ). IsPart edges pace table m l (part_at parts m)) (sym into_is) (are.each m m_in))

  -- a firing got its key: what is known of the others stays
  module _ (table : List (List Key)) (m : ℕ) (key : Key) (m_row : m < length table) where
    abbrev next : List (List Key)
    next = with_key table m key

    grows : total table ≤ total next
    grows =
        let s = sum_by-set {X = List Key} length table m (row_at table m ++ key ∷ []) [] m_row in
        let l = length_push (row_at table m) key in omega (arith, s, l)

    here_row : row_at next m ≡ row_at table m ++ key ∷ []
    here_row = row_here table m (row_at table m ++ key ∷ []) m_row

    other_row : (k : ℕ) → (k ≡ m → ⊥) → row_at next k ≡ row_at table k
    other_row k apart = row_other table m k (row_at table m ++ key ∷ []) apart

    still_there : (n b : ℕ) (k : Key) → slice_get (row_at table n) b ≡ Some k → slice_get (row_at next n) b ≡ Some k
    still_there n b k at = elim (cases_eq n m) [
      | inr apart ↦ ap (λ (l : List Key). slice_get l b) (other_row n apart) ∙ at
      | inl same ↦ ap (λ i. slice_get (row_at next i) b) same ∙ ap (λ (l : List Key). slice_get l b) here_row ∙ in_front (row_at table m) (key ∷ []) b k (sym (ap (λ i. slice_get (row_at table i) b) same) ∙ at)
    ]

    joined_still : (k : ℕ) (inputs : List ℕ) (i : ℕ) (r : Key) → (k ≡ m → ⊥) → IsJoined edges pace table k (length (row_at table k)) inputs i r → IsJoined edges pace next k (length (row_at next k)) inputs i r
    joined_still k inputs i r apart joined = subst (λ (l : List Key). IsJoined edges pace next k (length l) inputs i r) (sym (other_row k apart)) (record {
      due = joined.due;
      few = (let f = joined.few in omega (arith, f, grows));
      own = λ b is. (let o = joined.own b is in (o.0, still_there k b o.0 o.1, o.2));
      met = λ j n b e less at there needs. (let x = joined.met j n b e less at there needs in (x.0, still_there e.writer b x.0 x.1, x.2));
      least = joined.least;
    })

    pub parts_next : (parts : List Part) → part_at parts m ≡ no_part → AreParts edges pace counts table lists parts → AreParts edges pace counts next lists parts
    parts_next parts none are = record {
      long = are.long;
      each = λ k k_in. (elim (cases_eq k m) [
        | inl same ↦ nothing_known edges pace next k (links_at lists k) (part_at parts k) (ap (λ n. (part_at parts n).asked) same ∙ ap (λ (p : Part). p.asked) none)
        | inr apart ↦ (λ some. (let x = are.each k k_in some in (x.0, joined_still k (links_at lists k) (part_at parts k).asked (part_at parts k).key apart x.1)))
      ]);
    }
