-- Notifications are read exactly.
use Rattle.std.proofs.Common.{◌≡◌, ℕ, zero, suc, ◌<◌, ◌≤◌, ◌+◌, false, List, [], ◌∷◌, ◌++◌, length, get_or, ◌∙◌, sym, ap, refl, codes, decimal, arith, ⊎_elim}
use Rattle.std.proofs.lemmas.Bool.{cases_lt}
use Rattle.std.specs.List.{AllByRecursion}
use Rattle.tdf_save.proofs.Api.{apart, cancel, count64_one, last_one, name_one, pair_one, pending_is, pending_parts, pre_one, pending_begins}
use Rattle.tdf_save.specs.Members.{AreNamesApart, IsCount64, IsPendingFor, MembersOf}
use Rattle.tdf_save.specs.Text.{saved_pending}
use Rattle.tdf_save.specs.machine.Pieces.{Any, IsNext, IsOne, begins_with_byte}
use Rattle.tdf_save_reading.proofs.ModuleReads.{last_text}
use Rattle.tdf_save_reading.proofs.ReadSteps.{AreItems, along_none, along_piece, no_first, no_second, pair_piece, pre_absent, pre_none, pre_piece}
use Rattle.tdf_save_reading.specs.machine.Events.{Blank, IsEvent, IsNotice, IsPlaceFor, event_name, place_text}
use Rattle.tdf_save_reading.specs.machine.Pieces.{IsPiece, NoPiece}
use Rattle.tdf_saved.specs.declared.state.Pending.{Pending}

-- ---- a name, and a space

pub other_blank : (text name rest : List ℕ) → text ≡ name ++ rest → begins_with_byte 32 rest ≡ false → (r : List ℕ) → Blank r → text ≡ name ++ r → ⊥
other_blank text name rest is here r blank e =
    let same : rest ≡ r = cancel name rest r (sym is ∙ e) in
    apart (begins_with_byte 32 rest) (ap (begins_with_byte 32) same ∙ blank) here

-- ---- events, one after the other

-- none of the events up to a place has a name that begins the text
abbrev pub IsNoneUpTo : (names : List (List ℕ)) → (upto : ℕ) → List ℕ → Type 0
IsNoneUpTo names upto text = (i : ℕ) (rest : List ℕ) → i < upto → IsPiece (event_name names) (IsEvent names) Blank text i rest → ⊥

pub none_at_first : (names : List (List ℕ)) (text : List ℕ) → IsNoneUpTo names 0 text
none_at_first names text i rest b p = omega (arith, b)

name_at_place : (names : List (List ℕ)) (k : ℕ) (name : List ℕ) → k < length names → name ≡ get_or names k name → event_name names k ≡ name
name_at_place [] k name less at = absurd (omega (arith, less))
name_at_place (n ∷ names) zero name less at = sym at
name_at_place (n ∷ names) (suc k) name less at = name_at_place names k name (omega (arith, less)) at

pub none_yet : (names : List (List ℕ)) (k : ℕ) (text name : List ℕ) → k < length names → name ≡ get_or names k name
    → ((r : List ℕ) → Blank r → text ≡ name ++ r → ⊥) → IsNoneUpTo names k text → IsNoneUpTo names (k + 1) text
none_yet names k text name less at none before i rest b p = ⊎_elim
    (λ (under : i < k). before i rest under p)
    (λ (over : k ≤ i).
    let same : i ≡ k = omega (arith, over, b) in
    let named : event_name names i ≡ name = ap (event_name names) same ∙ name_at_place names k name less at in
    none rest p.end (p.is ∙ ap (λ x. x ++ rest) named))
    (cases_lt i k)

pub none_at_all : (names : List (List ℕ)) (k : ℕ) (text : List ℕ) → length names ≤ k → IsNoneUpTo names k text → NoPiece (event_name names) (IsEvent names) Blank text
none_at_all names k text all before i rest p = before i rest (omega (arith, all, p.fit)) p

pub event_piece : (names : List (List ℕ)) (k : ℕ) (text name rest : List ℕ) → k < length names → name ≡ get_or names k name → text ≡ name ++ rest → Blank rest
    → IsPiece (event_name names) (IsEvent names) Blank text k rest
event_piece names k text name rest less at is blank = record { fit = less; end = blank; is = is ∙ ap (λ x. x ++ rest) (sym (name_at_place names k name less at)) }

-- ---- the place of an event, and a time

abbrev words_text : List (List ℕ) → ℕ × ℕ → List ℕ
words_text names q = event_name names q.0 ++ last_text decimal q.1

place_front : (names : List (List ℕ)) (q : ℕ × ℕ) → place_text names q ≡ codes "pending " ++ words_text names q
place_front names q = refl

from_words : (names : List (List ℕ)) (whole : List ℕ) → NoPiece (λ q. codes "pending " ++ words_text names q) (IsPlaceFor names) Any whole → NoPiece (place_text names) (IsPlaceFor names) Any whole
from_words names whole none = along_none (λ q. q) (place_text names) (λ q. codes "pending " ++ words_text names q) (IsPlaceFor names) (IsPlaceFor names) Any whole (place_front names) (λ v f. f) none

pub no_pending : (names : List (List ℕ)) (whole : List ℕ) → ((r : List ℕ) → whole ≡ codes "pending " ++ r → ⊥) → NoPiece (place_text names) (IsPlaceFor names) Any whole
no_pending names whole none = from_words names whole (pre_absent (codes "pending ") (words_text names) (IsPlaceFor names) Any whole none)

pub no_name : (names : List (List ℕ)) (whole mid : List ℕ) → whole ≡ codes "pending " ++ mid → NoPiece (event_name names) (IsEvent names) Blank mid → NoPiece (place_text names) (IsPlaceFor names) Any whole
no_name names whole mid is none = from_words names whole (pre_none (codes "pending ") (words_text names) (IsPlaceFor names) Any whole mid is
    (no_first (event_name names) (last_text decimal) (IsEvent names) IsCount64 Blank Any mid (λ b r f e. refl) none))

pub no_time : (names : List (List ℕ)) (whole mid last : List ℕ) (place : ℕ) → AreNamesApart names → whole ≡ codes "pending " ++ mid → IsPiece (event_name names) (IsEvent names) Blank mid place last
    → NoPiece (last_text decimal) IsCount64 Any last → NoPiece (place_text names) (IsPlaceFor names) Any whole
no_time names whole mid last place far is p none = from_words names whole (pre_none (codes "pending ") (words_text names) (IsPlaceFor names) Any whole mid is
    (no_second (event_name names) (last_text decimal) (IsEvent names) IsCount64 Blank Any mid last place (λ b r f e. refl) (name_one names far) p none))

pub place_piece : (names : List (List ℕ)) (whole mid last rest : List ℕ) (place time : ℕ) → whole ≡ codes "pending " ++ mid → IsPiece (event_name names) (IsEvent names) Blank mid place last
    → IsPiece (last_text decimal) IsCount64 Any last time rest → IsPiece (place_text names) (IsPlaceFor names) Any whole (place, time) rest
place_piece names whole mid last rest place time is p q =
    along_piece (place_text names) (λ q. codes "pending " ++ words_text names q) (IsPlaceFor names) (IsPlaceFor names) Any whole (place, time) (place, time) rest (place_front names (place, time)) (p.fit, q.fit)
    (pre_piece (codes "pending ") (words_text names) (IsPlaceFor names) Any whole mid (place, time) rest is
    (pair_piece (event_name names) (last_text decimal) (IsEvent names) IsCount64 Blank Any mid last place time rest p q))

place_one : (names : List (List ℕ)) → AreNamesApart names → IsOne (λ (q : ℕ × ℕ). codes "pending " ++ words_text names q) (IsPlaceFor names) Any
place_one names far = pre_one (codes "pending ") (words_text names) (IsPlaceFor names) Any
    (pair_one (event_name names) (last_text decimal) (IsEvent names) IsCount64 Blank Any (name_one names far) (last_one decimal IsCount64 count64_one) (λ b r f e. refl))

-- ---- a notification

notice_front : (names : List (List ℕ)) (p : Pending) → saved_pending names p ≡ place_text names (pending_parts p)
notice_front names p = pending_is names p

notice_fit : (names : List (List ℕ)) (p : Pending) → IsNotice names p → IsPlaceFor names (pending_parts p)
unfolding pending_parts
notice_fit names p h = (h.event, h.time)

pub no_place : (names : List (List ℕ)) (whole : List ℕ) → NoPiece (place_text names) (IsPlaceFor names) Any whole → NoPiece (saved_pending names) (IsNotice names) Any whole
no_place names whole none = along_none pending_parts (saved_pending names) (place_text names) (IsNotice names) (IsPlaceFor names) Any whole (notice_front names) (notice_fit names) none

abbrev pub notice_at : ℕ → ℕ → Pending
notice_at place time = record { event = place; time = time }

parts_at : (place time : ℕ) → pending_parts (notice_at place time) ≡ (place, time)
unfolding pending_parts
parts_at place time = refl

event_is : (p : Pending) → (pending_parts p).0 ≡ p.event
unfolding pending_parts
event_is p = refl

pub notice_piece : (names : List (List ℕ)) (whole : List ℕ) (place time : ℕ) (rest : List ℕ) → IsPiece (place_text names) (IsPlaceFor names) Any whole (place, time) rest → place ≤ 4294967295
    → IsPiece (saved_pending names) (IsNotice names) Any whole (notice_at place time) rest
notice_piece names whole place time rest p small =
    along_piece (saved_pending names) (place_text names) (IsNotice names) (IsPlaceFor names) Any whole (notice_at place time) (place, time) rest
    (notice_front names (notice_at place time) ∙ ap (place_text names) (parts_at place time))
    (record { event = p.fit.0; small = omega (arith, small); time = p.fit.1 }) p

pub notice_large : (names : List (List ℕ)) (whole : List ℕ) (place time : ℕ) (rest : List ℕ) → AreNamesApart names → IsPiece (place_text names) (IsPlaceFor names) Any whole (place, time) rest → 4294967295 < place
    → NoPiece (saved_pending names) (IsNotice names) Any whole
notice_large names whole place time rest far p large = λ n r q.
    let fit = notice_fit names n q.fit in
    let same = (place_one names far).only (place, time) (pending_parts n) rest r p.fit fit tt tt
    (sym p.is ∙ q.is ∙ ap (λ x. x ++ r) (notice_front names n)) in
    let event : place ≡ n.event = ap (λ (x : ℕ × ℕ). x.0) same.0 ∙ event_is n in
    omega (arith, large, event, q.fit.small)

pending_from : ℕ × ℕ → Pending
pending_from q = record { event = q.0; time = q.1 }

pending_same : (v w : Pending) → pending_parts v ≡ pending_parts w → v ≡ w
unfolding pending_parts pending_from
pending_same v w e = ap pending_from e

notices_one_by : (names : List (List ℕ)) → AreNamesApart names → IsOne (saved_pending names) (IsNotice names) Any
notices_one_by names far = record {
  only = λ v w r s f g er es e.
      let cut = (place_one names far).only (pending_parts v) (pending_parts w) r s (notice_fit names v f) (notice_fit names w g) tt tt
      (ap (λ x. x ++ r) (sym (notice_front names v)) ∙ e ∙ ap (λ x. x ++ s) (notice_front names w)) in
      (pending_same v w cut.0, cut.1);
}

pub notices_items : (names : List (List ℕ)) → AreNamesApart names → AreItems (saved_pending names) (IsNotice names) Any IsNext 112
notices_items names far = record { one = notices_one_by names far; begins = pending_begins names; goes = λ v r f. tt; tail_ends = λ t e. tt; tail_is = λ t e. e.pending }

-- ---- those of a model

pub to_members : (m : MembersOf) (ps : List Pending) → AllByRecursion (IsNotice m.events) ps → AllByRecursion (IsPendingFor m) ps
to_members m [] h = tt
to_members m (p ∷ ps) h = (record { event = h.0.event; small = h.0.small; time = h.0.time }, to_members m ps h.1)

pub from_members : (m : MembersOf) (ps : List Pending) → AllByRecursion (IsPendingFor m) ps → AllByRecursion (IsNotice m.events) ps
from_members m [] h = tt
from_members m (p ∷ ps) h = (record { event = h.0.event; small = h.0.small; time = h.0.time }, from_members m ps h.1)
