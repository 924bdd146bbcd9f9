-- Notifications, with events by their names.
-- Source: own.
use Rattle.std.specs.Prelude.{◌≡◌, ℕ, ◌<◌, true, List, [], ◌∷◌, ◌++◌, length, codes, decimal, slice_index_or}
use Rattle.tdf_save.specs.Members.{IsCount32, IsCount64}
use Rattle.tdf_save.specs.machine.Pieces.{begins_with_byte}
use Rattle.tdf_saved.specs.declared.state.Pending.{Pending}

abbrev pub event_name : (names : List (List ℕ)) → ℕ → List ℕ
event_name names i = slice_index_or names i []

abbrev pub IsEvent : (names : List (List ℕ)) → ℕ → Type 0
IsEvent names i = i < length names

-- a space comes
abbrev pub Blank : List ℕ → Type 0
Blank rest = begins_with_byte 32 rest ≡ true

-- the place of an event, and a time
abbrev pub place_text : (names : List (List ℕ)) → ℕ × ℕ → List ℕ
place_text names q =
    codes "pending" ++ ((32 ∷ event_name names q.0) ++ ((32 ∷ decimal q.1) ++ 10 ∷ []))

abbrev pub IsPlaceFor : (names : List (List ℕ)) → ℕ × ℕ → Type 0
IsPlaceFor names q = IsEvent names q.0 × IsCount64 q.1

pub record IsNotice (names : List (List ℕ)) (p : Pending) : Type 0 where
  pub event : p.event < length names
  pub small : IsCount32 p.event
  pub time : IsCount64 p.time
