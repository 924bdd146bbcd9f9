-- What is known of bytes while they are read: of the text behind their line `text`, and of the
-- model of that.
use Rattle.std.specs.Prelude.{◌≡◌, ℕ, List, [], drop}
use Rattle.tdf_bind.specs.declared.model.Flat.{Flat}
use Rattle.tdf_dynamic_first.specs.declared.first.First.{First}
use Rattle.tdf_lang_tree.specs.Pure.{PureTree}
use Rattle.tdf_save.specs.Members.{IsSnapshotFor}
use Rattle.tdf_save.specs.Start.{IsTextStart}
use Rattle.tdf_sim_unique.specs.Below.{members_of}
use Rattle.tdf_save_reading.specs.Reading.{IsSavedText}
use Rattle.tdf_saved.specs.State.{SnapshotOf}
use Rattle.tdf_sim_runs.specs.Below.{IsModelOf, IsValid, resumed_world, rows_from_saved}
use Rattle.tdf_sim_runs.specs.declared.paused.Paused.{Paused}
use Rattle.tdf_sim_runs.specs.Reopened.{kind_saved}
use Rattle.tdf_sim_runs.specs.Running.{IsRunningAt}

-- the text of the model that the bytes hold
pub record IsTextIn (bytes text : List ℕ) : Type 0 where
  pub place : ℕ
  pub start : IsTextStart bytes place
  pub is : text ≡ drop place bytes

-- the bytes are the text of this snapshot of a flat model
pub record IsReadFor (flat : Flat) (bytes : List ℕ) (s : SnapshotOf) : Type 0 where
  pub fits : IsSnapshotFor (members_of flat) s
  pub is : IsSavedText (members_of flat) bytes s

-- with these plans a run goes on from a snapshot of a flat model
pub record RestsOn (model : PureTree) (flat : Flat) (firsts : List First) (s : SnapshotOf)
    (p : Paused) : Type 0 where
  pub runs : IsRunningAt model flat (resumed_world model flat firsts s []) [] p.run
  pub rows : p.run.shown.trace.rows.upto ≡ rows_from_saved model flat firsts s

-- a run waits in a snapshot of a flat model, which is valid
pub record IsRestored (flat : Flat) (s : SnapshotOf) (p : Paused) : Type 0 where
  pub flat_is : p.flat ≡ flat
  pub time : p.run.from ≡ s.time
  pub kind : p.kind ≡ kind_saved s.vcd
  pub turns : p.turns ≡ s.budget
  pub valid : (model : PureTree) → IsModelOf model flat
      → (firsts : List First) × IsValid model flat firsts s
  pub goes_on : (model : PureTree) (firsts : List First) → IsModelOf model flat
      → IsValid model flat firsts s → RestsOn model flat firsts s p

-- none does
abbrev pub IsNoStart : Flat → SnapshotOf → Type 0
IsNoStart flat s = (model : PureTree) (firsts : List First) → IsModelOf model flat
    → ¬ IsValid model flat firsts s

-- a run waits in the state of a flat model whose text the bytes are
pub record IsRunIn (flat : Flat) (bytes : List ℕ) (p : Paused) : Type 0 where
  pub snapshot : SnapshotOf
  pub read : IsReadFor flat bytes snapshot
  pub restored : IsRestored flat snapshot p
