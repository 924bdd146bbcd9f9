-- The head of a snapshot's text, and its front: all but the text of the model.
-- Source: own.
use Rattle.std.specs.Prelude.{◌≡◌, ℕ, ◌<◌, ◌^◌, Bool, List, [], ◌∷◌, ◌++◌, length, codes, decimal}
use Rattle.tdf_save.specs.Members.{IsCount64, MembersOf}
use Rattle.tdf_save.specs.Text.{each_text, kind_word, saved_cluster, saved_column, saved_head, saved_kernel, saved_line, saved_model}
use Rattle.tdf_save_reading.specs.declared.head.Run.{Run}
use Rattle.tdf_saved.specs.State.{SnapshotOf}

-- `saved 1`, `kind KIND`
unfoldable pub kind_text : Bool → List ℕ
kind_text vcd = saved_line (codes "saved") (codes "1" ∷ [])
    ++ saved_line (codes "kind") (kind_word vcd ∷ [])

-- `run TIME USED BUDGET`
unfoldable pub run_text : Run → List ℕ
run_text r = saved_line (codes "run") (decimal r.time ∷ (decimal r.used ∷ (decimal r.budget ∷ [])))

pub record IsRunInRange (r : Run) : Type 0 where
  pub time : IsCount64 r.time
  pub used : IsCount64 r.used
  pub budget : IsCount64 r.budget

unfoldable pub front_text : MembersOf → SnapshotOf → List ℕ
front_text m s = saved_head s ++ (each_text saved_cluster m.clusters s.clusters
    ++ (saved_kernel m s.kernel ++ each_text saved_column m.columns s.columns))

-- the line of a model's text, and the model's text
pub record IsModelPart (text : List ℕ) : Type 0 where
  pub model : List ℕ
  pub small : length model < 2 ^ 64
  pub is : text ≡ saved_model model
