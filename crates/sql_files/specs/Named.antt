-- Which files words stand for.
use Rattle.std.specs.Prelude.{◌≡◌, ◌≤◌, ◌⊎◌, ℕ, List, [], ◌∷◌, ◌++◌, String, map, string_bytes, ⊤}
use Rattle.std.specs.declared.alloc.Global.{Global}
use Rattle.devices.specs.Contents.{Content, Unknown, Missing, File, Folder}
use Rattle.devices.specs.SqlNames.{AreSqlNames}
use Rattle.devices.specs.Faults.{Rose}
use Rattle.squawk_words.specs.Words.{Text}

-- those of the names in a folder that end in `.sql`, in order
pub record AreSqlFiles (inner front : List Text) : Type 0 where
  pub names : List (String Global)
  pub kept : List (String Global)
  pub inner_is : map string_bytes names ≡ inner
  pub front_is : map string_bytes kept ≡ front
  pub are : AreSqlNames names kept

-- A folder stands for its SQL files, and every other name for itself. So does a folder where the call that reads it failed, which shows
-- in the count of failures.
abbrev pub StandFor : Content → ℕ → ℕ → Text → List Text → Type 0
StandFor Unknown before now name front = ⊤
StandFor Missing before now name front = front ≡ name ∷ []
StandFor (File all) before now name front = front ≡ name ∷ []
StandFor (Folder inner) before now name front = AreSqlFiles inner front ⊎ ((front ≡ name ∷ []) × Rose before now)

-- the names that a word adds
pub record Adds (content : Content) (before now : ℕ) (word : Text) (old new : List Text) : Type 0 where
  pub front : List Text
  pub stand : StandFor content before now word front
  pub appended : new ≡ old ++ front

-- These are the names that the words stand for, in the order of the words. The count of failures goes on from word to word, so that of
-- each folder that stands for itself a call of its own failed.
abbrev pub AreNamed : (Text → Content) → ℕ → ℕ → List Text → List Text → Type 0
AreNamed content before now [] names = (names ≡ []) × (before ≤ now)
AreNamed content before now (word ∷ words) names =
    (mid : ℕ) × (front : List Text) × (rest : List Text) × (names ≡ front ++ rest) × StandFor (content word) before mid word front
    × AreNamed content mid now words rest
