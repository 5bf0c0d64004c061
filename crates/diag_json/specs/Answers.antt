-- What reading answers.
use Rattle.std.specs.List.{AllByRecursion}
use Rattle.std.specs.Prelude.{◌≡◌, ◌≢◌, ◌<◌, ◌^◌, ℕ, List, Option, Some, None, ◌∷◌, ◌++◌, length, map, IfSome, Result, Ok, Err, ⊤}
use Rattle.serde_json.specs.Data.{Data, Items, array}
use Rattle.serde_json.specs.Find.{as_array}
use Rattle.serde_json.specs.View.{items_of}
use Rattle.text_utf16.specs.declared.position.Pos.{Pos}
use Rattle.diag_json.specs.declared.diagnostic.Diagnostic.{Diagnostic}
use Rattle.diag_json.specs.declared.diagnostic.DiagEdit.{DiagEdit}
use Rattle.diag_json.specs.declared.read.DiagError.{DiagError}
use Rattle.diag_json.specs.declared.read.DiagError.TheVariants.{NotJson, NotList, Shape, NoMemory}
use Rattle.diag_json.specs.Json.{diagnostic_json, json}

-- the numbers of a position have 32 bits
pub record IsPosition (p : Pos) : Type 0 where
  pub line : p.line < 2 ^ 32
  pub col : p.col < 2 ^ 32

pub record HasPositions (e : DiagEdit) : Type 0 where
  pub start : IsPosition e.start
  pub end : IsPosition e.end

-- so they have in all positions of a diagnostic
pub record IsDiagnostic (d : Diagnostic) : Type 0 where
  pub start : IsPosition d.start
  pub end : IsPosition d.end
  pub fix : IfSome d.fix (λ f. AllByRecursion HasPositions f.edits)

-- the items are the JSON of some diagnostics
pub record AreFit (items : Items) (diagnostics : List Diagnostic) : Type 0 where
  pub is : items ≡ items_of (map diagnostic_json diagnostics)
  pub are : AllByRecursion IsDiagnostic diagnostics

-- the items are the JSON of n diagnostics, then an item that is the JSON of none, and then others
pub record IsFirstUnfit (items : Items) (n : ℕ) : Type 0 where
  pub before : List Diagnostic
  pub are : AllByRecursion IsDiagnostic before
  pub number : length before ≡ n
  pub item : Data
  pub unfit : (d : Diagnostic) → IsDiagnostic d → diagnostic_json d ≢ item
  pub rest : List Data
  pub is : items ≡ items_of (map diagnostic_json before ++ item ∷ rest)

-- the value is the JSON of these diagnostics
pub record IsRead (value : Option Data) (diagnostics : List Diagnostic) : Type 0 where
  pub is : value ≡ Some (json diagnostics)
  pub are : AllByRecursion IsDiagnostic diagnostics

-- why the value of a text, if it has one, is not read as diagnostics
abbrev pub IsCause : Option Data → DiagError → Type 0
IsCause value NotJson = value ≡ None
IsCause value NotList = (d : Data) × (value ≡ Some d) × (as_array d ≡ None)
IsCause value (Shape n) = (items : Items) × (value ≡ Some (array items)) × IsFirstUnfit items n
IsCause value NoMemory = ⊤

-- this value, unless memory ran out
abbrev pub OkOrNoMemory : {X : Type 0} → Result X DiagError → (X → Type 0) → Type 0
OkOrNoMemory (Ok x) P = P x
OkOrNoMemory (Err NoMemory) P = ⊤
OkOrNoMemory (Err NotJson) P = ⊥
OkOrNoMemory (Err NotList) P = ⊥
OkOrNoMemory (Err (Shape n)) P = ⊥

-- why items are not read
abbrev pub IsItemCause : Items → DiagError → Type 0
IsItemCause items NotJson = ⊥
IsItemCause items NotList = ⊥
IsItemCause items (Shape n) = IsFirstUnfit items n
IsItemCause items NoMemory = ⊤
