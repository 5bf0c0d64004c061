-- What is read of the bytes of a file.
use Rattle.std.specs.Prelude.{◌≡◌, ◌⊎◌, ℕ, Bool, true, false, List, [], Option, Some, None}
use Rattle.std.specs.String.{string_bytes}
use Rattle.std.specs.Str.{IsUtf8}
use Rattle.check_run.specs.checked_file.declared.checked.Passed.{Passed}
use Rattle.psql_text.specs.declared.blank.Blanked.{Blanked}
use Rattle.psql_text.specs.declared.part.Part.{Part}
use Rattle.psql_text.specs.Psql.{Passes, blank_all}
use Rattle.psql_text.specs.Told.{IsAnswer, StartsAt, commands_in, data_in, bodies_in}
use Rattle.law_reports.specs.sql_token.Token.{Text}
use Rattle.file_answer.specs.declared.read.Read.{Read}

-- ---- what is passed over

-- what is kept of the parts of a text that were passed over
abbrev pub IsPassed : Text → List Part → Option Passed → Type 0
IsPassed t ps None = ps ≡ []
IsPassed t ps (Some p) = StartsAt ps p.first × (p.commands ≡ commands_in ps) × (p.data_lines ≡ data_in t ps) × (p.bodies ≡ bodies_in ps)

-- Of a text that is UTF-8, what psql keeps to itself is blank, and what is kept of it is so.
pub record IsBlank (t s : Text) (passed : Option Passed) : Type 0 where
  pub parts : List Part
  pub passes : Passes t parts
  pub text : s ≡ blank_all parts t
  pub are : IsPassed t parts passed

-- bytes that stay as they are
pub record IsPlain (t s : Text) (passed : Option Passed) : Type 0 where
  pub text : s ≡ t
  pub none : passed ≡ None

-- the bytes as they are read, by whether all is read as SQL
abbrev pub IsReadBy : Bool → Text → Text → Option Passed → Type 0
IsReadBy true t s passed = IsPlain t s passed
IsReadBy false t s passed = (IsUtf8 t × IsBlank t s passed) ⊎ ((¬ (IsUtf8 t)) × IsPlain t s passed)

abbrev pub IsReadAs : Bool → Text → Read → Type 0
IsReadAs is_strict t read = IsReadBy is_strict t read.bytes.items read.passed

-- ---- how it is made

pub record IsBlankedBy (b : Blanked) (read : Read) : Type 0 where
  pub bytes : read.bytes.items ≡ string_bytes b.text
  pub passed : read.passed ≡ Some (record { first = b.first; commands = b.commands; data_lines = b.data_lines; bodies = b.bodies })

abbrev pub IsTextIn : Text → Option Blanked → Type 0
IsTextIn t found = (IsUtf8 t × ((ps : List Part) × Passes t ps × IsAnswer t ps found)) ⊎ ((¬ (IsUtf8 t)) × (found ≡ None))
