-- From diagnostics that were written to what is known of an input.
use Rattle.std.proofs.Common.{◌≡◌, ◌≢◌, ◌<◌, ◌^◌, subst, ℕ, List, [], ◌∷◌, length, Option, Some, refl}
use Rattle.std.specs.Str.{IsUtf8}
use Rattle.std.specs.Io.KnownBytes.{Appends}
use Rattle.squawk_linter.specs.declared.linter.Linter.{Linter}
use Rattle.diag_report.specs.diag_json.declared.diagnostic.Diagnostic.{Diagnostic}
use Rattle.squawk_diag.specs.Written.{WroteAs, printed, status_by}
use Rattle.squawk_run.specs.declared.status.Status.{Status}
use Rattle.squawk_run.specs.declared.status.Status.TheVariants.{Clean, Found, BadArguments, NotUtf8, TooLong, Unterminated, Syntax, ReadFault, WriteFault, NoMemory}
use Rattle.squawk_diag.specs.Chosen.{linter_of}
use Rattle.squawk_diag.specs.Outcome.{AnsweredAs, AnsweredFor, AreFor}

none_by : (ds : List Diagnostic) → status_by ds ≡ Clean → ds ≡ []
none_by [] e = refl
none_by (d ∷ ds) e = let f : Found ≡ Clean = e in absurd (cc)

some_by : (ds : List Diagnostic) → status_by ds ≡ Found → (ds ≢ [])
some_by [] e = let f : Clean ≡ Found = e in absurd (cc)
some_by (d ∷ ds) e = λ none. absurd (cc)

-- diagnostics of a text that were written
pub written : (s : Status) (linter : Linter) (t : List ℕ) (ds : List Diagnostic) (old new : Option (List ℕ)) → IsUtf8 t → AreFor linter t ds → WroteAs s ds old new → AnsweredAs s linter t old new
written Clean linter t ds old new text are wrote =
    let none = none_by ds wrote.0 in
    (text, subst (AreFor linter t) none are, subst (λ (d : List Diagnostic). Appends old new (printed d)) none wrote.1)
written Found linter t ds old new text are wrote = (text, record { diagnostics = ds; are = are; some = some_by ds wrote.0; appended = wrote.1 })
written WriteFault linter t ds old new text are wrote = (text, record { diagnostics = ds; are = are; appended = wrote })
written NoMemory linter t ds old new text are wrote = tt
written BadArguments linter t ds old new text are wrote = absurd wrote
written NotUtf8 linter t ds old new text are wrote = absurd wrote
written TooLong linter t ds old new text are wrote = absurd wrote
written (Unterminated at) linter t ds old new text are wrote = absurd wrote
written (Syntax at) linter t ds old new text are wrote = absurd wrote
written ReadFault linter t ds old new text are wrote = absurd wrote

-- the same of the linter that the words name
pub named : (s : Status) (words : List (List ℕ)) (linter : Linter) (t : List ℕ) (old new : Option (List ℕ)) → linter_of words ≡ Some linter → length t < 2 ^ 32 → AnsweredAs s linter t old new → AnsweredFor s words t old new
named Clean words linter t old new name short h = record { linter = linter; named = name; holds = h }
named Found words linter t old new name short h = record { linter = linter; named = name; holds = h }
named WriteFault words linter t old new name short h = record { linter = linter; named = name; holds = h }
named NotUtf8 words linter t old new name short h = (short, h)
named (Unterminated at) words linter t old new name short h = (short, h.0, h.1)
named (Syntax at) words linter t old new name short h = h
named BadArguments words linter t old new name short h = tt
named TooLong words linter t old new name short h = tt
named ReadFault words linter t old new name short h = tt
named NoMemory words linter t old new name short h = tt
