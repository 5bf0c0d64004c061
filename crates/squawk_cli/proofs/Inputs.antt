-- What is found in an input, and what that says of a run.
use Rattle.std.proofs.Common.{◌≡◌, ◌≢◌, ◌∙◌, ◌<◌, ◌^◌, sym, ap, refl, subst, ℕ, Bool, true, false, true≢false, List, [], Option, Some, None}
use Rattle.std.specs.Prelude.{◌↔◌, IfSome, IsTrue, length, option_and_then}
use Rattle.squawk_linter.specs.sql_tree.Statement.{IsValid}
use Rattle.std.specs.Io.KnownBytes.{Appends}
use Rattle.squawk_run.specs.devices.Parts.{AppendsPart}
use Rattle.squawk_linter.specs.lint_base.declared.settings.LinterSettings.{LinterSettings}
use Rattle.squawk_linter.specs.lint_base.declared.violation.Violation.{Violation}
use Rattle.squawk_linter.specs.lint_base.RuleSets.{Rules}
use Rattle.squawk_linter.specs.Answers.{IsAnswer}
use Rattle.squawk_run.proofs.Runs.{where_same}
use Rattle.squawk_cli.specs.declared.config.Config.{Config}
use Rattle.squawk_cli.specs.Config.{config_of}
use Rattle.squawk_cli.specs.Answer.{AreFindings, AreReports}
use Rattle.squawk_cli.specs.Modes.{given_text, groups_to_make, shown_by, text_by}
use Rattle.squawk_cli.specs.Findings.{AreFoundIn, FindingsValue}
use Rattle.squawk_run.specs.declared.status.Status.{Status}
use Rattle.squawk_run.specs.declared.status.Status.TheVariants.{NotUtf8, Unterminated, Syntax, NoMemory}
use Rattle.squawk_cli.specs.Outcome.{HasReports, AppendsFindings, AppendsPartOfFindings, InputFor, ReadBy, RefusalFits, WrittenFor}

-- what the words ask for is what their configuration says
pub asked : (words : List (List ℕ)) (config : Config) → Some config ≡ config_of words → config.generate ≡ groups_to_make words
asked words config named = ap (option_and_then (λ c. c.generate)) named

holds : (given : Option (List ℕ)) (text s : List ℕ) (P : List ℕ → Type 0) → IfSome given (λ t. t ≡ text) → s ≡ text → P s → IfSome given P
holds given text s P is same h = where_same given text P is (subst P same h)

-- what holds of the text that was linted holds of the text of the run
pub of_text : (words : List (List ℕ)) (config : Config) (left : Option (List ℕ)) (text s : List ℕ) (P : List ℕ → Type 0) → Some config ≡ config_of words
    → IfSome (text_by config.generate left) (λ t. t ≡ text) → s ≡ text → P s → IfSome (given_text words left) P
of_text words config left text s P named is same h =
    subst (λ g. IfSome (text_by g left) P) (asked words config named) (holds (text_by config.generate left) text s P is same h)

abbrev FoundBy : Config → List ℕ → FindingsValue → Type 0
FoundBy config t found = AreFoundIn config.locks t config.linter.rules config.linter.settings found

-- the reports among what is found are the answer of the linter
pub answer_among : (locks : Bool) (t : List ℕ) (rules : Rules) (settings : LinterSettings) (found : FindingsValue) → AreFoundIn locks t rules settings found
    → IsAnswer t rules settings found.violations
answer_among locks t rules settings found are = record { tree = are.tree; of_text = are.of_text; reports_of = ap (λ (f : FindingsValue). f.violations) are.is }

reports_of_run : (words : List (List ℕ)) (config : Config) (t : List ℕ) (found : FindingsValue) → Some config ≡ config_of words
    → FoundBy config t found → AreReports words t found.violations
reports_of_run words config t found named are =
    record { config = config; named = sym named; answer = answer_among config.locks t config.linter.rules config.linter.settings found are }

pub no_reports : (words : List (List ℕ)) (config : Config) (t : List ℕ) (found : FindingsValue) → Some config ≡ config_of words
    → FoundBy config t found → found.violations ≡ [] → AreReports words t []
no_reports words config t found named are none = subst (AreReports words t) none (reports_of_run words config t found named are)

pub some_reports : (words : List (List ℕ)) (config : Config) (t : List ℕ) (found : FindingsValue) → Some config ≡ config_of words
    → FoundBy config t found → (found.violations ≢ []) → HasReports words t
some_reports words config t found named are some = (found.violations, reports_of_run words config t found named are, some)

pub valid_text : (config : Config) (t : List ℕ) (found : FindingsValue) → FoundBy config t found → IsValid t
valid_text config t found are = (are.tree, are.of_text.0, are.of_text.1)

found_by_run : (words : List (List ℕ)) (config : Config) (t : List ℕ) (found : FindingsValue) → Some config ≡ config_of words
    → FoundBy config t found → AreFindings words t found
found_by_run words config t found named are = record { config = config; named = sym named; answer = are }

pub all_appended : (words : List (List ℕ)) (config : Config) (t : List ℕ) (found : FindingsValue) (old new : Option (List ℕ)) → Some config ≡ config_of words
    → FoundBy config t found → Appends old new (shown_by config.generate found) → AppendsFindings words t old new
all_appended words config t found old new named are appended = record {
  found = found;
  are = found_by_run words config t found named are;
  appended = subst (λ g. Appends old new (shown_by g found)) (asked words config named) appended;
}

pub part_appended : (words : List (List ℕ)) (config : Config) (t : List ℕ) (found : FindingsValue) (old new : Option (List ℕ)) → Some config ≡ config_of words
    → FoundBy config t found → AppendsPart old new (shown_by config.generate found) → AppendsPartOfFindings words t old new
part_appended words config t found old new named are appended = record {
  found = found;
  are = found_by_run words config t found named are;
  appended = subst (λ g. AppendsPart old new (shown_by g found)) (asked words config named) appended;
}

pub none_where : (vs : List Violation) (r : Bool) → IsTrue r ↔ (vs ≡ []) → r ≡ true → vs ≡ []
none_where vs r tells h = tells.0 h

pub some_where : (vs : List Violation) (r : Bool) → IsTrue r ↔ (vs ≡ []) → r ≡ false → (vs ≢ [])
some_where vs r tells h = λ none. true≢false (sym (tells.1 none) ∙ h)

-- ---- a text that is refused

-- of each status that a refusal has, the clauses say what the text is, and nothing of what was written
pub input_refused : (s : Status) (words : List (List ℕ)) (t : List ℕ) → length t < 2 ^ 32 → RefusalFits s t → InputFor s words t
input_refused NotUtf8 words t short fits = (fits, short)
input_refused (Unterminated at) words t short fits = fits
input_refused (Syntax at) words t short fits = fits
input_refused NoMemory words t short fits = tt
input_refused _ words t short fits = absurd fits

pub written_refused : (s : Status) (words : List (List ℕ)) (t u : List ℕ) (old new : Option (List ℕ)) → RefusalFits s t → WrittenFor s words u old new
written_refused NotUtf8 words t u old new fits = tt
written_refused (Unterminated at) words t u old new fits = tt
written_refused (Syntax at) words t u old new fits = tt
written_refused NoMemory words t u old new fits = tt
written_refused _ words t u old new fits = absurd fits

pub of_any : (o : Option (List ℕ)) (P : List ℕ → Type 0) → ((t : List ℕ) → P t) → IfSome o P
of_any None P h = tt
of_any (Some t) P h = h t

-- out of memory before anything is read
pub unread_at_first : (n : Option ℕ) (a : Option (List ℕ)) → ReadBy n NoMemory a a
unread_at_first None a = tt
unread_at_first (Some n) a = refl
