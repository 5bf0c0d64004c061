-- When a file passes, and why it does not.
use Rattle.std.specs.Prelude.{◌≡◌, ◌<◌, ◌^◌, ℕ, Bool, true, List, [], ◌∷◌, Option, Some, None, if◌then◌else◌, is_some, length}
use Rattle.squawk_linter.specs.sql_token.declared.token.Tok.{Tok}
use Rattle.squawk_linter.specs.sql_token.Token.{Text, OpenAt}
use Rattle.squawk_linter.specs.sql_tree.Forms.{either_of}
use Rattle.squawk_linter.specs.sql_tree.Statement.{Tree, IsSyntaxAt}
use Rattle.squawk_linter.specs.sql_read.Cause.{IsTreeOf}
use Rattle.squawk_linter.specs.lint_base.declared.settings.LinterSettings.{LinterSettings}
use Rattle.squawk_linter.specs.lint_base.declared.violation.Violation.{Violation}
use Rattle.squawk_linter.specs.lint_base.RuleSets.{Rules}
use Rattle.squawk_linter.specs.lint_ignore.Comment.{ignore_in_token}
use Rattle.squawk_linter.specs.lint_pass.Laws.{IsRead}
use Rattle.squawk_linter.specs.lock_machine.Plain.{plain}
use Rattle.squawk_linter.specs.Answers.{reports}
use Rattle.squawk_linter.specs.Headline.{HasNoIgnoreComment}
use Rattle.squawk_linter.specs.Reports.{start_of}
use Rattle.migration_gate.specs.declared.verdict.Why.{Why}
use Rattle.migration_gate.specs.declared.verdict.Why.TheVariants as why

-- ---- passing

-- A text passes: it is valid, this is its tree, it holds no ignore comment, it is plain, and the linter reports nothing of it.
pub record IsPassing (rules : Rules) (settings : LinterSettings) (text : Text) (tree : Tree) : Type 0 where
  pub is : tree.text ≡ text
  pub valid : IsRead tree
  pub no_ignore : HasNoIgnoreComment tree
  pub is_plain : plain tree ≡ true
  pub no_reports : reports tree rules settings ≡ []

-- ---- not passing

-- the start of the first ignore comment among some tokens
abbrev pub first_ignore : Text → List Tok → Option ℕ
first_ignore text [] = None
first_ignore text (k ∷ ks) = if is_some (ignore_in_token text k) then Some k.start else first_ignore text ks

abbrev pub ignored : Option ℕ → Option Why
ignored None = None
ignored (Some at) = Some (why.Ignored at)

abbrev pub unplain : Bool → Option Why
unplain is_plain = if is_plain then None else Some why.NotPlain

-- the first report
abbrev pub first_found : List Violation → Option Why
first_found [] = None
first_found (v ∷ vs) = Some (why.Found (start_of v) v.code)

-- Why a text of this tree does not pass: the first ignore comment, or that it is not plain, or the first report, in this order. None where it
-- passes.
abbrev pub why_in : Rules → LinterSettings → Tree → Option Why
why_in rules settings tree =
    either_of (ignored (first_ignore tree.text tree.toks)) (either_of (unplain (plain tree)) (first_found (reports tree rules settings)))

-- the text has a tree, and this is why it does not pass
pub record IsAgainst (rules : Rules) (settings : LinterSettings) (text : Text) (w : Why) : Type 0 where
  pub tree : Tree
  pub of_text : IsTreeOf text tree
  pub told : why_in rules settings tree ≡ Some w

-- This is why a text does not pass.
abbrev pub IsWhy : Rules → LinterSettings → Text → Why → Type 0
IsWhy rules settings text (why.Unterminated at) = (length text < 2 ^ 32) × OpenAt text at
IsWhy rules settings text (why.Syntax at) = IsSyntaxAt text at
IsWhy rules settings text w = IsAgainst rules settings text w
