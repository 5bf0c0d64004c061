-- One fix of a listed rule: no report of a listed rule is new, and one at least is gone.
use Rattle.std.specs.Prelude.{◌≡◌, ◌<◌, ℕ, ◌+◌, ◌^◌, Bool, true, List, [], ◌∷◌, length, is_some, All, Some}
use Rattle.std.specs.List.{list_any}
use Rattle.law_type_fixes.specs.sql_tree.Statement.{Tree, IsTree}
use Rattle.law_type_fixes.specs.lint_base.declared.edit.Edit.{Edit}
use Rattle.law_type_fixes.specs.lint_base.declared.settings.LinterSettings.{LinterSettings}
use Rattle.law_type_fixes.specs.lint_base.declared.violation.Violation.{Violation}
use Rattle.law_type_fixes.specs.lint_base.Fixes.{FixValue}
use Rattle.law_type_fixes.specs.lint_base.RuleSets.{Rules}
use Rattle.law_type_fixes.specs.lint_ignore.Comment.{has_disable_comment, ignore_in_token}
use Rattle.law_type_fixes.specs.pass_session.RequireTimeoutSettings.{reports_of_require_timeout_settings}
use Rattle.law_type_fixes.specs.law_fixes.Edited.{edited, place_moved}
use Rattle.law_type_fixes.specs.law_fixes.Mended.{Table, builds, dropped, rebuilt, detached}
use Rattle.law_type_fixes.specs.Mended.{JoinsNone}
use Rattle.law_type_fixes.specs.Rules.{type_table, ints, smallints, timestamps, varchars}
use Rattle.law_fix_steps.specs.Kept.{Kept}

-- ---- how many reports there are

-- the table of RequireLockTimeout and RequireStatementTimeout
abbrev pub timeouts : Table
timeouts tree rules settings = reports_of_require_timeout_settings tree rules

-- the tables of the listed rules
abbrev pub listed_tables : List Table
listed_tables =
    builds ∷ dropped ∷ rebuilt ∷ detached
    ∷ type_table varchars ∷ type_table timestamps ∷ type_table ints ∷ type_table smallints
    ∷ timeouts ∷ []

-- how many reports these tables have
abbrev pub load_of : List Table → Tree → Rules → LinterSettings → ℕ
load_of [] tree rules settings = 0
load_of (table ∷ tables) tree rules settings = length (table tree rules settings) + load_of tables tree rules settings

-- how many reports of listed rules there are, those that ignore comments cover included
abbrev pub load : Tree → Rules → LinterSettings → ℕ
load tree rules settings = load_of listed_tables tree rules settings

-- It is less than 2^64.
abbrev pub LoadIsSmall : Type 0
LoadIsSmall = (tree : Tree) (rules : Rules) (settings : LinterSettings) → IsTree tree → load tree rules settings < 2 ^ 64

-- ---- one step

-- some token is an ignore comment
abbrev pub has_ignore_comment : Tree → Bool
has_ignore_comment tree = list_any (λ k. is_some (ignore_in_token tree.text k)) tree.toks

-- The edited text has a tree, in whose listed tables no report is new, and there is at least one less. Where a comment says there that
-- no transaction is to be assumed, one says so in the old text; and where it has an ignore comment, so has the old one.
pub record Steps (tree : Tree) (rules : Rules) (settings : LinterSettings) (edits : List Edit) : Type 0 where
  pub new : Tree
  pub text : new.text ≡ edited tree.text edits
  pub is : IsTree new
  pub comments : has_disable_comment new ≡ true → has_disable_comment tree ≡ true
  pub ignores : has_ignore_comment new ≡ true → has_ignore_comment tree ≡ true
  pub kept : All (λ table. Kept (place_moved edits) (table new rules settings) (table tree rules settings)) listed_tables
  pub less : load new rules settings < load tree rules settings

-- So it is for the fix of this report, if its edits fit and the edited text has less than 2^32 bytes.
abbrev pub FixSteps : Tree → Rules → LinterSettings → (List Edit → Type 0) → Violation → Type 0
FixSteps tree rules settings Fits v =
    (f : FixValue) → v.fix ≡ Some f → Fits f.edits → length (edited tree.text f.edits) < 2 ^ 32 → Steps tree rules settings f.edits

-- They fit if no byte of a word is right before or right after a range that they replace. An insertion replaces none.
abbrev pub JoinNoWord : Tree → List Edit → Type 0
JoinNoWord tree edits = All (λ e. e.text_range.start < e.text_range.end → JoinsNone tree.text e) edits

-- So it is for the fix of each report of a listed table, in each tree, whichever rules are enabled and whatever the settings are.
abbrev pub FixesStep : Table → Type 0
FixesStep table =
    (tree : Tree) (rules : Rules) (settings : LinterSettings) → IsTree tree → All (FixSteps tree rules settings (JoinNoWord tree)) (table tree rules settings)
