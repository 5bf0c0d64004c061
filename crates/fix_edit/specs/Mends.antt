-- The law of fixes, for the text that is made.
use Rattle.std.specs.Prelude.{◌≡◌, ℕ, List, [], ◌∷◌, All, Some}
use Rattle.law_type_fixes.specs.sql_tree.Statement.{Tree, IsTree}
use Rattle.law_type_fixes.specs.lint_base.declared.settings.LinterSettings.{LinterSettings}
use Rattle.law_type_fixes.specs.lint_base.Fixes.{FixValue}
use Rattle.law_type_fixes.specs.lint_base.RuleSets.{Rules}
use Rattle.law_type_fixes.specs.pass_session.RequireTimeoutSettings.{reports_of_require_timeout_settings}
use Rattle.law_type_fixes.specs.law_fixes.Edited.{edited}
use Rattle.law_type_fixes.specs.law_fixes.Mended.{Table, Mended, WithWord, builds, dropped, rebuilt, detached}
use Rattle.law_type_fixes.specs.law_fixes.Timeouts.{SetMended}
use Rattle.law_type_fixes.specs.Mended.{AreApart, WithRun}
use Rattle.law_type_fixes.specs.Rules.{type_table, ints, smallints, timestamps, varchars}

-- The tables of RequireConcurrentIndexCreation, RequireConcurrentIndexDeletion, RequireConcurrentReindex and
-- RequireConcurrentPartitionDetach.
abbrev pub word_tables : List Table
word_tables = builds ∷ dropped ∷ rebuilt ∷ detached ∷ []

-- If the text has a tree, and some report of it has this fix, whichever rules are enabled and whatever the settings are, then the
-- text `made` is the edited one and has a tree, its tokens and terminals are those of the old one but for the word CONCURRENTLY,
-- and the rule reports nothing where that report began.
abbrev pub WordMends : List ℕ → FixValue → List ℕ → Table → Type 0
WordMends text fix made table =
    (tree : Tree) (rules : Rules) (settings : LinterSettings) → tree.text ≡ text → IsTree tree →
    All (λ v. v.fix ≡ Some fix → (made ≡ edited tree.text fix.edits) × Mended table tree rules settings v fix.edits (WithWord tree fix.edits)) (table tree rules settings)

-- The tables of PreferTextField, PreferTimestampTz, PreferBigintOverInt and PreferBigintOverSmallint.
abbrev pub type_tables : List Table
type_tables = type_table varchars ∷ type_table timestamps ∷ type_table ints ∷ type_table smallints ∷ []

-- The same for the reports on column types, if no byte of a word is right before or right after what the fix replaces: the
-- tokens and terminals of `made` are those of the old text, but that those which the edit replaces are its word.
abbrev pub TypeMends : List ℕ → FixValue → List ℕ → Table → Type 0
TypeMends text fix made table =
    AreApart text fix.edits → (tree : Tree) (rules : Rules) (settings : LinterSettings) → tree.text ≡ text → IsTree tree →
    All (λ v. v.fix ≡ Some fix → (made ≡ edited tree.text fix.edits) × Mended table tree rules settings v fix.edits (WithRun tree fix.edits)) (table tree rules settings)

-- The same for the reports of RequireLockTimeout and RequireStatementTimeout: the tokens and statements of `made` are those of the
-- rule's Set and of the old text, and the rule reports nothing of it at all.
abbrev pub SetMends : List ℕ → FixValue → List ℕ → Type 0
SetMends text fix made =
    (tree : Tree) (rules : Rules) → tree.text ≡ text → IsTree tree →
    All (λ v. v.fix ≡ Some fix → (made ≡ edited tree.text fix.edits) × SetMended v.code tree rules fix.edits) (reports_of_require_timeout_settings tree rules)

-- It is mended, whichever of these rules the fix is of.
pub record IsMended (text : List ℕ) (fix : FixValue) (made : List ℕ) : Type 0 where
  pub words : All (WordMends text fix made) word_tables
  pub types : All (TypeMends text fix made) type_tables
  pub sets : SetMends text fix made
