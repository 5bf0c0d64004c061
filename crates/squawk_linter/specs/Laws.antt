-- Laws of what a linter answers.
use Rattle.std.specs.Prelude.{◌≡◌, ◌≢◌, ℕ, true, false, All, List, []}
use Rattle.sql_read.specs.sql_token.Token.{Text}
use Rattle.sql_read.specs.sql_tree.Statement.{Tree, IsTree}
use Rattle.fix_edit.specs.lint_base.declared.rule.Rule.{Rule}
use Rattle.fix_edit.specs.lint_base.declared.rule.Rule.TheVariants as rule
use Rattle.fix_edit.specs.lint_base.declared.settings.LinterSettings.{LinterSettings}
use Rattle.fix_edit.specs.lint_base.declared.violation.Violation.{Violation}
use Rattle.fix_edit.specs.lint_base.RuleSets.{Rules, has, with_rule}
use Rattle.fix_edit.specs.lint_ignore.declared.ignore.Ignore.{Ignore}
use Rattle.fix_edit.specs.lint_ignore.declared.ignore.IgnoreKind.TheVariants.{Line}
use Rattle.fix_edit.specs.lint_ignore.Covered.{covers}
use Rattle.fix_edit.specs.lint_ignore.Found.{found_in}
use Rattle.squawk_linter.specs.Answers.{reports}
use Rattle.squawk_linter.specs.Headline.{HasNoIgnoreComment, headline_of, headline_reports}
use Rattle.fix_edit.specs.lint_pass.Laws.{IsPlacedIn, reports_by}
use Rattle.law_answers.specs.pass_groups.OwnTable.{own_table}
use Rattle.squawk_linter.specs.Reports.{cleared, has_bare_file_ignore, reports_from, with_unknown_names}

-- The settings that a linter keeps after its first answer give the same answer again.
abbrev pub SecondAnswer : Type 0
SecondAnswer = (tree : Tree) (rules : Rules) (settings : LinterSettings) → reports tree rules (cleared tree settings) ≡ reports tree rules settings

-- A bare line ignore covers nothing.
abbrev pub BareLineCoversNothing : Type 0
BareLineCoversNothing = (text : Text) (line : ℕ) (rule : Rule) (g : Ignore) → g.kind ≡ Line → g.ignore_all ≡ true → covers text line rule g ≡ false

-- With a bare file ignore no report is left, of unknown and of unused names too.
abbrev pub BareFileLeavesNothing : Type 0
BareFileLeavesNothing = (tree : Tree) (x : List Violation) (rules : Rules) → has_bare_file_ignore (found_in tree).ignores ≡ true → reports_from tree x rules ≡ []

-- what a pass reports for a tree, rules and settings
abbrev pub Table : Type 0
Table = Tree → Rules → LinterSettings → List Violation

-- the same of one pass
abbrev pub RulesApartIn : Table → Type 0
RulesApartIn table = (tree : Tree) (rules : Rules) (settings : LinterSettings) (r q : Rule) → q ≢ r
    → reports_by q (table tree (with_rule rules r) settings) ≡ reports_by q (table tree rules settings)

-- each report of a pass, and each edit of its fix, is at a place of the text
abbrev pub AllPlaced : Tree → Table → Type 0
AllPlaced tree table = (rules : Rules) (settings : LinterSettings) → All (IsPlacedIn tree) (table tree rules settings)

-- a pass of other rules reports nothing of the headline
abbrev pub NotInHeadline : Rules → Table → Type 0
NotInHeadline mine table =
    has mine rule.RequireConcurrentIndexCreation ≡ false → has mine rule.ConstraintMissingNotValid ≡ false
    → (tree : Tree) (rules : Rules) (settings : LinterSettings) → headline_of tree (table tree rules settings) ≡ []

-- One more rule changes no other rule's reports, those of unknown names in ignore comments among them, before any is left
-- out for an ignore comment.
abbrev pub RulesApart : Type 0
RulesApart = (tree : Tree) (rules : Rules) (settings : LinterSettings) (r q : Rule) → q ≢ r
    → reports_by q (with_unknown_names tree (own_table tree (with_rule rules r) settings)) ≡ reports_by q (with_unknown_names tree (own_table tree rules settings))

-- Without ignore comments the answer has exactly the index builds and the added constraints of the headline.
abbrev pub HeadlineHolds : Type 0
HeadlineHolds = (tree : Tree) (rules : Rules) (settings : LinterSettings) → IsTree tree → HasNoIgnoreComment tree
    → headline_of tree (reports tree rules settings) ≡ headline_reports tree rules (cleared tree settings).assume_in_transaction
