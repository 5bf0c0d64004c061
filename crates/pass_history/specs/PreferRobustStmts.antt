-- What is reported of statements that fail where a migration that stopped part way through is run again (PostgreSQL manual, section
-- 3.4: what a transaction did is undone where it fails; and the pages of the statements, "IF EXISTS" and "IF NOT EXISTS").
use Rattle.std.specs.Prelude.{ℕ, Bool, ◌||◌, nat_eq, List, [], ◌∷◌, length, codes, if◌then◌else◌, Option, None}
use Rattle.std.specs.Option.{option_map}
use Rattle.lint_pass.specs.text_pos.Range.{Range}
use Rattle.sql_tree.specs.Range.{span_range_of}
use Rattle.sql_tree.specs.Statement.{Tree}
use Rattle.lint_pass.specs.lint_base.Fixes.{FixValue}
use Rattle.lint_pass.specs.lint_base.declared.rule.Rule.TheVariants as rule
use Rattle.lint_pass.specs.lint_base.declared.settings.LinterSettings.{LinterSettings}
use Rattle.lint_pass.specs.lint_base.declared.violation.Violation.{Violation}
use Rattle.lint_pass.specs.lint_transaction.Transaction.{is_open}
use Rattle.lint_pass.specs.BlockPlace.{in_block}
use Rattle.lint_pass.specs.Blocks.{blocks_of}
use Rattle.lint_pass.specs.Fixes.{insertion_fix}

-- ---- which statements are robust

abbrev pub has_no_block : Tree → Bool
has_no_block tree = nat_eq (length (blocks_of tree)) 0

-- In a text with blocks of Alembic those in a block, else those in an open transaction. Where a transaction is assumed, all
-- statements of a text with blocks are.
abbrev pub is_robust : LinterSettings → Tree → ℕ → Bool
is_robust settings tree i =
    if has_no_block tree then is_open settings.assume_in_transaction tree i else settings.assume_in_transaction || in_block tree i

-- ---- reports

abbrev pub robust_report : List ℕ → Range → Option FixValue → Violation
robust_report message range fix = record {
  code = rule.PreferRobustStmts;
  message = message;
  text_range = range;
  note = None;
  help = None;
  fix = fix;
}

unfoldable pub missing_exists : Range → Option FixValue → Violation
missing_exists range fix = robust_report (codes "missing `if exists`, the migration can't be rerun if it fails part way through") range fix

unfoldable pub missing_not_exists : Range → Option FixValue → Violation
missing_not_exists range fix = robust_report (codes "missing `if not exists`, the migration can't be rerun if it fails part way through") range fix

unfoldable pub no_transaction : Range → Violation
no_transaction range = robust_report (codes "missing transaction, the migration can't be rerun if it fails part way through") range None

abbrev pub unless : Bool → Violation → List Violation
unless quiet v = if quiet then [] else v ∷ []

-- ---- fixes

abbrev pub exists_title : List ℕ
exists_title = codes "Insert `if exists`"

abbrev pub not_exists_title : List ℕ
not_exists_title = codes "Insert `if not exists`"

-- the text at the end of the word, where the word is written
unfoldable pub after_word : Tree → List ℕ → List ℕ → Option ℕ → Option FixValue
after_word tree title text word = option_map (λ n. insertion_fix title text (span_range_of tree.toks n n).end) word

-- the text at the start of the token, where there is one
unfoldable pub before_word : Tree → List ℕ → List ℕ → Option ℕ → Option FixValue
before_word tree title text word = option_map (λ n. insertion_fix title text (span_range_of tree.toks n n).start) word
