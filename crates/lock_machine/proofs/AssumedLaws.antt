-- Whether a transaction is assumed to be open before the first statement.
use Rattle.std.proofs.Common.{◌≡◌, refl, Bool, true, false, ◌&&◌, not}
use Rattle.sql_tree.specs.Statement.{Tree}
use Rattle.lint_pass.specs.lint_base.declared.settings.LinterSettings.{LinterSettings}
use Rattle.lint_pass.specs.lint_ignore.Comment.{has_disable_comment}
use Rattle.lint_pass.specs.Cleared.{IsCleared}
use Rattle.lock_machine.specs.Works.{is_assumed}
use Rattle.lock_machine.proofs.BeginLaws.{not_both}

left_on : (assume disable : Bool) → (disable ≡ true → assume ≡ false) → (assume && not disable) ≡ assume
left_on true true h = not_both (h refl)
left_on true false h = refl
left_on false disable h = refl

-- under cleared settings it is what they say
pub assumed_where_cleared : (tree : Tree) (settings : LinterSettings) → IsCleared tree settings → is_assumed settings tree ≡ settings.assume_in_transaction
assumed_where_cleared tree settings is = left_on settings.assume_in_transaction (has_disable_comment tree) is.cleared
