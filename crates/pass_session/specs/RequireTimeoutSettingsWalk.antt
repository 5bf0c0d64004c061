-- What a walk over the statements knows of timeouts.
use Rattle.std.specs.Prelude.{◌≡◌, ℕ, Bool}
use Rattle.lint_pass.specs.sql_tree.Statement.{Tree}
use Rattle.lint_pass.specs.lint_transaction.Earlier.{any_below}
use Rattle.pass_session.specs.RequireTimeoutSettings.{is_set, lock_timeout, slow_at, statement_timeout}

-- what is known is right before statement i
pub record IsWatching (tree : Tree) (i : ℕ) (was_slow lock_set statement_set : Bool) : Type 0 where
  pub slow_before : was_slow ≡ any_below (slow_at tree) i
  pub lock_before : lock_set ≡ is_set tree lock_timeout i
  pub statement_before : statement_set ≡ is_set tree statement_timeout i
