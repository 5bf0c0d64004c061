-- What a walk over the statements of a tree keeps of the earlier ones.
use Rattle.std.specs.Prelude.{◌≡◌, ℕ, Bool, List}
use Rattle.lint_ignore.specs.sql_tree.Statement.{Tree}
use Rattle.lint_transaction.specs.SpanSet.{Spans, has_span}
use Rattle.lint_transaction.specs.Tracking.{IsTracking, Known}
use Rattle.hazard_find.specs.Earlier.{is_dropped, is_limited, is_made, is_temporary, lock_timeout, statement_timeout}

-- the open transaction, and what all earlier statements made, dropped and set
pub record Kept : Type 0 where
  pub created : Known
  pub temporary : Spans
  pub dropped : Spans
  pub made : Spans
  pub lock_limited : Bool
  pub statement_limited : Bool

-- before statement i, what is kept is what the earlier statements say
pub record IsKept (tree : Tree) (assumed : Bool) (i : ℕ) (kept : Kept) : Type 0 where
  pub created : IsTracking tree assumed i kept.created
  pub temporary : (path : List (List ℕ)) → has_span tree kept.temporary path ≡ is_temporary tree path i
  pub dropped : (name : List (List ℕ)) → has_span tree kept.dropped name ≡ is_dropped tree name i
  pub made : (path : List (List ℕ)) → has_span tree kept.made path ≡ is_made tree path i
  pub lock_limited : kept.lock_limited ≡ is_limited tree lock_timeout i
  pub statement_limited : kept.statement_limited ≡ is_limited tree statement_timeout i
