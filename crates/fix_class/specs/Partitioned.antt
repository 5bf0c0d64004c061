-- What a walk over the statements of a tree keeps of the partitioned tables that the earlier ones make.
use Rattle.std.specs.Prelude.{◌≡◌, ℕ, List}
use Rattle.lint_ignore.specs.sql_tree.Statement.{Tree}
use Rattle.lint_transaction.specs.SpanSet.{Spans, has_span}
use Rattle.fix_class.specs.Known.{is_partitioned}

-- before statement i, these are the partitioned tables that the earlier statements make
abbrev pub ArePartitioned : Tree → ℕ → Spans → Type 0
ArePartitioned tree i tables = (path : List (List ℕ)) → has_span tree tables path ≡ is_partitioned tree path i
