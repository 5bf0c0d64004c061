use Rattle.std.proofs.Common.{◌≡◌, ◌||◌, ℕ, List, take}
use Rattle.std.specs.List.{list_any}
use Rattle.lint_ignore.specs.sql_token.declared.token.Span.{Span}
use Rattle.lint_transaction.specs.SpanSet.{has_span}
use Rattle.lint_transaction.specs.Transaction.{same_path}
use Rattle.lint_transaction.specs.declared.span_key.SpanKey.TheVariants as by
use Rattle.hazard_find.specs.Earlier.{last_cut}
use Rattle.hazard_find.proofs.earlier.insert_names.Given as goal

-- the last names of the paths so far were put in
abbrev pub invariant-loop-path : goal.invariant-loop-path
invariant-loop-path l = record {
  key : l.set.key ≡ by.Path;
  names : (names : List (List ℕ)) → has_span l.p l.set names
      ≡ (list_any (λ (path : Span). same_path names (last_cut l.p path.last)) (take l.path-index l.paths) || has_span l.p l.fn.set names);
}
