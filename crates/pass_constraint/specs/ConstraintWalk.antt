-- What a walk over the statements knows of the constraints that the open transaction added as not valid.
use Rattle.std.specs.Prelude.{◌≡◌, ℕ, Bool, List, [], ◌∷◌}
use Rattle.sql_tree.specs.Statement.{Tree}
use Rattle.lint_pass.specs.lint_transaction.SpanSet.{Spans, has_span}
use Rattle.lint_pass.specs.lint_transaction.Transaction.{is_open}
use Rattle.lint_pass.specs.lint_transaction.declared.span_key.SpanKey.TheVariants as by
use Rattle.pass_constraint.specs.ConstraintMissingNotValid.{is_added}

-- a constraint of this name is in the set
abbrev pub has_name : Tree → Spans → List ℕ → Bool
has_name tree set name = has_span tree set (name ∷ [])

-- what is known is right before statement i
pub record IsWatching (tree : Tree) (assumed : Bool) (i : ℕ) (is_open_here : Bool) (set : Spans) : Type 0 where
  pub open_here : is_open_here ≡ is_open assumed tree i
  pub by_name : set.key ≡ by.LastName
  pub added_here : (name : List ℕ) → has_name tree set name ≡ is_added assumed tree name i
