use Rattle.std.proofs.Common.{◌≡◌, ◌||◌, ◌++◌, ℕ, List, take}
use Rattle.std.specs.List.{list_any}
use Rattle.lint_pass.specs.lint_transaction.Earlier.{concat_below}
use Rattle.lint_pass.specs.lint_transaction.declared.span_key.SpanKey.TheVariants as by
use Rattle.pass_constraint.specs.ConstraintMissingNotValid.{adds_not_valid, validation_at}
use Rattle.pass_constraint.specs.ConstraintWalk.{has_name}
use Rattle.pass_constraint.proofs.constraint_missing_not_valid.watch_actions.Given as goal

-- the validations so far were reported, and the names so far were put in
abbrev pub invariant-loop-a : goal.invariant-loop-a
invariant-loop-a l = record {
  key : l.names.key ≡ by.LastName;
  names : (name : List ℕ) → has_name l.p l.names name ≡ (has_name l.p l.fn.names name || list_any (adds_not_valid l.p name) (take l.a-index l.actions));
  told : l.out ≡ l.fn.out ++ concat_below (validation_at l.p (has_name l.p l.fn.names) l.actions) l.a-index;
}
