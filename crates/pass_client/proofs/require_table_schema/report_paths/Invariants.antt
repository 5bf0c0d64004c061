use Rattle.std.proofs.Common.{◌≡◌, ◌++◌, take}
use Rattle.lint_pass.specs.Those.{those}
use Rattle.pass_client.specs.RequireTableSchema as spec
use Rattle.pass_client.specs.RequireTableSchema.{is_bare}
use Rattle.pass_client.proofs.require_table_schema.report_paths.Given as goal

-- what came so far was reported
abbrev pub invariant-loop-path : goal.invariant-loop-path
invariant-loop-path l = l.out ≡ l.fn.out ++ those is_bare (spec.report l.p) (take l.path-index l.paths)
