use Rattle.std.proofs.Common.{sym}
use Rattle.lint_ignore.proofs.Silent.{silent_undisabled}
use Rattle.lint_ignore.proofs.comment.has_disable_assume_in_transaction.Goals as goal

pub returns-then-not-may_begin_body : goal.returns-then-not-may_begin_body
returns-then-not-may_begin_body c = sym (silent_undisabled c.args.p.now.text c.args.p.now.toks (c.may_begin_body.ensures c.if-not-may_begin_body.true))
