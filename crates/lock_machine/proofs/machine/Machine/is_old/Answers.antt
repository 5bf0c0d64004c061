use Rattle.std.proofs.Common.{◌∙◌, sym, ap, not, Option}
use Rattle.lint_pass.specs.sql_token.declared.token.Span.{Span}
use Rattle.lock_machine.specs.Works.{is_old}
use Rattle.lock_machine.proofs.machine.Machine.is_old.Goals as goal

pub returns-in-Some : goal.returns-in-Some
returns-in-Some c = λ m kept. ap not (c.is_young.ensures m kept) ∙ sym (ap (λ (o : Option Span). is_old c.args.p.now m o) c.in-Some.is)
