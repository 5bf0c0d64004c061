use Rattle.std.proofs.Common.{◌∙◌, sym}
use Rattle.std.specs.Str.{bytes_eq}
use Rattle.lint_transaction.specs.Names.{name_at}
use Rattle.lint_transaction.proofs.NameSearch.{found_in, none_next}
use Rattle.lint_transaction.proofs.name.is_listed.Goals as goal

pub returns-then-is_named : goal.returns-then-is_named
returns-then-is_named c =
    sym (found_in (λ listed. bytes_eq listed (name_at c.args.p.now c.args.number)) c.args.names.now c.loop-i.i c.get.result.now c.get.ensures
    (sym c.is_named.ensures ∙ c.if-is_named.true))

pub loop-i-preserved : goal.loop-i-preserved
loop-i-preserved c =
    none_next (λ listed. bytes_eq listed (name_at c.args.p.now c.args.number)) c.args.names.now c.loop-i.i c.get.result.now c.loop-i.invariant c.get.ensures
    (sym c.is_named.ensures ∙ c.if-is_named.false)
