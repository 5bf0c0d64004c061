use Rattle.std.proofs.Common.{◌∙◌, sym}
use Rattle.check_config.specs.Config.{is_unknown_rule}
use Rattle.check_config.proofs.Finds.{find_here, find_next}
use Rattle.check_config.proofs.rules.unknown_rule.Goals as goal

pub returns-then-is_unknown_rule : goal.returns-then-is_unknown_rule
returns-then-is_unknown_rule c =
    let l = c.loop-i in
    sym (find_here is_unknown_rule c.args.names.now l.i c.get-name.result.now c.get-name.ensures (sym c.is_unknown_rule.ensures ∙ c.if-is_unknown_rule.true)) ∙ l.invariant

pub loop-i-preserved : goal.loop-i-preserved
loop-i-preserved c =
    let l = c.loop-i in
    sym (find_next is_unknown_rule c.args.names.now l.i c.get-name.result.now c.get-name.ensures (sym c.is_unknown_rule.ensures ∙ c.if-is_unknown_rule.false)) ∙ l.invariant
