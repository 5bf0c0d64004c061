use Rattle.lint_ignore.proofs.Delimiters.{delimiters_of, read_fits}
use Rattle.lint_ignore.proofs.comment.token_part.Goals as goal

pub invariant_of-result : goal.invariant_of-result
invariant_of-result c = record { fits = read_fits c.args.p.now c.tokens.result.now c.args.i _ c.token_text.result.now c.tokens.ensures.tree c.tokens.ensures.value c.requires c.token_text.ensures }

pub returns-clause-marks : goal.returns-clause-marks
returns-clause-marks c = delimiters_of c.args.p.now c.args.i c.token_text.result.now c.tokens.ensures.tree c.requires c.token_text.utf8 c.token_text.ensures
