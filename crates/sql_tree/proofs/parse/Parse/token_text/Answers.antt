use Rattle.std.proofs.Common.{arith}
use Rattle.std.proofs.lemmas.Grind.{common_steps}
use Rattle.sql_tree.proofs.Tokens.{token_of_tree}
use Rattle.sql_tree.proofs.parse.Parse.token_text.Goals as goal

pub range-requires-clause-start_le_end : goal.range-requires-clause-start_le_end
range-requires-clause-start_le_end c =
    (token_of_tree _ _ c.text-text.result.now c.args.i c.index-tok.result.now c.self.invariant c.self.view_is c.text-text.ensures.value c.text-text.utf8 c.requires c.index-tok.ensures).forward

pub range-requires-clause-start_boundary : goal.range-requires-clause-start_boundary
range-requires-clause-start_boundary c some =
    (token_of_tree _ _ c.text-text.result.now c.args.i c.index-tok.result.now c.self.invariant c.self.view_is c.text-text.ensures.value c.text-text.utf8 c.requires c.index-tok.ensures).start

pub range-requires-clause-end_boundary : goal.range-requires-clause-end_boundary
range-requires-clause-end_boundary c =
    (token_of_tree _ _ c.text-text.result.now c.args.i c.index-tok.result.now c.self.invariant c.self.view_is c.text-text.ensures.value c.text-text.utf8 c.requires c.index-tok.ensures).end

pub returns : goal.returns
returns c = grind (arith, common_steps)
