use Rattle.std.proofs.Common.{◌+◌, ◌∙◌}
use Rattle.std.specs.Prelude.{◌==◌, ◌&&◌, ◌||◌}
use Rattle.sql_lex.specs.sql_token.Depth.{one_if}
use Rattle.psql_text.specs.Marks.{is_begin, is_case, is_end}
use Rattle.psql_text.proofs.block.Block.with.Goals as goal

pub returns-clause-value : goal.returns-clause-value
returns-clause-value c = λ ms h.
    let m = c.args.mark in
    let begins = c.begins_at.ensures ∙ (λ i. (is_begin m || is_case m) && ((h i).opened == (h i).closed)) in
    let ends = c.is_ended_by.ensures ∙ (λ i. is_end m && ((h i).opened == (h i).closed)) in
    let opened = c.plus.ensures ∙ (λ i. (h i).opened + one_if (c.is_opener.ensures i)) in
    let closed = c.plus-2.ensures ∙ (λ i. (h i).closed + one_if (c.is_closer.ensures i)) in
    let begun = c.plus-3.ensures ∙ (λ i. (h i).begun + one_if (begins i)) in
    let ended = c.plus-4.ensures ∙ (λ i. (h i).ended + one_if (ends i)) in
    λ i. record { opened = opened i; closed = closed i; begun = begun i; ended = ended i }
