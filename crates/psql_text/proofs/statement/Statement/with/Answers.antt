use Rattle.std.proofs.Common.{◌+◌, false, ◌∙◌}
use Rattle.sql_lex.specs.sql_token.Depth.{one_if}
use Rattle.psql_text.proofs.statement.Statement.with.Goals as goal

pub returns-clause-summary : goal.returns-clause-summary
returns-clause-summary c = λ ms h.
    let opened = c.plus.ensures ∙ (λ i. (h i).opened + one_if (c.is_opener.ensures i)) in
    let closed = c.plus-2.ensures ∙ (λ i. (h i).closed + one_if (c.is_closer.ensures i)) in
    λ i. record {
      is_empty = false;
      begins_copy = c.begins_copy_with.ensures ms h i;
      opened = opened i;
      closed = closed i;
      has_from = c.has_from_with.ensures ms h i;
      ends_in_from = c.ends_in_from_with.ensures ms h i;
      has_from_stdin = c.has_from_stdin_with.ensures ms h i;
      ends_in_begin = c.ends_in_begin_with.ensures ms h i;
      lead = c.lead_with.ensures ms h i;
    }
