use Rattle.std.proofs.Common.{◌∙◌, sym}
use Rattle.pass_name.proofs.ReportLaws.{no_lists}
use Rattle.pass_name.proofs.ban_duplicate_column_assignments.add_reports.Goals as goal

pub returns-then-not-lists_columns-clause-ok : goal.returns-then-not-lists_columns-clause-ok
returns-then-not-lists_columns-clause-ok c =
    no_lists c.args.p.now c.args.s.now c.args.out.now (sym c.lists_columns.ensures ∙ c.if-not-lists_columns.true)
