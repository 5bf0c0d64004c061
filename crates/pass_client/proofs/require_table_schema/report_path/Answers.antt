use Rattle.std.proofs.Common.{arith}
use Rattle.pass_client.proofs.require_table_schema.report_path.Goals as goal

pub returns-then-path-clause-ok : goal.returns-then-path-clause-ok
returns-then-path-clause-ok c = grind arith
