use Rattle.std.proofs.Common.{arith}
use Rattle.sql_keyword.proofs.Letters.{is_letter}
use Rattle.sql_keyword.proofs.case.is_letter.Goals as goal

pub returns : goal.returns
returns c = is_letter c.args.byte c.args.capital (omega arith) c.requires
