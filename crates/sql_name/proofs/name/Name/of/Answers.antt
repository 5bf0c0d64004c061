use Rattle.std.proofs.Common.{arith}
use Rattle.std.proofs.lemmas.Str.{IsCharBoundary-start}
use Rattle.sql_name.specs.Name.{full_name, cut_name}
use Rattle.sql_name.proofs.FullText.{IsUtf8-full_name}
use Rattle.sql_name.proofs.Cuts.{cut_to_longest}
use Rattle.sql_name.proofs.name.Name.of.Goals as goal

pub returns-clause-longest : goal.returns-clause-longest
unfolding cut_name
returns-clause-longest c =
    let full = full_name c.args.text.now in
    cut_to_longest 63 full (IsCharBoundary-start full (IsUtf8-full_name c.args.text.now c.utf8.text))

pub returns-clause-text : goal.returns-clause-text
returns-clause-text c = grind arith
