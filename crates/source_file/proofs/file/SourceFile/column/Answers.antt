use Rattle.std.proofs.Common.{rules}
use Rattle.std.proofs.lemmas.Str.{chars_from_encodes}
use Rattle.source_file.proofs.file.SourceFile.column.Goals as goal

pub returns-else-self : goal.returns-else-self
returns-else-self c = search (rules, chars_from_encodes)
