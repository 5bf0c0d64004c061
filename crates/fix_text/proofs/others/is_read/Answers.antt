use Rattle.std.proofs.Common.{subst}
use Rattle.std.specs.Str.{IsUtf8}
use Rattle.fix_text.proofs.others.is_read.Goals as goal

pub returns : goal.returns
returns c = record { read = c.text-text.ensures.tree; utf8 = subst IsUtf8 c.text-text.ensures.value c.text-text.utf8 }
