use Rattle.std.proofs.Common.{rules}
use Rattle.fix_edit.proofs.examine.is_in_text.Goals as goal

pub returns-then-is_char_boundary : goal.returns-then-is_char_boundary
returns-then-is_char_boundary c = search rules

pub returns-else-is_char_boundary : goal.returns-else-is_char_boundary
returns-else-is_char_boundary c = search rules
