use Rattle.std.proofs.Common.{◌≡◌, ◌*◌, ◌≤◌, ◌++◌, length, sum_by}
use Rattle.std.specs.Prelude.{encode_utf8_all}
use Rattle.std.specs.Str.Iter.{chars_rest}
use Rattle.source_file.specs.Columns.{columns_of}
use Rattle.source_file.proofs.columns.width.Given as goal

-- the characters so far, and their columns
abbrev pub invariant-loop-character : goal.invariant-loop-character
invariant-loop-character l = record {
  spelled : encode_utf8_all l.yielded ++ chars_rest l.character-iterator ≡ l.piece;
  total : l.total ≡ sum_by columns_of l.yielded;
  few : l.total ≤ 8 * length l.yielded;
}
