-- Columns of a text in which each character is one byte.
use Rattle.std.proofs.Common.{◌≡◌, ℕ, ◌+◌, ◌-◌, ◌≤◌, ap, arith, chars, length, length-drop, length-take-le, take}
use Rattle.std.specs.Prelude.{not}
use Rattle.std.specs.Str.{IsAscii}
use Rattle.std.specs.List.{suffix_len}
use Rattle.std.proofs.lemmas.Str.{IsAscii-drop, IsAscii-take, chars-IsAscii}
use Rattle.text_pos.specs.Line.{is_line_feed}
use Rattle.source_file.specs.File.{column}
use Rattle.source_file.specs.Line.{Text, front_of, line_start_of}

pub ascii_column : (text : Text) (at : ℕ) → IsAscii text → at ≤ length text → at - line_start_of text at + 1 ≡ column text at
ascii_column text at ascii within =
    let front = front_of text at in
    let past = length (take at text) - suffix_len (λ x. not (is_line_feed x)) (take at text) in
    let is = IsAscii-drop (take at text) past (IsAscii-take text at ascii) in
    let same : length (chars front) ≡ length front = ap length (chars-IsAscii front is) in
    let long : length front ≤ at = omega (arith, length-drop past (take at text), length-take-le at text within) in
    omega (arith, same, long)
