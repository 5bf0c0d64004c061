-- How long the parts of the printed form are at most.
use Rattle.std.proofs.Common.{ℕ, ◌*◌, ◌<◌, ◌≤◌, ◌^◌, Bool, true, false, List, [], ◌∷◌, length, length-append, decimal, codes, arith, if◌then◌else◌}
use Rattle.std.proofs.lemmas.Fmt.{length-decimal-le}
use Rattle.squawk_print.specs.Escaped.{escaped, escaped_byte, letter_of}
use Rattle.lint_base.specs.PlainBytes.{is_plain}
use Rattle.squawk_print.specs.Written.{last_line}

byte_long : (b : ℕ) (p : Bool) → length (if p then b ∷ [] else 92 ∷ letter_of b ∷ []) ≤ 2
byte_long b true = omega arith
byte_long b false = omega arith

-- each byte takes two at most
pub length_escaped_le : (text : List ℕ) → length (escaped text) ≤ 2 * length text
length_escaped_le [] = omega arith
length_escaped_le (b ∷ bs) = omega (arith, length-append (escaped_byte b) (escaped bs), byte_long b (is_plain b), length_escaped_le bs)

pub length_number_le : (n : ℕ) → n < 2 ^ 32 → length (decimal n) ≤ 10
length_number_le n h = length-decimal-le 10 n (omega arith) (omega arith) (omega arith)

pub length_last_le : (n : ℕ) → n < 2 ^ 64 → length (last_line n) ≤ 33
unfolding last_line
length_last_le n h =
    let digits = length-decimal-le 20 n (omega arith) (omega arith) h in
    omega (arith, length-append (decimal n) (codes "\n"))
