-- Open brackets as bits: the bit of value 1 is that of the innermost one, and tells whether it is round.
use Rattle.std.specs.Prelude.{◌≤◌, ◌<◌, ◌^◌, ◌%◌, ◌/◌, ◌==◌, ℕ, zero, suc, Bool, List, [], ◌∷◌}
use Rattle.sql_lex.specs.declared.brackets.Brackets.TheInside.{Inside}

abbrev pub bits_of : ℕ → ℕ → List Bool
bits_of zero bits = []
bits_of (suc depth) bits = (bits % 2 == 1) ∷ bits_of depth (bits / 2)

abbrev pub open_brackets : Inside → List Bool
open_brackets b = bits_of b.depth b.bits

abbrev pub IsValid : Inside → Type 0
IsValid b = (b.depth ≤ 128) × (b.bits < 2 ^ b.depth)
