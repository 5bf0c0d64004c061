-- Open brackets as bits.
use Rattle.std.proofs.Common.{◌≡◌, ℕ, zero, suc, ◌/◌, ◌^◌, ◌<◌, ◌≤◌, List, Bool, length, ap, refl, arith, lit<, lit≤, true, false}
use Rattle.std.specs.Int.{from_bool}
use Rattle.std.proofs.Math.Nat.{pow-le-pow_right}
use Rattle.sql_lex.specs.Brackets.{bits_of}

pub length-bits_of : (depth bits : ℕ) → length (bits_of depth bits) ≡ depth
length-bits_of zero bits = refl
length-bits_of (suc depth) bits = ap suc (length-bits_of depth (bits / 2))

-- below 128 brackets one more bit fits
pub bits_fit : (depth bits : ℕ) (stack : List Bool) → bits_of depth bits ≡ stack → (depth ≤ 128) × (bits < 2 ^ depth) → length stack < 128 → bits < 2 ^ 127
bits_fit depth bits stack same valid few =
    let deep : depth ≤ 127 = omega (arith, length-bits_of depth bits, ap length same) in
    omega (arith, valid.1, pow-le-pow_right {n = 2} (lit< tt) {i = depth} {j = 127} deep)

pub ruleset lengths = (length-bits_of)

pub small_bit : (b : Bool) → from_bool b ≤ 1
small_bit true = lit≤ tt
small_bit false = lit≤ tt
