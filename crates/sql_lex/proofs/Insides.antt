-- The terminals of a span of tokens.
use Rattle.std.proofs.Common.{◌≡◌, ℕ, zero, suc, ◌+◌, ◌^◌, ◌<◌, ◌≤◌, List, [], ◌∷◌, length, take, arith}
use Rattle.sql_token.specs.declared.token.Tok.{Tok}
use Rattle.sql_token.specs.declared.token.Span.{Span}
use Rattle.sql_token.specs.Token.{Text, Lexed}
use Rattle.sql_lex.specs.Cursor.{LieIn, IsWalk}
use Rattle.sql_lex.specs.Inside.{IsSpan}
use Rattle.sql_lex.proofs.Walk.{is_walk}

lie_taken : (len : ℕ) (ks : List Tok) (n : ℕ) → LieIn len ks → LieIn len (take n ks)
lie_taken len ks zero p = tt
lie_taken len [] (suc n) p = tt
lie_taken len (k ∷ ks) (suc n) p = (p.0, p.1, lie_taken len ks n p.2)

taken_count : (n : ℕ) (ks : List Tok) → n ≤ length ks → length (take n ks) ≡ n
taken_count zero ks h = omega arith
taken_count (suc n) [] h = absurd (omega arith)
taken_count (suc n) (k ∷ ks) h = omega (arith, taken_count n ks (omega arith))

pub is_walk_inside : (t : Text) (ks : List Tok) (span : Span) → Lexed t ks → length t < 2 ^ 32 → IsSpan ks span → IsWalk (length t) (take (span.last + 1) ks) span.first
is_walk_inside t ks span p short h =
    let walk = is_walk t ks p short in
    let count = taken_count (span.last + 1) ks (omega (arith, h.1)) in
    record {
      lie = lie_taken (length t) ks (span.last + 1) walk.lie;
      within = omega (arith, count, h.0);
      few = omega (arith, count, walk.few, h.1);
    }
