-- Places of parts that are no SQL.
use Rattle.std.proofs.Common.{◌≡◌, ℕ, ◌+◌, ◌<◌, ◌≤◌, true, ◌==◌, drop, length, get_or, sym, ap, ◌∙◌, subst, arith, inl, inr}
use Rattle.std.specs.Prelude.{◌&&◌}
use Rattle.std.specs.Str.{IsUtf8, IsCharBoundary}
use Rattle.std.proofs.lemmas.Str.{IsCharBoundary-end, IsCharBoundary-before_ascii, IsCharBoundary-after_ascii}
use Rattle.std.proofs.lemmas.Bool.{and_parts, cases_lt}
use Rattle.std.proofs.lemmas.Bool.Decides.{nat_tests}
use Rattle.sql_lex.specs.sql_token.Token.{Text}
use Rattle.psql_text.specs.Commands.{is_ending, is_quiet}
use Rattle.psql_text.specs.Lines.{begins_command, begins_ending, starts_line, IsLineEnd, IsDataEnd}

same_number : (a b : ℕ) → (a == b) ≡ true → a ≡ b
same_number a b h = grind (arith, nat_tests)

pub is_backslash_at : (t : Text) (i : ℕ) → begins_command t i ≡ true → get_or t i 0 ≡ 92
is_backslash_at t i h =
    let begins = (and_parts (get_or t i 0 == 92 && starts_line t i) (is_quiet (drop (i + 1) t)) h).0 in
    same_number _ _ (and_parts (get_or t i 0 == 92) (starts_line t i) begins).0

pub is_ending_backslash : (t : Text) (i : ℕ) → begins_ending t i ≡ true → get_or t i 0 ≡ 92
is_ending_backslash t i h = same_number _ _ (and_parts (get_or t i 0 == 92) (is_ending (drop (i + 1) t)) h).0

pub command_some : (t : Text) (i e : ℕ) → get_or t i 0 ≡ 92 → i < length t → IsLineEnd t i e → i < e
command_some t i e backslash within line =
    elim (cases_lt i e) [
      | inl less ↦ less
      | inr more ↦
          let same : e ≡ i = omega (arith, line.begun) in
          let feed = same_number (get_or t e 0) 10 (line.stops (omega arith)) in
          let here : get_or t i 0 ≡ 10 = ap (λ (x : ℕ). get_or t x 0) (sym same) ∙ feed in
          absurd (omega arith)
    ]

pub line_whole : (t : Text) (i e : ℕ) → IsUtf8 t → IsLineEnd t i e → IsCharBoundary t e
line_whole t i e utf8 line =
    elim (cases_lt e (length t)) [
      | inl less ↦ let feed = same_number (get_or t e 0) 10 (line.stops less) in IsCharBoundary-before_ascii t e less (omega arith)
      | inr more ↦ let same : length t ≡ e = omega (arith, line.within) in subst (λ (x : ℕ). IsCharBoundary t x) same (IsCharBoundary-end t)
    ]

pub after_feed : (t : Text) (i d : ℕ) → IsUtf8 t → IsLineEnd t i d → d + 1 < length t → IsCharBoundary t (d + 1)
after_feed t i d utf8 line some =
    let feed = same_number (get_or t d 0) 10 (line.stops (omega arith)) in
    IsCharBoundary-after_ascii t d utf8 (omega arith) (omega arith)

pub data_bounds : (t : Text) (d e : ℕ) → IsDataEnd t d e → d + 1 < length t → (d + 1 ≤ e) × (e ≤ length t)
data_bounds t d e ends some =
    elim (cases_lt ends.last (length t)) [
      | inl less ↦ let line = (ends.found less).1 in (omega (arith, ends.begun, line.begun), line.within)
      | inr more ↦ let all = ends.through more in (omega arith, omega arith)
    ]

pub data_whole : (t : Text) (d e : ℕ) → IsUtf8 t → IsDataEnd t d e → IsCharBoundary t e
data_whole t d e utf8 ends =
    elim (cases_lt ends.last (length t)) [
      | inl less ↦ line_whole t (ends.last + 1) e utf8 (ends.found less).1
      | inr more ↦ subst (λ (x : ℕ). IsCharBoundary t x) (sym (ends.through more)) (IsCharBoundary-end t)
    ]
