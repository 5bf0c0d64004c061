-- The ranges of a tree are places of its text.
use Rattle.std.proofs.Common.{◌≡◌, ℕ, zero, suc, List, [], ◌∷◌, max, subst, inl, inr, arith}
use Rattle.std.proofs.lemmas.Bool.{cases_lt}
use Rattle.std.proofs.lemmas.Str.{IsCharBoundary-start}
use Rattle.std.specs.Str.{IsCharBoundary}
use Rattle.sql_token.specs.Boundary.{BetweenCharacters}
use Rattle.sql_token.specs.declared.token.Tok.{Tok}
use Rattle.sql_token.specs.Token.{Text}
use Rattle.sql_token.proofs.Boundaries.{keeps_characters}
use Rattle.lint_ignore.specs.sql_tree.Range.{token_at, span_range_of}
use Rattle.lint_ignore.specs.sql_tree.Statement.{Tree}
use Rattle.lint_ignore.specs.Places.{IsPlace}
use Rattle.lint_pass.specs.Laws.{IsRead}

-- a token begins and ends between two characters
token_cut : (t : Text) (toks : List Tok) (n : ℕ) → IsCharBoundary t 0 → BetweenCharacters t toks → IsCharBoundary t (token_at toks n).start × IsCharBoundary t (token_at toks n).end
token_cut t [] n z h = (z, z)
token_cut t (k ∷ toks) zero z h = (h.0, h.1)
token_cut t (k ∷ toks) (suc n) z h = token_cut t toks n z h.2

max_cut : (t : Text) (a b : ℕ) → IsCharBoundary t a → IsCharBoundary t b → IsCharBoundary t (max a b)
max_cut t a b h k =
    elim (cases_lt a b) [
      | inl l ↦ let e : b ≡ max a b = omega arith in subst (λ (n : ℕ). IsCharBoundary t n) e k
      | inr l ↦ let e : a ≡ max a b = omega arith in subst (λ (n : ℕ). IsCharBoundary t n) e h
    ]

-- from one token to another
pub span_place : (tree : Tree) → IsRead tree → (first last : ℕ) → IsPlace tree.text (span_range_of tree.toks first last)
span_place tree h first last =
    let start = IsCharBoundary-start tree.text h.utf8 in
    let between = keeps_characters tree.text tree.toks h.utf8 h.read.lexed in
    let x = token_cut tree.text tree.toks first start between in
    let y = token_cut tree.text tree.toks last start between in
    record {
      ordered = omega arith;
      start = x.0;
      end = max_cut tree.text (token_at tree.toks first).start (token_at tree.toks last).end x.0 y.1;
    }

-- the end of a token, where a text may be inserted
pub end_place : (tree : Tree) → IsRead tree → (n : ℕ) → IsPlace tree.text (record { start = (span_range_of tree.toks n n).end; end = (span_range_of tree.toks n n).end })
end_place tree h n =
    let whole = span_place tree h n n in
    record { ordered = omega arith; start = whole.end; end = whole.end }

-- the start of a token, where a text may be inserted
pub start_place : (tree : Tree) → IsRead tree → (n : ℕ) → IsPlace tree.text (record { start = (span_range_of tree.toks n n).start; end = (span_range_of tree.toks n n).start })
start_place tree h n =
    let whole = span_place tree h n n in
    record { ordered = omega arith; start = whole.start; end = whole.start }
