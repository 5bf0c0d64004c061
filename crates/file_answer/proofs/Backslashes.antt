-- The first token that is a backslash.
use Rattle.std.proofs.Common.{◌≡◌, ◌∙◌, arith, refl, sym, true, ℕ, Some, None, inl, inr, length, get_or, ◌<◌}
use Rattle.std.specs.Prelude.{◌==◌}
use Rattle.std.specs.List.{position}
use Rattle.std.specs.Str.{IsCharBoundary}
use Rattle.std.proofs.lemmas.Bool.{and_parts, cases_lt}
use Rattle.std.proofs.lemmas.Bool.Decides.{nat_tests}
use Rattle.std.proofs.lemmas.List.{get_or_past}
use Rattle.std.proofs.lemmas.List.Quantifiers.{position-Some}
use Rattle.std.proofs.lemmas.Str.{IsCharBoundary-before_ascii}
use Rattle.law_reports.specs.sql_read.sql_token.Token.{Text}
use Rattle.law_reports.specs.sql_read.sql_tree.Statement.{Tree, no_token}
use Rattle.file_answer.specs.Backslash.{first_backslash, is_backslash, is_other, start_of}

same_number : (a b : ℕ) → (a == b) ≡ true → a ≡ b
same_number a b h = grind (arith, nat_tests)

pub first : (tree : Tree) (n : ℕ) → position (is_backslash tree.text) tree.toks ≡ Some n → first_backslash tree ≡ Some (start_of tree n)
unfolding first_backslash
first tree n h = rw h refl

pub none : (tree : Tree) → position (is_backslash tree.text) tree.toks ≡ None → first_backslash tree ≡ None
unfolding first_backslash
none tree h = rw h refl

within : (t : Text) (at : ℕ) → get_or t at 0 ≡ 92 → at < length t
within t at h =
    elim (cases_lt at (length t)) [
      | inl less ↦ less
      | inr past ↦ absurd (omega (arith, sym h ∙ get_or_past t at 0 past))
    ]

pub boundary : (tree : Tree) (n : ℕ) → position (is_backslash tree.text) tree.toks ≡ Some n → IsCharBoundary tree.text (start_of tree n)
boundary tree n h =
    let tok = get_or tree.toks n no_token in
    let found = (position-Some (is_backslash tree.text) tree.toks n no_token h).1 in
    let at = same_number (get_or tree.text tok.start 0) 92 (and_parts (is_other tok.kind) (get_or tree.text tok.start 0 == 92) found).1 in
    IsCharBoundary-before_ascii tree.text tok.start (within tree.text tok.start at) (omega arith)
