-- Fixes of one edit are at places of the text.
use Rattle.std.specs.Prelude.{ℕ, List, [], ◌∷◌}
use Rattle.lint_ignore.specs.sql_tree.Range.{span_range_of}
use Rattle.lint_ignore.specs.sql_tree.Statement.{Tree}
use Rattle.lint_base.specs.declared.edit.Edit.{Edit}
use Rattle.lint_base.specs.Edits.{insertion, replacement}
use Rattle.lint_ignore.specs.Places.{IsPlace}
use Rattle.lint_pass.specs.Laws.{AreEdits, IsRead}
use Rattle.lint_pass.specs.PlaceLaws.{end_place, span_place, start_place}
use Rattle.lint_pass.specs.RuleLaws.{one_all}

one_edit : (tree : Tree) (e : Edit) → IsPlace tree.text e.text_range → AreEdits tree.text (e ∷ [])
one_edit tree e place = record { places = one_all (λ (x : Edit). IsPlace tree.text x.text_range) e place; apart = tt }

-- an insertion after a token
pub after_token : (tree : Tree) → IsRead tree → (text : List ℕ) (n : ℕ) → AreEdits tree.text (insertion text (span_range_of tree.toks n n).end ∷ [])
after_token tree read text n = one_edit tree (insertion text (span_range_of tree.toks n n).end) (end_place tree read n)

-- an insertion before a token
pub before_token : (tree : Tree) → IsRead tree → (text : List ℕ) (n : ℕ) → AreEdits tree.text (insertion text (span_range_of tree.toks n n).start ∷ [])
before_token tree read text n = one_edit tree (insertion text (span_range_of tree.toks n n).start) (start_place tree read n)

-- a text in place of tokens
pub over_tokens : (tree : Tree) → IsRead tree → (text : List ℕ) (first last : ℕ) → AreEdits tree.text (replacement (span_range_of tree.toks first last) text ∷ [])
over_tokens tree read text first last = one_edit tree (replacement (span_range_of tree.toks first last) text) (span_place tree read first last)
