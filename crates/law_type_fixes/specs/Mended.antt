-- The law of the fixes that make a word of a column type.
use Rattle.std.specs.Prelude.{◌≡◌, ◌<◌, ◌≤◌, ℕ, ◌+◌, ◌-◌, ◌^◌, false, List, [], ◌∷◌, drop, length, slice_index, take, All, Some}
use Rattle.pass_data_type.specs.sql_token.declared.token.Tok.{Tok}
use Rattle.pass_data_type.specs.sql_token.Token.{Text, is_word}
use Rattle.pass_data_type.specs.sql_tree.Range.{token_at}
use Rattle.pass_data_type.specs.sql_tree.Statement.{Tree, IsTree}
use Rattle.law_edit_types.specs.law_edit_tokens.Exchange.{made_text, made_toks, reread}
use Rattle.law_edit_types.specs.Runs.{RunReplaced, word_made}
use Rattle.pass_data_type.specs.lint_base.declared.edit.Edit.{Edit}
use Rattle.pass_data_type.specs.lint_base.declared.settings.LinterSettings.{LinterSettings}
use Rattle.pass_data_type.specs.lint_base.declared.violation.Violation.{Violation}
use Rattle.pass_data_type.specs.lint_base.Edits.{replacement}
use Rattle.pass_data_type.specs.lint_base.Fixes.{FixValue}
use Rattle.pass_data_type.specs.lint_base.RuleSets.{Rules}
use Rattle.law_fixes.specs.Edited.{edited}
use Rattle.law_fixes.specs.Mended.{Table, Mended}

-- No byte of a word is right before or right after the range of an edit, so that what is put there joins no other word.
pub record JoinsNone (text : Text) (edit : Edit) : Type 0 where
  pub before : is_word (slice_index text (edit.text_range.start - 1)) ≡ false
  pub after : is_word (slice_index (drop edit.text_range.end text) 0) ≡ false

-- So it is for each edit.
abbrev pub AreApart : Text → List Edit → Type 0
AreApart text edits = All (JoinsNone text) edits

-- the tokens of the text with the word w in the place of its tokens n to m: all others are the old ones, moved
abbrev pub toks_with_run : Tree → ℕ → ℕ → Text → List Tok
toks_with_run tree n m w =
    reread (take n tree.toks) (made_toks (token_at tree.toks n).start (word_made w)) (token_at tree.toks m).end
    ((token_at tree.toks n).start + length (made_text (word_made w))) (drop (m + 1) tree.toks)

-- The one edit puts a word in the place of a run of tokens. The tokens are those of the old text, but that the run is the word, and
-- so the terminals are, statement by statement.
pub record WithRun (tree : Tree) (edits : List Edit) (new : Tree) : Type 0 where
  pub n : ℕ
  pub m : ℕ
  pub w : Text
  pub order : n ≤ m
  pub within : m < length tree.toks
  pub put : edits ≡ replacement (record { start = (token_at tree.toks n).start; end = (token_at tree.toks m).end }) w ∷ []
  pub toks : new.toks ≡ toks_with_run tree n m w
  pub terms : RunReplaced tree new n m w

-- So it is for the fix of this report, if its edits join no word and the edited text has less than 2^32 bytes.
abbrev pub TypeFixMends : Table → Tree → Rules → LinterSettings → Violation → Type 0
TypeFixMends table tree rules settings v =
    (f : FixValue) → v.fix ≡ Some f → AreApart tree.text f.edits → length (edited tree.text f.edits) < 2 ^ 32 →
    Mended table tree rules settings v f.edits (WithRun tree f.edits)

-- So it is for the fix of each report of the table, in each tree, whichever rules are enabled and whatever the settings are.
abbrev pub TypeFixesMend : Table → Type 0
TypeFixesMend table =
    (tree : Tree) (rules : Rules) (settings : LinterSettings) → IsTree tree → All (TypeFixMends table tree rules settings) (table tree rules settings)
