-- The law of the fixes that set a timeout: one statement more, in front of all others, and the rule reports nothing at all.
use Rattle.std.specs.Prelude.{◌≡◌, ◌≢◌, ◌<◌, ℕ, ◌+◌, ◌^◌, true, List, [], ◌∷◌, drop, map, length, take, All, Some}
use Rattle.pass_concurrent.specs.text_pos.Line.{ending_bytes, line_ending_of}
use Rattle.law_edit_inserts.specs.sql_token.declared.token.Tok.{Tok}
use Rattle.law_edit_inserts.specs.sql_token.Depth.{statements}
use Rattle.law_edit_inserts.specs.sql_token.Terminal.{is_significant, terminals}
use Rattle.law_edit_inserts.specs.sql_tree.Range.{token_at}
use Rattle.law_edit_inserts.specs.sql_tree.Statement.{Tree, IsTree}
use Rattle.law_edit_inserts.specs.law_renumber.Renumber.{renumber}
use Rattle.law_edit_inserts.specs.law_edit_tokens.Edits.{all_quiet, set_made}
use Rattle.law_edit_inserts.specs.law_edit_tokens.Exchange.{Made, made_text, made_toks, reread}
use Rattle.law_edit_inserts.specs.SetInFront.{set_terms, room_before}
use Rattle.pass_concurrent.specs.lint_base.declared.edit.Edit.{Edit}
use Rattle.pass_concurrent.specs.lint_base.declared.rule.Rule.{Rule}
use Rattle.pass_concurrent.specs.lint_base.declared.rule.Rule.TheVariants as rule
use Rattle.pass_concurrent.specs.lint_base.Edits.{insertion}
use Rattle.pass_concurrent.specs.lint_base.Fixes.{FixValue}
use Rattle.pass_concurrent.specs.lint_base.RuleSets.{Rules}
use Rattle.pass_session.specs.RequireTimeoutSettings.{lock_timeout, statement_timeout, reports_of_require_timeout_settings}
use Rattle.law_fixes.specs.Edited.{edited}

-- set lock_timeout = '1s'; and a line ending, as the text has them (49 is the digit 1)
abbrev pub lock_set : Tree → List Made
lock_set tree = set_made lock_timeout 49 (ending_bytes (line_ending_of tree.text))

-- set statement_timeout = '5s'; and a line ending (53 is the digit 5)
abbrev pub statement_set : Tree → List Made
statement_set tree = set_made statement_timeout 53 (ending_bytes (line_ending_of tree.text))

-- the Set that the fix of a rule puts into a text
pub data IsSetOf (code : Rule) (tree : Tree) (set : List Made) : Type 0 where
  lock : code ≡ rule.RequireLockTimeout → set ≡ lock_set tree → IsSetOf code tree set
  statement : code ≡ rule.RequireStatementTimeout → set ≡ statement_set tree → IsSetOf code tree set

-- the tokens of the text with a Set right before token n: all others are the old ones, moved
abbrev pub toks_with_set : Tree → ℕ → List Made → List Tok
toks_with_set tree n set =
    reread (take n tree.toks) (made_toks (token_at tree.toks n).start set) (token_at tree.toks n).start
    ((token_at tree.toks n).start + length (made_text set)) (drop n tree.toks)

-- The one edit puts the rule's Set right before the first significant token. The tokens are those of the Set and of the old text,
-- and the statements are the Set and then those of the old text.
pub record WithSet (code : Rule) (tree : Tree) (edits : List Edit) (new : Tree) : Type 0 where
  pub n : ℕ
  pub set : List Made
  pub set_is : IsSetOf code tree set
  pub within : n < length tree.toks
  pub quiet : all_quiet (take n tree.toks) ≡ true
  pub significant : is_significant (token_at tree.toks n).kind ≡ true
  pub put : edits ≡ insertion (made_text set) (token_at tree.toks n).start ∷ []
  pub toks : new.toks ≡ toks_with_set tree n set
  pub terms : statements (terminals new.text new.toks) ≡ set_terms n ∷ map (map (renumber (room_before n))) (statements (terminals tree.text tree.toks))

-- The edited text has a tree with the Set, and none of its reports is of this rule.
pub record SetMended (code : Rule) (tree : Tree) (rules : Rules) (edits : List Edit) : Type 0 where
  pub new : Tree
  pub text : new.text ≡ edited tree.text edits
  pub is : IsTree new
  pub terms : WithSet code tree edits new
  pub silent : All (λ w. w.code ≢ code) (reports_of_require_timeout_settings new rules)

-- So it is for the fix of each report on timeouts.
abbrev pub TimeoutsMend : Type 0
TimeoutsMend =
    (tree : Tree) (rules : Rules) → IsTree tree →
    All (λ v. (f : FixValue) → v.fix ≡ Some f → length (edited tree.text f.edits) < 2 ^ 32 → SetMended v.code tree rules f.edits) (reports_of_require_timeout_settings tree rules)
