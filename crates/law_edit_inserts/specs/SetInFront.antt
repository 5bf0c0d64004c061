-- A SET of a parameter before the first significant token of a text: one statement more, and nothing else.
use Rattle.std.specs.Prelude.{◌≡◌, ◌<◌, ℕ, ◌+◌, ◌^◌, ◌==◌, true, false, List, [], ◌∷◌, ◌++◌, map, length, Some}
use Rattle.law_edit_cuts.specs.sql_keyword.declared.words.TheConstants.Keyword as keyword
use Rattle.law_edit_cuts.specs.sql_token.declared.terminal.Symbol.{Symbol}
use Rattle.law_edit_cuts.specs.sql_token.declared.terminal.Symbol.TheVariants as symbol
use Rattle.law_edit_cuts.specs.sql_token.declared.terminal.Terminal.{Terminal}
use Rattle.law_edit_cuts.specs.sql_token.declared.token.Tok.{Tok}
use Rattle.law_edit_cuts.specs.sql_token.declared.token.TokKind.TheVariants.{Word}
use Rattle.law_edit_cuts.specs.sql_token.Depth.{statements}
use Rattle.law_edit_cuts.specs.sql_token.Terminal.{is_significant, symbol_of, terminals}
use Rattle.law_edit_cuts.specs.sql_token.Token.{Text}
use Rattle.law_edit_cuts.specs.sql_tree.declared.kinds.StmtKind.TheVariants as stmt
use Rattle.law_edit_cuts.specs.sql_tree.declared.nodes.Body.TheVariants as body
use Rattle.law_edit_cuts.specs.sql_tree.declared.nodes.Stmt.{Stmt}
use Rattle.law_edit_cuts.specs.sql_tree.Statement.{Tree, IsTree}
use Rattle.law_edit_cuts.specs.law_renumber.Moved.{stmt_moved}
use Rattle.law_edit_cuts.specs.law_renumber.Renumber.{renumber}
use Rattle.law_edit_tokens.specs.Exchange.{IsPlainWord, exchanged, made_text, made_toks, reread}
use Rattle.law_edit_tokens.specs.Edits.{IsEnding, all_quiet, set_made}
use Rattle.law_edit_tokens.specs.Terminals.{moved_number}

-- SET name = 'Ds', from token n on (PostgreSQL manual, SET)
abbrev pub set_stmt : ℕ → Stmt
set_stmt n = record {
  kind = stmt.Set;
  first = n;
  last = n + 7;
  body = body.Setting (Some (record { first = n + 2; last = n + 2 }));
}

-- the terminal of this symbol, as token n
abbrev pub term : Symbol → ℕ → Terminal
term x n = record { symbol = x; number = n }

abbrev pub set_terms : ℕ → List Terminal
set_terms n = term (symbol.Keyword keyword.SET) n ∷ term symbol.Word (n + 2) ∷ term symbol.Equals (n + 4) ∷ term symbol.Str (n + 6) ∷ term symbol.Semicolon (n + 7) ∷ []

-- the number of a token where nine more come before token n
abbrev pub room_before : ℕ → ℕ → ℕ
room_before n = moved_number n (n + 9)

-- the tree with the Set before the first significant token k, which is token n
abbrev pub set_tree : Tree → Text → ℕ → Text → List Tok → Tok → List Tok → Tree
set_tree tree name digit ending front k after = record {
  text = exchanged tree.text k.start k.start (made_text (set_made name digit ending));
  toks = reread front (made_toks k.start (set_made name digit ending)) k.start (k.start + length (made_text (set_made name digit ending))) (k ∷ after);
  stmts = set_stmt (length front) ∷ map (stmt_moved (room_before (length front))) tree.stmts;
}

-- That is its tree, and its terminals are those of the Set, and then those of the text under their new numbers, statement by
-- statement.
pub record SetReads (tree new : Tree) (n : ℕ) : Type 0 where
  pub is : IsTree new
  pub terms : statements (terminals new.text new.toks) ≡ set_terms n ∷ map (map (renumber (room_before n))) (statements (terminals tree.text tree.toks))

-- A text with a Set before its first significant token has such a tree.
abbrev pub SetInFront : Type 0
SetInFront =
    (tree : Tree) (name ending : Text) (digit : ℕ) (front : List Tok) (k : Tok) (after : List Tok) →
    IsTree tree → tree.toks ≡ front ++ k ∷ after → all_quiet front ≡ true → is_significant k.kind ≡ true →
    IsPlainWord name → symbol_of Word name ≡ symbol.Word → (digit == 39) ≡ false → IsEnding ending →
    length (exchanged tree.text k.start k.start (made_text (set_made name digit ending))) < 2 ^ 32 →
    SetReads tree (set_tree tree name digit ending front k after) (length front)
