-- A run of tokens of one statement becomes one word.
use Rattle.std.specs.Prelude.{◌≡◌, ◌<◌, ◌≤◌, ℕ, ◌+◌, ◌-◌, ◌^◌, nat_lt, nat_le, Bool, true, false, not, ◌||◌, if◌then◌else◌, List, [], ◌∷◌, ◌++◌, map, length, take, drop, slice_index, Some}
use Rattle.law_edit_inserts.specs.sql_keyword.declared.words.TheConstants.Keyword as keyword
use Rattle.law_edit_inserts.specs.sql_token.declared.token.TokKind.TheVariants.{Word}
use Rattle.law_edit_inserts.specs.sql_token.declared.terminal.Symbol.{Symbol}
use Rattle.law_edit_inserts.specs.sql_token.declared.terminal.Symbol.TheVariants as s
use Rattle.law_edit_inserts.specs.sql_token.declared.terminal.Terminal.{Terminal}
use Rattle.law_edit_inserts.specs.sql_token.Depth.{statements}
use Rattle.law_edit_inserts.specs.sql_token.Token.{Text, is_word}
use Rattle.law_edit_inserts.specs.sql_token.Terminal.{symbol_of, is_opener, is_name, is_dot, terminals}
use Rattle.law_edit_inserts.specs.sql_tree.declared.nodes.Stmt.{Stmt}
use Rattle.law_edit_inserts.specs.sql_tree.Range.{token_at}
use Rattle.law_edit_inserts.specs.sql_tree.Statement.{Tree, IsTree, statement}
use Rattle.law_edit_inserts.specs.law_renumber.Moved.{stmt_moved}
use Rattle.law_edit_inserts.specs.law_renumber.Renumber.{renumber}
use Rattle.law_edit_inserts.specs.law_edit_tokens.Beside.{ends_with_name, IsLetter}
use Rattle.law_edit_inserts.specs.law_edit_tokens.Exchange.{exchanged, Made, made_text, made_toks, reread, IsPlainWord}
use Rattle.law_edit_inserts.specs.law_edit_cuts.Runs.{is_run_from}

-- ---- one word in place of a run of tokens

-- the number of a token where the tokens n to m are one token
abbrev pub fused : ℕ → ℕ → ℕ → ℕ
fused n m x = if nat_lt x n then x else (if nat_le x m then n else n + (x - m))

-- the word w, as the only new token
abbrev pub word_made : Text → List Made
word_made w = (Word, w) ∷ []

-- the terminal that the word w is, as token n
abbrev pub word_term : Text → ℕ → Terminal
word_term w n = record { symbol = symbol_of Word w; number = n }

-- the text with the word w in place of its tokens n to m
abbrev pub worded_text : Tree → ℕ → ℕ → Text → Text
worded_text tree n m w = exchanged tree.text (token_at tree.toks n).start (token_at tree.toks m).end (made_text (word_made w))

-- its tree, where one statement is `now`, and all others are the old ones under their new numbers
abbrev pub worded_tree : Tree → ℕ → ℕ → Text → List Stmt → Stmt → List Stmt → Tree
worded_tree tree n m w before now after = record {
  text = worded_text tree n m w;
  toks = reread (take n tree.toks) (made_toks (token_at tree.toks n).start (word_made w)) (token_at tree.toks m).end
      ((token_at tree.toks n).start + length (made_text (word_made w))) (drop (m + 1) tree.toks);
  stmts = map (stmt_moved (fused n m)) before ++ now ∷ map (stmt_moved (fused n m)) after;
}

-- ---- the word

-- no key word but TEXT, which names a type too
pub data IsTypeSymbol (x : Symbol) : Type 0 where
  plain : x ≡ s.Word → IsTypeSymbol x
  text : x ≡ s.Keyword keyword.TEXT → IsTypeSymbol x

-- a word that names a type, as `text` and `timestamptz`
pub record IsTypeName (w : Text) : Type 0 where
  pub word : IsPlainWord w
  pub letter : IsLetter (slice_index w 0)
  pub symbol : IsTypeSymbol (symbol_of Word w)

-- No byte of a word is right before token n or right after token m, so that the new word joins no other.
pub record IsApart (tree : Tree) (n m : ℕ) : Type 0 where
  pub before : is_word (slice_index tree.text ((token_at tree.toks n).start - 1)) ≡ false
  pub after : is_word (slice_index (drop (token_at tree.toks m).end tree.text) 0) ≡ false

-- ---- the run

-- the last terminal of a list, which t comes before
abbrev pub last_or : Terminal → List Terminal → Terminal
last_or t [] = t
last_or t (u ∷ us) = last_or u us

-- neither a name, nor a dot, nor an opening bracket
abbrev pub is_unnamed : Terminal → Bool
is_unnamed t = not (is_opener t || is_name t || is_dot t)

-- names and dots, and bracket lists that close in the run, as the terminals of `varchar(10)`
abbrev pub is_type_run : List Terminal → Bool
is_type_run run = is_run_from is_unnamed 0 run

-- ---- what is read with the word

-- a statement with P, read of what comes before and after the run, under their new numbers, and the word between them
pub record ReadsAs (n m : ℕ) (w : Text) (P : Stmt → Type 0) (front tail : List Terminal) : Type 0 where
  pub now : Stmt
  pub has : P now
  pub is : statement (map (renumber (fused n m)) front ++ word_term w n ∷ map (renumber (fused n m)) tail) ≡ Some now

-- A statement in which the tokens n to m may become the word w: it is one with P then.
pub record BecomesWord (n m : ℕ) (w : Text) (P : Stmt → Type 0) (us : List Terminal) : Type 0 where
  pub first : Terminal
  pub front : List Terminal
  pub r : Terminal
  pub run : List Terminal
  pub tail : List Terminal
  pub parts : us ≡ (first ∷ front) ++ ((r ∷ run) ++ tail)
  pub begins : r.number ≡ n
  pub ends : (last_or r run).number ≡ m
  pub closed : is_type_run (r ∷ run) ≡ true
  pub named : ends_with_name (first ∷ front) ≡ true
  pub reads : n ≤ m → ReadsAs n m w P (first ∷ front) tail

-- The terminals of the new text are those of the old one, statement by statement, under their new numbers, and in one statement
-- the word is in the place of the run from token n to token m.
pub record RunReplaced (tree new : Tree) (n m : ℕ) (w : Text) : Type 0 where
  pub earlier : List (List Terminal)
  pub front : List Terminal
  pub r : Terminal
  pub run : List Terminal
  pub tail : List Terminal
  pub later : List (List Terminal)
  pub begins : r.number ≡ n
  pub ends : (last_or r run).number ≡ m
  pub old : statements (terminals tree.text tree.toks) ≡ earlier ++ (front ++ ((r ∷ run) ++ tail)) ∷ later
  pub now : statements (terminals new.text new.toks)
      ≡ map (map (renumber (fused n m))) earlier
      ++ (map (renumber (fused n m)) front ++ word_term w n ∷ map (renumber (fused n m)) tail)
      ∷ map (map (renumber (fused n m))) later

-- The new text has a tree, in which that statement is one with P, and all else is the old tree under its new numbers; and so
-- its terminals are.
pub record Worded (tree : Tree) (n m : ℕ) (w : Text) (before : List Stmt) (P : Stmt → Type 0) (after : List Stmt) : Type 0 where
  pub now : Stmt
  pub has : P now
  pub is : IsTree (worded_tree tree n m w before now after)
  pub terms : RunReplaced tree (worded_tree tree n m w before now after) n m w

-- Where a run of a statement may become a word, the text with that word has such a tree and such terminals.
abbrev pub RunsBecomeWords : Type 1
RunsBecomeWords =
    (tree : Tree) (before : List Stmt) (st : Stmt) (after : List Stmt) (n m : ℕ) (w : Text) (P : Stmt → Type 0) → IsTree tree → tree.stmts ≡ before ++ st ∷ after →
    IsTypeName w → IsApart tree n m → length (worded_text tree n m w) < 2 ^ 32 →
    ((us : List Terminal) → statement us ≡ Some st → BecomesWord n m w P us) → Worded tree n m w before P after

-- Where a run of a statement may become a word, and the statement with the word is known, the text with the word has the tree
-- with that statement, and such terminals.
abbrev pub RunBecomesWord : Type 0
RunBecomesWord =
    (tree : Tree) (before : List Stmt) (st : Stmt) (after : List Stmt) (n m : ℕ) (w : Text) (now : Stmt) → IsTree tree → tree.stmts ≡ before ++ st ∷ after →
    IsTypeName w → IsApart tree n m → length (worded_text tree n m w) < 2 ^ 32 →
    ((us : List Terminal) → statement us ≡ Some st → BecomesWord n m w (λ x. x ≡ now) us) → Worded tree n m w before (λ x. x ≡ now) after
