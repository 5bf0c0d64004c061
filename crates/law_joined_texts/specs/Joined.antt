-- Two texts, one put after the other.
use Rattle.std.specs.Prelude.{◌≡◌, ◌<◌, ◌^◌, ◌+◌, Bool, true, false, List, [], ◌∷◌, ◌++◌, length, map}
use Rattle.law_edit_cuts.specs.sql_token.declared.token.Tok.{Tok}
use Rattle.law_edit_cuts.specs.sql_token.declared.token.TokKind.TheVariants.{Blank}
use Rattle.law_edit_cuts.specs.sql_token.declared.terminal.Terminal.{Terminal}
use Rattle.law_edit_cuts.specs.sql_token.Terminal.{terminals, is_semicolon}
use Rattle.law_edit_cuts.specs.sql_token.Token.{Text, begins_blank}
use Rattle.law_edit_cuts.specs.sql_tree.Statement.{Tree, IsTree, IsValid}
use Rattle.law_edit_cuts.specs.law_renumber.Moved.{stmt_moved}
use Rattle.law_edit_tokens.specs.Exchange.{tok_moved}

-- Both texts, and their tokens and statements: those of the second one have the places and the numbers that come after the
-- first one.
abbrev pub joined : Tree → Tree → Tree
joined a b = record {
  text = a.text ++ b.text;
  toks = a.toks ++ map (tok_moved 0 (length a.text)) b.toks;
  stmts = a.stmts ++ map (stmt_moved (λ n. length a.toks + n)) b.stmts;
}

-- the last terminal is a semicolon
abbrev pub ends_in_semicolon : List Terminal → Bool
ends_in_semicolon [] = false
ends_in_semicolon (t ∷ []) = is_semicolon t
ends_in_semicolon (t ∷ u ∷ ts) = ends_in_semicolon (u ∷ ts)

-- the last token is a Blank
abbrev pub EndsInBlank : List Tok → Type 0
EndsInBlank [] = ⊥
EndsInBlank (k ∷ []) = k.kind ≡ Blank
EndsInBlank (k ∷ l ∷ ks) = EndsInBlank (l ∷ ks)

-- The last statement has its semicolon, and a Blank is after it.
pub record IsFinished (tree : Tree) : Type 0 where
  pub semicolon : ends_in_semicolon (terminals tree.text tree.toks) ≡ true
  pub blank : EndsInBlank tree.toks

-- A finished text, and then one that begins with no Blank: the tree of both is the two trees, joined.
abbrev pub TreesJoin : Type 0
TreesJoin =
    (a b : Tree) → IsTree a → IsFinished a → IsTree b → begins_blank true b.text ≡ false → length (a.text ++ b.text) < 2 ^ 32 →
    IsTree (joined a b)

-- It is finished where the second one is.
abbrev pub FinishedStays : Type 0
FinishedStays = (a b : Tree) → IsTree a → IsTree b → IsFinished b → IsFinished (joined a b)

-- It is valid where both are.
abbrev pub ValidTextsJoin : Type 0
ValidTextsJoin =
    (a : Tree) (t : Text) → IsTree a → IsFinished a → IsValid t → begins_blank true t ≡ false → length (a.text ++ t) < 2 ^ 32 →
    IsValid (a.text ++ t)
