-- The walk over the statements of a text.
use Rattle.std.specs.Prelude.{◌≡◌, ◌≤◌, ◌<◌, ◌^◌, ℕ, Bool, true, false, List, [], ◌∷◌, length, drop, slice_index_or}
use Rattle.sql_token.specs.declared.token.Tok.{Tok}
use Rattle.sql_token.specs.declared.token.TokKind.TheVariants.{Word}
use Rattle.sql_token.specs.declared.terminal.Terminal.{Terminal}
use Rattle.sql_token.specs.Token.{Text}
use Rattle.sql_token.specs.Terminal.{terminals_from, is_opener, is_closer, is_semicolon, is_significant}
use Rattle.sql_token.specs.Depth.{onto, statements_from}

-- These tokens lie in a text of so many bytes.
abbrev pub LieIn : ℕ → List Tok → Type 0
LieIn len [] = Unit {0}
LieIn len (t ∷ ts) = (t.start ≤ t.end) × (t.end ≤ len) × LieIn len ts

-- A walk over these tokens is at the token with the number n.
pub record IsWalk (len : ℕ) (toks : List Tok) (n : ℕ) : Type 0 where
  pub lie : LieIn len toks
  pub within : n ≤ length toks
  pub few : length toks < 2 ^ 32

-- the statements of a text from the token with the number n on
abbrev pub statements_after : Text → List Tok → ℕ → List (List Terminal)
statements_after t toks n = statements_from 0 0 (terminals_from t n (drop n toks))

-- One step of the walk: the next statement, if there is one, and those after it.
abbrev pub Steps : Bool → List (List Terminal) → List Terminal → List (List Terminal) → Type 0
Steps true old statement new = (old ≡ statement ∷ new) × (0 < length statement)
Steps false old statement new = (old ≡ []) × (statement ≡ []) × (new ≡ [])

-- The same, known by whether the statement is empty.
abbrev pub IsNext : List Terminal → List (List Terminal) → List (List Terminal) → Type 0
IsNext [] old new = (old ≡ []) × (new ≡ [])
IsNext (t ∷ ts) old new = old ≡ (t ∷ ts) ∷ new

-- The statement goes from the token with the number n to before that with the number m; it is empty
-- where there is none.
pub record IsFirst (t : Text) (toks : List Tok) (n : ℕ) (statement : List Terminal) (m : ℕ) : Type 0 where
  pub within : m ≤ length toks
  pub step : IsNext statement (statements_after t toks n) (statements_after t toks m)

-- these terminals before the first of these lists
abbrev pub onto_all : List Terminal → List (List Terminal) → List (List Terminal)
onto_all [] lists = lists
onto_all (t ∷ ts) lists = onto t (onto_all ts lists)

-- From the token with the number n to before that with the number m are there words and white space, and the one with the
-- number m is neither. With their terminals after those before, what is left gives the same statements.
pub record GoesOver (t : Text) (toks : List Tok) (before : List Terminal) (n : ℕ) (after : List Terminal) (m : ℕ) : Type 0 where
  pub begun : n ≤ m
  pub within : m ≤ length toks
  pub same : (o c : ℕ) → onto_all after (statements_from o c (terminals_from t m (drop m toks))) ≡ onto_all before (statements_from o c (terminals_from t n (drop n toks)))
  pub stops : (k : Tok) → m < length toks → (is_significant (slice_index_or toks m k).kind ≡ true) × ((slice_index_or toks m k).kind ≡ Word → ⊥)

-- neither a bracket nor `;`
pub record GoesOn (t : Terminal) : Type 0 where
  pub semicolon : is_semicolon t ≡ false
  pub opener : is_opener t ≡ false
  pub closer : is_closer t ≡ false
