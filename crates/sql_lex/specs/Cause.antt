-- When each answer of the lexer comes.
use Rattle.std.specs.Prelude.{◌≡◌, ℕ, Result, Ok, Err}
use Rattle.sql_token.specs.Token.{Text, OpenAt}
use Rattle.sql_lex.specs.declared.error.LexError.{LexError}
use Rattle.sql_lex.specs.declared.error.LexError.TheVariants.{Unterminated, NoMemory}

-- the answer tells the place where a token never closes, or memory ran out
abbrev pub IsCause : Text → LexError → Type 0
IsCause t (Unterminated at) = OpenAt t at
IsCause t NoMemory = Unit {0}

abbrev pub OkOrNoMemory : {X : Type 0} → Result X LexError → (X → Type 0) → Type 0
OkOrNoMemory (Ok x) P = P x
OkOrNoMemory (Err NoMemory) P = Unit {0}
OkOrNoMemory (Err (Unterminated at)) P = ⊥

abbrev pub IsOpenOrNoMemory : {X : Type 0} → Result X LexError → ℕ → Type 0
IsOpenOrNoMemory (Ok x) at = ⊥
IsOpenOrNoMemory (Err NoMemory) at = Unit {0}
IsOpenOrNoMemory (Err (Unterminated n)) at = n ≡ at
