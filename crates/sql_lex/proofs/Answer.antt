-- The one answer, from the law that no text has two.
use Rattle.std.proofs.Common.{◌≡◌, ℕ, List, Ok, Err}
use Rattle.std.specs.Prelude.{Result, IfOk, IfErr}
use Rattle.sql_token.specs.declared.token.Tok.{Tok}
use Rattle.sql_token.specs.Token.{Text, Lexed, OpenAt}
use Rattle.sql_token.proofs.TokenLaws.{one_lexed, one_open, not_both}
use Rattle.sql_lex.specs.declared.error.LexError.{LexError}
use Rattle.sql_lex.specs.declared.error.LexError.TheVariants.{Unterminated, NoMemory}
use Rattle.sql_lex.specs.Cause.{IsCause, OkOrNoMemory, IsOpenOrNoMemory}

pub only_lexed : {X : Type 0} (items : X → List Tok) (t : Text) (r : Result X LexError) (ks : List Tok) → IfOk r (λ v. Lexed t (items v)) → IfErr r (λ e. IsCause t e) → Lexed t ks → OkOrNoMemory r (λ v. items v ≡ ks)
only_lexed items t (Ok v) ks ok err p = one_lexed t (items v) ks ok p
only_lexed items t (Err NoMemory) ks ok err p = tt
only_lexed items t (Err (Unterminated at)) ks ok err p = absurd (not_both t ks at p err)

pub only_open : {X : Type 0} (items : X → List Tok) (t : Text) (r : Result X LexError) (at : ℕ) → IfOk r (λ v. Lexed t (items v)) → IfErr r (λ e. IsCause t e) → OpenAt t at → IsOpenOrNoMemory r at
only_open items t (Ok v) at ok err p = absurd (not_both t (items v) at ok p)
only_open items t (Err NoMemory) at ok err p = tt
only_open items t (Err (Unterminated n)) at ok err p = one_open t n at err p
