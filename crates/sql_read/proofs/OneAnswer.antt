-- Where the cause of an answer holds, the answer is that one, or memory ran out.
use Rattle.std.proofs.Common.{◌≡◌, ◌∙◌, sym, ap, subst, ◌<◌, ◌^◌, ℕ, length, Result, Ok, Err, IfOk, IfErr, arith}
use Rattle.sql_token.specs.Token.{Text, OpenAt, Lexed}
use Rattle.sql_token.proofs.TokenLaws.{not_both, one_open}
use Rattle.sql_tree.specs.Statement.{Tree, IsSyntaxAt}
use Rattle.sql_tree.proofs.TreeLaws.{one_tree, one_fault}
use Rattle.sql_tree.proofs.TreeLaws as tree
use Rattle.sql_read.specs.declared.error.LintError.{LintError}
use Rattle.sql_read.specs.declared.error.LintError.TheVariants.{TooLong, Unterminated, Syntax, NoMemory}
use Rattle.sql_read.specs.Cause.{IsCause, IsTreeOf, OkOrNoMemory, ErrOrNoMemory}

-- the tree's tokens are those of this text
lexed_as : (t : Text) (a : Tree) → IsTreeOf t a → Lexed t a.toks
lexed_as t a h = subst (λ (x : Text). Lexed x a.toks) h.0 h.1.lexed

short_as : (t : Text) (a : Tree) → IsTreeOf t a → length t < 2 ^ 32
short_as t a h = subst (λ (x : Text). length x < 2 ^ 32) h.0 h.1.short

pub valid_answer : (t : Text) (r : Result Tree LintError) → IfOk r (IsTreeOf t) → IfErr r (IsCause t) → (a : Tree) → IsTreeOf t a → OkOrNoMemory r (λ p. p ≡ a)
valid_answer t (Ok x) ok err a h = one_tree x a (ok.0 ∙ sym h.0) ok.1 h.1
valid_answer t (Err NoMemory) ok err a h = tt
valid_answer t (Err TooLong) ok err a h = let short = short_as t a h in absurd (omega (arith, err, short))
valid_answer t (Err (Unterminated at)) ok err a h = not_both t a.toks at (lexed_as t a h) err.1
valid_answer t (Err (Syntax at)) ok err a h = tree.not_both a t at h.0 h.1 err

pub unterminated_answer : (t : Text) (r : Result Tree LintError) → IfOk r (IsTreeOf t) → IfErr r (IsCause t) → (at : ℕ) → length t < 2 ^ 32 → OpenAt t at → ErrOrNoMemory r (Unterminated at)
unterminated_answer t (Ok x) ok err at short h = not_both t x.toks at (lexed_as t x ok) h
unterminated_answer t (Err NoMemory) ok err at short h = tt
unterminated_answer t (Err TooLong) ok err at short h = absurd (omega (arith, err, short))
unterminated_answer t (Err (Unterminated b)) ok err at short h = ap Unterminated (one_open t b at err.1 h)
unterminated_answer t (Err (Syntax b)) ok err at short h = absurd (not_both t err.toks at err.lexed h)

pub syntax_answer : (t : Text) (r : Result Tree LintError) → IfOk r (IsTreeOf t) → IfErr r (IsCause t) → (at : ℕ) → IsSyntaxAt t at → ErrOrNoMemory r (Syntax at)
syntax_answer t (Ok x) ok err at h = tree.not_both x t at ok.0 ok.1 h
syntax_answer t (Err NoMemory) ok err at h = tt
syntax_answer t (Err TooLong) ok err at h = let short = h.short in absurd (omega (arith, err, short))
syntax_answer t (Err (Unterminated b)) ok err at h = absurd (not_both t h.toks b h.lexed err.1)
syntax_answer t (Err (Syntax b)) ok err at h = ap Syntax (one_fault t b at err h)
