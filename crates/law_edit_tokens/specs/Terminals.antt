-- The terminals of a text in which a run of tokens was exchanged.
use Rattle.std.specs.Prelude.{◌≡◌, ℕ, ◌+◌, ◌-◌, nat_lt, if◌then◌else◌, List, [], ◌∷◌, ◌++◌, map, length}
use Rattle.law_renumber.specs.sql_token.declared.token.Tok.{Tok}
use Rattle.law_renumber.specs.sql_token.declared.terminal.Terminal.{Terminal}
use Rattle.law_renumber.specs.sql_token.Token.{Text, text_of}
use Rattle.law_renumber.specs.sql_token.Terminal.{symbol_of, is_significant, terminals, terminals_from}
use Rattle.law_renumber.specs.Renumber.{renumber}
use Rattle.law_edit_tokens.specs.Exchange.{Made, exchanged, Cut, reread}

-- the terminal of a significant token of number n
abbrev pub term_of : Text → ℕ → Tok → Terminal
term_of t n k = record { symbol = symbol_of k.kind (text_of t k); number = n }

-- the terminals of new tokens, the first of which has the number n
unfoldable pub made_terms : ℕ → List Made → List Terminal
made_terms n [] = []
made_terms n (p ∷ ps) = if is_significant p.0 then record { symbol = symbol_of p.0 p.1; number = n } ∷ made_terms (n + 1) ps else made_terms (n + 1) ps

-- the number of a token after the first n ones, of which there are m now
abbrev pub moved_number : ℕ → ℕ → ℕ → ℕ
moved_number n m x = if nat_lt x n then x else m + (x - n)

-- All terminals before and after the run are the old ones, under other numbers.
abbrev pub TerminalsReread : Type 0
TerminalsReread =
    (t w : Text) (a b : ℕ) (front run new after : List Tok) → Cut t a b front run after →
    terminals (exchanged t a b w) (reread front new b (a + length w) after)
    ≡ map (renumber (moved_number (length front + length run) (length front + length new))) (terminals_from t 0 front)
    ++ (terminals_from (exchanged t a b w) (length front) new
    ++ map (renumber (moved_number (length front + length run) (length front + length new))) (terminals_from t (length front + length run) after))
